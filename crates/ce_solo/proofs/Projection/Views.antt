-- The grants of a history and their views, for one entry more.
use Rattle.std.proofs.Common.{◌≡◌, ℕ, suc, ◌+◌, ◌-◌, Bool, true, false, not, ◌&&◌, ◌||◌, ◌==◌, List, [], ◌∷◌, ◌++◌, map, filter, Option, Some, None, refl, ap, sym, ◌∙◌, inl, inr, arith, append-nil}
use Rattle.std.specs.Prelude.{take, take_while, is_some}
use Rattle.std.specs.List.{list_any, prefix_len}
use Rattle.std.proofs.lemmas.Bool.{cases_Bool, cases_eq, eq-eqb, ne_eqb, or_parts}
use Rattle.std.proofs.lemmas.List.{map-append}
use Rattle.std.proofs.lemmas.List.Elements.{filter-append}
use Rattle.std.proofs.lemmas.List.Folds.{list_any-append}
use Rattle.ce_model.specs.declared.entry.Entry.{Entry}
use Rattle.ce_model.specs.declared.entry.What.{What}
use Rattle.ce_model.specs.declared.entry.What.TheVariants.{Drain}
use Rattle.ce_model.specs.Node.{Call}
use Rattle.ce_model.specs.Answers.{recorded_call}
use Rattle.ce_model.specs.Renaming.{CubeGrant, entry_inward}
use Rattle.ce_model.specs.Views.{entry_grant, is_drain, trace_behind, grant_or_later, history_behind_grant, view}

-- ---- grants

-- a grant counts one
abbrev one_grant : Option CubeGrant → ℕ
one_grant None = 0
one_grant (Some grant) = 1

-- how many cubes a history grants
abbrev pub granted : List Entry → ℕ
granted [] = 0
granted (entry ∷ behind) = one_grant (entry_grant entry) + granted behind

pub granted-more : (h : List Entry) (entry : Entry) → granted (h ++ entry ∷ []) ≡ granted h + one_grant (entry_grant entry)
granted-more [] entry = omega arith
granted-more (first ∷ h) entry = omega (arith, granted-more h entry)

pub granted-same : (h : List Entry) (entry : Entry) → entry_grant entry ≡ None → granted (h ++ entry ∷ []) ≡ granted h
granted-same h entry none = omega (arith, granted-more h entry, ap one_grant none)

pub granted-one : (h : List Entry) (entry : Entry) (grant : CubeGrant) → entry_grant entry ≡ Some grant → granted (h ++ entry ∷ []) ≡ granted h + 1
granted-one h entry grant some = omega (arith, granted-more h entry, ap one_grant some)

-- a grant that was found, with an entry more behind it
abbrev pub FoundGrant : Type 0
FoundGrant = CubeGrant × List Entry

abbrev with_more : Entry → FoundGrant → FoundGrant
with_more entry found = (found.0, found.1 ++ entry ∷ [])

later_found : (entry : Entry) (grant : Option CubeGrant) (behind : List Entry) (number : ℕ) (found : FoundGrant)
    → ((m : ℕ) → history_behind_grant behind m ≡ Some found → history_behind_grant (behind ++ entry ∷ []) m ≡ Some (with_more entry found))
    → grant_or_later grant behind number (history_behind_grant behind) ≡ Some found
    → grant_or_later grant (behind ++ entry ∷ []) number (history_behind_grant (behind ++ entry ∷ [])) ≡ Some (with_more entry found)
later_found entry None behind number found later e = later number e
later_found entry (Some grant) behind number found later e =
    elim (cases_Bool (number == 0)) [
      | inl first ↦
          let here : Some (grant, behind) ≡ Some found = rw first at e in
          rw first (ap (λ x. elim x [ None ↦ None | Some f ↦ Some (with_more entry f) ]) here)
      | inr other ↦
          let there : history_behind_grant behind (number - 1) ≡ Some found = rw other at e in
          rw other (later (number - 1) there)
    ]

-- a grant stays where it is
pub found-more : (h : List Entry) (entry : Entry) (number : ℕ) (grant : CubeGrant) (behind : List Entry) → history_behind_grant h number ≡ Some (grant, behind)
    → history_behind_grant (h ++ entry ∷ []) number ≡ Some (grant, behind ++ entry ∷ [])
found-more [] entry number grant behind e = absurd (cc)
found-more (first ∷ h) entry number grant behind e =
    later_found entry (entry_grant first) h number (grant, behind) (λ m e. found-more h entry m grant behind e) e

new_first : (entry : Entry) (first : Option CubeGrant) (h : List Entry) (number : ℕ) (found : FoundGrant)
    → history_behind_grant (h ++ entry ∷ []) number ≡ Some found
    → grant_or_later first (h ++ entry ∷ []) (one_grant first + number) (history_behind_grant (h ++ entry ∷ [])) ≡ Some found
new_first entry None h number found e = let same : 0 + number ≡ number = omega arith in rw same e
new_first entry (Some grant) h number found e =
    let other : (1 + number == 0) ≡ false = ne_eqb _ _ (omega arith) in
    let same : 1 + number - 1 ≡ number = omega arith in
    rw (other, same) e

-- a new grant has the next number
pub found-new : (h : List Entry) (entry : Entry) (grant : CubeGrant) → entry_grant entry ≡ Some grant → history_behind_grant (h ++ entry ∷ []) (granted h) ≡ Some (grant, [])
found-new [] entry grant e = rw e refl
found-new (first ∷ h) entry grant e = new_first entry (entry_grant first) h (granted h) (grant, []) (found-new h entry grant e)

-- where a grant of the longer history stands
pub data IsFound (h : List Entry) (entry : Entry) (number : ℕ) (grant : CubeGrant) (behind : List Entry) : Type 0 where
  -- it is of the shorter one
  old : (less : List Entry) → history_behind_grant h number ≡ Some (grant, less) → behind ≡ less ++ entry ∷ [] → IsFound h entry number grant behind
  -- the last entry is the grant
  new : number ≡ granted h → entry_grant entry ≡ Some grant → behind ≡ [] → IsFound h entry number grant behind

found_by : (h : List Entry) (entry : Entry) (number : ℕ) (grant : CubeGrant) (behind : List Entry) (first : Option CubeGrant)
    → ((m : ℕ) → history_behind_grant (h ++ entry ∷ []) m ≡ Some (grant, behind) → IsFound h entry m grant behind)
    → (first' : Entry) → entry_grant first' ≡ first
    → grant_or_later first (h ++ entry ∷ []) number (history_behind_grant (h ++ entry ∷ [])) ≡ Some (grant, behind) → IsFound (first' ∷ h) entry number grant behind
found_by h entry number grant behind None later first' is e =
    elim (later number e) [
      | old less found same ↦ old less (rw is found) same
      | new num some none ↦ new (omega (arith, num, ap one_grant is)) some none
    ]
found_by h entry number grant behind (Some other) later first' is e =
    elim (cases_eq number 0) [
      | inl zero_is ↦
          let first : (number == 0) ≡ true = eq-eqb _ _ zero_is in
          let here : Some (other, h ++ entry ∷ []) ≡ Some (grant, behind) = rw first at e in
          let both : (other, h ++ entry ∷ []) ≡ (grant, behind) = cc in
          old h (rw (is, first) (ap (λ (f : FoundGrant). Some (f.0, h)) both)) (sym (ap (λ (f : FoundGrant). f.1) both))
      | inr differ ↦
          let fails : (number == 0) ≡ false = ne_eqb _ _ differ in
          let there : history_behind_grant (h ++ entry ∷ []) (number - 1) ≡ Some (grant, behind) = rw fails at e in
          elim (later (number - 1) there) [
            | old less found same ↦ old less (rw (is, fails) found) same
            | new num some none ↦ new (omega (arith, num, ap one_grant is, differ)) some none
          ]
    ]

found_last : (entry : Entry) (number : ℕ) (grant : CubeGrant) (behind : List Entry) (given : Option CubeGrant) → entry_grant entry ≡ given
    → grant_or_later given [] number (history_behind_grant []) ≡ Some (grant, behind) → IsFound [] entry number grant behind
found_last entry number grant behind None is e = absurd (cc)
found_last entry number grant behind (Some other) is e =
    elim (cases_eq number 0) [
      | inl zero_is ↦
          let first : (number == 0) ≡ true = eq-eqb _ _ zero_is in
          let here : ◌≡◌ {A = Option FoundGrant} (Some (other, [])) (Some (grant, behind)) = rw first at e in
          let both : ◌≡◌ {A = FoundGrant} (other, []) (grant, behind) = cc in
          new zero_is (is ∙ ap (λ (f : FoundGrant). Some f.0) both) (sym (ap (λ (f : FoundGrant). f.1) both))
      | inr differ ↦
          let fails : (number == 0) ≡ false = ne_eqb _ _ differ in
          let there : ◌≡◌ {A = Option FoundGrant} None (Some (grant, behind)) = rw fails at e in
          absurd (cc)
    ]

pub found-back : (h : List Entry) (entry : Entry) (number : ℕ) (grant : CubeGrant) (behind : List Entry)
    → history_behind_grant (h ++ entry ∷ []) number ≡ Some (grant, behind) → IsFound h entry number grant behind
found-back [] entry number grant behind e = found_last entry number grant behind (entry_grant entry) refl e
found-back (first ∷ h) entry number grant behind e = found_by h entry number grant behind (entry_grant first) (λ m e. found-back h entry m grant behind e) first refl e

-- ---- the trace behind a grant

-- an entry drains the cube of a user
abbrev ends : CubeGrant → Entry → Bool
ends grant entry = entry.user == grant.user && is_drain entry.what

-- the cube of a grant was drained
abbrev pub is_over : CubeGrant → List Entry → Bool
is_over grant behind = list_any (ends grant) behind

-- an entry is one of the cube
abbrev is_own : CubeGrant → Entry → Bool
is_own grant entry = entry.user == grant.user && is_some (recorded_call entry.what)

or_nil : (b c : Bool) → (b || (c || false)) ≡ (b || c)
or_nil true c = refl
or_nil false true = refl
or_nil false false = refl

pub over-more : (grant : CubeGrant) (behind : List Entry) (entry : Entry)
    → is_over grant (behind ++ entry ∷ []) ≡ (is_over grant behind || (entry.user == grant.user && is_drain entry.what))
over-more grant behind entry = list_any-append (ends grant) behind (entry ∷ []) ∙ or_nil (is_over grant behind) (ends grant entry)

module _ {X : Type 0} (q : X → Bool) where
  abbrev before_end : List X → List X
  before_end xs = take_while (λ x. not (q x)) xs

  first_kept : (x : X) (xs : List X) → q x ≡ false → before_end (x ∷ xs) ≡ x ∷ before_end xs
  first_kept x xs fails =
      let more : 1 + prefix_len (λ x. not (q x)) xs ≡ suc (prefix_len (λ x. not (q x)) xs) = omega arith in
      rw fails (ap (λ n. take n (x ∷ xs)) more)

  take_ended : (xs ys : List X) → list_any q xs ≡ true → before_end (xs ++ ys) ≡ before_end xs
  take_ended [] ys any = absurd (cc)
  take_ended (x ∷ xs) ys any =
      elim (cases_Bool (q x)) [
        | inl holds ↦ rw holds refl
        | inr fails ↦
            let rest : list_any q xs ≡ true = rw fails at any in
            first_kept x (xs ++ ys) fails ∙ ap (λ zs. x ∷ zs) (take_ended xs ys rest) ∙ sym (first_kept x xs fails)
      ]

  take_all : (xs ys : List X) → list_any q xs ≡ false → before_end (xs ++ ys) ≡ before_end xs ++ before_end ys
  take_all [] ys none = refl
  take_all (x ∷ xs) ys none =
      let parts = or_parts (q x) (list_any q xs) none in
      first_kept x (xs ++ ys) parts.0 ∙ ap (λ zs. x ∷ zs) (take_all xs ys parts.1) ∙ ap (λ zs. zs ++ before_end ys) (sym (first_kept x xs parts.0))

-- the entries of a cube, as it knows them
abbrev entries_of : CubeGrant → List Entry → List Entry
entries_of grant taken = map (entry_inward grant.sub) (filter (is_own grant) taken)

entries-append : (grant : CubeGrant) (xs ys : List Entry) → entries_of grant (xs ++ ys) ≡ entries_of grant xs ++ entries_of grant ys
entries-append grant xs ys =
    ap (map (entry_inward grant.sub)) (filter-append (is_own grant) xs ys) ∙ map-append (entry_inward grant.sub) (filter (is_own grant) xs) (filter (is_own grant) ys)

-- behind the drain a trace ends
pub trace-over : (grant : CubeGrant) (behind : List Entry) (entry : Entry) → is_over grant behind ≡ true
    → trace_behind grant (behind ++ entry ∷ []) ≡ trace_behind grant behind
trace-over grant behind entry over = ap (entries_of grant) (take_ended (ends grant) behind (entry ∷ []) over)

trace-joined : (grant : CubeGrant) (behind : List Entry) (entry : Entry) → is_over grant behind ≡ false
    → trace_behind grant (behind ++ entry ∷ []) ≡ trace_behind grant behind ++ trace_behind grant (entry ∷ [])
trace-joined grant behind entry goes =
    ap (entries_of grant) (take_all (ends grant) behind (entry ∷ []) goes)
    ∙ entries-append grant (take_while (λ e. not (ends grant e)) behind) (take_while (λ e. not (ends grant e)) (entry ∷ []))

no_trace : (grant : CubeGrant) (entry : Entry) → (entry.user == grant.user && is_some (recorded_call entry.what)) ≡ false → trace_behind grant (entry ∷ []) ≡ []
no_trace grant entry other =
    elim (cases_Bool (ends grant entry)) [ inl holds ↦ rw holds refl | inr fails ↦ rw (fails, other) refl ]

-- an entry that is none of the cube leaves its trace as it is
pub trace-stays : (grant : CubeGrant) (behind : List Entry) (entry : Entry) → (entry.user == grant.user && is_some (recorded_call entry.what)) ≡ false
    → trace_behind grant (behind ++ entry ∷ []) ≡ trace_behind grant behind
trace-stays grant behind entry other =
    elim (cases_Bool (is_over grant behind)) [
      | inl over ↦ trace-over grant behind entry over
      | inr goes ↦
          trace-joined grant behind entry goes ∙ ap (λ more. trace_behind grant behind ++ more) (no_trace grant entry other) ∙ append-nil (trace_behind grant behind)
    ]

pub no_drain : (what : What) (call : Call) → recorded_call what ≡ Some call → is_drain what ≡ false
no_drain Drain call e = absurd (cc)
no_drain other call e = refl

one_trace : (grant : CubeGrant) (entry : Entry) (call : Call) → (entry.user == grant.user) ≡ true → recorded_call entry.what ≡ Some call
    → trace_behind grant (entry ∷ []) ≡ entry_inward grant.sub entry ∷ []
one_trace grant entry call user e =
    let fails : ends grant entry ≡ false = rw (user, no_drain entry.what call e) refl in
    let own : is_own grant entry ≡ true = rw (user, e) refl in
    rw (fails, own) refl

-- one of the cube is the next of its trace
pub trace-grows : (grant : CubeGrant) (behind : List Entry) (entry : Entry) (call : Call) → is_over grant behind ≡ false → (entry.user == grant.user) ≡ true
    → recorded_call entry.what ≡ Some call → trace_behind grant (behind ++ entry ∷ []) ≡ trace_behind grant behind ++ entry_inward grant.sub entry ∷ []
trace-grows grant behind entry call goes user e =
    trace-joined grant behind entry goes ∙ ap (λ more. trace_behind grant behind ++ more) (one_trace grant entry call user e)

pub view-is : (h : List Entry) (number : ℕ) (grant : CubeGrant) (behind : List Entry) → history_behind_grant h number ≡ Some (grant, behind) → view h number ≡ trace_behind grant behind
unfolding view
view-is h number grant behind found = rw found refl

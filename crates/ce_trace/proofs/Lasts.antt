-- The last entries of a history, and those from a user's next entry on.
use Rattle.std.proofs.Common.{◌≡◌, ℕ, suc, ◌+◌, ◌-◌, ◌<◌, ◌≤◌, ◌==◌, true, false, List, [], ◌∷◌, refl, ap, sym, ◌∙◌, arith, drop, get_or, length, length-drop, inl, inr}
use Rattle.std.proofs.lemmas.Bool.{cases_Bool, eqb-true, eqb-false, cases_lt}
use Rattle.std.proofs.lemmas.List.{drop_more, drop-drop, length_push, get_or_push, get_or_append_left}
use Rattle.ce_model.specs.declared.entry.Entry.{Entry}
use Rattle.ce_model.specs.Renaming.{CubeGrant}
use Rattle.ce_model.specs.Views.{trace_behind}
use Rattle.ce_trace.specs.Links.{last_entries, entries_from_own, links_of, IsOwnLink}
use Rattle.ce_trace.proofs.Traces.{trace-other}

-- the last entries behind a first one
pub last_of-cons : (count : ℕ) (entry : Entry) (behind : List Entry) → count ≤ length behind → last_entries count (entry ∷ behind) ≡ last_entries count behind
last_of-cons count entry behind within =
    let one_more : length (entry ∷ behind) - count ≡ suc (length behind - count) = omega arith in
    rw one_more refl

pub length-last_of : (count : ℕ) (history : List Entry) → count ≤ length history → length (last_entries count history) ≡ count
length-last_of count history within = length-drop (length history - count) history ∙ omega arith

pub last_of-all : (history : List Entry) → last_entries (length history) history ≡ history
last_of-all history =
    let none : length history - length history ≡ 0 = omega arith in
    rw none refl

pub last_of-last_of : (count more : ℕ) (history : List Entry) → count ≤ more → more ≤ length history → last_entries count (last_entries more history) ≡ last_entries count history
last_of-last_of count more history fewer within =
    let long : length (last_entries more history) ≡ more = length-last_of more history within in
    let same : length history - more + (more - count) ≡ length history - count = omega arith in
    ap (λ n. drop (n - count) (last_entries more history)) long ∙ drop-drop (more - count) (length history - more) history ∙ ap (λ n. drop n history) same

-- the last entries are the first of them and the last ones without it
pub last_of-more : (count : ℕ) (history : List Entry) (entry : Entry) → 0 < count → count ≤ length history → entry ≡ get_or history (length history - count) entry
    → last_entries count history ≡ entry ∷ last_entries (count - 1) history
last_of-more count history entry some within is =
    let same : length history - count + 1 ≡ length history - (count - 1) = omega arith in
    drop_more history (length history - count) entry (omega arith) ∙ ap (λ e. e ∷ drop (length history - count + 1) history) (sym is)
    ∙ ap (λ n. entry ∷ drop n history) same

-- ---- from a user's next entry on

pub own_from-own : (user : ℕ) (entry : Entry) (behind : List Entry) → (entry.user == user) ≡ true → entries_from_own user (entry ∷ behind) ≡ entry ∷ behind
own_from-own user entry behind own = rw own refl

pub own_from-other : (user : ℕ) (entry : Entry) (behind : List Entry) → (entry.user == user) ≡ false → entries_from_own user (entry ∷ behind) ≡ entries_from_own user behind
own_from-other user entry behind other = rw other refl

pub own_from-within : (user : ℕ) (history : List Entry) → length (entries_from_own user history) ≤ length history
own_from-within user [] = omega arith
own_from-within user (entry ∷ behind) =
    elim (cases_Bool (entry.user == user)) [
      | inl own ↦ rw (own_from-own user entry behind own) (omega arith)
      | inr other ↦ rw (own_from-other user entry behind other) (omega (arith, own_from-within user behind))
    ]

pub own_from-last : (user : ℕ) (history : List Entry) → entries_from_own user history ≡ last_entries (length (entries_from_own user history)) history
own_from-last user [] = refl
own_from-last user (entry ∷ behind) =
    elim (cases_Bool (entry.user == user)) [
      | inl own ↦ rw (own_from-own user entry behind own) (sym (last_of-all (entry ∷ behind)))
      | inr other ↦
          rw (own_from-other user entry behind other)
          (own_from-last user behind ∙ sym (last_of-cons (length (entries_from_own user behind)) entry behind (own_from-within user behind)))
    ]

pub own_from-twice : (user : ℕ) (history : List Entry) → entries_from_own user (entries_from_own user history) ≡ entries_from_own user history
own_from-twice user [] = refl
own_from-twice user (entry ∷ behind) =
    elim (cases_Bool (entry.user == user)) [
      | inl own ↦ rw (own_from-own user entry behind own) (own_from-own user entry behind own)
      | inr other ↦ rw (own_from-other user entry behind other) (own_from-twice user behind)
    ]

-- where the history begins with an entry of the user, that is its first one
pub own_from-begun : (user : ℕ) (entry : Entry) (behind : List Entry) → entries_from_own user (entry ∷ behind) ≡ entry ∷ behind → entry.user ≡ user
own_from-begun user entry behind begun =
    elim (cases_Bool (entry.user == user)) [
      | inl own ↦ eqb-true entry.user user own
      | inr other ↦
          let short = own_from-within user behind in
          let long : length (entries_from_own user behind) ≡ length (entry ∷ behind) = ap length (sym (own_from-other user entry behind other) ∙ begun) in
          absurd (omega arith)
    ]

-- a cube's trace is that from its user's next entry on
pub trace-own : (cube : CubeGrant) (behind : List Entry) → trace_behind cube behind ≡ trace_behind cube (entries_from_own cube.user behind)
trace-own cube [] = refl
trace-own cube (entry ∷ behind) =
    elim (cases_Bool (entry.user == cube.user)) [
      | inl own ↦ rw (own_from-own cube.user entry behind own) refl
      | inr other ↦ rw (own_from-other cube.user entry behind other) (trace-other cube entry behind (eqb-false entry.user cube.user other) ∙ trace-own cube behind)
    ]

-- ---- links

pub length-links_of : (history : List Entry) → length (links_of history) ≡ length history
length-links_of [] = refl
length-links_of (entry ∷ behind) = length_push (links_of behind) (length (entries_from_own entry.user behind)) ∙ (let same = length-links_of behind in omega arith)

-- the link of the entry that so many entries begin with
pub link_at : (history : List Entry) (count d : ℕ) (entry : Entry) → 0 < count → count ≤ length history → last_entries count history ≡ entry ∷ last_entries (count - 1) history
    → get_or (links_of history) (count - 1) d ≡ length (entries_from_own entry.user (last_entries (count - 1) history))
link_at [] count d entry some within begins = absurd (omega arith)
link_at (first ∷ behind) count d entry some within begins =
    let long : length (links_of behind) ≡ length behind = length-links_of behind in
    let piece = length (entries_from_own first.user behind) ∷ [] in
    elim (cases_lt (count - 1) (length behind)) [
      | inl inside ↦
          get_or_append_left (links_of behind) piece d (count - 1) (omega arith)
          ∙ link_at behind count d entry some (omega arith) (sym (last_of-cons count first behind (omega arith)) ∙ begins ∙ ap (λ more. entry ∷ more) (last_of-cons (count - 1) first behind (omega arith)))
          ∙ ap (λ more. length (entries_from_own entry.user more)) (sym (last_of-cons (count - 1) first behind (omega arith)))
      | inr whole ↦
          let all : count - 1 ≡ length behind = omega arith in
          let count_is : count ≡ length (first ∷ behind) = omega arith in
          let rest : last_entries (count - 1) (first ∷ behind) ≡ behind =
          last_of-cons (count - 1) first behind (omega arith) ∙ ap (λ n. last_entries n behind) all ∙ last_of-all behind in
          let same : first ∷ behind ≡ entry ∷ last_entries (count - 1) (first ∷ behind) =
          sym (ap (λ n. last_entries n (first ∷ behind)) count_is ∙ last_of-all (first ∷ behind)) ∙ begins in
          let first_is : first ≡ entry = cc in
          get_or_push (links_of behind) (length (entries_from_own first.user behind)) d (count - 1) (omega arith)
          ∙ ap (λ e. length (entries_from_own e.user behind)) first_is ∙ ap (λ more. length (entries_from_own entry.user more)) (sym rest)
    ]

-- what the entries from the next one of the user on are to those that begin behind an entry of the
-- user
pub record IsNext (cube : CubeGrant) (history : List Entry) (count next : ℕ) : Type 0 where
  pub own : IsOwnLink history cube.user next
  pub fewer : next ≤ count
  pub trace : trace_behind cube (last_entries count history) ≡ trace_behind cube (last_entries next history)

pub next_from : (cube : CubeGrant) (history : List Entry) (count next : ℕ) → count ≤ length history → next ≡ length (entries_from_own cube.user (last_entries count history)) → IsNext cube history count next
next_from cube history count next within is =
    let rest = last_entries count history in
    let long : length rest ≡ count = length-last_of count history within in
    let fewer : next ≤ count = omega (arith, own_from-within cube.user rest) in
    let same : entries_from_own cube.user rest ≡ last_entries next history =
    own_from-last cube.user rest ∙ ap (λ n. last_entries n rest) (sym is) ∙ last_of-last_of next count history fewer within in
    record {
      own = record { within = omega arith; begun = ap (entries_from_own cube.user) (sym same) ∙ own_from-twice cube.user rest ∙ same };
      fewer = fewer;
      trace = trace-own cube rest ∙ ap (trace_behind cube) same;
    }

-- one turn of a walk from an entry of the user to its next one
pub record IsTurnAt (cube : CubeGrant) (history : List Entry) (left : ℕ) (entry : Entry) (next : ℕ) : Type 0 where
  pub begins : last_entries left history ≡ entry ∷ last_entries (left - 1) history
  pub user : entry.user ≡ cube.user
  pub on : IsNext cube history (left - 1) next

next_linked : (cube : CubeGrant) (history : List Entry) (links : List ℕ) (left : ℕ) (entry : Entry) → links ≡ links_of history → 0 < left → left ≤ length history
    → last_entries left history ≡ entry ∷ last_entries (left - 1) history → entry.user ≡ cube.user → IsNext cube history (left - 1) (get_or links (left - 1) 0)
next_linked cube history links left entry linked some within begins user =
    next_from cube history (left - 1) (get_or links (left - 1) 0) (omega arith)
    (ap (λ all. get_or all (left - 1) 0) linked ∙ link_at history left 0 entry some within begins ∙ ap (λ u. length (entries_from_own u (last_entries (left - 1) history))) user)

pub turn_at : (cube : CubeGrant) (history : List Entry) (links : List ℕ) (left : ℕ) (entry : Entry) → links ≡ links_of history → IsOwnLink history cube.user left
    → 0 < left → entry ≡ get_or history (length history - left) entry → IsTurnAt cube history left entry (get_or links (left - 1) 0)
turn_at cube history links left entry linked own some is =
    let begins = last_of-more left history entry some own.within is in
    let user = own_from-begun cube.user entry (last_entries (left - 1) history) (ap (entries_from_own cube.user) (sym begins) ∙ own.begun ∙ begins) in
    record { begins = begins; user = user; on = next_linked cube history links left entry linked some own.within begins user }

-- the same from the place of a grant
pub behind_linked : (cube : CubeGrant) (history : List Entry) (links : List ℕ) (at : ℕ) (entry : Entry) → links ≡ links_of history → at < length history
    → entry ≡ get_or history at entry → entry.user ≡ cube.user → IsNext cube history (length history - at - 1) (get_or links (length history - at - 1) 0)
behind_linked cube history links at entry linked below is user =
    let place : at ≡ length history - (length history - at) = omega arith in
    let begins = last_of-more (length history - at) history entry (omega arith) (omega arith) (is ∙ ap (λ i. get_or history i entry) place) in
    next_linked cube history links (length history - at) entry linked (omega arith) (omega arith) begins user

pub last_of-behind : (history : List Entry) (at : ℕ) → at < length history → last_entries (length history - at - 1) history ≡ drop (at + 1) history
last_of-behind history at below =
    let same : length history - (length history - at - 1) ≡ at + 1 = omega arith in
    ap (λ n. drop n history) same

-- Fronts of lists, what holds of each member of a list, and the entries of one actor among those of
-- others.
use Rattle.std.proofs.Common.{◌≡◌, ◌⊎◌, ℕ, ◌^◌, ◌<◌, Bool, true, false, ◌&&◌, ◌==◌, if◌then◌else◌, IsTrue, List, [], ◌∷◌, ◌++◌, length, map, filter, Some, refl, ap, ap₂, sym, ◌∙◌, inl, inr, arith, append-nil, append_assoc, length-append}
use Rattle.std.specs.Prelude.{is_some}
use Rattle.std.specs.List.{AllByRecursion}
use Rattle.std.proofs.lemmas.Bool.{cases_Bool, cases_lt, both_ways, eq-eqb}
use Rattle.std.proofs.lemmas.List.{append_cancel_left, nil_from_length}
use Rattle.std.proofs.lemmas.List.Elements.{filter-append}
use Rattle.ce_model.specs.declared.topology.TheConstants.{HOST}
use Rattle.ce_model.specs.declared.entry.Entry.{Entry}
use Rattle.ce_model.specs.Lists.{EachAfter, IsFront}
use Rattle.ce_model.specs.Answers.{recorded_call}
use Rattle.ce_model.specs.Subcubes.{relative_number, node_of}
use Rattle.ce_model.specs.Renaming.{CubeGrant, number_outward, entry_inward}
use Rattle.ce_model.specs.Machine.{MachineParts, IsLawfulEntry, IsFitting, Request, getcube, drain, freecube, after, what_of_request}
use Rattle.ce_model.specs.Views.{cube_entries}
use Rattle.ce_lock.specs.declared.who.Who.{Who}
use Rattle.ce_lock.specs.Entries.{is_of, entries_of, IsForeignEntry}
use Rattle.ce_lock.proofs.Histories.{between, own_append, own_none, not_of, of_actor}
use Rattle.ce_machine.specs.Meanings.{whose, is_alone_entry}
use Rattle.ce_machine.specs.Keeping.{alone-answered}
use Rattle.ce_script.specs.Moments.{own_entries, AreCallsOfUser}
use Rattle.ce_script.specs.Rounds.{RoundKind, serial, threaded}
use Rattle.ce_solo.proofs.Lists.{all-append, all-weaker, filter-kept}
use Rattle.ce_solo.proofs.Projection.Numbers.{IsPlaced, IsNumber, out_node, out_test, in_out}
use Rattle.ce_cube.specs.Beside.{actor_entries, AreNotMadeAlone, IsByHostOrNode, IsAllowedAmong, IsMix}

-- ---- fronts

module _ {X : Type 0} where
  pub front-self : (xs : List X) → IsFront xs xs
  front-self xs = ([], append-nil xs)

  pub front-on : (xs ys zs : List X) → IsFront xs ys → IsFront ys zs → IsFront xs zs
  front-on xs ys zs first next = (
    first.0 ++ next.0,
    sym (append_assoc xs first.0 next.0) ∙ ap (λ front. front ++ next.0) first.1 ∙ next.1,
  )

  -- two lists that are fronts of each other are the same
  pub front-same : (xs ys : List X) → IsFront xs ys → IsFront ys xs → xs ≡ ys
  front-same xs ys first next =
      let none : first.0 ≡ [] =
      nil_from_length first.0
      (omega (arith, ap length first.1, length-append xs first.0, ap length next.1, length-append ys next.0)) in
      sym (append-nil xs) ∙ ap (λ rest. xs ++ rest) (sym none) ∙ first.1

  -- of two fronts of a list one is a front of the other
  pub front-either : (xs ys zs : List X) → IsFront xs zs → IsFront ys zs → IsFront xs ys ⊎ IsFront ys xs
  front-either xs ys zs first next =
      elim (cases_lt (length xs) (length ys)) [
        | inl less ↦
            let found = between xs first.0 ys next.0 (first.1 ∙ sym next.1) (omega (arith, less)) in
            inl (found.0, found.1)
        | inr past ↦
            let found = between ys next.0 xs first.0 (next.1 ∙ sym first.1) past in
            inr (found.0, found.1)
      ]

-- ---- the entries of an actor

-- what its entries have become, behind those that were known, is among those behind
pub entries-behind : {E : Type 0} (whose : E → Who) (who : Who) (seen behind known more : List E) → entries_of whose who seen ≡ known
    → entries_of whose who (seen ++ behind) ≡ known ++ more → entries_of whose who behind ≡ more
entries-behind whose who seen behind known more was now =
    append_cancel_left known (entries_of whose who behind) more
    (ap (λ own. own ++ entries_of whose who behind) (sym was) ∙ sym (own_append whose who seen behind) ∙ now)

module _ {X : Type 0} (p q : X → Bool) where
  filter-both : (xs : List X) → filter (λ x. p x && q x) xs ≡ filter q (filter p xs)
  filter-both [] = refl
  filter-both (x ∷ xs) = by_test (p x) (filter (λ x. p x && q x) xs) (filter p xs) (filter-both xs)
    where
      by_test : (first : Bool) (both all : List X) → both ≡ filter q all
          → (if first && q x then x ∷ both else both) ≡ filter q (if first then x ∷ all else all)
      by_test true both all same = ap (λ rest. if q x then x ∷ rest else rest) same
      by_test false both all same = same

-- they are those of the actor among its user's
pub actor-filtered : (user actor : ℕ) (entries : List Entry)
    → actor_entries user actor entries ≡ filter (λ entry. entry.actor == actor) (own_entries user entries)
actor-filtered user actor entries = as_filter entries ∙ filter-both (λ entry. entry.user == user) (λ entry. entry.actor == actor) entries
  where
    as_filter : (entries : List Entry) → actor_entries user actor entries ≡ filter (λ entry. entry.user == user && entry.actor == actor) entries
    as_filter [] = refl
    as_filter (entry ∷ entries) = ap (λ rest. if entry.user == user && entry.actor == actor then entry ∷ rest else rest) (as_filter entries)

-- where a user's entries all are calls of its cube, they are what the cube's trace has of them
pub calls-made : (grant : CubeGrant) (more made : List Entry) → own_entries grant.user more ≡ made → AreCallsOfUser grant.user made
    → cube_entries grant more ≡ map (entry_inward grant.sub) made
calls-made grant more made own calls =
    let is_call = λ (entry : Entry). is_some (recorded_call entry.what) in
    ap (map (entry_inward grant.sub))
    (filter-both (λ (entry : Entry). entry.user == grant.user) is_call more ∙ ap (filter is_call) own
    ∙ filter-kept is_call made (all-weaker (λ (entry : Entry). (entry.user ≡ grant.user) × IsTrue (is_call entry)) (λ entry. is_call entry ≡ true) made (λ entry is. is.1) calls))

-- on one thread nothing stands between a user's entries
pub mix-serial : (user : ℕ) (all_entries made : List Entry) → IsMix serial user all_entries made → all_entries ≡ made
mix-serial user all_entries made mix =
    sym (filter-kept (λ entry. entry.user == user) all_entries
    (all-weaker (λ (entry : Entry). entry.user ≡ user) (λ entry. (entry.user == user) ≡ true) all_entries (λ entry same. eq-eqb _ _ same) mix.each)) ∙ mix.own

-- a user's entries alone are a stretch of either kind
pub mix-own : (kind : RoundKind) (user : ℕ) (made : List Entry) → AllByRecursion (λ (entry : Entry). entry.user ≡ user) made → IsMix kind user made made
mix-own kind user made own = record {
  own = filter-kept (λ (entry : Entry). entry.user == user) made
      (all-weaker (λ (entry : Entry). entry.user ≡ user) (λ (entry : Entry). (entry.user == user) ≡ true) made (λ entry same. eq-eqb _ _ same) own);
  each = among kind own;
}
  where
    among : (kind : RoundKind) → AllByRecursion (λ (entry : Entry). entry.user ≡ user) made → AllByRecursion (IsAllowedAmong kind user) made
    among serial own = own
    among threaded own = all-weaker (λ (entry : Entry). entry.user ≡ user) (IsAllowedAmong threaded user) made (λ entry same. tt) own

pub mix-calls : (kind : RoundKind) (user : ℕ) (made : List Entry) → AreCallsOfUser user made → IsMix kind user made made
mix-calls kind user made calls =
    mix-own kind user made
    (all-weaker (λ (entry : Entry). (entry.user ≡ user) × IsTrue (is_some (recorded_call entry.what))) (λ (entry : Entry). entry.user ≡ user) made
    (λ entry call. call.0) calls)

pub mix-both : (kind : RoundKind) (user : ℕ) (front rest made made' : List Entry) → IsMix kind user front made → IsMix kind user rest made'
    → IsMix kind user (front ++ rest) (made ++ made')
mix-both kind user front rest made made' first next = record {
  own = filter-append (λ (entry : Entry). entry.user == user) front rest ∙ ap₂ (λ xs ys. xs ++ ys) first.own next.own;
  each = all-append (IsAllowedAmong kind user) front rest first.each next.each;
}

-- foreign entries are none of the actor's, and none is one of a call that its user makes alone
pub none-foreign : (who : Who) (missed : List Entry) → AllByRecursion (IsForeignEntry whose is_alone_entry who) missed → entries_of whose who missed ≡ []
none-foreign who missed foreign =
    own_none whose who missed
    (all-weaker (IsForeignEntry whose is_alone_entry who) (λ entry. is_of whose who entry ≡ false) missed (not_of whose is_alone_entry who) foreign)

pub foreign-beside : (who : Who) (missed : List Entry) → AllByRecursion (IsForeignEntry whose is_alone_entry who) missed → AreNotMadeAlone who.family missed
foreign-beside who [] foreign = tt
foreign-beside who (entry ∷ missed) foreign = (beside foreign.0, foreign-beside who missed foreign.1)
  where
    beside : IsForeignEntry whose is_alone_entry who entry → entry.user ≡ who.family → is_alone_entry entry ≡ false
    beside (inl other) same = absurd (other same)
    beside (inr aside) same = aside.1

-- ---- calls that are made alone

-- they are a host's
pub alone-host : (parts : MachineParts) (history : List Entry) (entry : Entry) → IsLawfulEntry parts history entry → is_alone_entry entry ≡ true
    → entry.actor ≡ HOST
alone-host parts history entry is alone = by_request is.request is.fits is.answer
  where
    by_request : (request : Request) → IsFitting parts history entry.user entry.actor request
        → what_of_request parts (after history) entry.user entry.actor request ≡ Some entry.what → entry.actor ≡ HOST
    by_request (getcube dim) fits e = fits.1.0
    by_request drain fits e = fits.1.0
    by_request freecube fits e = fits.1.0
    by_request other fits e =
        absurd (both_ways _ (alone-answered parts (after history) entry.user entry.actor other entry.what e) alone)

-- so where a user's host makes no entry, its user makes none of them
module _ (parts : MachineParts) (user : ℕ) where
  abbrev host : Who
  host = record { family = user; actor = HOST }

  pub nodes-beside : (history more : List Entry) → EachAfter (IsLawfulEntry parts) history more → actor_entries user HOST more ≡ [] → AreNotMadeAlone user more
  nodes-beside history [] each none = tt
  nodes-beside history (entry ∷ more) each none =
      (here, nodes-beside (history ++ entry ∷ []) more each.1 (rest (is_of whose host entry) none))
    where
      rest : (own : Bool) → (if own then entry ∷ actor_entries user HOST more else actor_entries user HOST more) ≡ [] → actor_entries user HOST more ≡ []
      rest true e = absurd (cc)
      rest false e = e

      some : (own : Bool) → own ≡ true → (if own then entry ∷ actor_entries user HOST more else actor_entries user HOST more) ≡ [] → ⊥
      some true is e = cc
      some false is e = cc

      here : entry.user ≡ user → is_alone_entry entry ≡ false
      here same =
          elim (cases_Bool (is_alone_entry entry)) [
            | inl alone ↦
                let own = of_actor whose host entry (λ i. record { family = same i; actor = alone-host parts history entry each.0 alone i }) in
                absurd (some (is_of whose host entry) own none)
            | inr beside ↦ beside
          ]

-- ---- the numbers of a cube

module _ (dim : ℕ) (grant : CubeGrant) (placed : IsPlaced dim grant) where
  -- an entry of the cube is a node's by the machine's numbers where it is by the cube's
  pub same-actor : (entry : Entry) (r : ℕ) → IsByHostOrNode grant entry → r < 2 ^ grant.dim
      → (relative_number grant.sub entry.actor == r) ≡ (entry.actor == node_of grant.sub r)
  same-actor entry r of below = by_actor of
    where
      by_number : (n : ℕ) → IsNumber grant.dim n → entry.actor ≡ number_outward grant.sub n
          → (relative_number grant.sub entry.actor == r) ≡ (entry.actor == node_of grant.sub r)
      by_number n is at =
          ap (λ m. m == r) (ap (relative_number grant.sub) at ∙ in_out dim grant placed n is) ∙ sym (out_test dim grant placed n r is (inl below))
          ∙ ap (λ m. number_outward grant.sub n == m) (out_node dim grant placed r below) ∙ ap (λ m. m == node_of grant.sub r) (sym at)

      by_actor : IsByHostOrNode grant entry → (relative_number grant.sub entry.actor == r) ≡ (entry.actor == node_of grant.sub r)
      by_actor (inl host) = by_number HOST (inr refl) host
      by_actor (inr node) = by_number node.0 (inl node.1) (node.2 ∙ sym (out_node dim grant placed node.0 node.1))

  -- so its entries among the cube's are the same
  pub share-inward : (entries : List Entry) (r : ℕ) → AllByRecursion (IsByHostOrNode grant) entries → r < 2 ^ grant.dim
      → filter (λ entry. entry.actor == r) (map (entry_inward grant.sub) entries)
      ≡ map (entry_inward grant.sub) (filter (λ entry. entry.actor == node_of grant.sub r) entries)
  share-inward [] r all below = refl
  share-inward (entry ∷ entries) r all below =
      let inner = filter (λ (entry : Entry). entry.actor == r) (map (entry_inward grant.sub) entries) in
      ap (λ own. if own then entry_inward grant.sub entry ∷ inner else inner) (same-actor entry r all.0 below)
      ∙ by_test (entry.actor == node_of grant.sub r) inner (filter (λ (entry : Entry). entry.actor == node_of grant.sub r) entries)
      (share-inward entries r all.1 below)
    where
      by_test : (own : Bool) (inner rest : List Entry) → inner ≡ map (entry_inward grant.sub) rest
          → (if own then entry_inward grant.sub entry ∷ inner else inner) ≡ map (entry_inward grant.sub) (if own then entry ∷ rest else rest)
      by_test true inner rest same = ap (λ inner. entry_inward grant.sub entry ∷ inner) same
      by_test false inner rest same = same

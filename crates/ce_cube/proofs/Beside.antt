-- What entries of others, and calls of a cube itself, leave of a cube that is held.
use Rattle.std.proofs.Common.{◌≡◌, ◌⊎◌, ℕ, ◌^◌, ◌<◌, true, false, ◌&&◌, ◌==◌, if◌then◌else◌, IsTrue, List, [], ◌∷◌, ◌++◌, map, filter, Some, refl, ap, sym, ◌∙◌, subst, inl, inr, append-nil, append_assoc}
use Rattle.std.specs.Prelude.{is_some}
use Rattle.std.proofs.lemmas.Bool.{cases_Bool, both_ways, eq-eqb, eqb-true, ne_eqb, and_from}
use Rattle.std.proofs.lemmas.List.{map-append}
use Rattle.std.proofs.lemmas.List.Elements.{filter-append}
use Rattle.ce_model.specs.declared.topology.TheConstants.{HOST}
use Rattle.ce_model.specs.declared.entry.Entry.{Entry}
use Rattle.ce_model.specs.declared.entry.What.TheVariants.{Peek}
use Rattle.ce_model.specs.Lists.{EachAfter}
use Rattle.ce_model.specs.Node.{Call}
use Rattle.ce_model.specs.Answers.{recorded_call}
use Rattle.ce_model.specs.Subcubes.{extract, node_of, is_inside}
use Rattle.ce_model.specs.Renaming.{CubeGrant, entry_inward}
use Rattle.ce_model.specs.Views.{view, cube_entries}
use Rattle.ce_model.specs.Machine.{MachineParts, IsMachine, HeldCube, IsLawful, IsLawfulEntry, IsFitting, Request, peek, cube_request, what_of_request, after, cube_held_by}
use Rattle.ce_model.proofs.Subcubes.{node_of-extract}
use Rattle.ce_model.proofs.Walked.{each_behind, each-more}
use Rattle.ce_lock.proofs.Histories.{of_actor, own_append}
use Rattle.ce_machine.specs.Meanings.{whose, is_alone_entry}
use Rattle.ce_machine.specs.Keeping.{alone-answered}
use Rattle.ce_solo.proofs.Lists.{all-append}
use Rattle.ce_solo.proofs.Projection.Numbers.{inside_below}
use Rattle.ce_solo.proofs.Projection.Kinds.{and_false}
use Rattle.ce_cube.specs.Boxes.{IsHeldAs, trace_node, trace_store, IsCubeCallEntry, IsNextCubeEntry, IsAside}
use Rattle.ce_cube.specs.Beside.{actor_entries, AreNotMadeAlone, IsByHostOrNode, AreEntriesBeside}
use Rattle.ce_cube.specs.Laws.{BesideKeeps}
use Rattle.ce_cube.proofs.Held.{seen, by_cube}
use Rattle.ce_cube.proofs.Adds.{call-of, is-called, one-more, others-keep}

-- ---- none, and some behind others

nil-parts : {X : Type 0} (xs ys : List X) → xs ++ ys ≡ [] → (xs ≡ []) × (ys ≡ [])
nil-parts [] ys e = (refl, e)
nil-parts (x ∷ xs) ys e = absurd (cc)

calls-append : (grant : CubeGrant) (xs ys : List Entry) → cube_entries grant (xs ++ ys) ≡ cube_entries grant xs ++ cube_entries grant ys
calls-append grant xs ys =
    let is_call = λ (entry : Entry). entry.user == grant.user && is_some (recorded_call entry.what) in
    ap (map (entry_inward grant.sub)) (filter-append is_call xs ys)
    ∙ map-append (entry_inward grant.sub) (filter is_call xs) (filter is_call ys)

module _ (parts : MachineParts) (history : List Entry) (number : ℕ) (grant : CubeGrant) where
  none-beside : IsHeldAs history number grant → AreEntriesBeside parts history number grant []
  none-beside held =
      let same = append-nil history in
      record {
        held = subst (λ h. IsHeldAs h number grant) (sym same) held;
        trace = ap (λ h. view h number) same ∙ sym (append-nil (view history number));
        nodes = λ r below none. ap (λ h. trace_node parts h number grant r) same;
        store = λ none. ap (λ h. trace_store parts h number grant) same;
        actors = tt;
      }

  none-of : (front rest : List Entry) (actor : ℕ) → actor_entries grant.user actor (front ++ rest) ≡ []
      → (actor_entries grant.user actor front ≡ []) × (actor_entries grant.user actor rest ≡ [])
  none-of front rest actor none =
      nil-parts (actor_entries grant.user actor front) (actor_entries grant.user actor rest)
      (sym (own_append whose (record { family = grant.user; actor = actor }) front rest) ∙ none)

  pub both-beside : (front rest : List Entry) → AreEntriesBeside parts history number grant front
      → AreEntriesBeside parts (history ++ front) number grant rest → AreEntriesBeside parts history number grant (front ++ rest)
  both-beside front rest first next =
      let same = append_assoc history front rest in
      record {
        held = subst (λ h. IsHeldAs h number grant) same next.held;
        trace = ap (λ h. view h number) (sym same) ∙ next.trace ∙ ap (λ t. t ++ cube_entries grant rest) first.trace
            ∙ append_assoc (view history number) (cube_entries grant front) (cube_entries grant rest)
            ∙ ap (λ calls. view history number ++ calls) (sym (calls-append grant front rest));
        nodes = λ r below none.
            let parts_none = none-of front rest (node_of grant.sub r) none in
            ap (λ h. trace_node parts h number grant r) (sym same) ∙ next.nodes r below parts_none.1 ∙ first.nodes r below parts_none.0;
        store = λ none.
            let parts_none = none-of front rest HOST none in
            ap (λ h. trace_store parts h number grant) (sym same) ∙ next.store parts_none.1 ∙ first.store parts_none.0;
        actors = all-append (λ (entry : Entry). entry.user ≡ grant.user → IsByHostOrNode grant entry) front rest first.actors next.actors;
      }

-- ---- one entry

-- an actor that made the one entry has some
some-of : (user actor : ℕ) (entry : Entry) → entry.user ≡ user → entry.actor ≡ actor → actor_entries user actor (entry ∷ []) ≡ [] → ⊥
some-of user actor entry user_is actor_is none =
    let own : actor_entries user actor (entry ∷ []) ≡ entry ∷ [] =
    ap (λ b. if b then entry ∷ [] else [])
    (of_actor whose (record { family = user; actor = actor }) entry (λ i. record { family = user_is i; actor = actor_is i })) in
    absurd (cc)

module _ (parts : MachineParts) (history : List Entry) (machine : IsMachine parts) (lawful : IsLawful parts history) (cube : HeldCube)
    (holds : cube_held_by (after history) cube.grant.user ≡ Some cube) (goes : cube.is_drained ≡ false) (entry : Entry) (is : IsLawfulEntry parts history entry) where
  abbrev IsKept : Type 0
  IsKept = AreEntriesBeside parts history cube.number cube.grant (entry ∷ [])

  -- it is none of the cube's calls
  none-kept : IsAside parts history cube.number cube.grant entry → (entry.user == cube.grant.user && is_some (recorded_call entry.what)) ≡ false
      → (entry.user ≡ cube.grant.user → IsByHostOrNode cube.grant entry) → IsKept
  none-kept aside none actor = record {
    held = aside.held;
    trace = aside.trace ∙ sym (append-nil (view history cube.number))
        ∙ ap (λ b. view history cube.number ++ map (entry_inward cube.grant.sub) (if b then entry ∷ [] else [])) (sym none);
    nodes = λ r below none. aside.nodes r;
    store = λ none. aside.store;
    actors = (actor, tt);
  }

  held-now : IsHeldAs history cube.number cube.grant
  held-now = record { cube = cube; held = holds; number_is = refl; grant_is = refl; goes_on = goes }

  kept-aside : ((entry.user == cube.grant.user) ≡ false) ⊎ (entry.what ≡ Peek) → IsAside parts history cube.number cube.grant entry
  kept-aside = others-keep parts history cube.number cube.grant machine lawful held-now entry is

  module _ (own : entry.user ≡ cube.grant.user) (call : Call) (fits : IsFitting parts history cube.grant.user entry.actor (cube_request call))
      (made : IsCubeCallEntry parts history cube.grant entry.actor call entry) where
    abbrev more : IsNextCubeEntry parts history cube.number cube.grant entry
    more = one-more parts history cube (seen parts history cube machine lawful holds goes) entry.actor call entry fits made

    called : is_some (recorded_call entry.what) ≡ true
    called = is-called parts history cube (seen parts history cube machine lawful holds goes) entry.actor call entry fits made

    -- the node that made it
    record IsNodes : Type 0 where
      q : ℕ
      below : q < 2 ^ cube.grant.dim
      actor : entry.actor ≡ node_of cube.grant.sub q

    who : (entry.actor ≡ HOST) ⊎ IsNodes
    who = by_actor (call-of parts history cube (seen parts history cube machine lawful holds goes) entry.actor call entry fits made).inside
      where
        by_actor : IsTrue (entry.actor == HOST) ⊎ IsTrue (is_inside cube.grant.sub entry.actor) → (entry.actor ≡ HOST) ⊎ IsNodes
        by_actor (inl host) = inl (eqb-true _ _ host)
        by_actor (inr inside) = inr (record {
          q = extract entry.actor cube.grant.sub.mask;
          below = inside_below parts.dim cube.grant (seen parts history cube machine lawful holds goes).placed entry.actor inside;
          actor = sym (node_of-extract cube.grant.sub entry.actor inside);
        })

    own-nodes : (entry.actor ≡ HOST) ⊎ IsNodes → (r : ℕ) → r < 2 ^ cube.grant.dim → actor_entries cube.grant.user (node_of cube.grant.sub r) (entry ∷ []) ≡ []
        → trace_node parts (history ++ entry ∷ []) cube.number cube.grant r ≡ trace_node parts history cube.number cube.grant r
    own-nodes (inl host) r below none = more.all host r below
    own-nodes (inr node) r below none =
        more.others node.q r node.below node.actor
        (ne_eqb _ _ (λ same. some-of cube.grant.user (node_of cube.grant.sub r) entry own (node.actor ∙ ap (node_of cube.grant.sub) same) none))

    own-actor : (entry.actor ≡ HOST) ⊎ IsNodes → IsByHostOrNode cube.grant entry
    own-actor (inl host) = inl host
    own-actor (inr node) = inr (node.q, node.below, node.actor, called)

    call-kept : IsKept
    call-kept = record {
      held = more.held;
      trace = more.trace
          ∙ ap (λ b. view history cube.number ++ map (entry_inward cube.grant.sub) (if b then entry ∷ [] else []))
          (sym (and_from (entry.user == cube.grant.user) (is_some (recorded_call entry.what)) (eq-eqb _ _ own) called));
      nodes = own-nodes who;
      store = λ none. more.store (ne_eqb _ _ (λ host. some-of cube.grant.user HOST entry own host none));
      actors = (λ same. own-actor who, tt);
    }

  own-kept : entry.user ≡ cube.grant.user → is_alone_entry entry ≡ false → (request : Request) → IsFitting parts history entry.user entry.actor request
      → what_of_request parts (after history) entry.user entry.actor request ≡ Some entry.what → IsKept
  own-kept own beside peek fits e =
      let peeks : entry.what ≡ Peek = cc in
      none-kept (kept-aside (inr peeks)) (and_false _ _ (ap (λ what. is_some (recorded_call what)) peeks)) (λ same. inl fits.1)
  own-kept own beside (cube_request call) fits e =
      call-kept own call (subst (λ user. IsFitting parts history user entry.actor (cube_request call)) own fits)
      (record { user = own; actor_is = refl; what = subst (λ user. what_of_request parts (after history) user entry.actor (cube_request call) ≡ Some entry.what) own e })
  own-kept own beside alone fits e =
      absurd (both_ways _ beside (alone-answered parts (after history) entry.user entry.actor alone entry.what e))

  one-kept : (entry.user ≡ cube.grant.user → is_alone_entry entry ≡ false) → IsKept
  one-kept beside =
      elim (cases_Bool (entry.user == cube.grant.user)) [
        | inl own ↦ let same = eqb-true _ _ own in own-kept same (beside same) is.request is.fits is.answer
        | inr other ↦
            none-kept (kept-aside (inl other)) (ap (λ b. b && is_some (recorded_call entry.what)) other) (λ same. absurd (both_ways _ other (eq-eqb _ _ same)))
      ]

-- ---- entry by entry

module _ (parts : MachineParts) (machine : IsMachine parts) (number : ℕ) (grant : CubeGrant) where
  one-beside : (history : List Entry) (entry : Entry) → IsLawful parts history → IsHeldAs history number grant → IsLawfulEntry parts history entry
      → (entry.user ≡ grant.user → is_alone_entry entry ≡ false) → AreEntriesBeside parts history number grant (entry ∷ [])
  one-beside history entry lawful held is beside =
      by_cube (λ number grant. (entry.user ≡ grant.user → is_alone_entry entry ≡ false) → AreEntriesBeside parts history number grant (entry ∷ [])) history number grant
      (λ cube holds goes. one-kept parts history machine lawful cube holds goes entry is) held beside

  each-beside : (history more : List Entry) → IsLawful parts history → IsHeldAs history number grant → EachAfter (IsLawfulEntry parts) history more
      → AreNotMadeAlone grant.user more → AreEntriesBeside parts history number grant more
  each-beside history [] lawful held each beside = none-beside parts history number grant held
  each-beside history (entry ∷ more) lawful held each beside =
      let one = one-beside history entry lawful held each.0 beside.0 in
      both-beside parts history number grant (entry ∷ []) more one
      (each-beside (history ++ entry ∷ []) more (each-more (IsLawfulEntry parts) history entry lawful each.0) one.held each.1 beside.1)

pub beside-keeps : BesideKeeps
beside-keeps parts history number grant machine lawful held more lawful' beside =
    each-beside parts machine number grant history more lawful held (each_behind (IsLawfulEntry parts) [] history more lawful') beside

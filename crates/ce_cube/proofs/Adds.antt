-- A call of a cube that fits makes the next entry of the cube's trace, and changes no other node of
-- it.
use Rattle.std.proofs.Common.{◌≡◌, ◌⊎◌, ℕ, ◌&&◌, inl, inr, ◌^◌, ◌<◌, true, false, ◌==◌, IsSomeAnd, List, [], ◌∷◌, ◌++◌, Some, None, option_map, refl, ap, sym, ◌∙◌, subst}
use Rattle.std.specs.Prelude.{is_some}
use Rattle.std.proofs.lemmas.Bool.{both_ways, eq-eqb, ne_eqb}
use Rattle.ce_model.specs.declared.topology.TheConstants.{HOST}
use Rattle.ce_model.specs.declared.entry.Entry.{Entry}
use Rattle.ce_model.specs.declared.entry.What.{What}
use Rattle.ce_model.specs.declared.entry.What.TheVariants.{Peek}
use Rattle.ce_model.specs.Node.{Call}
use Rattle.ce_model.specs.Answers.{answer, recorded_call}
use Rattle.ce_model.specs.Cube.{Cube, CubeState, opening, state, hoststore}
use Rattle.ce_model.specs.Subcubes.{relative_number, node_of}
use Rattle.ce_model.specs.Renaming.{number_outward, entry_inward}
use Rattle.ce_model.specs.Views.{trace_behind, view}
use Rattle.ce_model.specs.Machine.{MachineParts, HeldCube, IsLawfulEntry, IsFitting, IsCallOf, cube_request, what_of_request, after, cube_held_by, cube_after_entry, with_cube, record_after_entry, state_after_entry, state_after_call, nodes_of, cube_standing, with_places_outward, cube_of}
use Rattle.ce_model.proofs.Walked.{each-more}
use Rattle.ce_model.proofs.OneMore.{state-more, hoststore-more}
use Rattle.ce_solo.proofs.Projection.Views.{found-more, trace-grows, trace-stays, view-is}
use Rattle.ce_solo.proofs.Projection.Held.{held-own}
use Rattle.ce_solo.proofs.Projection.Numbers.{relative_out, relative_host, node_no_host}
use Rattle.ce_solo.proofs.Projection.Invariant.{other_way}
use Rattle.ce_solo.proofs.Projection.Own.{IsOwnEntry, actor_back}
use Rattle.ce_solo.proofs.Projection.Law.{projected, after-more, own-called, lawful-entry}
use Rattle.ce_solo.proofs.Projection.Kinds.{and_false}
use Rattle.ce_cube.specs.Boxes.{trace_node, IsCubeCallEntry, IsNextCubeEntry, IsAside}
use Rattle.ce_cube.specs.Laws.{CallsAdd, OthersKeep}
use Rattle.ce_cube.proofs.Held.{IsSeen, by_seen}

-- the entry of a call that fits is lawful
lawful_entry : (parts : MachineParts) (history : List Entry) (user actor : ℕ) (call : Call) (entry : Entry) → IsFitting parts history user actor (cube_request call)
    → entry.user ≡ user → entry.actor ≡ actor → what_of_request parts (after history) user actor (cube_request call) ≡ Some entry.what → IsLawfulEntry parts history entry
lawful_entry parts history user actor call entry fits user_is actor_is what = record {
  request = cube_request call;
  fits = subst (λ u. IsFitting parts history u entry.actor (cube_request call)) (sym user_is) (subst (λ a. IsFitting parts history user a (cube_request call)) (sym actor_is) fits);
  answer = subst (λ u. what_of_request parts (after history) u entry.actor (cube_request call) ≡ Some entry.what) (sym user_is)
      (subst (λ a. what_of_request parts (after history) user a (cube_request call) ≡ Some entry.what) (sym actor_is) what);
}

-- the entry has the call's answer in the cube that is held
pub answer-made : (parts : MachineParts) (history : List Entry) (cube : HeldCube) (actor : ℕ) (call : Call) (entry : Entry) → cube_held_by (after history) cube.grant.user ≡ Some cube
    → IsCubeCallEntry parts history cube.grant actor call entry
    → answer (nodes_of cube.grant) (cube_standing (after history) cube) actor (with_places_outward cube.grant call) ≡ entry.what
answer-made parts history cube actor call entry holds made =
    some_what _ _ (ap (option_map (λ (one : HeldCube). answer (nodes_of one.grant) (cube_standing (after history) one) actor (with_places_outward one.grant call))) (sym holds) ∙ made.what)
  where
    some_what : (x y : What) → Some x ≡ Some y → x ≡ y
    some_what x y e = ap (λ o. elim o [ None ↦ x | Some z ↦ z ]) e

-- a node's entry leaves the host's store
store-other : (o : CubeState) (t : List Entry) (entry : Entry) → (entry.actor == HOST) ≡ false → hoststore o (t ++ entry ∷ []) ≡ hoststore o t
store-other o t entry other = rw other at (hoststore-more o t entry)

-- another's entry leaves a node as it was
pub state-other : (cube : Cube) (r : ℕ) (t : List Entry) (entry : Entry) → (entry.actor == r) ≡ false → state cube (opening cube) r (t ++ entry ∷ []) ≡ state cube (opening cube) r t
state-other cube r t entry other = rw other at (state-more cube (opening cube) r t entry)

module _ (parts : MachineParts) (history : List Entry) (cube : HeldCube) (now : IsSeen parts history cube) (actor : ℕ) (call : Call) (entry : Entry)
    (fits : IsFitting parts history cube.grant.user actor (cube_request call)) (made : IsCubeCallEntry parts history cube.grant actor call entry) where
  abbrev h' : List Entry
  h' = history ++ entry ∷ []

  pub call-of : IsCallOf parts history entry.actor call cube
  call-of =
      subst (λ a. IsCallOf parts history a call cube) (sym made.actor_is) (subst (λ held. IsSomeAnd held (IsCallOf parts history actor call)) now.holds fits.1)

  holds_now : cube_held_by (after history) entry.user ≡ Some cube
  holds_now = ap (cube_held_by (after history)) made.user ∙ now.holds

  answer_now : answer (nodes_of cube.grant) (cube_standing (after history) cube) entry.actor (with_places_outward cube.grant call) ≡ entry.what
  answer_now =
      ap (λ a. answer (nodes_of cube.grant) (cube_standing (after history) cube) a (with_places_outward cube.grant call)) made.actor_is
      ∙ answer-made parts history cube actor call entry now.holds made

  abbrev own : IsOwnEntry parts cube.grant (trace_behind cube.grant ((projected parts history now.machine now.lawful).held entry.user cube holds_now).behind) entry
  own = own-called parts now.machine history (projected parts history now.machine now.lawful) entry call cube holds_now call-of (ap Some answer_now)

  pub is-called : is_some (recorded_call entry.what) ≡ true
  is-called = ap is_some own.called

  held_next : cube_held_by (after h') cube.grant.user ≡ Some (cube_after_entry entry cube)
  held_next =
      ap (λ state. cube_held_by state cube.grant.user) (after-more history entry ∙ ap (λ call. state_after_call call entry (after history)) own.called)
      ∙ ap (cube_held_by (with_cube entry.user (cube_after_entry entry) (λ cube. record_after_entry cube.grant.sub entry) (after history))) (sym made.user)
      ∙ held-own entry.user (cube_after_entry entry) (λ cube. refl) (λ cube. record_after_entry cube.grant.sub entry) (after history) cube holds_now

  pub trace_next : view h' cube.number ≡ view history cube.number ++ entry_inward cube.grant.sub entry ∷ []
  trace_next =
      let was = (projected parts history now.machine now.lawful).held entry.user cube holds_now in
      view-is h' cube.number cube.grant (was.behind ++ entry ∷ []) (found-more history entry cube.number cube.grant was.behind was.found)
      ∙ trace-grows cube.grant was.behind entry own.call (was.over ∙ now.goes) (eq-eqb _ _ made.user) own.called
      ∙ ap (λ t. t ++ entry_inward cube.grant.sub entry ∷ []) (sym (view-is history cube.number cube.grant was.behind was.found))

  inner_node : (q : ℕ) → q < 2 ^ cube.grant.dim → entry.actor ≡ node_of cube.grant.sub q → relative_number cube.grant.sub entry.actor ≡ q
  inner_node q below is =
      ap (relative_number cube.grant.sub) is ∙ relative_out parts.dim cube.grant now.placed q below

  inner_host : entry.actor ≡ HOST → (r : ℕ) → r < 2 ^ cube.grant.dim → (relative_number cube.grant.sub entry.actor == r) ≡ false
  inner_host is r below =
      ap (λ n. n == r) (ap (relative_number cube.grant.sub) is ∙ relative_host parts.dim cube.grant now.placed)
      ∙ other_way r HOST (node_no_host parts.dim cube.grant now.placed r below)

  stays : (r : ℕ) → (relative_number cube.grant.sub entry.actor == r) ≡ false → trace_node parts h' cube.number cube.grant r ≡ trace_node parts history cube.number cube.grant r
  stays r other =
      ap (state (cube_of parts.images cube.grant) (opening (cube_of parts.images cube.grant)) r) trace_next
      ∙ state-other (cube_of parts.images cube.grant) r (view history cube.number) (entry_inward cube.grant.sub entry) other

  no_host_inner : (entry.actor == HOST) ≡ false → (relative_number cube.grant.sub entry.actor == HOST) ≡ false
  no_host_inner other =
      ne_eqb _ _ (λ same. both_ways _ other (eq-eqb _ _ (actor_back parts.dim cube.grant now.placed entry.actor call-of.inside ∙ ap (number_outward cube.grant.sub) same)))

  pub one-more : IsNextCubeEntry parts history cube.number cube.grant entry
  one-more = record {
    lawful = each-more (IsLawfulEntry parts) history entry now.lawful
        (lawful_entry parts history cube.grant.user actor call entry fits made.user made.actor_is made.what);
    held = record { cube = cube_after_entry entry cube; held = held_next; number_is = refl; grant_is = refl; goes_on = now.goes };
    trace = trace_next;
    others = λ q r below is differ. stays r (ap (λ n. n == r) (inner_node q below is) ∙ differ);
    all = λ is r below. stays r (inner_host is r below);
    store = λ other.
        ap (hoststore (opening (cube_of parts.images cube.grant))) trace_next
        ∙ store-other (opening (cube_of parts.images cube.grant)) (view history cube.number) (entry_inward cube.grant.sub entry) (no_host_inner other);
  }

pub calls-add : CallsAdd
calls-add parts history number grant machine lawful held actor call entry fits made =
    by_seen
    (λ number grant. IsFitting parts history grant.user actor (cube_request call) → IsCubeCallEntry parts history grant actor call entry
    → IsNextCubeEntry parts history number grant entry) parts history number grant machine lawful
    (λ cube now fits made. one-more parts history cube now actor call entry fits made) held fits made

-- ---- entries that are none of the cube

module _ (parts : MachineParts) (history : List Entry) (cube : HeldCube) (now : IsSeen parts history cube) (entry : Entry) (is : IsLawfulEntry parts history entry) where
  aside : cube_held_by (after (history ++ entry ∷ [])) cube.grant.user ≡ cube_held_by (after history) cube.grant.user
      → (entry.user == cube.grant.user && is_some (recorded_call entry.what)) ≡ false → IsAside parts history cube.number cube.grant entry
  aside same none =
      let was = (projected parts history now.machine now.lawful).held cube.grant.user cube now.holds in
      let trace : view (history ++ entry ∷ []) cube.number ≡ view history cube.number =
      view-is (history ++ entry ∷ []) cube.number cube.grant (was.behind ++ entry ∷ []) (found-more history entry cube.number cube.grant was.behind was.found)
      ∙ trace-stays cube.grant was.behind entry none ∙ sym (view-is history cube.number cube.grant was.behind was.found) in
      record {
        lawful = each-more (IsLawfulEntry parts) history entry now.lawful is;
        held = record { cube = cube; held = same ∙ now.holds; number_is = refl; grant_is = refl; goes_on = now.goes };
        trace = trace;
        nodes = λ r. ap (state (cube_of parts.images cube.grant) (opening (cube_of parts.images cube.grant)) r) trace;
        store = ap (hoststore (opening (cube_of parts.images cube.grant))) trace;
      }

  others_keep : ((entry.user == cube.grant.user) ≡ false) ⊎ (entry.what ≡ Peek) → IsAside parts history cube.number cube.grant entry
  others_keep (inl other) =
      aside ((lawful-entry parts now.machine history (projected parts history now.machine now.lawful) entry is).others cube.grant.user other)
      (ap (λ b. b && is_some (recorded_call entry.what)) other)
  others_keep (inr peek) =
      aside (ap (λ state. cube_held_by state cube.grant.user) (after-more history entry
      ∙ ap (λ what. state_after_entry (after history) (record { user = entry.user; actor = entry.actor; what = what })) peek))
      (and_false _ _ (ap (λ what. is_some (recorded_call what)) peek))

pub others-keep : OthersKeep
others-keep parts history number grant machine lawful held entry is beside =
    by_seen
    (λ number grant. ((entry.user == grant.user) ≡ false) ⊎ (entry.what ≡ Peek) → IsAside parts history number grant entry) parts history number grant machine lawful
    (λ cube now beside. others_keep parts history cube now entry is beside) held beside

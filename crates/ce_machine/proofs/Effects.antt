-- What one entry more makes of the machine's state, point by point: which cubes are held, how each
-- stands, and what is kept for each node.
use Rattle.std.proofs.Common.{◌≡◌, ℕ, true, false, ◌==◌, if◌then◌else◌, List, [], Some, None, refl, ap, sym, ◌∙◌, subst}
use Rattle.ce_model.specs.declared.topology.Subcube.{Subcube}
use Rattle.ce_model.specs.declared.entry.Entry.{Entry}
use Rattle.ce_model.specs.declared.entry.What.TheVariants.{Getcube, Peek, Drain, Freecube}
use Rattle.ce_model.specs.Node.{Call}
use Rattle.ce_model.specs.Trace.{NodeRecord, blank_record}
use Rattle.ce_model.specs.Answers.{recorded_call}
use Rattle.ce_model.specs.Subcubes.{is_inside}
use Rattle.ce_model.specs.Machine.{HeldCube, MachineState, is_held_by, cube_held_by, held_grants, record_after_entry, cube_after_entry, with_cube, with_grant, with_drained_cube, without_cube, state_after_call, after}
use Rattle.ce_solo.proofs.Projection.Held.{held-own, held-other, record-own, record-other, granted-own, granted-other, left-own, left-other}
use Rattle.ce_model.specs.Literals.{entry_of}
use Rattle.ce_solo.proofs.Projection.Kinds.{drained_cube, drained_record}
use Rattle.ce_solo.proofs.Projection.Law.{after-more}
pub use Rattle.ce_machine.specs.Keeping.{grants-kept, grant-found, grants-stay}
use Rattle.ce_machine.proofs.Changes.{user_grant, next_state}

-- ---- the grants that are held

-- ---- an entry of a call

module _ (h : List Entry) (entry : Entry) (call : Call) (called : recorded_call entry.what ≡ Some call) where
  abbrev change : HeldCube → HeldCube
  change cube = cube_after_entry entry cube

  abbrev change_record : HeldCube → ℕ → NodeRecord → NodeRecord
  change_record cube = record_after_entry cube.grant.sub entry

  pub call-state : next_state h entry ≡ with_cube entry.user change change_record (after h)
  call-state = after-more h entry ∙ ap (λ call. state_after_call call entry (after h)) called

  pub call-count : (next_state h entry).grant_count ≡ (after h).grant_count
  call-count = ap (λ (s : MachineState). s.grant_count) call-state

  pub call-grants : held_grants (next_state h entry) ≡ held_grants (after h)
  call-grants = ap held_grants call-state ∙ grants-kept (is_held_by entry.user) change (after h).cubes (λ cube. refl)

  pub call-own : (cube : HeldCube) → cube_held_by (after h) entry.user ≡ Some cube → cube_held_by (next_state h entry) entry.user ≡ Some (cube_after_entry entry cube)
  call-own cube holds = ap (λ s. cube_held_by s entry.user) call-state ∙ held-own entry.user change (λ cube. refl) change_record (after h) cube holds

  pub call-other : (user : ℕ) → (entry.user == user) ≡ false → cube_held_by (next_state h entry) user ≡ cube_held_by (after h) user
  call-other user other = ap (λ s. cube_held_by s user) call-state ∙ held-other entry.user change (λ cube. refl) change_record (after h) user other

  pub call-inside : (cube : HeldCube) (node : ℕ) → cube_held_by (after h) entry.user ≡ Some cube → is_inside cube.grant.sub node ≡ true
      → (next_state h entry).node_record node ≡ record_after_entry cube.grant.sub entry node ((after h).node_record node)
  call-inside cube node holds inside =
      ap (λ (s : MachineState). s.node_record node) call-state
      ∙ record-own change_record node ((after h).node_record node) (cube_held_by (after h) entry.user) cube holds inside

  pub call-outside : (cube : HeldCube) (node : ℕ) → cube_held_by (after h) entry.user ≡ Some cube → is_inside cube.grant.sub node ≡ false
      → (next_state h entry).node_record node ≡ (after h).node_record node
  call-outside cube node holds outside =
      ap (λ (s : MachineState). s.node_record node) call-state
      ∙ record-other change_record node ((after h).node_record node) (cube_held_by (after h) entry.user)
      (λ other held. let same : Some cube ≡ Some other = sym holds ∙ held in
      let is : cube ≡ other = cc in subst (λ (c : HeldCube). is_inside c.grant.sub node ≡ false) is outside)

-- ---- entries that are none of a call

module _ (h : List Entry) (user actor : ℕ) where
  -- a peek, and a getcube for which none was free, change nothing
  pub peek-state : next_state h (entry_of user actor Peek) ≡ after h
  peek-state = after-more h (entry_of user actor Peek)

  pub none_free-state : (dim : ℕ) → next_state h (entry_of user actor (Getcube dim None)) ≡ after h
  none_free-state dim = after-more h (entry_of user actor (Getcube dim None))

  -- a cube is granted
  module _ (dim : ℕ) (sub : Subcube) where
    abbrev getcube : Entry
    getcube = entry_of user actor (Getcube dim (Some sub))

    pub grant-state : next_state h getcube ≡ with_grant (user_grant user dim sub) (after h)
    grant-state = after-more h getcube

    pub grant-own : cube_held_by (after h) user ≡ None → cube_held_by (next_state h getcube) user
        ≡ Some (record { number = (after h).grant_count; grant = user_grant user dim sub; is_drained = false; allowed_dispatches = 0; made_dispatches = 0; parcel_count = 0; mail = [] })
    grant-own none = ap (λ s. cube_held_by s user) grant-state ∙ granted-own (user_grant user dim sub) (after h) none

    pub grant-other : (other : ℕ) → (user == other) ≡ false → cube_held_by (next_state h getcube) other ≡ cube_held_by (after h) other
    grant-other other differ = ap (λ s. cube_held_by s other) grant-state ∙ granted-other (user_grant user dim sub) (after h) other differ

    pub grant-records : (next_state h getcube).node_record ≡ (after h).node_record
    grant-records = ap (λ (s : MachineState). s.node_record) grant-state

  -- a cube is drained
  abbrev draining : Entry
  draining = entry_of user actor Drain

  pub drain-state : next_state h draining ≡ with_drained_cube user (after h)
  drain-state = after-more h draining

  pub drain-count : (next_state h draining).grant_count ≡ (after h).grant_count
  drain-count = ap (λ (s : MachineState). s.grant_count) drain-state

  pub drain-grants : held_grants (next_state h draining) ≡ held_grants (after h)
  drain-grants = ap held_grants drain-state ∙ grants-kept (is_held_by user) drained_cube (after h).cubes (λ cube. refl)

  pub drain-own : (cube : HeldCube) → cube_held_by (after h) user ≡ Some cube → cube_held_by (next_state h draining) user ≡ Some (record cube { is_drained = true; mail = [] })
  drain-own cube holds = ap (λ s. cube_held_by s user) drain-state ∙ held-own user drained_cube (λ cube. refl) drained_record (after h) cube holds

  pub drain-other : (other : ℕ) → (user == other) ≡ false → cube_held_by (next_state h draining) other ≡ cube_held_by (after h) other
  drain-other other differ = ap (λ s. cube_held_by s other) drain-state ∙ held-other user drained_cube (λ cube. refl) drained_record (after h) other differ

  pub drain-record : (cube : HeldCube) (node : ℕ) → cube_held_by (after h) user ≡ Some cube
      → (next_state h draining).node_record node ≡ (if is_inside cube.grant.sub node then record ((after h).node_record node) { waiting_items = [] } else (after h).node_record node)
  drain-record cube node holds = ap (λ (s : MachineState). s.node_record node) drain-state ∙ rw holds refl

  -- a cube is given back
  abbrev freeing : Entry
  freeing = entry_of user actor Freecube

  pub free-state : next_state h freeing ≡ without_cube user (after h)
  free-state = after-more h freeing

  pub free-own : cube_held_by (next_state h freeing) user ≡ None
  free-own = ap (λ s. cube_held_by s user) free-state ∙ left-own user (after h)

  pub free-other : (other : ℕ) → (user == other) ≡ false → cube_held_by (next_state h freeing) other ≡ cube_held_by (after h) other
  free-other other differ = ap (λ s. cube_held_by s other) free-state ∙ left-other user other (after h) differ

  pub free-record : (cube : HeldCube) (node : ℕ) → cube_held_by (after h) user ≡ Some cube
      → (next_state h freeing).node_record node ≡ (if is_inside cube.grant.sub node then blank_record else (after h).node_record node)
  free-record cube node holds = ap (λ (s : MachineState). s.node_record node) free-state ∙ rw holds refl

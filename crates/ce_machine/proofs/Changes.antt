-- The ways in which a lawful entry changes the machine's state.
use Rattle.std.proofs.Common.{◌≡◌, ℕ, true, false, List, [], ◌∷◌, ◌++◌, Option, Some, None, IsSomeAnd, option_map, refl, ap, sym, ◌∙◌}
use Rattle.ce_model.specs.declared.topology.Subcube.{Subcube}
use Rattle.ce_model.specs.declared.entry.Entry.{Entry}
use Rattle.ce_model.specs.declared.entry.What.{What}
use Rattle.ce_model.specs.declared.entry.What.TheVariants.{Getcube, Peek, Drain, Freecube}
use Rattle.ce_model.specs.Node.{Call}
use Rattle.ce_model.specs.Answers.{answer, recorded_call}
use Rattle.ce_model.specs.Subcubes.{first_free_subcube}
use Rattle.ce_model.specs.Renaming.{CubeGrant}
use Rattle.ce_model.specs.Machine.{MachineParts, HeldCube, MachineState, cube_held_by, is_free, nodes_of, cube_standing, record_after_entry, cube_after_entry, with_cube, with_grant, with_drained_cube, without_cube, state_after_entry, state_after_call, after, Request, getcube, peek, drain, freecube, cube_request, with_places_outward, what_of_request, IsCallOf, IsFittingIn, IsLawfulEntry}
use Rattle.ce_model.proofs.AloneByEntries.{call_of-answer}
use Rattle.ce_model.specs.Literals.{entry_of}
use Rattle.ce_solo.proofs.Projection.Law.{after-more}

pub same_cube : (x y : HeldCube) → Some x ≡ Some y → x ≡ y
same_cube x y e = cc

-- the grant that an entry makes
abbrev pub user_grant : ℕ → ℕ → Subcube → CubeGrant
user_grant user dim sub = record { user = user; dim = dim; sub = sub }

-- the state behind a history and one entry more
abbrev pub next_state : List Entry → Entry → MachineState
next_state h entry = after (h ++ entry ∷ [])

-- what a lawful entry is, and what it makes of the state
pub data Change (parts : MachineParts) (h : List Entry) (entry : Entry) : Type 0 where
  -- a peek, or a getcube for which none was free
  nothing : next_state h entry ≡ after h → Change parts h entry
  -- a getcube that got a cube
  grants : (dim : ℕ) (sub : Subcube) → cube_held_by (after h) entry.user ≡ None → first_free_subcube (is_free (after h)) parts.dim dim ≡ Some sub
      → next_state h entry ≡ with_grant (user_grant entry.user dim sub) (after h) → Change parts h entry
  drains : (cube : HeldCube) → cube_held_by (after h) entry.user ≡ Some cube → next_state h entry ≡ with_drained_cube entry.user (after h) → Change parts h entry
  frees : (cube : HeldCube) → cube_held_by (after h) entry.user ≡ Some cube → cube.is_drained ≡ true → next_state h entry ≡ without_cube entry.user (after h) → Change parts h entry
  -- a call of a cube
  calls : (call : Call) (cube : HeldCube) → cube_held_by (after h) entry.user ≡ Some cube → IsCallOf parts h entry.actor call cube
      → answer (nodes_of cube.grant) (cube_standing (after h) cube) entry.actor (with_places_outward cube.grant call) ≡ entry.what
      → next_state h entry ≡ with_cube entry.user (cube_after_entry entry) (λ cube. record_after_entry cube.grant.sub entry) (after h) → Change parts h entry

some_what : (x y : What) → Some x ≡ Some y → x ≡ y
some_what x y e = ap (λ o. elim o [ None ↦ x | Some z ↦ z ]) e

module _ (parts : MachineParts) (h : List Entry) (entry : Entry) where
  -- an entry changes the state as its kind does
  by_what : (what : What) → Some what ≡ Some entry.what → next_state h entry ≡ state_after_entry (after h) (entry_of entry.user entry.actor what)
  by_what what e = after-more h entry ∙ ap (λ what. state_after_entry (after h) (entry_of entry.user entry.actor what)) (sym (some_what what entry.what e))

  by_found : (dim : ℕ) (found : Option Subcube) → first_free_subcube (is_free (after h)) parts.dim dim ≡ found → cube_held_by (after h) entry.user ≡ None
      → Some (Getcube dim found) ≡ Some entry.what → Change parts h entry
  by_found dim None is none e = nothing (by_what (Getcube dim None) e)
  by_found dim (Some sub) is none e = grants dim sub none is (by_what (Getcube dim (Some sub)) e)

  by_drained : (held : Option HeldCube) → cube_held_by (after h) entry.user ≡ held → IsSomeAnd held (λ cube. cube.is_drained ≡ false)
      → Some Drain ≡ Some entry.what → Change parts h entry
  by_drained None is some e = absurd some
  by_drained (Some cube) is some e = drains cube is (by_what Drain e)

  by_freed : (held : Option HeldCube) → cube_held_by (after h) entry.user ≡ held → IsSomeAnd held (λ cube. cube.is_drained ≡ true)
      → Some Freecube ≡ Some entry.what → Change parts h entry
  by_freed None is some e = absurd some
  by_freed (Some cube) is some e = frees cube is some (by_what Freecube e)

  by_called : (call : Call) (held : Option HeldCube) → cube_held_by (after h) entry.user ≡ held → IsSomeAnd held (IsCallOf parts h entry.actor call)
      → option_map (λ cube. answer (nodes_of cube.grant) (cube_standing (after h) cube) entry.actor (with_places_outward cube.grant call)) held ≡ Some entry.what
      → Change parts h entry
  by_called call None is some e = absurd some
  by_called call (Some cube) is fits e =
      let made = with_places_outward cube.grant call in
      let what = some_what (answer (nodes_of cube.grant) (cube_standing (after h) cube) entry.actor made) entry.what e in
      let called : recorded_call entry.what ≡ Some made = ap recorded_call (sym what) ∙ call_of-answer (nodes_of cube.grant) (cube_standing (after h) cube) entry.actor made in
      calls call cube is fits what (after-more h entry ∙ ap (λ call. state_after_call call entry (after h)) called)

  by_request : (request : Request) → IsFittingIn parts h entry.user entry.actor request → what_of_request parts (after h) entry.user entry.actor request ≡ Some entry.what
      → Change parts h entry
  by_request (getcube dim) fits e = by_found dim (first_free_subcube (is_free (after h)) parts.dim dim) refl fits.2 e
  by_request peek fits e = nothing (by_what Peek e)
  by_request drain fits e = by_drained (cube_held_by (after h) entry.user) refl fits.1 e
  by_request freecube fits e = by_freed (cube_held_by (after h) entry.user) refl fits.1 e
  by_request (cube_request call) fits e = by_called call (cube_held_by (after h) entry.user) refl fits e

  pub change-of : IsLawfulEntry parts h entry → Change parts h entry
  change-of lawful = by_request lawful.request lawful.fits.1 lawful.answer

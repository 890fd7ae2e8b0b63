-- What a lawful history says of a cube that is held.
use Rattle.std.proofs.Common.{◌≡◌, ℕ, ◌≤◌, false, List, Some, ap, sym, ◌∙◌, subst}
use Rattle.ce_model.specs.declared.entry.Entry.{Entry}
use Rattle.ce_model.specs.Trace.{allowed_dispatches, made_dispatches}
use Rattle.ce_model.specs.Cube.{IsCube, opening, state_after_trace}
use Rattle.ce_model.specs.Views.{trace_behind, view}
use Rattle.ce_model.specs.Renaming.{CubeGrant}
use Rattle.ce_model.specs.Machine.{MachineParts, IsMachine, HeldCube, IsLawful, after, cube_held_by, cube_standing, cube_of}
use Rattle.ce_solo.specs.Laws.{IsGrant}
use Rattle.ce_solo.proofs.Stands.{IsSoundTrace}
use Rattle.ce_solo.proofs.Projection.Numbers.{IsPlaced}
use Rattle.ce_solo.proofs.Projection.Answers.{IsStandingOf}
use Rattle.ce_solo.proofs.Projection.Views.{view-is}
use Rattle.ce_solo.proofs.Projection.Own.{own_cube, standing-kept, stands}
use Rattle.ce_solo.proofs.Projection.Law.{projected}
use Rattle.ce_cube.specs.Boxes.{IsHeldAs}
use Rattle.ce_cube.proofs.Subcubes.{subcube-listed}

-- a cube that is held and goes on, in a history that the machine allows: it is placed on the
-- machine, its trace leaves a sound state, and the machine keeps how it stands
pub record IsSeen (parts : MachineParts) (history : List Entry) (cube : HeldCube) : Type 0 where
  pub machine : IsMachine parts
  pub lawful : IsLawful parts history
  pub holds : cube_held_by (after history) cube.grant.user ≡ Some cube
  pub goes : cube.is_drained ≡ false
  pub placed : IsPlaced parts.dim cube.grant
  pub of : IsCube (cube_of parts.images cube.grant)
  pub stands : IsSoundTrace (cube_of parts.images cube.grant) (opening (cube_of parts.images cube.grant)) (view history cube.number)
  pub standing : IsStandingOf cube.grant (cube_standing (after history) cube)
      (state_after_trace (cube_of parts.images cube.grant) (opening (cube_of parts.images cube.grant)) (view history cube.number)).standing

pub seen : (parts : MachineParts) (history : List Entry) (cube : HeldCube) → IsMachine parts → IsLawful parts history
    → cube_held_by (after history) cube.grant.user ≡ Some cube → cube.is_drained ≡ false → IsSeen parts history cube
seen parts history cube machine lawful holds goes =
    let before = projected parts history machine lawful in
    let was = before.held cube.grant.user cube holds in
    let own = cube_of parts.images cube.grant in
    let same = sym (view-is history cube.number cube.grant was.behind was.found) in
    record {
      machine = machine;
      lawful = lawful;
      holds = holds;
      goes = goes;
      placed = was.placed;
      of = own_cube parts cube.grant machine was.placed;
      stands = subst (IsSoundTrace own (opening own)) same
          (stands parts machine (after history) history cube was goes (before.views cube.number cube.grant was.behind was.found).alone);
      standing = subst (λ t. IsStandingOf cube.grant (cube_standing (after history) cube) (state_after_trace own (opening own) t).standing) same
          (standing-kept parts.dim (after history) cube (state_after_trace own (opening own) (trace_behind cube.grant was.behind)).standing was.placed (was.kept goes));
    }

-- a grant that is placed is one of the machine's
pub placed-grant : (dim : ℕ) (grant : CubeGrant) → IsPlaced dim grant → IsGrant dim grant
placed-grant dim grant placed = record { within = placed.within; user = placed.user; sub = subcube-listed dim grant.dim grant.sub placed.sub }

-- what holds of each held cube by its own number and grant holds of a cube that is held as these
pub by_cube : (P : ℕ → CubeGrant → Type 0) (history : List Entry) (number : ℕ) (grant : CubeGrant)
    → ((cube : HeldCube) → cube_held_by (after history) cube.grant.user ≡ Some cube → cube.is_drained ≡ false → P cube.number cube.grant)
    → IsHeldAs history number grant → P number grant
by_cube P history number grant each is =
    let holds = ap (λ (g : CubeGrant). cube_held_by (after history) g.user) is.grant_is ∙ is.held in
    subst (P number) is.grant_is (subst (λ n. P n is.cube.grant) is.number_is (each is.cube holds is.goes_on))

pub by_seen : (P : ℕ → CubeGrant → Type 0) (parts : MachineParts) (history : List Entry) (number : ℕ) (grant : CubeGrant) → IsMachine parts → IsLawful parts history
    → ((cube : HeldCube) → IsSeen parts history cube → P cube.number cube.grant) → IsHeldAs history number grant → P number grant
by_seen P parts history number grant machine lawful each is =
    by_cube P history number grant (λ cube holds goes. each cube (seen parts history cube machine lawful holds goes)) is

-- its grant is placed
pub placed-of : (parts : MachineParts) (history : List Entry) (number : ℕ) (grant : CubeGrant) → IsMachine parts → IsLawful parts history → IsHeldAs history number grant
    → IsPlaced parts.dim grant
placed-of parts history number grant machine lawful held =
    by_seen (λ number grant. IsPlaced parts.dim grant) parts history number grant machine lawful (λ cube now. now.placed) held

-- no more dispatches were made than are allowed
pub held-within : (parts : MachineParts) (history : List Entry) (number : ℕ) (grant : CubeGrant) → IsMachine parts → IsLawful parts history → IsHeldAs history number grant
    → made_dispatches (opening (cube_of parts.images grant)).standing (view history number) ≤ allowed_dispatches (opening (cube_of parts.images grant)).standing (view history number)
held-within parts history number grant machine lawful held =
    by_seen
    (λ number grant.
    made_dispatches (opening (cube_of parts.images grant)).standing (view history number) ≤ allowed_dispatches (opening (cube_of parts.images grant)).standing (view history number))
    parts history number grant machine lawful (λ cube now. now.stands.sound.dispatches) held

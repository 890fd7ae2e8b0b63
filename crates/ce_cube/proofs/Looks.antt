-- A look right behind a round without work never finds its cube busy.
use Rattle.std.proofs.Common.{◌≡◌, ℕ, Bool, true, false, ◌||◌, List, Some, ◌++◌, refl, ap, sym, ◌∙◌, inr}
use Rattle.ce_model.specs.declared.topology.TheConstants.{HOST}
use Rattle.ce_model.specs.declared.entry.Entry.{Entry}
use Rattle.ce_model.specs.declared.entry.What.{What}
use Rattle.ce_model.specs.declared.entry.What.TheVariants.{Look}
use Rattle.ce_model.specs.declared.entry.LookResult.{LookResult}
use Rattle.ce_model.specs.declared.entry.LookResult.TheVariants.{Quiet, Busy}
use Rattle.ce_model.specs.Node.{look_call}
use Rattle.ce_model.specs.Trace.{Standing, standing}
use Rattle.ce_model.specs.Answers.{is_used_up, is_quiet, look_result_where, answer}
use Rattle.ce_model.specs.Cube.{Cube, CubeState, opening, state_after_trace, node_numbers, IsAlone}
use Rattle.ce_model.specs.Renaming.{CubeGrant}
use Rattle.ce_model.specs.Views.{view}
use Rattle.ce_model.specs.Machine.{MachineParts, IsMachine, IsLawful, HeldCube, after, cube_standing, cube_of}
use Rattle.ce_script.specs.Rounds.{RoundKind, IsRoundWithoutWork}
use Rattle.ce_solo.proofs.Fresh.{fresh_sound}
use Rattle.ce_solo.proofs.Projection.Numbers.{what_outward}
use Rattle.ce_solo.proofs.Projection.Answers.{answer-outward}
use Rattle.ce_solo.proofs.Projection.Law.{projected, found_alone}
use Rattle.ce_cube.specs.Boxes.{IsCubeCallEntry, IsHeldAs}
use Rattle.ce_cube.specs.Laws.{LooksEnd}
use Rattle.ce_cube.proofs.Held.{IsSeen, by_seen}
use Rattle.ce_cube.proofs.Adds.{answer-made}
use Rattle.ce_cube.proofs.Idle.{rounds-rest}

not_busy : (quiet used : Bool) → (quiet || used) ≡ true → look_result_where quiet used ≡ Busy → ⊥
not_busy true used is e = cc
not_busy false true is e = cc
not_busy false false is e = cc

look-is : (nodes : List ℕ) (standing : Standing) → answer nodes standing HOST look_call ≡ Look (look_result_where (is_quiet nodes standing) (is_used_up standing))
unfolding answer
look-is nodes standing = refl

-- the cube is quiet, or its dispatches are used up
abbrev pub IsCubeAtRest : MachineParts → List Entry → ℕ → CubeGrant → Type 0
IsCubeAtRest parts history number grant =
    (is_quiet (node_numbers grant.dim) (standing (opening (cube_of parts.images grant)).standing (view history number))
    || is_used_up (standing (opening (cube_of parts.images grant)).standing (view history number))) ≡ true

-- what a look found
abbrev found_in : What → LookResult
found_in (Look found) = found
found_in other = Quiet

module _ (parts : MachineParts) (history : List Entry) (cube : HeldCube) (now : IsSeen parts history cube) where
  abbrev own : Cube
  own = cube_of parts.images cube.grant

  abbrev s : CubeState
  s = state_after_trace own (opening own) (view history cube.number)

  alone : IsAlone own (view history cube.number)
  alone =
      let all = projected parts history now.machine now.lawful in
      let was = all.held cube.grant.user cube now.holds in
      found_alone parts history cube.number all (Some (cube.grant, was.behind)) was.found

  -- behind a round without work it rests
  pub at-rest : (kind : RoundKind) (before round : List Entry) → view history cube.number ≡ before ++ round → IsRoundWithoutWork kind cube.grant.dim round
      → IsCubeAtRest parts history cube.number cube.grant
  at-rest kind before round same quiet = rounds-rest own (opening own) (view history cube.number) now.of (fresh_sound own now.of) alone kind before round same quiet

  look_entry : (entry : Entry) → IsCubeCallEntry parts history cube.grant HOST look_call entry
      → entry.what ≡ Look (look_result_where (is_quiet (node_numbers cube.grant.dim) s.standing) (is_used_up s.standing))
  look_entry entry made =
      sym (answer-made parts history cube HOST look_call entry now.holds made)
      ∙ answer-outward parts.dim cube.grant now.placed (cube_standing (after history) cube) s.standing now.standing HOST look_call (inr refl) tt
      ∙ ap (what_outward cube.grant) (look-is (node_numbers cube.grant.dim) s.standing)

  -- a look finds that it rests
  pub found-at-rest : (entry : Entry) → IsCubeCallEntry parts history cube.grant HOST look_call entry → IsCubeAtRest parts history cube.number cube.grant → entry.what ≡ Look Busy → ⊥
  found-at-rest entry made rests busy = not_busy _ _ rests (ap found_in (sym (look_entry entry made) ∙ busy))

module _ (parts : MachineParts) (history : List Entry) (number : ℕ) (grant : CubeGrant) (machine : IsMachine parts) (lawful : IsLawful parts history)
    (held : IsHeldAs history number grant) where
  -- the same of the cube of a number and grant
  pub rests-behind : (kind : RoundKind) (before round : List Entry) → view history number ≡ before ++ round → IsRoundWithoutWork kind grant.dim round
      → IsCubeAtRest parts history number grant
  rests-behind kind before round same quiet =
      by_seen (λ number grant. view history number ≡ before ++ round → IsRoundWithoutWork kind grant.dim round → IsCubeAtRest parts history number grant)
      parts history number grant machine lawful (λ cube now same quiet. at-rest parts history cube now kind before round same quiet) held same quiet

  pub found-resting : (entry : Entry) → IsCubeCallEntry parts history grant HOST look_call entry → IsCubeAtRest parts history number grant → entry.what ≡ Look Busy → ⊥
  found-resting entry made rests busy =
      by_seen (λ number grant. IsCubeCallEntry parts history grant HOST look_call entry → IsCubeAtRest parts history number grant → ⊥)
      parts history number grant machine lawful (λ cube now made rests. found-at-rest parts history cube now entry made rests busy) held made rests

pub looks-end : LooksEnd
looks-end parts history number grant machine lawful held kind before round entry same quiet made busy =
    found-resting parts history number grant machine lawful held entry made (rests-behind parts history number grant machine lawful held kind before round same quiet) busy

-- Behind a Take that gives no work a node asks for work again.
use Rattle.std.proofs.Common.{◌≡◌, ℕ, false, IsTrue, IsFalse, List, [], ◌∷◌, ◌++◌, Some, sym, subst}
use Rattle.ce_model.specs.declared.entry.Entry.{Entry}
use Rattle.ce_model.specs.Lists.{EachAfter}
use Rattle.ce_model.specs.Saying.{says}
use Rattle.ce_model.specs.Cube.{Cube, opening, state_after_trace, IsNext}
use Rattle.ce_model.specs.Views.{view}
use Rattle.ce_model.specs.Machine.{MachineParts, IsMachine, HeldCube, IsLawful, after, cube_held_by, cube_of}
use Rattle.ce_model.proofs.Walked.{each_of_front, each_behind}
use Rattle.ce_script.specs.Rounds.{is_take, is_dispatch, asks_for_work}
use Rattle.ce_solo.proofs.Fresh.{fresh_sound}
use Rattle.ce_solo.proofs.Stands.{stands-each}
use Rattle.ce_solo.proofs.Projection.Views.{view-is}
use Rattle.ce_solo.proofs.Projection.Law.{projected}
use Rattle.ce_cube.specs.Boxes.{trace_node}
use Rattle.ce_cube.specs.Laws.{IdleAsks}
use Rattle.ce_cube.proofs.Held.{seen, by_cube}
use Rattle.ce_cube.proofs.Resting.{first_leaves}

module _ (parts : MachineParts) (history : List Entry) (machine : IsMachine parts) (lawful : IsLawful parts history) (cube : HeldCube)
    (holds : cube_held_by (after history) cube.grant.user ≡ Some cube) (goes : cube.is_drained ≡ false) where
  abbrev own : Cube
  own = cube_of parts.images cube.grant

  -- each entry of its trace is the next one there
  each-next : EachAfter (IsNext own (opening own)) [] (view history cube.number)
  each-next =
      let all = projected parts history machine lawful in
      let was = all.held cube.grant.user cube holds in
      subst (EachAfter (IsNext own (opening own)) []) (sym (view-is history cube.number cube.grant was.behind was.found))
      (all.views cube.number cube.grant was.behind was.found).alone

  idle_asks : (r : ℕ) (before : List Entry) (entry : Entry) → view history cube.number ≡ before ++ entry ∷ [] → entry.actor ≡ r → IsTrue (is_take entry)
      → IsFalse (is_dispatch entry) → IsTrue (asks_for_work (says (trace_node parts history cube.number cube.grant r)).call)
  idle_asks r before entry same actor take none =
      let of = (seen parts history cube machine lawful holds goes).of in
      let each = subst (EachAfter (IsNext own (opening own)) []) same each-next in
      let front = each_of_front (IsNext own (opening own)) [] before (entry ∷ []) each in
      let next = each_behind (IsNext own (opening own)) [] before (entry ∷ []) each in
      let leaves = first_leaves own of (opening own) before entry (stands-each own (opening own) before of (fresh_sound own of) front) next.0 take none in
      subst (λ r. IsTrue (asks_for_work (says (trace_node parts history cube.number cube.grant r)).call)) actor
      (subst (λ t. IsTrue (asks_for_work (says ((state_after_trace own (opening own) t).node entry.actor)).call)) (sym same) leaves.again)

pub idle-asks : IdleAsks
idle-asks parts history number grant machine lawful held r before entry same actor take none =
    by_cube
    (λ number grant. view history number ≡ before ++ entry ∷ [] → IsTrue (asks_for_work (says (trace_node parts history number grant r)).call)) history number grant
    (λ cube holds goes same. idle_asks parts history machine lawful cube holds goes r before entry same actor take none) held same

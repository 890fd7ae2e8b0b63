use Rattle.std.proofs.Common.{◌≡◌, ℕ, ◌+◌, Bool, ◌&&◌, List, sym, ap, ◌∙◌}
use Rattle.std.specs.List.{list_all}
use Rattle.ce_model.specs.Answers.{is_quiet_node}
use Rattle.ce_machine.specs.Tables.{desk_at}
use Rattle.ce_machine.proofs.Loops.{nodes_from, rest-more, rest-whole}
use Rattle.ce_machine.proofs.desks.is_quiet.Goals.{After-is_quiet}
use Rattle.ce_machine.proofs.desks.is_quiet.Goals as goal

module _ (c : After-is_quiet) where
  abbrev quiet : List ℕ → Bool
  quiet nodes = list_all (λ node. is_quiet_node (desk_at c.args.desks.now.items node)) nodes

  abbrev left : ℕ → List ℕ
  left r = nodes_from c.args.grant.now.sub r c.node_count-r-end.result

  -- all are quiet if this one is, and those behind it
  looked : quiet (left 0) ≡ (c.is_quiet.result && quiet (left (c.loop-r.r + 1)))
  looked =
      c.loop-r.invariant ∙ ap quiet (rest-more c.args.grant.now.sub c.loop-r.r c.node_count-r-end.result c.loop-r-test.true)
      ∙ ap (λ b. b && quiet (left (c.loop-r.r + 1))) (ap is_quiet_node (sym c.desk_of.ensures) ∙ sym c.is_quiet.ensures)

pub returns-then-not-is_quiet : goal.returns-then-not-is_quiet
returns-then-not-is_quiet c =
    let c' = (goal.at.returns-then-not-is_quiet c).After-is_quiet in
    sym (ap (quiet c') (sym (rest-whole c.args.grant.now.sub _ _ c.node_count-r-end.ensures)) ∙ looked c' ∙ ap (λ b. b && quiet c' (left c' (c.loop-r.r + 1))) c.if-not-is_quiet.true)

pub loop-r-preserved : goal.loop-r-preserved
loop-r-preserved c =
    let c' = (goal.at.loop-r-preserved c).After-is_quiet in
    looked c' ∙ ap (λ b. b && quiet c' (left c' (c.loop-r.r + 1))) c.if-not-is_quiet.false

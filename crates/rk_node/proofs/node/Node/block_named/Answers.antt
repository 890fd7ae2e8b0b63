use Rattle.std.proofs.Common.{ap, sym, ◌∙◌, subst, slice_get}
use Rattle.ce_model.specs.Space.{block_at_window}
use Rattle.ce_model.specs.Node.{process_at}
use Rattle.xm_owner.specs.Holdings.{block_held_at}
use Rattle.rk_node.specs.Standing.{node_model}
use Rattle.rk_node.specs.Moves.{IsWindowOfAddress}
use Rattle.rk_node.proofs.Made.{at_start, not_start, named-at, named-not}
use Rattle.rk_node.proofs.node.Node.block_named.Goals as goal

pub block_at-requires : goal.block_at-requires
block_at-requires c = (at_start c.args.address c.in-Some.window c.in-Some.ensures).1

pub returns-in-Some : goal.returns-in-Some
returns-in-Some c =
    let space = (process_at (node_model c.args.self.now) c.args.pid.number).space in
    let begins = at_start c.args.address c.in-Some.window c.in-Some.ensures in
    subst (λ named. IsWindowOfAddress (block_held_at c.args.self.now.held_blocks.mappings c.args.pid.number) named c.block_at.result)
    (ap (λ w. block_at_window (slice_get space.windows w) c.args.address) begins.1 ∙ sym (named-at space c.args.address begins.0)) c.block_at.ensures

pub returns-in-None : goal.returns-in-None
returns-in-None c = named-not (process_at (node_model c.args.self.now) c.args.pid.number).space c.args.address (not_start c.args.address c.in-None.ensures)

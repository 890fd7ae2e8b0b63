use Rattle.std.proofs.Common.{ap, sym, arith}
use Rattle.ce_model.specs.Space.{block_at_window}
use Rattle.xm_owner.specs.Holdings.{block_held_at}
use Rattle.rk_node.proofs.Made.{named_here, gone_here, at-window, past-windows}
use Rattle.rk_node.proofs.node.Node.block_at.Goals as goal

pub returns-then-window-windows : goal.returns-then-window-windows
returns-then-window-windows c =
    let node = c.args.self.now in
    ap (λ o. block_at_window o c.args.address)
    (past-windows node.held_blocks.mappings node.processes.items c.args.pid.number c.index.result.now c.args.window (omega arith) c.index.ensures (omega (arith, c.windows.ensures)))

pub returns-in-Some : goal.returns-in-Some
returns-in-Some c =
    let node = c.args.self.now in
    let at = at-window node.held_blocks.mappings node.processes.items c.args.pid.number c.index.result.now c.args.window (omega arith) c.index.ensures (omega (arith, c.windows.ensures)) in
    named_here (block_held_at node.held_blocks.mappings c.args.pid.number) _ c.args.window c.args.address _ (sym c.in-Some.ensures) at c.requires

pub returns-in-None : goal.returns-in-None
returns-in-None c =
    let node = c.args.self.now in
    let at = at-window node.held_blocks.mappings node.processes.items c.args.pid.number c.index.result.now c.args.window (omega arith) c.index.ensures (omega (arith, c.windows.ensures)) in
    gone_here (block_held_at node.held_blocks.mappings c.args.pid.number) _ c.args.window c.args.address (sym c.in-None.ensures) at

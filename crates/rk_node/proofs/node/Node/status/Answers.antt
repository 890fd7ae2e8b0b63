use Rattle.std.proofs.Common.{arith, ap, sym, ◌∙◌}
use Rattle.ce_model.specs.Process.{Process}
use Rattle.rk_node.proofs.Processes.{process-read}
use Rattle.rk_node.proofs.node.Node.status.Goals as goal

pub returns : goal.returns
returns c =
    let node = c.args.self.now in
    c.status.ensures ∙ ap (λ (p : Process). p.status) (sym (process-read node.held_blocks.mappings node.processes.items c.args.pid.number c.index.result.now (omega arith) c.index.ensures))

use Rattle.std.proofs.Common.{ap, sym, ◌∙◌, arith}
use Rattle.ce_model.specs.Process.{argument}
use Rattle.rk_node.proofs.Processes.{process-read}
use Rattle.rk_node.proofs.node.Node.argument.Goals as goal

pub returns : goal.returns
returns c =
    let node = c.args.self.now in
    c.register.ensures ∙ ap (λ p. argument p c.args.index) (sym (process-read node.held_blocks.mappings node.processes.items c.args.pid.number c.index.result.now (omega arith) c.index.ensures))

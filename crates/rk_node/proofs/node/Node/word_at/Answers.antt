use Rattle.std.proofs.Common.{ap, sym, ◌∙◌, arith}
use Rattle.rv_model.specs.declared.limits.TheConstants.{WORD_SIZE}
use Rattle.ce_model.specs.Space.{load_result}
use Rattle.ce_model.specs.Process.{Process}
use Rattle.rk_node.proofs.Processes.{process-read}
use Rattle.rk_node.proofs.node.Node.word_at.Goals as goal

pub returns : goal.returns
returns c =
    let node = c.args.self.now in
    c.load_word.ensures
    ∙ ap (λ (p : Process). load_result p.space c.args.address WORD_SIZE) (sym (process-read node.held_blocks.mappings node.processes.items c.args.pid.number c.index-process.result.now (omega arith) c.index-process.ensures))

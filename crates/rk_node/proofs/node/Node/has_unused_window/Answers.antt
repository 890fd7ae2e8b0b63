use Rattle.std.proofs.Common.{ap, sym, ◌∙◌, arith, nat_lt}
use Rattle.ce_model.specs.Limits.{window_count}
use Rattle.rk_node.proofs.Processes.{used-read}
use Rattle.rk_node.proofs.node.Node.has_unused_window.Goals as goal

pub returns : goal.returns
unfolding window_count
returns c =
    let node = c.args.self.now in
    ap (λ n. nat_lt n window_count) (c.windows.ensures ∙ sym (used-read node.held_blocks.mappings node.processes.items c.args.pid.number c.index.result.now (omega arith) c.index.ensures))

use Rattle.std.proofs.Common.{length, ap, sym, ◌∙◌, refl, arith}
use Rattle.ce_model.specs.Process.{Process, started_process}
use Rattle.rk_node.specs.Standing.{node_model}
use Rattle.rk_node.proofs.Processes.{process-read, used-read, processes-change, stocked-change, length-processes}
use Rattle.rk_node.proofs.Heard.{begins-after}
use Rattle.rk_node.proofs.node.Node.start.Goals as goal

pub start-requires : goal.start-requires
start-requires c =
    let node = c.args.self.now in
    ap (λ (p : Process). p.status) (sym (process-read node.held_blocks.mappings node.processes.items c.args.pid.number c.index_mut-process.result.now (omega arith) c.index_mut-process.ensures.value)) ∙ c.requires.unborn

pub invariant_of-self-clause-stocked : goal.invariant_of-self-clause-stocked
invariant_of-self-clause-stocked c =
    let node = c.args.self.now in
    let own = c.index_mut-process.result.now in
    let none = used-read node.held_blocks.mappings node.processes.items c.args.pid.number own (omega arith) c.index_mut-process.ensures.value in
    let empty = ap length c.requires.unused in
    stocked-change node c.args.pid.number own c.start.new.self (omega arith) c.index_mut-process.ensures.value
    (omega (arith, none, empty, c.start.ensures.windows))

pub returns-clause-node : goal.returns-clause-node
returns-clause-node c =
    let node = c.args.self.now in
    let m = node.held_blocks.mappings in
    let after = ap (λ ps. record (node_model node) { processes = ps })
    (processes-change m m node.processes.items c.args.pid.number c.index_mut-process.result.now c.start.new.self (λ p. started_process c.args.image.now) (omega (arith, node.stocked.every_id, c.args.pid.within))
    c.index_mut-process.ensures.value (λ q differ. refl) (c.start.ensures.started c.args.pid.number node.held_blocks)) in
    c.begin_turn.ensures.node ∙ begins-after (node_model node) _ c.args.pid.number (started_process c.args.image.now) (λ q. q) (omega (arith, length-processes node, c.args.pid.within)) after

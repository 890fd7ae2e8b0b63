use Rattle.std.proofs.Common.{length, slice_index_or, refl, ap, ◌∙◌, arith}
use Rattle.ce_model.specs.Space.{emptied_space}
use Rattle.ce_model.specs.Kernel.{with_space}
use Rattle.xm_block.specs.Stores.{BlockStore, ids_of}
use Rattle.xm_owner.specs.Holdings.{MappingTable, process_blocks}
use Rattle.rk_process.specs.OwnStates.{unborn_state}
use Rattle.rk_node.specs.Standing.{node_model}
use Rattle.rk_node.proofs.Windows.{windows-emptied}
use Rattle.rk_node.proofs.Maps.{all-filter, rising-filter, length-drained}
use Rattle.rk_node.proofs.Names.{pairs_apart, once-process, ids_of-process, ids_of-drained, length-with_blocks}
use Rattle.rk_node.proofs.Processes.{processes-held, same-but, length-processes}
use Rattle.rk_node.proofs.node.Node.release.Goals as goal

pub drain-requires-clause-room : goal.drain-requires-clause-room
drain-requires-clause-room c =
    let node = c.args.self.now in
    omega (arith, node.stocked.store_room, node.stocked.within, length-drained c.args.pid.number c.args.self.now.held_blocks.mappings _ refl)

pub drain-requires-clause-apart : goal.drain-requires-clause-apart
drain-requires-clause-apart c =
    let node = c.args.self.now in
    pairs_apart _ (once-process (node_model node) c.args.pid.number (ids_of (process_blocks c.args.pid.number node.held_blocks.mappings)) c.requires
    (omega (arith, length-processes node)) (ids_of-process node c.args.pid.number c.args.pid.within))

pub returns-clause-node : goal.returns-clause-node
returns-clause-node c =
    let node = c.args.self.now in
    let m = node.held_blocks.mappings in
    let m' = c.drain.new.self.mappings in
    let owns = node.processes.items in
    let own = slice_index_or owns c.args.pid.number unborn_state in
    let same = same-but c.args.pid.number m m' owns (λ q w differ. c.drain.ensures.others q w differ) in
    let processes = processes-held m m' owns c.args.pid.number (λ p. with_space p (emptied_space p.space)) (omega (arith, node.stocked.every_id)) same
    (ap (λ windows. record { status = own.status; registers = own.registers; pc = own.pc; space = record { private = own.private; windows = windows } })
    (windows-emptied m m' c.args.pid.number own.used_count c.drain.ensures.gone)) in
    let store = ids_of-drained node c.args.pid.number node.store.blocks _ c.args.pid.within (ap (λ (store : BlockStore). store.blocks) c.drain.ensures.moved) in
    λ i. record (node_model node) { processes = processes i; store = store i }

pub invariant_of-self-clause-stocked : goal.invariant_of-self-clause-stocked
invariant_of-self-clause-stocked c =
    let node = c.args.self.now in
    let m = node.held_blocks.mappings in
    let left = ap (λ (table : MappingTable). table.mappings) c.drain.ensures.left in
    let spare = ap (λ (table : MappingTable). table.spare) c.drain.ensures.left in
    let fewer = length-drained c.args.pid.number m c.drain.new.self.mappings left in
    let more = ap (λ (store : BlockStore). length store.blocks) c.drain.ensures.moved ∙ length-with_blocks (process_blocks c.args.pid.number m) node.store.blocks in
    let spare' = ap (λ (store : BlockStore). store.spare) c.drain.ensures.moved in
    record {
      every_id = node.stocked.every_id;
      windows = rw left (all-filter _ _ m node.stocked.windows);
      rising = rw left (rising-filter _ m node.stocked.rising);
      held_room = omega (arith, fewer, spare, node.stocked.held_room);
      store_room = omega (arith, more, spare', node.stocked.store_room, node.stocked.within, fewer);
      within = omega (arith, more, fewer, node.stocked.within);
    }

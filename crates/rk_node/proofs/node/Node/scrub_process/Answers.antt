use Rattle.std.proofs.Common.{ℕ, length, slice_set, ap, ◌∙◌, arith, length-set}
use Rattle.xm_block.specs.Stores.{BlockStore}
use Rattle.xm_owner.specs.Holdings.{MappingTable, process_blocks}
use Rattle.rk_process.specs.OwnStates.{process_with_mappings}
use Rattle.rk_node.specs.Standing.{node_model}
use Rattle.rk_node.specs.Hearings.{process_block_ids}
use Rattle.rk_node.proofs.Maps.{rising-filter, length-drained}
use Rattle.rk_node.proofs.Names.{ids_of-process, ids_of-drained, length-ids_of}
use Rattle.rk_node.proofs.Processes.{processes-set, same-but}
use Rattle.rk_node.proofs.Fresh.{unborn-in}
use Rattle.rk_node.proofs.Moved.{apart-blocks, within-reset}
use Rattle.rk_node.proofs.node.Node.scrub_process.Goals as goal

pub drain-requires-clause-room : goal.drain-requires-clause-room
drain-requires-clause-room c =
    let node = c.args.self.now in
    let ids = ids_of-process node c.args.pid.number c.args.pid.within in
    omega (arith, c.requires.room, ap {B = ℕ} length ids, length-ids_of (process_blocks c.args.pid.number node.held_blocks.mappings))

pub drain-requires-clause-apart : goal.drain-requires-clause-apart
drain-requires-clause-apart c =
    let node = c.args.self.now in
    apart-blocks (process_blocks c.args.pid.number node.held_blocks.mappings) (process_block_ids c.args.pid.number (node_model node)) c.args.out.now
    (ids_of-process node c.args.pid.number c.args.pid.within) c.requires.apart

pub returns-clause-node : goal.returns-clause-node
returns-clause-node c =
    let node = c.args.self.now in
    let m = node.held_blocks.mappings in
    let m' = c.drain.new.self.mappings in
    let owns = node.processes.items in
    ap (λ ps. record (node_model node) { processes = ps })
    (processes-set m m' owns c.args.pid.number c.reset.new.self (omega (arith, node.stocked.every_id)) (same-but c.args.pid.number m m' owns (λ q w differ. c.drain.ensures.others q w differ))
    ∙ ap (λ own. slice_set (node_model node).processes c.args.pid.number (process_with_mappings m' c.args.pid.number own)) c.reset.ensures
    ∙ ap (slice_set (node_model node).processes c.args.pid.number) (unborn-in m' c.args.pid.number))

pub returns-clause-moved : goal.returns-clause-moved
returns-clause-moved c =
    let node = c.args.self.now in
    ids_of-drained node c.args.pid.number c.args.out.now.blocks _ c.args.pid.within (ap (λ (store : BlockStore). store.blocks) c.drain.ensures.moved)

pub returns-clause-spare : goal.returns-clause-spare
returns-clause-spare c =
    let node = c.args.self.now in
    let ids = ids_of-process node c.args.pid.number c.args.pid.within in
    omega (arith, c.requires.room, ap {B = ℕ} length ids, length-ids_of (process_blocks c.args.pid.number node.held_blocks.mappings), ap (λ (store : BlockStore). store.spare) c.drain.ensures.moved)

pub invariant_of-self-clause-stocked : goal.invariant_of-self-clause-stocked
invariant_of-self-clause-stocked c =
    let node = c.args.self.now in
    let m = node.held_blocks.mappings in
    let owns = node.processes.items in
    let left = ap (λ (table : MappingTable). table.mappings) c.drain.ensures.left in
    let spare = ap (λ (table : MappingTable). table.spare) c.drain.ensures.left in
    let fewer = length-drained c.args.pid.number m c.drain.new.self.mappings left in
    record {
      every_id = length-set owns c.args.pid.number c.reset.new.self ∙ node.stocked.every_id;
      windows = rw left (within-reset owns c.args.pid.number c.reset.new.self m node.stocked.windows);
      rising = rw left (rising-filter _ m node.stocked.rising);
      held_room = omega (arith, fewer, spare, node.stocked.held_room);
      store_room = node.stocked.store_room;
      within = omega (arith, fewer, node.stocked.within);
    }

use Rattle.std.proofs.Common.{◌≡◌, ◌<◌, ◌+◌, List, length, map, slice_set, Some, ap, ◌∙◌, sym, arith, length-set}
use Rattle.ce_model.specs.Space.{window_start}
use Rattle.xm_owner.specs.Holdings.{Mapping, block_held_at}
use Rattle.rk_process.specs.OwnStates.{OwnState, place_of, process_with_mappings}
use Rattle.rk_node.specs.Moves.{with_mapped_block}
use Rattle.rk_node.specs.Standing.{node_model}
use Rattle.rk_node.specs.Tables.{used_count_of}
use Rattle.rk_node.proofs.Windows.{windows-mapped, vacant-unused}
use Rattle.rk_node.proofs.Maps.{all-put_in, rising-put_in, length-put_in}
use Rattle.rk_node.proofs.Processes.{processes-change, same-changed, used-read, used_by-read, used_by-set, within-grown, used-set, unused-fewer}
use Rattle.rk_node.proofs.node.Node.map.Goals as goal

pub give_window-window-requires : goal.give_window-window-requires
give_window-window-requires c =
    let node = c.args.self.now in
    unused-fewer node.held_blocks.mappings node.processes.items c.args.pid.number c.index_mut-process.result.now (omega arith) c.index_mut-process.ensures.value c.requires.unused

pub map-requires-clause-vacant : goal.map-requires-clause-vacant
map-requires-clause-vacant c =
    let node = c.args.self.now in
    let used = used_by-read node.processes.items c.args.pid.number c.index_mut-process.result.now (omega arith) c.index_mut-process.ensures.value in
    vacant-unused node.processes.items node.held_blocks.mappings c.args.pid.number c.give_window-window.result c.args.self.now.stocked.windows (omega (arith, used, c.give_window-window.ensures.window))

pub window_start-requires : goal.window_start-requires
window_start-requires c =
    let node = c.args.self.now in
    let fewer = unused-fewer node.held_blocks.mappings node.processes.items c.args.pid.number c.index_mut-process.result.now (omega arith) c.index_mut-process.ensures.value c.requires.unused in
    omega (arith, fewer, c.give_window-window.ensures.window)

pub returns-clause-start : goal.returns-clause-start
returns-clause-start c =
    let node = c.args.self.now in
    c.window_start.ensures ∙ ap window_start (c.give_window-window.ensures.window
    ∙ sym (used-read node.held_blocks.mappings node.processes.items c.args.pid.number c.index_mut-process.result.now (omega arith) c.index_mut-process.ensures.value))

pub returns-clause-node : goal.returns-clause-node
returns-clause-node c =
    let node = c.args.self.now in
    let m = node.held_blocks.mappings in
    let m' = c.map.new.self.mappings in
    let own = c.index_mut-process.result.now in
    let changes = rw c.give_window-window.ensures.window at c.map.ensures.change in
    ap (λ ps. record (node_model node) { processes = ps })
    (processes-change m m' node.processes.items c.args.pid.number own c.give_window-window.new.self (with_mapped_block c.args.block) (omega arith) c.index_mut-process.ensures.value
    (same-changed c.args.pid.number own.used_count (Some c.args.block) m m' node.processes.items changes)
    (ap (λ o. process_with_mappings m' c.args.pid.number o) c.give_window-window.ensures.after
    ∙ ap (λ windows. record { status = own.status; registers = own.registers; pc = own.pc; space = record { private = own.private; windows = windows } })
    (windows-mapped m m' c.args.pid.number own.used_count c.args.block changes)))

pub invariant_of-self-clause-stocked : goal.invariant_of-self-clause-stocked
invariant_of-self-clause-stocked c =
    let node = c.args.self.now in
    let m = node.held_blocks.mappings in
    let x : Mapping = record { pid = c.args.pid.number; window = c.give_window-window.result; block = c.args.block } in
    let after = ap (λ table. table.mappings) c.map.ensures.after in
    let spare = ap (λ table. table.spare) c.map.ensures.after in
    let o = c.index_mut-process.result.now in
    let o' = c.give_window-window.new.self in
    let used = used_by-read node.processes.items c.args.pid.number o (omega arith) c.index_mut-process.ensures.value in
    let vacant = vacant-unused node.processes.items m c.args.pid.number o.used_count node.stocked.windows (omega (arith, used)) in
    let used' : o'.used_count ≡ o.used_count + 1 = ap (λ (o : OwnState). o.used_count) c.give_window-window.ensures.after in
    let long : length c.map.new.self.mappings ≡ length m + 1 = ap (λ (ms : List Mapping). length ms) after ∙ length-put_in x m ∙ omega arith in
    let here : x.window < used_count_of (slice_set node.processes.items c.args.pid.number o') c.args.pid.number =
    omega (arith, used', c.give_window-window.ensures.window, used_by-set node.processes.items c.args.pid.number o' (omega arith)) in
    let grown = within-grown node.processes.items (slice_set node.processes.items c.args.pid.number o') (map place_of m)
    (used-set node.processes.items c.args.pid.number o o' (omega arith) c.index_mut-process.ensures.value (omega (arith, used'))) node.stocked.windows in
    record {
      every_id = length-set node.processes.items c.args.pid.number o' ∙ node.stocked.every_id;
      windows = rw after (all-put_in _ x m here grown);
      rising = rw after (rising-put_in x m (ap (block_held_at m c.args.pid.number) c.give_window-window.ensures.window ∙ vacant) node.stocked.rising);
      held_room = omega (arith, node.stocked.held_room, long, spare, c.requires.room);
      store_room = node.stocked.store_room;
      within = omega (arith, long, c.requires.room);
    }

use Rattle.std.proofs.Common.{◌≡◌, ℕ, suc, List, length, map, slice_index_or, IsSome, ap, ◌∙◌, sym, arith}
use Rattle.ce_model.specs.Kernel.{process_left_behind}
use Rattle.xm_owner.specs.Holdings.{Mapping, block_held_at, mappings_without}
use Rattle.rk_process.specs.OwnStates.{unborn_state, place_of}
use Rattle.rk_node.specs.Standing.{node_model}
use Rattle.rk_node.specs.Tables.{AreRisingPlaces}
use Rattle.rk_node.proofs.Windows.{windows-unmapped, used-held}
use Rattle.rk_node.proofs.Made.{some_held, at-some}
use Rattle.rk_node.proofs.Maps.{all-filter, rising-filter, length-without}
use Rattle.rk_node.proofs.Processes.{processes-held, same-changed}
use Rattle.rk_node.proofs.node.Node.take_out.Goals as goal

-- the window holds a block, so the map is one shorter
one_less : (m m' : List Mapping) (pid window : ℕ) → AreRisingPlaces (map place_of m) → IsSome (block_held_at m pid window) → m' ≡ mappings_without pid window m → suc (length m') ≡ length m
one_less m m' pid window rising held after =
    let there = some_held held in
    ap (λ (ms : List Mapping). suc (length ms)) after ∙ length-without pid window there.0 m rising there.1

pub returns-clause-node : goal.returns-clause-node
returns-clause-node c =
    let m = c.args.self.now.held_blocks.mappings in
    let m' = c.unmap.new.self.mappings in
    let owns = c.args.self.now.processes.items in
    let own = slice_index_or owns c.args.pid.number unborn_state in
    let used = used-held owns m c.args.pid.number c.args.window c.in-Some.block c.args.self.now.stocked.windows (sym c.unmap.ensures.block ∙ c.in-Some.is) in
    ap (λ ps. record (node_model c.args.self.now) { processes = ps })
    (processes-held m m' owns c.args.pid.number (process_left_behind c.args.window) (omega arith) (same-changed c.args.pid.number c.args.window _ m m' owns c.unmap.ensures.change)
    (ap (λ windows. record { status = own.status; registers = own.registers; pc = own.pc; space = record { private = own.private; windows = windows } })
    (windows-unmapped m m' c.args.pid.number own.used_count c.args.window used c.unmap.ensures.change)))

pub returns-clause-room : goal.returns-clause-room
returns-clause-room c =
    let node = c.args.self.now in
    omega (arith, node.stocked.within, one_less node.held_blocks.mappings c.unmap.new.self.mappings c.args.pid.number c.args.window node.stocked.rising c.requires c.unmap.ensures.after)

pub invariant_of-self-clause-stocked : goal.invariant_of-self-clause-stocked
invariant_of-self-clause-stocked c =
    let node = c.args.self.now in
    let m = node.held_blocks.mappings in
    let after = c.unmap.ensures.after in
    let fewer = one_less m c.unmap.new.self.mappings c.args.pid.number c.args.window node.stocked.rising c.requires after in
    let there = some_held c.requires in
    let spare = at-some c.unmap.result there.0 _ (c.unmap.ensures.block ∙ there.1) c.unmap.ensures.room in
    record {
      every_id = node.stocked.every_id;
      windows = rw after (all-filter _ _ m node.stocked.windows);
      rising = rw after (rising-filter _ m node.stocked.rising);
      held_room = omega (arith, node.stocked.held_room, fewer, spare);
      store_room = node.stocked.store_room;
      within = omega (arith, node.stocked.within, fewer);
    }

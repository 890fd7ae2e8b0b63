use Rattle.std.proofs.Common.{◌≡◌, ◌<◌, ℕ, List, length, map, slice_set, ap, sym, subst, ◌∙◌, arith, length-set}
use Rattle.std.proofs.lemmas.List.{length-map}
use Rattle.ce_model.specs.Process.{Process, turn_end}
use Rattle.xm_owner.specs.Holdings.{Mapping}
use Rattle.rk_process.specs.OwnStates.{OwnState, ProcessRest, place_of}
use Rattle.rk_process.specs.Runs.{turn_end_of}
use Rattle.rk_node.specs.Standing.{node_model, turn_model, processes_of}
use Rattle.rk_node.specs.Tables.{AreRisingPlaces, AreUsedWindows}
use Rattle.rk_node.proofs.Processes.{processes-set, process-read, process-put, same-others, within-change, turn-runs}
use Rattle.rk_node.proofs.Turns.{left-kept}
use Rattle.rk_node.proofs.node.Node.run_process.Goals as goal

pub run_to_call-requires : goal.run_to_call-requires
run_to_call-requires c =
    let node = c.args.self.now in
    ap (λ (p : Process). p.status) (sym (process-read node.held_blocks.mappings node.processes.items c.args.turn.now.pid.number c.index_mut-process.result.now (omega (arith, c.args.self.now.stocked.every_id, c.args.turn.now.pid.within)) c.index_mut-process.ensures.value))
    ∙ turn-runs (node_model node) (turn_model c.args.turn.now) c.requires.well c.args.turn.now.pid.within

module _ (c : goal.After-turn-1) where
  abbrev owns : List OwnState
  owns = c.args.self.now.processes.items

  abbrev m : List Mapping
  m = c.args.self.now.held_blocks.mappings

  abbrev m' : List Mapping
  m' = c.run_to_call.new.held_blocks.mappings

  abbrev pid : ℕ
  pid = c.args.turn.now.pid.number

pub returns-clause-reached : goal.returns-clause-reached
returns-clause-reached c =
    let within : pid c < length (owns c) = omega (arith, c.args.self.now.stocked.every_id, c.args.turn.now.pid.within) in
    ap (turn_end c.args.turn.now.instructions_left) (process-read (m c) (owns c) (pid c) c.index_mut-process.result.now within c.index_mut-process.ensures.value)
    ∙ c.run_to_call.ensures.reached
    ∙ ap (turn_end_of c.run_to_call.result c.run_to_call.new.instructions_left) (sym (process-put (m' c) (owns c) (pid c) c.run_to_call.new.self within))

pub returns-clause-node : goal.returns-clause-node
returns-clause-node c =
    let within : pid c < length (owns c) = omega (arith, c.args.self.now.stocked.every_id, c.args.turn.now.pid.within) in
    let others = ap (λ (rest : ProcessRest). rest.others) c.run_to_call.ensures.rest in
    ap (λ ps. record (node_model c.args.self.now) { processes = ps })
    (processes-set (m c) (m' c) (owns c) (pid c) c.run_to_call.new.self within (same-others (pid c) (m c) (m' c) (owns c) others)
    ∙ ap (slice_set (processes_of (m c) (owns c)) (pid c)) (sym (process-put (m' c) (owns c) (pid c) c.run_to_call.new.self within)))

pub invariant_of-self-clause-stocked : goal.invariant_of-self-clause-stocked
invariant_of-self-clause-stocked c =
    let node = c.args.self.now in
    let owns = node.processes.items in
    let m = node.held_blocks.mappings in
    let m' = c.run_to_call.new.held_blocks.mappings in
    let pid = c.args.turn.now.pid.number in
    let own' = c.run_to_call.new.self in
    let within : pid < length owns = omega (arith, node.stocked.every_id, c.args.turn.now.pid.within) in
    let rest = c.run_to_call.ensures.rest in
    let places : map place_of m' ≡ map place_of m = ap (λ (rest : ProcessRest). rest.windows) rest in
    let spare = ap (λ (rest : ProcessRest). rest.spare) rest in
    let long : length m' ≡ length m = sym (length-map m' place_of) ∙ ap {B = ℕ} length places ∙ length-map m place_of in
    record {
      every_id = length-set owns pid own' ∙ node.stocked.every_id;
      windows = subst (AreUsedWindows (slice_set owns pid own')) (sym places)
          (within-change owns pid c.index_mut-process.result.now own' (map place_of m) within c.index_mut-process.ensures.value (ap (λ (rest : ProcessRest). rest.used_count) rest) node.stocked.windows);
      rising = subst AreRisingPlaces (sym places) node.stocked.rising;
      held_room = omega (arith, node.stocked.held_room, long, spare);
      store_room = node.stocked.store_room;
      within = omega (arith, node.stocked.within, long);
    }

pub invariant_of-turn-clause-instructions : goal.invariant_of-turn-clause-instructions
invariant_of-turn-clause-instructions c =
    omega (arith, c.args.turn.now.instructions, left-kept c.args.turn.now.instructions_left c.run_to_call.new.instructions_left _ _ c.run_to_call.result c.run_to_call.ensures.reached)

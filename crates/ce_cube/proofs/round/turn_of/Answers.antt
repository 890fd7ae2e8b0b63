use Rattle.std.proofs.Common.{refl, arith}
use Rattle.ce_cube.specs.Crews.{serial_facts}
use Rattle.ce_cube.proofs.Crewing.{entries-few, turn-taken}
use Rattle.ce_cube.proofs.round.turn_of.Goals as goal

pub overflow_add-crew : goal.overflow_add-crew
overflow_add-crew c =
    omega (
      arith,
      entries-few c.args.machine.now c.take_turn.new.machine (serial_facts c.args.crew.now) (serial_facts c.args.crew.now) c.args.r c.in_ok-turn.turn.entries
          c.take_turn.new.node_box c.in_ok-turn.turn.has_work
          c.requires.crew c.requires.node c.in_ok-turn.ensures.turn c.in_ok-turn.ensures.in_step,
    )

pub returns : goal.returns
returns c =
    turn-taken c.args.machine.now c.take_turn.new.machine (serial_facts c.args.crew.now) _ c.args.r c.in_ok-turn.turn.entries c.take_turn.new.node_box c.in_ok-turn.turn.has_work
    c.requires.crew c.requires.node c.in_ok-turn.ensures.turn c.in_ok-turn.ensures.in_step refl refl refl refl

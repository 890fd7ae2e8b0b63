use Rattle.ce_cube.specs.Crews.{serial_facts}
use Rattle.ce_script.specs.Rounds.{serial}
use Rattle.ce_run.proofs.Returned.{has-cube, all-there, freecube-fits, sound-behind, free-reply, freed-done}
use Rattle.ce_run.proofs.commands.cubes.freecube.Goals as goal

pub drain-requires-clause-holds : goal.drain-requires-clause-holds
drain-requires-clause-holds c = has-cube c.args.machine.now (serial_facts c.args.crew) c.requires.user c.requires.in_step

pub come_home-boxes-requires : goal.come_home-boxes-requires
come_home-boxes-requires c = all-there c.args.machine.now (serial_facts c.args.crew) c.requires.user c.requires.in_step c.drain.new.machine c.in_ok-drained_blocks.drained_blocks.items c.in_ok-drained_blocks.ensures

pub ask-requires-clause-machine : goal.ask-requires-clause-machine
ask-requires-clause-machine c =
    sound-behind c.args.machine.now (serial_facts c.args.crew) c.requires.user c.requires.in_step c.drain.new.machine c.in_ok-drained_blocks.drained_blocks.items c.in_ok-drained_blocks.ensures

pub ask-requires-clause-fits : goal.ask-requires-clause-fits
ask-requires-clause-fits c =
    freecube-fits c.args.machine.now (serial_facts c.args.crew) c.requires.user c.requires.in_step c.drain.new.machine c.in_ok-drained_blocks.drained_blocks.items c.in_ok-drained_blocks.ensures
    c.come_home-boxes.result.0 c.come_home-boxes.result.1 c.come_home-boxes.ensures

pub unreachable-requires : goal.unreachable-requires
unreachable-requires c =
    c.in_default.not-Freed
    (free-reply c.args.machine.now (serial_facts c.args.crew) c.requires.user c.requires.in_step c.drain.new.machine c.in_ok-drained_blocks.drained_blocks.items c.in_ok-drained_blocks.ensures
    c.come_home-boxes.result.0 c.come_home-boxes.result.1 c.come_home-boxes.ensures c.ask.new.machine c.in_ok-ask.field-0 c.in_ok-ask.ensures)

pub returns : goal.returns
returns c =
    freed-done c.args.machine.now (serial_facts c.args.crew) c.requires.user c.requires.in_step c.drain.new.machine c.in_ok-drained_blocks.drained_blocks.items c.in_ok-drained_blocks.ensures
    c.come_home-boxes.result.0 c.come_home-boxes.result.1 c.come_home-boxes.ensures c.ask.new.machine c.in_ok-ask.field-0 c.in_ok-ask.ensures serial

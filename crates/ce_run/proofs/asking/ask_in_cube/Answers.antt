use Rattle.std.proofs.Common.{arith}
use Rattle.ce_cube.specs.Crews.{serial_facts}
use Rattle.ce_run.proofs.Calling.{host-fits, has-called, entries-fit}
use Rattle.ce_run.proofs.asking.ask_in_cube.Goals as goal

pub ask-requires-clause-fits : goal.ask-requires-clause-fits
ask-requires-clause-fits c =
    host-fits c.args.machine.now.parts c.args.machine.now.history c.args.crew.now.grant.user c.args.call c.requires.machine.within c.requires.call

pub overflow_add-crew : goal.overflow_add-crew
overflow_add-crew c =
    let less = entries-fit c.args.machine.now c.ask.new.machine (serial_facts c.args.crew.now) c.args.call c.in_ok-reply.reply c.requires.machine c.requires.nodes
    c.requires.call c.in_ok-reply.ensures in omega (arith, less)

pub returns : goal.returns
returns c =
    has-called c.args.machine.now c.ask.new.machine (serial_facts c.args.crew.now) c.args.call c.in_ok-reply.reply c.requires.machine c.requires.nodes c.requires.call
    c.in_ok-reply.ensures

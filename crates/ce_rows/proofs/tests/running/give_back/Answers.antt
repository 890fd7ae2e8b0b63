use Rattle.ce_rows.proofs.Opening.{given-boxes}
use Rattle.ce_rows.proofs.tests.running.give_back.Goals as goal

pub ask-requires-clause-boxes : goal.ask-requires-clause-boxes
ask-requires-clause-boxes g c =
    given-boxes g.N.Homed.home g.N.Homed.clean c.args.boxes c.args.machine.now.history c.requires.at.history_is c.requires.boxes

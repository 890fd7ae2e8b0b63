use Rattle.ce_rows.specs.Rows.{row_of}
use Rattle.ce_rows.proofs.Rows.{is-machine, are-entries}
use Rattle.ce_rows.proofs.NextEntry.{next-fits, next-at, next-reply}
use Rattle.ce_rows.proofs.request.ask.Goals as goal

pub act-requires : goal.act-requires
act-requires g c =
    next-fits g.N.Homed.home g.N.Homed.clean (row_of c.args.row) (is-machine c.args.row) (are-entries c.args.row) c.args.count c.args.machine.now c.requires.at c.args.who c.args.call c.requires.next c.requires.boxes

pub returns-in-Ok-clause-at : goal.returns-in-Ok-clause-at
returns-in-Ok-clause-at g c =
    next-at g.N.Homed.home g.N.Homed.clean (row_of c.args.row) (is-machine c.args.row) (are-entries c.args.row) c.args.count c.args.machine.now c.requires.at c.args.who c.args.call c.requires.next
    c.in-Ok.reply c.act.new.self c.in-Ok.ensures.grows.0 c.in-Ok.ensures.fixed c.in-Ok.ensures.grows.1 c.in-Ok.ensures.grows.2

pub returns-in-Ok-clause-reply : goal.returns-in-Ok-clause-reply
returns-in-Ok-clause-reply g c =
    next-reply g.N.Homed.home g.N.Homed.clean (row_of c.args.row) (is-machine c.args.row) (are-entries c.args.row) c.args.count c.args.machine.now c.requires.at c.args.who c.args.call c.requires.next
    c.in-Ok.reply c.act.new.self c.in-Ok.ensures.grows.0 c.in-Ok.ensures.fixed c.in-Ok.ensures.grows.1 c.in-Ok.ensures.grows.2

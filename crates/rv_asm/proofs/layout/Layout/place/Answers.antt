use Rattle.rv_asm.proofs.Sounding.{placed_push}
use Rattle.rv_asm.proofs.layout.Layout.place.Goals as goal

pub invariant_of-self-2-clause-sound : goal.invariant_of-self-2-clause-sound
invariant_of-self-2-clause-sound c =
    rw c.in_ok-push.ensures.items
    (placed_push c.args.self.now.statements.items (record { line = c.args.line_number; statement = c.args.statement }) c.args.self.now.sound c.requires)

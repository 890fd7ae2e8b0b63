use Rattle.rv_asm.proofs.Sounding.{sound_push}
use Rattle.rv_asm.proofs.statement.gather.Goals as goal

pub returns-in_ok-push-in-Ok-clause-sound : goal.returns-in_ok-push-in-Ok-clause-sound
returns-in_ok-push-in-Ok-clause-sound c = λ old.
    let sound = rw c.in-Ok.is at c.requires in
    rw c.in_ok-push-in-Ok.ensures.items (sound_push c.args.list.now.items c.in-Ok.statement old sound)

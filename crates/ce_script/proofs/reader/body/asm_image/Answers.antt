use Rattle.ce_script.proofs.BodyFaults.{asm_there}
use Rattle.ce_script.proofs.reader.body.asm_image.Goals as goal

pub returns-in-Ok : goal.returns-in-Ok
returns-in-Ok c = λ lines is. asm_there c.args.body lines is c.in-Ok.image c.in-Ok.ensures

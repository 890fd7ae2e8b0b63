use Rattle.std.proofs.Common.{Some, None}
use Rattle.ce_script.proofs.BodyFaults.{hex_judged, hex_there}
use Rattle.ce_script.proofs.reader.body.hex_image.Goals as goal

pub returns-in-Ok : goal.returns-in-Ok
returns-in-Ok c = λ lines is. (
  hex_judged c.args.body lines is c.in_ok-bytes.bytes.items None c.in_ok-bytes.ensures.0 c.in_ok-bytes.ensures.1 c.in-Ok.ensures.fault,
  hex_there c.args.body lines is c.in_ok-bytes.bytes.items c.in-Ok.image c.in_ok-bytes.ensures.1 c.in-Ok.ensures.same,
)

pub returns-in-Err : goal.returns-in-Err
returns-in-Err c = λ lines is.
    rw c.fault_of_line.ensures (hex_judged c.args.body lines is c.in_ok-bytes.bytes.items (Some c.in-Err.field-0) c.in_ok-bytes.ensures.0 c.in_ok-bytes.ensures.1 c.in-Err.ensures.fault)

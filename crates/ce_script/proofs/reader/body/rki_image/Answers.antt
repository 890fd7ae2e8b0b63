use Rattle.std.proofs.Common.{Some, None, sym, ◌∙◌}
use Rattle.rv_image.proofs.Spelled.{fields_of-rki1}
use Rattle.ce_script.proofs.BodyFaults.{rki_judged, rki_there, named}
use Rattle.ce_script.proofs.reader.body.rki_image.Goals as goal

pub returns-in-Ok : goal.returns-in-Ok
returns-in-Ok c = λ lines is.
    let exact = rw c.as_slice.ensures.value at c.in-Ok.ensures.exact in
    let found = rw c.as_slice.ensures.value at c.in-Ok.ensures.found in (
      rki_judged c.args.body lines is c.in_ok-bytes.bytes.items None c.in_ok-bytes.ensures.0 c.in_ok-bytes.ensures.1 exact,
      rki_there c.args.body lines is c.in_ok-bytes.bytes.items c.in-Ok.image c.in_ok-bytes.ensures.1 (fields_of-rki1 c.in_ok-bytes.bytes.items c.in-Ok.image found),
    )

pub returns : goal.returns
returns c = λ lines is.
    let exact = rw c.as_slice.ensures.value at c.in-Err.ensures.exact in
    rw c.fault_of_line-in_default.ensures
    (rki_judged c.args.body lines is c.in_ok-bytes.bytes.items (Some c.in-Err.fault) c.in_ok-bytes.ensures.0 c.in_ok-bytes.ensures.1
    (sym (named c.in-Err.fault c.in_default.not-Memory) ∙ exact))

use Rattle.std.proofs.Common.{◌∙◌, arith}
use Rattle.std.proofs.lemmas.Result.{err_from_is_err_and}
use Rattle.rv_image.proofs.Spelled.{found_in, fault_of-rki1, fields_of-rki1, named_fault}
use Rattle.rv_image.proofs.image.rki1.read.Goals as goal

-- bytes that spell an image have no fault
pub returns-in_err-fields-clause-only : goal.returns-in_err-fields-clause-only
returns-in_err-fields-clause-only c =
    λ image rki1. let none = fault_of-rki1 c.args.bytes.now image rki1 in cc (c.in_err-fields.ensures.fault)

-- what is found is the image that they spell
pub returns-clause-only : goal.returns-clause-only
returns-clause-only c =
    λ image rki1. rw c.in_ok-loaded.ensures.items (c.in_ok-fields.ensures.found ∙ fields_of-rki1 c.args.bytes.now image rki1)

pub returns-in_err-fields-clause-exact : goal.returns-in_err-fields-clause-exact
returns-in_err-fields-clause-exact c =
    let p = err_from_is_err_and c.from_residual.result c.from_residual.ensures.1 in
    rw (p.1, p.2) (named_fault c.args.bytes.now _ c.in_err-fields.ensures.fault)

pub invariant_of-result : goal.invariant_of-result
invariant_of-result c =
    rw c.in_ok-loaded.ensures.items
    (found_in c.args.bytes.now _ (λ i. omega (arith, c.type_inv.bytes i)) c.in_ok-fields.ensures.found c.in_ok-fields.ensures.fault).valid

pub returns-clause-found : goal.returns-clause-found
returns-clause-found c =
    rw c.in_ok-loaded.ensures.items
    (found_in c.args.bytes.now _ (λ i. omega (arith, c.type_inv.bytes i)) c.in_ok-fields.ensures.found c.in_ok-fields.ensures.fault)

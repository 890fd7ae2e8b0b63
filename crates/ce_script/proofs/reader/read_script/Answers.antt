use Rattle.std.proofs.Common.{◌≡◌, ◌∷◌, subst, false, Some, List}
use Rattle.std.proofs.lemmas.Result.{err_from_is_err_and}
use Rattle.ce_script.specs.Lines.{Line}
use Rattle.ce_script.specs.Statements.{statements}
use Rattle.ce_script.specs.ReadLines.{lines_left, remaining_statements}
use Rattle.ce_script.specs.Faults.{first_statement_fault}
use Rattle.ce_script.specs.Standing.{HasReadUpTo}
use Rattle.ce_script.proofs.BodyLines.{line_at}
use Rattle.ce_script.proofs.BodyEnds.{next_line}
use Rattle.ce_script.proofs.Further.{begins_reading, ends_reading, is_known, is_no_want, first_is}
use Rattle.ce_script.proofs.WithinLimits.{within_limits}
use Rattle.ce_script.proofs.reader.read_script.Goals as goal
use Rattle.ce_script.proofs.reader.read_script.Goals.{In-Some}

pub loop-line-init : goal.loop-line-init
loop-line-init c = begins_reading c.args.bytes.now c.new-reader.result.so_far c.new-rest.result c.new-reader.ensures c.new-rest.ensures.before c.new-rest.ensures.text

-- the reader stands at the line that was cut off
at : (c : In-Some) → HasReadUpTo (statements c.args.bytes.now) c.loop-line.reader.so_far (remaining_statements false (line_at c.in-Some.next.line_count c.in-Some.line.now ∷ lines_left c.in-Some.next))
at c =
    subst (λ (lines : List Line). HasReadUpTo (statements c.args.bytes.now) c.loop-line.reader.so_far (remaining_statements false lines))
    (next_line c.loop-line.rest c.in-Some.line.now c.in-Some.next c.in-Some.ensures) c.loop-line.invariant

pub returns-in_err-reader-clause-fault : goal.returns-in_err-reader-clause-fault
returns-in_err-reader-clause-fault c =
    let all = statements c.args.bytes.now in
    let fault = c.in_err-reader.field-0.0 in
    let known = c.in_err-reader.ensures.stands all (at (goal.at.returns-in_err-reader-clause-fault c).In-Some) in
    let p = err_from_is_err_and c.from_residual.result c.from_residual.ensures.1 in
    rw (p.1, p.2) (λ other. first_is c.args.bytes.now fault (is_known fault.kind (first_statement_fault all ≡ Some fault) known other))

pub returns-in_err-reader-clause-told : goal.returns-in_err-reader-clause-told
returns-in_err-reader-clause-told c =
    let all = statements c.args.bytes.now in
    let fault = c.in_err-reader.field-0.0 in
    let known = c.in_err-reader.ensures.stands all (at (goal.at.returns-in_err-reader-clause-told c).In-Some) in
    let p = err_from_is_err_and c.from_residual.result c.from_residual.ensures.1 in
    rw (p.1, p.2) (is_no_want fault.kind (first_statement_fault all ≡ Some fault) known)

pub loop-line-preserved : goal.loop-line-preserved
loop-line-preserved c = c.in_ok-reader.ensures.stands (statements c.args.bytes.now) (at (goal.at.loop-line-preserved c).In-Some)

pub returns-clause-script : goal.returns-clause-script
returns-clause-script c = ends_reading c.args.bytes.now c.loop-line.reader.so_far c.loop-line.rest c.in_default.ensures c.loop-line.invariant

pub invariant_of-result : goal.invariant_of-result
invariant_of-result c =
    let is_script = ends_reading c.args.bytes.now c.loop-line.reader.so_far c.loop-line.rest c.in_default.ensures c.loop-line.invariant in
    record { within = within_limits c.args.bytes.now c.loop-line.reader.so_far.script is_script }

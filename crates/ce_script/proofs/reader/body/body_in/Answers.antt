use Rattle.std.proofs.Common.{◌≡◌, ◌∙◌, ◌-◌, [], sym, ap, refl, ℕ, List, Option, length, take}
use Rattle.std.specs.Prelude.{unwrap_or}
use Rattle.ce_script.proofs.BodyLines.{bytes_left}
use Rattle.ce_script.proofs.BodyEnds.{body_goes_on, body_found, body_ended, nothing_left, taken, is_at}
use Rattle.ce_script.proofs.reader.body.body_in.Goals as goal

pub returns-in_err-all : goal.returns-in_err-all
returns-in_err-all c = rw c.from_residual.ensures (nothing_left c.args.rest (ap bytes_left c.in_err-all.was))

pub loop-line-preserved : goal.loop-line-preserved
loop-line-preserved c =
    body_goes_on c.args.rest c.loop-line.tail c.in-Some.next c.in_ok-all.all.now c.in-Some.line.now
    c.loop-line.invariant c.in-Some.ensures (sym c.if-is_end.ensures)

pub returns-then-is_end : goal.returns-then-is_end
returns-then-is_end c =
    let all = c.in_ok-all.all.now in
    let step = c.in-Some.ensures in
    let at = is_at c.loop-line.invariant.done all c.loop-line.tail.text step.bytes step.is c.loop-line.invariant.bytes in
    let count : c.byte_count.result ≡ length step.bytes = c.byte_count.ensures ∙ ap (λ (bytes_left : Option (List ℕ)). length (unwrap_or bytes_left [])) step.is in
    body_found c.args.rest c.loop-line.tail c.in-Some.next all c.in-Some.line.now
    c.loop-line.invariant step _ refl (sym c.if-is_end.ensures) (ap (λ (n : ℕ). take (length all - n) all) count ∙ taken all _ step.bytes at.joins) at.each

pub returns : goal.returns
returns c = body_ended c.args.rest c.loop-line.tail c.in_ok-all.all.now c.loop-line.invariant c.in_default.ensures

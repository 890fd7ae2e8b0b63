use Rattle.std.proofs.Common.{◌≡◌, ◌+◌, ◌*◌, ◌<◌, get_or, drop, sym, ◌∙◌, arith}
use Rattle.std.specs.Char.{digit_value}
use Rattle.ce_text.proofs.Digits.{judged_all, judged_more, judged_over}
use Rattle.ce_text.proofs.number.number_of_digits.Goals as goal

pub returns-then-value-greatest-clause-value : goal.returns-then-value-greatest-clause-value
returns-then-value-greatest-clause-value c =
    let digits = c.args.digits.now in
    let place = c.loop-byte.byte-index in
    let digit = digit_value (get_or digits place 0) in
    let value = c.loop-byte.value * c.args.base + digit in
    let small : digit < c.args.base = c.in_ok-digit.ensures.value.0 in
    let same : c.in_ok-digit.digit ≡ digit = c.in_ok-digit.ensures.value.1 in
    let base_is : c.from.result ≡ c.args.base = c.from.ensures in
    let digit_is : c.from-in-loop-byte.result ≡ digit = c.from-in-loop-byte.ensures ∙ same in
    let over : c.args.greatest < value = rw (base_is, digit_is) at c.if-value-greatest.true in
    sym
    (judged_all c.args.base c.args.greatest digits (omega arith)
    ∙ sym c.loop-byte.invariant.1
    ∙ sym (judged_more c.args.base c.args.greatest c.loop-byte.value digits place (omega arith) small)
    ∙ judged_over c.args.base c.args.greatest value (drop (place + 1) digits) (omega arith) over)

use Rattle.std.proofs.Common.{◌∙◌, sym, ap, arith, Some}
use Rattle.ce_script.proofs.Messages.{data_none, data_long, data_digits, data_other, data_fits}
use Rattle.ce_script.proofs.spelling.data_in.Goals as goal

pub returns-then-eq : goal.returns-then-eq
returns-then-eq c =
    let dash = rw c.as_slice.ensures at c.if-eq.ensures in
    ap Some (c.from_vec.ensures ∙ c.new-bytes.ensures.items) ∙ sym (data_none c.args.word.now (sym dash))

pub returns-then-word-gt-DATA_DIGITS : goal.returns-then-word-gt-DATA_DIGITS
returns-then-word-gt-DATA_DIGITS c =
    let dash = rw c.as_slice.ensures at c.if-eq.ensures in
    sym (data_long c.args.word.now (sym dash) c.if-word-gt-DATA_DIGITS.true)

pub returns-then-not-are_byte_digits : goal.returns-then-not-are_byte_digits
returns-then-not-are_byte_digits c =
    let dash = rw c.as_slice.ensures at c.if-eq.ensures in
    sym (data_other c.args.word.now (sym dash) (omega arith) (sym c.if-not-are_byte_digits.ensures))

pub from_vec-requires-2 : goal.from_vec-requires-2
from_vec-requires-2 c =
    let pushed = rw c.new-bytes.ensures.items at c.in_ok-push_digit_bytes.ensures in
    rw pushed (data_fits c.args.word.now (omega arith))

pub returns : goal.returns
returns c =
    let dash = rw c.as_slice.ensures at c.if-eq.ensures in
    let pushed = rw c.new-bytes.ensures.items at c.in_ok-push_digit_bytes.ensures in
    ap Some (c.from_vec-2.ensures ∙ pushed)
    ∙ sym (data_digits c.args.word.now (sym dash) (omega arith) (sym c.if-not-are_byte_digits.ensures))

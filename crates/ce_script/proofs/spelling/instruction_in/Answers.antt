use Rattle.std.proofs.Common.{◌∙◌, sym, ap}
use Rattle.std.specs.Prelude.{option_map}
use Rattle.std.specs.Int.{w32, to_le_bytes}
use Rattle.ce_script.proofs.DigitPairs.{instruction_is, instruction_is_not}
use Rattle.ce_script.proofs.spelling.instruction_in.Goals as goal

pub returns-then-word-ne-INSTRUCTION_DIGITS : goal.returns-then-word-ne-INSTRUCTION_DIGITS
returns-then-word-ne-INSTRUCTION_DIGITS c = sym (instruction_is_not c.args.word.now c.if-word-ne-INSTRUCTION_DIGITS.true)

pub returns-in_err-number : goal.returns-in_err-number
returns-in_err-number c =
    let value = rw c.from.ensures at c.number_of_digits.ensures.value in
    ap (option_map (to_le_bytes w32)) (c.from_residual.ensures ∙ sym (c.in_err-number.was) ∙ value)
    ∙ instruction_is c.args.word.now c.if-word-ne-INSTRUCTION_DIGITS.false

pub returns : goal.returns
returns c =
    let value = rw c.from.ensures at c.number_of_digits.ensures.value in
    ap (option_map (to_le_bytes w32)) (sym (c.in_ok-number.was) ∙ value)
    ∙ instruction_is c.args.word.now c.if-word-ne-INSTRUCTION_DIGITS.false

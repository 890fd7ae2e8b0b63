use Rattle.std.proofs.Common.{◌∙◌, sym, ap, arith}
use Rattle.ce_script.specs.declared.script.ScriptKind.TheVariants.{BadNumber}
use Rattle.ce_script.specs.Spellings.{bounded_number}
use Rattle.ce_script.specs.Statements.{operand}
use Rattle.ce_script.specs.ReadLines.{statement_of_line}
use Rattle.ce_script.proofs.Numbers.{number_there}
use Rattle.ce_script.proofs.reader.operand.number.Goals as goal

pub returns-in-Some : goal.returns-in-Some
returns-in-Some c =
    let found = sym c.in-Some.is ∙ c.bounded_number.ensures ∙ ap (bounded_number c.args.greatest) c.operand.ensures in
    number_there BadNumber (operand c.args.index (statement_of_line c.args.line.now)) c.in-Some.number c.args.greatest (omega arith) found

use Rattle.ce_script.specs.ReadLines.{statement_of_line}
use Rattle.ce_script.proofs.OperandFaults.{spawn_there}
use Rattle.ce_script.proofs.reader.operand.command.Goals as goal

pub returns-in_ok-place-in-Spawn : goal.returns-in_ok-place-in-Spawn
returns-in_ok-place-in-Spawn c = λ names is.
    let image = rw c.operand.ensures at (c.in_ok-image-in-Spawn.ensures names is) in
    rw c.in-Spawn.is
    (spawn_there names (statement_of_line c.args.line.now) c.in_ok-image-in-Spawn.image c.in_ok-place-in-Spawn.field-0 image c.in_ok-place-in-Spawn.ensures)

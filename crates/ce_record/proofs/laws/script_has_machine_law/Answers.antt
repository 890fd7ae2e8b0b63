use Rattle.ce_record.proofs.Legal.{script_has_machine}
use Rattle.ce_record.proofs.laws.script_has_machine_law.Goals as goal

pub returns : goal.returns
returns c = record { law = script_has_machine }

use Rattle.ce_cube.proofs.Counts.{boxes_in_step-end-turns}
use Rattle.ce_cube.proofs.laws.boxes_in_step_end_turns_law.Goals as goal

pub returns : goal.returns
returns c = record { law = boxes_in_step-end-turns }

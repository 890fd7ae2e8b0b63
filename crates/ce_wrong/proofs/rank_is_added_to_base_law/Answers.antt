use Rattle.ce_wrong.proofs.Refuted.{rank_added_to_base}
use Rattle.ce_wrong.proofs.rank_is_added_to_base_law.Goals as goal

pub returns : goal.returns
returns c = record { law = rank_added_to_base }

use Rattle.std.proofs.Common.{ap, ◌∙◌}
use Rattle.ce_lock.specs.declared.who.Who.{Who}
use Rattle.ce_tally.proofs.RowLemmas.{among}
use Rattle.ce_tally.proofs.row.worker_calls.Goals as goal

pub returns-clause-worker : goal.returns-clause-worker
returns-clause-worker g c = let made = c.in-Ok.ensures.answered in among 0 3 1 made.0 _ made.1 _ made.3 c.join.ensures.begins_worker (made.5.actor ∙ (c.split-worker.ensures.actor ∙ ap (λ (w : Who). record { family = w.family; actor = 3 }) c.requires.actor)) made.5.number

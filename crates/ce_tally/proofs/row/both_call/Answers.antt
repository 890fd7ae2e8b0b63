use Rattle.ce_tally.proofs.RowLemmas.{added_first}
use Rattle.ce_tally.proofs.row.both_call.Goals as goal

pub returns-clause-first_head : goal.returns-clause-first_head
returns-clause-first_head g c = let made = c.in-Ok.ensures.answered in added_first _ 0 5 _ _ made.1 c.in_ok-book.ensures.first_head c.in-Ok.ensures.same c.in-Ok.ensures.out made.4 made.5.number

pub returns-clause-second_head : goal.returns-clause-second_head
returns-clause-second_head g c = let made = c.in-Ok-call.ensures.answered in added_first _ 1 7 _ _ made.1 c.in_ok-book.ensures.second_head c.in-Ok-call.ensures.same c.in-Ok-call.ensures.out made.4 made.5.number

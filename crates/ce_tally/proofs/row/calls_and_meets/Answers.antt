use Rattle.ce_tally.proofs.RowLemmas.{still_added, only_one, still_among}
use Rattle.ce_tally.proofs.row.calls_and_meets.Goals as goal

pub returns-clause-first_head : goal.returns-clause-first_head
returns-clause-first_head g c = still_added _ 0 5 _ _ c.in_ok-one.ensures.head c.meet-2.ensures.same_a c.meet-2.ensures.rest_a.0 c.meet-2.ensures.rest_a.1

pub returns-clause-second_head : goal.returns-clause-second_head
returns-clause-second_head g c = still_added _ 1 7 _ _ (still_added _ 1 7 _ _ c.in_ok-book.ensures.second_head c.meet.ensures.same_b c.meet.ensures.rest_b.0 c.meet.ensures.rest_b.1) c.meet-2.ensures.same_b c.meet-2.ensures.rest_b.0 c.meet-2.ensures.rest_b.1

pub returns-clause-only_five : goal.returns-clause-only_five
returns-clause-only_five g c = only_one _ 0 5 _ (still_added _ 0 5 _ _ c.in_ok-one.ensures.head c.meet-2.ensures.same_a c.meet-2.ensures.rest_a.0 c.meet-2.ensures.rest_a.1) c.meet-2.ensures.known_a.own

pub returns-clause-only_seven : goal.returns-clause-only_seven
returns-clause-only_seven g c = only_one _ 1 7 _ (still_added _ 1 7 _ _ (still_added _ 1 7 _ _ c.in_ok-book.ensures.second_head c.meet.ensures.same_b c.meet.ensures.rest_b.0 c.meet.ensures.rest_b.1) c.meet-2.ensures.same_b c.meet-2.ensures.rest_b.0 c.meet-2.ensures.rest_b.1) c.meet-2.ensures.known_b.own

pub returns-clause-worker : goal.returns-clause-worker
returns-clause-worker g c = still_among 0 3 1 _ _ c.in_ok-one.ensures.worker c.meet-2.ensures.begins_a

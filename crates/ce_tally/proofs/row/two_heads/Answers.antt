use Rattle.std.proofs.Common.{arith}
use Rattle.ce_tally.proofs.RowLemmas.{two_of}
use Rattle.ce_tally.proofs.row.two_heads.Goals as goal

pub returns-clause-first_head : goal.returns-clause-first_head
returns-clause-first_head c = let e = two_of c.in-Ok.heads.items c.pop.new.self.items c.pop-2.new.self.items c.in_ok-first_head.first_head c.in_ok-second_head.second_head c.in_ok-second_head.ensures.items c.in_ok-first_head.ensures.items c.in-Ok.ensures.count in
    let h = c.in-Ok.ensures.heads 0 c.in_ok-first_head.first_head (omega arith) in rw e at h

pub returns-clause-second_head : goal.returns-clause-second_head
returns-clause-second_head c = let e = two_of c.in-Ok.heads.items c.pop.new.self.items c.pop-2.new.self.items c.in_ok-first_head.first_head c.in_ok-second_head.second_head c.in_ok-second_head.ensures.items c.in_ok-first_head.ensures.items c.in-Ok.ensures.count in
    let h = c.in-Ok.ensures.heads 1 c.in_ok-first_head.first_head (omega arith) in rw e at h

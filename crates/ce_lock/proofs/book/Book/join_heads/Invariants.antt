use Rattle.std.proofs.Common.{◌≡◌, List, ◌++◌, map, vec_len}
use Rattle.ce_lock.specs.Telling.{idle_place, no_actor, joined_head_of}
use Rattle.ce_lock.specs.Sitting.{SeatFacts}
use Rattle.ce_lock.proofs.book.Book.join_heads.Given as goal

abbrev pub invariant-loop-head : goal.invariant-loop-head
invariant-loop-head g l = record {
  chair : l.closer.table_id ≡ l.self.table;
  place : l.closer.me.0.place ≡ idle_place;
  right : l.closer.me.0.right ≡ no_actor;
  joined_heads : (closed : List (SeatFacts g.row.O.Denot g.row.O-Entry.Denot)) × (l.heads.items ++ closed ≡ l.fn.heads.items) × (l.closer.me.0.page.joined_heads ≡ map (λ s. joined_head_of s.1) closed);
}

abbrev pub decreases-loop-head : goal.decreases-loop-head
decreases-loop-head g l = vec_len l.heads

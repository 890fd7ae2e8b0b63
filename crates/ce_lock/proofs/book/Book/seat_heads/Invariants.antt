use Rattle.std.proofs.Common.{◌≡◌, ℕ, ◌+◌, ◌<◌, ◌≤◌, [], length, get_or, vec_capacity, vec_len}
use Rattle.ce_lock.specs.Telling.{fresh_head}
use Rattle.ce_lock.specs.Sitting.{SeatFacts, IsNewHead}
use Rattle.ce_lock.proofs.book.Book.seat_heads.Given as goal

abbrev pub invariant-loop-family : goal.invariant-loop-family
invariant-loop-family g l = record {
  chair : l.maker.table_id ≡ l.self.table;
  view : l.maker.me ≡ (fresh_head l.self.opening l.family (l.family + 1), []);
  count : length l.heads.items ≡ l.family;
  len : vec_len l.heads ≡ l.family;
  room : l.fn.families ≤ vec_capacity l.heads;
  heads : (k : ℕ) (d : SeatFacts g.row.O.Denot g.row.O-Entry.Denot) → k < l.family → IsNewHead l.self k (get_or l.heads.items k d);
}

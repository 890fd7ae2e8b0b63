use Rattle.std.proofs.Common.{◌≡◌, ℕ, ◌+◌, ◌-◌, List, [], length, get_or, sym, ap, ◌∙◌, subst, arith}
use Rattle.std.proofs.lemmas.List.{length_push}
use Rattle.ce_lock.specs.Sitting.{SeatFacts, IsNewHead}
use Rattle.ce_lock.specs.Telling.{fresh_head}
use Rattle.ce_lock.proofs.Endings.{new_head, heads_grow}
use Rattle.ce_lock.proofs.book.Book.seat_heads.Goals as goal

pub loop-family-init : goal.loop-family-init
loop-family-init g c = record {
  chair = c.requires.first.0;
  view = c.requires.first.1;
  count = ap length c.requires.room.0;
  len = c.args.heads.ok.0 ∙ ap length c.requires.room.0;
  room = c.requires.room.1;
  heads = λ k d low. absurd (omega arith);
}

pub next_seat-next-requires-clause-live : goal.next_seat-next-requires-clause-live
next_seat-next-requires-clause-live g c = ap (λ me. me.0.right.is_spent) c.loop-family.invariant.view

pub next_seat-next-requires-clause-made : goal.next_seat-next-requires-clause-made
next_seat-next-requires-clause-made g c = let e = ap (λ me. me.0.right.heads) c.loop-family.invariant.view in omega (arith, e)

pub next_seat-next-requires-clause-room : goal.next_seat-next-requires-clause-room
next_seat-next-requires-clause-room g c = let e = ap (λ me. me.0.right.heads) c.loop-family.invariant.view in let f = ap (λ b. b.families) c.self.view_is in
    omega (arith, e, f, c.requires.families.1, c.loop-family-test.true)

pub push_reserved-requires : goal.push_reserved-requires
push_reserved-requires g c = let i = c.loop-family.invariant in omega (arith, i.len, i.room, c.loop-family-test.true)

pub of_head-requires-2 : goal.of_head-requires-2
of_head-requires-2 g c = let i = c.loop-family.invariant in let last : c.loop-family.family ≡ c.args.families - 1 = omega (arith, c.loop-family-test.false, c.loop-family.auto.family-end) in
    (c.args.self.now.opening, c.loop-family.family + 1, i.view ∙ ap (λ (n : ℕ). (fresh_head c.args.self.now.opening n (c.loop-family.family + 1), [])) last)

pub push_reserved-requires-2 : goal.push_reserved-requires-2
push_reserved-requires-2 g c = let i = c.loop-family.invariant in omega (arith, i.len, i.room, c.loop-family.auto.family-end, c.requires.families.0)

pub returns-clause-count : goal.returns-clause-count
returns-clause-count g c = let i = c.loop-family.invariant in let e = ap length c.push_reserved-2.ensures.items ∙ (length_push c.loop-family.heads.items c.of_head-2.result ∙ ap (λ (n : ℕ). n + 1) i.count) in
    omega (arith, e, c.loop-family-test.false, c.loop-family.auto.family-end, c.requires.families.0)

pub returns-clause-heads : goal.returns-clause-heads
returns-clause-heads g c k d low = let i = c.loop-family.invariant in
    subst (λ (l : List (SeatFacts g.row.O.Denot g.row.O-Entry.Denot)). IsNewHead c.args.self.now k (get_or l k d)) (sym c.push_reserved-2.ensures.items)
    (heads_grow c.args.self.now c.loop-family.heads.items c.loop-family.family c.of_head-2.result i.count i.heads
    (subst (λ (s : SeatFacts g.row.O.Denot g.row.O-Entry.Denot). IsNewHead c.args.self.now c.loop-family.family s) (sym c.of_head-2.ensures)
    (new_head c.args.self.now c.loop-family.family (c.loop-family.family + 1) c.loop-family.maker.table_id c.loop-family.maker.me.0 i.chair
    (ap (λ me. me.0) i.view))) k d (omega (arith, c.loop-family-test.false, c.loop-family.auto.family-end, c.requires.families.0)))

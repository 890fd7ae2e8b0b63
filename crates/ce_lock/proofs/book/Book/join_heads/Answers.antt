use Rattle.std.proofs.Common.{◌≡◌, ◌<◌, List, ◌∷◌, ◌++◌, length, map, sym, ap, ◌∙◌, subst, arith}
use Rattle.std.proofs.lemmas.List.{nil_from_length}
use Rattle.std.specs.List.{Contains}
use Rattle.ce_lock.specs.Telling.{joined_head_of}
use Rattle.ce_lock.specs.Sitting.{SeatFacts, who}
use Rattle.ce_lock.proofs.Members.{in_none}
use Rattle.ce_lock.proofs.Endings.{table_of, next_closed, one_of}
use Rattle.ce_lock.proofs.book.Book.join_heads.Goals as goal

pub unreachable-requires : goal.unreachable-requires
unreachable-requires g c = let e = ap (λ b. b.families) c.self.view_is in let some_families : 0 < c.args.self.now.families = omega (arith, e, c.self.invariant) in
    let empty : length c.args.heads.items ≡ 0 = sym c.args.heads.ok.0 ∙ c.in_default.ensures.cases.0 in
    in_none 0 (subst (λ (l : List (SeatFacts g.row.O.Denot g.row.O-Entry.Denot)). Contains (map (λ (s : SeatFacts g.row.O.Denot g.row.O-Entry.Denot). (who s).family) l) 0) (nil_from_length c.args.heads.items empty) (c.requires.all 0 some_families))

pub join_last-requires-in-Some-pop-clause-chairs : goal.join_last-requires-in-Some-pop-clause-chairs
join_last-requires-in-Some-pop-clause-chairs g c = let i = c.loop-head.invariant in
    let whole = next_closed c.pop-in-loop-head.new.self.items c.in-Some-pop.head i.joined_heads.0 c.args.heads.items c.loop-head.heads.items i.joined_heads.1 c.in-Some-pop.ensures.items in
    let head = one_of _ _ c.pop-in-loop-head.new.self.items c.in-Some-pop.head i.joined_heads.0 c.args.heads.items whole c.requires.each in
    (i.chair, ap (λ s. s.0) c.into_chair-in-Some-pop.ensures.chair ∙ table_of c.args.self.now c.in-Some-pop.head head.of_book)

pub join_last-requires-in-Some-pop-clause-copied : goal.join_last-requires-in-Some-pop-clause-copied
join_last-requires-in-Some-pop-clause-copied g c = (c.loop-head.invariant.place, c.loop-head.invariant.right)

pub join_last-requires-in-Some-pop-clause-head : goal.join_last-requires-in-Some-pop-clause-head
join_last-requires-in-Some-pop-clause-head g c = let i = c.loop-head.invariant in
    let whole = next_closed c.pop-in-loop-head.new.self.items c.in-Some-pop.head i.joined_heads.0 c.args.heads.items c.loop-head.heads.items i.joined_heads.1 c.in-Some-pop.ensures.items in
    let head = one_of _ _ c.pop-in-loop-head.new.self.items c.in-Some-pop.head i.joined_heads.0 c.args.heads.items whole c.requires.each in
    (ap (λ s. s.1.right.actor) c.into_chair-in-Some-pop.ensures.chair ∙ head.host, ap (λ s. s.1.right.absent_actors) c.into_chair-in-Some-pop.ensures.chair ∙ head.nobody_out)

pub loop-head-preserved : goal.loop-head-preserved
loop-head-preserved g c = let i = c.loop-head.invariant in let j = c.join_last-in-Some-pop.ensures in record {
  chair = j.chair.0 ∙ i.chair;
  place = j.copied.0;
  right = j.copied.1;
  joined_heads = (
    c.in-Some-pop.head ∷ i.joined_heads.0,
    next_closed c.pop-in-loop-head.new.self.items c.in-Some-pop.head i.joined_heads.0 c.args.heads.items c.loop-head.heads.items i.joined_heads.1 c.in-Some-pop.ensures.items,
    j.joined_heads ∙ (λ k. joined_head_of (ap (λ s. s.1) c.into_chair-in-Some-pop.ensures.chair k) ∷ i.joined_heads.2 k),
  );
}

pub returns-clause-chair : goal.returns-clause-chair
returns-clause-chair g c = c.loop-head.invariant.chair

pub returns-clause-live : goal.returns-clause-live
returns-clause-live g c = ap (λ r. r.is_spent) c.loop-head.invariant.right

pub returns-clause-joined_heads : goal.returns-clause-joined_heads
returns-clause-joined_heads g c = let i = c.loop-head.invariant in
    let empty : length c.loop-head.heads.items ≡ 0 = sym c.loop-head.heads.ok.0 ∙ c.in_default-pop.ensures.cases.0 in
    let all : i.joined_heads.0 ≡ c.args.heads.items = ap (λ (l : List (SeatFacts g.row.O.Denot g.row.O-Entry.Denot)). l ++ i.joined_heads.0) (sym (nil_from_length c.loop-head.heads.items empty)) ∙ i.joined_heads.1 in
    i.joined_heads.2 ∙ ap (map (λ (s : SeatFacts g.row.O.Denot g.row.O-Entry.Denot). joined_head_of s.1)) all

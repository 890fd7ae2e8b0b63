use Rattle.std.proofs.Common.{ℕ, ◌<◌, List, map, sym, ap, subst}
use Rattle.std.specs.List.{AllByRecursion, Contains}
use Rattle.ce_lock.specs.declared.view.JoinedHead.{JoinedHead}
use Rattle.ce_lock.specs.Meanings.{meanings}
use Rattle.ce_lock.specs.OneOrder.{IsJoinedHead}
use Rattle.ce_lock.proofs.Endings.{covers, wholes}
use Rattle.ce_lock.proofs.book.Book.close.Goals as goal

pub take_object-requires-clause-all : goal.take_object-requires-clause-all
take_object-requires-clause-all g c f low = let e = ap (λ b. b.families) c.self.view_is in
    subst (λ (ls : List (JoinedHead g.row.O-Entry.Denot)). Contains (map (λ (l : JoinedHead g.row.O-Entry.Denot). l.family) ls) f) (sym c.join_heads-closer.ensures.joined_heads)
    (covers f c.args.heads.items (c.requires.all f (subst (λ (n : ℕ). f < n) e low)))

pub returns-clause-heads : goal.returns-clause-heads
returns-clause-heads g c = let K = g.O.Kept in
    wholes _ _ (K.history c.take_object.result) c.args.heads.items c.requires.each
    (subst (AllByRecursion (IsJoinedHead (meanings K.fixed K.history K.lawful K.whose K.alone_entry) (K.history c.take_object.result))) c.join_heads-closer.ensures.joined_heads c.take_object.ensures.each)

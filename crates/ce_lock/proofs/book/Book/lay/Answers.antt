use Rattle.std.proofs.Common.{◌≡◌, ◌<◌, ◌^◌, List, [], ◌∷◌, ◌++◌, sym, ap, ◌∙◌, subst, rules, arith}
use Rattle.atomic_table.specs.Table.{opening}
use Rattle.ce_lock.specs.Meanings.{meanings}
use Rattle.ce_lock.specs.OneOrder.{IsBookInOrder}
use Rattle.ce_lock.specs.Telling.{first_view}
use Rattle.ce_lock.proofs.Comings.{starts}
use Rattle.ce_lock.proofs.book.Book.lay.Goals as goal

pub new-requires : goal.new-requires
new-requires g c = let K = g.O.Kept in let items : c.push_reserved.new.self.items ≡ c.args.object ∷ [] = c.push_reserved.ensures.items ∙ ap (λ l. l ++ c.args.object ∷ []) c.in-Ok.ensures.items in
    let small : c.args.families < 2 ^ 32 = search rules in
    subst (λ (x : g.row.O.Denot × List g.row.O.Denot). IsBookInOrder (meanings K.fixed K.history K.lawful K.whose K.alone_entry) x.0 c.args.families (opening (0 ∷ 0 ∷ 0 ∷ []) x.1 (first_view x.0)))
    (λ k. (sym c.of.ensures k, sym items k))
    (starts (meanings K.fixed K.history K.lawful K.whose K.alone_entry) c.args.object c.args.families c.requires.empty (g.met.O.Kept.empty_is_lawful (K.fixed c.args.object)) (omega (arith, c.requires.families)) small)

use Rattle.std.proofs.Common.{◌≡◌, refl, sym, ◌∙◌, subst}
use Rattle.std.specs.List.{AllByRecursion}
use Rattle.ce_lock.specs.declared.who.Who.{Who}
use Rattle.ce_lock.specs.Entries.{IsForeignEntry}
use Rattle.ce_lock.specs.Meanings.{meanings}
use Rattle.ce_lock.proofs.Histories.{foreign_missed}
use Rattle.ce_lock.proofs.Turns.{carries, in_hand, acted_place, acted_hand, acted_opening, unchanged, entry_fits, committed_hand, committed_place, committed_back, given, refused, turn_made, turn_refused}
use Rattle.ce_lock.proofs.board.ChairAtBoard.work.Goals as goal

-- after the history that the view was shown, the call still fits
pub answer-requires : goal.answer-requires
answer-requires g c = let took = c.take.ensures.took in let at = c.requires.turn.1 in let ready = c.requires.ready in let K = g.O.Kept in
    let same : ready.opening ≡ took.opening = cc (ready.opening_is, took.opening_is) in
    let shown = subst (λ (o : g.row.O.Denot). K.fits (K.fixed o) c.args.self.now.chair.now.me.0.page.seen c.args.request.who c.args.request.call) same ready.fitting in
    let foreign = subst (λ (w : Who). AllByRecursion (IsForeignEntry K.whose K.alone_entry w) took.missed_entries) c.requires.ready.who_is (foreign_missed (meanings K.fixed K.history K.lawful K.whose K.alone_entry) took.opening c.args.self.now.chair.now.me.0.right took.missed_entries took.missable) in
    let fits = carries K.lawful K.fits K.whose K.alone_entry g.met.O.Kept.prefix_is_lawful g.met.O.Kept.still_fits (K.fixed took.opening) c.args.request.who c.args.request.call took.missed_entries c.args.self.now.chair.now.me.0.page.seen took.lawful foreign shown in
    let fits' = subst (λ l. K.fits (K.fixed took.opening) l c.args.request.who c.args.request.call) (sym took.history) fits in
    record { holds = (took.object, in_hand _ _ _ _ at took c.requires.ready.hand, subst (λ f. K.fits f (K.history took.object) c.args.request.who c.args.request.call) (sym took.fixed) fits') }

pub commit-requires-clause-holds : goal.commit-requires-clause-holds
commit-requires-clause-holds g c = let a = c.in-Ok.ensures.answered in acted_place _ _ _ _ c.requires.turn.1 c.take.ensures.took a.0 a.1 c.requires.ready.hand a.2 _ a.3

pub commit-requires-clause-entry : goal.commit-requires-clause-entry
commit-requires-clause-entry g c = let took = c.take.ensures.took in let at = c.requires.turn.1 in let a = c.in-Ok.ensures.answered in let made = a.4.answered in
    let law = g.met.O.Kept.stands_for _ _ _ _ _ _ made.2 in
    let f = entry_fits _ _ _ _ at took a.0 a.1 c.requires.ready.hand a.2 _ a.3 made.0 made.1 a.4.fixed made.3 made.4 (law.0 ∙ sym c.requires.ready.who_is) (λ e. c.requires.ready.nobody_out (sym law.1 ∙ e)) in
    (a.1, took.opening, made.0, acted_hand _ _ _ _ at took a.0 a.1 c.requires.ready.hand a.2 _ a.3, acted_opening _ _ _ _ at took a.0 a.1 c.requires.ready.hand a.2 _ a.3, f.0, f.1, f.2, f.3, f.4)

pub give-requires-clause-holds : goal.give-requires-clause-holds
give-requires-clause-holds g c = let a = c.in-Ok.ensures.answered in let made = a.4.answered in
    committed_place _ _ _ _ c.requires.turn.1 c.take.ensures.took a.0 a.1 c.requires.ready.hand a.2 _ a.3 made.0 made.1 _ c.commit.ensures.committed

pub give-requires-clause-object : goal.give-requires-clause-object
give-requires-clause-object g c = let took = c.take.ensures.took in let at = c.requires.turn.1 in let a = c.in-Ok.ensures.answered in let made = a.4.answered in
    let b = committed_back _ _ _ _ at took a.0 a.1 c.requires.ready.hand a.2 _ a.3 made.0 made.1 _ c.commit.ensures.committed a.4.fixed in
    (a.1, took.opening, committed_hand _ _ _ _ at took a.0 a.1 c.requires.ready.hand a.2 _ a.3 made.0 made.1 _ c.commit.ensures.committed, b.0, b.1, b.2)

pub give-requires-in-Err-clause-holds : goal.give-requires-in-Err-clause-holds
give-requires-in-Err-clause-holds g c = let a = c.in-Err.ensures.answered in acted_place _ _ _ _ c.requires.turn.1 c.take.ensures.took a.0 a.1 c.requires.ready.hand a.2 _ a.3

pub give-requires-in-Err-clause-object : goal.give-requires-in-Err-clause-object
give-requires-in-Err-clause-object g c = let took = c.take.ensures.took in let at = c.requires.turn.1 in let a = c.in-Err.ensures.answered in
    let b = unchanged _ _ _ _ at took a.0 a.1 c.requires.ready.hand a.2 _ a.3 a.4.answered.0 in
    (a.1, took.opening, acted_hand _ _ _ _ at took a.0 a.1 c.requires.ready.hand a.2 _ a.3, acted_opening _ _ _ _ at took a.0 a.1 c.requires.ready.hand a.2 _ a.3, b.0, b.1)

pub returns-in-Ok-clause-turn : goal.returns-in-Ok-clause-turn
returns-in-Ok-clause-turn g c = let took = c.take.ensures.took in let at = c.requires.turn.1 in let a = c.in-Ok.ensures.answered in let made = a.4.answered in
    let law = g.met.O.Kept.stands_for _ _ _ _ _ _ made.2 in
    let last = given _ _ _ _ at took a.0 a.1 c.requires.ready.hand a.2 _ a.3 made.0 made.1 _ c.commit.ensures.committed _ c.give.ensures.gave in
    turn_made _ _ _ _ at took a.0 a.1 c.requires.ready.hand a.2 _ a.3 made.0 made.1 _ g.O.Kept.stands c.args.request.who c.args.request.call c.in-Ok.reply c.requires.ready.who_is made.3 made.4 law.0 made.2 _ last.0 last.1 _ refl

pub returns-in-Err-clause-turn : goal.returns-in-Err-clause-turn
returns-in-Err-clause-turn g c = let took = c.take.ensures.took in let a = c.in-Err.ensures.answered in
    let last = refused _ _ _ _ c.requires.turn.1 took a.0 a.1 c.requires.ready.hand a.2 _ a.3 _ c.give-in-Err.ensures.gave in
    turn_refused _ _ _ _ c.requires.turn.1 took g.O.Kept.stands c.args.request.call c.in-Err.refusal took.short a.4.answered.1 _ last.0 last.1 _ refl

use Rattle.std.proofs.Common.{ap, ◌∙◌}
use Rattle.ce_lock.proofs.Turns.{sound_turn, turn_opening, known_of}
use Rattle.ce_lock.proofs.book.Book.call.Goals as goal

pub invariant_of-seat : goal.invariant_of-seat
invariant_of-seat g c = sound_turn _ g.O.Kept.stands c.take_turn.result _ _ _ c.args.call c.seat.invariant c.take_turn.ensures.turn

pub returns-clause-known : goal.returns-clause-known
returns-clause-known g c = let K = g.O.Kept in
    known_of _ _ c.take_turn.new.self.chair.now.me c.args.self.now.opening _ (sound_turn _ K.stands c.take_turn.result _ _ _ c.args.call c.seat.invariant c.take_turn.ensures.turn)
    (turn_opening _ K.stands c.take_turn.result _ _ c.args.call c.take_turn.ensures.turn ∙ (ap (λ s. s.1.page.opening) c.seat.view_is ∙ ap (λ n. n.1) c.requires.of_book))

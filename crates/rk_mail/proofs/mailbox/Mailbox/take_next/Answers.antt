use Rattle.std.proofs.Common.{◌∙◌, sym, ap, arith}
use Rattle.std.specs.Prelude.{map}
use Rattle.ce_model.specs.Parcels.{is_eligible}
use Rattle.rk_mail.specs.Items.{item_of}
use Rattle.rk_mail.proofs.Places.{first_taken, rest_left, none_taken, place_below, at_some}
use Rattle.rk_mail.proofs.mailbox.Mailbox.take_next.Goals as goal

pub returns-in_err-place-clause-first : goal.returns-in_err-place-clause-first
returns-in_err-place-clause-first c =
    rw (← c.self.view_is, c.from_residual.ensures) (sym (none_taken (is_eligible c.args.asking c.args.dead) item_of c.self.inside.items.items (sym c.in_err-place.ensures)).0)

pub returns-in_err-place-clause-rest : goal.returns-in_err-place-clause-rest
returns-in_err-place-clause-rest c =
    rw (← c.self.view_is) (sym (none_taken (is_eligible c.args.asking c.args.dead) item_of c.self.inside.items.items (sym c.in_err-place.ensures)).1)

pub returns-clause-first : goal.returns-clause-first
returns-clause-first c =
    rw (← c.self.view_is)
    (first_taken (is_eligible c.args.asking c.args.dead) item_of c.self.inside.items.items c.in_ok-place.place c.remove.result (sym c.in_ok-place.ensures) (λ d below. c.remove.ensures.succeeds d (omega arith)))

pub returns-clause-rest : goal.returns-clause-rest
returns-clause-rest c =
    let below = place_below (is_eligible c.args.asking c.args.dead) item_of c.self.inside.items.items c.in_ok-place.place (sym c.in_ok-place.ensures) in
    let gone = at_some c.remove.result _ (c.remove.ensures.variant.1 (omega arith)) c.remove.ensures.items in
    rw (← c.self.view_is) (ap (map item_of) gone ∙ rest_left (is_eligible c.args.asking c.args.dead) item_of c.self.inside.items.items c.in_ok-place.place (sym c.in_ok-place.ensures))

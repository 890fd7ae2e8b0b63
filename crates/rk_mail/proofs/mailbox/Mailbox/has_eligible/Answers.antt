use Rattle.std.proofs.Common.{◌∙◌}
use Rattle.ce_model.specs.Parcels.{is_eligible}
use Rattle.rk_mail.specs.Items.{item_of}
use Rattle.rk_mail.proofs.Places.{list_any-map}
use Rattle.rk_mail.proofs.mailbox.Mailbox.has_eligible.Goals as goal

pub returns : goal.returns
returns c = rw (← c.self.view_is) (c.has_eligible.ensures ∙ list_any-map (is_eligible c.args.asking c.args.dead) item_of c.self.inside.items.items)

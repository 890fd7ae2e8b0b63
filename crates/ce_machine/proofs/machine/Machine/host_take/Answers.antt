use Rattle.std.proofs.Common.{ap, ◌∙◌, ◌∷◌}
use Rattle.rk_mail.specs.Items.{item_of}
use Rattle.ce_machine.proofs.Entries.{sound_machine, history-is, fits-inside, answered-outside}
use Rattle.ce_machine.proofs.HeadEntries.{mail_taken, no_mail, no_start, no_kill}
use Rattle.ce_machine.proofs.machine.Machine.host_take.Goals as goal

pub invariant_of-self-in-Some-Mail : goal.invariant_of-self-in-Some-Mail
invariant_of-self-in-Some-Mail g c =
    (mail_taken (sound_machine c.self.invariant c.in_ok-make_room.ensures.few) _ c.in-Some-Mail.parcel (fits-inside c.self.view_is c.requires) c.index_mut-host.ensures.value
    (c.in-Some-Mail.ensures.first ∙ ap (λ item. item_of item ∷ c.take_first.new.self.mail) c.in-Some-Mail.field-0-is) c.take_first.ensures.host (history-is _ c.add_entry.ensures c.make_room.ensures.same)).sound

pub returns-in-Some-Mail-clause-answered : goal.returns-in-Some-Mail-clause-answered
returns-in-Some-Mail-clause-answered g c =
    answered-outside c.self.view_is
    (mail_taken (sound_machine c.self.invariant c.in_ok-make_room.ensures.few) _ c.in-Some-Mail.parcel (fits-inside c.self.view_is c.requires) c.index_mut-host.ensures.value
    (c.in-Some-Mail.ensures.first ∙ ap (λ item. item_of item ∷ c.take_first.new.self.mail) c.in-Some-Mail.field-0-is) c.take_first.ensures.host (history-is _ c.add_entry.ensures c.make_room.ensures.same)).answered

pub invariant_of-self-in-None : goal.invariant_of-self-in-None
invariant_of-self-in-None g c =
    (no_mail (sound_machine c.self.invariant c.in_ok-make_room.ensures.few) _ (fits-inside c.self.view_is c.requires) c.index_mut-host.ensures.value c.in-None.ensures.none c.in-None.ensures.first c.take_first.ensures.host
    (history-is _ c.add_entry-in-None.ensures c.make_room.ensures.same)).sound

pub returns-in-None-clause-answered : goal.returns-in-None-clause-answered
returns-in-None-clause-answered g c =
    answered-outside c.self.view_is
    (no_mail (sound_machine c.self.invariant c.in_ok-make_room.ensures.few) _ (fits-inside c.self.view_is c.requires) c.index_mut-host.ensures.value c.in-None.ensures.none c.in-None.ensures.first c.take_first.ensures.host
    (history-is _ c.add_entry-in-None.ensures c.make_room.ensures.same)).answered

pub unreachable-requires : goal.unreachable-requires
unreachable-requires g c =
    no_start (sound_machine c.self.invariant c.in_ok-make_room.ensures.few) _ (fits-inside c.self.view_is c.requires) c.index_mut-host.ensures.value
    (c.in-Some-Start.ensures.first ∙ ap (λ item. item_of item ∷ c.take_first.new.self.mail) c.in-Some-Start.field-0-is)

pub unreachable-requires-in-Some-Kill : goal.unreachable-requires-in-Some-Kill
unreachable-requires-in-Some-Kill g c =
    no_kill (sound_machine c.self.invariant c.in_ok-make_room.ensures.few) _ (fits-inside c.self.view_is c.requires) c.index_mut-host.ensures.value
    (c.in-Some-Kill.ensures.first ∙ ap (λ item. item_of item ∷ c.take_first.new.self.mail) c.in-Some-Kill.field-0-is)

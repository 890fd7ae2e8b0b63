use Rattle.ce_machine.proofs.Entries.{sound_machine, history-is, fits-inside, answered-outside}
use Rattle.ce_machine.proofs.HeadEntries.{granted, none_granted, getcube_free}
use Rattle.ce_machine.proofs.machine.Machine.getcube.Goals as goal

pub getcube-requires : goal.getcube-requires
getcube-requires g c = record { none_held = getcube_free (sound_machine c.self.invariant c.in_ok-make_room.ensures.few) _ (fits-inside c.self.view_is c.requires) }

pub invariant_of-self-in-Some : goal.invariant_of-self-in-Some
invariant_of-self-in-Some g c =
    let e = rw c.in-Some.is at c.in_ok-grant.ensures in
    (granted (sound_machine c.self.invariant c.in_ok-make_room.ensures.few) _ c.in-Some.boxes (fits-inside c.self.view_is c.requires) e.first e.grant e.boxes e.after (history-is _ c.add_entry.ensures c.make_room.ensures.same)).sound

pub returns-in-Some-clause-answered : goal.returns-in-Some-clause-answered
returns-in-Some-clause-answered g c =
    let e = rw c.in-Some.is at c.in_ok-grant.ensures in
    answered-outside c.self.view_is
    (granted (sound_machine c.self.invariant c.in_ok-make_room.ensures.few) _ c.in-Some.boxes (fits-inside c.self.view_is c.requires) e.first e.grant e.boxes e.after (history-is _ c.add_entry.ensures c.make_room.ensures.same)).answered

pub invariant_of-self-in-None : goal.invariant_of-self-in-None
invariant_of-self-in-None g c =
    let e = rw c.in-None.is at c.in_ok-grant.ensures in
    (none_granted (sound_machine c.self.invariant c.in_ok-make_room.ensures.few) _ (fits-inside c.self.view_is c.requires) e.first e.refused (history-is _ c.add_entry-in-None.ensures c.make_room.ensures.same)).sound

pub returns-in-None-clause-answered : goal.returns-in-None-clause-answered
returns-in-None-clause-answered g c =
    let e = rw c.in-None.is at c.in_ok-grant.ensures in
    answered-outside c.self.view_is
    (none_granted (sound_machine c.self.invariant c.in_ok-make_room.ensures.few) _ (fits-inside c.self.view_is c.requires) e.first e.refused (history-is _ c.add_entry-in-None.ensures c.make_room.ensures.same)).answered

use Rattle.ce_machine.proofs.Callers.{caller-known}
use Rattle.ce_machine.proofs.Entries.{sound_machine, history-is, fits-inside, answered-outside, few-desks}
use Rattle.ce_machine.proofs.SayEntries.{noting, noted}
use Rattle.ce_machine.proofs.machine.Machine.note.Goals as goal

pub mark_busy-requires-clause-actor : goal.mark_busy-requires-clause-actor
mark_busy-requires-clause-actor g c = let m = sound_machine c.self.invariant c.in_ok-make_room.ensures.few in caller-known m (noting m _ (fits-inside c.self.view_is c.requires))

pub mark_busy-requires-clause-few : goal.mark_busy-requires-clause-few
mark_busy-requires-clause-few g c = few-desks (sound_machine c.self.invariant c.in_ok-make_room.ensures.few)

pub invariant_of-self-2 : goal.invariant_of-self-2
invariant_of-self-2 g c =
    (noted (sound_machine c.self.invariant c.in_ok-make_room.ensures.few) _ (fits-inside c.self.view_is c.requires) c.mark_busy.ensures (history-is _ c.add_entry.ensures c.make_room.ensures.same)).sound

pub returns-clause-answered : goal.returns-clause-answered
returns-clause-answered g c =
    answered-outside c.self.view_is
    (noted (sound_machine c.self.invariant c.in_ok-make_room.ensures.few) _ (fits-inside c.self.view_is c.requires) c.mark_busy.ensures (history-is _ c.add_entry.ensures c.make_room.ensures.same)).answered

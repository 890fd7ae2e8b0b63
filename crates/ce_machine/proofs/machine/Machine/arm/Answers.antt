use Rattle.ce_machine.proofs.Entries.{sound_machine, history-is, fits-inside, answered-outside}
use Rattle.ce_machine.proofs.HeadEntries.{armed}
use Rattle.ce_machine.proofs.machine.Machine.arm.Goals as goal

pub invariant_of-self-2 : goal.invariant_of-self-2
invariant_of-self-2 g c =
    (armed (sound_machine c.self.invariant c.in_ok-make_room.ensures.few) _ (fits-inside c.self.view_is c.requires) c.index_mut-host.ensures.value c.arm.ensures (history-is _ c.add_entry.ensures c.make_room.ensures.same)).sound

pub returns-clause-answered : goal.returns-clause-answered
returns-clause-answered g c =
    answered-outside c.self.view_is
    (armed (sound_machine c.self.invariant c.in_ok-make_room.ensures.few) _ (fits-inside c.self.view_is c.requires) c.index_mut-host.ensures.value c.arm.ensures (history-is _ c.add_entry.ensures c.make_room.ensures.same)).answered

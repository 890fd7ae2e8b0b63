use Rattle.ce_machine.proofs.Entries.{sound_machine, history-is, fits-inside, answered-outside}
use Rattle.ce_machine.proofs.HeadEntries.{peeked_done}
use Rattle.ce_machine.proofs.machine.Machine.peek.Goals as goal

pub invariant_of-self-2 : goal.invariant_of-self-2
invariant_of-self-2 g c =
    (peeked_done (sound_machine c.self.invariant c.in_ok-make_room.ensures.few) _ (fits-inside c.self.view_is c.requires) c.in_ok-peek_result.ensures.free c.in_ok-peek_result.ensures.held (history-is _ c.add_entry.ensures c.make_room.ensures.same)).sound

pub returns-clause-answered : goal.returns-clause-answered
returns-clause-answered g c =
    answered-outside c.self.view_is
    (peeked_done (sound_machine c.self.invariant c.in_ok-make_room.ensures.few) _ (fits-inside c.self.view_is c.requires) c.in_ok-peek_result.ensures.free c.in_ok-peek_result.ensures.held (history-is _ c.add_entry.ensures c.make_room.ensures.same)).answered

use Rattle.ce_machine.proofs.Entries.{sound_machine, history-is, fits-inside, answered-outside}
use Rattle.ce_machine.proofs.HeadEntries.{free-has, free-boxes, free-desks, free-nodes, free-mail, freed}
use Rattle.ce_machine.proofs.machine.Machine.freecube.Goals as goal

pub grant_of-grant-requires : goal.grant_of-grant-requires
grant_of-grant-requires g c = free-has (sound_machine c.self.invariant c.in-Ok.ensures.few) _ (fits-inside c.self.view_is c.requires)

pub freecube-requires : goal.freecube-requires
freecube-requires g c = free-boxes (sound_machine c.self.invariant c.in-Ok.ensures.few) _ (fits-inside c.self.view_is c.requires)

pub clear_nodes-requires-clause-sub : goal.clear_nodes-requires-clause-sub
clear_nodes-requires-clause-sub g c = free-desks (sound_machine c.self.invariant c.in-Ok.ensures.few) _ (fits-inside c.self.view_is c.requires) c.grant_of-grant.ensures

pub clear_nodes-requires-clause-empty : goal.clear_nodes-requires-clause-empty
clear_nodes-requires-clause-empty g c = free-nodes (sound_machine c.self.invariant c.in-Ok.ensures.few) _ (fits-inside c.self.view_is c.requires) c.grant_of-grant.ensures

pub clear-requires : goal.clear-requires
clear-requires g c = free-mail (sound_machine c.self.invariant c.in-Ok.ensures.few) _ (fits-inside c.self.view_is c.requires) c.index_mut-host.ensures.value

pub invariant_of-self-2 : goal.invariant_of-self-2
invariant_of-self-2 g c =
    (freed (sound_machine c.self.invariant c.in-Ok.ensures.few) _ (fits-inside c.self.view_is c.requires) c.grant_of-grant.ensures c.freecube.ensures c.clear_nodes.ensures c.clear.ensures (history-is _ c.add_entry.ensures c.make_room.ensures.same)).sound

pub returns-clause-answered : goal.returns-clause-answered
returns-clause-answered g c =
    answered-outside c.self.view_is
    (freed (sound_machine c.self.invariant c.in-Ok.ensures.few) _ (fits-inside c.self.view_is c.requires) c.grant_of-grant.ensures c.freecube.ensures c.clear_nodes.ensures c.clear.ensures (history-is _ c.add_entry.ensures c.make_room.ensures.same)).answered

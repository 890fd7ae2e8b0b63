use Rattle.std.proofs.Common.{ap₂, ◌∙◌}
use Rattle.ce_model.specs.Answers.{look_result_where}
use Rattle.ce_machine.proofs.Callers.{caller-grant, caller-desks}
use Rattle.ce_machine.proofs.Entries.{sound_machine, history-is, fits-inside, answered-outside}
use Rattle.ce_machine.proofs.HeadEntries.{looking, looked}
use Rattle.ce_machine.proofs.machine.Machine.look.Goals as goal

pub grant_of-grant-requires : goal.grant_of-grant-requires
grant_of-grant-requires g c = let m = sound_machine c.self.invariant c.in_ok-make_room.ensures.few in caller-grant m (looking m _ (fits-inside c.self.view_is c.requires))

pub is_quiet-requires : goal.is_quiet-requires
is_quiet-requires g c = let m = sound_machine c.self.invariant c.in_ok-make_room.ensures.few in caller-desks m (looking m _ (fits-inside c.self.view_is c.requires)) c.grant_of-grant.ensures

pub invariant_of-self-2 : goal.invariant_of-self-2
invariant_of-self-2 g c =
    (looked (sound_machine c.self.invariant c.in_ok-make_room.ensures.few) _ (fits-inside c.self.view_is c.requires) c.grant_of-grant.ensures c.index-host.ensures
    (c.look_result_where-found.ensures ∙ ap₂ look_result_where c.is_quiet.ensures c.is_used_up.ensures.value) c.look_reply-reply.ensures (history-is _ c.add_entry.ensures c.make_room.ensures.same)).sound

pub returns-clause-answered : goal.returns-clause-answered
returns-clause-answered g c =
    answered-outside c.self.view_is
    (looked (sound_machine c.self.invariant c.in_ok-make_room.ensures.few) _ (fits-inside c.self.view_is c.requires) c.grant_of-grant.ensures c.index-host.ensures
    (c.look_result_where-found.ensures ∙ ap₂ look_result_where c.is_quiet.ensures c.is_used_up.ensures.value) c.look_reply-reply.ensures (history-is _ c.add_entry.ensures c.make_room.ensures.same)).answered

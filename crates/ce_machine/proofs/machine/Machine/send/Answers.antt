use Rattle.std.proofs.Common.{ap, ◌∙◌, arith}
use Rattle.rk_mail.specs.declared.talk.Hearing.TheVariants.{Posted}
use Rattle.ce_machine.specs.Tables.{HostRecord}
use Rattle.ce_machine.proofs.Callers.{caller-grant, caller-desks, caller-still, few-still}
use Rattle.ce_machine.proofs.Entries.{sound_machine, history-is, fits-inside, answered-outside, joined-none}
use Rattle.ce_machine.proofs.SendEntries.{sending, sent, send-number, send-places, send-room}
use Rattle.ce_machine.proofs.machine.Machine.send.Goals as goal

pub grant_of-grant-requires : goal.grant_of-grant-requires
grant_of-grant-requires g c = let m = sound_machine c.self.invariant c.in-Ok.ensures.short in caller-grant m (sending m _ (fits-inside c.self.view_is c.requires))

pub add_parcels-first-requires : goal.add_parcels-first-requires
add_parcels-first-requires g c =
    omega (arith, c.count.ensures.value, send-number (sound_machine c.self.invariant c.in-Ok.ensures.short) _ (fits-inside c.self.view_is c.requires) c.in-Ok.ensures.equal c.in-Ok.ensures.few c.index_mut-host.ensures.value)

pub post_all-batch-requires-clause-sub : goal.post_all-batch-requires-clause-sub
post_all-batch-requires-clause-sub g c = let m = sound_machine c.self.invariant c.in-Ok.ensures.short in caller-desks m (sending m _ (fits-inside c.self.view_is c.requires)) c.grant_of-grant.ensures

pub post_all-batch-requires-clause-places : goal.post_all-batch-requires-clause-places
post_all-batch-requires-clause-places g c =
    send-places (sound_machine c.self.invariant c.in-Ok.ensures.short) _ (fits-inside c.self.view_is c.requires) c.in-Ok.ensures.equal c.in-Ok.ensures.few c.grant_of-grant.ensures

pub post_all-batch-requires-clause-room : goal.post_all-batch-requires-clause-room
post_all-batch-requires-clause-room g c =
    send-room (sound_machine c.self.invariant c.in-Ok.ensures.short) _ (fits-inside c.self.view_is c.requires) c.in-Ok.ensures.equal c.in-Ok.ensures.few c.grant_of-grant.ensures
    c.index_mut-host.ensures.value c.add_parcels-first.ensures.first (ap (λ (host : HostRecord). host.mail) c.add_parcels-first.ensures.host) c.relative_number.ensures

pub post_all-batch-requires-clause-numbers : goal.post_all-batch-requires-clause-numbers
post_all-batch-requires-clause-numbers g c =
    omega (arith, c.add_parcels-first.ensures.first, send-number (sound_machine c.self.invariant c.in-Ok.ensures.short) _ (fits-inside c.self.view_is c.requires) c.in-Ok.ensures.equal c.in-Ok.ensures.few c.index_mut-host.ensures.value)

pub mark_busy-requires-clause-actor : goal.mark_busy-requires-clause-actor
mark_busy-requires-clause-actor g c = let m = sound_machine c.self.invariant c.in-Ok.ensures.short in caller-still m (sending m _ (fits-inside c.self.view_is c.requires)) c.post_all-batch.ensures.desks

pub mark_busy-requires-clause-few : goal.mark_busy-requires-clause-few
mark_busy-requires-clause-few g c = few-still (sound_machine c.self.invariant c.in-Ok.ensures.short) c.post_all-batch.ensures.desks

pub invariant_of-self-2 : goal.invariant_of-self-2
invariant_of-self-2 g c =
    (sent (sound_machine c.self.invariant c.in-Ok.ensures.short) _ (fits-inside c.self.view_is c.requires) c.in-Ok.ensures.equal c.in-Ok.ensures.few c.grant_of-grant.ensures (ap Posted c.post_all-batch.ensures.empty) c.index_mut-host.ensures.value
    c.add_parcels-first.ensures.first c.count.ensures.value c.add_parcels-first.ensures.host c.relative_number.ensures c.post_all-batch.ensures.desks c.post_all-batch.ensures.host c.mark_busy.ensures
    (c.from_vec-to.ensures ∙ joined-none _ _ _ c.in-Ok.ensures.none c.post_all-batch.ensures.targets) c.in-Ok.ensures.bytes (history-is _ c.add_entry.ensures c.room_for.ensures.same)).sound

pub returns-clause-answered : goal.returns-clause-answered
returns-clause-answered g c =
    answered-outside c.self.view_is
    (sent (sound_machine c.self.invariant c.in-Ok.ensures.short) _ (fits-inside c.self.view_is c.requires) c.in-Ok.ensures.equal c.in-Ok.ensures.few c.grant_of-grant.ensures (ap Posted c.post_all-batch.ensures.empty) c.index_mut-host.ensures.value
    c.add_parcels-first.ensures.first c.count.ensures.value c.add_parcels-first.ensures.host c.relative_number.ensures c.post_all-batch.ensures.desks c.post_all-batch.ensures.host c.mark_busy.ensures
    (c.from_vec-to.ensures ∙ joined-none _ _ _ c.in-Ok.ensures.none c.post_all-batch.ensures.targets) c.in-Ok.ensures.bytes (history-is _ c.add_entry.ensures c.room_for.ensures.same)).answered

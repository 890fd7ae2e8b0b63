use Rattle.std.proofs.Common.{◌<◌, length, arith}
use Rattle.ce_machine.proofs.Entries.{sound_machine, history-is, fits-inside, answered-outside}
use Rattle.ce_machine.proofs.SayEntries.{took-by, taker-below, work-left}
use Rattle.ce_machine.proofs.machine.Machine.take.Goals as goal

pub index_mut-desk-requires : goal.index_mut-desk-requires
index_mut-desk-requires g c =
    let below : c.args.who.actor < length c.self.inside.desks.items = taker-below (sound_machine c.self.invariant c.in_ok-make_room.ensures.few) _ (fits-inside c.self.view_is c.requires) in
    omega (arith, below, c.self.inside.desks.ok)

pub dispatch-requires : goal.dispatch-requires
dispatch-requires g c =
    work-left (sound_machine c.self.invariant c.in_ok-make_room.ensures.few) _ (fits-inside c.self.view_is c.requires) c.index_mut-desk.result.now.waiting_items c.offer-hearing.result
    c.is_used_up.ensures.value c.result_of_hearing-given.ensures c.is_work.ensures c.offer-hearing.ensures.given

pub invariant_of-self-2 : goal.invariant_of-self-2
invariant_of-self-2 g c =
    (took-by (sound_machine c.self.invariant c.in_ok-make_room.ensures.few) _ (fits-inside c.self.view_is c.requires) c.offer-hearing.result c.index_mut-desk.ensures.value c.index_mut-host.ensures.value
    c.is_used_up.ensures.value c.result_of_hearing-given.ensures c.is_work.ensures c.is_idle.ensures c.offer-hearing.ensures.given c.offer-hearing.ensures.item
    c.offer-hearing.ensures.kind c.offer-hearing.ensures.desk c.mark_take.ensures c.dispatch.ensures (history-is _ c.add_entry.ensures c.make_room.ensures.same)).sound

pub returns-clause-answered : goal.returns-clause-answered
returns-clause-answered g c =
    answered-outside c.self.view_is
    (took-by (sound_machine c.self.invariant c.in_ok-make_room.ensures.few) _ (fits-inside c.self.view_is c.requires) c.offer-hearing.result c.index_mut-desk.ensures.value c.index_mut-host.ensures.value
    c.is_used_up.ensures.value c.result_of_hearing-given.ensures c.is_work.ensures c.is_idle.ensures c.offer-hearing.ensures.given c.offer-hearing.ensures.item
    c.offer-hearing.ensures.kind c.offer-hearing.ensures.desk c.mark_take.ensures c.dispatch.ensures (history-is _ c.add_entry.ensures c.make_room.ensures.same)).answered

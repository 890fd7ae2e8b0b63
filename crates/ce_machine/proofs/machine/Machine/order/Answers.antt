use Rattle.ce_machine.proofs.Entries.{sound_machine, history-is, fits-inside, answered-outside}
use Rattle.ce_machine.proofs.SayEntries.{ordered}
use Rattle.ce_machine.proofs.OrderCalls.{order-call}
use Rattle.ce_machine.proofs.machine.Machine.order.Goals as goal

pub grant_of-grant-requires : goal.grant_of-grant-requires
grant_of-grant-requires g c = (order-call c.self.invariant c.in_ok-make_room.ensures.few c.self.view_is c.args.order c.args.pid c.args.to c.requires).has_grant

pub place_outward-place-requires-clause-sub : goal.place_outward-place-requires-clause-sub
place_outward-place-requires-clause-sub g c = (order-call c.self.invariant c.in_ok-make_room.ensures.few c.self.view_is c.args.order c.args.pid c.args.to c.requires).sub c.grant_of-grant.ensures

pub place_outward-place-requires-clause-place : goal.place_outward-place-requires-clause-place
place_outward-place-requires-clause-place g c = (order-call c.self.invariant c.in_ok-make_room.ensures.few c.self.view_is c.args.order c.args.pid c.args.to c.requires).place c.grant_of-grant.ensures

pub carry_out-what-requires-clause-node : goal.carry_out-what-requires-clause-node
carry_out-what-requires-clause-node g c = ((order-call c.self.invariant c.in_ok-make_room.ensures.few c.self.view_is c.args.order c.args.pid c.args.to c.requires).desk c.grant_of-grant.ensures c.place_outward-place.ensures).node

pub carry_out-what-requires-clause-process : goal.carry_out-what-requires-clause-process
carry_out-what-requires-clause-process g c = ((order-call c.self.invariant c.in_ok-make_room.ensures.few c.self.view_is c.args.order c.args.pid c.args.to c.requires).desk c.grant_of-grant.ensures c.place_outward-place.ensures).process

pub carry_out-what-requires-clause-room : goal.carry_out-what-requires-clause-room
carry_out-what-requires-clause-room g c = (order-call c.self.invariant c.in_ok-make_room.ensures.few c.self.view_is c.args.order c.args.pid c.args.to c.requires).room c.grant_of-grant.ensures c.place_outward-place.ensures

pub mark_busy-requires-clause-actor : goal.mark_busy-requires-clause-actor
mark_busy-requires-clause-actor g c = (order-call c.self.invariant c.in_ok-make_room.ensures.few c.self.view_is c.args.order c.args.pid c.args.to c.requires).actor c.carry_out-what.ensures.desks

pub mark_busy-requires-clause-few : goal.mark_busy-requires-clause-few
mark_busy-requires-clause-few g c = (order-call c.self.invariant c.in_ok-make_room.ensures.few c.self.view_is c.args.order c.args.pid c.args.to c.requires).few c.carry_out-what.ensures.desks

pub invariant_of-self-2 : goal.invariant_of-self-2
invariant_of-self-2 g c =
    (ordered (sound_machine c.self.invariant c.in_ok-make_room.ensures.few) _ c.args.order c.args.pid c.args.to (fits-inside c.self.view_is c.requires) c.grant_of-grant.ensures c.place_outward-place.ensures c.carry_out-what.ensures.entry c.carry_out-what.ensures.heard
    c.carry_out-what.ensures.desks c.mark_busy.ensures (history-is _ c.add_entry.ensures c.make_room.ensures.same)).sound

pub returns-clause-answered : goal.returns-clause-answered
returns-clause-answered g c =
    answered-outside c.self.view_is
    (ordered (sound_machine c.self.invariant c.in_ok-make_room.ensures.few) _ c.args.order c.args.pid c.args.to (fits-inside c.self.view_is c.requires) c.grant_of-grant.ensures c.place_outward-place.ensures c.carry_out-what.ensures.entry c.carry_out-what.ensures.heard
    c.carry_out-what.ensures.desks c.mark_busy.ensures (history-is _ c.add_entry.ensures c.make_room.ensures.same)).answered

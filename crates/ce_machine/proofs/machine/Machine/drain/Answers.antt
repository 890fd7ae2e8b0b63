use Rattle.std.proofs.Common.{map, flat_map, ◌^◌, sym, ◌∙◌, arith}
use Rattle.std.specs.List.{range_with_len}
use Rattle.ce_model.specs.Subcubes.{node_of}
use Rattle.ce_machine.specs.declared.call.Reply.TheVariants.{Drained}
use Rattle.ce_machine.specs.Tables.{desk_at}
use Rattle.ce_machine.proofs.Callers.{caller-grant, caller-desks}
use Rattle.ce_machine.proofs.Loops.{few-blocks}
use Rattle.ce_machine.proofs.Entries.{sound_machine, history-is, fits-inside, answered-outside, blocks-joined}
use Rattle.ce_machine.proofs.HeadEntries.{draining, drained}
use Rattle.ce_machine.proofs.machine.Machine.drain.Goals as goal

pub grant_of-grant-requires : goal.grant_of-grant-requires
grant_of-grant-requires g c = let m = sound_machine c.self.invariant c.in_ok-make_room.ensures.few in caller-grant m (draining m _ (fits-inside c.self.view_is c.requires))

pub waiting_count-requires : goal.waiting_count-requires
waiting_count-requires g c = let m = sound_machine c.self.invariant c.in_ok-make_room.ensures.few in caller-desks m (draining m _ (fits-inside c.self.view_is c.requires)) c.grant_of-grant.ensures

pub drain_nodes-requires-clause-sub : goal.drain_nodes-requires-clause-sub
drain_nodes-requires-clause-sub g c = let m = sound_machine c.self.invariant c.in_ok-make_room.ensures.few in caller-desks m (draining m _ (fits-inside c.self.view_is c.requires)) c.grant_of-grant.ensures

pub drain-requires : goal.drain-requires
drain-requires g c =
    let items = flat_map (λ node. (desk_at c.self.inside.desks.items node).waiting_items) (map (node_of c.grant_of-grant.result.sub) (range_with_len 0 (2 ^ c.grant_of-grant.result.dim))) in
    omega (arith, few-blocks c.in_ok-blocks.blocks.items c.drain_nodes.new.blocks.items items c.in_ok-blocks.ensures.items c.drain_nodes.ensures.blocks, c.in_ok-blocks.ensures.capacity, c.drain_nodes.ensures.capacity, c.waiting_count.ensures.count, c.count.ensures.value)

pub invariant_of-self-2 : goal.invariant_of-self-2
invariant_of-self-2 g c =
    (drained (sound_machine c.self.invariant c.in_ok-make_room.ensures.few) _ {reply = Drained c.drain.new.blocks} (fits-inside c.self.view_is c.requires) c.grant_of-grant.ensures c.index_mut-host.ensures.value c.drain.ensures.host c.drain_nodes.ensures.desks
    (λ parcels e. blocks-joined _ _ _ _ _ c.in_ok-blocks.ensures.items c.drain_nodes.ensures.blocks c.drain.ensures.blocks ∙ sym e) (history-is _ c.add_entry.ensures c.make_room.ensures.same)).sound

pub returns-clause-answered : goal.returns-clause-answered
returns-clause-answered g c =
    answered-outside c.self.view_is
    (drained (sound_machine c.self.invariant c.in_ok-make_room.ensures.few) _ {reply = Drained c.drain.new.blocks} (fits-inside c.self.view_is c.requires) c.grant_of-grant.ensures c.index_mut-host.ensures.value c.drain.ensures.host c.drain_nodes.ensures.desks
    (λ parcels e. blocks-joined _ _ _ _ _ c.in_ok-blocks.ensures.items c.drain_nodes.ensures.blocks c.drain.ensures.blocks ∙ sym e) (history-is _ c.add_entry.ensures c.make_room.ensures.same)).answered

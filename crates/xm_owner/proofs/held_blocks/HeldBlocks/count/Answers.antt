use Rattle.std.proofs.Common.{List, length, ap, subst, arith}
use Rattle.ce_model.specs.Rising.{IsRising}
use Rattle.xm_owner.specs.Holdings.{Mapping, is_mapping_before}
use Rattle.xm_owner.proofs.Places.{length-mappings_of, rising-mappings_of}
use Rattle.xm_owner.proofs.held_blocks.HeldBlocks.count.Goals as goal

pub returns-clause-count : goal.returns-clause-count
returns-clause-count c =
    let kept = c.self.invariant in
    let long = length-mappings_of c.self.inside.keys.list.items c.self.inside.blocks.items kept.paired in
    let seen = ap (λ held. length held.mappings) c.self.view_is in
    omega arith

pub returns-clause-rising : goal.returns-clause-rising
returns-clause-rising c =
    let kept = c.self.invariant in
    subst (λ (ms : List Mapping). IsRising is_mapping_before ms) (ap (λ held. held.mappings) c.self.view_is)
    (rising-mappings_of c.self.inside.keys.list.items c.self.inside.blocks.items kept.paired c.self.inside.keys.rising)

use Rattle.std.proofs.Common.{ap, sym, ◌∙◌}
use Rattle.std.specs.List.{slice_get}
use Rattle.xm_owner.specs.Holdings.{block_held_at}
use Rattle.xm_owner.proofs.Places.{held_at-mappings_of}
use Rattle.xm_owner.proofs.held_blocks.HeldBlocks.get.Goals as goal

pub returns : goal.returns
returns c =
    let seen = ap (λ held. block_held_at held.mappings c.args.pid c.args.window) c.self.view_is in
    let found = held_at-mappings_of (record { pid = c.args.pid; window = c.args.window }) c.self.inside.keys.list.items c.self.inside.blocks.items c.self.invariant.paired in
    c.block_at.ensures ∙ ap (λ blocks. slice_get blocks c.index_of-place.result) c.as_slice.ensures.value ∙ ap (slice_get c.self.inside.blocks.items) c.index_of-place.ensures ∙ sym found ∙ seen

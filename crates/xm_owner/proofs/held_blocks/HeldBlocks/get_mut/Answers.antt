use borrow.Follows.Closed.{read_of}
use Rattle.std.proofs.Common.{length, ◌-◌, ap, ◌∙◌, sym, arith}
use Rattle.std.specs.Option.{ghost_name_of}
use Rattle.std.specs.List.{slice_get}
use Rattle.ce_model.specs.Blocks.{Block}
use Rattle.xm_owner.specs.declared.key.Key.{Key}
use Rattle.xm_owner.specs.contracts.held_blocks.HeldBlocks.{the_view}
use Rattle.xm_owner.proofs.Places.{held_at-mappings_of, mappings_of-set, copied-from_place}
use Rattle.xm_owner.proofs.held_blocks.HeldBlocks.get_mut.Goals as goal

pub returns : goal.returns
returns c =
    let key : Key = record { pid = c.args.pid; window = c.args.window } in
    let held = c.self.inside in
    let paired = c.self.invariant.paired in
    let is = c.index_of-place.ensures in
    rw (← c.self.view_is) (
      λ t. read_of (ghost_name_of c.get_mut.result)
          (λ (block : Block). let e = mappings_of-set key block held.keys.list.items held.blocks.items c.index_of-place.result is paired in record { mappings = e t; spare = held.room - length held.keys.list.items })
          (the_view held),
      record {
        writes_back = tt;
        block = copied-from_place c.get_mut.result held.blocks.items _ c.index_of-place.result (omega arith) c.get_mut.ensures.variant c.get_mut.ensures.value ∙ ap (slice_get held.blocks.items) is ∙ sym (held_at-mappings_of key held.keys.list.items held.blocks.items paired);
      },
    )

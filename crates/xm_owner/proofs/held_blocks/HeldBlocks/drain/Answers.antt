use Rattle.std.proofs.Common.{◌≡◌, ap, ◌∙◌}
use Rattle.std.specs.List.{remove_range}
use Rattle.xm_owner.specs.Holdings.{block_held_at, without_process}
use Rattle.xm_owner.specs.Tables.{mappings_of}
use Rattle.xm_owner.proofs.Mappings.{held_at-drained, held_at-drained_other}
use Rattle.xm_owner.proofs.held_blocks.HeldBlocks.drain.Goals as goal

module _ (c : goal.After-give_all) where
  left : mappings_of c.remove_process-first.new.self.list.items c.give_all.new.blocks.items ≡ without_process c.args.pid c.args.self.now.mappings
  left =
      let held = c.self.inside in
      let range = c.remove_process-first.result in
      let drained = c.remove_process-first.ensures.drained held.blocks.items c.self.invariant.paired in
      ap (λ keys. mappings_of keys c.give_all.new.blocks.items) c.remove_process-first.ensures.after
      ∙ ap (mappings_of (remove_range held.keys.list.items range.0 range.1)) c.give_all.ensures.left
      ∙ drained.mappings
      ∙ ap (λ held. without_process c.args.pid held.mappings) c.self.view_is

pub returns-clause-gone : goal.returns-clause-gone
returns-clause-gone c window = ap (λ mappings. block_held_at mappings c.args.pid window) (left c) ∙ held_at-drained c.args.pid window c.args.self.now.mappings

pub returns-clause-others : goal.returns-clause-others
returns-clause-others c other window differs =
    ap (λ mappings. block_held_at mappings other window) (left c) ∙ held_at-drained_other c.args.pid c.args.self.now.mappings other window differs

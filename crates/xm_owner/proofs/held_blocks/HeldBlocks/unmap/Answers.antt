use Rattle.std.proofs.Common.{◌≡◌, ◌<◌, ◌≤◌, length, List, Some, None, arith, sym, ap, ◌∙◌, subst}
use Rattle.std.specs.List.{remove, slice_get}
use Rattle.std.proofs.lemmas.Option.{slice_get_past, slice_get-get_or}
use Rattle.std.proofs.lemmas.List.Edits.{length-remove}
use Rattle.ce_model.specs.Blocks.{Block}
use Rattle.xm_owner.specs.Holdings.{Mapping, block_held_at, mappings_without, HasChangedOnly}
use Rattle.xm_owner.specs.Tables.{mappings_of}
use Rattle.xm_owner.specs.declared.key.Key.{Key}
use Rattle.xm_owner.proofs.Mappings.{changes-without, changes-none, without-vacant}
use Rattle.xm_owner.proofs.Places.{held_at-mappings_of, mappings_of-remove}
use Rattle.xm_owner.proofs.held_blocks.HeldBlocks.unmap.Goals as goal

module _ (c : goal.Then-place-len) where
  -- the window holds nothing
  vacant : block_held_at c.args.self.now.mappings c.args.pid c.args.window ≡ None
  vacant =
      let past : length c.self.inside.blocks.items ≤ c.index_of-place.result = (let paired = c.self.invariant.paired in omega arith) in
      ap (λ held. block_held_at held.mappings c.args.pid c.args.window) (sym c.self.view_is)
      ∙ held_at-mappings_of (record { pid = c.args.pid; window = c.args.window }) c.self.inside.keys.list.items c.self.inside.blocks.items c.self.invariant.paired
      ∙ ap (slice_get c.self.inside.blocks.items) (sym c.index_of-place.ensures)
      ∙ slice_get_past c.self.inside.blocks.items c.index_of-place.result past

pub returns-then-place-len-clause-block : goal.returns-then-place-len-clause-block
returns-then-place-len-clause-block c = sym (vacant c)

pub returns-then-place-len-clause-after : goal.returns-then-place-len-clause-after
returns-then-place-len-clause-after c = sym (without-vacant c.args.pid c.args.window c.args.self.now.mappings (vacant c))

pub returns-then-place-len-clause-change : goal.returns-then-place-len-clause-change
returns-then-place-len-clause-change c = changes-none c.args.pid c.args.window c.args.self.now.mappings (vacant c)

module _ (c : goal.After-remove-2) where
  abbrev key : Key
  key = record { pid = c.args.pid; window = c.args.window }

  abbrev keys : List Key
  keys = c.self.inside.keys.list.items

  abbrev blocks : List Block
  blocks = c.self.inside.blocks.items

  within : c.index_of-place.result < length keys
  within = omega arith

  seen : mappings_of keys blocks ≡ c.args.self.now.mappings
  seen = ap (λ held. held.mappings) c.self.view_is

  block : block_held_at c.args.self.now.mappings c.args.pid c.args.window ≡ Some c.remove-2.result
  block =
      let inside : c.index_of-place.result < length blocks = (let paired = c.self.invariant.paired in let w = within in omega arith) in
      ap (λ ms. block_held_at ms c.args.pid c.args.window) (sym seen)
      ∙ held_at-mappings_of key keys blocks c.self.invariant.paired
      ∙ ap (slice_get blocks) (sym c.index_of-place.ensures)
      ∙ slice_get-get_or blocks c.index_of-place.result c.remove-2.result inside
      ∙ ap Some (sym c.remove-2.ensures.value)

  removed : mappings_of c.remove.new.self.list.items c.remove-2.new.self.items ≡ mappings_without c.args.pid c.args.window c.args.self.now.mappings
  removed = ap (λ ks. mappings_of ks c.remove-2.new.self.items) c.remove.ensures.after ∙ ap (mappings_of (remove keys c.index_of-place.result)) c.remove-2.ensures.items
      ∙ mappings_of-remove key keys blocks c.index_of-place.result c.index_of-place.ensures within c.self.invariant.paired c.self.inside.keys.rising
      ∙ ap (mappings_without c.args.pid c.args.window) seen

pub returns-clause-block : goal.returns-clause-block
returns-clause-block c = sym (block c)

pub returns-clause-after : goal.returns-clause-after
returns-clause-after c = removed c

pub returns-clause-change : goal.returns-clause-change
returns-clause-change c =
    subst (λ (ms : List Mapping). HasChangedOnly c.args.self.now.mappings ms c.args.pid c.args.window None) (sym (removed c))
    (changes-without c.args.pid c.args.window c.args.self.now.mappings)

pub invariant_of-self : goal.invariant_of-self
invariant_of-self c =
    let kept = c.self.invariant in
    let shorter = ap length c.remove.ensures.after in
    let one = length-remove c.self.inside.keys.list.items c.index_of-place.result (within c) in
    record { paired = omega arith; within = omega arith; keys = omega arith; blocks = omega arith; counted = kept.counted }

pub returns-clause-room : goal.returns-clause-room
returns-clause-room c =
    let kept = c.self.invariant in
    let seen = ap (λ held. held.spare) c.self.view_is in
    let shorter = ap length c.remove.ensures.after in
    let one = length-remove c.self.inside.keys.list.items c.index_of-place.result (within c) in
    omega arith

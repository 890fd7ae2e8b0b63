use Rattle.std.proofs.Common.{◌≡◌, ◌≤◌, ◌+◌, ◌-◌, length, List, arith, sym, ap, ◌∙◌, subst}
use Rattle.std.specs.List.{Contains}
use Rattle.std.proofs.lemmas.List.Edits.{length-insert}
use Rattle.ce_model.specs.Blocks.{Block, with_id}
use Rattle.ce_model.specs.Rising.{IsRising}
use Rattle.xm_block.specs.Stores.{is_block_before, ids_of, with_block}
use Rattle.xm_block.proofs.Rises.{put_in-at}
use Rattle.xm_block.proofs.Names.{rising-insert, ids_of-with_block}
use Rattle.xm_block.proofs.store.Store.give.Goals as goal

module _ (c : goal.In-Ok) where
  -- the table before and after
  abbrev before : List Block
  before = c.self.inside.blocks.items

  abbrev after : List Block
  after = c.insert.new.self.items

  seen : c.args.self.now.blocks ≡ before
  seen = sym (ap (λ store. store.blocks) c.self.view_is)

  items : after ≡ with_block c.args.block before
  items = c.in-Ok.ensures.items ∙ put_in-at is_block_before c.args.block before _ c.place_of-place.ensures.within c.place_of-place.ensures.passed c.place_of-place.ensures.ahead

  long : length after ≡ length before + 1
  long = ap length c.in-Ok.ensures.items ∙ length-insert _ _ _ c.place_of-place.ensures.within

  room : length before + 1 ≤ c.self.inside.room
  room = let spare = ap (λ store. store.spare) c.self.view_is in omega (arith, c.requires.room)

pub invariant_of-self : goal.invariant_of-self
invariant_of-self c =
    let n = long c in
    let place = room c in
    record {
      rising = subst (IsRising is_block_before) (sym c.in-Ok.ensures.items) (rising-insert c.args.block (before c) _ c.place_of-place.ensures.within c.self.invariant.rising (subst (λ (blocks : List Block). Contains (ids_of blocks) c.args.block.id → ⊥) (seen c) c.requires.apart) c.place_of-place.ensures.passed c.place_of-place.ensures.ahead);
      within = omega arith;
      reserved = omega (arith, c.insert.ensures.capacity, c.self.invariant.reserved);
      counted = c.self.invariant.counted;
    }

pub returns-clause-after : goal.returns-clause-after
returns-clause-after c =
    let blocks : after c ≡ with_block c.args.block c.args.self.now.blocks = items c ∙ ap (with_block c.args.block) (sym (seen c)) in
    let spare : c.self.inside.room - length (after c) ≡ c.args.self.now.spare - 1 = (let view = ap (λ store. store.spare) c.self.view_is in let n = long c in omega arith) in
    (cc)

pub returns-clause-ids : goal.returns-clause-ids
returns-clause-ids c = ap ids_of (items c) ∙ ids_of-with_block c.args.block (before c) ∙ ap (λ blocks. with_id c.args.block.id (ids_of blocks)) (sym (seen c))

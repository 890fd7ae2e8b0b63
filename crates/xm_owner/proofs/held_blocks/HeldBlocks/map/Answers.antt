use Rattle.std.proofs.Common.{◌≡◌, ◌≤◌, ◌+◌, ◌-◌, length, List, Some, None, arith, sym, ap, ◌∙◌, subst}
use Rattle.std.specs.List.{insert}
use Rattle.std.proofs.lemmas.List.Edits.{length-insert}
use Rattle.ce_model.specs.Blocks.{Block}
use Rattle.xm_owner.specs.Holdings.{Mapping, block_held_at, with_mapping, HasChangedOnly}
use Rattle.xm_owner.specs.Tables.{mappings_of}
use Rattle.xm_owner.specs.declared.key.Key.{Key}
use Rattle.xm_owner.proofs.Mappings.{changes-with_mapping}
use Rattle.xm_owner.proofs.Places.{vacant-keys, mappings_of-insert}
use Rattle.xm_owner.proofs.held_blocks.HeldBlocks.map.Goals as goal

pub insert-place-requires-clause-absent : goal.insert-place-requires-clause-absent
insert-place-requires-clause-absent c =
    let held = c.self.inside in
    vacant-keys (record { pid = c.args.pid; window = c.args.window }) held.keys.list.items held.blocks.items c.self.invariant.paired
    (ap (λ held. block_held_at held.mappings c.args.pid c.args.window) c.self.view_is ∙ c.requires.vacant)

module _ (c : goal.After-insert_reserved) where
  abbrev key : Key
  key = record { pid = c.args.pid; window = c.args.window }

  abbrev added : Mapping
  added = record { pid = c.args.pid; window = c.args.window; block = c.args.block }

  -- the tables before
  abbrev keys : List Key
  keys = c.self.inside.keys.list.items

  abbrev blocks : List Block
  blocks = c.self.inside.blocks.items

  seen : mappings_of keys blocks ≡ c.args.self.now.mappings
  seen = ap (λ held. held.mappings) c.self.view_is

  vacant : block_held_at (mappings_of keys blocks) c.args.pid c.args.window ≡ None
  vacant = ap (λ ms. block_held_at ms c.args.pid c.args.window) seen ∙ c.requires.vacant

  mapped : mappings_of c.insert-place.new.self.list.items c.insert_reserved.new.list.items ≡ with_mapping added (mappings_of keys blocks)
  mapped = ap (λ ks. mappings_of ks c.insert_reserved.new.list.items) c.insert-place.ensures.after ∙ ap (mappings_of (insert keys c.insert-place.result key)) c.insert_reserved.ensures.after
      ∙ mappings_of-insert key c.args.block keys blocks c.insert-place.result c.insert-place.ensures.within c.self.invariant.paired vacant c.insert-place.ensures.passed c.insert-place.ensures.ahead

  long : length c.insert-place.new.self.list.items ≡ length keys + 1
  long = ap length c.insert-place.ensures.after ∙ length-insert _ _ _ c.insert-place.ensures.within

  longer : length c.insert_reserved.new.list.items ≡ length blocks + 1
  longer = ap length c.insert_reserved.ensures.after ∙ length-insert _ _ _ (let paired = c.self.invariant.paired in let within = c.insert-place.ensures.within in omega arith)

  room : length keys + 1 ≤ c.self.inside.room
  room = let spare = ap (λ held. held.spare) c.self.view_is in omega (arith, c.requires.room)

pub invariant_of-self : goal.invariant_of-self
invariant_of-self c =
    let kept = c.self.invariant in
    record {
      paired = (let n = long c in let m = longer c in omega (arith, kept.paired));
      within = (let n = long c in let r = room c in omega arith);
      keys = omega (arith, kept.keys, c.insert-place.ensures.capacity);
      blocks = omega (arith, kept.blocks, c.insert_reserved.ensures.capacity);
      counted = kept.counted;
    }

pub returns-clause-after : goal.returns-clause-after
returns-clause-after c =
    let mappings = mapped c ∙ ap (with_mapping (added c)) (seen c) in
    let spare : c.self.inside.room - length c.insert-place.new.self.list.items ≡ c.args.self.now.spare - 1 = (let view = ap (λ held. held.spare) c.self.view_is in let n = long c in omega arith) in
    (cc)

pub returns-clause-change : goal.returns-clause-change
returns-clause-change c =
    subst (λ (ms : List Mapping). HasChangedOnly ms (mappings_of c.insert-place.new.self.list.items c.insert_reserved.new.list.items) c.args.pid c.args.window (Some c.args.block)) (seen c)
    (subst (λ (ms : List Mapping). HasChangedOnly (mappings_of (keys c) (blocks c)) ms c.args.pid c.args.window (Some c.args.block)) (sym (mapped c))
    (changes-with_mapping (added c) (mappings_of (keys c) (blocks c)) (vacant c)))

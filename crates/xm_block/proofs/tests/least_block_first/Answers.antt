use Rattle.std.proofs.Common.{◌≡◌, ap, ◌∙◌, arith, [], ◌∷◌, List}
use Rattle.std.specs.List.{Contains}
use Rattle.ce_model.specs.declared.topology.BlockId.{BlockId}
use Rattle.ce_model.specs.Blocks.{with_id}
use Rattle.xm_block.specs.Stores.{ids_of}
use Rattle.xm_block.proofs.Names.{apart-none, apart-more}
use Rattle.xm_block.proofs.tests.least_block_first.Goals as goal

-- the names in the order in which they go in
abbrev first : BlockId
first = record { home = 1; index = 0 }

abbrev second : BlockId
second = record { home = 0; index = 31 }

abbrev third : BlockId
third = record { home = 0; index = 2 }

-- they differ
first-second : first ≡ second → ⊥
first-second same = absurd (omega (arith, ap (λ id. id.home) same))

first-third : first ≡ third → ⊥
first-third same = absurd (omega (arith, ap (λ id. id.home) same))

second-third : second ≡ third → ⊥
second-third same = absurd (omega (arith, ap (λ id. id.index) same))

-- a name that is none of some names isn't among them, whatever list they are
apart : (id other : BlockId) (ids held : List BlockId) → other ≡ id → held ≡ ids → (Contains ids id → ⊥) → Contains held other → ⊥
apart id other ids held p q h = rw (p, q) h

pub give-requires-2-clause-apart : goal.give-requires-2-clause-apart
give-requires-2-clause-apart g c =
    let ids : ids_of c.give.new.self.blocks ≡ first ∷ [] =
    c.give.ensures.ids ∙ ap (λ store. with_id c.in_ok-block.field-0.id (ids_of store.blocks)) c.in_ok-store.ensures ∙ ap (λ id. id ∷ []) c.in_ok-block.ensures in
    apart second _ _ _ c.in_ok-block-2.ensures ids (apart-more second first [] first-second (apart-none second))

pub give-requires-3-clause-apart : goal.give-requires-3-clause-apart
give-requires-3-clause-apart g c =
    let one : ids_of c.give.new.self.blocks ≡ first ∷ [] =
    c.give.ensures.ids ∙ ap (λ store. with_id c.in_ok-block.field-0.id (ids_of store.blocks)) c.in_ok-store.ensures ∙ ap (λ id. id ∷ []) c.in_ok-block.ensures in
    let two : ids_of c.give-2.new.self.blocks ≡ second ∷ first ∷ [] =
    c.give-2.ensures.ids ∙ ap (λ id. with_id id (ids_of c.give.new.self.blocks)) c.in_ok-block-2.ensures ∙ ap (with_id second) one in
    apart third _ _ _ c.in_ok-block-3.ensures two (apart-more third second (first ∷ []) second-third (apart-more third first [] first-third (apart-none third)))

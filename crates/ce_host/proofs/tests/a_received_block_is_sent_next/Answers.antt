use Rattle.std.proofs.Common.{◌≡◌, ℕ, ◌+◌, List, arith, ap, ◌∙◌}
use Rattle.std.specs.List.{Contains}
use Rattle.ce_model.specs.declared.topology.BlockId.{BlockId}
use Rattle.ce_model.specs.Limits.{host_home, host_home_lem}
use Rattle.ce_model.specs.Blocks.{blocks_of_home}
use Rattle.xm_block.proofs.HomeBlocks.{of_home}
use Rattle.ce_host.proofs.tests.a_received_block_is_sent_next.Goals as goal

-- a block of another home isn't among those of this one
apart : (home : ℕ) (id : BlockId) (ids : List BlockId) → ids ≡ blocks_of_home home → (id.home ≡ home → ⊥) → Contains ids id → ⊥
apart home id ids same other there = other (of_home home id (rw same at there))

pub accept-requires-clause-apart : goal.accept-requires-clause-apart
accept-requires-clause-apart g c =
    let block : c.parcel.result.block.id.home ≡ 3 = ap (λ block. block.id.home) (c.parcel.ensures ∙ c.fill.ensures) ∙ ap (λ block. block.id.home) c.in_ok-block.ensures in
    apart (host_home + 0) _ _ c.in_ok-host.ensures.blocks (λ same. absurd (omega (arith, host_home_lem)))

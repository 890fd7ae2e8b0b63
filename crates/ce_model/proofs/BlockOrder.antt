-- The order of blocks' names.
use Rattle.std.proofs.Common.{◌≡◌, true, arith}
use Rattle.std.proofs.lemmas.Bool.Decides.{nat_tests}
use Rattle.ce_model.specs.declared.topology.BlockId.{BlockId}
use Rattle.ce_model.specs.Blocks.{is_lower}

pub precedes-trans : (a b c : BlockId) → is_lower a b ≡ true → is_lower b c ≡ true → is_lower a c ≡ true
precedes-trans a b c h k = grind (arith, nat_tests)

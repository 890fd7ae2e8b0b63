-- The value of a size that proofs don't compute with.
use Rattle.std.proofs.Common.{◌≡◌, refl}
use Rattle.rv_model.specs.declared.limits.TheConstants.{PRIVATE_SIZE}
use Rattle.rv_model.specs.Private.{private_size}

pub private_size_lem : private_size ≡ PRIVATE_SIZE
unfolding private_size
private_size_lem = refl

use Rattle.std.proofs.Common.{◌≡◌, ◌-◌, ◌/◌, ◌^◌, ℕ}
use Rattle.ce_model.specs.Limits.{greatest_dim}
use Rattle.ce_model.specs.Parcels.{is_member}
use Rattle.ce_set.proofs.Covers.{covers}
use Rattle.ce_set.proofs.subcube.bases_within.Given as goal

-- the places from this one on are done
abbrev pub invariant-loop-place : goal.invariant-loop-place
invariant-loop-place l = (n : ℕ) → is_member n l.bases ≡ covers (greatest_dim - l.place) l.place (λ k. is_member k l.set) (l.mask / 2 ^ l.place) n

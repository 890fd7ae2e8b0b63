use Rattle.std.proofs.Common.{◌≡◌, ◌-◌, ◌/◌, ◌^◌, ◌<◌, ℕ}
use Rattle.ce_model.specs.Limits.{greatest_dim}
use Rattle.ce_model.specs.Parcels.{is_member}
use Rattle.ce_set.proofs.Covers.{reaches}
use Rattle.ce_set.proofs.subcube.nodes_of.Given as goal

-- the places from this one on are done
abbrev pub invariant-loop-place : goal.invariant-loop-place
invariant-loop-place l =
    (n : ℕ) → n < 64 → is_member n l.nodes ≡ reaches (greatest_dim - l.place) l.place (l.sub.mask / 2 ^ l.place) l.sub.base n

-- What holds of a daemon's parts all the time.
use Rattle.std.specs.Prelude.{◌≡◌, ℕ, ◌^◌, ◌<◌, ◌≤◌, List, Option, true, All, length, count_by}
use Rattle.ce_model.specs.declared.topology.NodeSet.{NodeSet}
use Rattle.ce_model.specs.Limits.{greatest_dim}
use Rattle.ce_model.specs.Subcubes.{has_node, IsSubcube}
use Rattle.ce_daemon.specs.declared.grant.Grant.{Grant}
use Rattle.ce_daemon.specs.Boxes.{HasBox}
use Rattle.ce_daemon.specs.Holding.{IsPartition, is_grant_of}

-- the free set and the grants part the nodes, a user holds one grant at most, and each free node
-- has its clean box
pub record IsSoundDaemon {N : Type 0} (home : N → ℕ) (clean : N → Type 0) (dim : ℕ)
    (free : NodeSet) (grants : List Grant) (places : List (Option N)) : Type 0 where
  pub small : dim ≤ greatest_dim
  pub within : free.0 < 2 ^ 2 ^ dim
  pub partition : IsPartition dim grants free
  pub subcubes : All (λ grant. IsSubcube dim grant.dim grant.sub) grants
  pub single : (user : ℕ) → count_by (is_grant_of user) grants ≤ 1
  pub all : length places ≡ 2 ^ dim
  pub filled : (node : ℕ) → has_node free node ≡ true → HasBox home clean places node

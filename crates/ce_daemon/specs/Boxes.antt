-- The boxes that a daemon keeps, and those that it hands out.
use Rattle.std.specs.Prelude.{◌≡◌, ℕ, ◌^◌, ◌<◌, List, Option, None, IsSomeAnd, length, slice_index_or}
use Rattle.ce_model.specs.Subcubes.{node_of}
use Rattle.ce_daemon.specs.declared.grant.Grant.{Grant}

-- a clean box whose home is this node
abbrev pub IsNodeBox : {N : Type 0} → (N → ℕ) → (N → Type 0) → ℕ → N → Type 0
IsNodeBox home clean node one = (home one ≡ node) × clean one

-- these are so many boxes, and number r is the clean box of the node that `node r` names
pub record AreBoxes {N : Type 0} (home : N → ℕ) (clean : N → Type 0) (count : ℕ) (node : ℕ → ℕ)
    (boxes : List N) : Type 0 where
  pub all : length boxes ≡ count
  pub each : (r : ℕ) (other : N) → r < count
      → IsNodeBox home clean (node r) (slice_index_or boxes r other)

-- these are the clean boxes of a grant's nodes, in the order of their relative numbers
abbrev pub AreGrantBoxes : {N : Type 0} → (N → ℕ) → (N → Type 0) → Grant → List N → Type 0
AreGrantBoxes home clean grant boxes = AreBoxes home clean (2 ^ grant.dim) (node_of grant.sub) boxes

-- the place of a node has its clean box
abbrev pub HasBox : {N : Type 0} → (N → ℕ) → (N → Type 0) → List (Option N) → ℕ → Type 0
HasBox home clean places node =
    IsSomeAnd (slice_index_or places node None) (IsNodeBox home clean node)

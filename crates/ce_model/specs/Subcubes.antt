-- The subcubes of a machine, and the numbers by which a cube knows its nodes.
use Rattle.std.specs.Prelude.{◌≡◌, ℕ, ◌+◌, ◌*◌, ◌/◌, ◌%◌, ◌^◌, ◌<◌, zero, suc, ◌==◌, if◌then◌else◌, Bool, List, map, filter, find, flat_map, Option}
use Rattle.std.specs.List.{list_all, range_with_len}
use Rattle.ce_model.specs.declared.topology.TheConstants.{HOST}
use Rattle.ce_model.specs.declared.topology.NodeSet.{NodeSet}
use Rattle.ce_model.specs.declared.topology.Subcube.{Subcube}
use Rattle.ce_model.specs.Limits.{greatest_dim}
use Rattle.ce_model.specs.Parcels.{is_member}

-- the bits of n at the one bits of the mask, moved together from the lowest up; for numbers of so
-- many bits
abbrev pub extracted_bits : ℕ → ℕ → ℕ → ℕ
extracted_bits zero n mask = 0
extracted_bits (suc bits) n mask =
    if mask % 2 == 1 then n % 2 + 2 * extracted_bits bits (n / 2) (mask / 2)
    else extracted_bits bits (n / 2) (mask / 2)

-- the relative number of a node of a subcube
unfoldable pub extract : ℕ → ℕ → ℕ
extract n mask = extracted_bits greatest_dim n mask

-- the number by which a cube knows a node of the machine; its host keeps the number
unfoldable pub relative_number : Subcube → ℕ → ℕ
relative_number sub node = if node == HOST then HOST else extract node sub.mask

-- the bits of r, put on the one bits of the mask from the lowest up; for masks of so many bits
abbrev pub deposited_bits : ℕ → ℕ → ℕ → ℕ
deposited_bits zero r mask = 0
deposited_bits (suc bits) r mask =
    if mask % 2 == 1 then r % 2 + 2 * deposited_bits bits (r / 2) (mask / 2)
    else 2 * deposited_bits bits r (mask / 2)

unfoldable pub deposit : ℕ → ℕ → ℕ
deposit r mask = deposited_bits greatest_dim r mask

-- the node of the machine that a cube knows as r
abbrev pub node_of : Subcube → ℕ → ℕ
node_of sub r = sub.base + deposit r sub.mask

-- the node is one of the subcube's
abbrev pub is_inside : Subcube → ℕ → Bool
is_inside sub node = node_of sub (extract node sub.mask) == node

-- node n is in a set of nodes where its word has bit n
abbrev pub has_node : NodeSet → ℕ → Bool
has_node nodes n = is_member n nodes.0

-- each one bit of n is a one bit of the mask
pub record IsPart (n mask : ℕ) : Type 0 where
  pub ones : (place : ℕ) → n / 2 ^ place % 2 ≡ 1 → mask / 2 ^ place % 2 ≡ 1

-- how many one bits a number of so many bits has
abbrev pub ones_of : ℕ → ℕ → ℕ
ones_of zero n = 0
ones_of (suc bits) n = n % 2 + ones_of bits (n / 2)

-- a base of a subcube has no bit of the mask
abbrev pub is_base : ℕ → ℕ → Bool
is_base mask base = extract base mask == 0

-- the mask and the base name a subcube of dimension d of a machine of dimension dim
pub record IsSubcube (dim d : ℕ) (sub : Subcube) : Type 0 where
  pub mask_within : sub.mask < 2 ^ dim
  pub base_within : sub.base < 2 ^ dim
  pub dimension : ones_of greatest_dim sub.mask ≡ d
  pub apart : extract sub.base sub.mask ≡ 0

abbrev pub subcube : ℕ → ℕ → Subcube
subcube mask base = record { mask = mask; base = base }

-- the subcubes with this mask of a machine with so many nodes, by rising base
abbrev pub subcubes_with_mask : ℕ → ℕ → List Subcube
subcubes_with_mask count mask = map (subcube mask) (filter (is_base mask) (range_with_len 0 count))

-- the subcubes of dimension d of a machine of dimension dim, by rising mask, and those of one mask
-- by rising base
unfoldable pub subcubes : (dim d : ℕ) → List Subcube
subcubes dim d = flat_map (subcubes_with_mask (2 ^ dim))
    (filter (λ mask. ones_of greatest_dim mask == d) (range_with_len 0 (2 ^ dim)))

-- all nodes of a subcube of dimension d pass a test
abbrev pub are_all_nodes : (ℕ → Bool) → ℕ → Subcube → Bool
are_all_nodes test d sub = list_all (λ r. test (node_of sub r)) (range_with_len 0 (2 ^ d))

-- the first subcube of dimension d whose nodes all are free
unfoldable pub first_free_subcube : (ℕ → Bool) → (dim d : ℕ) → Option Subcube
first_free_subcube is_free dim d = find (are_all_nodes is_free d) (subcubes dim d)

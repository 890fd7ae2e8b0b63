-- The worked rows `no_fit`, `not_contiguous` and `renaming`: which subcube is the first free one,
-- by the state that a history leaves.
use Rattle.std.proofs.Common.{◌≡◌, ℕ, List, [], ◌∷◌, ◌++◌, map, Some, None, refl}
use Rattle.rv_model.specs.Image.{ImageParts}
use Rattle.ce_model.specs.declared.topology.TheConstants.{HOST}
use Rattle.ce_model.specs.declared.topology.Subcube.{Subcube}
use Rattle.ce_model.specs.declared.entry.Entry.{Entry}
use Rattle.ce_model.specs.declared.entry.What.TheVariants.{Getcube, Drain, Freecube}
use Rattle.ce_model.specs.Limits.{greatest_dim}
use Rattle.ce_model.specs.Literals.{machine, host_entry, subcube}
use Rattle.ce_model.specs.Subcubes.{extract, deposit, subcubes, first_free_subcube, node_of}
use Rattle.ce_model.specs.Machine.{after, what_of_request, getcube, free_count, held_grants}

-- three users get a cube of this dimension each
abbrev pub three_cubes : ℕ → Subcube → Subcube → Subcube → List Entry
three_cubes dim first second third =
    host_entry 0 (Getcube dim (Some first)) ∷ host_entry 1 (Getcube dim (Some second)) ∷ host_entry 2 (Getcube dim (Some third)) ∷ []

-- one node each, of a machine of four
abbrev pub three_nodes : List Entry
three_nodes = three_cubes 0 (subcube 0 0) (subcube 0 1) (subcube 0 2)

-- this user gives its cube back
abbrev pub return_entries : ℕ → List Entry
return_entries user = host_entry user Drain ∷ host_entry user Freecube ∷ []

-- nodes 0 and 3 are free, which are no subcube, so a cube of two nodes is refused
pub no_fit : (image : ImageParts) → what_of_request (machine 2 4 image) (after (three_nodes ++ return_entries 0)) 3 HOST (getcube 1) ≡ Some (Getcube 1 None)
unfolding after extract deposit subcubes first_free_subcube greatest_dim
no_fit image = refl

pub no_fit_free : (image : ImageParts) → free_count (machine 2 4 image) (after (three_nodes ++ return_entries 0)) ≡ 2
unfolding after extract deposit greatest_dim
no_fit_free image = refl

-- what a peek tells of it: the second and the third grant are held
pub no_fit_held :
    held_grants (after (three_nodes ++ return_entries 0))
    ≡ (1, record { user = 1; dim = 0; sub = subcube 0 1 }) ∷ (2, record { user = 2; dim = 0; sub = subcube 0 2 }) ∷ []
unfolding after extract deposit greatest_dim
no_fit_held = refl

-- nodes 1 and 3 are free, which are the subcube of mask 2 and base 1
pub not_contiguous : (image : ImageParts)
    → what_of_request (machine 2 4 image) (after (three_nodes ++ return_entries 1)) 3 HOST (getcube 1) ≡ Some (Getcube 1 (Some (subcube 2 1)))
unfolding after extract deposit subcubes first_free_subcube greatest_dim
not_contiguous image = refl

-- three users of a machine of eight nodes get two nodes each
abbrev pub three_pairs : List Entry
three_pairs = three_cubes 1 (subcube 1 0) (subcube 1 2) (subcube 1 4)

-- nodes 2, 3, 6 and 7 are free: the subcube of mask 5 and base 2
pub renaming : (image : ImageParts)
    → what_of_request (machine 3 4 image) (after (three_pairs ++ return_entries 1)) 3 HOST (getcube 2) ≡ Some (Getcube 2 (Some (subcube 5 2)))
unfolding after extract deposit subcubes first_free_subcube greatest_dim
renaming image = refl

-- its nodes, in relative order
pub renamed_nodes : map (node_of (subcube 5 2)) (0 ∷ 1 ∷ 2 ∷ 3 ∷ []) ≡ 2 ∷ 3 ∷ 6 ∷ 7 ∷ []
unfolding deposit greatest_dim
renamed_nodes = refl

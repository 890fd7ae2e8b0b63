-- The daemon's table of grants is the machine's: the grants that are held, the nodes that are free,
-- and how an entry changes both.
use Rattle.std.proofs.Common.{◌≡◌, ℕ, ◌+◌, ◌^◌, ◌<◌, ◌≤◌, not, ◌||◌, List, [], ◌∷◌, ◌++◌, map, filter, find, option_map, refl, ap, ◌∙◌, inl, inr, arith, pow_mono}
use Rattle.std.specs.List.{list_any}
use Rattle.std.proofs.lemmas.Bool.{cases_Bool}
use Rattle.std.proofs.lemmas.List.{map-append}
use Rattle.ce_model.specs.declared.topology.Subcube.{Subcube}
use Rattle.ce_model.specs.Limits.{greatest_dim}
use Rattle.ce_model.specs.Subcubes.{node_of, is_inside, IsSubcube}
use Rattle.ce_model.specs.Renaming.{CubeGrant}
use Rattle.ce_model.specs.Machine.{HeldCube, MachineState, cube_held_by, is_held_by, held_grants, is_free, with_grant, without_cube}
use Rattle.ce_model.proofs.Subcubes.{node_of-within, ones_of-bound}
use Rattle.ce_solo.proofs.Projection.Numbers.{IsPlaced}
use Rattle.ce_daemon.specs.declared.grant.Grant.{Grant}
use Rattle.ce_daemon.specs.Holding.{next_grant}
use Rattle.ce_daemon.specs.Holding as daemon
use Rattle.ce_daemon.specs.Peeks.{numbered_grant}
use Rattle.ce_machine.specs.Tables.{grant_table}
use Rattle.ce_machine.proofs.Changes.{user_grant}
use Rattle.ce_machine.specs.Requests.{number_and_grant}

-- the grants that are held, by number
abbrev pub grants_in : MachineState → List Grant
grants_in state = map numbered_grant (held_grants state)

-- the grant of a cube
abbrev pub grant_held : HeldCube → Grant
grant_held cube = numbered_grant (number_and_grant cube)

-- the daemon has the grant of the cube that a user holds
pub held-same : (dim : ℕ) (state : MachineState) (user : ℕ) → daemon.grant_held_by (grant_table dim state) user ≡ option_map grant_held (cube_held_by state user)
held-same dim state user = by_cubes state.cubes
  where
    by_cubes : (cubes : List HeldCube) → find (daemon.is_grant_of user) (map numbered_grant (map number_and_grant cubes)) ≡ option_map grant_held (find (is_held_by user) cubes)
    by_cubes [] = refl
    by_cubes (cube ∷ cubes) = elim (cases_Bool (is_held_by user cube)) [ inl t ↦ rw t refl | inr f ↦ rw f (by_cubes cubes) ]

-- a node is free for the daemon where it is for the machine
pub free-same : (dim : ℕ) (state : MachineState) → daemon.is_ungranted (grant_table dim state) ≡ is_free state
free-same dim state = λ i node. not (by_cubes node state.cubes i)
  where
    by_cubes : (node : ℕ) (cubes : List HeldCube) → list_any (daemon.is_granted node) (map numbered_grant (map number_and_grant cubes)) ≡ list_any (λ (cube : HeldCube). is_inside cube.grant.sub node) cubes
    by_cubes node [] = refl
    by_cubes node (cube ∷ cubes) = ap (λ b. is_inside cube.grant.sub node || b) (by_cubes node cubes)

-- a cube is granted, and one is given back
pub table-with-grant : (dim : ℕ) (state : MachineState) (user d : ℕ) (sub : Subcube)
    → grant_table dim (with_grant (user_grant user d sub) state) ≡ daemon.table_with_grant (next_grant state.grant_count user d sub) (grant_table dim state)
table-with-grant dim state user d sub = λ i. record { dim = dim; count = state.grant_count + 1; grants = grants i }
  where
    grants : grants_in (with_grant (user_grant user d sub) state) ≡ grants_in state ++ next_grant state.grant_count user d sub ∷ []
    grants = ap (map numbered_grant) (map-append number_and_grant state.cubes _) ∙ map-append numbered_grant (held_grants state) _

pub table-without-user : (dim : ℕ) (state : MachineState) (user : ℕ) → grant_table dim (without_cube user state) ≡ daemon.without_user user (grant_table dim state)
table-without-user dim state user = λ i. record { dim = dim; count = state.grant_count; grants = by_cubes state.cubes i }
  where
    by_cubes : (cubes : List HeldCube) → map numbered_grant (map number_and_grant (filter (λ cube. not (is_held_by user cube)) cubes))
        ≡ filter (λ grant. not (daemon.is_grant_of user grant)) (map numbered_grant (map number_and_grant cubes))
    by_cubes [] = refl
    by_cubes (cube ∷ cubes) =
        elim (cases_Bool (is_held_by user cube)) [
          | inl t ↦ rw t (by_cubes cubes)
          | inr f ↦ rw f (ap (λ grants. grant_held cube ∷ grants) (by_cubes cubes))
        ]

-- where the grants stay and their count does, the table stays
pub table-stays : (dim : ℕ) (state state' : MachineState) → state'.grant_count ≡ state.grant_count → held_grants state' ≡ held_grants state → grant_table dim state' ≡ grant_table dim state
table-stays dim state state' count grants = λ i. record { dim = dim; count = count i; grants = map numbered_grant (grants i) }

-- ---- a grant of a machine of this dimension

module _ (dim : ℕ) (grant : CubeGrant) (placed : IsPlaced dim grant) where
  pub placed-small : grant.dim ≤ greatest_dim
  placed-small = rw (← placed.sub.dimension) (ones_of-bound greatest_dim grant.sub.mask)

  -- its subcube is one of the largest machine too
  pub placed-wide : IsSubcube greatest_dim grant.dim grant.sub
  placed-wide =
      let wide : 2 ^ dim ≤ 2 ^ greatest_dim = pow_mono placed.within in
      record {
        mask_within = omega (arith, placed.sub.mask_within);
        base_within = omega (arith, placed.sub.base_within);
        dimension = placed.sub.dimension;
        apart = placed.sub.apart;
      }

  -- its nodes are the machine's
  pub placed-node : (r : ℕ) → node_of grant.sub r < 2 ^ dim
  placed-node r = node_of-within dim r grant.sub placed.sub.base_within placed.sub.mask_within placed.sub.apart

-- The numbers of a granted cube's nodes and the names of its blocks, outwards and back.
use Rattle.std.proofs.Common.{◌≡◌, ◌⊎◌, ℕ, ◌+◌, ◌^◌, ◌<◌, ◌≤◌, true, false, ◌==◌, nat_lt, List, [], ◌∷◌, refl, ap, sym, ◌∙◌, inl, inr, arith}
use Rattle.std.specs.List.{AllByRecursion}
use Rattle.std.proofs.lemmas.Bool.{cases_eq, lt-ltb, le-ltb, eq-eqb, ne_eqb}
use Rattle.ce_model.specs.declared.topology.TheConstants.{HOST}
use Rattle.ce_model.specs.declared.topology.Place.{Place}
use Rattle.ce_model.specs.declared.topology.BlockId.{BlockId}
use Rattle.ce_model.specs.declared.entry.Entry.{Entry}
use Rattle.ce_model.specs.declared.entry.What.{What}
use Rattle.ce_model.specs.declared.entry.What.TheVariants.{Send, Spawn, Kill}
use Rattle.ce_model.specs.Limits.{greatest_dim, greatest_users, host_home, host_home_lem}
use Rattle.ce_model.specs.Subcubes.{relative_number, extract, node_of, is_inside, IsSubcube}
use Rattle.ce_model.specs.Owners.{IsBlockOf}
use Rattle.ce_model.specs.Renaming.{CubeGrant, place_inward, place_outward, block_inward, block_outward, number_outward, renamed_targets, renamed_what, entry_inward}
use Rattle.ce_solo.proofs.Renaming.Grants.{few_nodes}
use Rattle.ce_model.proofs.Subcubes.{extract-node_of, extract-below, node_of-within, node_of-extract, ones_of-bound}

-- a grant of a machine of this dimension
pub record IsPlaced (dim : ℕ) (grant : CubeGrant) : Type 0 where
  pub within : dim ≤ greatest_dim
  pub user : grant.user < greatest_users
  pub sub : IsSubcube dim grant.dim grant.sub

-- a number of a node of a cube of this dimension, or its host's
abbrev pub IsNumber : ℕ → ℕ → Type 0
IsNumber d n = (n < 2 ^ d) ⊎ (n ≡ HOST)

-- the call of an entry names places and blocks of the cube alone
abbrev pub IsWhatOf : ℕ → What → Type 0
IsWhatOf d (Send pid first to bytes) = AllByRecursion (λ target. IsNumber d target.0.node × IsBlockOf d target.1) to
IsWhatOf d (Spawn pid image to fresh) = to.node < 2 ^ d
IsWhatOf d (Kill pid to found) = to.node < 2 ^ d
IsWhatOf d other = Unit {0}

-- an entry of a cube, as the machine knows it
abbrev pub what_outward : CubeGrant → What → What
what_outward grant what = renamed_what (place_outward grant.sub) (block_outward grant) what

abbrev pub entry_outward : CubeGrant → Entry → Entry
entry_outward grant entry =
    record { user = entry.user; actor = number_outward grant.sub entry.actor; what = what_outward grant entry.what }

abbrev place_at : ℕ → ℕ → Place
place_at pid node = record { node = node; pid = pid }

abbrev block_at : ℕ → ℕ → BlockId
block_at index home = record { home = home; index = index }

pub out_host : (grant : CubeGrant) → number_outward grant.sub HOST ≡ HOST
out_host grant = refl

module _ (dim : ℕ) (grant : CubeGrant) (of : IsPlaced dim grant) where
  abbrev count : ℕ
  count = 2 ^ grant.dim

  pub few_relative : 2 ^ grant.dim ≤ 64
  few_relative = few_nodes grant.dim (rw (← of.sub.dimension) (ones_of-bound greatest_dim grant.sub.mask))

  pub out_below : (r : ℕ) → node_of grant.sub r < 64
  out_below r = omega (arith, node_of-within dim r grant.sub of.sub.base_within of.sub.mask_within of.sub.apart, few_nodes dim of.within)

  pub node_no_host : (r : ℕ) → r < 2 ^ grant.dim → (r == HOST) ≡ false
  node_no_host r below = ne_eqb r HOST (λ e. omega (arith, few_relative))

  pub out_no_host : (r : ℕ) → (node_of grant.sub r == HOST) ≡ false
  out_no_host r = ne_eqb (node_of grant.sub r) HOST (λ e. omega (arith, out_below r))

  pub out_node : (r : ℕ) → r < 2 ^ grant.dim → number_outward grant.sub r ≡ node_of grant.sub r
  out_node r below = rw (node_no_host r below) refl

  pub extract_out : (r : ℕ) → r < 2 ^ grant.dim → extract (node_of grant.sub r) grant.sub.mask ≡ r
  extract_out r below = extract-node_of grant.sub r of.sub.apart (rw of.sub.dimension below)

  pub relative_out : (r : ℕ) → r < 2 ^ grant.dim → relative_number grant.sub (node_of grant.sub r) ≡ r
  unfolding relative_number
  relative_out r below = rw (out_no_host r) (extract_out r below)

  pub relative_host : relative_number grant.sub HOST ≡ HOST
  unfolding relative_number
  relative_host = refl

  pub in_out : (n : ℕ) → IsNumber grant.dim n → relative_number grant.sub (number_outward grant.sub n) ≡ n
  in_out n (inl below) = ap (relative_number grant.sub) (out_node n below) ∙ relative_out n below
  in_out n (inr host) =
      ap (λ m. relative_number grant.sub (number_outward grant.sub m)) host ∙ ap (relative_number grant.sub) (out_host grant) ∙ relative_host ∙ sym host

  pub out_test : (a b : ℕ) → IsNumber grant.dim a → IsNumber grant.dim b → (number_outward grant.sub a == number_outward grant.sub b) ≡ (a == b)
  out_test a b of_a of_b =
      elim (cases_eq a b) [
        | inl same ↦ eq-eqb _ _ (ap (number_outward grant.sub) same) ∙ sym (eq-eqb a b same)
        | inr differ ↦
            ne_eqb _ _ (λ e. differ (sym (in_out a of_a) ∙ ap (relative_number grant.sub) e ∙ in_out b of_b)) ∙ sym (ne_eqb a b differ)
      ]

  -- an actor inside, or the host, has a number of the cube, which leads back to it
  pub inside_below : (node : ℕ) → is_inside grant.sub node ≡ true → extract node grant.sub.mask < 2 ^ grant.dim
  inside_below node inside = rw (← of.sub.dimension) (extract-below node grant.sub.mask)

  pub inside_no_host : (node : ℕ) → is_inside grant.sub node ≡ true → (node == HOST) ≡ false
  inside_no_host node inside =
      ne_eqb node HOST (λ e. omega (arith, out_below (extract node grant.sub.mask), node_of-extract grant.sub node inside))

  pub relative_inside : (node : ℕ) → is_inside grant.sub node ≡ true → relative_number grant.sub node ≡ extract node grant.sub.mask
  unfolding relative_number
  relative_inside node inside = rw (inside_no_host node inside) refl

  pub host_outside : is_inside grant.sub HOST ≡ false
  host_outside = ne_eqb _ _ (λ e. omega (arith, out_below (extract HOST grant.sub.mask)))

  pub block_in_out : (id : BlockId) → IsBlockOf grant.dim id → block_inward grant.sub (block_outward grant id) ≡ id
  block_in_out id is = by_home is.home
    where
      by_home : (id.home < 2 ^ grant.dim) ⊎ (id.home ≡ host_home) → block_inward grant.sub (block_outward grant id) ≡ id
      by_home (inl below) =
          let no_host : (id.home == host_home) ≡ false = ne_eqb _ _ (λ e. omega (arith, few_relative, host_home_lem)) in
          let node : nat_lt (node_of grant.sub id.home) host_home ≡ true = lt-ltb _ _ (omega (arith, out_below id.home, host_home_lem)) in
          rw (no_host, node) (ap (block_at id.index) (relative_out id.home below))
      by_home (inr host) =
          let is_host : (id.home == host_home) ≡ true = eq-eqb _ _ host in
          let past : nat_lt (host_home + grant.user) host_home ≡ false = le-ltb _ _ (omega arith) in
          rw (is_host, past) (ap (block_at id.index) (sym host))

  pub place_in_out : (to : Place) → IsNumber grant.dim to.node → place_inward grant.sub (place_outward grant.sub to) ≡ to
  place_in_out to is = ap (place_at to.pid) (in_out to.node is)

  targets_in_out : (to : List (Place × BlockId)) → AllByRecursion (λ target. IsNumber grant.dim target.0.node × IsBlockOf grant.dim target.1) to
      → renamed_targets (place_inward grant.sub) (block_inward grant.sub) (renamed_targets (place_outward grant.sub) (block_outward grant) to) ≡ to
  targets_in_out [] all = refl
  targets_in_out (target ∷ to) all =
      λ i. (place_in_out target.0 all.0.0 i, block_in_out target.1 all.0.1 i) ∷ targets_in_out to all.1 i

  -- what the cube says, outwards and back
  pub what_in_out : (what : What) → IsWhatOf grant.dim what → renamed_what (place_inward grant.sub) (block_inward grant.sub) (what_outward grant what) ≡ what
  what_in_out (Send pid first to bytes) is = ap (λ to. Send pid first to bytes) (targets_in_out to is)
  what_in_out (Spawn pid image to fresh) is = ap (λ to. Spawn pid image to fresh) (place_in_out to (inl is))
  what_in_out (Kill pid to found) is = ap (λ to. Kill pid to found) (place_in_out to (inl is))
  what_in_out other is = refl

  pub entry_in_out : (entry : Entry) → IsNumber grant.dim entry.actor → IsWhatOf grant.dim entry.what → entry_inward grant.sub (entry_outward grant entry) ≡ entry
  entry_in_out entry actor what =
      λ i. record { user = entry.user; actor = in_out entry.actor actor i; what = what_in_out entry.what what i }

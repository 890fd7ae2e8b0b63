-- The blocks at the windows of a process: what each change of its memory does to their names.
use Rattle.std.proofs.Common.{◌≡◌, ℕ, zero, suc, ◌+◌, ◌-◌, ◌%◌, not, ◌==◌, nat_lt, nat_le, List, [], ◌∷◌, ◌++◌, length, map, slice_set, slice_get, filter_map, Option, Some, None, option_map, Result, Ok, Err, IfOk, refl, ap, arith, length-set}
use Rattle.std.proofs.lemmas.Bool.{cond_both}
use Rattle.std.proofs.lemmas.List.Elements.{filter_map-append}
use Rattle.rv_model.specs.declared.stop.Stop.{Stop}
use Rattle.rv_model.specs.declared.limits.TheConstants.{PRIVATE_START}
use Rattle.rv_model.specs.Private.{is_private}
use Rattle.rv_model.specs.LittleEndian.{with_number_at}
use Rattle.rv_model.specs.declared.stop.Stop.TheVariants.{Misaligned, Unmapped, NotABlock}
use Rattle.ce_model.specs.declared.topology.BlockId.{BlockId}
use Rattle.ce_model.specs.Blocks.{Block}
use Rattle.ce_model.specs.Limits.{window_base}
use Rattle.ce_model.specs.Space.{Space, window_of, offset_of, mapped_space, mapped_ids, AccessSite, private_site, block_site, site_in, access_site, with_number_in, result_map, store_result, block_at_window, is_window_start, block_named}
use Rattle.ce_solo.proofs.Counting.{hit, count, count-nil, count-cons}

-- the names of the blocks at these windows
abbrev pub ids_at : List (Option Block) → List BlockId
ids_at windows = filter_map (option_map (λ block. block.id)) windows

pub ids-mapped : (block : Block) (space : Space) → mapped_ids (mapped_space block space) ≡ mapped_ids space ++ block.id ∷ []
ids-mapped block space = filter_map-append (option_map (λ block. block.id)) space.windows (Some block ∷ [])

pub ids-emptied : (windows : List (Option Block)) → ids_at (map (λ (window : Option Block). None) windows) ≡ []
ids-emptied [] = refl
ids-emptied (window ∷ windows) = ids-emptied windows

first_of : Option Block → List BlockId
first_of window = ids_at (window ∷ [])

-- one window more in front
count-window : (id : BlockId) (window : Option Block) (windows : List (Option Block))
    → count id (ids_at (window ∷ windows)) ≡ count id (ids_at (window ∷ [])) + count id (ids_at windows)
count-window id None windows = omega (arith, count-nil id)
count-window id (Some block) windows = omega (arith, count-cons id block.id (ids_at windows), count-cons id block.id [], count-nil id)

same_some : {X : Type 0} (x y : X) → Some x ≡ Some y → x ≡ y
same_some x y e = cc

pub count-unmapped : (id : BlockId) (windows : List (Option Block)) (k : ℕ) (block : Block) → slice_get windows k ≡ Some (Some block)
    → count id (ids_at (slice_set windows k None)) + hit id block.id ≡ count id (ids_at windows)
count-unmapped id [] k block e = cc
count-unmapped id (window ∷ windows) zero block e =
    rw (same_some window (Some block) e) (omega (arith, count-cons id block.id (ids_at windows)))
count-unmapped id (window ∷ windows) (suc k) block e =
    omega (arith, count-window id window (slice_set windows k None), count-window id window windows, count-unmapped id windows k block e)

pub ids-written : (windows : List (Option Block)) (k : ℕ) (block : Block) (bytes : List ℕ) → slice_get windows k ≡ Some (Some block)
    → ids_at (slice_set windows k (Some (record { id = block.id; bytes = bytes }))) ≡ ids_at windows
ids-written [] k block bytes e = refl
ids-written (window ∷ windows) zero block bytes e = rw (same_some window (Some block) e) refl
ids-written (None ∷ windows) (suc k) block bytes e = ids-written windows k block bytes e
ids-written (Some other ∷ windows) (suc k) block bytes e = ap (λ ids. other.id ∷ ids) (ids-written windows k block bytes e)

-- two memories whose windows hold the same blocks
pub record IsSameHeld (space space' : Space) : Type 0 where
  pub ids : mapped_ids space' ≡ mapped_ids space
  pub windows : length space'.windows ≡ length space.windows

pub same_held : (space : Space) → IsSameHeld space space
same_held space = record { ids = refl; windows = refl }

-- a spot in a block is in one at a window
abbrev pub IsSpotOf : Space → AccessSite → Type 0
IsSpotOf space (private_site offset) = Unit {0}
IsSpotOf space (block_site k block offset) = slice_get space.windows k ≡ Some (Some block)

spot_in-of : (space : Space) (a size : ℕ) (at : Option (Option Block)) → slice_get space.windows (window_of a) ≡ at
    → IfOk (site_in at a size) (IsSpotOf space)
spot_in-of space a size None e = tt
spot_in-of space a size (Some None) e = tt
spot_in-of space a size (Some (Some block)) e =
    cond_both (nat_le (offset_of a + size) (length block.bytes)) (Ok (block_site (window_of a) block (offset_of a))) _ (λ r. IfOk r (IsSpotOf space))
    (λ t. e) (λ f. tt)

pub spot-of : (space : Space) (a size : ℕ) → IfOk (access_site space a size) (IsSpotOf space)
unfolding access_site
spot-of space a size =
    cond_both (not (a % size == 0)) (Err (Misaligned a)) _ (λ r. IfOk r (IsSpotOf space)) (λ t. tt)
    (λ f. cond_both (is_private a) (Ok (private_site (a - PRIVATE_START))) _ (λ r. IfOk r (IsSpotOf space)) (λ t. tt)
    (λ g. cond_both (nat_lt a window_base) (Err (Unmapped a)) _ (λ r. IfOk r (IsSpotOf space)) (λ t. tt)
    (λ h. spot_in-of space a size (slice_get space.windows (window_of a)) refl)))

written-held : (space : Space) (size n : ℕ) (access_site : AccessSite) → IsSpotOf space access_site → IsSameHeld space (with_number_in space size n access_site)
written-held space size n (private_site offset) of = record { ids = refl; windows = refl }
written-held space size n (block_site k block offset) of = record {
  ids = ids-written space.windows k block (with_number_at block.bytes offset size n) of;
  windows = length-set space.windows k (Some (record block { bytes = with_number_at block.bytes offset size n }));
}

map_ok : {X Y : Type 0} (f : X → Y) (r : Result X Stop) (P : X → Type 0) (Q : Y → Type 0) → ((x : X) → P x → Q (f x)) → IfOk r P → IfOk (result_map f r) Q
map_ok f (Ok x) P Q up p = up x p
map_ok f (Err cause) P Q up p = tt

-- a store leaves each block at its window
pub stored-held : (space : Space) (a size n : ℕ) → IfOk (store_result space a size n) (IsSameHeld space)
stored-held space a size n = map_ok (with_number_in space size n) (access_site space a size) (IsSpotOf space) (IsSameHeld space) (written-held space size n) (spot-of space a size)

named_in-of : (space : Space) (p : ℕ) (at : Option (Option Block)) → slice_get space.windows (window_of p) ≡ at
    → IfOk (block_at_window at p) (λ found. slice_get space.windows found.0 ≡ Some (Some found.1))
named_in-of space p None e = tt
named_in-of space p (Some None) e = tt
named_in-of space p (Some (Some block)) e = e

-- the block that a call names is at its window
pub named-of : (space : Space) (p : ℕ) → IfOk (block_named space p) (λ found. slice_get space.windows found.0 ≡ Some (Some found.1))
unfolding block_named
named-of space p =
    cond_both (is_window_start p) (block_at_window (slice_get space.windows (window_of p)) p) (Err (NotABlock p))
    (λ r. IfOk r (λ found. slice_get space.windows found.0 ≡ Some (Some found.1)))
    (λ t. named_in-of space p (slice_get space.windows (window_of p)) refl) (λ f. tt)

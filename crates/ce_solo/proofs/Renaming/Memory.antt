-- The memory of a process with other names for its blocks answers the same, renamed.
use Rattle.std.proofs.Common.{◌≡◌, ℕ, zero, suc, ◌+◌, ◌-◌, ◌%◌, Bool, true, false, not, ◌==◌, nat_le, nat_lt, if◌then◌else◌, List, [], ◌∷◌, length, map, slice_get, filter_map, Option, Some, None, IfSome, option_map, Result, Ok, Err, IfOk, refl, ap, ap₂, sym, ◌∙◌}
use Rattle.std.specs.List.{AllByRecursion}
use mathlib.Core.Path.{fun_ext}
use Rattle.std.proofs.lemmas.List.{map-append}
use Rattle.std.proofs.lemmas.Option.{slice_get-map}
use Rattle.rv_model.specs.declared.stop.Stop.{Stop}
use Rattle.rv_model.specs.declared.stop.Stop.TheVariants.{Misaligned, Unmapped, NotABlock}
use Rattle.rv_model.specs.LittleEndian.{with_number_at}
use Rattle.rv_model.specs.Private.{is_private}
use Rattle.rv_model.specs.Word.{wrapping_sum}
use Rattle.rv_model.specs.declared.limits.TheConstants.{PRIVATE_START}
use Rattle.ce_model.specs.declared.topology.Place.{Place}
use Rattle.ce_model.specs.declared.topology.BlockId.{BlockId}
use Rattle.ce_model.specs.Limits.{window_base}
use Rattle.ce_model.specs.Blocks.{Block}
use Rattle.ce_model.specs.Space.{Space, window_of, offset_of, mapped_space, unmapped_space, emptied_space, mapped_ids, AccessSite, private_site, block_site, site_in, access_site, number_in, with_number_in, result_map, load_result, store_result, block_at_window, is_window_start, block_named, and_then, memory_place, places_at}
use Rattle.ce_model.specs.Renaming.{renamed_block, renamed_space}
use Rattle.ce_solo.proofs.Lists.{all-append, all-get}
use Rattle.ce_solo.proofs.Renaming.Lists.{if_ap, if_each, all-set, set-map}

-- the block that a window holds, if any, has a name of these
abbrev pub IsNamedWindow : (BlockId → Type 0) → Option Block → Type 0
IsNamedWindow P window = IfSome window (λ block. P block.id)

-- all blocks of a memory have names of these
abbrev pub IsNamedSpace : (BlockId → Type 0) → Space → Type 0
IsNamedSpace P space = AllByRecursion (IsNamedWindow P) space.windows

-- a block and the number that stands before it, with another name
abbrev pub found_with : (BlockId → BlockId) → ℕ × Block → ℕ × Block
found_with rename found = (found.0, renamed_block rename found.1)

abbrev pub window_with : (BlockId → BlockId) → Option Block → Option Block
window_with rename window = option_map (renamed_block rename) window

module _ (rename : BlockId → BlockId) where
  -- ---- where an access is made

  abbrev pub spot_with : AccessSite → AccessSite
  spot_with (private_site offset) = private_site offset
  spot_with (block_site k block offset) = block_site k (renamed_block rename block) offset

  spot_in-renamed : (window : Option (Option Block)) (a size : ℕ)
      → site_in (option_map (window_with rename) window) a size ≡ result_map spot_with (site_in window a size)
  spot_in-renamed None a size = refl
  spot_in-renamed (Some None) a size = refl
  spot_in-renamed (Some (Some block)) a size = sym (if_ap (result_map spot_with) (nat_le (offset_of a + size) (length block.bytes)) _ _)

  -- an access is made behind three tests
  tested : (misaligned private below : Bool) (a offset : ℕ) (there here : Result AccessSite Stop) → there ≡ result_map spot_with here
      → (if misaligned then Err (Misaligned a) else (if private then Ok (private_site offset) else (if below then Err (Unmapped a) else there)))
      ≡ result_map spot_with
      (if misaligned then Err (Misaligned a) else (if private then Ok (private_site offset) else (if below then Err (Unmapped a) else here)))
  tested true private below a offset there here same = refl
  tested false true below a offset there here same = refl
  tested false false true a offset there here same = refl
  tested false false false a offset there here same = same

  pub spot-renamed : (space : Space) (a size : ℕ) → access_site (renamed_space rename space) a size ≡ result_map spot_with (access_site space a size)
  unfolding access_site
  spot-renamed space a size =
      tested (not (a % size == 0)) (is_private a) (nat_lt a window_base) a (a - PRIVATE_START) _ _
      (ap (λ window. site_in window a size) (slice_get-map (window_with rename) space.windows (window_of a))
      ∙ spot_in-renamed (slice_get space.windows (window_of a)) a size)

  -- ---- what is loaded and stored

  loaded_by : (space : Space) (size : ℕ) (at : Result AccessSite Stop)
      → result_map (number_in (renamed_space rename space) size) (result_map spot_with at) ≡ result_map (number_in space size) at
  loaded_by space size (Ok (private_site offset)) = refl
  loaded_by space size (Ok (block_site k block offset)) = refl
  loaded_by space size (Err cause) = refl

  pub loaded-renamed : (space : Space) (a size : ℕ) → load_result (renamed_space rename space) a size ≡ load_result space a size
  loaded-renamed space a size =
      ap (result_map (number_in (renamed_space rename space) size)) (spot-renamed space a size) ∙ loaded_by space size (access_site space a size)

  stored_by : (space : Space) (size n : ℕ) (at : Result AccessSite Stop)
      → result_map (with_number_in (renamed_space rename space) size n) (result_map spot_with at)
      ≡ result_map (renamed_space rename) (result_map (with_number_in space size n) at)
  stored_by space size n (Ok (private_site offset)) = refl
  stored_by space size n (Ok (block_site k block offset)) =
      ap (λ windows. Ok (record space { windows = windows }))
      (set-map (window_with rename) space.windows k (Some (record block { bytes = with_number_at block.bytes offset size n })))
  stored_by space size n (Err cause) = refl

  pub stored-renamed : (space : Space) (a size n : ℕ)
      → store_result (renamed_space rename space) a size n ≡ result_map (renamed_space rename) (store_result space a size n)
  stored-renamed space a size n =
      ap (result_map (with_number_in (renamed_space rename space) size n)) (spot-renamed space a size) ∙ stored_by space size n (access_site space a size)

  -- ---- what a kernel call reads

  named_in-renamed : (window : Option (Option Block)) (p : ℕ)
      → block_at_window (option_map (window_with rename) window) p ≡ result_map (found_with rename) (block_at_window window p)
  named_in-renamed None p = refl
  named_in-renamed (Some None) p = refl
  named_in-renamed (Some (Some block)) p = refl

  pub named-renamed : (space : Space) (p : ℕ) → block_named (renamed_space rename space) p ≡ result_map (found_with rename) (block_named space p)
  unfolding block_named
  named-renamed space p =
      ap (λ named. if is_window_start p then named else Err (NotABlock p))
      (ap (λ window. block_at_window window p) (slice_get-map (window_with rename) space.windows (window_of p))
      ∙ named_in-renamed (slice_get space.windows (window_of p)) p)
      ∙ sym (if_ap (result_map (found_with rename)) (is_window_start p) _ _)

  place-renamed : (space : Space) (a : ℕ) → memory_place (renamed_space rename space) a ≡ memory_place space a
  place-renamed space a =
      let word : (λ (a : ℕ). load_result (renamed_space rename space) a 4) ≡ (λ a. load_result space a 4) = fun_ext (λ a. loaded-renamed space a 4) in
      ap (λ load. and_then (load a) (λ node. result_map (λ pid. record { node = node; pid = pid }) (load (wrapping_sum a 4)))) word

  pub places-renamed : (space : Space) (a count : ℕ) → places_at (renamed_space rename space) a count ≡ places_at space a count
  places-renamed space a zero = refl
  places-renamed space a (suc count) =
      ap₂ (λ first rest. and_then first (λ (place : Place). result_map (λ places. place ∷ places) rest)) (place-renamed space a) (places-renamed space (wrapping_sum a 8) count)

  -- ---- windows

  pub mapped-renamed : (block : Block) (space : Space) → mapped_space (renamed_block rename block) (renamed_space rename space) ≡ renamed_space rename (mapped_space block space)
  mapped-renamed block space =
      ap (λ windows. record space { windows = windows }) (sym (map-append (window_with rename) space.windows (Some block ∷ [])))

  pub unmapped-renamed : (k : ℕ) (space : Space) → unmapped_space k (renamed_space rename space) ≡ renamed_space rename (unmapped_space k space)
  unmapped-renamed k space = ap (λ windows. record space { windows = windows }) (set-map (window_with rename) space.windows k None)

  emptied_all : (windows : List (Option Block)) → map (λ window. None) (map (window_with rename) windows) ≡ map (window_with rename) (map (λ window. None) windows)
  emptied_all [] = refl
  emptied_all (window ∷ windows) = ap (λ rest. None ∷ rest) (emptied_all windows)

  pub emptied-renamed : (space : Space) → emptied_space (renamed_space rename space) ≡ renamed_space rename (emptied_space space)
  emptied-renamed space = ap (λ windows. record space { windows = windows }) (emptied_all space.windows)

  ids_of-renamed : (windows : List (Option Block))
      → filter_map (option_map (λ block. block.id)) (map (window_with rename) windows) ≡ map rename (filter_map (option_map (λ block. block.id)) windows)
  ids_of-renamed [] = refl
  ids_of-renamed (None ∷ windows) = ids_of-renamed windows
  ids_of-renamed (Some block ∷ windows) = ap (λ rest. rename block.id ∷ rest) (ids_of-renamed windows)

  pub ids-renamed : (space : Space) → mapped_ids (renamed_space rename space) ≡ map rename (mapped_ids space)
  ids-renamed space = ids_of-renamed space.windows

-- ---- the names in a memory

module _ (P : BlockId → Type 0) where
  ids_named : (windows : List (Option Block)) → AllByRecursion (IsNamedWindow P) windows
      → AllByRecursion P (filter_map (option_map (λ block. block.id)) windows)
  ids_named [] named = tt
  ids_named (None ∷ windows) named = ids_named windows named.1
  ids_named (Some block ∷ windows) named = (named.0, ids_named windows named.1)

  pub ids-named : (space : Space) → IsNamedSpace P space → AllByRecursion P (mapped_ids space)
  ids-named space named = ids_named space.windows named

  windows_named : (windows : List (Option Block)) → AllByRecursion P (filter_map (option_map (λ block. block.id)) windows)
      → AllByRecursion (IsNamedWindow P) windows
  windows_named [] named = tt
  windows_named (None ∷ windows) named = (tt, windows_named windows named)
  windows_named (Some block ∷ windows) named = (named.0, windows_named windows named.1)

  pub space-named : (space : Space) → AllByRecursion P (mapped_ids space) → IsNamedSpace P space
  space-named space named = windows_named space.windows named

  named_in-named : (window : Option (Option Block)) (p : ℕ) → IfSome window (IsNamedWindow P) → IfOk (block_at_window window p) (λ found. P found.1.id)
  named_in-named None p named = tt
  named_in-named (Some None) p named = tt
  named_in-named (Some (Some block)) p named = named

  pub named-named : (space : Space) (p : ℕ) → IsNamedSpace P space → IfOk (block_named space p) (λ found. P found.1.id)
  unfolding block_named
  named-named space p named =
      if_each (λ (r : Result (ℕ × Block) Stop). IfOk r (λ found. P found.1.id)) (is_window_start p) _ _
      (named_in-named (slice_get space.windows (window_of p)) p (all-get (IsNamedWindow P) space.windows (window_of p) named)) tt

  pub mapped-named : (block : Block) (space : Space) → P block.id → IsNamedSpace P space → IsNamedSpace P (mapped_space block space)
  mapped-named block space new named = all-append (IsNamedWindow P) space.windows (Some block ∷ []) named (new, tt)

  pub unmapped-named : (k : ℕ) (space : Space) → IsNamedSpace P space → IsNamedSpace P (unmapped_space k space)
  unmapped-named k space named = all-set (IsNamedWindow P) space.windows k None named tt

  emptied_named : (windows : List (Option Block)) → AllByRecursion (IsNamedWindow P) (map (λ window. None) windows)
  emptied_named [] = tt
  emptied_named (window ∷ windows) = (tt, emptied_named windows)

  pub emptied-named : (space : Space) → IsNamedSpace P (emptied_space space)
  emptied-named space = emptied_named space.windows

  -- ---- a store changes no name

  abbrev IsNamedSpot : AccessSite → Type 0
  IsNamedSpot (private_site offset) = Unit {0}
  IsNamedSpot (block_site k block offset) = P block.id

  spot_in-named : (window : Option (Option Block)) (a size : ℕ) → IfSome window (IsNamedWindow P) → IfOk (site_in window a size) IsNamedSpot
  spot_in-named None a size named = tt
  spot_in-named (Some None) a size named = tt
  spot_in-named (Some (Some block)) a size named =
      if_each (λ (r : Result AccessSite Stop). IfOk r IsNamedSpot) (nat_le (offset_of a + size) (length block.bytes)) _ _ named tt

  spot-named : (space : Space) (a size : ℕ) → IsNamedSpace P space → IfOk (access_site space a size) IsNamedSpot
  unfolding access_site
  spot-named space a size named =
      if_each (λ (r : Result AccessSite Stop). IfOk r IsNamedSpot) (not (a % size == 0)) _ _ tt
      (if_each (λ (r : Result AccessSite Stop). IfOk r IsNamedSpot) (is_private a) _ _ tt
      (if_each (λ (r : Result AccessSite Stop). IfOk r IsNamedSpot) (nat_lt a window_base) _ _ tt
      (spot_in-named (slice_get space.windows (window_of a)) a size (all-get (IsNamedWindow P) space.windows (window_of a) named))))

  stored_named : (space : Space) (size n : ℕ) (at : Result AccessSite Stop) → IsNamedSpace P space → IfOk at IsNamedSpot
      → IfOk (result_map (with_number_in space size n) at) (IsNamedSpace P)
  stored_named space size n (Ok (private_site offset)) named is = named
  stored_named space size n (Ok (block_site k block offset)) named is = all-set (IsNamedWindow P) space.windows k _ named is
  stored_named space size n (Err cause) named is = tt

  pub stored-named : (space : Space) (a size n : ℕ) → IsNamedSpace P space → IfOk (store_result space a size n) (IsNamedSpace P)
  stored-named space a size n named = stored_named space size n (access_site space a size) named (spot-named space a size named)

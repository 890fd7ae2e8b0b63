-- Accesses above private memory, by what the windows hold.
use Rattle.std.specs.Prelude.{ℕ, ◌+◌, Bool, nat_le, nat_lt, if◌then◌else◌, List, length, slice_get, slice_set, Option, Some, None, Result, Ok, Err}
use Rattle.rv_model.specs.declared.stop.Stop.{Stop}
use Rattle.rv_model.specs.declared.stop.Stop.TheVariants.{Unmapped, Gone, PastEnd}
use Rattle.rv_model.specs.LittleEndian.{number_at, with_number_at}
use Rattle.ce_model.specs.Limits.{window_base}
use Rattle.ce_model.specs.Blocks.{Block}
use Rattle.ce_model.specs.Space.{window_of, offset_of, result_map}

-- an access of `size` bytes at an address lies within the block of its window
abbrev pub is_within_block : Block → ℕ → ℕ → Bool
is_within_block block a size = nat_le (offset_of a + size) (length block.bytes)

-- the number that a load at an address finds in what its window holds; nothing, where the window
-- wasn't used
abbrev pub number_in_window : Option (Option Block) → ℕ → ℕ → Result ℕ Stop
number_in_window None a size = Err (Unmapped a)
number_in_window (Some None) a size = Err (Gone a)
number_in_window (Some (Some block)) a size = if is_within_block block a size
    then Ok (number_at block.bytes (offset_of a) size) else Err (PastEnd a)

-- the block that a store at an address leaves in its window
abbrev pub stored_block : Option (Option Block) → ℕ → ℕ → ℕ → Result Block Stop
stored_block None a size n = Err (Unmapped a)
stored_block (Some None) a size n = Err (Gone a)
stored_block (Some (Some block)) a size n =
    if is_within_block block a size
    then Ok (record block { bytes = with_number_at block.bytes (offset_of a) size n })
    else Err (PastEnd a)

-- what the window of an address holds: it isn't used below the first window, nor from the used ones
-- on
abbrev pub window_at_address : List (Option Block) → ℕ → Option (Option Block)
window_at_address windows a = if nat_lt a window_base then None else slice_get windows (window_of a)

-- what the windows hold after a store at an address
abbrev pub stored_windows : List (Option Block) → ℕ → ℕ → ℕ → Result (List (Option Block)) Stop
stored_windows windows a size n =
    result_map (λ block. slice_set windows (window_of a) (Some block))
    (stored_block (window_at_address windows a) a size n)

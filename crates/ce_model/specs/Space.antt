-- The memory of a process: its private bytes, and the message blocks that are mapped at its
-- windows.
use Rattle.std.specs.Prelude.{ℕ, zero, suc, ◌+◌, ◌-◌, ◌*◌, ◌/◌, ◌%◌, Bool, not, ◌&&◌, ◌==◌, nat_le, nat_lt, if◌then◌else◌, List, [], ◌∷◌, ◌++◌, length, slice_get, slice_set, map, filter_map, Option, Some, None, option_map, Result, Ok, Err}
use Rattle.rv_model.specs.declared.stop.Stop.{Stop}
use Rattle.rv_model.specs.declared.stop.Stop.TheVariants.{Misaligned, Unmapped, Gone, PastEnd, NotABlock}
use Rattle.rv_model.specs.Exec.{Access}
use Rattle.rv_model.specs.LittleEndian.{number_at, with_number_at}
use Rattle.rv_model.specs.Private.{is_private, word_at_pc}
use Rattle.rv_model.specs.declared.limits.TheConstants.{PRIVATE_START, WORD_SIZE}
use Rattle.rv_model.specs.Word.{wrapping_sum}
use Rattle.ce_model.specs.declared.topology.Place.{Place}
use Rattle.ce_model.specs.declared.topology.BlockId.{BlockId}
use Rattle.ce_model.specs.Limits.{window_base, window_size, window_count}
use Rattle.ce_model.specs.Blocks.{Block}

-- private memory, and for each window used so far the block that it holds; an empty one is gone for
-- good
pub record Space : Type 0 where
  pub private : List ℕ
  pub windows : List (Option Block)

-- ---- windows

-- where a window begins
abbrev pub window_start : ℕ → ℕ
window_start k = window_base + k * window_size

-- the window of an address, and how far behind its start the address lies
abbrev pub window_of : ℕ → ℕ
window_of a = (a - window_base) / window_size

abbrev pub offset_of : ℕ → ℕ
offset_of a = (a - window_base) % window_size

-- a further window can be used
abbrev pub has_unused_window : Space → Bool
has_unused_window space = nat_lt (length space.windows) window_count

-- the block is mapped at the next window
abbrev pub mapped_space : Block → Space → Space
mapped_space block space = record space { windows = space.windows ++ Some block ∷ [] }

-- the window holds its block no longer
abbrev pub unmapped_space : ℕ → Space → Space
unmapped_space k space = record space { windows = slice_set space.windows k None }

-- no window holds a block any longer
abbrev pub emptied_space : Space → Space
emptied_space space = record space { windows = map (λ window. None) space.windows }

-- the names of the blocks that are mapped, by window
abbrev pub mapped_ids : Space → List BlockId
mapped_ids space = filter_map (option_map (λ block. block.id)) space.windows

-- ---- accesses

-- where an access is made: at an offset of private memory, or of the block at a window
pub data AccessSite : Type 0 where
  private_site : ℕ → AccessSite
  block_site : ℕ → Block → ℕ → AccessSite

-- an access above private memory: the window must have been used, must hold its block still, and
-- the access must lie within it
abbrev pub site_in : Option (Option Block) → ℕ → ℕ → Result AccessSite Stop
site_in None a size = Err (Unmapped a)
site_in (Some None) a size = Err (Gone a)
site_in (Some (Some block)) a size =
    if nat_le (offset_of a + size) (length block.bytes)
    then Ok (block_site (window_of a) block (offset_of a)) else Err (PastEnd a)

-- where an access of `size` bytes at an address is made, or why it stops the process: it must be at
-- a multiple of its size; it is made in private memory, or else in the block of its window
unfoldable pub access_site : Space → ℕ → ℕ → Result AccessSite Stop
access_site space a size =
    if not (a % size == 0) then Err (Misaligned a)
    else (if is_private a then Ok (private_site (a - PRIVATE_START))
    else (if nat_lt a window_base then Err (Unmapped a)
    else site_in (slice_get space.windows (window_of a)) a size))

-- the number in the `size` bytes at a site
abbrev pub number_in : Space → ℕ → AccessSite → ℕ
number_in space size (private_site offset) = number_at space.private offset size
number_in space size (block_site k block offset) = number_at block.bytes offset size

-- the memory once the lowest `size` bytes of a number are written at a site
abbrev pub with_number_in : Space → ℕ → ℕ → AccessSite → Space
with_number_in space size n (private_site offset) =
    record space { private = with_number_at space.private offset size n }
with_number_in space size n (block_site k block offset) =
    record space {
      windows = slice_set space.windows k
          (Some (record block { bytes = with_number_at block.bytes offset size n }));
    }

-- what comes of an answer that is no stop
abbrev pub result_map : {X Y : Type 0} → (X → Y) → Result X Stop → Result Y Stop
result_map f (Ok x) = Ok (f x)
result_map f (Err cause) = Err cause

abbrev pub load_result : Space → ℕ → ℕ → Result ℕ Stop
load_result space a size = result_map (number_in space size) (access_site space a size)

abbrev pub store_result : Space → ℕ → ℕ → ℕ → Result Space Stop
store_result space a size n = result_map (with_number_in space size n) (access_site space a size)

-- what a process's memory answers; instructions are fetched from private memory alone
abbrev pub process_access : Access Space
process_access = record {
  fetch = λ space pc. word_at_pc space.private pc;
  load = load_result;
  store = store_result;
}

-- ---- what a kernel call reads

-- the block at a window, for an address that names it
abbrev pub block_at_window : Option (Option Block) → ℕ → Result (ℕ × Block) Stop
block_at_window None p = Err (NotABlock p)
block_at_window (Some None) p = Err (Gone p)
block_at_window (Some (Some block)) p = Ok (window_of p, block)

-- the address is where a window begins
abbrev pub is_window_start : ℕ → Bool
is_window_start p = nat_le window_base p && offset_of p == 0

-- the window and the block that an address names: it must be the start of a window that holds one
unfoldable pub block_named : Space → ℕ → Result (ℕ × Block) Stop
block_named space p = if is_window_start p
    then block_at_window (slice_get space.windows (window_of p)) p else Err (NotABlock p)

-- what comes of a word that was read
abbrev pub and_then : {X Y : Type 0} → Result X Stop → (X → Result Y Stop) → Result Y Stop
and_then (Ok x) f = f x
and_then (Err cause) f = Err cause

-- a place: a word for the node, and behind it one for the process id
abbrev pub memory_place : Space → ℕ → Result Place Stop
memory_place space a =
    and_then (load_result space a WORD_SIZE)
    (λ node. result_map (λ pid. record { node = node; pid = pid })
    (load_result space (wrapping_sum a WORD_SIZE) WORD_SIZE))

-- so many places, one behind the other, or why a word of theirs can't be read
abbrev pub places_at : Space → ℕ → ℕ → Result (List Place) Stop
places_at space a zero = Ok []
places_at space a (suc count) =
    and_then (memory_place space a)
    (λ place. result_map (λ places. place ∷ places)
    (places_at space (wrapping_sum a (2 * WORD_SIZE)) count))

-- The private memory of a process, the addresses from `PRIVATE_START` up to `PRIVATE_END`. A
-- process that used no window has no other memory.
use Rattle.std.specs.Prelude.{ℕ, ◌-◌, ◌%◌, Bool, ◌&&◌, nat_le, nat_lt, ◌==◌, if◌then◌else◌, List, ◌++◌, length, replicate, Result, Ok, Err}
use Rattle.rv_model.specs.declared.stop.Stop.{Stop}
use Rattle.rv_model.specs.declared.stop.Stop.TheVariants.{Fetch, Misaligned, Unmapped}
use Rattle.rv_model.specs.declared.limits.TheConstants.{PRIVATE_START, PRIVATE_SIZE, PRIVATE_END, WORD_SIZE}
use Rattle.rv_model.specs.LittleEndian.{number_at, with_number_at}
use Rattle.rv_model.specs.Exec.{Access}

-- how many bytes private memory has
unfoldable pub private_size : ℕ
private_size = PRIVATE_SIZE

-- an address in private memory
abbrev pub is_private : ℕ → Bool
is_private a = nat_le PRIVATE_START a && nat_lt a PRIVATE_END

-- instructions are fetched from private memory alone, at a multiple of 4
abbrev pub word_at_pc : List ℕ → ℕ → Result ℕ Stop
word_at_pc bytes pc =
    if pc % WORD_SIZE == 0 && is_private pc then Ok (number_at bytes (pc - PRIVATE_START) WORD_SIZE)
    else Err (Fetch pc)

-- an access of `size` bytes at an address, which is made by the offset in private memory: it must
-- be at a multiple of the size, and then be private, since no window was used
abbrev pub checked_access : {X : Type 0} → ℕ → ℕ → (ℕ → X) → Result X Stop
checked_access a size access_at =
    if a % size == 0
    then (if is_private a then Ok (access_at (a - PRIVATE_START)) else Err (Unmapped a))
    else Err (Misaligned a)

-- what private memory answers
abbrev pub private_access : Access (List ℕ)
private_access = record {
  fetch = word_at_pc;
  load = λ bytes a size. checked_access a size (λ offset. number_at bytes offset size);
  store = λ bytes a size n. checked_access a size (λ offset. with_number_at bytes offset size n);
}

-- private memory once these bytes are loaded at its start: all others are 0
abbrev pub with_loaded_bytes : List ℕ → List ℕ
with_loaded_bytes loaded = loaded ++ replicate (private_size - length loaded) 0

-- Which of several refusals a call answers.
use Rattle.std.specs.Prelude.{◌≡◌, ℕ, ◌+◌, ◌%◌, Bool, ◌&&◌, not, ◌==◌, nat_lt, nat_le, if◌then◌else◌, List, [], ◌∷◌, length, Option, Some, None, Result, Ok, Err}
use Rattle.rv_model.specs.declared.limits.TheConstants.{PRIVATE_START, IMAGE_ROOM, WORD_SIZE}
use Rattle.rv_image.specs.declared.fault.ImageFault.{ImageFault}
use Rattle.rv_image.specs.declared.fault.ImageFault.TheVariants.{TooLarge, Entry, Memory}
use Rattle.rv_model.specs.Image.{ImageParts}

-- the first fault of a table whose test is true
abbrev pub first_fault : List (Bool × ImageFault) → Option ImageFault
first_fault [] = None
first_fault (refusal ∷ refusals) = if refusal.0 then Some refusal.1 else first_fault refusals

-- an image of so many loaded bytes and zero bytes has no room
abbrev pub is_too_large : ℕ → ℕ → Bool
is_too_large loaded_len zero_len = nat_lt IMAGE_ROOM (loaded_len + zero_len)

-- at this address a whole word of so many loaded bytes begins
abbrev pub is_entry : ℕ → ℕ → Bool
is_entry address loaded_len =
    (address % WORD_SIZE == 0) && nat_le PRIVATE_START address
    && nat_le (address + WORD_SIZE) (PRIVATE_START + loaded_len)

-- why these parts are no image, the first cause first
abbrev pub parts_fault : ImageParts → Option ImageFault
parts_fault image =
    first_fault ((is_too_large (length image.loaded) image.zero, TooLarge)
    ∷ (not (is_entry image.entry (length image.loaded)), Entry)
    ∷ [])

-- the cause that an answer names; want of memory is none
abbrev pub named_cause : {X : Type 0} → Result X ImageFault → Option ImageFault
named_cause (Ok x) = None
named_cause (Err (Memory cause)) = None
named_cause (Err fault) = Some fault

-- an answer is this value, unless memory ran out
abbrev pub IsValueOf : {X : Type 0} → Result X ImageFault → X → Type 0
IsValueOf (Ok value) x = value ≡ x
IsValueOf (Err (Memory cause)) x = Unit {0}
IsValueOf (Err fault) x = ⊥

-- RKI1, the format in which images are kept.
use Rattle.std.specs.Prelude.{◌≡◌, ℕ, ◌+◌, not, ◌==◌, nat_eq, nat_lt, List, [], ◌∷◌, ◌++◌, length, drop, Option}
use Rattle.std.specs.List.{starts_with}
use Rattle.std.specs.Int.{w32, to_le_bytes}
use Rattle.rv_model.specs.declared.limits.TheConstants.{WORD_SIZE}
use Rattle.rv_image.specs.declared.fault.ImageFault.{ImageFault}
use Rattle.rv_image.specs.declared.fault.ImageFault.TheVariants.{Short, Magic, TooLarge, Length, Entry}
use Rattle.rv_model.specs.Image.{ImageParts, IsImage, image_parts}
use Rattle.rv_model.specs.LittleEndian.{number_at}
use Rattle.rv_image.specs.declared.image.rki1.TheConstants.{MAGIC, ENTRY_AT, LOADED_LEN_AT, ZERO_LEN_AT, HEADER_LEN}
use Rattle.rv_image.specs.Fault.{first_fault, is_too_large, is_entry}

-- the magic, three little-endian numbers of four bytes, and the loaded bytes
abbrev pub spelling : ImageParts → List ℕ
spelling image =
    MAGIC ++ to_le_bytes w32 image.entry ++ to_le_bytes w32 (length image.loaded)
    ++ to_le_bytes w32 image.zero
    ++ image.loaded

-- these bytes are RKI1, and spell this image
pub record IsRki1 (bytes : List ℕ) (image : ImageParts) : Type 0 where
  pub valid : IsImage image
  pub spelled : bytes ≡ spelling image

abbrev pub entry_field : List ℕ → ℕ
entry_field bytes = number_at bytes ENTRY_AT WORD_SIZE

abbrev pub loaded_field : List ℕ → ℕ
loaded_field bytes = number_at bytes LOADED_LEN_AT WORD_SIZE

abbrev pub zero_field : List ℕ → ℕ
zero_field bytes = number_at bytes ZERO_LEN_AT WORD_SIZE

-- what the header says, and the bytes behind it
abbrev pub fields_of : List ℕ → ImageParts
fields_of bytes = image_parts (entry_field bytes) (drop HEADER_LEN bytes) (zero_field bytes)

-- why bytes are no RKI1: the table of refusals, in their order
abbrev pub fault_of : List ℕ → Option ImageFault
fault_of bytes =
    first_fault ((nat_lt (length bytes) HEADER_LEN, Short)
    ∷ (not (starts_with nat_eq bytes MAGIC), Magic)
    ∷ (is_too_large (loaded_field bytes) (zero_field bytes), TooLarge)
    ∷ (not (length bytes == HEADER_LEN + loaded_field bytes), Length)
    ∷ (not (is_entry (entry_field bytes) (loaded_field bytes)), Entry)
    ∷ [])

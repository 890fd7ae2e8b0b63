-- What a process is started from: its bytes, and where it begins.
use Rattle.std.specs.Prelude.{◌≡◌, ℕ, ◌+◌, ◌%◌, ◌≤◌, List, length}
use Rattle.rv_model.specs.declared.limits.TheConstants.{PRIVATE_START, IMAGE_ROOM, WORD_SIZE}

-- The bytes `loaded` stand at the start of private memory, `zero` bytes of value 0 behind them, and
-- `entry` is the address of the first instruction.
pub record ImageParts : Type 0 where
  pub entry : ℕ
  pub loaded : List ℕ
  pub zero : ℕ

abbrev pub image_parts : ℕ → List ℕ → ℕ → ImageParts
image_parts entry loaded zero_len = record { entry = entry; loaded = loaded; zero = zero_len }

-- An image fits its room, and its first instruction is a whole word of the loaded bytes.
pub record IsImage (image : ImageParts) : Type 0 where
  pub fits : length image.loaded + image.zero ≤ IMAGE_ROOM
  pub aligned : image.entry % WORD_SIZE ≡ 0
  pub after_start : PRIVATE_START ≤ image.entry
  pub before_end : image.entry + WORD_SIZE ≤ PRIVATE_START + length image.loaded

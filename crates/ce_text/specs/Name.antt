-- Names.
use Rattle.std.specs.Prelude.{ℕ, Bool, false, not, ◌&&◌, nat_le, List, [], ◌∷◌, length}
use Rattle.std.specs.List.{list_all}
use Rattle.ce_text.specs.Bytes.{is_digit, is_name_byte}

-- 1 to `greatest_length` letters, digits and `_`, no digit first
unfoldable pub is_name : ℕ → List ℕ → Bool
is_name greatest_length [] = false
is_name greatest_length (byte ∷ bytes) = not (is_digit byte) && list_all is_name_byte (byte ∷ bytes)
    && nat_le (length (byte ∷ bytes)) greatest_length

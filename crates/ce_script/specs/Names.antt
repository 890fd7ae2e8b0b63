-- The names of users and images.
use Rattle.std.specs.Prelude.{ℕ, List, [], ◌∷◌, Bool, false, ◌&&◌}
use Rattle.ce_text.specs.Bytes.{is_letter}
use Rattle.ce_text.specs.Name as text
use Rattle.ce_script.specs.declared.spelling.TheConstants.{NAME_ROOM}

-- how many bytes a name can have
unfoldable pub name_room : ℕ
name_room = NAME_ROOM

-- a letter first, and letters, digits and `_` behind it
unfoldable pub is_name : List ℕ → Bool
is_name [] = false
is_name (byte ∷ bytes) = is_letter byte && text.is_name name_room (byte ∷ bytes)

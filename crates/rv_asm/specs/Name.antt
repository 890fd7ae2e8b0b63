-- Names of labels and numbers.
use Rattle.std.specs.Prelude.{ℕ, Bool, List}
use Rattle.ce_text.specs.Name as text
use Rattle.rv_asm.specs.declared.name.TheConstants.{NAME_ROOM}

-- letters, digits and `_`, no digit first, `NAME_ROOM` bytes at most
abbrev pub is_name : List ℕ → Bool
is_name = text.is_name NAME_ROOM

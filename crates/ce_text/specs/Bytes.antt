-- Bytes that have a meaning, and kinds of bytes.
use Rattle.std.specs.Prelude.{ℕ, Bool, ◌&&◌, ◌||◌, ◌==◌, nat_le}

-- ---- bytes

abbrev pub line_feed : ℕ
line_feed = 10

abbrev pub space : ℕ
space = 32

-- `#`, which begins a comment
abbrev pub hash : ℕ
hash = 35

-- ---- kinds

-- space, tab and carriage return
abbrev pub is_blank : ℕ → Bool
is_blank byte = (byte == space) || (byte == 9) || (byte == 13)

-- what may stand outside a comment: a blank, or a character of ASCII that can be seen
abbrev pub is_plain : ℕ → Bool
is_plain byte = is_blank byte || (nat_le 0x21 byte && nat_le byte 0x7E)

abbrev pub is_line_feed : ℕ → Bool
is_line_feed byte = byte == line_feed

abbrev pub is_hash : ℕ → Bool
is_hash byte = byte == hash

abbrev pub is_digit : ℕ → Bool
is_digit byte = nat_le 48 byte && nat_le byte 57

abbrev pub is_letter : ℕ → Bool
is_letter byte = (nat_le 65 byte && nat_le byte 90) || (nat_le 97 byte && nat_le byte 122)

-- letters, digits and `_`
abbrev pub is_name_byte : ℕ → Bool
is_name_byte byte = is_letter byte || is_digit byte || (byte == 95)

-- The words that texts are made of.
use Rattle.std.specs.Prelude.{ℕ, List, [], ◌∷◌, ◌++◌, codes, decimal, ◌==◌, if◌then◌else◌, option_map, unwrap_or, slice_get}
use Rattle.std.specs.List.{join_with_byte}
use Rattle.std.specs.Int.{bytes_high_first}
use Rattle.ce_text.specs.Bytes.{line_feed, space}
use Rattle.hex.specs.Hex.{encode_lower}
use Rattle.rv_model.specs.declared.limits.TheConstants.{WORD_SIZE}
use Rattle.ce_model.specs.declared.topology.TheConstants.{HOST}
use Rattle.ce_model.specs.declared.topology.Place.{Place}
use Rattle.ce_model.specs.declared.topology.BlockId.{BlockId}
use Rattle.ce_model.specs.declared.topology.Subcube.{Subcube}
use Rattle.ce_model.specs.Limits.{host_home}
use Rattle.ce_script.specs.declared.record.Record.{Record}
use Rattle.ce_script.specs.declared.script.Script.{Script}

-- words, with one space between each two
abbrev pub joined_words : List (List ℕ) → List ℕ
joined_words pieces = join_with_byte space pieces

-- a line of words
abbrev pub line : List (List ℕ) → List ℕ
line pieces = joined_words pieces ++ line_feed ∷ []

-- the name of an image, by number
abbrev pub image_name : Script → ℕ → List ℕ
image_name script image =
    unwrap_or (option_map (λ named_image. named_image.name) (slice_get script.images image)) []

-- the name of a user, by number
abbrev pub user_name : Record → ℕ → List ℕ
user_name run_record user =
    unwrap_or (option_map (λ user_record. user_record.name) (slice_get run_record.users user)) []

-- an address, or an instruction word: 32 bits as eight hexadecimal digits
abbrev pub word_text : ℕ → List ℕ
word_text n = codes "0x" ++ encode_lower (bytes_high_first WORD_SIZE n)

-- bytes, two hexadecimal digits each
abbrev pub bytes_text : List ℕ → List ℕ
bytes_text [] = codes "-"
bytes_text (byte ∷ bytes) = encode_lower (byte ∷ bytes)

-- a place of a cube
abbrev pub place_text : Place → List ℕ
place_text place =
    if place.node == HOST then codes "host.0"
    else decimal place.node ++ codes "." ++ decimal place.pid

-- a block of a cube
abbrev pub block_text : BlockId → List ℕ
block_text id =
    (if id.home == host_home then codes "host" else decimal id.home)
    ++ codes "." ++ decimal id.index

-- a subcube
abbrev pub subcube_words : Subcube → List (List ℕ)
subcube_words sub = codes "mask" ∷ decimal sub.mask ∷ codes "base" ∷ decimal sub.base ∷ []

-- Literals, written short: a machine of one image, entries, subcubes, places, blocks, and the bytes
-- of messages.
use Rattle.std.specs.Prelude.{ℕ, List, [], ◌∷◌}
use Rattle.rv_model.specs.Image.{ImageParts}
use Rattle.ce_model.specs.declared.topology.TheConstants.{HOST}
use Rattle.ce_model.specs.declared.topology.Place.{Place}
use Rattle.ce_model.specs.declared.topology.BlockId.{BlockId}
use Rattle.ce_model.specs.declared.entry.Entry.{Entry}
use Rattle.ce_model.specs.declared.entry.What.{What}
pub use Rattle.ce_model.specs.Subcubes.{subcube}
use Rattle.ce_model.specs.Machine.{MachineParts}

-- a machine of one image
abbrev pub machine : ℕ → ℕ → ImageParts → MachineParts
machine dim users image = record { dim = dim; users = users; images = image ∷ [] }

-- an entry of an actor of a user, and of the user's host
abbrev pub entry_of : ℕ → ℕ → What → Entry
entry_of user actor what = record { user = user; actor = actor; what = what }

abbrev pub host_entry : ℕ → What → Entry
host_entry user what = entry_of user HOST what

abbrev pub place : ℕ → ℕ → Place
place node pid = record { node = node; pid = pid }

abbrev pub block : ℕ → ℕ → BlockId
block home index = record { home = home; index = index }

-- the bytes of messages
abbrev pub first_bytes : List ℕ
first_bytes = 0xAA ∷ []

abbrev pub second_bytes : List ℕ
second_bytes = 0xBB ∷ []

abbrev pub third_bytes : List ℕ
third_bytes = 0xCC ∷ []

-- How the map is kept: its keys in order, and the blocks in the order of their keys.
use Rattle.std.specs.Prelude.{Bool, nat_lt, ◌==◌, ◌&&◌, ◌||◌, List, [], ◌∷◌}
use Rattle.ce_model.specs.Blocks.{Block}
use Rattle.xm_owner.specs.Holdings.{Mapping}
use Rattle.xm_owner.specs.declared.key.Key.{Key}

abbrev pub is_key_before : Key → Key → Bool
is_key_before a b = nat_lt a.pid b.pid || (a.pid == b.pid && nat_lt a.window b.window)

abbrev pub is_same_key : Key → Key → Bool
is_same_key key other = other.pid == key.pid && other.window == key.window

-- keys and blocks as mappings
abbrev pub mappings_of : List Key → List Block → List Mapping
mappings_of [] blocks = []
mappings_of (key ∷ keys) [] = []
mappings_of (key ∷ keys) (block ∷ blocks) =
    record { pid = key.pid; window = key.window; block = block } ∷ mappings_of keys blocks

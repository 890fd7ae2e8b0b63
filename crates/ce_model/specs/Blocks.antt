-- Message blocks: their names, in the order in which a store gives them out, and their bytes.
use Rattle.std.specs.Prelude.{ℕ, Bool, ◌&&◌, ◌||◌, ◌==◌, nat_lt, List, fold, map}
use Rattle.std.specs.List.{range_with_len}
use Rattle.ce_model.specs.declared.topology.BlockId.{BlockId}
use Rattle.ce_model.specs.Limits.{home_blocks}
use Rattle.ce_model.specs.Lists.{without_first}
use Rattle.ce_model.specs.Rising.{with_inserted}

-- a message block: its name, and the bytes that it holds now
pub record Block : Type 0 where
  pub id : BlockId
  pub bytes : List ℕ

-- names are ordered by home, and those of one home by index
abbrev pub is_lower : BlockId → BlockId → Bool
is_lower a b = nat_lt a.home b.home || (a.home == b.home && nat_lt a.index b.index)

-- a list of names that rises, with one name more in its place
abbrev pub with_id : BlockId → List BlockId → List BlockId
with_id = with_inserted is_lower

-- several names more
abbrev pub with_ids : List BlockId → List BlockId → List BlockId
with_ids ids store = fold (λ others id. with_id id others) store ids

abbrev pub is_same_id : BlockId → BlockId → Bool
is_same_id a b = a.home == b.home && a.index == b.index

-- a list of names without the first place at which this one stands
abbrev pub without_id : BlockId → List BlockId → List BlockId
without_id id ids = without_first (is_same_id id) ids

-- the names of the blocks of one home, in order
abbrev pub blocks_of_home : ℕ → List BlockId
blocks_of_home home =
    map (λ index. record { home = home; index = index }) (range_with_len 0 home_blocks)

-- A mailbox: what waits in it, and how much more it has room for.
use Rattle.std.specs.Prelude.{ℕ, List}
use Rattle.ce_model.specs.Parcels.{Item}

-- the items in order of arrival, and for how many more there is room
pub record Queue : Type 0 where
  pub items : List Item
  pub spare : ℕ

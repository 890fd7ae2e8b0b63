-- Raw seats at their boards.
use Rattle.std.specs.Prelude.{◌≡◌}
use Rattle.ce_lock.specs.declared.board.ChairAtBoard.{ChairAtBoard}

-- it is the same raw seat, at the same board and behind the same reference
abbrev pub IsSameChair : {O C R E : Type 0} → ChairAtBoard O C R E → ChairAtBoard O C R E → Type 0
IsSameChair a b = (b.board ≡ a.board) × (b.chair.ghost_name ≡ a.chair.ghost_name)
    × (b.chair.now.table_id ≡ a.chair.now.table_id) × (b.chair.now.id ≡ a.chair.now.id)

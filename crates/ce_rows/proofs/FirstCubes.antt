-- The machine allows the rows of the first cube and of the greatest.
use Rattle.std.proofs.Common.{refl, lit<, lit≤}
use Rattle.ce_model.specs.Limits.{greatest_dim}
use Rattle.ce_model.specs.Subcubes.{extract, relative_number, deposit, subcubes, first_free_subcube}
use Rattle.ce_model.specs.Machine.{after}
use Rattle.ce_rows.specs.declared.worked.WorkedRow.TheVariants.{FirstCube, GreatestCube}
use Rattle.ce_rows.specs.RowEntries.{AreRowEntries}
use Rattle.ce_rows.specs.Rows.{row_of}

pub first_cube-entries : AreRowEntries (row_of FirstCube)
unfolding after relative_number extract deposit subcubes first_free_subcube greatest_dim
first_cube-entries = (record { fits = (lit< tt, (refl, lit≤ tt, refl)); answer = refl }, (record { fits = (lit< tt, refl); answer = refl }, tt))

pub greatest_cube-entries : AreRowEntries (row_of GreatestCube)
unfolding after relative_number extract deposit subcubes first_free_subcube greatest_dim
greatest_cube-entries = (record { fits = (lit< tt, (refl, lit≤ tt, refl)); answer = refl }, tt)

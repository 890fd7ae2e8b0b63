-- The machine allows each row.
use Rattle.std.proofs.Common.{lit<, lit≤}
use Rattle.ce_model.specs.Limits.{greatest_dim, greatest_users, greatest_images}
use Rattle.ce_model.specs.Machine.{IsMachine}
use Rattle.ce_rows.specs.declared.worked.WorkedRow.{WorkedRow}
use Rattle.ce_rows.specs.declared.worked.WorkedRow.TheVariants.{FirstCube, GreatestCube, NextOwner, Replies, Hearings, WaitingMail}
use Rattle.ce_rows.specs.RowEntries.{AreRowEntries}
use Rattle.ce_rows.specs.Rows.{row_of}
use Rattle.ce_rows.proofs.FirstCubes.{first_cube-entries, greatest_cube-entries}
use Rattle.ce_rows.proofs.NextOwner.{next_owner-entries}
use Rattle.ce_rows.proofs.Replies.{replies-entries}
use Rattle.ce_rows.proofs.Hearings.{hearings-entries}
use Rattle.ce_rows.proofs.WaitingMail.{waiting_mail-entries}

pub is-machine : (row : WorkedRow) → IsMachine (row_of row).parts
unfolding greatest_dim greatest_users greatest_images
is-machine FirstCube = record { dim = lit≤ tt; some_user = lit< tt; users = lit≤ tt; images = lit≤ tt }
is-machine GreatestCube = record { dim = lit≤ tt; some_user = lit< tt; users = lit≤ tt; images = lit≤ tt }
is-machine NextOwner = record { dim = lit≤ tt; some_user = lit< tt; users = lit≤ tt; images = lit≤ tt }
is-machine Replies = record { dim = lit≤ tt; some_user = lit< tt; users = lit≤ tt; images = lit≤ tt }
is-machine Hearings = record { dim = lit≤ tt; some_user = lit< tt; users = lit≤ tt; images = lit≤ tt }
is-machine WaitingMail = record { dim = lit≤ tt; some_user = lit< tt; users = lit≤ tt; images = lit≤ tt }

pub are-entries : (row : WorkedRow) → AreRowEntries (row_of row)
are-entries FirstCube = first_cube-entries
are-entries GreatestCube = greatest_cube-entries
are-entries NextOwner = next_owner-entries
are-entries Replies = replies-entries
are-entries Hearings = hearings-entries
are-entries WaitingMail = waiting_mail-entries

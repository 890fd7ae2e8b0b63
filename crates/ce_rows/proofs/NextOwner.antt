-- The machine allows the row of the next owner.
use Rattle.std.proofs.Common.{◌≡◌, [], ◌∷◌, None, refl, inl, inr, lit<, lit≤}
use Rattle.ce_model.specs.Limits.{greatest_dim, block_room, process_count, home_blocks, host_home}
use Rattle.ce_model.specs.Node.{opening_node, take_call, send_call}
use Rattle.ce_model.specs.Saying.{says}
use Rattle.ce_model.specs.Trace.{sent_items, taken_results, waiting_items, spawned_ids, killed_ids, mark, allowed_dispatches, made_dispatches, parcels}
use Rattle.ce_model.specs.Answers.{answer}
use Rattle.ce_model.specs.Cube.{state, hoststore, next_entry}
use Rattle.ce_model.specs.Subcubes.{extract, relative_number, deposit, subcubes, first_free_subcube}
use Rattle.ce_model.specs.Views.{view}
use Rattle.ce_model.specs.Machine.{after}
use Rattle.ce_model.proofs.Rows.SixEntries as model
use Rattle.ce_rows.specs.declared.worked.WorkedRow.TheVariants.{NextOwner}
use Rattle.ce_rows.specs.RowEntries.{AreRowEntries, history_of}
use Rattle.ce_rows.specs.Rows.{row_of, place_0, block, first_bytes, next_owner}

-- its entries are the worked row of the model
same_row : history_of next_owner ≡ model.row
same_row = refl

-- a fresh node asks for work
pub asks : (says (opening_node 0 0 1)).call ≡ take_call 0 0 None
unfolding says process_count
asks = refl

pub next_owner-entries : AreRowEntries (row_of NextOwner)
unfolding after view relative_number extract deposit subcubes first_free_subcube next_entry state hoststore sent_items taken_results waiting_items spawned_ids killed_ids mark allowed_dispatches made_dispatches parcels answer greatest_dim block_room process_count home_blocks host_home
next_owner-entries = (
  record { fits = (lit< tt, (refl, lit≤ tt, refl)); answer = refl },
  (
    record {
      fits = (lit< tt, record { inner = send_call 0 ((place_0, block 256 0) ∷ []) first_bytes; inside = inl refl; next = refl; renamed = refl; within = λ host. lit≤ tt; not_drained = refl });
      answer = refl;
    },
    (
      record { fits = (lit< tt, (refl, refl)); answer = refl },
      (
        record { fits = (lit< tt, (refl, refl)); answer = refl },
        (
          record { fits = (lit< tt, (refl, lit≤ tt, refl)); answer = refl },
          (
            record {
              fits = (lit< tt, record { inner = take_call 0 0 None; inside = inr refl; next = rw asks refl; renamed = refl; within = λ host. tt; not_drained = refl });
              answer = refl;
            },
            tt,
          ),
        ),
      ),
    ),
  ),
)

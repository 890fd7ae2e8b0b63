-- The machine allows the row of the replies without a process.
use Rattle.std.proofs.Common.{[], ◌∷◌, None, refl, inl, inr, lit<, lit≤}
use Rattle.ce_model.specs.Limits.{greatest_dim, greatest_count, block_room, process_count, home_blocks, host_home}
use Rattle.ce_model.specs.Node.{take_call, send_call, spawn_call, kill_call, arm_call, look_call, mail_call}
use Rattle.ce_model.specs.Trace.{sent_items, taken_results, waiting_items, spawned_ids, killed_ids, mark, allowed_dispatches, made_dispatches, parcels}
use Rattle.ce_model.specs.Answers.{is_quiet, answer}
use Rattle.ce_model.specs.Cube.{state, hoststore, next_entry}
use Rattle.ce_model.specs.Subcubes.{extract, relative_number, deposit, subcubes, first_free_subcube}
use Rattle.ce_model.specs.Views.{view}
use Rattle.ce_model.specs.Machine.{after}
use Rattle.ce_rows.specs.declared.worked.WorkedRow.TheVariants.{Replies}
use Rattle.ce_rows.specs.RowEntries.{AreRowEntries}
use Rattle.ce_rows.specs.Rows.{row_of, place_0, block, first_bytes}
use Rattle.ce_model.specs.Saying.{says}
use Rattle.ce_model.specs.Hearing.{node_after_hearing}

pub replies-entries : AreRowEntries (row_of Replies)
unfolding says node_after_hearing after view relative_number extract deposit subcubes first_free_subcube next_entry state hoststore sent_items taken_results waiting_items spawned_ids killed_ids mark allowed_dispatches made_dispatches parcels is_quiet answer greatest_dim greatest_count block_room process_count home_blocks host_home
replies-entries = (
  record { fits = (lit< tt, refl); answer = refl },
  (
    record { fits = (lit< tt, (refl, lit≤ tt, refl)); answer = refl },
    (
      record { fits = (lit< tt, (refl, lit≤ tt, refl)); answer = refl },
      (
        record { fits = (lit< tt, record { inner = look_call; inside = inl refl; next = refl; renamed = refl; within = λ host. tt; not_drained = refl }); answer = refl },
        (
          record { fits = (lit< tt, record { inner = kill_call 0 place_0; inside = inl refl; next = refl; renamed = refl; within = λ host. tt; not_drained = refl }); answer = refl },
          (
            record { fits = (lit< tt, record { inner = spawn_call 0 0 place_0; inside = inl refl; next = refl; renamed = refl; within = λ host. tt; not_drained = refl }); answer = refl },
            (
              record { fits = (lit< tt, record { inner = spawn_call 0 0 place_0; inside = inl refl; next = refl; renamed = refl; within = λ host. tt; not_drained = refl }); answer = refl },
              (
                record { fits = (lit< tt, record { inner = look_call; inside = inl refl; next = refl; renamed = refl; within = λ host. tt; not_drained = refl }); answer = refl },
                (
                  record { fits = (lit< tt, record { inner = take_call 0 0 None; inside = inr refl; next = refl; renamed = refl; within = λ host. tt; not_drained = refl }); answer = refl },
                  (
                    record { fits = (lit< tt, record { inner = arm_call 3; inside = inl refl; next = refl; renamed = refl; within = λ host. lit≤ tt; not_drained = refl }); answer = refl },
                    (
                      record { fits = (lit< tt, record { inner = look_call; inside = inl refl; next = refl; renamed = refl; within = λ host. tt; not_drained = refl }); answer = refl },
                      (
                        record { fits = (lit< tt, record { inner = kill_call 0 place_0; inside = inl refl; next = refl; renamed = refl; within = λ host. tt; not_drained = refl }); answer = refl },
                        (
                          record { fits = (lit< tt, record { inner = kill_call 0 place_0; inside = inl refl; next = refl; renamed = refl; within = λ host. tt; not_drained = refl }); answer = refl },
                          (
                            record {
                              fits = (lit< tt, record { inner = send_call 0 ((place_0, block 256 0) ∷ []) first_bytes; inside = inl refl; next = refl; renamed = refl; within = λ host. lit≤ tt; not_drained = refl });
                              answer = refl;
                            },
                            (record { fits = (lit< tt, record { inner = mail_call; inside = inl refl; next = refl; renamed = refl; within = λ host. tt; not_drained = refl }); answer = refl }, (record { fits = (lit< tt, record { inner = take_call 0 0 None; inside = inr refl; next = refl; renamed = refl; within = λ host. tt; not_drained = refl }); answer = refl }, (record { fits = (lit< tt, (refl, refl)); answer = refl }, tt))),
                          ),
                        ),
                      ),
                    ),
                  ),
                ),
              ),
            ),
          ),
        ),
      ),
    ),
  ),
)

-- The machine allows the row of the drain.
use Rattle.std.proofs.Common.{[], ◌∷◌, None, refl, inl, inr, lit<, lit≤}
use Rattle.rv_model.specs.LittleEndian.{number_at}
use Rattle.rv_model.specs.Words.{table, instruction_of}
use Rattle.rv_model.specs.Exec.{effect_of, step_outcome}
use Rattle.ce_model.specs.Limits.{greatest_dim, greatest_count, block_room, process_count, home_blocks, host_home, window_count, window_base, window_size, greatest_targets, turn_instructions, turn_calls}
use Rattle.ce_model.specs.Space.{access_site, block_named}
use Rattle.ce_model.specs.Kernel.{kernel, kernel_calls}
use Rattle.ce_model.specs.Saying.{says, turn_saying}
use Rattle.ce_model.specs.Hearing.{node_after_hearing}
use Rattle.ce_model.specs.Node.{take_call, send_call, spawn_call, note_call, arm_call, host_place}
use Rattle.ce_model.specs.Trace.{sent_items, taken_results, waiting_items, spawned_ids, killed_ids, mark, allowed_dispatches, made_dispatches, parcels}
use Rattle.ce_model.specs.Answers.{is_quiet, answer}
use Rattle.ce_model.specs.Cube.{state, hoststore, next_entry}
use Rattle.ce_model.specs.Subcubes.{extract, relative_number, deposit, subcubes, first_free_subcube}
use Rattle.ce_model.specs.Views.{view}
use Rattle.ce_model.specs.Machine.{after}
use Rattle.ce_rows.specs.declared.worked.WorkedRow.TheVariants.{WaitingMail}
use Rattle.ce_rows.specs.RowEntries.{AreRowEntries}
use Rattle.ce_rows.specs.Rows.{row_of, place, block, first_bytes}

pub waiting_mail-entries : AreRowEntries (row_of WaitingMail)
unfolding says turn_saying step_outcome effect_of instruction_of table number_at kernel kernel_calls access_site block_named window_count window_base window_size greatest_targets turn_instructions turn_calls node_after_hearing after view relative_number extract deposit subcubes first_free_subcube next_entry state hoststore sent_items taken_results waiting_items spawned_ids killed_ids mark allowed_dispatches made_dispatches parcels is_quiet answer greatest_dim greatest_count block_room process_count home_blocks host_home
waiting_mail-entries = (record { fits = (lit< tt, (refl, lit≤ tt, refl)); answer = refl }, (record { fits = (lit< tt, record { inner = spawn_call 0 0 (place 1 0); inside = inl refl; next = refl; renamed = refl; within = λ host. tt; not_drained = refl }); answer = refl }, (record { fits = (lit< tt, record { inner = arm_call 10; inside = inl refl; next = refl; renamed = refl; within = λ host. lit≤ tt; not_drained = refl }); answer = refl }, (record { fits = (lit< tt, record { inner = take_call 0 0 None; inside = inr refl; next = refl; renamed = refl; within = λ host. tt; not_drained = refl }); answer = refl }, (record { fits = (lit< tt, record { inner = note_call 0 42; inside = inr refl; next = refl; renamed = refl; within = λ host. tt; not_drained = refl }); answer = refl }, (record { fits = (lit< tt, record { inner = send_call 0 ((host_place, block 1 0) ∷ []) (0 ∷ []); inside = inr refl; next = refl; renamed = refl; within = λ host. lit≤ tt; not_drained = refl }); answer = refl }, (record { fits = (lit< tt, record { inner = send_call 0 ((place 2 0, block 256 0) ∷ []) first_bytes; inside = inl refl; next = refl; renamed = refl; within = λ host. lit≤ tt; not_drained = refl }); answer = refl }, (record { fits = (lit< tt, record { inner = send_call 0 ((place 0 0, block 256 1) ∷ []) first_bytes; inside = inl refl; next = refl; renamed = refl; within = λ host. lit≤ tt; not_drained = refl }); answer = refl }, (record { fits = (lit< tt, record { inner = send_call 0 ((place 3 1, block 256 2) ∷ []) first_bytes; inside = inl refl; next = refl; renamed = refl; within = λ host. lit≤ tt; not_drained = refl }); answer = refl }, (record { fits = (lit< tt, (refl, refl)); answer = refl }, tt))))))))))

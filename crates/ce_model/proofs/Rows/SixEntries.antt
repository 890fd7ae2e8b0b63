-- The machine's six entries: a user's message waits in a node when its cube is drained and given
-- back, and the next owner of the node finds nothing. What the node says is a premise.
use Rattle.std.proofs.Common.{◌≡◌, List, [], ◌∷◌, Some, None, option_map, refl, inl, inr, arith}
use Rattle.rv_model.specs.Image.{ImageParts}
use Rattle.ce_model.specs.declared.entry.Entry.{Entry}
use Rattle.ce_model.specs.declared.entry.What.TheVariants.{Getcube, Drain, Freecube, Send, Take}
use Rattle.ce_model.specs.declared.entry.TakeResult.TheVariants.{Idle}
use Rattle.ce_model.specs.Limits.{greatest_dim, block_room, process_count, home_blocks, host_home}
use Rattle.ce_model.specs.Literals.{machine, entry_of, host_entry, subcube, place, block, first_bytes}
use Rattle.ce_model.specs.Node.{opening_node, take_call, send_call, host_place}
use Rattle.ce_model.specs.Saying.{says}
use Rattle.ce_model.specs.Trace.{sent_items, taken_results, waiting_items, spawned_ids, killed_ids, mark, allowed_dispatches, made_dispatches, parcels}
use Rattle.ce_model.specs.Answers.{answer}
use Rattle.ce_model.specs.Cube.{state, hoststore, next_entry}
use Rattle.ce_model.specs.Subcubes.{extract, relative_number, deposit, subcubes, first_free_subcube}
use Rattle.ce_model.specs.Views.{view}
use Rattle.ce_model.specs.Machine.{after, getcube, drain, freecube, cube_request, all_parcels, cube_held_by, IsLawful}

abbrev pub row : List Entry
row =
    host_entry 0 (Getcube 0 (Some (subcube 0 0)))
    ∷ host_entry 0 (Send 0 0 ((place 0 0, block 256 0) ∷ []) first_bytes)
    ∷ host_entry 0 Drain
    ∷ host_entry 0 Freecube
    ∷ host_entry 1 (Getcube 0 (Some (subcube 0 0)))
    ∷ entry_of 1 0 (Take 0 0 None Idle)
    ∷ []

pub row_is_lawful : (image : ImageParts) → (says (opening_node 0 0 1)).call ≡ take_call 0 0 None → IsLawful (machine 0 2 image) row
unfolding after view relative_number extract deposit subcubes first_free_subcube next_entry state hoststore sent_items taken_results waiting_items spawned_ids killed_ids mark allowed_dispatches made_dispatches parcels answer greatest_dim block_room process_count home_blocks host_home
row_is_lawful image asks = (
  record { request = getcube 0; fits = (omega arith, (refl, omega arith, refl)); answer = refl },
  (
    record { request = cube_request (send_call 0 ((place 0 0, block 256 0) ∷ []) first_bytes); fits = (omega arith, record { inner = send_call 0 ((place 0 0, block 256 0) ∷ []) first_bytes; inside = inl refl; next = refl; renamed = refl; within = λ host. omega arith; not_drained = refl }); answer = refl },
    (
      record { request = drain; fits = (omega arith, (refl, refl)); answer = refl },
      (
        record { request = freecube; fits = (omega arith, (refl, refl)); answer = refl },
        (
          record { request = getcube 0; fits = (omega arith, (refl, omega arith, refl)); answer = refl },
          (
            record { request = cube_request (take_call 0 0 None); fits = (omega arith, record { inner = take_call 0 0 None; inside = inr refl; next = rw asks refl; renamed = refl; within = λ host. tt; not_drained = refl }); answer = refl },
            tt,
          ),
        ),
      ),
    ),
  ),
)

-- what the drain hands over: the one message, with the cube's numbers for places and the machine's
-- name for its block
abbrev pub first_two : List Entry
first_two = host_entry 0 (Getcube 0 (Some (subcube 0 0))) ∷ host_entry 0 (Send 0 0 ((place 0 0, block 256 0) ∷ []) first_bytes) ∷ []

pub drained :
    option_map (all_parcels (after first_two)) (cube_held_by (after first_two) 0)
    ≡ Some (record { from = host_place; to = place 0 0; number = 0; block = record { id = block 256 0; bytes = first_bytes } } ∷ [])
unfolding after relative_number extract deposit greatest_dim
drained = refl

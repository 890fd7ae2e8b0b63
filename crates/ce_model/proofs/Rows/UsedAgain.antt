-- The worked row `used_again`: the next owner of a node gets no mail of the one before. The history
-- is lawful, and its two views are the row's traces. What the process says is a premise.
use Rattle.std.proofs.Common.{◌≡◌, ℕ, List, [], ◌∷◌, ◌++◌, Some, None, true, refl, inl, inr, arith}
use Rattle.rv_model.specs.Image.{ImageParts}
use Rattle.ce_model.specs.declared.entry.Entry.{Entry}
use Rattle.ce_model.specs.declared.entry.What.TheVariants.{Getcube, Drain, Freecube, Arm, Look, Send, Spawn, Take}
use Rattle.ce_model.specs.declared.entry.LookResult.TheVariants.{Quiet}
use Rattle.ce_model.specs.declared.entry.TakeResult.TheVariants.{Start, Idle}
use Rattle.ce_model.specs.Lists.{EachAfter}
use Rattle.ce_model.specs.Limits.{greatest_dim, greatest_count, block_room, process_count, home_blocks, host_home}
use Rattle.ce_model.specs.Literals.{machine, entry_of, host_entry, subcube, place, block, first_bytes, second_bytes, third_bytes}
use Rattle.ce_model.specs.Node.{opening_node, take_call, send_call, spawn_call, arm_call, look_call}
use Rattle.ce_model.specs.Saying.{says}
use Rattle.ce_model.specs.Hearing.{node_after_hearing, start_of}
use Rattle.ce_model.specs.Trace.{sent_items, taken_results, waiting_items, spawned_ids, killed_ids, mark, allowed_dispatches, made_dispatches, parcels}
use Rattle.ce_model.specs.Answers.{is_quiet, answer}
use Rattle.ce_model.specs.Cube.{state, hoststore, next_entry}
use Rattle.ce_model.specs.Subcubes.{extract, relative_number, deposit, subcubes, first_free_subcube}
use Rattle.ce_model.specs.Views.{view}
use Rattle.ce_model.specs.Machine.{after, getcube, drain, freecube, cube_request, IsLawfulEntry, IsLawful}
use Rattle.ce_model.proofs.Walked.{each_joined}

-- the first user's host sends the message of this number in its block of the same index
abbrev pub first_sends : ℕ → List ℕ → Entry
first_sends number bytes = host_entry 0 (Send 0 number ((place 0 0, block 256 number) ∷ []) bytes)

-- the first user sends three messages to a process that is never started, and gives the cube back
abbrev pub first_cube : List Entry
first_cube =
    host_entry 0 (Getcube 0 (Some (subcube 0 0)))
    ∷ first_sends 0 first_bytes
    ∷ first_sends 1 second_bytes
    ∷ first_sends 2 third_bytes
    ∷ host_entry 0 Drain
    ∷ host_entry 0 Freecube
    ∷ []

-- the second user starts a process on the same node
abbrev pub second_cube : List Entry
second_cube =
    host_entry 1 (Getcube 0 (Some (subcube 0 0)))
    ∷ host_entry 1 (Spawn 0 0 (place 0 0) true)
    ∷ host_entry 1 (Arm 10)
    ∷ entry_of 1 0 (Take 0 0 None (Start 0 0))
    ∷ entry_of 1 0 (Take 1 0 None Idle)
    ∷ host_entry 1 (Look Quiet)
    ∷ []

-- what the second cube's node says, at first and once it was given the start
pub record HasSaidRow (image : ImageParts) : Type 0 where
  pub asks : (says (opening_node 0 0 1)).call ≡ take_call 0 0 None
  pub waits : (says (node_after_hearing (image ∷ []) (says (opening_node 0 0 1)).node (start_of 0 0))).call ≡ take_call 1 0 None

first_is_lawful : (image : ImageParts) → EachAfter (IsLawfulEntry (machine 0 2 image)) [] first_cube
unfolding after view relative_number extract deposit subcubes first_free_subcube next_entry state hoststore sent_items taken_results waiting_items spawned_ids killed_ids mark allowed_dispatches made_dispatches parcels is_quiet answer greatest_dim greatest_count block_room process_count home_blocks host_home
first_is_lawful image = (
  record { request = getcube 0; fits = (omega arith, (refl, omega arith, refl)); answer = refl },
  (
    record { request = cube_request (send_call 0 ((place 0 0, block 256 0) ∷ []) first_bytes); fits = (omega arith, record { inner = send_call 0 ((place 0 0, block 256 0) ∷ []) first_bytes; inside = inl refl; next = refl; renamed = refl; within = λ host. omega arith; not_drained = refl }); answer = refl },
    (
      record { request = cube_request (send_call 0 ((place 0 0, block 256 1) ∷ []) second_bytes); fits = (omega arith, record { inner = send_call 0 ((place 0 0, block 256 1) ∷ []) second_bytes; inside = inl refl; next = refl; renamed = refl; within = λ host. omega arith; not_drained = refl }); answer = refl },
      (
        record { request = cube_request (send_call 0 ((place 0 0, block 256 2) ∷ []) third_bytes); fits = (omega arith, record { inner = send_call 0 ((place 0 0, block 256 2) ∷ []) third_bytes; inside = inl refl; next = refl; renamed = refl; within = λ host. omega arith; not_drained = refl }); answer = refl },
        (
          record { request = drain; fits = (omega arith, (refl, refl)); answer = refl },
          (
            record { request = freecube; fits = (omega arith, (refl, refl)); answer = refl },
            tt,
          ),
        ),
      ),
    ),
  ),
)

second_is_lawful : (image : ImageParts) → HasSaidRow image → EachAfter (IsLawfulEntry (machine 0 2 image)) first_cube second_cube
unfolding after view relative_number extract deposit subcubes first_free_subcube next_entry state hoststore sent_items taken_results waiting_items spawned_ids killed_ids mark allowed_dispatches made_dispatches parcels is_quiet answer greatest_dim greatest_count block_room process_count home_blocks host_home
second_is_lawful image h = (
  record { request = getcube 0; fits = (omega arith, (refl, omega arith, refl)); answer = refl },
  (
    record { request = cube_request (spawn_call 0 0 (place 0 0)); fits = (omega arith, record { inner = spawn_call 0 0 (place 0 0); inside = inl refl; next = refl; renamed = refl; within = λ host. tt; not_drained = refl }); answer = refl },
    (
      record { request = cube_request (arm_call 10); fits = (omega arith, record { inner = arm_call 10; inside = inl refl; next = refl; renamed = refl; within = λ host. omega arith; not_drained = refl }); answer = refl },
      (
        record { request = cube_request (take_call 0 0 None); fits = (omega arith, record { inner = take_call 0 0 None; inside = inr refl; next = rw h.asks refl; renamed = refl; within = λ host. tt; not_drained = refl }); answer = refl },
        (
          record { request = cube_request (take_call 1 0 None); fits = (omega arith, record { inner = take_call 1 0 None; inside = inr refl; next = rw h.waits refl; renamed = refl; within = λ host. tt; not_drained = refl }); answer = refl },
          (
            record { request = cube_request look_call; fits = (omega arith, record { inner = look_call; inside = inl refl; next = refl; renamed = refl; within = λ host. tt; not_drained = refl }); answer = refl },
            tt,
          ),
        ),
      ),
    ),
  ),
)

pub row_is_lawful : (image : ImageParts) → HasSaidRow image → IsLawful (machine 0 2 image) (first_cube ++ second_cube)
row_is_lawful image h = each_joined (IsLawfulEntry (machine 0 2 image)) [] first_cube second_cube (first_is_lawful image) (second_is_lawful image h)

-- the traces of the two cubes: the second one has no mail of the first
pub first_view :
    view (first_cube ++ second_cube) 0
    ≡ first_sends 0 first_bytes ∷ first_sends 1 second_bytes
    ∷ first_sends 2 third_bytes ∷ []
unfolding view relative_number extract host_home greatest_dim
first_view = refl

pub second_view :
    view (first_cube ++ second_cube) 1
    ≡ host_entry 1 (Spawn 0 0 (place 0 0) true) ∷ host_entry 1 (Arm 10) ∷ entry_of 1 0 (Take 0 0 None (Start 0 0)) ∷ entry_of 1 0 (Take 1 0 None Idle)
    ∷ host_entry 1 (Look Quiet) ∷ []
unfolding view relative_number extract host_home greatest_dim
second_view = refl

-- The worked row in which a node is used again: which users, commands and entries the record has,
-- and that each reply is right. What the process says is a premise, so that no memory is computed.
use Rattle.std.proofs.Common.{◌≡◌, ℕ, List, [], ◌∷◌, ◌++◌, Some, None, true, refl}
use Rattle.rv_model.specs.Image.{ImageParts}
use Rattle.ce_model.specs.declared.topology.TheConstants.{HOST}
use Rattle.ce_model.specs.declared.entry.Entry.{Entry}
use Rattle.ce_model.specs.declared.entry.What.TheVariants as whats
use Rattle.ce_model.specs.declared.entry.LookResult.TheVariants as look_result
use Rattle.ce_model.specs.declared.entry.TakeResult.TheVariants.{Start, Idle}
use Rattle.ce_model.specs.Limits.{process_count, home_blocks, host_home, greatest_dim}
use Rattle.ce_model.specs.Subcubes.{extract, relative_number}
use Rattle.ce_model.specs.Node.{Node, opening_node, take_call}
use Rattle.ce_model.specs.Saying.{says}
use Rattle.ce_model.specs.Hearing.{node_after_hearing, start_of}
use Rattle.ce_model.specs.Cube.{Cube, opening, state, hoststore}
use Rattle.ce_host.specs.declared.command.Command.{Command}
use Rattle.ce_host.specs.declared.command.Command.TheVariants.{Getcube, Send, Freecube, Spawn, Run}
use Rattle.ce_host.specs.declared.answer.Answer.{Answer}
use Rattle.ce_host.specs.declared.answer.Answer.TheVariants as answers
use Rattle.ce_script.specs.Rounds.{serial, IsSerialRound, AreTurnsOver}
use Rattle.ce_script.specs.Moments.{moments, holding}
use Rattle.ce_script.specs.Commands.{IsRun}
use Rattle.ce_script.specs.Doings.{Doing, AreDoings}
use Rattle.ce_script.specs.Legal.{IsRecordOfScript, machine_of}
use Rattle.ce_script.proofs.Rows.{first_bytes, second_bytes, third_bytes, two_rounds, doing_in, one_cube, turn_is_round, turns_over, entry_of, place, subcube}
use Rattle.ce_script.proofs.RowUsedAgain.{the_script, the_record, alice_done, bob_done}

pub is_kept : (image : ImageParts) → IsRecordOfScript (the_script image) the_record
is_kept image = record { users = refl; commands = (refl, (refl, tt)) }

-- ---- what each user did

abbrev doing : Command → Answer → ℕ → ℕ → Doing
doing = doing_in the_record.history

abbrev pub alice_doings : List Doing
alice_doings =
    doing (Getcube 0) (answers.Granted (subcube 0 0)) 0 1 ∷ doing (Send (place 0 0) first_bytes) answers.Ok 1 1 ∷ doing (Send (place 0 0) second_bytes) answers.Ok 2 1
    ∷ doing (Send (place 0 0) third_bytes) answers.Ok 3 1 ∷ doing Freecube answers.Freed 4 2 ∷ []

abbrev pub bob_doings : List Doing
bob_doings =
    doing (Getcube 0) (answers.Granted (subcube 0 0)) 6 1 ∷ doing (Spawn 0 (place 0 0)) answers.Ok 7 1 ∷ doing (Run 10) answers.Quiet 8 4 ∷ []

pub alice_did : (image : ImageParts) → AreDoings serial (machine_of (the_script image)) the_record.history 0 alice_done alice_doings
unfolding moments holding hoststore relative_number extract process_count home_blocks host_home greatest_dim
alice_did image = record {
  replies = refl;
  entries = refl;
  each = ((Some (subcube 0 0), refl, refl), ((0, refl, refl), ((1, refl, refl), ((2, refl, refl), ((refl, refl), tt)))));
}

-- ---- bob's run

abbrev pub bob_cube : ImageParts → Cube
bob_cube image = one_cube 1 image

-- the node once it was given the start
abbrev pub started_node : ImageParts → Node
started_node image = node_after_hearing (image ∷ []) (says (opening_node 0 0 1)).node (start_of 0 0)

-- what the process says: at first the node asks for work; then its process waits for a message, and
-- does so still
pub record HasSaidRow (image : ImageParts) : Type 0 where
  pub asks : (says (opening_node 0 0 1)).call ≡ take_call 0 0 None
  pub waits : (says (started_node image)).call ≡ take_call 1 0 None
  pub still : (says (says (started_node image)).node).call ≡ take_call 1 0 None

abbrev pub start_round : List Entry
start_round = entry_of 1 0 (whats.Take 0 0 None (Start 0 0)) ∷ []

abbrev pub idle_round : List Entry
idle_round = entry_of 1 0 (whats.Take 1 0 None Idle) ∷ []

abbrev pub run_segment : List Entry
run_segment = entry_of 1 HOST (whats.Arm 10) ∷ (start_round ++ (idle_round ++ entry_of 1 HOST (whats.Look look_result.Quiet) ∷ []))

abbrev pub bob_trace : List Entry
bob_trace = entry_of 1 HOST (whats.Spawn 0 0 (place 0 0) true) ∷ run_segment

bob_over : (image : ImageParts) → HasSaidRow image → AreTurnsOver (bob_cube image) (opening (bob_cube image)) bob_trace
unfolding state node_after_hearing
bob_over image h = turns_over 1 image bob_trace (rw h.still refl)

start_is_round : IsSerialRound 0 start_round
start_is_round = turn_is_round start_round (refl, tt, (refl, tt))

idle_is_round : IsSerialRound 0 idle_round
idle_is_round = turn_is_round idle_round (refl, tt, (refl, tt))

bob_run : (image : ImageParts) → IsRun serial (bob_cube image) 10 answers.Quiet run_segment
bob_run image = two_rounds serial 1 image 10 start_round idle_round (start_is_round, refl) (idle_is_round, refl)

pub bob_did : (image : ImageParts) → HasSaidRow image → AreDoings serial (machine_of (the_script image)) the_record.history 1 bob_done bob_doings
unfolding moments holding relative_number extract process_count greatest_dim
bob_did image h = record {
  replies = refl;
  entries = refl;
  each = ((Some (subcube 0 0), refl, refl), ((true, refl, refl), ((bob_run image, bob_over image h), tt)));
}

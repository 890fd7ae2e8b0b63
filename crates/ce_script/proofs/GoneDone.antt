-- The worked row in which a process sends a block to its host and then touches it: the entries and
-- the reply of each command, among them `dump` and `trace`. What the process says is a premise, so
-- that no memory is computed.
use Rattle.std.proofs.Common.{◌≡◌, ℕ, List, [], ◌∷◌, ◌++◌, Some, None, true, refl}
use Rattle.rv_model.specs.Image.{ImageParts}
use Rattle.rv_model.specs.declared.stop.Stop.TheVariants.{Gone}
use Rattle.ce_model.specs.declared.process.Status.TheVariants.{Stopped}
use Rattle.ce_model.specs.declared.topology.TheConstants.{HOST}
use Rattle.ce_model.specs.declared.entry.Entry.{Entry}
use Rattle.ce_model.specs.declared.entry.What.TheVariants as whats
use Rattle.ce_model.specs.declared.entry.LookResult.TheVariants as look_result
use Rattle.ce_model.specs.declared.entry.TakeResult.TheVariants.{Start, Idle}
use Rattle.ce_model.specs.Limits.{process_count, host_home, greatest_dim}
use Rattle.ce_model.specs.Subcubes.{extract, relative_number}
use Rattle.ce_model.specs.Node.{Node, opening_node, take_call, process_at}
use Rattle.ce_model.specs.Saying.{says}
use Rattle.ce_model.specs.Hearing.{node_after_hearing, start_of, answer_of}
use Rattle.ce_model.specs.Trace.{sent_items}
use Rattle.ce_model.specs.Cube.{Cube, opening, state, rest}
use Rattle.ce_host.specs.declared.command.Command.{Command}
use Rattle.ce_host.specs.declared.command.Command.TheVariants.{Getcube, Spawn, Run, Recv, Dump, Trace}
use Rattle.ce_host.specs.declared.answer.Answer.{Answer}
use Rattle.ce_host.specs.declared.answer.Answer.TheVariants as answers
use Rattle.ce_script.specs.Rounds.{serial, IsSerialRound, AreTurnsOver}
use Rattle.ce_script.specs.Moments.{moments, holding}
use Rattle.ce_script.specs.Commands.{IsRun, IsRecv, message_next}
use Rattle.ce_script.specs.Doings.{Doing, AreDoings}
use Rattle.ce_script.specs.Legal.{machine_of}
use Rattle.ce_script.proofs.Rows.{two_rounds, doing_in, one_cube, turn_is_round, turns_over, entry_of, place, block, subcube}
use Rattle.ce_script.proofs.RowGone.{message, the_script, the_record, alice_done}

abbrev doing : Command → Answer → ℕ → ℕ → Doing
doing = doing_in the_record.history

abbrev pub alice_doings : List Doing
alice_doings =
    doing (Getcube 0) (answers.Granted (subcube 0 0)) 0 1 ∷ doing (Spawn 0 (place 0 0)) answers.Ok 1 1 ∷ doing (Run 10) answers.Quiet 2 5
    ∷ doing (Dump (place 0 0)) (answers.State (Stopped (Gone 0x8000_0000))) 7 0 ∷ doing (Recv 0) (answers.Message (place 0 0) message) 7 2
    ∷ doing Trace (answers.Entries 8) 9 0 ∷ []

abbrev the_cube : ImageParts → Cube
the_cube image = one_cube 0 image

-- ---- what the process says

-- the node once it was given the start, once its message is posted, and once its process has
-- stopped
abbrev started_node : ImageParts → Node
started_node image = node_after_hearing (image ∷ []) (says (opening_node 0 0 1)).node (start_of 0 0)

abbrev posted_node : ImageParts → Node
posted_node image = node_after_hearing (image ∷ []) (says (started_node image)).node (answer_of 0)

abbrev ended_node : ImageParts → Node
ended_node image = (says (says (posted_node image)).node).node

pub record HasSaidRow (image : ImageParts) : Type 0 where
  pub over : (says (says (posted_node image)).node).call ≡ take_call 0 1 None
  pub stopped : (process_at (ended_node image) 0).status ≡ Stopped (Gone 0x8000_0000)

-- ---- the commands with rounds

abbrev start_round : List Entry
start_round = entry_of 0 0 (whats.Take 0 0 None (Start 0 0)) ∷ entry_of 0 0 (whats.Send 0 0 ((place HOST 0, block 0 0) ∷ []) message) ∷ []

abbrev idle_round : List Entry
idle_round = entry_of 0 0 (whats.Take 0 1 None Idle) ∷ []

abbrev run_segment : List Entry
run_segment = entry_of 0 HOST (whats.Arm 10) ∷ (start_round ++ (idle_round ++ entry_of 0 HOST (whats.Look look_result.Quiet) ∷ []))

abbrev recv_segment : List Entry
recv_segment = entry_of 0 HOST (whats.Arm 0) ∷ entry_of 0 HOST (whats.HostTake (Some 0)) ∷ []

abbrev run_trace : List Entry
run_trace = entry_of 0 HOST (whats.Spawn 0 0 (place 0 0) true) ∷ run_segment

abbrev recv_trace : List Entry
recv_trace = run_trace ++ recv_segment

start_is_round : IsSerialRound 0 start_round
start_is_round = turn_is_round start_round (refl, (refl, tt), (refl, (refl, tt)))

idle_is_round : IsSerialRound 0 idle_round
idle_is_round = turn_is_round idle_round (refl, tt, (refl, tt))

ran : (image : ImageParts) → IsRun serial (the_cube image) 10 answers.Quiet run_segment
ran image = two_rounds serial 0 image 10 start_round idle_round (start_is_round, refl) (idle_is_round, refl)

received : (image : ImageParts) → IsRecv serial (the_cube image) (sent_items (opening (the_cube image)).standing HOST recv_trace) 0 (answers.Message (place 0 0) message) recv_segment
unfolding sent_items
received image = record { rounds = []; end = message_next 0; with_work = tt; without_work = tt; entries = refl; reply = refl }

run_over : (image : ImageParts) → HasSaidRow image → AreTurnsOver (the_cube image) (opening (the_cube image)) run_trace
unfolding state node_after_hearing
run_over image h = turns_over 0 image run_trace (rw h.over refl)

recv_over : (image : ImageParts) → HasSaidRow image → AreTurnsOver (the_cube image) (opening (the_cube image)) recv_trace
unfolding state node_after_hearing
recv_over image h = turns_over 0 image recv_trace (rw h.over refl)

dumped : (image : ImageParts) → HasSaidRow image
    → answers.State (Stopped (Gone 0x8000_0000)) ≡ answers.State (process_at (rest (the_cube image) (opening (the_cube image)) 0 run_trace) 0).status
unfolding state node_after_hearing
dumped image h = rw h.stopped refl

pub alice_did : (image : ImageParts) → HasSaidRow image → AreDoings serial (machine_of (the_script image)) the_record.history 0 alice_done alice_doings
unfolding moments holding relative_number extract process_count host_home greatest_dim
alice_did image h = record {
  replies = refl;
  entries = refl;
  each = (
    (Some (subcube 0 0), refl, refl),
    (
      (true, refl, refl),
      (
        (ran image, run_over image h),
        ((dumped image h, refl), ((received image, recv_over image h), ((refl, refl), tt))),
      ),
    ),
  );
}

-- The worked row in which messages wait for a process that is started later: the entries and the
-- reply of each command, among them `recv` with a message and without one. What the process says is
-- a premise, so that no memory is computed.
use Rattle.std.proofs.Common.{◌≡◌, ℕ, List, [], ◌∷◌, ◌++◌, Some, None, true, refl}
use Rattle.rv_model.specs.Image.{ImageParts}
use Rattle.ce_model.specs.declared.topology.TheConstants.{HOST}
use Rattle.ce_model.specs.declared.entry.Entry.{Entry}
use Rattle.ce_model.specs.declared.entry.What.TheVariants as whats
use Rattle.ce_model.specs.declared.entry.LookResult.TheVariants as look_result
use Rattle.ce_model.specs.declared.entry.TakeResult.TheVariants.{Start, Mail, Idle}
use Rattle.ce_model.specs.Limits.{process_count, home_blocks, host_home, greatest_dim}
use Rattle.ce_model.specs.Subcubes.{extract, relative_number}
use Rattle.ce_model.specs.Parcels.{Parcel}
use Rattle.ce_model.specs.Node.{Node, opening_node, take_call}
use Rattle.ce_model.specs.Saying.{says}
use Rattle.ce_model.specs.Hearing.{node_after_hearing, start_of, mail_of, answer_of}
use Rattle.ce_model.specs.Trace.{sent_items, taken_results, waiting_items}
use Rattle.ce_model.specs.Cube.{Cube, opening, state, hoststore}
use Rattle.ce_host.specs.declared.command.Command.{Command}
use Rattle.ce_host.specs.declared.command.Command.TheVariants.{Getcube, Send, Spawn, Recv}
use Rattle.ce_host.specs.declared.answer.Answer.{Answer}
use Rattle.ce_host.specs.declared.answer.Answer.TheVariants as answers
use Rattle.ce_script.specs.Rounds.{serial, IsSerialRound, AreTurnsOver}
use Rattle.ce_script.specs.Moments.{moments, holding}
use Rattle.ce_script.specs.Commands.{IsRecv, message_next, no_message}
use Rattle.ce_script.specs.Doings.{Doing, AreDoings}
use Rattle.ce_script.specs.Legal.{machine_of}
use Rattle.ce_script.proofs.Rows.{first_bytes, second_bytes, doing_in, one_cube, turn_is_round, turns_over, entry_of, place, block, subcube}
use Rattle.ce_script.proofs.RowUnborn.{the_script, the_record, alice_done, host_send, reply_send}

abbrev doing : Command → Answer → ℕ → ℕ → Doing
doing = doing_in the_record.history

abbrev pub alice_doings : List Doing
alice_doings =
    doing (Getcube 0) (answers.Granted (subcube 0 0)) 0 1 ∷ doing (Send (place 0 0) first_bytes) answers.Ok 1 1 ∷ doing (Send (place 0 0) second_bytes) answers.Ok 2 1
    ∷ doing (Spawn 0 (place 0 0)) answers.Ok 3 1 ∷ doing (Recv 100) (answers.Message (place 0 0) first_bytes) 4 7
    ∷ doing (Recv 100) (answers.Message (place 0 0) second_bytes) 11 5 ∷ doing (Recv 100) answers.None 16 5 ∷ []

abbrev the_cube : ImageParts → Cube
the_cube image = one_cube 0 image

-- ---- what the process says

-- a parcel from the host
abbrev parcel : ℕ → List ℕ → Parcel
parcel number bytes = record { from = place HOST 0; to = place 0 0; number = number; block = record { id = block 256 number; bytes = bytes } }

-- the node once it was given the start, each message, and the answer to its sending it back
abbrev started_node : ImageParts → Node
started_node image = node_after_hearing (image ∷ []) (says (opening_node 0 0 1)).node (start_of 0 0)

abbrev given_aa : ImageParts → Node
given_aa image = node_after_hearing (image ∷ []) (says (started_node image)).node (mail_of (parcel 0 first_bytes))

abbrev sent_aa : ImageParts → Node
sent_aa image = node_after_hearing (image ∷ []) (says (given_aa image)).node (answer_of 0)

abbrev given_bb : ImageParts → Node
given_bb image = node_after_hearing (image ∷ []) (says (sent_aa image)).node (mail_of (parcel 1 second_bytes))

abbrev sent_bb : ImageParts → Node
sent_bb image = node_after_hearing (image ∷ []) (says (given_bb image)).node (answer_of 0)

-- between two messages the process waits for one
pub record HasSaidRow (image : ImageParts) : Type 0 where
  pub after_aa : (says (sent_aa image)).call ≡ take_call 1 0 None
  pub after_bb : (says (sent_bb image)).call ≡ take_call 1 0 None
  pub still : (says (says (sent_bb image)).node).call ≡ take_call 1 0 None

-- ---- the three receipts

abbrev empty_take : Entry
empty_take = entry_of 0 HOST (whats.HostTake None)

abbrev start_round : List Entry
start_round = entry_of 0 0 (whats.Take 0 0 None (Start 0 0)) ∷ []

abbrev aa_round : List Entry
aa_round = entry_of 0 0 (whats.Take 1 0 None (Mail 0 0)) ∷ entry_of 0 0 (reply_send 0 first_bytes 2) ∷ []

abbrev bb_round : List Entry
bb_round = entry_of 0 0 (whats.Take 1 0 None (Mail 0 1)) ∷ entry_of 0 0 (reply_send 1 second_bytes 3) ∷ []

abbrev idle_round : List Entry
idle_round = entry_of 0 0 (whats.Take 1 0 None Idle) ∷ []

abbrev first_segment : List Entry
first_segment = entry_of 0 HOST (whats.Arm 100) ∷ empty_take ∷ (start_round ++ empty_take ∷ (aa_round ++ entry_of 0 HOST (whats.HostTake (Some 2)) ∷ []))

abbrev second_segment : List Entry
second_segment = entry_of 0 HOST (whats.Arm 100) ∷ empty_take ∷ (bb_round ++ entry_of 0 HOST (whats.HostTake (Some 3)) ∷ [])

abbrev third_segment : List Entry
third_segment = entry_of 0 HOST (whats.Arm 100) ∷ empty_take ∷ (idle_round ++ empty_take ∷ entry_of 0 HOST (whats.Look look_result.Quiet) ∷ [])

abbrev first_trace : List Entry
first_trace = entry_of 0 HOST (host_send 0 first_bytes 0) ∷ entry_of 0 HOST (host_send 1 second_bytes 1) ∷ entry_of 0 HOST (whats.Spawn 0 0 (place 0 0) true) ∷ first_segment

abbrev second_trace : List Entry
second_trace = first_trace ++ second_segment

abbrev third_trace : List Entry
third_trace = second_trace ++ third_segment

start_is_round : IsSerialRound 0 start_round
start_is_round = turn_is_round start_round (refl, tt, (refl, tt))

aa_is_round : IsSerialRound 0 aa_round
aa_is_round = turn_is_round aa_round (refl, (refl, tt), (refl, (refl, tt)))

bb_is_round : IsSerialRound 0 bb_round
bb_is_round = turn_is_round bb_round (refl, (refl, tt), (refl, (refl, tt)))

idle_is_round : IsSerialRound 0 idle_round
idle_is_round = turn_is_round idle_round (refl, tt, (refl, tt))

first_received : (image : ImageParts) → IsRecv serial (the_cube image) (sent_items (opening (the_cube image)).standing HOST first_trace) 100 (answers.Message (place 0 0) first_bytes) first_segment
unfolding sent_items
first_received image = record {
  rounds = start_round ∷ aa_round ∷ [];
  end = message_next 2;
  with_work = ((start_is_round, refl), ((aa_is_round, refl), tt));
  without_work = tt;
  entries = refl;
  reply = refl;
}

second_received : (image : ImageParts) → IsRecv serial (the_cube image) (sent_items (opening (the_cube image)).standing HOST second_trace) 100 (answers.Message (place 0 0) second_bytes) second_segment
unfolding sent_items
second_received image = record {
  rounds = bb_round ∷ [];
  end = message_next 3;
  with_work = ((bb_is_round, refl), tt);
  without_work = tt;
  entries = refl;
  reply = refl;
}

third_received : (image : ImageParts) → IsRecv serial (the_cube image) (sent_items (opening (the_cube image)).standing HOST third_trace) 100 answers.None third_segment
third_received image = record {
  rounds = [];
  end = no_message idle_round look_result.Quiet;
  with_work = tt;
  without_work = ((idle_is_round, refl), tt);
  entries = refl;
  reply = refl;
}

first_over : (image : ImageParts) → HasSaidRow image → AreTurnsOver (the_cube image) (opening (the_cube image)) first_trace
unfolding state waiting_items sent_items taken_results
first_over image h = turns_over 0 image first_trace (rw h.after_aa refl)

second_over : (image : ImageParts) → HasSaidRow image → AreTurnsOver (the_cube image) (opening (the_cube image)) second_trace
unfolding state waiting_items sent_items taken_results
second_over image h = turns_over 0 image second_trace (rw h.after_bb refl)

third_over : (image : ImageParts) → HasSaidRow image → AreTurnsOver (the_cube image) (opening (the_cube image)) third_trace
unfolding state node_after_hearing waiting_items sent_items taken_results
third_over image h = turns_over 0 image third_trace (rw h.still refl)

pub alice_did : (image : ImageParts) → HasSaidRow image → AreDoings serial (machine_of (the_script image)) the_record.history 0 alice_done alice_doings
unfolding moments holding hoststore relative_number extract process_count home_blocks host_home greatest_dim
alice_did image h = record {
  replies = refl;
  entries = refl;
  each = (
    (Some (subcube 0 0), refl, refl),
    (
      (0, refl, refl),
      (
        (1, refl, refl),
        (
          (true, refl, refl),
          (
            (first_received image, first_over image h),
            ((second_received image, second_over image h), ((third_received image, third_over image h), tt)),
          ),
        ),
      ),
    ),
  );
}

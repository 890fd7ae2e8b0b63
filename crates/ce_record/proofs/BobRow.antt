-- The worked row in which a node is used again: the run of its second user, with one round with
-- work and one without, is its next command. What the process says is a premise, so that no memory
-- is computed.
use Rattle.std.proofs.Common.{◌≡◌, true, false, List, [], ◌∷◌, take, drop, Some, refl, lit<, lit≤}
use Rattle.rv_model.specs.Image.{ImageParts}
use Rattle.ce_model.specs.declared.entry.Entry.{Entry}
use Rattle.ce_model.specs.declared.entry.LookResult.TheVariants as look_result
use Rattle.ce_model.specs.Limits.{greatest_dim, greatest_users, greatest_images}
use Rattle.ce_model.specs.Subcubes.{extract, relative_number}
use Rattle.ce_model.specs.Hearing.{node_after_hearing}
use Rattle.ce_model.specs.Cube.{state}
use Rattle.ce_model.specs.Views.{view}
use Rattle.ce_model.specs.Machine.{MachineParts, IsMachine, IsLawful, IsLawfulEntry, HeldCube, after, cube_held_by, new_cube}
use Rattle.ce_model.proofs.Walked.{each_of_front}
use Rattle.ce_host.specs.declared.command.Command.TheVariants.{Run}
use Rattle.ce_host.specs.declared.answer.Answer.TheVariants.{Quiet}
use Rattle.ce_script.specs.Rounds.{serial}
use Rattle.ce_script.specs.Legal.{machine_of}
use Rattle.ce_script.proofs.Rows.{subcube, turn_is_round, turns_over}
use Rattle.ce_script.proofs.RowUsedAgain.{the_script, the_record}
use Rattle.ce_script.proofs.UsedAgainDone.{HasSaidRow, start_round, idle_round, bob_trace}
use Rattle.ce_script.proofs.UsedAgainLegal.{is_lawful}
use Rattle.ce_record.specs.CubeRounds.{IsRoundOf, IsRunOf}
use Rattle.ce_record.specs.HeldCubes.{AreTurnsOverIn}
use Rattle.ce_record.specs.Run.{IsNextCommand}
use Rattle.ce_record.proofs.Running.{run}

abbrev machine : ImageParts → MachineParts
machine image = machine_of (the_script image)

is_machine : (image : ImageParts) → IsMachine (machine image)
unfolding greatest_dim greatest_users greatest_images
is_machine image = record { dim = lit≤ tt; some_user = lit< tt; users = lit≤ tt; images = lit≤ tt }

-- the history before bob's run
abbrev before : List Entry
before = take 8 the_record.history

lawful_before : (image : ImageParts) → HasSaidRow image → IsLawful (machine image) before
lawful_before image h = each_of_front (IsLawfulEntry (machine image)) [] before (drop 8 the_record.history) (is_lawful image h)

-- bob's cube
abbrev bob_holds : HeldCube
bob_holds = new_cube 1 (record { user = 1; dim = 0; sub = subcube 0 0 })

holds : cube_held_by (after before) 1 ≡ Some bob_holds
unfolding after
holds = refl

starts : IsRoundOf serial 1 bob_holds.grant true start_round
unfolding relative_number extract greatest_dim
starts = record { calls = ((refl, refl), tt); is_round = turn_is_round start_round (refl, tt, (refl, tt)); works = refl }

rests : IsRoundOf serial 1 bob_holds.grant false idle_round
unfolding relative_number extract greatest_dim
rests = record { calls = ((refl, refl), tt); is_round = turn_is_round idle_round (refl, tt, (refl, tt)); works = refl }

is_run : IsRunOf serial 1 bob_holds.grant 10 look_result.Quiet (drop 8 the_record.history)
is_run = record { rounds = start_round ∷ []; last = idle_round; with_work = (starts, tt); without_work = rests; entries = refl }

turns : (image : ImageParts) → HasSaidRow image → AreTurnsOverIn (machine image) the_record.history bob_holds
unfolding view state node_after_hearing relative_number extract greatest_dim
turns image h = turns_over 1 image bob_trace (rw h.still refl)

pub bob_runs : (image : ImageParts) → HasSaidRow image → IsNextCommand serial (machine image) before 1 (Run 10) Quiet (drop 8 the_record.history)
bob_runs image h =
    run serial (machine image) before 1 bob_holds holds (is_machine image) (lawful_before image h) refl 10 look_result.Quiet Quiet (drop 8 the_record.history) is_run refl
    (turns image h)

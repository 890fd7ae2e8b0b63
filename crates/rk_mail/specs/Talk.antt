-- What nodes say and hear in the program, as the model has it.
use Rattle.std.specs.Prelude.{◌≡◌, ◌⊎◌, Bool, true, false, IsTrue, if◌then◌else◌, List, [], Some}
use Rattle.ce_model.specs.declared.calls.TheConstants.{DONE, USED_ID, UNUSED_ID, KILLED_BEFORE}
use Rattle.ce_model.specs.declared.entry.What.{What}
use Rattle.ce_model.specs.declared.entry.What.TheVariants as whats
use Rattle.ce_model.specs.declared.entry.KillResult.{KillResult}
use Rattle.ce_model.specs.declared.entry.KillResult.TheVariants as kill_result
use Rattle.ce_model.specs.declared.entry.TakeResult.{TakeResult}
use Rattle.ce_model.specs.declared.entry.TakeResult.TheVariants as take_result
use Rattle.ce_model.specs.Parcels.{Item}
use Rattle.ce_model.specs.Node.{Call, take_call, send_call, spawn_call, kill_call, note_call}
use Rattle.ce_model.specs.Hearing as model
use Rattle.ce_model.specs.Cube.{parcel_numbered}
use Rattle.rk_mail.specs.declared.parcel.Parcel.{Parcel}
use Rattle.rk_mail.specs.declared.talk.Say.{Say}
use Rattle.rk_mail.specs.declared.talk.Say.TheVariants as say
use Rattle.rk_mail.specs.declared.talk.Hearing.{Hearing}
use Rattle.rk_mail.specs.declared.talk.Hearing.TheVariants.{Start, Mail, Kill, Poll, Idle, Spent, Posted, Spawned, Used, Killed, Unused, Already, Noted}
use Rattle.rk_mail.specs.Items.{parcel_of}
use Rattle.rk_mail.specs.Targets.{bytes_of, targets_of}

-- the call that a node makes by what it says
abbrev pub call_of_say : Say → Call
call_of_say (say.Take asking dead poller) = take_call asking dead poller
call_of_say (say.Send pid batch) = send_call pid (targets_of batch) (bytes_of batch)
call_of_say (say.Spawn pid image to) = spawn_call pid image to
call_of_say (say.Kill pid to) = kill_call pid to
call_of_say (say.Note pid word) = note_call pid word

-- what a node hears
abbrev pub hearing_model : Hearing → model.Hearing
hearing_model (Start pid image) = model.start_of pid image
hearing_model (Mail parcel) = model.mail_of (parcel_of parcel)
hearing_model (Kill pid) = model.kill_of pid
hearing_model (Poll pid) = model.poll_of pid
hearing_model Idle = model.nothing
hearing_model Spent = model.nothing
hearing_model (Posted batch) = model.answer_of DONE
hearing_model Spawned = model.answer_of DONE
hearing_model Used = model.answer_of USED_ID
hearing_model Killed = model.answer_of DONE
hearing_model Unused = model.answer_of UNUSED_ID
hearing_model Already = model.answer_of KILLED_BEFORE
hearing_model Noted = model.nothing

-- ---- which answers a call can have

-- an answer to a Take
abbrev pub is_take_hearing : Hearing → Bool
is_take_hearing (Start pid image) = true
is_take_hearing (Mail parcel) = true
is_take_hearing (Kill pid) = true
is_take_hearing (Poll pid) = true
is_take_hearing Idle = true
is_take_hearing Spent = true
is_take_hearing other = false

-- the answer is of the kind of the call; a message's batch comes back empty
abbrev pub IsAnswerTo : Call → Hearing → Type 0
IsAnswerTo (take_call asking dead poller) hearing = IsTrue (is_take_hearing hearing)
IsAnswerTo (send_call pid to bytes) hearing = hearing ≡ Posted []
IsAnswerTo (spawn_call pid image to) hearing = (hearing ≡ Spawned) ⊎ (hearing ≡ Used)
IsAnswerTo (kill_call pid to) hearing =
    (hearing ≡ Killed) ⊎ ((hearing ≡ Unused) ⊎ (hearing ≡ Already))
IsAnswerTo (note_call pid word) hearing = hearing ≡ Noted
IsAnswerTo other hearing = ⊥

-- ---- the answer that an entry has

-- a node that is given this hears so; a parcel is the one of its number among the items that waited
abbrev pub IsHearingOfTake : List Item → TakeResult → Hearing → Type 0
IsHearingOfTake items (take_result.Start pid image) hearing = hearing ≡ Start pid image
IsHearingOfTake items (take_result.Mail pid number) hearing = (parcel : Parcel)
    × (hearing ≡ Mail parcel) × (parcel_numbered number items ≡ Some (parcel_of parcel))
IsHearingOfTake items (take_result.Kill pid) hearing = hearing ≡ Kill pid
IsHearingOfTake items (take_result.Poll pid) hearing = hearing ≡ Poll pid
IsHearingOfTake items take_result.Idle hearing = hearing ≡ Idle
IsHearingOfTake items take_result.Spent hearing = hearing ≡ Spent

-- what a process hears of its spawn: whether the id was never used before
abbrev pub spawn_hearing : Bool → Hearing
spawn_hearing fresh = if fresh then Spawned else Used

-- what a process hears of its kill
abbrev pub kill_hearing : KillResult → Hearing
kill_hearing kill_result.Killed = Killed
kill_hearing kill_result.Unused = Unused
kill_hearing kill_result.Already = Already

-- who made this entry, with these items waiting for it, hears so
abbrev pub IsHearingOfEntry : List Item → What → Hearing → Type 0
IsHearingOfEntry items (whats.Take asking dead poller given) hearing =
    IsHearingOfTake items given hearing
IsHearingOfEntry items (whats.Send pid first to bytes) hearing = hearing ≡ Posted []
IsHearingOfEntry items (whats.Spawn pid image to fresh) hearing = hearing ≡ spawn_hearing fresh
IsHearingOfEntry items (whats.Kill pid to found) hearing = hearing ≡ kill_hearing found
IsHearingOfEntry items (whats.Note pid word) hearing = hearing ≡ Noted
IsHearingOfEntry items other hearing = ⊥

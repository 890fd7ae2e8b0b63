-- A script's run, one command after another, each by its user.
use Rattle.std.specs.Prelude.{◌≡◌, ℕ, List, map, flat_map}
use Rattle.std.specs.List.{AllByRecursion, enumerate_from}
use Rattle.ce_model.specs.declared.entry.Entry.{Entry}
use Rattle.ce_model.specs.Machine.{MachineParts}
use Rattle.ce_host.specs.declared.command.Command.{Command}
use Rattle.ce_host.specs.declared.answer.Answer.{Answer}
use Rattle.ce_script.specs.declared.record.Record.{Record}
use Rattle.ce_script.specs.declared.script.Script.{Script}
use Rattle.ce_script.specs.Rounds.{RoundKind}
use Rattle.ce_script.specs.Moments.{moments, later_moments}
use Rattle.ce_script.specs.Commands.{IsCommand}
use Rattle.ce_script.specs.Doings.{Doing, command_with_answer, user_command_of, IsRefusedIfGetcube}
use Rattle.ce_script.specs.Serial.{doings_of}
use Rattle.ce_record.specs.HeldCubes.{history_holding}
use Rattle.ce_record.specs.Users.{HasDoneSoFar}

-- What all users did so far, in the order in which it was done: the entries of each command stand
-- together and make up this history, and each user's part is what it did so far.
pub record IsRunSoFar (kind : RoundKind) (machine : MachineParts) (history : List Entry)
    (all : List (ℕ × Doing)) : Type 0 where
  pub together : flat_map (λ user_doing. user_doing.1.moments) all ≡ moments history
  pub users : (user : ℕ) → HasDoneSoFar kind machine user history (doings_of user all)

-- ---- one command more

-- a command with its answer that makes these entries behind a history
abbrev pub next_doing : List Entry → Command → Answer → List Entry → Doing
next_doing history command answer new_entries =
    record { command = command; answer = answer; moments = later_moments history new_entries }

-- Behind a history a command of a user has this answer and makes these entries, as it must by what
-- the user holds.
pub record IsNextCommand (kind : RoundKind) (machine : MachineParts) (history : List Entry)
    (user : ℕ) (command : Command) (answer : Answer) (new_entries : List Entry) : Type 0 where
  pub own : AllByRecursion (λ entry. entry.user ≡ user) new_entries
  pub does : IsCommand kind machine user (history_holding history user) command answer
      (later_moments history new_entries)
  pub refused : IsRefusedIfGetcube machine (history_holding history user)
      (next_doing history command answer new_entries)

-- ---- the whole script

-- these are the commands of each user with their replies, by the user's number
abbrev pub AreReplies : List (ℕ × Doing) → List (List (Command × Answer)) → Type 0
AreReplies all reply_lists =
    AllByRecursion
    (λ numbered_replies.
    map command_with_answer (doings_of numbered_replies.0 all) ≡ numbered_replies.1)
    (enumerate_from 0 reply_lists)

-- The record has the users of the script, each with what it did and was answered of all this, which
-- is the script's commands.
pub record IsRecordOfRun (script : Script) (all : List (ℕ × Doing))
    (run_record : Record) : Type 0 where
  pub commands : map user_command_of all ≡ script.commands
  pub users : map (λ user. user.name) run_record.users ≡ script.users
  pub replies : AreReplies all (map (λ user. user.done) run_record.users)

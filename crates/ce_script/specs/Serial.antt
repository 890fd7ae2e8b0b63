-- The records of a script that was run serially.
use Rattle.std.specs.Prelude.{◌≡◌, ℕ, ◌==◌, List, map, filter, flat_map}
use Rattle.ce_script.specs.declared.record.Record.{Record}
use Rattle.ce_script.specs.declared.script.Script.{Script}
use Rattle.ce_script.specs.Rounds.{serial}
use Rattle.ce_script.specs.Moments.{moments}
use Rattle.ce_script.specs.Doings.{Doing, user_command_of, AreDoings}
use Rattle.ce_script.specs.Legal.{EachUser, machine_of}

-- what one user did, of what all did
abbrev pub doings_of : ℕ → List (ℕ × Doing) → List Doing
doings_of user all =
    map (λ user_doing. user_doing.1) (filter (λ user_doing. user_doing.0 == user) all)

-- the entries of each command stand together in the history, the commands of all users go in the
-- script's order, and every round is a serial one
pub record IsSerial (script : Script) (run_record : Record) : Type 0 where
  pub doings : List (ℕ × Doing)
  pub commands : map user_command_of doings ≡ script.commands
  pub together : flat_map (λ user_doing. user_doing.1.moments) doings ≡ moments run_record.history
  pub each : EachUser
      (λ number user.
      AreDoings serial (machine_of script) run_record.history number user.done
      (doings_of number doings))
      run_record

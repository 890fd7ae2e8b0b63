-- A script while its commands are carried out.
use Rattle.std.specs.Prelude.{◌≡◌, ℕ, ◌<◌, List, [], ◌∷◌, ◌++◌, Option, None, IsSomeAnd, length, map, slice_index_or}
use Rattle.ce_model.specs.Machine.{IsLawful}
use Rattle.ce_machine.specs.Meanings.{MachineFacts}
use Rattle.ce_host.specs.declared.command.Command.{Command}
use Rattle.ce_script.specs.declared.record.UserRecord.{UserRecord}
use Rattle.ce_script.specs.declared.script.Script.{Script}
use Rattle.ce_script.specs.Rounds.{serial}
use Rattle.ce_script.specs.Doings.{Doing}
use Rattle.ce_script.specs.Legal.{machine_of}
use Rattle.ce_record.specs.Run.{IsRunSoFar, AreReplies}
use Rattle.ce_cube.specs.Crews.{IsHostAtHome}
use Rattle.ce_run.specs.declared.user_state.UserState.{UserState}
use Rattle.ce_run.specs.declared.user_state.UserState.TheVariants.{HomeHost}
use Rattle.ce_run.specs.UserStates.{IsUserStateAt}

-- All users did all this on the machine of a script: its history is lawful and made up of it, each
-- user has its state behind it, and the record of each user has what that user did.
pub record IsRunBehind (script : Script) (machine : MachineFacts)
    (user_states : List (Option UserState)) (users : List UserRecord)
    (all : List (ℕ × Doing)) : Type 0 where
  pub parts : machine.parts ≡ machine_of script
  pub lawful : IsLawful machine.parts machine.history
  pub so_far : IsRunSoFar serial machine.parts machine.history all
  pub places : length user_states ≡ length script.users
  pub state_is : (user : ℕ) → user < length script.users
      → IsSomeAnd (slice_index_or user_states user None)
      (IsUserStateAt machine.parts machine.history user)
  pub names : map (λ user. user.name) users ≡ script.users
  pub replies : AreReplies all (map (λ user. user.done) users)

-- one command more was carried out by this user
pub record HasGoneFurther (old_machine new_machine : MachineFacts)
    (user_states user_states' : List (Option UserState)) (users users' : List UserRecord) (user : ℕ)
    (command : Command) : Type 0 where
  pub doing : Doing
  pub command_is : doing.command ≡ command
  pub is : (script : Script) (all : List (ℕ × Doing))
      → IsRunBehind script old_machine user_states users all
      → IsRunBehind script new_machine user_states' users' (all ++ (user, doing) ∷ [])

-- a user holds no cube, and its host is at home
abbrev pub IsFreeState : ℕ → UserState → Type 0
IsFreeState user (HomeHost host) = IsHostAtHome user host
IsFreeState user other = ⊥

-- these are the states of so many users that hold no cube
abbrev pub AreFreeStates : ℕ → List (Option UserState) → Type 0
AreFreeStates count user_states =
    (length user_states ≡ count)
    × ((user : ℕ) → user < count
    → IsSomeAnd (slice_index_or user_states user None) (IsFreeState user))

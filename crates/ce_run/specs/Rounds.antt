-- What commands do that run a cube's nodes.
use Rattle.std.specs.Prelude.{◌≡◌, ℕ, true, false, List, [], ◌∷◌, ◌++◌, Some, None}
use Rattle.std.specs.List.{AllByRecursion}
use Rattle.ce_model.specs.declared.topology.TheConstants.{HOST}
use Rattle.ce_model.specs.declared.topology.Place.{Place}
use Rattle.ce_model.specs.declared.entry.Entry.{Entry}
use Rattle.ce_model.specs.declared.entry.What.TheVariants.{Arm, Look}
use Rattle.ce_model.specs.declared.entry.LookResult.{LookResult}
use Rattle.ce_model.specs.Parcels.{Parcel}
use Rattle.ce_model.specs.Node.{look_call}
use Rattle.ce_model.specs.Cube.{parcel_numbered}
use Rattle.ce_model.specs.Machine.{HasHeldCube}
use Rattle.ce_model.specs.Literals.{host_entry}
use Rattle.ce_machine.specs.Meanings.{MachineFacts}
use Rattle.ce_host.specs.declared.command.Command.{Command}
use Rattle.ce_host.specs.declared.answer.Answer.{Answer}
use Rattle.ce_cube.specs.Boxes.{IsCubeCallEntry}
use Rattle.ce_cube.specs.Crews.{HasCrewGoneOn, CrewFacts}
use Rattle.ce_daemon.specs.Peeks.{cube_grant}
use Rattle.ce_script.specs.Rounds.{RoundKind, joined_lists}
use Rattle.ce_script.specs.Commands.{host_take}
use Rattle.ce_record.specs.CubeRounds.{IsRoundOf}
use Rattle.ce_run.specs.UserStates.{HasCrew, HasDone, cube_crew}

-- a crew's host allowed so many dispatches
abbrev pub HasAllowed : RoundKind → MachineFacts → MachineFacts → CrewFacts → CrewFacts → ℕ → Type 0
HasAllowed kind old_machine new_machine crew crew' count =
    HasCrewGoneOn kind old_machine new_machine crew crew'
    (host_entry crew.grant.user (Arm count) ∷ [])

-- a crew's host looked, and found this
pub record HasLooked (kind : RoundKind) (old_machine new_machine : MachineFacts)
    (crew crew' : CrewFacts) (found : LookResult) : Type 0 where
  pub goes_on : HasCrewGoneOn kind old_machine new_machine crew crew'
      (host_entry crew.grant.user (Look found) ∷ [])
  pub made : IsCubeCallEntry old_machine.parts old_machine.history
      (cube_grant crew.grant) HOST look_call (host_entry crew.grant.user (Look found))

-- a crew's host took no message, since none waited
abbrev pub HasTakenNone : RoundKind → MachineFacts → MachineFacts → CrewFacts → CrewFacts → Type 0
HasTakenNone kind old_machine new_machine crew crew' =
    HasCrewGoneOn kind old_machine new_machine crew crew' (host_take crew.grant.user None ∷ [])

-- a crew's host took the first message that waited
pub record HasTaken (kind : RoundKind) (old_machine new_machine : MachineFacts)
    (crew crew' : CrewFacts) (from : Place) (bytes : List ℕ) : Type 0 where
  pub number : ℕ
  pub parcel : Parcel
  pub goes_on : HasCrewGoneOn kind old_machine new_machine crew crew'
      (host_take crew.grant.user (Some number) ∷ [])
  pub waited : HasHeldCube old_machine.history crew.grant.user
      (λ cube. parcel_numbered number cube.mail ≡ Some parcel)
  pub from_is : parcel.from ≡ from
  pub bytes_are : parcel.block.bytes ≡ bytes

-- a crew made rounds with work, and then one without
pub record HasRunRounds (kind : RoundKind) (old_machine new_machine : MachineFacts)
    (crew crew' : CrewFacts) : Type 0 where
  pub rounds : List (List Entry)
  pub last : List Entry
  pub goes_on : HasCrewGoneOn kind old_machine new_machine crew crew' (joined_lists rounds ++ last)
  pub with_work : AllByRecursion
      (IsRoundOf kind crew.grant.user (cube_grant crew.grant) true) rounds
  pub without_work : IsRoundOf kind crew.grant.user (cube_grant crew.grant) false last

-- Behind each allowance of dispatches the command is carried out that asks for so many, with this
-- answer.
abbrev pub HasEndedCommand : RoundKind → (ℕ → Command) → MachineFacts → MachineFacts → CrewFacts
    → CrewFacts → Answer → Type 0
HasEndedCommand kind command armed_machine new_machine crew crew' answer =
    (old_machine : MachineFacts) (first_crew : CrewFacts) (count : ℕ)
    → HasCrew old_machine first_crew
    → HasAllowed kind old_machine armed_machine first_crew crew count
    → HasDone kind old_machine new_machine first_crew.grant.user (command count) answer
    (cube_crew crew')

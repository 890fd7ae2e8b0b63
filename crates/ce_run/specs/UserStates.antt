-- What a user has between commands, and what a command of a user does.
use Rattle.std.specs.Prelude.{◌≡◌, ◌⊎◌, ℕ, ◌<◌, IsTrue, List, ◌++◌, Some, None}
use Rattle.rv_model.specs.Image.{ImageParts}
use Rattle.ce_model.specs.declared.entry.Entry.{Entry}
use Rattle.ce_model.specs.declared.topology.BlockId.{BlockId}
use Rattle.ce_model.specs.Node.{Call}
use Rattle.ce_model.specs.Machine.{MachineParts, IsLawful, cube_request, after, cube_held_by}
use Rattle.ce_machine.specs.Meanings.{MachineFacts}
use Rattle.ce_cube.specs.Beside.{IsMix}
use Rattle.ce_cube.specs.Crews.{IsLawfulMachine, IsCrewInStep, IsHostAtHome, CrewFacts, serial_facts}
use Rattle.ce_host.specs.declared.host.Host.{Host}
use Rattle.ce_host.specs.declared.command.Command.{Command}
use Rattle.ce_host.specs.declared.answer.Answer.{Answer}
use Rattle.ce_script.specs.Rounds.{RoundKind}
use Rattle.ce_record.specs.Requests.{wants_cube, command_request}
use Rattle.ce_record.specs.Run.{IsNextCommand}
use Rattle.ce_run.specs.declared.user_state.UserState.{UserState}
use Rattle.ce_run.specs.declared.user_state.UserState.TheVariants.{HomeHost, CubeCrew}

-- what a user has between commands, as the laws see it: a host without a cube, or the crew of its
-- cube
pub data UserFacts : Type 0 where
  home_host : Host → UserFacts
  cube_crew : CrewFacts → UserFacts

-- so is seen what a user has on one thread
abbrev pub user_facts : UserState → UserFacts
user_facts (HomeHost host) = home_host host
user_facts (CubeCrew crew) = cube_crew (serial_facts crew)

-- behind a history a user has this: it holds no cube and its host is at home, or its cube's crew is
-- in step
abbrev pub IsUserAt : MachineParts → List Entry → ℕ → UserFacts → Type 0
IsUserAt parts history user (home_host host) =
    (cube_held_by (after history) user ≡ None) × IsHostAtHome user host
IsUserAt parts history user (cube_crew crew) =
    (crew.grant.user ≡ user) × IsCrewInStep parts history crew

-- so is a user's state on one thread
abbrev pub IsUserStateAt : MachineParts → List Entry → ℕ → UserState → Type 0
IsUserStateAt parts history user user_state = IsUserAt parts history user (user_facts user_state)

-- a machine that is lawful so far has this user
pub record HasUser (machine : MachineFacts) (user : ℕ) : Type 0 where
  pub sound : IsLawfulMachine machine
  pub within : user < machine.parts.users

-- a machine that is lawful so far has the crew's user, and the crew is in step with it
pub record HasCrew (machine : MachineFacts) (crew : CrewFacts) : Type 0 where
  pub user : HasUser machine crew.grant.user
  pub in_step : IsCrewInStep machine.parts machine.history crew

-- such a user holds no cube, its host is at home, and the images are the machine's
pub record HasReadyUser (machine : MachineFacts) (images : List ImageParts) (user : ℕ)
    (host : Host) : Type 0 where
  pub user_is : HasUser machine user
  pub free : cube_held_by (after machine.history) user ≡ None
  pub host_is : IsHostAtHome user host
  pub images_are : images ≡ machine.parts.images

-- such a crew is there, and the images are the machine's
pub record HasReadyCrew (machine : MachineFacts) (images : List ImageParts)
    (crew : CrewFacts) : Type 0 where
  pub crew_is : HasCrew machine crew
  pub images_are : images ≡ machine.parts.images

-- A command of a user was carried out: of the stretch by which the history went on it made these
-- entries, as it must by what the user held, and has this answer; and the user has this behind it.
-- On one thread they are the whole stretch, and on threads too where the command wants no cube.
pub record HasDone (kind : RoundKind) (old_machine new_machine : MachineFacts) (user : ℕ)
    (command : Command) (answer : Answer) (facts : UserFacts) : Type 0 where
  pub all_entries : List Entry
  pub new_entries : List Entry
  pub parts : new_machine.parts ≡ old_machine.parts
  pub history : new_machine.history ≡ old_machine.history ++ all_entries
  pub mix : IsMix kind user all_entries new_entries
  pub whole : (all_entries ≡ new_entries) ⊎ IsTrue (wants_cube command)
  pub lawful : IsLawful old_machine.parts new_machine.history
  pub next : IsNextCommand kind old_machine.parts old_machine.history user command answer
      new_entries
  pub state_is : IsUserAt old_machine.parts new_machine.history user facts

-- each command that asks for this call was carried out, and its user's crew is this
abbrev pub HasToldHost : RoundKind → MachineFacts → MachineFacts → ℕ → Call → Answer → CrewFacts
    → Type 0
HasToldHost kind old_machine new_machine user call answer crew =
    (command : Command) (id : BlockId) → command_request id command ≡ Some (cube_request call)
    → HasDone kind old_machine new_machine user command answer (cube_crew crew)

-- What a user did: its commands, what they were answered, and their entries in the history.
use Rattle.std.specs.Prelude.{◌≡◌, ℕ, ◌↔◌, List, [], Option, None, is_some, IsTrue, IsSomeAnd, map, flat_map, slice_get}
use Rattle.ce_model.specs.declared.entry.Entry.{Entry}
use Rattle.ce_model.specs.Lists.{EachAfter}
use Rattle.ce_model.specs.Subcubes.{first_free_subcube}
use Rattle.ce_model.specs.Machine.{MachineParts, after, is_free}
use Rattle.ce_host.specs.declared.command.Command.{Command}
use Rattle.ce_host.specs.declared.command.Command.TheVariants.{Getcube}
use Rattle.ce_host.specs.declared.answer.Answer.{Answer}
use Rattle.ce_host.specs.declared.answer.Answer.TheVariants as answers
use Rattle.ce_script.specs.Rounds.{RoundKind}
use Rattle.ce_script.specs.Moments.{Moment, user_moments, moment_entries, Holding, holding}
use Rattle.ce_script.specs.Commands.{IsCommand}

-- a command of a user: what it was answered, and the moments of its entries
pub record Doing : Type 0 where
  pub command : Command
  pub answer : Answer
  pub moments : List Moment

-- a command with its reply
abbrev pub command_with_answer : Doing → Command × Answer
command_with_answer doing = (doing.command, doing.answer)

-- a user's command, without what it did
abbrev pub user_command_of : ℕ × Doing → ℕ × Command
user_command_of user_doing = (user_doing.0, user_doing.1.command)

-- the cube that a user holds once it has done this
abbrev pub holding_behind : List Doing → Option Holding
holding_behind doings = holding (flat_map (λ doing. moment_entries doing.moments) doings)

-- a command has the entries and the reply that it must have behind those before it
abbrev pub IsRightDoing : RoundKind → MachineParts → ℕ → List Doing → Doing → Type 0
IsRightDoing kind machine user earlier_doings doing =
    IsCommand kind machine user
    (holding_behind earlier_doings) doing.command doing.answer doing.moments

-- this is what a user did: its commands with their replies, whose entries are all of the user's,
-- one command behind the other
pub record AreDoings (kind : RoundKind) (machine : MachineParts) (history : List Entry) (user : ℕ)
    (answered_commands : List (Command × Answer)) (doings : List Doing) : Type 0 where
  pub replies : map command_with_answer doings ≡ answered_commands
  pub entries : flat_map (λ doing. doing.moments) doings ≡ user_moments user history
  pub each : EachAfter (IsRightDoing kind machine user) [] doings

-- ---- refusals

-- a getcube is answered `held` exactly where its user holds a cube, and `none` exactly where it
-- holds none and at the entry no subcube of this dimension is free
pub record IsRefusedExactly (machine : MachineParts) (user_holding : Option Holding) (dim : ℕ)
    (doing : Doing) : Type 0 where
  pub held : (doing.answer ≡ answers.Held) ↔ IsTrue (is_some user_holding)
  pub none : (doing.answer ≡ answers.None)
      ↔ ((user_holding ≡ None)
      × IsSomeAnd (slice_get doing.moments 0)
      (λ moment. first_free_subcube (is_free (after moment.before)) machine.dim dim ≡ None))

-- a command of who holds this is no getcube, or is refused exactly where it must be
abbrev pub IsRefusedIfGetcube : MachineParts → Option Holding → Doing → Type 0
IsRefusedIfGetcube machine user_holding doing = elim doing.command [
  | Getcube dim ↦ IsRefusedExactly machine user_holding dim doing
  | other ↦ Unit {0}
]

-- each getcube of a user is refused exactly where it must be
abbrev pub AreRefusedExactly : MachineParts → List Doing → Type 0
AreRefusedExactly machine doings =
    EachAfter (λ earlier_doings doing.
    IsRefusedIfGetcube machine (holding_behind earlier_doings) doing) [] doings

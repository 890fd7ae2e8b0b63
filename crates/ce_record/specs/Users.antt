-- What one user did, in a history in which others act too.
use Rattle.std.specs.Prelude.{ℕ, ◌==◌, List, map, filter}
use Rattle.ce_model.specs.declared.entry.Entry.{Entry}
use Rattle.ce_model.specs.Machine.{MachineParts}
use Rattle.ce_host.specs.declared.command.Command.{Command}
use Rattle.ce_host.specs.declared.answer.Answer.{Answer}
use Rattle.ce_script.specs.Rounds.{RoundKind}
use Rattle.ce_script.specs.Moments.{Moment, later_moments}
use Rattle.ce_script.specs.Doings.{Doing, command_with_answer, AreDoings, AreRefusedExactly}

-- All that a user did so far in this history: each command did, was answered and was refused as it
-- must be behind those before it.
pub record HasDoneSoFar (kind : RoundKind) (machine : MachineParts) (user : ℕ)
    (history : List Entry) (doings : List Doing) : Type 0 where
  pub does : AreDoings kind machine history user (map command_with_answer doings) doings
  pub refused : AreRefusedExactly machine doings

-- ---- one user's entries among others'

-- the user's moments among those of these entries, by which the history goes on
abbrev pub own_moments : ℕ → List Entry → List Entry → List Moment
own_moments user history further_entries =
    filter (λ moment. moment.entry.user == user) (later_moments history further_entries)

-- a command with its answer, whose entries are the user's of these
abbrev pub own_doing : ℕ → List Entry → Command → Answer → List Entry → Doing
own_doing user history command answer further_entries =
    record {
      command = command;
      answer = answer;
      moments = own_moments user history further_entries;
    }

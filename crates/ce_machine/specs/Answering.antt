-- What a call of the machine does, as its caller sees it.
use Rattle.std.specs.Prelude.{◌≡◌, ℕ, ◌<◌, [], ◌∷◌, ◌++◌, length}
use Rattle.ce_model.specs.declared.entry.Entry.{Entry}
use Rattle.ce_model.specs.Machine.{IsLawful}
use Rattle.ce_lock.specs.declared.limits.TheConstants.{HISTORY_LIMIT}
use Rattle.ce_lock.specs.declared.who.Who.{Who}
use Rattle.ce_machine.specs.declared.call.Call.{Call}
use Rattle.ce_machine.specs.declared.call.Reply.{Reply}
use Rattle.ce_machine.specs.Meanings.{MachineFacts, IsAnsweredBy}

-- the machine has answered this call: it has one entry more, the one of the call, and the reply is
-- the one that the call gets; its history is lawful, and not too long
pub record HasAnswered {N : Type 0} (home : N → ℕ) (clean : N → Type 0)
    (old_machine new_machine : MachineFacts) (who : Who) (call : Call N)
    (reply : Reply N) : Type 0 where
  pub parts : new_machine.parts ≡ old_machine.parts
  pub entry : Entry
  pub grows : new_machine.history ≡ old_machine.history ++ entry ∷ []
  pub stands : IsAnsweredBy home clean old_machine.parts old_machine.history entry who call reply
  pub lawful : IsLawful new_machine.parts new_machine.history
  pub few : length new_machine.history < HISTORY_LIMIT

-- A peek.
use Rattle.std.proofs.Common.{◌≡◌, ℕ, [], ◌∷◌, ◌++◌, Some, refl, ap, sym, ◌∙◌, subst, inl}
use Rattle.ce_model.specs.declared.topology.TheConstants.{HOST}
use Rattle.ce_model.specs.declared.entry.What.{What}
use Rattle.ce_model.specs.declared.entry.What.TheVariants as whats
use Rattle.ce_model.specs.Machine.{after, peek}
use Rattle.ce_model.specs.Literals.{host_entry}
use Rattle.ce_daemon.specs.declared.grant.PeekResult.{PeekResult}
use Rattle.ce_daemon.specs.Peeks.{peek_result}
use Rattle.rk_node.specs.Boxes.{Box, IsCleanBox, home_of}
use Rattle.ce_machine.specs.Meanings.{MachineFacts}
use Rattle.ce_machine.specs.declared.call.Call.TheVariants as calls
use Rattle.ce_machine.specs.declared.call.Reply.{Reply}
use Rattle.ce_machine.specs.declared.call.Reply.TheVariants as replies
use Rattle.ce_machine.specs.Requests.{IsFittingCall}
use Rattle.ce_machine.specs.Replies.{IsReplyTo}
use Rattle.ce_host.specs.declared.command.Command.TheVariants.{Peek}
use Rattle.ce_host.specs.declared.answer.Answer.TheVariants as answers
use Rattle.ce_cube.proofs.Fronts.{mix-own}
use Rattle.ce_script.specs.Rounds.{RoundKind}
use Rattle.ce_record.proofs.Requests.{asked}
use Rattle.ce_run.specs.UserStates.{HasUser, HasDone, IsUserAt, UserFacts}
use Rattle.ce_run.specs.Asking.{HasAsked}
use Rattle.ce_run.proofs.StatesBehind.{state-beside-peek}

pub same-what : (a b : What) → Some a ≡ Some b → a ≡ b
same-what a b e = cc

pub peek-fits : (before : MachineFacts) (user : ℕ) → HasUser before user
    → IsFittingCall home_of IsCleanBox before.parts before.history (record { family = user; actor = HOST }) calls.Peek
peek-fits before user has = record { machine = has.sound.within; fits = (has.within, refl); boxes = tt }

-- what a reply says was found
abbrev found-or : PeekResult → Reply Box → PeekResult
found-or none (replies.Peeked found) = found
found-or none other = none

module _ (before behind : MachineFacts) (user : ℕ) (has : HasUser before user) (reply : Reply Box) (asks : HasAsked before behind user calls.Peek reply) where
  what-is : whats.Peek ≡ asks.what
  what-is = same-what whats.Peek asks.what asks.answer

  pub peek-reply : reply ≡ replies.Peeked (peek_result before.parts (after before.history))
  peek-reply = subst (λ what. IsReplyTo home_of IsCleanBox before.parts (after before.history) user HOST what reply) (sym what-is) asks.reply_is

  pub peek-done : (kind : RoundKind) (found : PeekResult) → reply ≡ replies.Peeked found → (facts : UserFacts) → IsUserAt before.parts before.history user facts
      → HasDone kind before behind user Peek (answers.Peeked found) facts
  peek-done kind found is facts state_is =
      let history = asks.history ∙ ap (λ what. before.history ++ host_entry user what ∷ []) (sym what-is) in
      let same : peek_result before.parts (after before.history) ≡ found = ap (found-or found) (sym peek-reply ∙ is) in
      record {
        all_entries = host_entry user whats.Peek ∷ [];
        new_entries = host_entry user whats.Peek ∷ [];
        parts = asks.parts;
        history = history;
        mix = mix-own kind user (host_entry user whats.Peek ∷ []) (refl, tt);
        whole = inl refl;
        lawful = asks.lawful;
        next = asked kind before.parts before.history user Peek (record { home = 0; index = 0 }) peek whats.Peek (answers.Peeked found) has.sound.within has.sound.lawful refl
            (record { fits = (has.within, refl); answer = refl }) (ap (λ found. Some (answers.Peeked found)) same);
        state_is = subst (λ h. IsUserAt before.parts h user facts) (sym history) (state-beside-peek before behind user has.sound has.within facts state_is);
      }

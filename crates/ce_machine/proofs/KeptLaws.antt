-- An entry of a call that fits makes a lawful history longer.
use Rattle.std.proofs.Common.{◌≡◌, ℕ, List, [], ◌∷◌, ◌++◌, Some, sym, subst}
use Rattle.ce_model.specs.declared.entry.Entry.{Entry}
use Rattle.ce_model.specs.Machine.{MachineParts, after, what_of_request, IsFitting, IsLawfulEntry, IsLawful}
use Rattle.ce_model.proofs.Walked.{each-more}
use Rattle.ce_lock.specs.declared.who.Who.{Who}
use Rattle.ce_machine.specs.declared.call.Call.{Call}
use Rattle.ce_machine.specs.Requests.{request_of, IsFittingCall}
use Rattle.ce_machine.specs.Meanings.{whose}

module _ {N : Type 0} (home : N → ℕ) (clean : N → Type 0) (parts : MachineParts) where
  pub more_is_lawful : (before : List Entry) (entry : Entry) (who : Who) (call : Call N) → IsLawful parts before → IsFittingCall home clean parts before who call
      → what_of_request parts (after before) who.family who.actor (request_of call) ≡ Some entry.what → whose entry ≡ who → IsLawful parts (before ++ entry ∷ [])
  more_is_lawful before entry who call lawful fits answer is =
      each-more (IsLawfulEntry parts) before entry lawful (record {
        request = request_of call;
        fits = subst (λ (who : Who). IsFitting parts before who.family who.actor (request_of call)) (sym is) fits.fits;
        answer = subst (λ (who : Who). what_of_request parts (after before) who.family who.actor (request_of call) ≡ Some entry.what) (sym is) answer;
      })

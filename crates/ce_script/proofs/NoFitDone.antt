-- The worked row in which no cube of dimension 1 is free: who gives a cube back, is refused, and
-- looks which cubes are held.
use Rattle.std.proofs.Common.{ℕ, List, [], ◌∷◌, take, Some, None, refl}
use Rattle.ce_model.specs.Limits.{greatest_dim}
use Rattle.ce_model.specs.Subcubes.{extract, deposit, subcubes, first_free_subcube}
use Rattle.ce_model.specs.Machine.{after}
use Rattle.ce_host.specs.declared.command.Command.{Command}
use Rattle.ce_host.specs.declared.command.Command.TheVariants.{Getcube, Peek, Freecube}
use Rattle.ce_host.specs.declared.answer.Answer.{Answer}
use Rattle.ce_host.specs.declared.answer.Answer.TheVariants as answers
use Rattle.ce_script.specs.Rounds.{RoundKind}
use Rattle.ce_script.specs.Moments.{moments, holding}
use Rattle.ce_script.specs.Doings.{Doing, AreDoings, AreRefusedExactly}
use Rattle.ce_script.specs.Legal.{machine_of}
use Rattle.ce_script.proofs.Rows.{doing_in, subcube}
use Rattle.ce_script.proofs.RowNoFit.{grant, the_script, the_record}

abbrev doing : Command → Answer → ℕ → ℕ → Doing
doing = doing_in the_record.history

-- user a's entries aren't next to one another in the history
abbrev a_doings : List Doing
a_doings = doing (Getcube 0) (answers.Granted (subcube 0 0)) 0 1 ∷ doing Freecube answers.Freed 3 2 ∷ []

abbrev d_doings : List Doing
d_doings =
    doing (Getcube 1) answers.None 5 1
    ∷ doing Peek (answers.Peeked (record { free = 2; grants = grant 1 ∷ grant 2 ∷ [] })) 6 1 ∷ []

pub a_did : (kind : RoundKind) → AreDoings kind (machine_of the_script) the_record.history 0 ((Getcube 0, answers.Granted (subcube 0 0)) ∷ (Freecube, answers.Freed) ∷ []) a_doings
unfolding moments holding
a_did kind = record { replies = refl; entries = refl; each = ((Some (subcube 0 0), refl, refl), ((refl, refl), tt)) }

pub d_did : (kind : RoundKind) → AreDoings kind (machine_of the_script) the_record.history 3 ((Getcube 1, answers.None) ∷ (Peek, answers.Peeked (record { free = 2; grants = grant 1 ∷ grant 2 ∷ [] })) ∷ []) d_doings
unfolding moments holding after extract deposit greatest_dim
d_did kind = record {
  replies = refl;
  entries = refl;
  each = ((None, refl, refl), ((take 6 the_record.history, refl, refl), tt));
}

-- d is refused as `none`, since none of the subcubes of dimension 1 is free
pub d_refused : AreRefusedExactly (machine_of the_script) d_doings
unfolding moments holding after first_free_subcube subcubes extract deposit greatest_dim
d_refused = (record { held = (λ h. absurd (cc), λ h. absurd (cc)); none = (λ h. (refl, refl), λ h. refl) }, (tt, tt))

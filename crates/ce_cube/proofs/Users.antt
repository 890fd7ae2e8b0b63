-- A cube that a lawful history grants is one of the machine's users.
use Rattle.std.proofs.Common.{◌≡◌, ℕ, ◌-◌, ◌<◌, ◌==◌, List, [], ◌∷◌, ◌++◌, Option, Some, None, refl, ap, sym, subst, inl, inr}
use Rattle.std.specs.List.{AllByRecursion}
use Rattle.std.proofs.lemmas.Bool.{cases_Bool}
use Rattle.ce_model.specs.declared.entry.Entry.{Entry}
use Rattle.ce_model.specs.declared.entry.What.{What}
use Rattle.ce_model.specs.declared.entry.What.TheVariants.{Getcube}
use Rattle.ce_model.specs.Lists.{EachAfter}
use Rattle.ce_model.specs.Renaming.{CubeGrant}
use Rattle.ce_model.specs.Views.{request_grant, entry_grant, grant_or_later, history_behind_grant}
use Rattle.ce_model.specs.Machine.{MachineParts, IsLawfulEntry, IsLawful}
use Rattle.ce_solo.proofs.Projection.Views.{FoundGrant}

users-within : (parts : MachineParts) (before history : List Entry) → EachAfter (IsLawfulEntry parts) before history
    → AllByRecursion (λ (entry : Entry). entry.user < parts.users) history
users-within parts before [] each = tt
users-within parts before (entry ∷ history) each = (each.0.fits.0, users-within parts (before ++ entry ∷ []) history each.1)

granted_to : (user : ℕ) (what : What) (grant : CubeGrant) → request_grant user what ≡ Some grant → grant.user ≡ user
granted_to user (Getcube dim None) grant e = absurd (cc)
granted_to user (Getcube dim (Some sub)) grant e = ap (λ found. elim found [ None ↦ user | Some g ↦ g.user ]) (sym e)
granted_to user other grant e = absurd (cc)

module _ (users : ℕ) where
  same_found : (a b : FoundGrant) → Some a ≡ Some b → a ≡ b
  same_found a b e = cc

  within_by : (given : Option CubeGrant) (behind : List Entry) (number : ℕ) (found : FoundGrant) (later : ℕ → Option FoundGrant)
      → ((grant : CubeGrant) → given ≡ Some grant → grant.user < users) → ((n : ℕ) → later n ≡ Some found → found.0.user < users)
      → grant_or_later given behind number later ≡ Some found → found.0.user < users
  within_by None behind number found later here there e = there number e
  within_by (Some grant) behind number found later here there e =
      elim (cases_Bool (number == 0)) [
        | inl first ↦
            let is : Some (grant, behind) ≡ Some found = rw first at e in
            subst (λ (f : FoundGrant). f.0.user < users) (same_found (grant, behind) found is) (here grant refl)
        | inr past ↦ let is : later (number - 1) ≡ Some found = rw past at e in there (number - 1) is
      ]

  pub found-within : (h : List Entry) (number : ℕ) (found : FoundGrant) → AllByRecursion (λ (entry : Entry). entry.user < users) h
      → history_behind_grant h number ≡ Some found → found.0.user < users
  found-within [] number found all e = absurd (cc)
  found-within (entry ∷ h) number found all e =
      within_by (entry_grant entry) h number found (history_behind_grant h)
      (λ grant is. subst (λ u. u < users) (sym (granted_to entry.user entry.what grant is)) all.0) (λ n is. found-within h n found all.1 is) e

pub user-within : (parts : MachineParts) (history : List Entry) (number : ℕ) (grant : CubeGrant) (behind : List Entry) → IsLawful parts history
    → history_behind_grant history number ≡ Some (grant, behind) → grant.user < parts.users
user-within parts history number grant behind lawful found =
    found-within parts.users history number (grant, behind) (users-within parts [] history lawful) found

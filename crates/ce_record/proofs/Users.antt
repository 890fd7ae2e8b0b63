-- What one user did, as a history goes on.
use Rattle.std.proofs.Common.{◌≡◌, ℕ, List, [], ◌∷◌, ◌++◌, Option, IsTrue, refl, ap, sym, ◌∙◌, subst, inl, inr}
use Rattle.ce_model.specs.declared.entry.Entry.{Entry}
use Rattle.ce_model.specs.Machine.{MachineParts, IsMachine, IsLawful}
use Rattle.ce_model.proofs.Walked.{each-more}
use Rattle.ce_host.specs.declared.command.Command.{Command}
use Rattle.ce_host.specs.declared.command.Command.TheVariants.{Getcube, Peek}
use Rattle.ce_host.specs.declared.answer.Answer.{Answer}
use Rattle.ce_script.specs.Rounds.{RoundKind}
use Rattle.ce_script.specs.Moments.{Moment, Holding, later_moments, user_moments, moment_entries}
use Rattle.ce_script.specs.Commands.{IsWithCube, IsCommand}
use Rattle.ce_script.specs.Doings.{Doing, holding_behind, IsRightDoing, IsRefusedIfGetcube}
use Rattle.ce_record.specs.Requests.{wants_cube}
use Rattle.ce_record.specs.HeldCubes.{history_holding}
use Rattle.ce_record.specs.Users.{HasDoneSoFar, own_moments}
use Rattle.ce_record.specs.Laws.{UserBegins, UserWaits, UserGoesOn}
use Rattle.ce_record.proofs.Moments.{map-none, flat-last, entries-behind, entries-amid, entries-own, own-append, own-all, own-stays}
use Rattle.ce_record.proofs.HeldCubes.{held_after_is_held}

pub user_begins : UserBegins
user_begins kind machine user history none = record {
  does = record {
    replies = refl;
    entries = sym (map-none (λ (moment : Moment). moment.entry) (user_moments user history) (entries-own user history ∙ none));
    each = tt;
  };
  refused = tt;
}

pub user_waits : UserWaits
user_waits kind machine user history others doings foreign so_far = record {
  does = record { replies = refl; entries = so_far.does.entries ∙ sym (own-stays user history others foreign); each = so_far.does.each };
  refused = so_far.refused;
}

-- ---- one command more

-- what a command for who holds a cube does is told by its entries alone
by-entries : (kind : RoundKind) (machine : MachineParts) (user : ℕ) (held : Option Holding) (command : Command) (answer : Answer) (moments moments' : List Moment)
    → IsTrue (wants_cube command) → moment_entries moments ≡ moment_entries moments' → IsCommand kind machine user held command answer moments
    → IsCommand kind machine user held command answer moments'
by-entries kind machine user held (Getcube dim) answer moments moments' wants same is = absurd (cc)
by-entries kind machine user held Peek answer moments moments' wants same is = absurd (cc)
by-entries kind machine user held other answer moments moments' wants same is = subst (IsWithCube kind machine held other answer) same is

-- and it is no getcube
no-getcube : (machine : MachineParts) (held : Option Holding) (command : Command) (answer : Answer) (moments : List Moment) → IsTrue (wants_cube command)
    → IsRefusedIfGetcube machine held (record { command = command; answer = answer; moments = moments })
no-getcube machine held (Getcube dim) answer moments wants = absurd (cc)
no-getcube machine held other answer moments wants = tt

module _ (kind : RoundKind) (machine : MachineParts) (user : ℕ) (history : List Entry) (doings : List Doing) (of : IsMachine machine)
    (lawful : IsLawful machine history) (so_far : HasDoneSoFar kind machine user history doings) where
  held : holding_behind doings ≡ history_holding history user
  held = held_after_is_held machine history user doings of lawful so_far.does.entries

  pub goes-by : (between : List Entry) (command : Command) (answer : Answer) (moments : List Moment) → own_moments user history between ≡ moments
      → IsCommand kind machine user (history_holding history user) command answer moments
      → IsRefusedIfGetcube machine (history_holding history user) (record { command = command; answer = answer; moments = moments })
      → HasDoneSoFar kind machine user (history ++ between) (doings ++ record { command = command; answer = answer; moments = moments } ∷ [])
  goes-by between command answer moments own does refused =
      let doing : Doing = record { command = command; answer = answer; moments = moments } in
      record {
        does = record {
          replies = refl;
          entries = flat-last (λ (doing : Doing). doing.moments) doings doing ∙ ap (λ before. before ++ moments) so_far.does.entries
              ∙ sym (own-append user history between ∙ ap (λ more. user_moments user history ++ more) own);
          each = each-more (IsRightDoing kind machine user) doings doing so_far.does.each
              (subst (λ held. IsCommand kind machine user held command answer moments) (sym held) does);
        };
        refused = each-more (λ earlier_doings doing. IsRefusedIfGetcube machine (holding_behind earlier_doings) doing) doings doing so_far.refused
            (subst (λ held. IsRefusedIfGetcube machine held doing) (sym held) refused);
      }

pub user_goes_on : UserGoesOn
user_goes_on kind machine user history between made doings command answer of lawful so_far next own (inl same) =
    let all : own_moments user history between ≡ later_moments history made = ap (own_moments user history) same ∙ own-all user history made next.own in
    goes-by kind machine user history doings of lawful so_far between command answer (own_moments user history between) refl
    (subst (IsCommand kind machine user (history_holding history user) command answer) (sym all) next.does)
    (subst (λ moments. IsRefusedIfGetcube machine (history_holding history user) (record { command = command; answer = answer; moments = moments })) (sym all) next.refused)
user_goes_on kind machine user history between made doings command answer of lawful so_far next own (inr wants) =
    goes-by kind machine user history doings of lawful so_far between command answer (own_moments user history between) refl
    (by-entries kind machine user (history_holding history user) command answer (later_moments history made) (own_moments user history between) wants
    (entries-behind history made ∙ sym (entries-amid user history between ∙ own)) next.does)
    (no-getcube machine (history_holding history user) command answer (own_moments user history between) wants)

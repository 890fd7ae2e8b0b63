-- The worked row in which a process notes 42, run with threads: its rounds are threaded ones.
use Rattle.std.proofs.Common.{◌≡◌, ◌==◌, ◌<◌, ◌^◌, ◌++◌, ◌∷◌, ◌∙◌, ℕ, zero, suc, Option, Some, None, option_map, List, [], filter, IsFalse, true, refl, ap, arith, lit<}
use Rattle.std.specs.List.{last_or}
use Rattle.rv_model.specs.Image.{ImageParts}
use Rattle.ce_model.specs.declared.topology.TheConstants.{HOST}
use Rattle.ce_model.specs.declared.entry.Entry.{Entry}
use Rattle.ce_model.specs.declared.entry.What.TheVariants.{Arm, Look, Note, Take}
use Rattle.ce_model.specs.declared.entry.LookResult.TheVariants as look_result
use Rattle.ce_model.specs.declared.entry.TakeResult.TheVariants.{Start, Idle}
use Rattle.ce_host.specs.declared.answer.Answer.TheVariants.{Quiet}
use Rattle.ce_script.specs.Rounds.{threaded, joined_lists, is_take, IsTurn, is_dispatch, IsShare, IsThreadedRound}
use Rattle.ce_script.specs.Commands.{IsRun}
use Rattle.ce_script.proofs.Rows.{two_rounds, entry_of}

abbrev start_take : Entry
start_take = entry_of 0 0 (Take 0 0 None (Start 0 0))

abbrev note_entry : Entry
note_entry = entry_of 0 0 (Note 0 42)

abbrev idle_take : Entry
idle_take = entry_of 0 0 (Take 0 1 None Idle)

-- the entries of a node among others
abbrev of_node : ℕ → List Entry → List Entry
of_node r round = filter (λ entry. entry.actor == r) round

-- ---- the row

abbrev work_entries : List Entry
work_entries = start_take ∷ note_entry ∷ idle_take ∷ []

abbrev idle_entries : List Entry
idle_entries = idle_take ∷ []

work_share : IsShare 0 work_entries
work_share = record {
  turns = (start_take ∷ note_entry ∷ []) ∷ [];
  last = idle_take;
  each = ((refl, (refl, tt), (refl, (refl, tt))), tt);
  with_work = (refl, tt);
  last_take = (refl, tt, (refl, tt));
  without_work = refl;
  all = refl;
}

-- a share without work
share_of_one : (r : ℕ) (last : Entry) → IsTurn r (last ∷ []) → IsFalse (is_dispatch last) → IsShare r (last ∷ [])
share_of_one r last idle_take without_work =
    record { turns = []; last = last; each = tt; with_work = tt; last_take = idle_take; without_work = without_work; all = refl }

work_shares : (r : ℕ) → r < 2 ^ 0 → IsShare r (of_node r work_entries)
work_shares zero below = work_share
work_shares (suc r) below = absurd (omega (arith, below))

idle_shares : (r : ℕ) → r < 2 ^ 0 → IsShare r (of_node r idle_entries)
idle_shares zero below = share_of_one 0 idle_take (refl, tt, (refl, tt)) refl
idle_shares (suc r) below = absurd (omega (arith, below))

work_is_round : IsThreadedRound 0 work_entries
work_is_round = record { nodes = (lit< tt, (lit< tt, (lit< tt, tt))); shares = work_shares }

idle_is_round : IsThreadedRound 0 idle_entries
idle_is_round = record { nodes = (lit< tt, tt); shares = idle_shares }

-- the round with work ends idle, and the last round is idle
pub hello_ran : (image : ImageParts) → IsRun threaded (record { user = 0; dim = 0; images = image ∷ [] }) 10 Quiet
    (entry_of 0 HOST (Arm 10) ∷ (work_entries ++ (idle_entries ++ entry_of 0 HOST (Look look_result.Quiet) ∷ [])))
hello_ran image = two_rounds threaded 0 image 10 work_entries idle_entries (work_is_round, refl) (idle_is_round, refl)

-- ---- two nodes at once

-- node 1 has nothing to do and says so in the middle of node 0's turn
abbrev pub mixed_entries : List Entry
mixed_entries = start_take ∷ entry_of 0 1 (Take 0 0 None Idle) ∷ note_entry ∷ idle_take ∷ []

mixed_shares : (r : ℕ) → r < 2 ^ 1 → IsShare r (of_node r mixed_entries)
mixed_shares zero below = work_share
mixed_shares (suc zero) below = share_of_one 1 (entry_of 0 1 (Take 0 0 None Idle)) (refl, tt, (refl, tt)) refl
mixed_shares (suc (suc r)) below = absurd (omega (arith, below))

pub mixed_is_round : IsThreadedRound 1 mixed_entries
mixed_is_round = record { nodes = (lit< tt, (lit< tt, (lit< tt, (lit< tt, tt)))); shares = mixed_shares }

-- ---- what is no threaded round

last_behind : (before : Option Entry) (entries : List Entry) (last : Entry) → last_or before (entries ++ last ∷ []) ≡ Some last
last_behind before [] last = refl
last_behind before (entry ∷ entries) last = last_behind (Some entry) entries last

-- a serial round with work isn't a threaded one, since its node doesn't end with a Take
pub serial_is_not_threaded : IsThreadedRound 0 (start_take ∷ note_entry ∷ []) → ⊥
serial_is_not_threaded round =
    let share = round.shares 0 (lit< tt) in
    let same : Some note_entry ≡ Some share.last = ap (last_or None) share.all ∙ last_behind None (joined_lists share.turns) share.last in
    let take : option_map is_take (Some note_entry) ≡ Some true = ap (option_map is_take) same ∙ ap (λ test. Some test) share.last_take.0 in
    absurd (cc)

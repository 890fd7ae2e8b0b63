-- A window whose block is gone stays so.
use Rattle.std.proofs.Common.{◌≡◌, ℕ, zero, suc, ◌-◌, ◌%◌, ◌≤◌, true, false, nat_lt, ◌==◌, List, [], ◌∷◌, ◌++◌, set, map, Option, Some, None, Result, Ok, Err, arith, refl, ap, ◌∙◌, sym, inl, inr, subst}
use Rattle.std.specs.List.{slice_get}
use Rattle.std.proofs.lemmas.Bool.{cases_Bool}
use Rattle.std.proofs.lemmas.Bool.Decides.{nat_tests}
use Rattle.rv_model.specs.declared.stop.Stop.{Stop}
use Rattle.rv_model.specs.declared.stop.Stop.TheVariants.{Gone, Misaligned, Unmapped, PastEnd}
use Rattle.rv_model.specs.declared.limits.TheConstants.{PRIVATE_START}
use Rattle.rv_model.specs.Private.{is_private}
use Rattle.rv_model.specs.Exec.{Outcome, next_state, call_state, stop_state, step_outcome}
use Rattle.ce_model.specs.Limits.{window_base, window_base_lem}
use Rattle.ce_model.specs.Blocks.{Block}
use Rattle.ce_model.specs.Space.{Space, AccessSite, private_site, block_site, access_site, site_in, window_of, offset_of, load_result, store_result, number_in, with_number_in, result_map, process_access}
use Rattle.ce_model.specs.Process.{Process, TurnEnd, end_after, moved_process, turn_end}
use Rattle.rk_process.specs.Windows.{is_within_block}
use Rattle.rk_process.specs.Lives.{LifeEvent, run, answer, mapping, unmapping, end, process_of_end, process_after_event, process_after_events, IsWindowGone}
use Rattle.rk_process.proofs.Keeping.{IsLeftWith, step_outcome-leaves}
use Rattle.rk_process.proofs.Reaching.{reached_by, reached_spent}

same_Ok : {X : Type 0} {x y : X} → ◌≡◌ {A = Result X Stop} (Ok x) (Ok y) → x ≡ y
same_Ok e = cc

-- lists of windows
get-append : (k : ℕ) (ws vs : List (Option Block)) → slice_get ws k ≡ Some None → slice_get (ws ++ vs) k ≡ Some None
get-append k [] vs h = absurd (cc)
get-append zero (w ∷ ws) vs h = h
get-append (suc k) (w ∷ ws) vs h = get-append k ws vs h

get-set : (k j : ℕ) (ws : List (Option Block)) (w : Option Block) → slice_get ws k ≡ Some None → (j ≡ k → w ≡ None) → slice_get (set ws j w) k ≡ Some None
get-set k j [] w h same = absurd (cc)
get-set zero zero (v ∷ ws) w h same = ap Some (same refl)
get-set zero (suc j) (v ∷ ws) w h same = h
get-set (suc k) zero (v ∷ ws) w h same = h
get-set (suc k) (suc j) (v ∷ ws) w h same = get-set k j ws w h (λ e. same (omega arith))

abbrev none : Option Block → Option Block
none window = None

get-emptied : (k : ℕ) (ws : List (Option Block)) → slice_get ws k ≡ Some None → slice_get (map none ws) k ≡ Some None
get-emptied k [] h = absurd (cc)
get-emptied zero (w ∷ ws) h = refl
get-emptied (suc k) (w ∷ ws) h = get-emptied k ws h

-- an access is made in the block that its window holds
module _ (space : Space) (a size j o : ℕ) (block : Block) where
  found : (window : Option (Option Block)) → site_in window a size ≡ Ok (block_site j block o) → (j ≡ window_of a) × (window ≡ Some (Some block))
  found None e = absurd (cc)
  found (Some None) e = absurd (cc)
  found (Some (Some other)) e = elim (cases_Bool (is_within_block other a size)) [
    | inl t ↦ (let one : ◌≡◌ {A = Result AccessSite Stop} (Ok (block_site (window_of a) other (offset_of a))) (Ok (block_site j block o)) = (rw t refl) ∙ e in (cc, cc))
    | inr f ↦ absurd (let bad : ◌≡◌ {A = Result AccessSite Stop} (Err (PastEnd a)) (Ok (block_site j block o)) = (rw f refl) ∙ e in cc)
  ]

  spot-block : access_site space a size ≡ Ok (block_site j block o) → slice_get space.windows j ≡ Some (Some block)
  unfolding access_site
  spot-block e = elim (cases_Bool (a % size == 0)) [
    | inr f ↦ absurd (let bad : ◌≡◌ {A = Result AccessSite Stop} (Err (Misaligned a)) (Ok (block_site j block o)) = (rw f refl) ∙ e in cc)
    | inl t ↦ elim (cases_Bool (is_private a)) [
      | inl p ↦ absurd (let bad : ◌≡◌ {A = Result AccessSite Stop} (Ok (private_site (a - PRIVATE_START))) (Ok (block_site j block o)) = (rw (t, p) refl) ∙ e in cc)
      | inr q ↦ elim (cases_Bool (nat_lt a window_base)) [
        | inl b ↦ absurd (let bad : ◌≡◌ {A = Result AccessSite Stop} (Err (Unmapped a)) (Ok (block_site j block o)) = (rw (t, q, b) refl) ∙ e in cc)
        | inr c ↦ (let there : site_in (slice_get space.windows (window_of a)) a size ≡ Ok (block_site j block o) = (rw (t, q, c) refl) ∙ e in
            let is = found (slice_get space.windows (window_of a)) there in ap (slice_get space.windows) is.0 ∙ is.1)
      ]
    ]
  ]

-- so a store leaves a window that is gone as it is
stored-by : (space left : Space) (a size n k : ℕ) (r : Result AccessSite Stop) → access_site space a size ≡ r → result_map (with_number_in space size n) r ≡ Ok left → IsWindowGone k space → IsWindowGone k left
stored-by space left a size n k (Err cause) e h gone = absurd (cc)
stored-by space left a size n k (Ok (private_site o)) e h gone =
    let same : space.windows ≡ left.windows = (let is = same_Ok h in ap (λ s. s.windows) is) in subst (λ (ws : List (Option Block)). slice_get ws k ≡ Some None) same gone
stored-by space left a size n k (Ok (block_site j block o)) e h gone =
    let held = spot-block space a size j o block e in
    let is = ap (λ s. s.windows) (same_Ok h) in
    subst (λ (ws : List (Option Block)). slice_get ws k ≡ Some None) is
    (get-set k j space.windows _ gone (λ same. absurd (let bad : ◌≡◌ {A = Option (Option Block)} (Some (Some block)) (Some None) = sym held ∙ ap (slice_get space.windows) same ∙ gone in cc)))

module _ (k : ℕ) where
  step_outcome-gone : (x : List ℕ) (pc : ℕ) (space : Space) → IsWindowGone k space → IsLeftWith (IsWindowGone k) (step_outcome process_access x pc space)
  step_outcome-gone = step_outcome-leaves process_access (IsWindowGone k) (λ m left a size n e gone. stored-by m left a size n k (access_site m a size) refl e gone)

  led-gone : (onward : Process → TurnEnd) (left : ℕ) (p : Process) (outcome : Outcome Space)
      → ((q : Process) → IsWindowGone k q.space → IsWindowGone k (process_of_end (onward q)).space) → IsWindowGone k p.space → IsLeftWith (IsWindowGone k) outcome → IsWindowGone k (process_of_end (end_after onward left p outcome)).space
  led-gone onward left p (next_state x pc space) goes gone h = goes (moved_process p x pc space) h
  led-gone onward left p (call_state x pc space) goes gone h = h
  led-gone onward left p (stop_state cause) goes gone h = gone

  reached-gone : (left : ℕ) (p : Process) → IsWindowGone k p.space → IsWindowGone k (process_of_end (turn_end left p)).space
  reached-gone zero p gone = subst (λ (r : TurnEnd). IsWindowGone k (process_of_end r).space) (sym (reached_spent zero p refl)) gone
  reached-gone (suc left) p gone =
      subst (λ (r : TurnEnd). IsWindowGone k (process_of_end r).space) (sym (reached_by (suc left) left p (step_outcome process_access p.registers p.pc p.space) refl refl))
      (led-gone (turn_end left) left p (step_outcome process_access p.registers p.pc p.space) (reached-gone left) gone (step_outcome-gone p.registers p.pc p.space gone))

  moment-gone : (p : Process) (moment : LifeEvent) → IsWindowGone k p.space → IsWindowGone k (process_after_event p moment).space
  moment-gone p (run left) gone = reached-gone left p gone
  moment-gone p (answer value) gone = gone
  moment-gone p (mapping block) gone = get-append k p.space.windows _ gone
  moment-gone p (unmapping j) gone = get-set k j p.space.windows None gone (λ same. refl)
  moment-gone p (end cause) gone = get-emptied k p.space.windows gone

  moments-gone : (p : Process) (moments : List LifeEvent) → IsWindowGone k p.space → IsWindowGone k (process_after_events p moments).space
  moments-gone p [] gone = gone
  moments-gone p (moment ∷ moments) gone = moments-gone (process_after_event p moment) moments (moment-gone p moment gone)

-- and every access at a multiple of its size there is refused as gone
spot-gone : (space : Space) (a size : ℕ) → IsWindowGone (window_of a) space → window_base ≤ a → a % size ≡ 0 → access_site space a size ≡ Err (Gone a)
unfolding access_site
spot-gone space a size gone above aligned =
    let base = window_base_lem in
    let t : (a % size == 0) ≡ true = grind (arith, nat_tests) in
    let q : is_private a ≡ false = grind (arith, nat_tests) in
    let c : nat_lt a window_base ≡ false = grind (arith, nat_tests) in
    rw (t, q, c, gone) refl

pub stays-gone : (p : Process) (moments : List LifeEvent) (a size n : ℕ) → IsWindowGone (window_of a) p.space → window_base ≤ a → a % size ≡ 0
    → (load_result (process_after_events p moments).space a size ≡ Err (Gone a)) × (store_result (process_after_events p moments).space a size n ≡ Err (Gone a))
stays-gone p moments a size n gone above aligned =
    let space = (process_after_events p moments).space in
    let refused = spot-gone space a size (moments-gone (window_of a) p moments gone) above aligned in
    (ap (result_map (number_in space size)) refused, ap (result_map (with_number_in space size n)) refused)

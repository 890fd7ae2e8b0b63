-- A Take without work leaves its node quiet, or the dispatches are used up; so does a serial round
-- of them.
use Rattle.std.proofs.Common.{◌≡◌, ◌⊎◌, ℕ, zero, suc, ◌+◌, ◌^◌, ◌<◌, ◌≤◌, Bool, true, false, not, ◌&&◌, ◌||◌, ◌==◌, List, [], ◌∷◌, ◌++◌, find, Option, Some, None, refl, ap, sym, ◌∙◌, subst, inl, inr, arith, append-nil, append_assoc}
use Rattle.std.specs.List.{AllZip, list_any, range_with_len}
use Rattle.std.proofs.lemmas.Bool.{cases_Bool, cases_eq, both_ways, eq-eqb, eqb-true, or_left, or_right, or_parts}
use Rattle.std.proofs.lemmas.List.Folds.{list_any-append}
use Rattle.ce_model.specs.declared.entry.Entry.{Entry}
use Rattle.ce_model.specs.declared.entry.What.{What}
use Rattle.ce_model.specs.declared.entry.What.TheVariants.{Take}
use Rattle.ce_model.specs.declared.entry.TakeResult.{TakeResult}
use Rattle.ce_model.specs.declared.entry.TakeResult.TheVariants.{Idle, Spent}
use Rattle.ce_model.specs.Lists.{EachAfter}
use Rattle.ce_model.specs.Literals.{entry_of}
use Rattle.ce_model.specs.Parcels.{Item, start, mail, kill, is_eligible, take_result_of}
use Rattle.ce_model.specs.Node.{Call, take_call, send_call, spawn_call, kill_call, note_call, arm_call, look_call, mail_call}
use Rattle.ce_model.specs.Saying.{Saying, says}
use Rattle.ce_model.specs.Hearing.{node_after_hearing}
use Rattle.ce_model.specs.Trace.{NodeRecord, standing}
use Rattle.ce_model.specs.Answers.{offer_of, is_used_up, is_quiet_node, is_quiet, answer}
use Rattle.ce_model.specs.Cube.{Cube, CubeState, IsCube, Wish, state_after_trace, node_numbers, IsNext}
use Rattle.ce_model.specs.Sound.{IsSound}
use Rattle.ce_model.proofs.Walked.{each_of_front, each_behind}
use Rattle.ce_model.proofs.Subcubes.{list_all-each}
use Rattle.ce_script.specs.Rounds.{is_take, is_dispatch, has_work, asks_for_work, IsTurn, joined_lists, IsSerialRound}
use Rattle.ce_solo.proofs.Lists.{with_appended, with_appended-is}
use Rattle.ce_solo.proofs.Sending.{not_host}
use Rattle.ce_solo.proofs.Entries.{state_after}
use Rattle.ce_solo.proofs.Words.{HasMadeCall}
use Rattle.ce_solo.proofs.Made.{IsMadeCall, by_host, by_node, made-leaves}
use Rattle.ce_solo.proofs.Stands.{IsSoundTrace, entry_of-next, left-made, stands-made, no_take}
use Rattle.ce_cube.proofs.Seats.{asks_again}
use Rattle.ce_cube.proofs.Counts.{call-takes}

-- a Take without work was answered Idle or Spent
without_work : (P : What → Type 0) → ((asking dead : ℕ) (poller : Option ℕ) → P (Take asking dead poller Idle))
    → ((asking dead : ℕ) (poller : Option ℕ) → P (Take asking dead poller Spent)) → (user actor : ℕ) (what : What)
    → is_take (entry_of user actor what) ≡ true → is_dispatch (entry_of user actor what) ≡ false → P what
without_work P idle spent user actor (Take asking dead poller Idle) take none = idle asking dead poller
without_work P idle spent user actor (Take asking dead poller Spent) take none = spent asking dead poller
without_work P idle spent user actor (Take asking dead poller other) take none = absurd (cc)
without_work P idle spent user actor other take none = absurd (cc)

offered_idle : (found : Option Item) (poller : Option ℕ) (used : Bool) → offer_of found poller used ≡ Idle → found ≡ None
offered_idle (Some item) poller true e = absurd (cc)
offered_idle (Some item) poller false e = absurd (by_item item e)
  where
    by_item : (item : Item) → take_result_of item ≡ Idle → ⊥
    by_item (start pid image) e = cc
    by_item (mail parcel) e = cc
    by_item (kill pid) e = cc
offered_idle None poller used e = refl

offered_spent : (found : Option Item) (poller : Option ℕ) (used : Bool) → offer_of found poller used ≡ Spent → used ≡ true
offered_spent found poller true e = refl
offered_spent (Some item) poller false e = absurd (by_item item e)
  where
    by_item : (item : Item) → take_result_of item ≡ Spent → ⊥
    by_item (start pid image) e = cc
    by_item (mail parcel) e = cc
    by_item (kill pid) e = cc
offered_spent None (Some pid) false e = absurd (cc)
offered_spent None None false e = absurd (cc)

none_found : {X : Type 0} (test : X → Bool) (xs : List X) → find test xs ≡ None → list_any test xs ≡ false
none_found test [] e = refl
none_found test (x ∷ xs) e =
    elim (cases_Bool (test x)) [
      | inl holds ↦ let some : Some x ≡ None = rw holds at e in absurd (cc)
      | inr fails ↦ let later : find test xs ≡ None = rw fails at e in rw fails (none_found test xs later)
    ]

-- ---- an entry that is a Take

-- what its node has said, and what it is given
record IsTaken (cube : Cube) (s : CubeState) (r asking dead : ℕ) (poller : Option ℕ) (given : TakeResult) : Type 0 where
  said : HasMadeCall (s.node r) (says (s.node r)).node (take_call asking dead poller)
  is : offer_of (find (is_eligible asking dead) (s.standing.node_record r).waiting_items) poller (is_used_up s.standing) ≡ given
  call : (says (s.node r)).call ≡ take_call asking dead poller

abbrev IsTakenIn : Cube → CubeState → ℕ → What → Type 0
IsTakenIn cube s r (Take asking dead poller given) = IsTaken cube s r asking dead poller given
IsTakenIn cube s r other = Unit {0}

call-taken : (cube : Cube) (s : CubeState) → IsCube cube → IsSound cube s → (actor : ℕ) (wish : Option Wish) (call : Call) → IsMadeCall cube s actor wish call
    → IsTakenIn cube s actor (answer (node_numbers cube.dim) s.standing actor call)
unfolding answer
call-taken cube s of sound actor wish (take_call asking dead poller) (by_host is e) = absurd (no_take cube s wish (take_call asking dead poller) refl e)
call-taken cube s of sound actor wish (take_call asking dead poller) (by_node below e) =
    record { said = made-leaves cube s actor (take_call asking dead poller) of below sound e; is = refl; call = e }
call-taken cube s of sound actor wish (send_call pid to bytes) made = tt
call-taken cube s of sound actor wish (spawn_call pid image to) made = tt
call-taken cube s of sound actor wish (kill_call pid to) made = tt
call-taken cube s of sound actor wish (note_call pid word) made = tt
call-taken cube s of sound actor wish (arm_call count) made = tt
call-taken cube s of sound actor wish look_call made = tt
call-taken cube s of sound actor wish mail_call made = tt

module _ (cube : Cube) (of : IsCube cube) (o : CubeState) where
  abbrev pub at : List Entry → CubeState
  at t = state_after_trace cube o t

  -- node r is quiet after a trace
  abbrev pub is_quiet_at : ℕ → CubeState → Bool
  is_quiet_at r s = is_quiet_node (s.standing.node_record r)

  -- what a Take without work leaves of its cube
  pub record IsLeftQuiet (r : ℕ) (s s' : CubeState) : Type 0 where
    pub again : asks_for_work (says (s'.node r)).call ≡ true
    pub used : is_used_up s'.standing ≡ is_used_up s.standing
    pub others : (q : ℕ) → (r == q) ≡ false → is_quiet_at q s' ≡ is_quiet_at q s
    pub own : (is_used_up s.standing ≡ true) ⊎ (is_quiet_at r s' ≡ true)

  nothing_more : (items : List Item) (asking dead : ℕ) → list_any (is_eligible asking dead) (with_appended items []) ≡ list_any (is_eligible asking dead) items
  nothing_more items asking dead = ap (list_any (is_eligible asking dead)) (sym (with_appended-is items []) ∙ append-nil items)

  quiet_same : (kept : NodeRecord) → is_quiet_node (record kept { waiting_items = with_appended kept.waiting_items [] }) ≡ is_quiet_node kept
  quiet_same kept = ap (λ b. kept.mark.is_idle && not b) (nothing_more kept.waiting_items kept.mark.asking kept.mark.dead)

  asks_still : (s : CubeState) (r asking dead : ℕ) (poller : Option ℕ) (given : TakeResult) → IsTaken cube s r asking dead poller given
      → asks_for_work (says (says (s.node r)).node).call ≡ true
  asks_still s r asking dead poller given taken =
      ap (λ (saying : Saying). asks_for_work saying.call) (asks_again (says (s.node r)).node (take_call asking dead poller) taken.said.of_node refl)

  idle_leaves : (s : CubeState) (user r asking dead : ℕ) (poller : Option ℕ) → IsTaken cube s r asking dead poller Idle
      → IsLeftQuiet r s (state_after cube s (entry_of user r (Take asking dead poller Idle)))
  unfolding node_after_hearing
  idle_leaves s user r asking dead poller taken =
      let here = eq-eqb r r refl in
      record {
        again = rw here (asks_still s r asking dead poller Idle taken);
        used = refl;
        others = λ q other. rw other (quiet_same (s.standing.node_record q));
        own = inr (rw here (ap not (nothing_more (s.standing.node_record r).waiting_items asking dead
            ∙ none_found (is_eligible asking dead) (s.standing.node_record r).waiting_items (offered_idle _ poller (is_used_up s.standing) taken.is))));
      }

  spent_leaves : (s : CubeState) (user r asking dead : ℕ) (poller : Option ℕ) → IsTaken cube s r asking dead poller Spent
      → IsLeftQuiet r s (state_after cube s (entry_of user r (Take asking dead poller Spent)))
  unfolding node_after_hearing
  spent_leaves s user r asking dead poller taken =
      let here = eq-eqb r r refl in
      record {
        again = rw here (asks_still s r asking dead poller Spent taken);
        used = refl;
        others = λ q other. rw other (quiet_same (s.standing.node_record q));
        own = inl (offered_spent (find (is_eligible asking dead) (s.standing.node_record r).waiting_items) poller (is_used_up s.standing) taken.is);
      }

  take_leaves : (s : CubeState) (user r : ℕ) (what : What) → is_take (entry_of user r what) ≡ true → is_dispatch (entry_of user r what) ≡ false → IsTakenIn cube s r what
      → IsLeftQuiet r s (state_after cube s (entry_of user r what))
  take_leaves s user r what =
      λ take none. without_work (λ what. IsTakenIn cube s r what → IsLeftQuiet r s (state_after cube s (entry_of user r what))) (idle_leaves s user r) (spent_leaves s user r) user r what take none

  pub first_leaves : (t : List Entry) (first : Entry) → IsSoundTrace cube o t → IsNext cube o t first → is_take first ≡ true → is_dispatch first ≡ false
      → IsLeftQuiet first.actor (at t) (at (t ++ first ∷ []))
  first_leaves t first stands next take none =
      let e = entry_of-next cube o t first next in
      let taken : IsTakenIn cube (at t) first.actor first.what =
      subst (λ (entry : Entry). IsTakenIn cube (at t) entry.actor entry.what) (sym e.is) (call-taken cube (at t) of stands.sound e.actor e.wish e.call e.by) in
      subst (IsLeftQuiet first.actor (at t)) (sym (left-made cube o t first stands e)) (take_leaves (at t) first.user first.actor first.what take none taken)

  -- ---- a turn without work is its Take alone

  entry_takes : (s : CubeState) (actor : ℕ) (wish : Option Wish) (call : Call) → IsMadeCall cube s actor wish call → actor < 2 ^ cube.dim
      → asks_for_work (says (s.node actor)).call ≡ true → is_take (entry_of cube.user actor (answer (node_numbers cube.dim) s.standing actor call)) ≡ true
  entry_takes s actor wish call (by_host is e) below asks = absurd (omega (arith, not_host cube actor of below, is))
  entry_takes s actor wish call (by_node low e) below asks =
      call-takes (node_numbers cube.dim) s.standing actor cube.user actor call ∙ ap asks_for_work (sym e) ∙ asks

  no_second : (t : List Entry) (second : Entry) (r : ℕ) → IsSoundTrace cube o t → IsNext cube o t second → second.actor ≡ r → r < 2 ^ cube.dim
      → asks_for_work (says ((at t).node r)).call ≡ true → is_take second ≡ true
  no_second t second r stands next actor below asks =
      let e = entry_of-next cube o t second next in
      let same : e.actor ≡ r = ap (λ (entry : Entry). entry.actor) (sym e.is) ∙ actor in
      ap is_take e.is
      ∙ entry_takes (at t) e.actor e.wish e.call e.by (subst (λ q. q < 2 ^ cube.dim) (sym same) below)
      (subst (λ q. asks_for_work (says ((at t).node q)).call ≡ true) (sym same) asks)

  -- ---- a round without work

  -- the dispatches are used up, or the first nodes are quiet
  abbrev pub IsResting : ℕ → List Entry → Type 0
  IsResting count t = (is_used_up (at t).standing ≡ true) ⊎ ((q : ℕ) → q < count → is_quiet_at q (at t) ≡ true)

  resting_more : (r : ℕ) (t t' : List Entry) → IsLeftQuiet r (at t) (at t') → IsResting r t → IsResting (suc r) t'
  resting_more r t t' leaves (inl used) = inl (leaves.used ∙ used)
  resting_more r t t' leaves (inr quiet) =
      elim leaves.own [
        | inl used ↦ inl (leaves.used ∙ used)
        | inr own ↦ inr (λ q below. elim (cases_Bool (r == q)) [
          | inl same ↦ subst (λ q. is_quiet_at q (at t') ≡ true) (eqb-true r q same) own
          | inr other ↦
              leaves.others q other ∙ quiet q (elim (cases_eq r q) [ inl is ↦ absurd (both_ways _ other (eq-eqb r q is)) | inr differ ↦ omega (arith, below, differ) ])
        ])
      ]

  -- a turn without work, and the state behind it
  record IsRested (r : ℕ) (t turn : List Entry) : Type 0 where
    stands : IsSoundTrace cube o (t ++ turn)
    leaves : IsLeftQuiet r (at t) (at (t ++ turn))

  rested_turn : (t : List Entry) (first : Entry) (others : List Entry) (r : ℕ) → IsSoundTrace cube o t → EachAfter (IsNext cube o) t (first ∷ others) → IsTurn r (first ∷ others)
      → is_dispatch first ≡ false → r < 2 ^ cube.dim → IsRested r t (first ∷ others)
  rested_turn t first [] r stands each turn none below = record {
    stands = stands-made cube o t first of stands (entry_of-next cube o t first each.0);
    leaves = subst (λ r. IsLeftQuiet r (at t) (at (t ++ first ∷ []))) turn.2.0 (first_leaves t first stands each.0 turn.0 none);
  }
  rested_turn t first (second ∷ others) r stands each turn none below =
      let next = stands-made cube o t first of stands (entry_of-next cube o t first each.0) in
      let leaves = first_leaves t first stands each.0 turn.0 none in
      let take_call = no_second (t ++ first ∷ []) second r next each.1.0 turn.2.1.0 below (subst (λ r. asks_for_work (says ((at (t ++ first ∷ [])).node r)).call ≡ true) turn.2.0 leaves.again) in
      absurd (both_ways _ turn.1.0 take_call)

  turn-rested : (t turn : List Entry) (r : ℕ) → IsSoundTrace cube o t → EachAfter (IsNext cube o) t turn → IsTurn r turn → has_work turn ≡ false → r < 2 ^ cube.dim → IsRested r t turn
  turn-rested t [] r stands each turn none below = absurd turn
  turn-rested t (first ∷ others) r stands each turn none below =
      rested_turn t first others r stands each turn (or_parts (is_dispatch first) (list_any is_dispatch others) none).0 below

  round-rested : (count from : ℕ) (turns : List (List Entry)) (t : List Entry) → from + count ≤ 2 ^ cube.dim → IsSoundTrace cube o t → EachAfter (IsNext cube o) t (joined_lists turns)
      → AllZip IsTurn (range_with_len from count) turns → has_work (joined_lists turns) ≡ false → IsResting from t → IsResting (from + count) (t ++ joined_lists turns)
  round-rested zero from [] t within stands each zip none rests =
      let same : from + 0 ≡ from = omega arith in subst (λ n. IsResting n (t ++ [])) (sym same) (subst (IsResting from) (sym (append-nil t)) rests)
  round-rested zero from (turn ∷ turns) t within stands each zip none rests = absurd zip
  round-rested (suc count) from [] t within stands each zip none rests = absurd zip
  round-rested (suc count) from (turn ∷ turns) t within stands each zip none rests =
      let parts = or_parts (has_work turn) (has_work (joined_lists turns)) (sym (list_any-append is_dispatch turn (joined_lists turns)) ∙ none) in
      let rested = turn-rested t turn from stands (each_of_front (IsNext cube o) t turn (joined_lists turns) each) zip.0 parts.0 (omega (arith, within)) in
      let next : suc from ≡ from + 1 = omega arith in
      let end : from + 1 + count ≡ from + suc count = omega arith in
      let behind = round-rested count (from + 1) turns (t ++ turn) (omega (arith, within)) rested.stands (each_behind (IsNext cube o) t turn (joined_lists turns) each) zip.1 parts.1
      (subst (λ n. IsResting n (t ++ turn)) next (resting_more from t (t ++ turn) rested.leaves rests)) in
      subst (λ n. IsResting n (t ++ (turn ++ joined_lists turns))) end (subst (IsResting (from + 1 + count)) (append_assoc t turn (joined_lists turns)) behind)

  pub serial-rests : (before round : List Entry) → IsSoundTrace cube o before → EachAfter (IsNext cube o) before round → IsSerialRound cube.dim round
      → has_work round ≡ false → IsResting (0 + 2 ^ cube.dim) (before ++ round)
  serial-rests before round stands each is none =
      subst (λ round. IsResting (0 + 2 ^ cube.dim) (before ++ round)) (sym is.all)
      (round-rested (2 ^ cube.dim) 0 is.turns before (omega arith) stands (subst (EachAfter (IsNext cube o) before) is.all each) is.each
      (ap has_work (sym is.all) ∙ none) (inr (λ q below. absurd (omega (arith, below)))))

  pub rests-of : (t : List Entry) → IsResting (0 + 2 ^ cube.dim) t → (is_quiet (node_numbers cube.dim) (standing o.standing t) || is_used_up (standing o.standing t)) ≡ true
  unfolding is_quiet
  rests-of t (inl used) = or_right _ _ used
  rests-of t (inr quiet) =
      or_left _ _ (list_all-each (λ r. is_quiet_at r (at t)) 0 (2 ^ cube.dim) (λ k below. quiet (0 + k) (omega (arith, below))))

-- Rounds of a crew, and the commands that run them.
use Rattle.std.proofs.Common.{◌≡◌, ℕ, zero, suc, ◌+◌, ◌-◌, ◌^◌, ◌<◌, ◌≤◌, Bool, true, false, ◌==◌, ◌&&◌, ◌||◌, not, if◌then◌else◌, List, [], ◌∷◌, ◌++◌, None, refl, ap, ap₂, sym, ◌∙◌, subst, arith, append-nil}
use Rattle.std.specs.List.{AllByRecursion, list_any, list_all, range_with_len}
use Rattle.std.proofs.lemmas.Bool.{ne_eqb}
use Rattle.rv_model.specs.Image.{ImageParts}
use Rattle.ce_model.specs.declared.topology.TheConstants.{HOST}
use Rattle.ce_model.specs.declared.entry.Entry.{Entry}
use Rattle.ce_model.specs.declared.entry.What.TheVariants.{HostTake}
use Rattle.ce_model.specs.Parcels.{Item, is_eligible}
use Rattle.ce_model.specs.Trace.{Mark, Standing, standing, waiting_items, mark, allowed_dispatches, made_dispatches}
use Rattle.ce_model.specs.Answers.{is_quiet, is_quiet_node, is_used_up}
use Rattle.ce_model.specs.Cube.{opening, node_numbers}
use Rattle.ce_model.specs.Renaming.{CubeGrant}
use Rattle.ce_model.specs.Views.{view}
use Rattle.ce_model.specs.Machine.{MachineParts, cube_of}
use Rattle.ce_model.proofs.OneMore.{mark-more, waiting-stays, armed-more, dispatched-more}
use Rattle.ce_solo.proofs.Lists.{all-append}
use Rattle.ce_solo.proofs.Projection.Numbers.{IsPlaced, relative_host, few_relative}
use Rattle.ce_daemon.specs.declared.grant.Grant.{Grant}
use Rattle.ce_machine.specs.Meanings.{MachineFacts}
use Rattle.ce_cube.specs.Crews.{IsLawfulMachine, IsCrewInStep, HasCrewGoneOn, HasMadeRound, CrewFacts, HasMadeSerialRound, cube_dispatches_left}
use Rattle.ce_daemon.specs.Peeks.{cube_grant}
use Rattle.ce_cube.specs.Rounds.{dispatches_left}
use Rattle.ce_cube.proofs.Crewing.{still-sound, stands-still, gone-both}
use Rattle.ce_cube.proofs.Held.{placed-of}
use Rattle.ce_cube.proofs.Looks.{IsCubeAtRest}
use Rattle.ce_script.specs.Rounds.{RoundKind, joined_lists}
use Rattle.ce_script.specs.Commands.{host_take}
use Rattle.ce_record.specs.CubeRounds.{IsRoundOf}
use Rattle.ce_record.proofs.Moments.{flat-last}
use Rattle.ce_record.proofs.Turns.{work-inward}
use Rattle.ce_run.specs.Rounds.{HasTakenNone, HasRunRounds}
use Rattle.ce_run.specs.UserStates.{HasCrew, HasReadyCrew}

-- ---- a crew that goes on

pub crew-stays : (kind : RoundKind) (before behind : MachineFacts) (crew crew' : CrewFacts) (made : List Entry) → HasCrewGoneOn kind before behind crew crew' made
    → HasCrew before crew → HasCrew behind crew'
crew-stays kind before behind crew crew' made on has = record {
  user = record {
    sound = still-sound kind before behind crew crew' made has.user.sound on;
    within = subst (λ (g : Grant). g.user < behind.parts.users) (sym on.grant)
        (subst (λ (p : MachineParts). crew.grant.user < p.users) (sym on.parts) has.user.within);
  };
  in_step = on.in_step;
}

pub images-stay : (kind : RoundKind) (before behind : MachineFacts) (crew crew' : CrewFacts) (made : List Entry) (images : List ImageParts)
    → HasCrewGoneOn kind before behind crew crew' made → images ≡ before.parts.images → images ≡ behind.parts.images
images-stay kind before behind crew crew' made images on is = is ∙ ap (λ (p : MachineParts). p.images) (sym on.parts)

pub ready-stays : (kind : RoundKind) (before behind : MachineFacts) (crew crew' : CrewFacts) (made : List Entry) (images : List ImageParts)
    → HasCrewGoneOn kind before behind crew crew' made → HasReadyCrew before images crew → HasReadyCrew behind images crew'
ready-stays kind before behind crew crew' made images on is = record {
  crew_is = crew-stays kind before behind crew crew' made on is.crew_is;
  images_are = images-stay kind before behind crew crew' made images on is.images_are;
}

-- ---- rounds

-- a crew's round, as one of its user's cube
abbrev pub IsOwnRound : RoundKind → CrewFacts → Bool → List Entry → Type 0
IsOwnRound kind crew work round = IsRoundOf kind crew.grant.user (cube_grant crew.grant) work round

pub round-of : (kind : RoundKind) (now behind : MachineFacts) (crew crew' : CrewFacts) (work : Bool) (made : HasMadeRound kind now behind crew crew' work)
    → IsOwnRound kind crew work made.round
round-of kind now behind crew crew' work made = record {
  calls = made.goes_on.calls;
  is_round = made.is_round;
  works = sym (work-inward crew.grant.sub made.round) ∙ made.works;
}

pub left-behind : (now behind : MachineFacts) (crew crew' : CrewFacts) (work : Bool) → HasMadeSerialRound now behind crew crew' work
    → cube_dispatches_left behind crew'.grant + (if work then 1 else 0) ≤ cube_dispatches_left now crew.grant
left-behind now behind crew crew' work made =
    subst (λ (g : Grant). cube_dispatches_left behind g + (if work then 1 else 0) ≤ cube_dispatches_left now crew.grant) (sym made.made_round.goes_on.grant) made.left

pub by-grant : (kind : RoundKind) (crew crew' : CrewFacts) (work : Bool) (round : List Entry) → crew'.grant ≡ crew.grant → IsOwnRound kind crew' work round
    → IsOwnRound kind crew work round
by-grant kind crew crew' work round same is = subst (λ (g : Grant). IsRoundOf kind g.user (cube_grant g) work round) same is

pub all-by-grant : (kind : RoundKind) (crew crew' : CrewFacts) (rounds : List (List Entry)) → crew'.grant ≡ crew.grant → AllByRecursion (IsOwnRound kind crew' true) rounds
    → AllByRecursion (IsOwnRound kind crew true) rounds
all-by-grant kind crew crew' rounds same is = subst (λ (g : Grant). AllByRecursion (IsRoundOf kind g.user (cube_grant g) true) rounds) same is

-- rounds with work were made so far
pub record HasMadeRounds (kind : RoundKind) (before now : MachineFacts) (crew crew' : CrewFacts) : Type 0 where
  pub rounds : List (List Entry)
  pub goes_on : HasCrewGoneOn kind before now crew crew' (joined_lists rounds)
  pub with_work : AllByRecursion (IsOwnRound kind crew true) rounds

pub no-round : (kind : RoundKind) (m : MachineFacts) (crew : CrewFacts) → IsLawfulMachine m → IsCrewInStep m.parts m.history crew → HasMadeRounds kind m m crew crew
no-round kind m crew sound step = record { rounds = []; goes_on = stands-still kind m crew sound step; with_work = tt }

module _ (kind : RoundKind) (before now behind : MachineFacts) (crew crew' crew'' : CrewFacts) (so_far : HasMadeRounds kind before now crew crew') where
  pub one-round-more : HasMadeRound kind now behind crew' crew'' true → HasMadeRounds kind before behind crew crew''
  one-round-more made = record {
    rounds = so_far.rounds ++ made.round ∷ [];
    goes_on = subst (HasCrewGoneOn kind before behind crew crew'') (sym (flat-last (λ list. list) so_far.rounds made.round))
        (gone-both kind before now behind crew crew' crew'' (joined_lists so_far.rounds) made.round so_far.goes_on made.goes_on);
    with_work = all-append (IsOwnRound kind crew true) so_far.rounds (made.round ∷ []) so_far.with_work
        (by-grant kind crew crew' true made.round so_far.goes_on.grant (round-of kind now behind crew' crew'' true made), tt);
  }

  pub rounds-over : HasMadeRound kind now behind crew' crew'' false → HasRunRounds kind before behind crew crew''
  rounds-over made = record {
    rounds = so_far.rounds;
    last = made.round;
    goes_on = gone-both kind before now behind crew crew' crew'' (joined_lists so_far.rounds) made.round so_far.goes_on made.goes_on;
    with_work = so_far.with_work;
    without_work = by-grant kind crew crew' false made.round so_far.goes_on.grant (round-of kind now behind crew' crew'' false made);
  }

-- ---- a cube that rests

-- the crew's cube is quiet, or its dispatches are used up
abbrev pub IsCrewResting : MachineFacts → CrewFacts → Type 0
IsCrewResting m crew = IsCubeAtRest m.parts m.history crew.grant.number (cube_grant crew.grant)

-- ---- a look for a message that finds none leaves it so

module _ (o : Standing) (t : List Entry) (user : ℕ) where
  abbrev no_message : Entry
  no_message = host_take user None

  node-kept : (r : ℕ) → (HOST == r) ≡ false → is_quiet_node ((standing o (t ++ no_message ∷ [])).node_record r) ≡ is_quiet_node ((standing o t).node_record r)
  node-kept r other =
      let marks : mark o r (t ++ no_message ∷ []) ≡ mark o r t = mark-more o r t no_message ∙ rw other refl in
      let waits : waiting_items o r (t ++ no_message ∷ []) ≡ waiting_items o r t = waiting-stays o r t no_message (rw other refl) ∙ append-nil (waiting_items o r t) in
      ap₂ (λ (mark : Mark) (items : List Item). mark.is_idle && not (list_any (is_eligible mark.asking mark.dead) items)) marks waits

  used-kept : is_used_up (standing o (t ++ no_message ∷ [])) ≡ is_used_up (standing o t)
  used-kept = ap₂ (λ (a b : ℕ). a == b) (dispatched-more o t no_message) (armed-more o t no_message)

  left-kept : allowed_dispatches o (t ++ no_message ∷ []) - made_dispatches o (t ++ no_message ∷ []) ≡ allowed_dispatches o t - made_dispatches o t
  left-kept = ap₂ (λ (a b : ℕ). a - b) (armed-more o t no_message) (dispatched-more o t no_message)

  quiet-kept : (dim : ℕ) → 2 ^ dim ≤ 64 → is_quiet (node_numbers dim) (standing o (t ++ no_message ∷ [])) ≡ is_quiet (node_numbers dim) (standing o t)
  unfolding is_quiet
  quiet-kept dim few =
      list_all-same (λ r. is_quiet_node ((standing o (t ++ no_message ∷ [])).node_record r)) (λ r. is_quiet_node ((standing o t).node_record r)) 0 (2 ^ dim)
      (λ k below. node-kept k (ne_eqb HOST k (λ e. omega (arith, e, below, few))))
    where
      list_all-same : (p q : ℕ → Bool) (from count : ℕ) → ((r : ℕ) → r < from + count → p r ≡ q r) → list_all p (range_with_len from count) ≡ list_all q (range_with_len from count)
      list_all-same p q from zero same = refl
      list_all-same p q from (suc count) same =
          ap₂ (λ a b. a && b) (same from (omega arith)) (list_all-same p q (from + 1) count (λ r below. same r (omega (arith, below))))

module _ (kind : RoundKind) (before behind : MachineFacts) (crew crew' : CrewFacts) (sound : IsLawfulMachine before)
    (step : IsCrewInStep before.parts before.history crew) (none : HasTakenNone kind before behind crew crew') where
  abbrev grant : CubeGrant
  grant = cube_grant crew.grant

  abbrev o : Standing
  o = (opening (cube_of before.parts.images grant)).standing

  abbrev t : List Entry
  t = view before.history crew.grant.number

  placed : IsPlaced before.parts.dim grant
  placed = placed-of before.parts before.history crew.grant.number grant sound.within sound.lawful step.held

  trace : view behind.history crew.grant.number ≡ t ++ host_take crew.grant.user None ∷ []
  trace =
      none.trace ∙ ap (λ (entry : Entry). t ++ entry ∷ [])
      (λ i. record { user = crew.grant.user; actor = relative_host before.parts.dim grant placed i; what = HostTake None })

  pub rests-on : IsCrewResting before crew → IsCrewResting behind crew'
  rests-on rests =
      subst (λ (g : Grant). IsCubeAtRest behind.parts behind.history g.number (cube_grant g)) (sym none.grant)
      (subst (λ (p : MachineParts). IsCubeAtRest p behind.history crew.grant.number grant) (sym none.parts)
      (subst (λ t. (is_quiet (node_numbers grant.dim) (standing o t) || is_used_up (standing o t)) ≡ true) (sym trace)
      (ap₂ (λ a b. a || b) (quiet-kept o t crew.grant.user grant.dim (few_relative before.parts.dim grant placed)) (used-kept o t crew.grant.user) ∙ rests)))

  pub left-on : cube_dispatches_left behind crew'.grant ≡ cube_dispatches_left before crew.grant
  left-on =
      subst (λ (g : Grant). cube_dispatches_left behind g ≡ cube_dispatches_left before crew.grant) (sym none.grant)
      (subst (λ (p : MachineParts). dispatches_left p behind.history crew.grant.number grant ≡ cube_dispatches_left before crew.grant) (sym none.parts)
      (ap (λ t. allowed_dispatches o t - made_dispatches o t) trace ∙ left-kept o t crew.grant.user))

-- What `run` and `recv` are answered.
use Rattle.std.proofs.Common.{◌≡◌, ℕ, ◌+◌, ◌<◌, Bool, true, false, if◌then◌else◌, List, [], ◌∷◌, ◌++◌, map, flat_map, Option, Some, None, IsSomeAnd, refl, ap, ap₂, sym, ◌∙◌, subst, arith, append_assoc, inr}
use Rattle.std.specs.Prelude.{MatchOption}
use Rattle.std.specs.List.{AllByRecursion}
use Rattle.std.proofs.lemmas.List.{map-append}
use Rattle.ce_model.specs.declared.topology.TheConstants.{HOST}
use Rattle.ce_model.specs.declared.topology.Place.{Place}
use Rattle.ce_model.specs.declared.entry.Entry.{Entry}
use Rattle.ce_model.specs.declared.entry.What.TheVariants.{Arm, Look}
use Rattle.ce_model.specs.declared.entry.LookResult.{LookResult}
use Rattle.ce_model.specs.declared.entry.LookResult.TheVariants.{Busy}
use Rattle.ce_model.specs.Parcels.{Item}
use Rattle.ce_model.specs.Trace.{sent_items}
use Rattle.ce_model.specs.Cube.{opening, parcel_numbered}
use Rattle.ce_model.specs.Renaming.{CubeGrant, entry_inward}
use Rattle.ce_model.specs.Views.{view}
use Rattle.ce_model.specs.Machine.{MachineParts, HeldCube, cube_of}
use Rattle.ce_model.specs.Literals.{host_entry}
use Rattle.ce_solo.proofs.Lists.{all-append}
use Rattle.ce_daemon.specs.declared.grant.Grant.{Grant}
use Rattle.ce_machine.specs.Meanings.{MachineFacts}
use Rattle.ce_cube.specs.Boxes.{IsHeldAs}
use Rattle.ce_cube.specs.Crews.{IsLawfulMachine, IsCrewInStep, HasCrewGoneOn, HasMadeRound, box_at, CrewFacts, HasMadeSerialRound, cube_dispatches_left}
use Rattle.ce_daemon.specs.Peeks.{cube_grant}
use Rattle.ce_cube.proofs.Counts.{boxes_in_step-end-turns}
use Rattle.ce_cube.proofs.Crewing.{still-sound, gone-both, stands-still}
use Rattle.ce_host.specs.declared.command.Command.TheVariants.{Run, Recv}
use Rattle.ce_host.specs.declared.answer.Answer.{Answer}
use Rattle.ce_host.specs.declared.answer.Answer.TheVariants.{Message}
use Rattle.ce_script.specs.Rounds.{RoundKind, serial, joined_lists, AreTurnsOver}
use Rattle.ce_script.specs.Commands.{host_take, run_reply, RecvEnd, message_next, message_behind_rest, no_message, end_entries, end_rounds, message_reply, no_message_reply, recv_reply}
use Rattle.ce_record.specs.CubeRounds.{IsRoundOf, IsRunOf, IsRecvOf}
use Rattle.ce_record.specs.HeldCubes.{AreTurnsOverIn}
use Rattle.ce_record.specs.Laws.{sent_to_host}
use Rattle.ce_record.proofs.Moments.{flat-last}
use Rattle.ce_record.proofs.GoesOn.{trace_goes_on}
use Rattle.ce_record.proofs.Messages.{message}
use Rattle.ce_record.proofs.Running.{run, recv}
use Rattle.ce_record.proofs.Turns.{work-inward}
use Rattle.ce_run.specs.Rounds.{HasAllowed, HasLooked, HasTakenNone, HasTaken, HasRunRounds}
use Rattle.ce_run.specs.UserStates.{HasDone, cube_crew}
use Rattle.ce_run.proofs.Going.{IsOwnRound, IsCrewResting, by-grant, all-by-grant, round-of, left-behind, rests-on, left-on}
use Rattle.ce_cube.proofs.Looks.{IsCubeAtRest, rests-behind, found-resting}
use Rattle.ce_run.proofs.StatesBehind.{done-by}

-- ---- the end of a command with rounds

-- the turns of the nodes are over where the crew is in step
turns-over : (m : MachineFacts) (crew : CrewFacts) → IsCrewInStep m.parts m.history crew
    → AreTurnsOver (cube_of m.parts.images (cube_grant crew.grant)) (opening (cube_of m.parts.images (cube_grant crew.grant))) (view m.history crew.grant.number)
turns-over m crew step = boxes_in_step-end-turns m.parts m.history crew.grant.number (cube_grant crew.grant) (λ r. (box_at crew.boxes r).node) step.boxes.in_step

module _ (kind : RoundKind) (before behind : MachineFacts) (crew crew' : CrewFacts) (made : List Entry) (sound : IsLawfulMachine before)
    (step : IsCrewInStep before.parts before.history crew) (on : HasCrewGoneOn kind before behind crew crew' made) where
  -- the cube's trace is what its user's entries alone make of it
  trace-made : view (before.history ++ made) step.held.cube.number ≡ view behind.history crew.grant.number
  trace-made =
      trace_goes_on before.parts before.history crew.grant.user step.held.cube step.held.held sound.within sound.lawful step.held.goes_on made on.calls
      ∙ ap₂ (λ (n : ℕ) (g : CubeGrant). view before.history n ++ map (entry_inward g.sub) made) step.held.number_is step.held.grant_is ∙ sym on.trace

  over-behind : AreTurnsOverIn before.parts (before.history ++ made) step.held.cube
  over-behind =
      subst (λ (t : List Entry). AreTurnsOver (cube_of before.parts.images step.held.cube.grant) (opening (cube_of before.parts.images step.held.cube.grant)) t)
      (sym trace-made)
      (subst (λ (g : CubeGrant). AreTurnsOver (cube_of before.parts.images g) (opening (cube_of before.parts.images g)) (view behind.history crew.grant.number))
      (sym step.held.grant_is)
      (subst (λ (g : Grant). AreTurnsOver (cube_of before.parts.images (cube_grant g)) (opening (cube_of before.parts.images (cube_grant g))) (view behind.history g.number))
      on.grant
      (subst
      (λ (p : MachineParts). AreTurnsOver (cube_of p.images (cube_grant crew'.grant)) (opening (cube_of p.images (cube_grant crew'.grant))) (view behind.history crew'.grant.number))
      on.parts (turns-over behind crew' on.in_step))))

  pub run-ends : (count : ℕ) (found : LookResult) (answer : Answer) → IsRunOf kind crew.grant.user (cube_grant crew.grant) count found made
      → run_reply found ≡ Some answer → HasDone kind before behind crew.grant.user (Run count) answer (cube_crew crew')
  run-ends count found answer is reply =
      done-by kind before behind crew crew' made (Run count) answer on (inr refl)
      (run kind before.parts before.history crew.grant.user step.held.cube step.held.held sound.within sound.lawful step.held.goes_on count found answer made
      (subst (λ (g : CubeGrant). IsRunOf kind crew.grant.user g count found made) (sym step.held.grant_is) is) reply over-behind)

  pub recv-ends : (count : ℕ) (end : RecvEnd) (answer : Answer) → IsRecvOf kind crew.grant.user (cube_grant crew.grant) count end made
      → recv_reply (sent_to_host before.parts step.held.cube (view (before.history ++ made) step.held.cube.number)) end ≡ Some answer
      → HasDone kind before behind crew.grant.user (Recv count) answer (cube_crew crew')
  recv-ends count end answer is reply =
      done-by kind before behind crew crew' made (Recv count) answer on (inr refl)
      (recv kind before.parts before.history crew.grant.user step.held.cube step.held.held sound.within sound.lawful step.held.goes_on count end answer made
      (subst (λ (g : CubeGrant). IsRecvOf kind crew.grant.user g count end made) (sym step.held.grant_is) is) reply over-behind)

-- ---- a look

module _ (kind : RoundKind) (now behind : MachineFacts) (crew crew' : CrewFacts) (found : LookResult) (sound : IsLawfulMachine now)
    (step : IsCrewInStep now.parts now.history crew) (looked : HasLooked kind now behind crew crew' found) where
  pub not-busy : IsCrewResting now crew → found ≡ Busy → ⊥
  not-busy rests is =
      found-resting now.parts now.history crew.grant.number (cube_grant crew.grant) sound.within sound.lawful step.held (host_entry crew.grant.user (Look found)) looked.made rests (ap Look is)

held-by-grant : (m : MachineFacts) (crew crew' : CrewFacts) → crew'.grant ≡ crew.grant → IsHeldAs m.history crew'.grant.number (cube_grant crew'.grant)
    → IsHeldAs m.history crew.grant.number (cube_grant crew.grant)
held-by-grant m crew crew' same held = subst (λ (g : Grant). IsHeldAs m.history g.number (cube_grant g)) same held

rests-by-grant : (m : MachineFacts) (crew crew' : CrewFacts) → crew'.grant ≡ crew.grant → IsCrewResting m crew → IsCrewResting m crew'
rests-by-grant m crew crew' same rests = subst (λ (g : Grant). IsCubeAtRest m.parts m.history g.number (cube_grant g)) (sym same) rests

-- a crew rests behind a round without work
rests-behind-round : (kind : RoundKind) (now behind : MachineFacts) (crew crew' : CrewFacts) → IsLawfulMachine behind → HasMadeRound kind now behind crew crew' false
    → IsCrewResting behind crew'
rests-behind-round kind now behind crew crew' sound made =
    rests-by-grant behind crew crew' made.goes_on.grant
    (rests-behind behind.parts behind.history crew.grant.number (cube_grant crew.grant) sound.within sound.lawful (held-by-grant behind crew crew' made.goes_on.grant made.goes_on.in_step.held) kind
    (view now.history crew.grant.number) (map (entry_inward crew.grant.sub) made.round) made.goes_on.trace (made.is_round, made.works))

-- ---- `run`

-- a crew rests behind its rounds
pub rests-behind-rounds : (kind : RoundKind) (before behind : MachineFacts) (crew crew' : CrewFacts) → IsLawfulMachine behind
    → HasRunRounds kind before behind crew crew' → IsCrewResting behind crew'
rests-behind-rounds kind before behind crew crew' sound ran =
    let on = ran.goes_on in
    let inner = entry_inward crew.grant.sub in
    let t = view before.history crew.grant.number in
    rests-by-grant behind crew crew' on.grant
    (rests-behind behind.parts behind.history crew.grant.number (cube_grant crew.grant) sound.within sound.lawful (held-by-grant behind crew crew' on.grant on.in_step.held) kind
    (t ++ map inner (joined_lists ran.rounds)) (map inner ran.last)
    (on.trace ∙ ap (λ made. t ++ made) (map-append inner (joined_lists ran.rounds) ran.last) ∙ sym (append_assoc t (map inner (joined_lists ran.rounds)) (map inner ran.last)))
    (ran.without_work.is_round, work-inward crew.grant.sub ran.last ∙ ran.without_work.works))

-- with the user of the crew as it was
looked-by : (kind : RoundKind) (now behind : MachineFacts) (crew crew' crew'' : CrewFacts) (found : LookResult) → crew'.grant ≡ crew.grant
    → HasLooked kind now behind crew' crew'' found → HasCrewGoneOn kind now behind crew' crew'' (host_entry crew.grant.user (Look found) ∷ [])
looked-by kind now behind crew crew' crew'' found same looked =
    subst (λ (g : Grant). HasCrewGoneOn kind now behind crew' crew'' (host_entry g.user (Look found) ∷ [])) same looked.goes_on

module _ (kind : RoundKind) (before armed ran behind : MachineFacts) (crew crew1 crew2 crew3 : CrewFacts) (count : ℕ) (found : LookResult) (answer : Answer)
    (sound : IsLawfulMachine before) (step : IsCrewInStep before.parts before.history crew) (allowed : HasAllowed kind before armed crew crew1 count)
    (rounds : HasRunRounds kind armed ran crew1 crew2) (looked : HasLooked kind ran behind crew2 crew3 found) where
  abbrev run_look : Entry
  run_look = host_entry crew.grant.user (Look found)

  abbrev run_made : List Entry
  run_made = host_entry crew.grant.user (Arm count) ∷ (joined_lists rounds.rounds ++ (rounds.last ++ run_look ∷ []))

  run-on : HasCrewGoneOn kind before behind crew crew3 run_made
  run-on =
      let first = gone-both kind before armed ran crew crew1 crew2 (host_entry crew.grant.user (Arm count) ∷ []) (joined_lists rounds.rounds ++ rounds.last) allowed rounds.goes_on in
      subst (λ more. HasCrewGoneOn kind before behind crew crew3 (host_entry crew.grant.user (Arm count) ∷ more)) (append_assoc (joined_lists rounds.rounds) rounds.last (run_look ∷ []))
      (gone-both kind before ran behind crew crew2 crew3 (host_entry crew.grant.user (Arm count) ∷ (joined_lists rounds.rounds ++ rounds.last)) (run_look ∷ []) first
      (looked-by kind ran behind crew crew2 crew3 found first.grant looked))

  pub run-done : run_reply found ≡ Some answer → HasDone kind before behind crew.grant.user (Run count) answer (cube_crew crew3)
  run-done reply =
      run-ends kind before behind crew crew3 run_made sound step run-on count found answer (record {
        rounds = rounds.rounds;
        last = rounds.last;
        with_work = all-by-grant kind crew crew1 rounds.rounds allowed.grant rounds.with_work;
        without_work = by-grant kind crew crew1 false rounds.last allowed.grant rounds.without_work;
        entries = refl;
      }) reply

-- ---- `recv`

-- the looks for a message that found none, each with the round behind it
abbrev pub look_entries : ℕ → List (List Entry) → List Entry
look_entries user rounds = flat_map (λ round. host_take user None ∷ round) rounds

-- what was made so far: rounds with work, each behind a look, and so the round without work, where
-- there is one
abbrev pub waiting_entries : Bool → ℕ → List (List Entry) → List Entry → List Entry
waiting_entries true user rounds last = look_entries user rounds
waiting_entries false user rounds last = look_entries user rounds ++ host_take user None ∷ last

-- by the last round no node was given work, and the cube rests
abbrev pub IsLastRound : RoundKind → Bool → MachineFacts → CrewFacts → CrewFacts → List Entry → Type 0
IsLastRound kind true now crew crew' last = Unit {0}
IsLastRound kind false now crew crew' last = IsOwnRound kind crew false last × IsCrewResting now crew'

-- A crew's host found no message so far; nodes have work still, or the last round was without.
pub record HasWaited (kind : RoundKind) (before now : MachineFacts) (crew crew' : CrewFacts) (has_work : Bool) : Type 0 where
  pub rounds : List (List Entry)
  pub last : List Entry
  pub goes_on : HasCrewGoneOn kind before now crew crew' (waiting_entries has_work crew.grant.user rounds last)
  pub with_work : AllByRecursion (IsOwnRound kind crew true) rounds
  pub without_work : IsLastRound kind has_work now crew crew' last

-- how many rounds may come at most
abbrev pub rounds_left : Bool → MachineFacts → CrewFacts → ℕ
rounds_left has_work m crew = cube_dispatches_left m crew.grant + (if has_work then 1 else 0)

pub waits-first : (kind : RoundKind) (m : MachineFacts) (crew : CrewFacts) → IsLawfulMachine m → IsCrewInStep m.parts m.history crew → HasWaited kind m m crew crew true
waits-first kind m crew sound step = record { rounds = []; last = []; goes_on = stands-still kind m crew sound step; with_work = tt; without_work = tt }

-- no message was there, with the user of the crew as it was
none-by : (kind : RoundKind) (now behind : MachineFacts) (crew crew' crew'' : CrewFacts) → crew'.grant ≡ crew.grant → HasTakenNone kind now behind crew' crew''
    → HasCrewGoneOn kind now behind crew' crew'' (host_take crew.grant.user None ∷ [])
none-by kind now behind crew crew' crew'' same none = subst (λ (g : Grant). HasCrewGoneOn kind now behind crew' crew'' (host_take g.user None ∷ [])) same none

-- a round behind a look that found none
module _ (kind : RoundKind) (before now taken behind : MachineFacts) (crew crew1 crew2 crew3 : CrewFacts) (sound : IsLawfulMachine before)
    (so_far : HasWaited kind before now crew crew1 true) (none : HasTakenNone kind now taken crew1 crew2) where
  round-on : (work : Bool) (made : HasMadeRound kind taken behind crew2 crew3 work)
      → HasCrewGoneOn kind before behind crew crew3 (look_entries crew.grant.user so_far.rounds ++ host_take crew.grant.user None ∷ made.round)
  round-on work made =
      gone-both kind before now behind crew crew1 crew3 (look_entries crew.grant.user so_far.rounds) (host_take crew.grant.user None ∷ made.round) so_far.goes_on
      (gone-both kind now taken behind crew1 crew2 crew3 (host_take crew.grant.user None ∷ []) made.round (none-by kind now taken crew crew1 crew2 so_far.goes_on.grant none) made.goes_on)

  own-round : (work : Bool) (made : HasMadeRound kind taken behind crew2 crew3 work) → IsOwnRound kind crew work made.round
  own-round work made = by-grant kind crew crew2 work made.round (none.grant ∙ so_far.goes_on.grant) (round-of kind taken behind crew2 crew3 work made)

  pub waits-on : (work : Bool) → HasMadeRound kind taken behind crew2 crew3 work → HasWaited kind before behind crew crew3 work
  waits-on true made = record {
    rounds = so_far.rounds ++ made.round ∷ [];
    last = [];
    goes_on = subst (HasCrewGoneOn kind before behind crew crew3) (sym (flat-last (λ round. host_take crew.grant.user None ∷ round) so_far.rounds made.round)) (round-on true made);
    with_work = all-append (IsOwnRound kind crew true) so_far.rounds (made.round ∷ []) so_far.with_work (own-round true made, tt);
    without_work = tt;
  }
  waits-on false made = record {
    rounds = so_far.rounds;
    last = made.round;
    goes_on = round-on false made;
    with_work = so_far.with_work;
    without_work = (own-round false made, rests-behind-round kind taken behind crew2 crew3 (still-sound kind before behind crew crew3 _ sound (round-on false made)) made);
  }

-- by each round on one thread fewer may come
pub waits-shorter : (before now taken behind : MachineFacts) (crew crew1 crew2 crew3 : CrewFacts) → IsLawfulMachine before → HasWaited serial before now crew crew1 true
    → HasTakenNone serial now taken crew1 crew2 → IsCrewInStep now.parts now.history crew1 → (work : Bool) → HasMadeSerialRound taken behind crew2 crew3 work
    → rounds_left work behind crew3 < rounds_left true now crew1
waits-shorter before now taken behind crew crew1 crew2 crew3 sound so_far none step work made =
    omega (
      arith,
      left-behind taken behind crew2 crew3 work made,
      left-on serial now taken crew1 crew2 (still-sound serial before now crew crew1 (look_entries crew.grant.user so_far.rounds) sound so_far.goes_on) step none,
    )

-- what the look for a message came to
abbrev pub HasLookedFor : RoundKind → MachineFacts → MachineFacts → CrewFacts → CrewFacts → Option (Place × List ℕ) → Type 0
HasLookedFor kind now behind crew crew' found =
    MatchOption found (HasTakenNone kind now behind crew crew') (λ message. HasTaken kind now behind crew crew' message.0 message.1)

pub took : (kind : RoundKind) (now behind : MachineFacts) (crew crew' : CrewFacts) (found : Option (Place × List ℕ)) (from : Place) (bytes : List ℕ) → found ≡ Some (from, bytes)
    → HasLookedFor kind now behind crew crew' found → HasTaken kind now behind crew crew' from bytes
took kind now behind crew crew' found from bytes is looked = subst (HasLookedFor kind now behind crew crew') is looked

pub took-none : (kind : RoundKind) (now behind : MachineFacts) (crew crew' : CrewFacts) (found : Option (Place × List ℕ)) → found ≡ None
    → HasLookedFor kind now behind crew crew' found → HasTakenNone kind now behind crew crew'
took-none kind now behind crew crew' found is looked = subst (HasLookedFor kind now behind crew crew') is looked

-- where the last round was without work and no message waits, a look doesn't find the cube busy
pub none-not-busy : (kind : RoundKind) (armed now taken behind : MachineFacts) (crew crew1 crew2 crew3 : CrewFacts) (found : LookResult) → IsLawfulMachine armed
    → HasWaited kind armed now crew crew1 false → HasTakenNone kind now taken crew1 crew2 → HasLooked kind taken behind crew2 crew3 found → found ≡ Busy → ⊥
none-not-busy kind armed now taken behind crew crew1 crew2 crew3 found sound so_far none looked =
    let now_sound = still-sound kind armed now crew crew1 (waiting_entries false crew.grant.user so_far.rounds so_far.last) sound so_far.goes_on in
    not-busy kind taken behind crew2 crew3 found (still-sound kind now taken crew1 crew2 (host_take crew1.grant.user None ∷ []) now_sound none) none.in_step looked
    (rests-on kind now taken crew1 crew2 now_sound so_far.goes_on.in_step none so_far.without_work.1)

-- how it ends with a message
abbrev message_end : Bool → List Entry → ℕ → RecvEnd
message_end true last number = message_next number
message_end false last number = message_behind_rest last number

message-entries : (has_work : Bool) (user : ℕ) (rounds : List (List Entry)) (last : List Entry) (number : ℕ)
    → waiting_entries has_work user rounds last ++ host_take user (Some number) ∷ [] ≡ look_entries user rounds ++ end_entries user (message_end has_work last number)
message-entries true user rounds last number = refl
message-entries false user rounds last number = append_assoc (look_entries user rounds) (host_take user None ∷ last) (host_take user (Some number) ∷ [])

message-rounds : (kind : RoundKind) (has_work : Bool) (now : MachineFacts) (crew crew' : CrewFacts) (last : List Entry) (number : ℕ)
    → IsLastRound kind has_work now crew crew' last → AllByRecursion (IsOwnRound kind crew false) (end_rounds (message_end has_work last number))
message-rounds kind true now crew crew' last number is = tt
message-rounds kind false now crew crew' last number is = (is.0, tt)

message-reply : (has_work : Bool) (items : List Item) (last : List Entry) (number : ℕ)
    → recv_reply items (message_end has_work last number) ≡ message_reply (parcel_numbered number items)
message-reply true items last number = refl
message-reply false items last number = refl

module _ (kind : RoundKind) (before armed now : MachineFacts) (crew crew1 crew2 : CrewFacts) (count : ℕ) (sound : IsLawfulMachine before)
    (step : IsCrewInStep before.parts before.history crew) (allowed : HasAllowed kind before armed crew crew1 count) where
  abbrev user : ℕ
  user = crew.grant.user

  abbrev arm : Entry
  arm = host_entry user (Arm count)

  module _ (has_work : Bool) (so_far : HasWaited kind armed now crew1 crew2 has_work) where
    armed-on : HasCrewGoneOn kind before now crew crew2 (arm ∷ waiting_entries has_work user so_far.rounds so_far.last)
    armed-on =
        gone-both kind before armed now crew crew1 crew2 (arm ∷ []) (waiting_entries has_work user so_far.rounds so_far.last) allowed
        (subst (λ (g : Grant). HasCrewGoneOn kind armed now crew1 crew2 (waiting_entries has_work g.user so_far.rounds so_far.last)) allowed.grant so_far.goes_on)

    module _ (behind : MachineFacts) (crew3 : CrewFacts) (from : Place) (bytes : List ℕ) (taken : HasTaken kind now behind crew2 crew3 from bytes) where
      abbrev made : List Entry
      made = arm ∷ (waiting_entries has_work user so_far.rounds so_far.last ++ host_take user (Some taken.number) ∷ [])

      taken-on : HasCrewGoneOn kind before behind crew crew3 made
      taken-on =
          gone-both kind before now behind crew crew2 crew3 (arm ∷ waiting_entries has_work user so_far.rounds so_far.last) (host_take user (Some taken.number) ∷ []) armed-on
          (subst (λ (g : Grant). HasCrewGoneOn kind now behind crew2 crew3 (host_take g.user (Some taken.number) ∷ [])) armed-on.grant taken.goes_on)

      -- what the host is told, by what was sent to it
      abbrev IsToldIn : MachineParts → CubeGrant → List Entry → Type 0
      IsToldIn parts grant t =
          message_reply (parcel_numbered taken.number (sent_items (opening (cube_of parts.images grant)).standing HOST t)) ≡ Some (Message from bytes)

      told-now : IsToldIn now.parts (cube_grant crew2.grant) (view behind.history crew2.grant.number)
      told-now =
          let held = armed-on.in_step.held in
          let more = map (entry_inward crew2.grant.sub) (host_take crew2.grant.user (Some taken.number) ∷ []) in
          let now_sound = still-sound kind before now crew crew2 (arm ∷ waiting_entries has_work user so_far.rounds so_far.last) sound armed-on in
          let waits : parcel_numbered taken.number held.cube.mail ≡ Some taken.parcel =
          subst (λ held. IsSomeAnd held (λ (cube : HeldCube). parcel_numbered taken.number cube.mail ≡ Some taken.parcel)) held.held taken.waited in
          subst (IsToldIn now.parts (cube_grant crew2.grant)) (sym taken.goes_on.trace)
          (subst (λ n. IsToldIn now.parts (cube_grant crew2.grant) (view now.history n ++ more)) held.number_is
          (subst (λ g. IsToldIn now.parts g (view now.history held.cube.number ++ more)) held.grant_is
          (message now.parts now.history crew2.grant.user held.cube held.held now_sound.within now_sound.lawful held.goes_on taken.number taken.parcel more waits
          ∙ ap₂ (λ from bytes. Some (Message from bytes)) taken.from_is taken.bytes_are)))

      told : IsToldIn before.parts step.held.cube.grant (view (before.history ++ made) step.held.cube.number)
      told =
          subst (IsToldIn before.parts step.held.cube.grant) (sym (trace-made kind before behind crew crew3 made sound step taken-on))
          (subst (λ g. IsToldIn before.parts g (view behind.history crew.grant.number)) (sym step.held.grant_is)
          (subst (λ (p : MachineParts). IsToldIn p (cube_grant crew.grant) (view behind.history crew.grant.number)) armed-on.parts
          (subst (λ (g : Grant). IsToldIn now.parts (cube_grant g) (view behind.history g.number)) armed-on.grant told-now)))

      pub message-done : HasDone kind before behind crew.grant.user (Recv count) (Message from bytes) (cube_crew crew3)
      message-done =
          recv-ends kind before behind crew crew3 made sound step taken-on count (message_end has_work so_far.last taken.number) (Message from bytes) (record {
            rounds = so_far.rounds;
            with_work = all-by-grant kind crew crew1 so_far.rounds allowed.grant so_far.with_work;
            without_work = subst (λ (g : Grant). AllByRecursion (IsRoundOf kind g.user (cube_grant g) false) (end_rounds (message_end has_work so_far.last taken.number)))
                allowed.grant (message-rounds kind has_work now crew1 crew2 so_far.last taken.number so_far.without_work);
            entries = ap (λ more. arm ∷ more) (message-entries has_work user so_far.rounds so_far.last taken.number);
          }) (message-reply has_work (sent_to_host before.parts step.held.cube (view (before.history ++ made) step.held.cube.number)) so_far.last taken.number ∙ told)

  module _ (so_far : HasWaited kind armed now crew1 crew2 false) (taken behind : MachineFacts) (crew3 crew4 : CrewFacts) (found : LookResult)
      (none : HasTakenNone kind now taken crew2 crew3) (looked : HasLooked kind taken behind crew3 crew4 found) where
    abbrev look : Entry
    look = host_entry user (Look found)

    abbrev quiet_made : List Entry
    quiet_made = arm ∷ (look_entries user so_far.rounds ++ host_take user None ∷ (so_far.last ++ host_take user None ∷ look ∷ []))

    quiet-on : HasCrewGoneOn kind before behind crew crew4 quiet_made
    quiet-on =
        let first = armed-on false so_far in
        let ends = gone-both kind now taken behind crew2 crew3 crew4 (host_take user None ∷ []) (look ∷ []) (none-by kind now taken crew crew2 crew3 first.grant none)
        (looked-by kind taken behind crew crew3 crew4 found (none.grant ∙ first.grant) looked) in
        subst (λ more. HasCrewGoneOn kind before behind crew crew4 (arm ∷ more))
        (append_assoc (look_entries user so_far.rounds) (host_take user None ∷ so_far.last) (host_take user None ∷ look ∷ []))
        (gone-both kind before now behind crew crew2 crew4 (arm ∷ (look_entries user so_far.rounds ++ host_take user None ∷ so_far.last)) (host_take user None ∷ look ∷ []) first ends)

    pub none-done : (answer : Answer) → no_message_reply found ≡ Some answer → HasDone kind before behind crew.grant.user (Recv count) answer (cube_crew crew4)
    none-done answer reply =
        recv-ends kind before behind crew crew4 quiet_made sound step quiet-on count (no_message so_far.last found) answer (record {
          rounds = so_far.rounds;
          with_work = all-by-grant kind crew crew1 so_far.rounds allowed.grant so_far.with_work;
          without_work = (by-grant kind crew crew1 false so_far.last allowed.grant so_far.without_work.0, tt);
          entries = refl;
        }) reply

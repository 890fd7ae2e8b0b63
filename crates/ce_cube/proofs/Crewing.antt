-- How a round of a crew goes on, turn by turn.
use Rattle.std.proofs.Common.{◌≡◌, ◌==◌, ℕ, suc, ◌+◌, ◌-◌, ◌^◌, ◌<◌, ◌≤◌, ◌||◌, Bool, true, false, if◌then◌else◌, IsTrue, List, [], ◌∷◌, ◌++◌, length, map, set, Option, Some, None, refl, ap, ap₂, sym, ◌∙◌, subst, inl, inr, arith, length-append, append_assoc, append-nil, get_or-set_same, get_or-set_other}
use Rattle.std.specs.Prelude.{is_some, filter, take_while, not, ◌&&◌}
use Rattle.std.specs.Option.{option_map_or}
use Rattle.std.proofs.lemmas.Bool.{cases_Bool, eqb-true, both_ways, eq-eqb}
use Rattle.std.proofs.lemmas.List.{map-append, length-map}
use Rattle.std.proofs.lemmas.List.Sums.{length-filter, count_by-le-length, take_while-cons}
use Rattle.std.proofs.Math.ListN.{length-set}
use Rattle.ce_model.specs.declared.entry.Entry.{Entry}
use Rattle.ce_model.specs.Answers.{recorded_call}
use Rattle.ce_model.specs.Renaming.{CubeGrant, entry_inward, block_outward}
use Rattle.ce_model.specs.Views.{view, history_behind_grant, entry_grant, grant_or_later, is_drain, trace_behind}
use Rattle.ce_model.specs.Machine.{IsMachine}
use Rattle.ce_solo.proofs.Lists.{all-append}
use Rattle.ce_solo.proofs.Projection.Numbers.{few_relative}
use Rattle.ce_daemon.specs.declared.grant.Grant.{Grant}
use Rattle.rk_node.specs.Boxes.{Box, fresh_node_at}
use Rattle.rk_node.specs.declared.awaited_call.AwaitedCall.TheVariants.{Nothing}
use Rattle.ce_machine.specs.Meanings.{MachineFacts}
use Rattle.ce_script.specs.Rounds.{has_work, IsTurn, RoundKind, serial}
use Rattle.ce_script.specs.Moments.{AreCallsOfUser}
use Rattle.ce_cube.specs.Boxes.{IsHeldAs, IsInStep}
use Rattle.ce_cube.specs.Rounds.{IsPartOfRound}
use Rattle.ce_cube.specs.Crews.{HasStopped, IsLawfulMachine, IsReadyBox, AreBoxesInStep, IsHostInStep, IsCrewInStep, HasCrewGoneOn, box_at, CrewFacts, HasMadeSerialRound, cube_dispatches_left}
use Rattle.ce_daemon.specs.Peeks.{cube_grant}
use Rattle.ce_cube.specs.Exchanges.{HasNode, IsTurnUnderWay, HasTakenTurn, IsRoundUnderWay, machine_node}
use Rattle.ce_cube.specs.Beside.{IsMix}
use Rattle.ce_cube.proofs.Held.{placed-of}
use Rattle.ce_cube.proofs.Fronts.{mix-serial, mix-calls, mix-both}
use Rattle.ce_cube.proofs.Rounds.{are-made}

-- ---- a view has no more entries than the history

take_while-short : {X : Type 0} (p : X → Bool) (xs : List X) → length (take_while p xs) ≤ length xs
take_while-short {X = X} p [] = omega arith
take_while-short {X = X} p (x ∷ xs) =
    subst (λ (taken : List X). length taken ≤ length (x ∷ xs)) (sym (take_while-cons p x xs)) (by_test (p x) (take_while-short p xs))
  where
    by_test : (b : Bool) → length (take_while p xs) ≤ length xs → length (if b then x ∷ take_while p xs else []) ≤ length (x ∷ xs)
    by_test true rest = omega arith
    by_test false rest = omega arith

behind-short : (grant : CubeGrant) (behind : List Entry) → length (trace_behind grant behind) ≤ length behind
behind-short grant behind =
    let open_now = λ (entry : Entry). not (entry.user == grant.user && is_drain entry.what) in
    let own = λ (entry : Entry). entry.user == grant.user && is_some (recorded_call entry.what) in
    let kept = take_while open_now behind in
    omega (arith, length-map (filter own kept) (entry_inward grant.sub), length-filter own kept, count_by-le-length own kept, take_while-short open_now behind)

abbrev IsShort : ℕ → Option (CubeGrant × List Entry) → Type 0
IsShort n None = Unit {0}
IsShort n (Some found) = length found.1 ≤ n

longer : (n : ℕ) (found : Option (CubeGrant × List Entry)) → IsShort n found → IsShort (suc n) found
longer n None is = tt
longer n (Some found) is = omega (arith, is)

either : (n : ℕ) (b : Bool) (found other : Option (CubeGrant × List Entry)) → IsShort n found → IsShort n other → IsShort n (if b then found else other)
either n true found other is also = is
either n false found other is also = also

from-short : (history : List Entry) (number : ℕ) → IsShort (length history) (history_behind_grant history number)
from-short [] number = tt
from-short (entry ∷ behind) number = by_grant (entry_grant entry) (λ number. longer (length behind) (history_behind_grant behind number) (from-short behind number))
  where
    by_grant : (grant : Option CubeGrant) → ((number : ℕ) → IsShort (length (entry ∷ behind)) (history_behind_grant behind number))
        → IsShort (length (entry ∷ behind)) (grant_or_later grant behind number (history_behind_grant behind))
    by_grant None later = later number
    by_grant (Some grant) later =
        either (length (entry ∷ behind)) (number == 0) (Some (grant, behind)) (history_behind_grant behind (number - 1)) (omega arith) (later (number - 1))

pub view-short : (history : List Entry) (number : ℕ) → length (view history number) ≤ length history
unfolding view
view-short history number = by_found (history_behind_grant history number) (from-short history number)
  where
    by_found : (found : Option (CubeGrant × List Entry)) → IsShort (length history) found
        → length (option_map_or (λ (found : CubeGrant × List Entry). trace_behind found.0 found.1) found []) ≤ length history
    by_found None is = omega arith
    by_found (Some found) is = omega (arith, is, behind-short found.0 found.1)

-- ---- a cube has few nodes

pub few-nodes : (m : MachineFacts) (grant : Grant) → IsLawfulMachine m → IsHeldAs m.history grant.number (cube_grant grant) → 2 ^ grant.dim ≤ 64
few-nodes m grant sound held =
    few_relative m.parts.dim (cube_grant grant) (placed-of m.parts m.history grant.number (cube_grant grant) sound.within sound.lawful held)

-- ---- a crew that is in step

module _ (m : MachineFacts) (crew : CrewFacts) (sound : IsLawfulMachine m) (step : IsCrewInStep m.parts m.history crew) (r : ℕ) (below : r < 2 ^ crew.grant.dim) where
  pub crew-node : HasNode m crew.grant r
  crew-node = record { sound = sound; held = step.held; within = below }

  pub crew-ready : (box : Box) → box ≡ box_at crew.boxes r → IsReadyBox box
  crew-ready box is = subst IsReadyBox (sym is) (step.boxes.ready r below)

  pub crew-steps : (box : Box) → box ≡ box_at crew.boxes r → IsInStep (cube_grant crew.grant) (machine_node m crew.grant r) box.node
  crew-steps box is =
      subst (λ (box : Box). IsInStep (cube_grant crew.grant) (machine_node m crew.grant r) box.node) (sym is) (step.boxes.in_step r below)

-- with the grant that the crew has
in-step-by : (m : MachineFacts) (grant : Grant) (crew : CrewFacts) → crew.grant ≡ grant → IsHeldAs m.history grant.number (cube_grant grant)
    → AreBoxesInStep m.parts m.history grant crew.boxes → IsHostInStep m.parts m.history grant crew.host → crew.entries ≡ length (view m.history grant.number)
    → IsCrewInStep m.parts m.history crew
in-step-by m grant crew is held boxes host entries = record {
  held = subst (λ (g : Grant). IsHeldAs m.history g.number (cube_grant g)) (sym is) held;
  boxes = subst (λ (g : Grant). AreBoxesInStep m.parts m.history g crew.boxes) (sym is) boxes;
  host = subst (λ (g : Grant). IsHostInStep m.parts m.history g crew.host) (sym is) host;
  entries = entries ∙ ap (λ (g : Grant). length (view m.history g.number)) (sym is);
}

-- ---- a turn

module _ (m m' : MachineFacts) (crew crew' : CrewFacts) (r count : ℕ) (box : Box) (work : Bool) (step : IsCrewInStep m.parts m.history crew) (below : r < 2 ^ crew.grant.dim)
    (turn : IsTurnUnderWay m m' crew.grant r box work count) (steps : IsInStep (cube_grant crew.grant) (machine_node m' crew.grant r) box.node) where
  -- each box is ready and in step
  box-at : (q : ℕ) → q < 2 ^ crew.grant.dim
      → IsReadyBox (box_at (set crew.boxes r box) q) × IsInStep (cube_grant crew.grant) (machine_node m' crew.grant q) (box_at (set crew.boxes r box) q).node
  box-at q within = elim (cases_Bool (q == r)) [
    | inl same ↦
        let at = eqb-true q r same in
        subst (λ q. IsReadyBox (box_at (set crew.boxes r box) q) × IsInStep (cube_grant crew.grant) (machine_node m' crew.grant q) (box_at (set crew.boxes r box) q).node) (sym at)
        (subst (λ (b : Box). IsReadyBox b × IsInStep (cube_grant crew.grant) (machine_node m' crew.grant r) b.node)
        (sym (get_or-set_same crew.boxes r box (record { node = fresh_node_at 0 0 0 0; room = 0; awaited_call = Nothing }) (omega (arith, step.boxes.all, below))))
        (turn.stands.ready, steps))
    | inr differ ↦
        subst (λ (b : Box). IsReadyBox b × IsInStep (cube_grant crew.grant) (machine_node m' crew.grant q) b.node)
        (sym (get_or-set_other crew.boxes r q box (record { node = fresh_node_at 0 0 0 0; room = 0; awaited_call = Nothing }) (λ e. both_ways (q == r) differ (eq-eqb q r e)))) (
          step.boxes.ready q within,
          subst (λ node. IsInStep (cube_grant crew.grant) node (box_at crew.boxes q).node) (sym (turn.goes_on.others q within differ)) (step.boxes.in_step q within),
        )
  ]

  boxes-after : AreBoxesInStep m'.parts m'.history crew.grant (set crew.boxes r box)
  boxes-after = record {
    all = length-set crew.boxes r box ∙ step.boxes.all;
    ready = λ q within. (box-at q within).0;
    in_step = λ q within. (box-at q within).1;
  }

  host-after : IsHostInStep m'.parts m'.history crew.grant crew.host
  host-after = record {
    blocks = step.host.blocks ∙ ap (map (block_outward (cube_grant crew.grant))) (sym turn.goes_on.store);
    room = step.host.room;
    spare = step.host.spare;
  }

  pub entries-after : crew.entries + count ≡ length (view m'.history crew.grant.number)
  entries-after =
      omega (
        arith,
        step.entries,
        turn.count_is,
        ap {B = ℕ} (λ (t : List Entry). length t) turn.goes_on.trace,
        length-append (view m.history crew.grant.number) (map (entry_inward crew.grant.sub) turn.new_entries),
        length-map turn.new_entries (entry_inward crew.grant.sub),
      )

  -- so many entries are counted
  pub entries-few : crew.entries + count < 2 ^ 63
  entries-few = omega (arith, entries-after, view-short m'.history crew.grant.number, turn.goes_on.few)

  pub turn-taken : crew'.grant ≡ crew.grant → crew'.boxes ≡ set crew.boxes r box → crew'.host ≡ crew.host → crew'.entries ≡ crew.entries + count
      → HasTakenTurn m m' crew crew' r work
  turn-taken grant nodes host entries = record {
    turn = turn.new_entries;
    goes_on = record {
      all_entries = turn.new_entries;
      parts = turn.goes_on.parts;
      history = turn.goes_on.history;
      mix = mix-calls serial crew.grant.user turn.new_entries turn.goes_on.calls;
      lawful = turn.goes_on.node.sound.lawful;
      calls = turn.goes_on.calls;
      grant = grant;
      trace = turn.goes_on.trace;
      in_step = in-step-by m' crew.grant crew' grant turn.goes_on.node.held
          (subst (AreBoxesInStep m'.parts m'.history crew.grant) (sym nodes) boxes-after)
          (subst (IsHostInStep m'.parts m'.history crew.grant) (sym host) host-after)
          (entries ∙ entries-after);
    };
    is_turn = turn.turn;
    works = turn.works;
    left = turn.left;
    host = host;
  }

-- ---- a round

or_count : (a b : Bool) → (if a || b then 1 else 0) ≤ (if a then 1 else 0) + (if b then 1 else 0)
or_count true true = omega arith
or_count true false = omega arith
or_count false true = omega arith
or_count false false = omega arith

-- on one thread the history is longer by just what was made
pub serial-history : (before after : MachineFacts) (crew crew' : CrewFacts) (made : List Entry) → HasCrewGoneOn serial before after crew crew' made
    → after.history ≡ before.history ++ made
serial-history before after crew crew' made on =
    on.history ∙ ap (λ more. before.history ++ more) (mix-serial crew.grant.user on.all_entries made on.mix)

-- the machine is lawful still
pub still-sound : (kind : RoundKind) (m now : MachineFacts) (crew crew' : CrewFacts) (made : List Entry) → IsLawfulMachine m → HasCrewGoneOn kind m now crew crew' made
    → IsLawfulMachine now
still-sound kind m now crew crew' made sound on = record { within = subst IsMachine (sym on.parts) sound.within; lawful = on.lawful }

-- a crew that has done nothing yet
pub stands-still : (kind : RoundKind) (m : MachineFacts) (crew : CrewFacts) → IsLawfulMachine m → IsCrewInStep m.parts m.history crew → HasCrewGoneOn kind m m crew crew []
stands-still kind m crew sound step = record {
  all_entries = [];
  parts = refl;
  history = sym (append-nil m.history);
  mix = record { own = refl; each = tt };
  lawful = sound.lawful;
  calls = tt;
  grant = refl;
  trace = sym (append-nil (view m.history crew.grant.number));
  in_step = step;
}

pub round-starts : (m : MachineFacts) (crew : CrewFacts) → IsLawfulMachine m → IsCrewInStep m.parts m.history crew → IsRoundUnderWay m m crew crew 0 false
round-starts m crew sound step = record {
  new_entries = [];
  goes_on = stands-still serial m crew sound step;
  part = are-made.round_begins;
  works = refl;
  left = omega arith;
  host = refl;
}

-- what a crew did, and what it did behind that, by the grant that it still has
pub gone-both : (kind : RoundKind) (m now now' : MachineFacts) (crew crew' crew'' : CrewFacts) (made turn : List Entry) → HasCrewGoneOn kind m now crew crew' made
    → HasCrewGoneOn kind now now' crew' crew'' turn → HasCrewGoneOn kind m now' crew crew'' (made ++ turn)
gone-both kind m now now' crew crew' crew'' made turn on next =
    let inner = entry_inward crew.grant.sub in
    record {
      all_entries = on.all_entries ++ next.all_entries;
      parts = next.parts ∙ on.parts;
      history = next.history ∙ ap (λ h. h ++ next.all_entries) on.history ∙ append_assoc m.history on.all_entries next.all_entries;
      mix = mix-both kind crew.grant.user on.all_entries next.all_entries made turn on.mix
          (subst (λ (g : Grant). IsMix kind g.user next.all_entries turn) on.grant next.mix);
      lawful = next.lawful;
      calls = all-append (λ (entry : Entry). (entry.user ≡ crew.grant.user) × IsTrue (is_some (recorded_call entry.what))) made turn on.calls
          (subst (λ (g : Grant). AreCallsOfUser g.user turn) on.grant next.calls);
      grant = next.grant ∙ on.grant;
      trace = subst (λ (g : Grant). view now'.history g.number ≡ view now.history g.number ++ map (entry_inward g.sub) turn) on.grant next.trace
          ∙ ap (λ t. t ++ map inner turn) on.trace ∙ append_assoc (view m.history crew.grant.number) (map inner made) (map inner turn)
          ∙ ap (λ t. view m.history crew.grant.number ++ t) (sym (map-append inner made turn));
      in_step = next.in_step;
    }

pub round-goes_on : (m now now' : MachineFacts) (crew crew' crew'' : CrewFacts) (r : ℕ) (work more : Bool) → IsRoundUnderWay m now crew crew' r work
    → HasTakenTurn now now' crew' crew'' r more → IsRoundUnderWay m now' crew crew'' (r + 1) (work || more)
round-goes_on m now now' crew crew' crew'' r work more way taken =
    let inner = entry_inward crew.grant.sub in
    let split = map-append inner way.new_entries taken.turn in
    let left : cube_dispatches_left now' crew.grant + (if more then 1 else 0) ≡ cube_dispatches_left now crew.grant =
    subst (λ (g : Grant). cube_dispatches_left now' g + (if more then 1 else 0) ≡ cube_dispatches_left now g) way.goes_on.grant taken.left in
    record {
      new_entries = way.new_entries ++ taken.turn;
      goes_on = gone-both serial m now now' crew crew' crew'' way.new_entries taken.turn way.goes_on taken.goes_on;
      part = subst (IsPartOfRound (r + 1)) (sym split)
          (are-made.round_goes_on r (map inner way.new_entries) (map inner taken.turn) way.part
          (subst (λ (g : Grant). IsTurn r (map (entry_inward g.sub) taken.turn)) way.goes_on.grant taken.is_turn));
      works = ap has_work split ∙ are-made.work_adds (map inner way.new_entries) (map inner taken.turn)
          ∙ ap₂ (λ a b. a || b) way.works (subst (λ (g : Grant). has_work (map (entry_inward g.sub) taken.turn) ≡ more) way.goes_on.grant taken.works);
      left = omega (arith, way.left, left, or_count work more);
      host = taken.host ∙ way.host;
    }

-- a turn that was stopped leaves what the round has made, and its own calls
pub stopped-round : (m now now' : MachineFacts) (crew crew' : CrewFacts) (r : ℕ) (work : Bool) → IsRoundUnderWay m now crew crew' r work
    → HasStopped now now' crew'.grant.user → HasStopped m now' crew.grant.user
stopped-round m now now' crew crew' r work way stopped = record {
  new_entries = way.new_entries ++ stopped.new_entries;
  parts = stopped.parts ∙ way.goes_on.parts;
  history = stopped.history ∙ ap (λ h. h ++ stopped.new_entries) (serial-history m now crew crew' way.new_entries way.goes_on) ∙ append_assoc m.history way.new_entries stopped.new_entries;
  lawful = stopped.lawful;
  calls = all-append (λ (entry : Entry). (entry.user ≡ crew.grant.user) × IsTrue (is_some (recorded_call entry.what))) way.new_entries stopped.new_entries way.goes_on.calls
      (subst (λ (g : Grant). AreCallsOfUser g.user stopped.new_entries) way.goes_on.grant stopped.calls);
}

pub round-stops : (m now : MachineFacts) (crew crew' : CrewFacts) (work : Bool) → IsRoundUnderWay m now crew crew' (2 ^ crew.grant.dim) work
    → HasMadeSerialRound m now crew crew' work
round-stops m now crew crew' work way = record {
  made_round = record {
    round = way.new_entries;
    goes_on = way.goes_on;
    is_round = are-made.round_ends crew.grant.dim (map (entry_inward crew.grant.sub) way.new_entries) way.part;
    works = way.works;
    host = way.host;
  };
  left = way.left;
}

-- How a turn of a node goes on, call by call.
use Rattle.std.proofs.Common.{◌≡◌, ℕ, ◌+◌, Bool, true, false, if◌then◌else◌, IsTrue, List, [], ◌∷◌, ◌++◌, map, refl, ap, sym, ◌∙◌, subst, inr, arith, length-append, append_assoc}
use Rattle.std.specs.Prelude.{◌||◌, Option, Some, None, is_some}
use Rattle.std.specs.Option.{option_map_or}
use Rattle.std.proofs.lemmas.List.{map-append}
use Rattle.ce_model.specs.declared.entry.Entry.{Entry}
use Rattle.ce_model.specs.declared.entry.TakeResult.{TakeResult}
use Rattle.ce_model.specs.Answers.{recorded_call}
use Rattle.ce_model.specs.Node.{Call}
use Rattle.ce_model.specs.Saying.{says}
use Rattle.ce_model.specs.Renaming.{block_outward, entry_inward}
use Rattle.ce_model.specs.Trace.{is_work}
use Rattle.ce_model.specs.Views.{view}
use Rattle.ce_solo.proofs.Lists.{all-append}
use Rattle.ce_daemon.specs.declared.grant.Grant.{Grant}
use Rattle.rk_node.specs.Boxes.{Box}
use Rattle.rk_node.specs.Answering.{IsAwaitingAnswer}
use Rattle.rk_node.specs.declared.awaited_call.AwaitedCall.TheVariants.{Nothing}
use Rattle.ce_machine.specs.Meanings.{MachineFacts}
use Rattle.ce_script.specs.Rounds.{entry_take_result, asks_for_work, is_take, is_dispatch, has_work, IsTurn}
use Rattle.ce_cube.specs.Boxes.{IsSaidBy, IsInStep}
use Rattle.ce_cube.specs.Crews.{IsReadyBox}
use Rattle.ce_daemon.specs.Peeks.{cube_grant}
use Rattle.ce_cube.specs.Exchanges.{HasNode, IsBoxOfNode, HasSaidCall, HasNodeGoneOn, HasExchanged, IsTurnUnderWay, machine_node}
use Rattle.ce_cube.proofs.Says.{boxes-say, asks-renamed}
use Rattle.ce_cube.proofs.Rounds.{are-made}

-- what is no Take is no dispatch
no_dispatch : (entry : Entry) → is_take entry ≡ false → is_dispatch entry ≡ false
no_dispatch entry other = by_given (entry_take_result entry) other
  where
    by_given : (given : Option TakeResult) → is_some given ≡ false → option_map_or is_work given false ≡ false
    by_given None e = refl
    by_given (Some given) e = absurd (cc)

or_none : (a b : Bool) → b ≡ false → (a || b) ≡ a
or_none true b e = refl
or_none false b e = e

-- what a box says that stands for its node
pub said-in : (m : MachineFacts) (grant : Grant) (r : ℕ) (box : Box) → HasNode m grant r → IsBoxOfNode m grant r box
    → IsSaidBy m.parts m.history grant.number (cube_grant grant) r box.node
said-in m grant r box node is =
    boxes-say m.parts m.history grant.number (cube_grant grant) node.sound.within node.sound.lawful node.held r box.node node.within is.stands

-- a box that is in step asks for work
pub asks-first : (m : MachineFacts) (grant : Grant) (r : ℕ) (box : Box) → HasNode m grant r → IsReadyBox box
    → IsInStep (cube_grant grant) (machine_node m grant r) box.node → asks_for_work (says box.node).call ≡ true
asks-first m grant r box node ready step =
    ap asks_for_work (said-in m grant r box node (record { ready = ready; stands = inr step })).call
    ∙ asks-renamed (block_outward (cube_grant grant)) (says (machine_node m grant r)).call
    ∙ step.asks

-- calls of a node, and then others
joined-at : (m now now' : MachineFacts) (grant : Grant) (r : ℕ) (made others : List Entry) → HasNodeGoneOn m now grant r made → HasNodeGoneOn now now' grant r others
    → HasNodeGoneOn m now' grant r (made ++ others)
joined-at m now now' grant r made others first next = record {
  parts = next.parts ∙ first.parts;
  history = next.history ∙ ap (λ h. h ++ others) first.history ∙ append_assoc m.history made others;
  calls = all-append (λ (entry : Entry). (entry.user ≡ grant.user) × IsTrue (is_some (recorded_call entry.what))) made others first.calls next.calls;
  trace = next.trace ∙ ap (λ t. t ++ map (entry_inward grant.sub) others) first.trace
      ∙ append_assoc (view m.history grant.number) (map (entry_inward grant.sub) made) (map (entry_inward grant.sub) others)
      ∙ ap (λ t. view m.history grant.number ++ t) (sym (map-append (entry_inward grant.sub) made others));
  node = next.node;
  others = λ other within differs. next.others other within differs ∙ first.others other within differs;
  store = next.store ∙ first.store;
  few = next.few;
}

-- a turn begins with the call of a box that asks for work
pub turn-starts : (m m' : MachineFacts) (grant : Grant) (r : ℕ) (box box' : Box) (call : Call) (work : Bool) → asks_for_work call ≡ true
    → HasExchanged m m' grant r box box' call work → IsTurnUnderWay m m' grant r box' work 1
turn-starts m m' grant r box box' call work asks done = record {
  new_entries = done.entry ∷ [];
  goes_on = done.goes_on;
  turn = are-made.turn_begins r (entry_inward grant.sub done.entry) done.actor_is (done.take ∙ asks);
  works = are-made.work_begins (entry_inward grant.sub done.entry) ∙ done.dispatch;
  left = done.left;
  stands = done.stands;
  count_is = refl;
}

-- it goes on with each call that asks for no work
pub turn-goes_on : (m now now' : MachineFacts) (grant : Grant) (r : ℕ) (box box' : Box) (call : Call) (work more : Bool) (count : ℕ) → IsTurnUnderWay m now grant r box work count
    → asks_for_work call ≡ false → HasExchanged now now' grant r box box' call more → IsTurnUnderWay m now' grant r box' work (count + 1)
turn-goes_on m now now' grant r box box' call work more count turn other done =
    let inner = entry_inward grant.sub done.entry in
    let no_take : is_take inner ≡ false = done.take ∙ other in
    let no_work : more ≡ false = sym done.dispatch ∙ no_dispatch inner no_take in
    let split = map-append (entry_inward grant.sub) turn.new_entries (done.entry ∷ []) in
    record {
      new_entries = turn.new_entries ++ done.entry ∷ [];
      goes_on = joined-at m now now' grant r turn.new_entries (done.entry ∷ []) turn.goes_on done.goes_on;
      turn = subst (IsTurn r) (sym split) (are-made.turn_goes_on r (map (entry_inward grant.sub) turn.new_entries) inner turn.turn done.actor_is no_take);
      works = ap has_work split ∙ are-made.work_adds (map (entry_inward grant.sub) turn.new_entries) (inner ∷ [])
          ∙ or_none _ _ (are-made.work_begins inner ∙ no_dispatch inner no_take) ∙ turn.works;
      left = omega (arith, done.left, turn.left, ap {B = ℕ} (λ b. if b then 1 else 0) no_work);
      stands = done.stands;
      count_is = omega (arith, turn.count_is, length-append turn.new_entries (done.entry ∷ []));
    }

-- what the box says next is a call of its node, if it stands for it
pub next-called : (m : MachineFacts) (grant : Grant) (r : ℕ) (box box' : Box) (call : Call) → IsBoxOfNode m grant r box → box'.node ≡ (says box.node).node
    → box'.room ≡ box.room → call ≡ (says box.node).call → IsAwaitingAnswer box' call → HasSaidCall m grant r box box' call
next-called m grant r box box' call is node room call_is said = record { before = is; node = node; call_is = call_is; said = said; room = room }

module _ (m now : MachineFacts) (grant : Grant) (r : ℕ) (box box' : Box) (work : Bool) (count : ℕ) (turn : IsTurnUnderWay m now grant r box work count)
    (node : box'.node ≡ (says box.node).node) (room : box'.room ≡ box.room) (idle : box'.awaited_call ≡ Nothing) (asks : asks_for_work (says box.node).call ≡ true) where
  -- a turn stops where the box asks for work again: it is in step then
  pub turn-steps : IsInStep (cube_grant grant) (machine_node now grant r) box'.node
  turn-steps =
      subst (IsInStep (cube_grant grant) (machine_node now grant r)) (sym node)
      ((said-in now grant r box turn.goes_on.node turn.stands).in_step asks)

  -- and stands for its node still
  pub turn-stops : IsTurnUnderWay m now grant r box' work count
  turn-stops = record {
    new_entries = turn.new_entries;
    goes_on = turn.goes_on;
    turn = turn.turn;
    works = turn.works;
    left = turn.left;
    count_is = turn.count_is;
    stands = record {
      ready = record { idle = idle; room = omega (arith, room, turn.stands.ready.room) };
      stands = inr turn-steps;
    };
  }

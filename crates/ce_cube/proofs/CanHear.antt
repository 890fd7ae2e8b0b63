-- The box of a node that made an entry can hear the answer, which is one to its call; and by each
-- call that asks for no work its turn comes nearer to its end.
use Rattle.std.proofs.Common.{◌≡◌, ◌⊎◌, ℕ, ◌^◌, ◌<◌, Bool, true, false, if◌then◌else◌, List, map, Option, Some, None, refl, ap, sym, ◌∙◌, subst, inl, inr, arith}
use Rattle.std.specs.Prelude.{IsFalse}
use Rattle.std.proofs.lemmas.Bool.{both_ways}
use Rattle.rv_model.specs.Image.{ImageParts}
use Rattle.ce_model.specs.declared.topology.BlockId.{BlockId}
use Rattle.ce_model.specs.declared.topology.Place.{Place}
use Rattle.ce_model.specs.declared.entry.Entry.{Entry}
use Rattle.ce_model.specs.declared.entry.What.{What}
use Rattle.ce_model.specs.declared.entry.What.TheVariants as whats
use Rattle.ce_model.specs.declared.entry.KillResult.{KillResult}
use Rattle.ce_model.specs.declared.entry.KillResult.TheVariants as kill_result
use Rattle.ce_model.specs.declared.entry.TakeResult.{TakeResult}
use Rattle.ce_model.specs.declared.entry.TakeResult.TheVariants as take_result
use Rattle.ce_model.specs.Parcels.{Item}
use Rattle.ce_model.specs.Node.{Turn, Node, Call, take_call, send_call, spawn_call, kill_call, note_call, arm_call, look_call, mail_call}
use Rattle.ce_model.specs.Saying.{says}
use Rattle.ce_model.specs.Hearing.{with_answered_call, node_after_hearing}
use Rattle.ce_model.specs.Trace.{Standing}
use Rattle.ce_model.specs.Answers.{answer, is_used_up}
use Rattle.ce_model.specs.Cube.{Cube, CubeState, IsCube, opening, state_after_trace, hearing_of_entry, node_numbers}
use Rattle.ce_model.specs.Subcubes.{node_of}
use Rattle.ce_model.specs.Sound.{IsSound}
use Rattle.ce_model.specs.Renaming.{block_outward, renamed_what, renamed_call_blocks, renamed_hearing, renamed_item}
use Rattle.ce_model.specs.Views.{view}
use Rattle.ce_model.specs.Machine.{MachineParts, HeldCube, after, nodes_of, cube_standing, with_places_outward, cube_of}
use Rattle.rk_mail.specs.declared.talk.Hearing as program
use Rattle.rk_mail.specs.declared.talk.Hearing.TheVariants as hearings
use Rattle.rk_mail.specs.Talk.{hearing_model, is_take_hearing, IsAnswerTo, IsHearingOfTake, kill_hearing, IsHearingOfEntry}
use Rattle.ce_script.specs.Rounds.{asks_for_work}
use Rattle.ce_solo.proofs.Words.{HasMadeCall}
use Rattle.ce_solo.proofs.Made.{by_node}
use Rattle.ce_solo.proofs.Projection.Numbers.{what_outward, out_node}
use Rattle.ce_solo.proofs.Projection.Answers.{answer-outward}
use Rattle.ce_solo.proofs.Projection.Calls.{call-in, made-within}
use Rattle.ce_cube.specs.Boxes.{trace_node, IsStandIn, IsSaidBy, IsCubeCallEntry, IsHearingOfNode}
use Rattle.ce_cube.specs.Hearable.{HasAnswerableTurn, IsHearable, IsRightAnswer, turn_calls_left, calls_left}
use Rattle.ce_cube.specs.Laws.{BoxesCanHear, TurnsEnd}
use Rattle.ce_cube.proofs.Held.{IsSeen, by_seen}
use Rattle.ce_cube.proofs.Seats.{node-said, rest-blocks, parcel-blocks}
use Rattle.ce_cube.proofs.Says.{says-of, asks-renamed}
use Rattle.ce_cube.proofs.Adds.{answer-made}
use Rattle.ce_cube.proofs.Replies.{reply-heard, heard-of}
use Rattle.ce_cube.proofs.Hears.{heard-own}
use Rattle.ce_cube.proofs.Turns.{says-calling}
use Rattle.ce_cube.proofs.Given.{take-hearable}
use Rattle.ce_cube.proofs.Names.{hearable-outward}

-- ---- what an answer is

-- what is heard hangs on no names of places and blocks
hearing_of_entry-renamed : (place : Place → Place) (block : BlockId → BlockId) (items : List Item) (what : What) → hearing_of_entry items (renamed_what place block what) ≡ hearing_of_entry items what
hearing_of_entry-renamed place block items (whats.Send pid first to bytes) = refl
hearing_of_entry-renamed place block items (whats.Spawn pid image to fresh) = refl
hearing_of_entry-renamed place block items (whats.Kill pid to found) = refl
hearing_of_entry-renamed place block items other = refl

given-answers : (items : List Item) (given : TakeResult) (hearing : program.Hearing) → IsHearingOfTake items given hearing → is_take_hearing hearing ≡ true
given-answers items (take_result.Start pid image) hearing is = ap is_take_hearing is
given-answers items (take_result.Mail pid number) hearing is = ap is_take_hearing is.1
given-answers items (take_result.Kill pid) hearing is = ap is_take_hearing is
given-answers items (take_result.Poll pid) hearing is = ap is_take_hearing is
given-answers items take_result.Idle hearing is = ap is_take_hearing is
given-answers items take_result.Spent hearing is = ap is_take_hearing is

fresh-answers : (fresh : Bool) (hearing : program.Hearing) → hearing ≡ (if fresh then hearings.Spawned else hearings.Used) → (hearing ≡ hearings.Spawned) ⊎ (hearing ≡ hearings.Used)
fresh-answers true hearing is = inl is
fresh-answers false hearing is = inr is

kill-answers : (found : KillResult) (hearing : program.Hearing) → hearing ≡ kill_hearing found → (hearing ≡ hearings.Killed) ⊎ ((hearing ≡ hearings.Unused) ⊎ (hearing ≡ hearings.Already))
kill-answers kill_result.Killed hearing is = inl is
kill-answers kill_result.Unused hearing is = inr (inl is)
kill-answers kill_result.Already hearing is = inr (inr is)

call-answers : (place : Place → Place) (block rename : BlockId → BlockId) (nodes : List ℕ) (standing : Standing) (r : ℕ) (items : List Item) (call : Call) (hearing : program.Hearing)
    → IsHearingOfEntry items (renamed_what place block (answer nodes standing r call)) hearing → IsAnswerTo (renamed_call_blocks rename call) hearing
unfolding answer
call-answers place block rename nodes standing r items (take_call asking dead poller) hearing is = given-answers items _ hearing is
call-answers place block rename nodes standing r items (send_call pid to bytes) hearing is = is
call-answers place block rename nodes standing r items (spawn_call pid image to) hearing is = fresh-answers _ hearing is
call-answers place block rename nodes standing r items (kill_call pid to) hearing is = kill-answers _ hearing is
call-answers place block rename nodes standing r items (note_call pid word) hearing is = is
call-answers place block rename nodes standing r items (arm_call count) hearing is = absurd is
call-answers place block rename nodes standing r items look_call hearing is = absurd is
call-answers place block rename nodes standing r items mail_call hearing is = absurd is

-- ---- a node of a sound cube

in_turn : (node : Node) → asks_for_work (says node).call ≡ false → HasAnswerableTurn (says node).node
in_turn node other = let calling = says-calling node other in record { turn = calling.called.turn; is = calling.called.is }

call-hearable : (cube : Cube) (s : CubeState) (r : ℕ) → IsCube cube → r < 2 ^ cube.dim → IsSound cube s → (call : Call) → (says (s.node r)).call ≡ call
    → HasMadeCall (s.node r) (says (s.node r)).node call
    → IsHearable cube.images (says (s.node r)).node (hearing_of_entry (s.standing.node_record r).waiting_items (answer (node_numbers cube.dim) s.standing r call))
unfolding answer
call-hearable cube s r of below sound (take_call asking dead poller) is said =
    take-hearable cube s r of below sound asking dead poller said (is_used_up s.standing)
call-hearable cube s r of below sound (send_call pid to bytes) is said = in_turn (s.node r) (ap asks_for_work is)
call-hearable cube s r of below sound (spawn_call pid image to) is said = in_turn (s.node r) (ap asks_for_work is)
call-hearable cube s r of below sound (kill_call pid to) is said = in_turn (s.node r) (ap asks_for_work is)
call-hearable cube s r of below sound (note_call pid word) is said = tt
call-hearable cube s r of below sound (arm_call count) is said = absurd said.of_node
call-hearable cube s r of below sound look_call is said = absurd said.of_node
call-hearable cube s r of below sound mail_call is said = absurd said.of_node

-- an answer to a call that asks for no work leaves the turn
tells-turn : (value : ℕ) (node : Node) (turn : Option Turn) → (with_answered_call value node turn).turn ≡ node.turn
tells-turn value node None = refl
tells-turn value node (Some turn) = refl

turn-kept : (images : List ImageParts) (rename : BlockId → BlockId) (node : Node) (nodes : List ℕ) (standing : Standing) (r : ℕ) (items : List Item) (call : Call)
    → asks_for_work call ≡ false → (node_after_hearing images node (renamed_hearing rename (hearing_of_entry items (answer nodes standing r call)))).turn ≡ node.turn
unfolding answer node_after_hearing
turn-kept images rename node nodes standing r items (take_call asking dead poller) other = absurd (cc)
turn-kept images rename node nodes standing r items (send_call pid to bytes) other = tells-turn 0 node node.turn
turn-kept images rename node nodes standing r items (spawn_call pid image to) other = tells-turn _ node node.turn
turn-kept images rename node nodes standing r items (kill_call pid to) other = tells-turn _ node node.turn
turn-kept images rename node nodes standing r items (note_call pid word) other = refl
turn-kept images rename node nodes standing r items (arm_call count) other = refl
turn-kept images rename node nodes standing r items look_call other = refl
turn-kept images rename node nodes standing r items mail_call other = refl

-- ---- the box

module _ (parts : MachineParts) (history : List Entry) (cube : HeldCube) (now : IsSeen parts history cube) (r : ℕ) (below : r < 2 ^ cube.grant.dim) (box : Node)
    (stands : IsStandIn cube.grant (trace_node parts history cube.number cube.grant r) box) (entry : Entry)
    (made : IsCubeCallEntry parts history cube.grant (node_of cube.grant.sub r) (says box).call entry) where
  abbrev own : Cube
  own = cube_of parts.images cube.grant

  abbrev s : CubeState
  s = state_after_trace own (opening own) (view history cube.number)

  abbrev call : Call
  call = (says (s.node r)).call

  abbrev inner : What
  inner = answer (node_numbers cube.grant.dim) s.standing r call

  abbrev said : IsSaidBy parts history cube.number cube.grant r box
  said = says-of parts history cube now r below box stands

  -- the entry is the one that the node's call makes in the cube, with the machine's names
  pub entry-is : entry.what ≡ what_outward cube.grant inner
  entry-is =
      sym (answer-made parts history cube (node_of cube.grant.sub r) (says box).call entry now.holds made)
      ∙ ap (λ call. answer (nodes_of cube.grant) (cube_standing (after history) cube) (node_of cube.grant.sub r) (with_places_outward cube.grant call)) said.call
      ∙ ap (λ n. answer (nodes_of cube.grant) (cube_standing (after history) cube) n (with_places_outward cube.grant (renamed_call_blocks (block_outward cube.grant) call)))
      (sym (out_node parts.dim cube.grant now.placed r below))
      ∙ answer-outward parts.dim cube.grant now.placed (cube_standing (after history) cube) s.standing now.standing r call (inl below)
      (call-in cube.grant.dim call (made-within own s now.of now.stands.sound r None call (by_node below refl)))

  module _ (hearing : program.Hearing) (is : IsHearingOfNode history cube.grant r entry.what hearing) where
    abbrev items : List Item
    items = (s.standing.node_record r).waiting_items

    -- and with the machine's names
    abbrev outward : List Item
    outward = map (renamed_item (block_outward cube.grant)) items

    heard_own : IsHearingOfEntry outward entry.what hearing
    heard_own = heard-own parts history cube now r below box stands entry hearing is

    heard_is : hearing_model hearing ≡ renamed_hearing (block_outward cube.grant) (hearing_of_entry items inner)
    heard_is =
        reply-heard (block_outward cube.grant) (λ place. place) (λ id. id) items entry.what hearing heard_own
        ∙ ap (renamed_hearing (block_outward cube.grant)) (hearing_of_entry-renamed (λ place. place) (λ id. id) items entry.what ∙ ap (hearing_of_entry items) entry-is
        ∙ hearing_of_entry-renamed _ _ items inner)

    right-answer : IsRightAnswer parts.images (says box) hearing
    right-answer = record {
      answers = subst (λ call. IsAnswerTo call hearing) (sym said.call)
          (call-answers _ _ (block_outward cube.grant) (node_numbers cube.grant.dim) s.standing r outward call hearing (subst (λ what. IsHearingOfEntry outward what hearing) entry-is heard_own));
      hearable = subst (IsHearable parts.images (says box).node) (sym heard_is) (subst (λ node. IsHearable parts.images node (renamed_hearing (block_outward cube.grant) (hearing_of_entry items inner)))
          (sym said.at_rest)
          (hearable-outward parts.dim cube.grant now.placed (says (s.node r)).node (rest-blocks parts history cube now r below) parts.images (hearing_of_entry items inner)
          (heard-of cube.grant.dim items inner (parcel-blocks parts history cube now r below))
          (call-hearable own s r now.of below now.stands.sound call refl (node-said parts history cube now r below))));
    }

    -- ---- the turn

    turn_behind : asks_for_work call ≡ false → (node_after_hearing parts.images (says box).node (hearing_model hearing)).turn ≡ (says (s.node r)).node.turn
    turn_behind other =
        ap (λ hearing. (node_after_hearing parts.images (says box).node hearing).turn) heard_is
        ∙ turn-kept parts.images (block_outward cube.grant) (says box).node (node_numbers cube.grant.dim) s.standing r items call other
        ∙ ap (λ (node : Node). node.turn) said.at_rest

    box_turn : asks_for_work call ≡ false → (box : Node) → IsStandIn cube.grant (s.node r) box → box.turn ≡ (s.node r).turn
    box_turn other box (inl same) = ap (λ (node : Node). node.turn) same
    box_turn other box (inr step) = absurd (both_ways _ other step.asks)

    turn-ends : IsFalse (asks_for_work (says box).call) → calls_left (node_after_hearing parts.images (says box).node (hearing_model hearing)) < calls_left box
    turn-ends no_work =
        let other : asks_for_work call ≡ false = sym (asks-renamed (block_outward cube.grant) call) ∙ ap asks_for_work (sym said.call) ∙ no_work in
        let calling = says-calling (s.node r) other in
        omega (
          arith,
          ap turn_calls_left (turn_behind other ∙ calling.called.is),
          ap turn_calls_left (box_turn other box stands ∙ calling.was),
          calling.called.more,
          calling.called.within,
        )

pub boxes-can-hear : BoxesCanHear
boxes-can-hear parts history number grant machine lawful held r box entry hearing below stands made is =
    by_seen
    (λ number grant. r < 2 ^ grant.dim → IsStandIn grant (trace_node parts history number grant r) box
    → IsCubeCallEntry parts history grant (node_of grant.sub r) (says box).call entry → IsHearingOfNode history grant r entry.what hearing
    → IsRightAnswer parts.images (says box) hearing) parts history number grant machine lawful
    (λ cube now below stands made is. right-answer parts history cube now r below box stands entry made hearing is) held below stands made is

pub turns-end : TurnsEnd
turns-end parts history number grant machine lawful held r box entry hearing below stands made is =
    by_seen
    (λ number grant. r < 2 ^ grant.dim → IsStandIn grant (trace_node parts history number grant r) box
    → IsCubeCallEntry parts history grant (node_of grant.sub r) (says box).call entry → IsHearingOfNode history grant r entry.what hearing
    → IsFalse (asks_for_work (says box).call) → calls_left (node_after_hearing parts.images (says box).node (hearing_model hearing)) < calls_left box) parts history number grant machine lawful
    (λ cube now below stands made is. turn-ends parts history cube now r below box stands entry made hearing is) held below stands made is

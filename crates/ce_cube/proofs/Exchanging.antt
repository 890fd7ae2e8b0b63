-- What the machine's answer to a call of a box makes of the machine and of the box.
use Rattle.std.proofs.Common.{◌≡◌, inl, ◌==◌, ℕ, ◌^◌, ◌<◌, ◌≤◌, false, List, [], ◌∷◌, ◌++◌, length, Option, Some, None, IsTrue, IsFalse, IsSomeAnd, option_map, slice_get, refl, ap, sym, ◌∙◌, subst, arith}
use Rattle.std.specs.List.{Contains}
use Rattle.std.specs.Prelude.{is_some}
use Rattle.std.proofs.lemmas.Bool.{eq-eqb, ne_eqb, both_ways}
use Rattle.rv_model.specs.Image.{ImageParts}
use Rattle.ce_model.specs.declared.entry.Entry.{Entry}
use Rattle.ce_model.specs.declared.entry.What.{What}
use Rattle.ce_model.specs.declared.entry.What.TheVariants as whats
use Rattle.ce_model.specs.Limits.{greatest_dim, greatest_nodes_lem, greatest_blocks}
use Rattle.ce_model.specs.Parcels.{Item, mail, is_eligible}
use Rattle.ce_model.specs.Process.{is_receiving, is_stopped}
use Rattle.ce_model.specs.Answers.{answer, recorded_call}
use Rattle.ce_model.specs.Hearing.{node_after_hearing}
use Rattle.ce_model.specs.Subcubes.{node_of, ones_of, extract, is_base}
use Rattle.ce_model.proofs.AloneByEntries.{call_of-answer}
use Rattle.ce_solo.proofs.Counting.{count-is}
use Rattle.ce_solo.proofs.Hears.{unborn-is, born-is}
use Rattle.ce_solo.proofs.Projection.Numbers.{IsPlaced, out_no_host}
use Rattle.ce_solo.proofs.Renaming.Grants.{few_nodes}
use Rattle.ce_model.specs.Node.{Node, Call, process_at, blocks_of, process_set}
use Rattle.ce_model.specs.Saying.{says}
use Rattle.ce_model.specs.Renaming.{CubeGrant}
use Rattle.ce_model.specs.Machine.{MachineParts, MachineState, IsFitting, cube_held_by, cube_request, after, what_of_request, HeldCube, nodes_of, cube_standing, with_places_outward}
use Rattle.ce_daemon.specs.declared.grant.Grant.{Grant}
use Rattle.rk_mail.specs.declared.talk.Hearing.{Hearing}
use Rattle.rk_mail.specs.declared.talk.Hearing.TheVariants as hearings
use Rattle.rk_mail.specs.Items.{parcel_of}
use Rattle.rk_mail.specs.Talk.{IsHearingOfEntry, IsAnswerTo, call_of_say, hearing_model}
use Rattle.rk_node.specs.Boxes.{Box}
use Rattle.rk_node.specs.declared.awaited_call.AwaitedCall.TheVariants.{Nothing}
use Rattle.rk_node.proofs.Names.{not_contained}
use Rattle.rk_node.specs.Answering.{IsAbleToHear, IsBoxWork}
use Rattle.ce_machine.specs.declared.call.Reply.{Reply}
use Rattle.ce_machine.specs.declared.call.Reply.TheVariants as replies
use Rattle.ce_machine.specs.Replies.{IsReplyTo, IsHearingReply, OfHeldCube, actor_items, look_reply}
use Rattle.ce_model.specs.declared.entry.LookResult.{LookResult}
use Rattle.ce_model.specs.declared.entry.LookResult.TheVariants.{Quiet, Spent, Busy}
use Rattle.ce_machine.specs.declared.call.Call.TheVariants as calls
use Rattle.ce_machine.specs.Meanings.{MachineFacts, IsAnsweredBy}
use Rattle.ce_lock.specs.declared.who.Who.{Who}
use Rattle.rk_mail.specs.declared.talk.Say.{Say}
use Rattle.rk_mail.specs.declared.talk.Say.TheVariants as say
use Rattle.ce_model.specs.Trace.{Standing}
use Rattle.ce_script.specs.Rounds.{asks_for_work}
use Rattle.ce_cube.specs.Boxes.{IsSaidBy, IsCubeCallEntry, trace_node}
use Rattle.ce_cube.specs.Hearable.{IsHearable, IsRightAnswer, calls_left}
use Rattle.ce_cube.specs.Rounds.{is_work_hearing}
use Rattle.ce_daemon.specs.Peeks.{cube_grant}
use Rattle.ce_cube.specs.Exchanges.{HasNode, HasSaidCall, HasExchanged}
use Rattle.ce_cube.proofs.Held.{by_seen, placed-of}
use Rattle.ce_cube.proofs.Seats.{node-said}
use Rattle.ce_cube.proofs.Says.{boxes-say}
use Rattle.ce_cube.proofs.Adds.{calls-add}
use Rattle.ce_cube.proofs.Hears.{boxes-hear}
use Rattle.ce_cube.proofs.CanHear.{boxes-can-hear, turns-end}
use Rattle.ce_cube.proofs.Counts.{entries-count}

-- ---- the reply

of_nobody : {X : Type 0} (held : Option HeldCube) → IsSomeAnd held (λ cube. ⊥) → X
of_nobody None is = absurd is
of_nobody (Some cube) is = absurd is

abbrev IsSameReply : {N : Type 0} → Reply N → Reply N → Type 0
IsSameReply reply other = reply ≡ other

heard-not_found : {N X : Type 0} (hearing : Hearing) (found : LookResult) → IsSameReply {N = N} (replies.Heard hearing) (look_reply found) → X
heard-not_found hearing Quiet is = absurd (cc)
heard-not_found hearing Spent is = absurd (cc)
heard-not_found hearing Busy is = absurd (cc)

-- a machine that lets hear replies to a call of a cube, in what waited for its actor
pub heard-reply : {N : Type 0} (home : N → ℕ) (clean : N → Type 0) (parts : MachineParts) (state : MachineState) (user actor : ℕ) (what : What) (hearing : Hearing)
    → IsReplyTo home clean parts state user actor what (replies.Heard hearing)
    → OfHeldCube state user (λ cube. IsHearingOfEntry (actor_items state cube actor) what hearing)
heard-reply home clean parts state user actor (whats.Getcube dim None) hearing is = absurd (cc)
heard-reply home clean parts state user actor (whats.Getcube dim (Some sub)) hearing is = absurd is
heard-reply home clean parts state user actor whats.Peek hearing is = absurd (cc)
heard-reply home clean parts state user actor whats.Drain hearing is = of_nobody (cube_held_by state user) is
heard-reply home clean parts state user actor whats.Freecube hearing is = absurd (cc)
heard-reply home clean parts state user actor (whats.Arm count) hearing is = absurd (cc)
heard-reply home clean parts state user actor (whats.Look found) hearing is = heard-not_found hearing found is
heard-reply home clean parts state user actor (whats.HostTake None) hearing is = absurd (cc)
heard-reply home clean parts state user actor (whats.HostTake (Some number)) hearing is = of_nobody (cube_held_by state user) is
heard-reply home clean parts state user actor (whats.Send pid first to bytes) hearing is = is
heard-reply home clean parts state user actor (whats.Spawn pid image to fresh) hearing is = is
heard-reply home clean parts state user actor (whats.Kill pid to found) hearing is = is
heard-reply home clean parts state user actor (whats.Note pid word) hearing is = is
heard-reply home clean parts state user actor (whats.Take asking dead poller given) hearing is = is

-- to what was said the machine replies by letting hear
heard-by : {N : Type 0} (held : Option HeldCube) (items : HeldCube → List Item) (what : What) (reply : Reply N)
    → IsSomeAnd held (λ cube. IsHearingReply (items cube) what reply) → (hearing : Hearing) × (reply ≡ replies.Heard hearing)
heard-by None items what reply is = absurd is
heard-by (Some cube) items what (replies.Heard hearing) is = (hearing, refl)
heard-by (Some cube) items what other is = absurd is

pub said-heard : {N : Type 0} (home : N → ℕ) (clean : N → Type 0) (parts : MachineParts) (state : MachineState) (user actor : ℕ) (nodes : List ℕ) (standing : Standing)
    (grant : CubeGrant) (said : Say) (reply : Reply N) → IsReplyTo home clean parts state user actor (answer nodes standing actor (with_places_outward grant (call_of_say said))) reply
    → (hearing : Hearing) × (reply ≡ replies.Heard hearing)
unfolding answer
said-heard home clean parts state user actor nodes standing grant (say.Take asking dead poller) reply is =
    heard-by (cube_held_by state user) (λ cube. actor_items state cube actor) (answer nodes standing actor (with_places_outward grant (call_of_say (say.Take asking dead poller)))) reply is
said-heard home clean parts state user actor nodes standing grant (say.Send pid batch) reply is =
    heard-by (cube_held_by state user) (λ cube. actor_items state cube actor) (answer nodes standing actor (with_places_outward grant (call_of_say (say.Send pid batch)))) reply is
said-heard home clean parts state user actor nodes standing grant (say.Spawn pid image to) reply is =
    heard-by (cube_held_by state user) (λ cube. actor_items state cube actor) (answer nodes standing actor (with_places_outward grant (call_of_say (say.Spawn pid image to)))) reply is
said-heard home clean parts state user actor nodes standing grant (say.Kill pid to) reply is =
    heard-by (cube_held_by state user) (λ cube. actor_items state cube actor) (answer nodes standing actor (with_places_outward grant (call_of_say (say.Kill pid to)))) reply is
said-heard home clean parts state user actor nodes standing grant (say.Note pid word) reply is =
    heard-by (cube_held_by state user) (λ cube. actor_items state cube actor) (answer nodes standing actor (with_places_outward grant (call_of_say (say.Note pid word)))) reply is

-- ---- what a box can hear

-- a box can hear what its node can
can-work : (images : List ImageParts) (box : Box) (node : Node) (hearing : Hearing) → box.node ≡ node → greatest_blocks ≤ box.room
    → IsHearable images node (hearing_model hearing) → IsBoxWork images box hearing
can-work images box node (hearings.Start pid image) same room is =
    (is.pid_within, ap (λ (node : Node). (process_at node pid).status) same ∙ unborn-is (process_at node pid).status is.unborn, is.image_within)
can-work images box node (hearings.Mail parcel) same room is = record {
  eligible = subst (λ (node : Node). IsTrue (is_eligible (process_set is_receiving node.processes) (process_set is_stopped node.processes) (mail (parcel_of parcel)))) (sym same) is.eligible;
  apart = subst (λ (node : Node). ¬ Contains (blocks_of node) parcel.block.id) (sym same) (not_contained parcel.block.id (blocks_of node) (sym (count-is parcel.block.id (blocks_of node)) ∙ is.new));
  room = omega (arith, ap (λ (node : Node). length (blocks_of node)) same, is.room, room);
}
can-work images box node (hearings.Kill pid) same room is =
    (is.pid_within, λ e. born-is (process_at node pid).status is.born (sym (ap (λ (node : Node). (process_at node pid).status) same) ∙ e))
can-work images box node (hearings.Poll pid) same room is = ap (λ (node : Node). slice_get node.polling_ids 0) same ∙ is.first
can-work images box node hearings.Idle same room is = tt
can-work images box node hearings.Spent same room is = tt
can-work images box node (hearings.Posted batch) same room is = tt
can-work images box node hearings.Spawned same room is = tt
can-work images box node hearings.Used same room is = tt
can-work images box node hearings.Killed same room is = tt
can-work images box node hearings.Unused same room is = tt
can-work images box node hearings.Already same room is = tt
can-work images box node hearings.Noted same room is = tt

some-is : {X : Type 0} {x y : X} → Some x ≡ Some y → x ≡ y
some-is e = cc

facts-are : (m : MachineFacts) (parts : MachineParts) (history : List Entry) → parts ≡ m.parts → history ≡ m.history → record { parts = parts; history = history } ≡ m
facts-are m parts history parts_is history_is = λ i. record { parts = parts_is i; history = history_is i }

-- ---- an exchange

-- the cube's place on the machine, and the node's number there
module _ (m : MachineFacts) (grant : Grant) (r : ℕ) (node : HasNode m grant r) where
  placed : IsPlaced m.parts.dim (cube_grant grant)
  placed = placed-of m.parts m.history grant.number (cube_grant grant) node.sound.within node.sound.lawful node.held

  pub mask-small : grant.sub.mask < 2 ^ greatest_dim
  mask-small = omega (arith, placed.sub.mask_within, few_nodes m.parts.dim placed.within, greatest_nodes_lem)

  pub base-small : grant.sub.base < 2 ^ greatest_dim
  base-small = omega (arith, placed.sub.base_within, few_nodes m.parts.dim placed.within, greatest_nodes_lem)

  pub base-apart : IsTrue (is_base grant.sub.mask grant.sub.base)
  base-apart = eq-eqb (extract grant.sub.base grant.sub.mask) 0 placed.sub.apart

  pub number-small : r < 2 ^ ones_of greatest_dim grant.sub.mask
  number-small = rw placed.sub.dimension node.within

-- the list of images that the program has, as the model has it, is just the machine's
module _ (m : MachineFacts) (grant : Grant) (r : ℕ) (node : HasNode m grant r) (box box' : Box) (call : Call) (called : HasSaidCall m grant r box box' call) where
  abbrev cg : CubeGrant
  cg = cube_grant grant

  said : IsSaidBy m.parts m.history grant.number cg r box.node
  said = boxes-say m.parts m.history grant.number cg node.sound.within node.sound.lawful node.held r box.node node.within called.before.stands

  -- the call fits
  pub call-fits : IsFitting m.parts m.history grant.user (node_of grant.sub r) (cube_request call)
  call-fits = subst (λ call. IsFitting m.parts m.history grant.user (node_of grant.sub r) (cube_request call)) (sym called.call_is) said.fits

  -- the box has as many images as the machine
  pub images-are : box'.node.images ≡ length m.parts.images
  images-are =
      ap (λ (node : Node). node.images) (called.node ∙ said.at_rest)
      ∙ by_seen (λ number grant. r < 2 ^ grant.dim → (says (trace_node m.parts m.history number grant r)).node.images ≡ length m.parts.images)
      m.parts m.history grant.number cg node.sound.within node.sound.lawful
      (λ cube now below. (node-said m.parts m.history cube now r below).became.images ∙ (now.stands.sound.nodes r below).images) node.held node.within

  -- the machine's entry and its reply
  module _ (what : What) (hearing : Hearing) (answered_so : what_of_request m.parts (after m.history) grant.user (node_of grant.sub r) (cube_request call) ≡ Some what)
      (reply : OfHeldCube (after m.history) grant.user (λ cube. IsHearingOfEntry (actor_items (after m.history) cube (node_of grant.sub r)) what hearing)) where
    abbrev pub made : Entry
    made = record { user = grant.user; actor = node_of grant.sub r; what = what }

    is-made : IsCubeCallEntry m.parts m.history cg (node_of grant.sub r) (says box.node).call made
    is-made = record {
      user = refl;
      actor_is = refl;
      what = subst (λ call. what_of_request m.parts (after m.history) grant.user (node_of grant.sub r) (cube_request call) ≡ Some what) called.call_is answered_so;
    }

    right : IsRightAnswer m.parts.images (says box.node) hearing
    right = boxes-can-hear m.parts m.history grant.number cg node.sound.within node.sound.lawful node.held r box.node made hearing node.within called.before.stands is-made reply

    pub can-hear : IsAbleToHear m.parts.images box' hearing
    can-hear = record {
      call = call;
      said = called.said;
      answer = subst (λ call. IsAnswerTo call hearing) (sym called.call_is) right.answers;
      work = can-work m.parts.images box' (says box.node).node hearing called.node (omega (arith, called.room, called.before.ready.room)) right.hearable;
    }

    -- what the exchange came to
    pub exchanged : (m' : MachineFacts) (box'' : Box) → m'.parts ≡ m.parts → m'.history ≡ m.history ++ made ∷ [] → box''.node ≡ node_after_hearing m.parts.images box'.node (hearing_model hearing)
        → box''.room ≡ box'.room → box''.awaited_call ≡ Nothing → length m'.history < 2 ^ 63 → HasExchanged m m' grant r box box'' call (is_work_hearing hearing)
    exchanged m' box'' same_parts grown heard_node room out few =
        let one = calls-add m.parts m.history grant.number cg node.sound.within node.sound.lawful node.held (node_of grant.sub r) (says box.node).call made said.fits is-made in
        let count = entries-count m.parts m.history grant.number cg node.sound.within node.sound.lawful node.held r box.node made hearing node.within called.before.stands is-made reply in
        let hear = boxes-hear m.parts m.history grant.number cg node.sound.within node.sound.lawful node.held r box.node made hearing node.within called.before.stands is-made reply in
        subst (λ m'. HasExchanged m m' grant r box box'' call (is_work_hearing hearing)) (facts-are m' m.parts (m.history ++ made ∷ []) (sym same_parts) (sym grown)) (record {
          entry = made;
          goes_on = record {
            parts = refl;
            history = refl;
            calls = ((refl, is-call), tt);
            trace = one.trace;
            node = record { sound = record { within = node.sound.within; lawful = one.lawful }; held = one.held; within = node.within };
            others = λ other within differs. one.others r other node.within refl (turned other differs);
            store = one.store (out_no_host m.parts.dim cg (placed m grant r node) r);
            few = omega (arith, few, ap {B = ℕ} (λ (h : List Entry). length h) grown);
          };
          actor_is = count.actor_is;
          take = count.take ∙ ap asks_for_work (sym called.call_is);
          dispatch = count.dispatch;
          left = count.left;
          stands = record {
            ready = record { idle = out; room = omega (arith, room, called.room, called.before.ready.room) };
            stands = inl (heard_node ∙ ap (λ (node : Node). node_after_hearing m.parts.images node (hearing_model hearing)) called.node ∙ hear);
          };
          calls = λ no_work.
              subst (λ (node : Node). calls_left node < calls_left box.node) (sym (heard_node ∙ ap (λ (node : Node). node_after_hearing m.parts.images node (hearing_model hearing)) called.node))
              (turns-end m.parts m.history grant.number cg node.sound.within node.sound.lawful node.held r box.node made hearing node.within called.before.stands is-made reply
              (subst (λ call. IsFalse (asks_for_work call)) called.call_is no_work));
        })
      where
        answer-is : (what : What) → what_of_request m.parts (after m.history) grant.user (node_of grant.sub r) (cube_request call) ≡ Some what
            → answer (nodes_of node.held.cube.grant) (cube_standing (after m.history) node.held.cube) (node_of grant.sub r) (with_places_outward node.held.cube.grant call) ≡ what
        answer-is what is = some-is (sym (ap (option_map (λ (cube : HeldCube). answer (nodes_of cube.grant) (cube_standing (after m.history) cube) (node_of grant.sub r) (with_places_outward cube.grant call))) node.held.held) ∙ is)

        is-call : IsTrue (is_some (recorded_call what))
        is-call =
            subst (λ found. IsTrue (is_some found))
            (sym (call_of-answer (nodes_of node.held.cube.grant) (cube_standing (after m.history) node.held.cube) (node_of grant.sub r) (with_places_outward node.held.cube.grant call))
            ∙ ap recorded_call (answer-is what answered_so)) refl

        turned : (other : ℕ) → (other == r) ≡ false → (r == other) ≡ false
        turned other differs = ne_eqb r other (λ same. both_ways (other == r) differs (eq-eqb other r (sym same)))

  -- the machine lets hear in reply to what was said
  pub stands-heard : {N : Type 0} (home : N → ℕ) (clean : N → Type 0) (said : Say) → call ≡ call_of_say said → (entry : Entry) (actor : ℕ) (reply : Reply N)
      → IsAnsweredBy home clean m.parts m.history entry (record { family = grant.user; actor = actor }) (calls.Say said) reply → (hearing : Hearing) × (reply ≡ replies.Heard hearing)
  stands-heard home clean said is_said entry actor reply stands =
      let cube = node.held.cube in
      said-heard home clean m.parts (after m.history) grant.user actor (nodes_of cube.grant) (cube_standing (after m.history) cube) cube.grant said reply
      (subst (λ what. IsReplyTo home clean m.parts (after m.history) grant.user actor what reply)
      (sym (some-is (sym (ap (option_map (λ (cube : HeldCube). answer (nodes_of cube.grant) (cube_standing (after m.history) cube) actor
      (with_places_outward cube.grant (call_of_say said)))) node.held.held) ∙ stands.answer))) stands.reply_is)

  -- the same, of the entry that stands for the call
  module _ {N : Type 0} (home : N → ℕ) (clean : N → Type 0) (said : Say) (is_said : call ≡ call_of_say said) (hearing : Hearing) (entry : Entry) (actor : ℕ) (at : actor ≡ node_of grant.sub r)
      (stands : IsAnsweredBy {N = N} home clean m.parts m.history entry (record { family = grant.user; actor = actor }) (calls.Say said) (replies.Heard hearing)) where
    answers : what_of_request m.parts (after m.history) grant.user (node_of grant.sub r) (cube_request call) ≡ Some entry.what
    answers =
        subst (λ actor. what_of_request m.parts (after m.history) grant.user actor (cube_request call) ≡ Some entry.what) at
        (subst (λ call. what_of_request m.parts (after m.history) grant.user actor (cube_request call) ≡ Some entry.what) (sym is_said) stands.answer)

    reply : OfHeldCube (after m.history) grant.user (λ cube. IsHearingOfEntry (actor_items (after m.history) cube (node_of grant.sub r)) entry.what hearing)
    reply =
        subst (λ actor. OfHeldCube (after m.history) grant.user (λ cube. IsHearingOfEntry (actor_items (after m.history) cube actor) entry.what hearing)) at
        (heard-reply {N = N} home clean m.parts (after m.history) grant.user actor entry.what hearing stands.reply_is)

    pub stands-hear : IsAbleToHear m.parts.images box' hearing
    stands-hear = can-hear entry.what hearing answers reply

    entry-is : entry ≡ made entry.what hearing answers reply
    entry-is = λ i. record { user = (stands.whose_is i).family; actor = ((ap (λ (who : Who). who.actor) stands.whose_is ∙ at) i); what = entry.what }

    pub stands-exchanged : (m' : MachineFacts) (box'' : Box) → m'.parts ≡ m.parts → m'.history ≡ m.history ++ entry ∷ [] → box''.node ≡ node_after_hearing m.parts.images box'.node (hearing_model hearing)
        → box''.room ≡ box'.room → box''.awaited_call ≡ Nothing → length m'.history < 2 ^ 63 → HasExchanged m m' grant r box box'' call (is_work_hearing hearing)
    stands-exchanged m' box'' same_parts grown = exchanged entry.what hearing answers reply m' box'' same_parts (grown ∙ ap (λ e. m.history ++ e ∷ []) entry-is)

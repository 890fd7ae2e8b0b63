-- What a user has behind a command.
use Rattle.std.proofs.Common.{◌≡◌, ℕ, ◌<◌, ◌≤◌, nat_lt, Bool, true, false, ◌==◌, if◌then◌else◌, List, [], ◌∷◌, ◌++◌, length, map, is_some, IsSomeAnd, Some, None, option_map, IsTrue, refl, ap, sym, ◌∙◌, subst, append-nil, inr, ◌⊎◌, inl}
use Rattle.ce_model.specs.declared.topology.TheConstants.{HOST}
use Rattle.ce_model.specs.declared.topology.Place.{Place}
use Rattle.ce_model.specs.declared.topology.BlockId.{BlockId}
use Rattle.ce_model.specs.declared.entry.Entry.{Entry}
use Rattle.ce_model.specs.declared.entry.What.{What}
use Rattle.ce_model.specs.declared.entry.What.TheVariants as whats
use Rattle.ce_model.specs.Node as model
use Rattle.ce_model.specs.Node.{spawn_call, kill_call, arm_call, look_call, mail_call}
use Rattle.ce_model.specs.Parcels.{Item}
use Rattle.ce_model.specs.Trace.{Standing, waiting_items}
use Rattle.ce_model.specs.Answers.{answer, recorded_call}
use Rattle.ce_model.specs.Cube.{opening, state, store_after, hoststore}
use Rattle.ce_model.specs.Renaming.{CubeGrant, block_outward, renamed_what, entry_inward}
use Rattle.ce_model.specs.Views.{view}
use Rattle.ce_model.specs.Machine.{MachineParts, IsMachine, IsLawful, IsLawfulEntry, HeldCube, MachineState, after, cube_held_by, nodes_of, cube_standing, with_places_outward, peek, cube_request, what_of_request, cube_of}
use Rattle.ce_model.proofs.AloneByEntries.{call_of-answer}
use Rattle.ce_model.proofs.OneMore.{hoststore-more}
use Rattle.ce_solo.proofs.Projection.Law.{after-more}
use Rattle.rk_node.specs.Boxes.{Box, home_of}
use Rattle.ce_machine.specs.Meanings.{MachineFacts}
use Rattle.ce_machine.specs.declared.call.Call.{Call}
use Rattle.ce_machine.specs.declared.call.Reply.{Reply}
use Rattle.ce_machine.specs.declared.call.Reply.TheVariants as replies
use Rattle.ce_machine.specs.Replies.{IsHearingReply, OfHeldCube, actor_items, IsReplyTo}
use Rattle.rk_node.specs.Boxes.{IsCleanBox}
use Rattle.rk_mail.specs.declared.talk.Hearing.{Hearing}
use Rattle.rk_mail.specs.declared.talk.Hearing.TheVariants as hearings
use Rattle.rk_mail.specs.Talk.{IsHearingOfEntry, kill_hearing}
use Rattle.ce_model.specs.declared.entry.KillResult.{KillResult}
use Rattle.ce_model.specs.declared.entry.KillResult.TheVariants as kill_result
use Rattle.ce_host.specs.declared.command.Command.{Command}
use Rattle.ce_host.specs.declared.command.Command.TheVariants.{Getcube, Peek}
use Rattle.ce_host.specs.declared.answer.Answer.{Answer}
use Rattle.ce_cube.specs.Boxes.{IsHeldAs, IsInStep, trace_store}
use Rattle.ce_cube.specs.Crews.{IsLawfulMachine, IsHostInStep, IsCrewInStep, HasCrewGoneOn, box_at, CrewFacts}
use Rattle.ce_daemon.specs.Peeks.{cube_grant}
use Rattle.ce_cube.proofs.Adds.{others-keep}
use Rattle.ce_cube.proofs.Fronts.{mix-calls}
use Rattle.ce_script.specs.Rounds.{RoundKind}
use Rattle.ce_host.specs.declared.answer.Answer.TheVariants as answers
use Rattle.std.specs.Prelude.{Result, Ok, Err, IfOk}
use Rattle.std.proofs.lemmas.Bool.{lt-ltb}
use Rattle.ce_model.specs.Limits.{greatest_count}
use Rattle.ce_model.specs.Node.{is_place}
use Rattle.ce_model.specs.Cube.{spawn_wish, kill_wish, arm_wish, look_wish, mail_wish}
use Rattle.ce_model.specs.Literals.{host_entry}
use Rattle.ce_machine.specs.declared.call.Call.TheVariants as calls
use Rattle.rk_mail.specs.declared.talk.Say.TheVariants as say
use Rattle.ce_cube.proofs.Hosts.{hosts-fit}
use Rattle.ce_record.specs.Requests.{wants_cube, command_place}
use Rattle.ce_record.proofs.AtOnce.{no_place}
use Rattle.ce_script.specs.Commands.{kill_reply}
use Rattle.ce_script.specs.Moments.{AreCallsOfUser}
use Rattle.ce_record.specs.Requests.{command_request, entry_reply, hearing_reply}
use Rattle.ce_record.specs.Run.{IsNextCommand}
use Rattle.ce_record.proofs.Requests.{asked}
use Rattle.ce_run.specs.UserStates.{HasDone, IsUserAt, home_host, cube_crew, UserFacts}
use Rattle.ce_run.specs.Asking.{IsHostCall, IsStartOrEnd, AreNodesInStep, HasHostCalled}

-- ---- what stays

-- a crew stays in step where its user holds the same, with the same trace
pub crew-keeps : (parts : MachineParts) (h h' : List Entry) (crew : CrewFacts) → cube_held_by (after h') crew.grant.user ≡ cube_held_by (after h) crew.grant.user
    → view h' crew.grant.number ≡ view h crew.grant.number → IsCrewInStep parts h crew → IsCrewInStep parts h' crew
crew-keeps parts h h' crew same trace step =
    let grant = cube_grant crew.grant in
    let back = sym trace in
    record {
      held = record { cube = step.held.cube; held = same ∙ step.held.held; number_is = step.held.number_is; grant_is = step.held.grant_is; goes_on = step.held.goes_on };
      boxes = record {
        all = step.boxes.all;
        ready = step.boxes.ready;
        in_step = λ r below. subst (λ t. IsInStep grant (state (cube_of parts.images grant) (opening (cube_of parts.images grant)) r t) (box_at crew.boxes r).node)
            back (step.boxes.in_step r below);
      };
      host = record {
        blocks = step.host.blocks ∙ ap (λ t. map (block_outward grant) (hoststore (opening (cube_of parts.images grant)) t)) back;
        room = step.host.room;
        spare = step.host.spare;
      };
      entries = step.entries ∙ ap length back;
    }

pub nodes-of : (parts : MachineParts) (h : List Entry) (crew : CrewFacts) → IsCrewInStep parts h crew → AreNodesInStep parts h crew
nodes-of parts h crew step = record { held = step.held; boxes = step.boxes; entries = step.entries }

-- ---- commands that make no entry

pub done-at-once : (kind : RoundKind) (before : MachineFacts) (user : ℕ) (command : Command) (answer : Answer) (facts : UserFacts) → IsLawfulMachine before
    → IsNextCommand kind before.parts before.history user command answer [] → IsUserAt before.parts before.history user facts
    → HasDone kind before before user command answer facts
done-at-once kind before user command answer facts machine next state_is = record {
  all_entries = [];
  new_entries = [];
  parts = refl;
  history = sym (append-nil before.history);
  mix = record { own = refl; each = tt };
  whole = inl refl;
  lawful = machine.lawful;
  next = next;
  state_is = state_is;
}

-- ---- a peek

module _ (before behind : MachineFacts) (user : ℕ) (machine : IsLawfulMachine before) (within : user < before.parts.users) where
  peeking : Entry
  peeking = host_entry user whats.Peek

  peek-lawful : IsLawfulEntry before.parts before.history (host_entry user whats.Peek)
  peek-lawful = record { request = peek; fits = (within, refl); answer = refl }

  pub state-beside-peek : (facts : UserFacts) → IsUserAt before.parts before.history user facts → IsUserAt before.parts (before.history ++ host_entry user whats.Peek ∷ []) user facts
  state-beside-peek (home_host host) state_is =
      (ap (λ state. cube_held_by state user) (after-more before.history (host_entry user whats.Peek)) ∙ state_is.0, state_is.1)
  state-beside-peek (cube_crew crew) state_is =
      let aside = others-keep before.parts before.history crew.grant.number (cube_grant crew.grant) machine.within machine.lawful state_is.1.held (host_entry user whats.Peek)
      peek-lawful (inr refl) in (
        state_is.0,
        crew-keeps before.parts before.history (before.history ++ host_entry user whats.Peek ∷ []) crew
            (ap (λ state. cube_held_by state crew.grant.user) (after-more before.history (host_entry user whats.Peek))) aside.trace state_is.1,
      )

-- ---- calls of a cube

some-same : {X : Type 0} (a b : X) → Some a ≡ Some b → a ≡ b
some-same a b e = cc

-- what a call of a cube that is held is answered
pub answer-is : (parts : MachineParts) (state : MachineState) (user : ℕ) (call : model.Call) (what : What) (cube : HeldCube) → cube_held_by state user ≡ Some cube
    → what_of_request parts state user HOST (cube_request call) ≡ Some what
    → answer (nodes_of cube.grant) (cube_standing state cube) HOST (with_places_outward cube.grant call) ≡ what
answer-is parts state user call what cube held e =
    some-same _ _ (sym (ap (option_map (λ (cube : HeldCube). answer (nodes_of cube.grant) (cube_standing state cube) HOST (with_places_outward cube.grant call))) held) ∙ e)

pub answers-call : (nodes : List ℕ) (standing : Standing) (actor : ℕ) (call : model.Call) → is_some (recorded_call (answer nodes standing actor call)) ≡ true
answers-call nodes standing actor call = ap is_some (call_of-answer nodes standing actor call)

-- the entry leaves the host's store
abbrev pub IsKeepingStore : What → Type 0
IsKeepingStore (whats.Send pid first to bytes) = ⊥
IsKeepingStore (whats.HostTake (Some number)) = ⊥
IsKeepingStore other = Unit {0}

kept-store : (place : Place → Place) (block : BlockId → BlockId) (items : List Item) (store : List BlockId) (what : What) → IsKeepingStore what
    → store_after items store (renamed_what place block what) ≡ store
kept-store place block items store (whats.Send pid first to bytes) keeps = absurd keeps
kept-store place block items store (whats.Spawn pid image to fresh) keeps = refl
kept-store place block items store (whats.Kill pid to found) keeps = refl
kept-store place block items store (whats.HostTake None) keeps = refl
kept-store place block items store (whats.HostTake (Some number)) keeps = absurd keeps
kept-store place block items store other keeps = refl

either-store : (b : Bool) (store store' : List BlockId) → store' ≡ store → (if b then store' else store) ≡ store
either-store true store store' same = same
either-store false store store' same = refl

module _ (before behind : MachineFacts) (crew crew' : CrewFacts) (call : Call Box) (reply : Reply Box) (machine : IsLawfulMachine before)
    (held : IsHeldAs before.history crew.grant.number (cube_grant crew.grant))
    (host : IsHostCall before.parts before.history crew.grant.user call) (called : HasHostCalled before behind crew crew' call reply) where
  abbrev grant : CubeGrant
  grant = cube_grant crew.grant

  pub asked-inner : what_of_request before.parts (after before.history) crew.grant.user HOST (cube_request host.inner) ≡ Some called.exchange.what
  asked-inner = ap (what_of_request before.parts (after before.history) crew.grant.user HOST) (sym host.is) ∙ called.exchange.answer

  pub what-is : answer (nodes_of held.cube.grant) (cube_standing (after before.history) held.cube) HOST (with_places_outward held.cube.grant host.inner) ≡ called.exchange.what
  what-is = answer-is before.parts (after before.history) crew.grant.user host.inner called.exchange.what held.cube held.held asked-inner

  store-kept : IsKeepingStore called.exchange.what
      → trace_store before.parts behind.history crew.grant.number grant ≡ trace_store before.parts before.history crew.grant.number grant
  store-kept keeps =
      let o = opening (cube_of before.parts.images grant) in
      let t = view before.history crew.grant.number in
      let made = entry_inward crew.grant.sub (host_entry crew.grant.user called.exchange.what) in
      ap (hoststore o) called.trace ∙ hoststore-more o t made
      ∙ either-store (made.actor == HOST) (hoststore o t) (store_after (waiting_items o.standing HOST t) (hoststore o t) made.what)
      (kept-store _ _ (waiting_items o.standing HOST t) (hoststore o t) called.exchange.what keeps)

  pub gone-on : (kind : RoundKind) → IsHostInStep before.parts behind.history crew.grant crew'.host
      → HasCrewGoneOn kind before behind crew crew' (host_entry crew.grant.user called.exchange.what ∷ [])
  gone-on kind stands =
      let to_parts = sym called.exchange.parts in
      let grant_is = ap (λ (c : CrewFacts). c.grant) called.crew_is in
      let of_cube : AreCallsOfUser crew.grant.user (host_entry crew.grant.user called.exchange.what ∷ []) =
      ((refl, ap (λ what. is_some (recorded_call what)) (sym what-is) ∙ answers-call _ _ HOST (with_places_outward held.cube.grant host.inner)), tt) in
      record {
        all_entries = host_entry crew.grant.user called.exchange.what ∷ [];
        parts = called.exchange.parts;
        history = called.exchange.history;
        mix = mix-calls kind crew.grant.user (host_entry crew.grant.user called.exchange.what ∷ []) of_cube;
        lawful = subst (λ parts. IsLawful parts behind.history) to_parts called.exchange.lawful;
        calls = of_cube;
        grant = grant_is;
        trace = called.trace;
        in_step = subst (λ parts. IsCrewInStep parts behind.history crew') to_parts (record {
          held = called.nodes.held;
          boxes = called.nodes.boxes;
          host = subst (λ g. IsHostInStep before.parts behind.history g crew'.host) (sym grant_is) stands;
          entries = called.nodes.entries;
        });
      }

  -- the host stands as it did where its store stays
  pub gone-on-kept : (kind : RoundKind) → IsHostInStep before.parts before.history crew.grant crew.host → IsKeepingStore called.exchange.what
      → HasCrewGoneOn kind before behind crew crew' (host_entry crew.grant.user called.exchange.what ∷ [])
  gone-on-kept kind stands keeps =
      gone-on kind (subst (λ host. IsHostInStep before.parts behind.history crew.grant host) (sym (ap (λ (c : CrewFacts). c.host) called.crew_is)) (record {
        blocks = stands.blocks ∙ ap (map (block_outward grant)) (sym (store-kept keeps));
        room = stands.room;
        spare = stands.spare;
      }))

-- a command was carried out by calls of the crew
pub done-by : (kind : RoundKind) (before behind : MachineFacts) (crew crew' : CrewFacts) (made : List Entry) (command : Command) (answer : Answer)
    (goes : HasCrewGoneOn kind before behind crew crew' made) → (goes.all_entries ≡ made) ⊎ IsTrue (wants_cube command)
    → IsNextCommand kind before.parts before.history crew.grant.user command answer made
    → HasDone kind before behind crew.grant.user command answer (cube_crew crew')
done-by kind before behind crew crew' made command answer goes whole next = record {
  all_entries = goes.all_entries;
  new_entries = made;
  parts = goes.parts;
  history = goes.history;
  mix = goes.mix;
  whole = whole;
  lawful = subst (λ parts. IsLawful parts behind.history) goes.parts goes.lawful;
  next = next;
  state_is = (ap (λ g. g.user) goes.grant, subst (λ parts. IsCrewInStep parts behind.history crew') goes.parts goes.in_step);
}

-- what asks for a call of a cube wants one
wants-called : (command : Command) (id : BlockId) (call : model.Call) → command_request id command ≡ Some (cube_request call) → IsTrue (wants_cube command)
wants-called (Getcube dim) id call is = absurd (cc)
wants-called Peek id call is = absurd (cc)
wants-called other id call is = refl

-- ---- what a host is told that starts or ends a process

-- an entry by which a process is started or ended
abbrev pub IsReplyAtOnce : What → Type 0
IsReplyAtOnce (whats.Spawn pid image to fresh) = Unit {0}
IsReplyAtOnce (whats.Kill pid to found) = Unit {0}
IsReplyAtOnce other = ⊥

told-answer : (nodes : List ℕ) (standing : Standing) (own : CubeGrant) (call : model.Call) → IsStartOrEnd call → IsReplyAtOnce (answer nodes standing HOST (with_places_outward own call))
unfolding answer
told-answer nodes standing own (spawn_call pid image to) is = tt
told-answer nodes standing own (kill_call pid to) is = tt
told-answer nodes standing own other is = absurd is

told-keeps : (what : What) → IsReplyAtOnce what → IsKeepingStore what
told-keeps (whats.Spawn pid image to fresh) is = tt
told-keeps (whats.Kill pid to found) is = tt
told-keeps other is = absurd is

-- the reply to such an entry is what was heard
abbrev HasHeard : List Item → What → Reply Box → Type 0
HasHeard items what reply = (hearing : Hearing) × (reply ≡ replies.Heard hearing) × IsHearingOfEntry items what hearing

heard-parts : (items : List Item) (what : What) (reply : Reply Box) → IsHearingReply items what reply → HasHeard items what reply
heard-parts items what (replies.Heard hearing) is = (hearing, refl, is)
heard-parts items what other is = absurd is

told-reply : (parts : MachineParts) (state : MachineState) (user actor : ℕ) (what : What) (reply : Reply Box) → IsReplyAtOnce what → IsReplyTo home_of IsCleanBox parts state user actor what reply
    → OfHeldCube state user (λ cube. IsHearingReply (actor_items state cube actor) what reply)
told-reply parts state user actor (whats.Spawn pid image to fresh) reply of is = is
told-reply parts state user actor (whats.Kill pid to found) reply of is = is
told-reply parts state user actor other reply of is = absurd of

spawned-some : (fresh : Bool) (hearing : Hearing) → hearing ≡ (if fresh then hearings.Spawned else hearings.Used) → IsTrue (is_some (hearing_reply hearing))
spawned-some true hearing e = ap (λ h. is_some (hearing_reply h)) e
spawned-some false hearing e = ap (λ h. is_some (hearing_reply h)) e

killed-some : (found : KillResult) (hearing : Hearing) → hearing ≡ kill_hearing found → IsTrue (is_some (hearing_reply hearing))
killed-some kill_result.Killed hearing e = ap (λ h. is_some (hearing_reply h)) e
killed-some kill_result.Unused hearing e = ap (λ h. is_some (hearing_reply h)) e
killed-some kill_result.Already hearing e = ap (λ h. is_some (hearing_reply h)) e

pub told-some : (items : List Item) (what : What) (hearing : Hearing) → IsReplyAtOnce what → IsHearingOfEntry items what hearing → IsTrue (is_some (hearing_reply hearing))
told-some items (whats.Spawn pid image to fresh) hearing of is = spawned-some fresh hearing is
told-some items (whats.Kill pid to found) hearing of is = killed-some found hearing is
told-some items other hearing of is = absurd of

spawned-reply : (fresh : Bool) (hearing : Hearing) → hearing ≡ (if fresh then hearings.Spawned else hearings.Used) → Some (if fresh then answers.Ok else answers.Used) ≡ hearing_reply hearing
spawned-reply true hearing e = ap hearing_reply (sym e)
spawned-reply false hearing e = ap hearing_reply (sym e)

killed-reply : (found : KillResult) (hearing : Hearing) → hearing ≡ kill_hearing found → Some (kill_reply found) ≡ hearing_reply hearing
killed-reply kill_result.Killed hearing e = ap hearing_reply (sym e)
killed-reply kill_result.Unused hearing e = ap hearing_reply (sym e)
killed-reply kill_result.Already hearing e = ap hearing_reply (sym e)

told-replies : (parts : MachineParts) (state : MachineState) (items : List Item) (what : What) (hearing : Hearing) → IsReplyAtOnce what → IsHearingOfEntry items what hearing
    → entry_reply parts state what ≡ hearing_reply hearing
told-replies parts state items (whats.Spawn pid image to fresh) hearing of is = spawned-reply fresh hearing is
told-replies parts state items (whats.Kill pid to found) hearing of is = killed-reply found hearing is
told-replies parts state items other hearing of is = absurd of

module _ (before behind : MachineFacts) (crew crew' : CrewFacts) (call : Call Box) (reply : Reply Box) (machine : IsLawfulMachine before)
    (step : IsCrewInStep before.parts before.history crew)
    (host : IsHostCall before.parts before.history crew.grant.user call) (called : HasHostCalled before behind crew crew' call reply) where
  pub what-told : IsStartOrEnd host.inner → IsReplyAtOnce called.exchange.what
  what-told of =
      subst IsReplyAtOnce (what-is before behind crew crew' call reply machine step.held host called)
      (told-answer _ _ step.held.cube.grant host.inner of)

  abbrev items : List Item
  items = actor_items (after before.history) step.held.cube HOST

  pub heard-told : IsStartOrEnd host.inner → HasHeard items called.exchange.what reply
  heard-told of =
      heard-parts items called.exchange.what reply
      (subst (λ held. IsSomeAnd held (λ cube. IsHearingReply (actor_items (after before.history) cube HOST) called.exchange.what reply)) step.held.held
      (told-reply before.parts (after before.history) crew.grant.user HOST called.exchange.what reply (what-told of) called.exchange.reply_is))

  pub told-done : (kind : RoundKind) (hearing : Hearing) (answer : Answer) → IsStartOrEnd host.inner → IsHearingOfEntry items called.exchange.what hearing → hearing_reply hearing ≡ Some answer
      → (command : Command) (id : BlockId) → command_request id command ≡ Some (cube_request host.inner)
      → HasDone kind before behind crew.grant.user command answer (cube_crew crew')
  told-done kind hearing answer of is told command id request =
      done-by kind before behind crew crew' (host_entry crew.grant.user called.exchange.what ∷ []) command answer
      (gone-on-kept before behind crew crew' call reply machine step.held host called kind step.host (told-keeps called.exchange.what (what-told of)))
      (inr (wants-called command id host.inner request))
      (asked kind before.parts before.history crew.grant.user command id (cube_request host.inner) called.exchange.what answer machine.within machine.lawful request
      (record { fits = host.fits; answer = asked-inner before behind crew crew' call reply machine step.held host called })
      (told-replies before.parts (after before.history) items called.exchange.what hearing (what-told of) is ∙ told))

-- what a reply has that was heard
abbrev pub hearing-or : Hearing → Reply Box → Hearing
hearing-or none (replies.Heard hearing) = hearing
hearing-or none other = none

pub inner-same : (a b : model.Call) → cube_request a ≡ cube_request b → a ≡ b
inner-same a b e = cc

module _ (before behind : MachineFacts) (crew crew' : CrewFacts) (call : Call Box) (reply : Reply Box) (machine : IsLawfulMachine before)
    (step : IsCrewInStep before.parts before.history crew)
    (host : IsHostCall before.parts before.history crew.grant.user call) (called : HasHostCalled before behind crew crew' call reply) where
  pub heard-as : (hearing : Hearing) → reply ≡ replies.Heard hearing → IsStartOrEnd host.inner
      → IsHearingOfEntry (actor_items (after before.history) step.held.cube HOST) called.exchange.what hearing
  heard-as hearing is of =
      let told = heard-told before behind crew crew' call reply machine step host called of in
      subst (IsHearingOfEntry (actor_items (after before.history) step.held.cube HOST) called.exchange.what) (ap (hearing-or hearing) (sym told.1 ∙ is)) told.2

  pub reply-some : (hearing : Hearing) → reply ≡ replies.Heard hearing → IsStartOrEnd host.inner → IsTrue (is_some (hearing_reply hearing))
  reply-some hearing is of =
      told-some (actor_items (after before.history) step.held.cube HOST) called.exchange.what hearing
      (what-told before behind crew crew' call reply machine step host called of) (heard-as hearing is of)

pub if-ok : {A E : Type 0} (r : Result A E) (P Q : A → Type 0) → ((a : A) → P a → Q a) → IfOk r P → IfOk r Q
if-ok (Ok a) P Q f p = f a p
if-ok (Err e) P Q f p = tt

-- ---- commands to a place

pub no-place-done : (kind : RoundKind) (before : MachineFacts) (crew : CrewFacts) (machine : IsLawfulMachine before) (step : IsCrewInStep before.parts before.history crew)
    (command : Command) (to : Place) → command_place command ≡ Some to → is_place crew.grant.dim to ≡ false
    → HasDone kind before before crew.grant.user command answers.NoPlace (cube_crew crew)
no-place-done kind before crew machine step command to names place =
    done-at-once kind before crew.grant.user command answers.NoPlace (cube_crew crew) machine
    (no_place kind before.parts before.history crew.grant.user step.held.cube step.held.held command to names
    (ap (λ (g : CubeGrant). is_place g.dim to) step.held.grant_is ∙ place))
    (refl, step)

module _ (parts : MachineParts) (history : List Entry) (crew : CrewFacts) (machine : IsMachine parts) (lawful : IsLawful parts history)
    (held : IsHeldAs history crew.grant.number (cube_grant crew.grant)) where
  pub may-start : (image : ℕ) (to : Place) → is_place crew.grant.dim to ≡ true → image < length parts.images
      → IsHostCall parts history crew.grant.user (calls.Say (say.Spawn 0 image to))
  may-start image to place below =
      let listed : nat_lt image (length parts.images) ≡ true = lt-ltb image (length parts.images) below in
      record {
        inner = spawn_call 0 image to;
        is = refl;
        fits = hosts-fit parts history crew.grant.number (cube_grant crew.grant) machine lawful held (spawn_wish image to) (spawn_call 0 image to) (rw (place, listed) refl) tt;
      }

  pub may-end : (to : Place) → is_place crew.grant.dim to ≡ true → IsHostCall parts history crew.grant.user (calls.Say (say.Kill 0 to))
  may-end to place = record {
    inner = kill_call 0 to;
    is = refl;
    fits = hosts-fit parts history crew.grant.number (cube_grant crew.grant) machine lawful held (kill_wish to) (kill_call 0 to) (rw place refl) tt;
  }

  pub may-allow : (count : ℕ) → count ≤ greatest_count → IsHostCall parts history crew.grant.user (calls.Arm count)
  may-allow count within = record {
    inner = arm_call count;
    is = refl;
    fits = hosts-fit parts history crew.grant.number (cube_grant crew.grant) machine lawful held (arm_wish count) (arm_call count) refl within;
  }

  pub may-look : IsHostCall parts history crew.grant.user calls.Look
  may-look = record {
    inner = look_call;
    is = refl;
    fits = hosts-fit parts history crew.grant.number (cube_grant crew.grant) machine lawful held look_wish look_call refl tt;
  }

  pub may-take : IsHostCall parts history crew.grant.user calls.HostTake
  may-take = record {
    inner = mail_call;
    is = refl;
    fits = hosts-fit parts history crew.grant.number (cube_grant crew.grant) machine lawful held mail_wish mail_call refl tt;
  }

-- An entry of a node is of its turn, and takes a dispatch exactly where it gives work.
use Rattle.std.proofs.Common.{◌≡◌, ℕ, ◌+◌, ◌-◌, ◌^◌, ◌<◌, ◌≤◌, Bool, true, false, if◌then◌else◌, List, [], ◌∷◌, ◌++◌, map, Option, refl, ap, sym, ◌∙◌, arith}
use Rattle.ce_model.specs.declared.topology.BlockId.{BlockId}
use Rattle.ce_model.specs.declared.topology.Place.{Place}
use Rattle.ce_model.specs.declared.entry.Entry.{Entry}
use Rattle.ce_model.specs.declared.entry.What.{What}
use Rattle.ce_model.specs.declared.entry.What.TheVariants as whats
use Rattle.ce_model.specs.declared.entry.KillResult.{KillResult}
use Rattle.ce_model.specs.declared.entry.KillResult.TheVariants as kill_result
use Rattle.ce_model.specs.declared.entry.TakeResult.{TakeResult}
use Rattle.ce_model.specs.declared.entry.TakeResult.TheVariants as take_result
use Rattle.ce_model.specs.Parcels.{Item}
use Rattle.ce_model.specs.Node.{Node, Call, take_call, send_call, spawn_call, kill_call, note_call, arm_call, look_call, mail_call}
use Rattle.ce_model.specs.Saying.{says}
use Rattle.ce_model.specs.Trace.{Standing, is_work, allowed_dispatches_after, made_dispatches_after, allowed_dispatches, made_dispatches, waiting_items}
use Rattle.ce_model.specs.Answers.{answer}
use Rattle.ce_model.specs.Cube.{Cube, opening, state_after_trace, node_numbers}
use Rattle.ce_model.specs.Subcubes.{relative_number, node_of}
use Rattle.ce_model.specs.Renaming.{place_inward, block_inward, block_outward, renamed_what, renamed_item, entry_inward}
use Rattle.ce_model.specs.Views.{view}
use Rattle.ce_model.specs.Machine.{MachineParts, HeldCube, cube_of}
use Rattle.ce_model.proofs.OneMore.{armed-more, dispatched-more}
use Rattle.rk_mail.specs.declared.talk.Hearing.{Hearing}
use Rattle.rk_mail.specs.Talk.{IsHearingOfTake, kill_hearing, IsHearingOfEntry}
use Rattle.ce_script.specs.Rounds.{is_take, is_dispatch, asks_for_work}
use Rattle.ce_solo.proofs.Projection.Numbers.{relative_out}
use Rattle.ce_cube.specs.Boxes.{trace_node, IsStandIn, IsCubeCallEntry, IsHearingOfNode}
use Rattle.ce_cube.specs.Rounds.{is_work_hearing, dispatches_left, IsEntryOfNode}
use Rattle.ce_cube.specs.Laws.{EntriesCount, BoxesInStepEndTurns}
use Rattle.ce_cube.proofs.Held.{IsSeen, by_seen, held-within}
use Rattle.ce_cube.proofs.Says.{says-of, asks-renamed}
use Rattle.ce_cube.proofs.Adds.{one-more}
use Rattle.ce_cube.proofs.Hears.{heard-own}
use Rattle.ce_cube.proofs.CanHear.{entry-is}

-- ---- what is heard, and what its entry counts

-- work that is given is work that is heard
given-work : (items : List Item) (given : TakeResult) (hearing : Hearing) → IsHearingOfTake items given hearing → is_work given ≡ is_work_hearing hearing
given-work items (take_result.Start pid image) hearing is = sym (ap is_work_hearing is)
given-work items (take_result.Mail pid number) hearing is = sym (ap is_work_hearing is.1)
given-work items (take_result.Kill pid) hearing is = sym (ap is_work_hearing is)
given-work items (take_result.Poll pid) hearing is = sym (ap is_work_hearing is)
given-work items take_result.Idle hearing is = sym (ap is_work_hearing is)
given-work items take_result.Spent hearing is = sym (ap is_work_hearing is)

-- an entry counts so, by what was heard
record IsCounted (what : What) (hearing : Hearing) : Type 0 where
  dispatch : (user actor : ℕ) → is_dispatch (record { user = user; actor = actor; what = what }) ≡ is_work_hearing hearing
  allowed_dispatches : (count : ℕ) → allowed_dispatches_after count what ≡ count
  made_dispatches : (count : ℕ) → made_dispatches_after count what ≡ count + (if is_work_hearing hearing then 1 else 0)

taken-counts : (b : Bool) (count : ℕ) → (if b then count + 1 else count) ≡ count + (if b then 1 else 0)
taken-counts true count = refl
taken-counts false count = omega arith

take-counts : (asking dead : ℕ) (poller : Option ℕ) (given : TakeResult) (hearing : Hearing) → is_work given ≡ is_work_hearing hearing → IsCounted (whats.Take asking dead poller given) hearing
take-counts asking dead poller given hearing work = record {
  dispatch = λ user actor. work;
  allowed_dispatches = λ count. refl;
  made_dispatches = λ count. ap (λ b. if b then count + 1 else count) work ∙ taken-counts (is_work_hearing hearing) count;
}

no_work : (what : What) (hearing : Hearing) → ((user actor : ℕ) → is_dispatch (record { user = user; actor = actor; what = what }) ≡ false) → ((count : ℕ) → allowed_dispatches_after count what ≡ count)
    → ((count : ℕ) → made_dispatches_after count what ≡ count) → is_work_hearing hearing ≡ false → IsCounted what hearing
no_work what hearing dispatch allowed_dispatches made_dispatches none = record {
  dispatch = λ user actor. dispatch user actor ∙ sym none;
  allowed_dispatches = allowed_dispatches;
  made_dispatches = λ count. made_dispatches count ∙ omega (arith, ap {B = ℕ} (λ b. if b then 1 else 0) none);
}

fresh-work : (fresh : Bool) (items : List Item) (to : Place) (hearing : Hearing) → IsHearingOfEntry items (whats.Spawn 0 0 to fresh) hearing → is_work_hearing hearing ≡ false
fresh-work true items to hearing is = ap is_work_hearing is
fresh-work false items to hearing is = ap is_work_hearing is

kill-work : (found : KillResult) (hearing : Hearing) → hearing ≡ kill_hearing found → is_work_hearing hearing ≡ false
kill-work kill_result.Killed hearing is = ap is_work_hearing is
kill-work kill_result.Unused hearing is = ap is_work_hearing is
kill-work kill_result.Already hearing is = ap is_work_hearing is

heard-counts : (place : Place → Place) (block : BlockId → BlockId) (items : List Item) (what : What) (hearing : Hearing) → IsHearingOfEntry items what hearing → IsCounted (renamed_what place block what) hearing
heard-counts place block items (whats.Take asking dead poller given) hearing is = take-counts asking dead poller given hearing (given-work items given hearing is)
heard-counts place block items (whats.Send pid first to bytes) hearing is = no_work _ hearing (λ user actor. refl) (λ count. refl) (λ count. refl) (ap is_work_hearing is)
heard-counts place block items (whats.Spawn pid image to fresh) hearing is = no_work _ hearing (λ user actor. refl) (λ count. refl) (λ count. refl) (fresh-work fresh items to hearing is)
heard-counts place block items (whats.Kill pid to found) hearing is = no_work _ hearing (λ user actor. refl) (λ count. refl) (λ count. refl) (kill-work found hearing is)
heard-counts place block items (whats.Note pid word) hearing is = no_work _ hearing (λ user actor. refl) (λ count. refl) (λ count. refl) (ap is_work_hearing is)
heard-counts place block items other hearing is = absurd is

-- an entry is a Take whatever its names are, and is one where its call asks for work
takes-renamed : (place : Place → Place) (block : BlockId → BlockId) (user actor : ℕ) (what : What)
    → is_take (record { user = user; actor = actor; what = renamed_what place block what }) ≡ is_take (record { user = user; actor = actor; what = what })
takes-renamed place block user actor (whats.Send pid first to bytes) = refl
takes-renamed place block user actor (whats.Spawn pid image to fresh) = refl
takes-renamed place block user actor (whats.Kill pid to found) = refl
takes-renamed place block user actor other = refl

pub call-takes : (nodes : List ℕ) (standing : Standing) (r user actor : ℕ) (call : Call)
    → is_take (record { user = user; actor = actor; what = answer nodes standing r call }) ≡ asks_for_work call
unfolding answer
call-takes nodes standing r user actor (take_call asking dead poller) = refl
call-takes nodes standing r user actor (send_call pid to bytes) = refl
call-takes nodes standing r user actor (spawn_call pid image to) = refl
call-takes nodes standing r user actor (kill_call pid to) = refl
call-takes nodes standing r user actor (note_call pid word) = refl
call-takes nodes standing r user actor (arm_call count) = refl
call-takes nodes standing r user actor look_call = refl
call-takes nodes standing r user actor mail_call = refl

-- ---- the box

module _ (parts : MachineParts) (history : List Entry) (cube : HeldCube) (now : IsSeen parts history cube) (r : ℕ) (below : r < 2 ^ cube.grant.dim) (box : Node)
    (stands : IsStandIn cube.grant (trace_node parts history cube.number cube.grant r) box) (entry : Entry)
    (made : IsCubeCallEntry parts history cube.grant (node_of cube.grant.sub r) (says box).call entry) (hearing : Hearing)
    (is : IsHearingOfNode history cube.grant r entry.what hearing) where
  abbrev own : Cube
  own = cube_of parts.images cube.grant

  abbrev inner : Entry
  inner = entry_inward cube.grant.sub entry

  abbrev call : Call
  call = (says (trace_node parts history cube.number cube.grant r)).call

  abbrev work : ℕ
  work = if is_work_hearing hearing then 1 else 0

  counts : IsCounted inner.what hearing
  counts =
      heard-counts (place_inward cube.grant.sub) (block_inward cube.grant.sub)
      (map (renamed_item (block_outward cube.grant)) (waiting_items (opening own).standing r (view history cube.number))) entry.what hearing
      (heard-own parts history cube now r below box stands entry hearing is)

  left-by : (t : List Entry) → t ≡ view history cube.number ++ inner ∷ [] → made_dispatches (opening own).standing t ≤ allowed_dispatches (opening own).standing t
      → allowed_dispatches (opening own).standing t - made_dispatches (opening own).standing t + work ≡ dispatches_left parts history cube.number cube.grant
  left-by t same within =
      let o = (opening own).standing in
      let before = view history cube.number in
      omega (
        arith,
        within,
        ap (allowed_dispatches o) same ∙ armed-more o before inner ∙ counts.allowed_dispatches (allowed_dispatches o before),
        ap (made_dispatches o) same ∙ dispatched-more o before inner ∙ counts.made_dispatches (made_dispatches o before),
      )

  entry-of : IsEntryOfNode parts history cube.number cube.grant r (says box).call entry hearing
  entry-of =
      let said = says-of parts history cube now r below box stands in
      let more = one-more parts history cube now (node_of cube.grant.sub r) (says box).call entry said.fits made in
      record {
        actor_is = ap (relative_number cube.grant.sub) made.actor_is ∙ relative_out parts.dim cube.grant now.placed r below;
        take = takes-renamed (place_inward cube.grant.sub) (block_inward cube.grant.sub) entry.user inner.actor entry.what
            ∙ ap (λ what. is_take (record { user = entry.user; actor = inner.actor; what = what }))
            (entry-is parts history cube now r below box stands entry made)
            ∙ takes-renamed _ _ entry.user inner.actor _
            ∙ call-takes (node_numbers cube.grant.dim) (state_after_trace own (opening own) (view history cube.number)).standing r entry.user inner.actor call
            ∙ sym (ap asks_for_work said.call ∙ asks-renamed (block_outward cube.grant) call);
        dispatch = counts.dispatch inner.user inner.actor;
        left = left-by (view (history ++ entry ∷ []) cube.number) more.trace
            (held-within parts (history ++ entry ∷ []) cube.number cube.grant now.machine more.lawful more.held);
      }

pub entries-count : EntriesCount
entries-count parts history number grant machine lawful held r box entry hearing below stands made is =
    by_seen
    (λ number grant. r < 2 ^ grant.dim → IsStandIn grant (trace_node parts history number grant r) box
    → IsCubeCallEntry parts history grant (node_of grant.sub r) (says box).call entry → IsHearingOfNode history grant r entry.what hearing
    → IsEntryOfNode parts history number grant r (says box).call entry hearing) parts history number grant machine lawful
    (λ cube now below stands made is. entry-of parts history cube now r below box stands entry made hearing is) held below stands made is

pub boxes_in_step-end-turns : BoxesInStepEndTurns
boxes_in_step-end-turns parts history number grant box steps = λ r below. (steps r below).asks

-- Which answers a box can hear.
use Rattle.std.proofs.Common.{◌≡◌, ℕ, ◌<◌, ◌≤◌, Bool, true, false, List, [], ◌∷◌, length, find, slice_get, Option, Some, None, IsTrue, refl, ap, sym, subst, arith, inl, inr}
use Rattle.rv_model.specs.Image.{ImageParts}
use Rattle.ce_model.specs.declared.topology.BlockId.{BlockId}
use Rattle.ce_model.specs.declared.topology.Place.{Place}
use Rattle.ce_model.specs.declared.entry.KillResult.{KillResult}
use Rattle.ce_model.specs.declared.entry.KillResult.TheVariants.{Killed, Unused, Already}
use Rattle.ce_model.specs.Limits.{home_blocks_lem, greatest_blocks, greatest_blocks_lem}
use Rattle.ce_model.specs.Blocks.{blocks_of_home}
use Rattle.ce_model.specs.Lists.{without_first}
use Rattle.ce_model.specs.Parcels.{Item, start, mail, kill, is_eligible}
use Rattle.ce_model.specs.Process.{is_receiving, is_stopped}
use Rattle.ce_model.specs.Node.{Node, Call, take_call, spawn_call, kill_call, blocks_of, process_set, take_call_of}
use Rattle.ce_model.proofs.Subcubes.{find-passes}
use Rattle.ce_solo.proofs.Counting.{hit-self, count, count-nil, count-one}
use Rattle.ce_solo.proofs.Items.{parcel_ids}
use Rattle.ce_solo.proofs.Words.{call_ids}
use Rattle.ce_solo.proofs.Fresh.{rising-home}
use Rattle.rk_mail.specs.declared.talk.Hearing.{Hearing}
use Rattle.rk_mail.specs.declared.talk.Hearing.TheVariants.{Poll, Idle}
use Rattle.rk_mail.specs.declared.talk.Hearing.TheVariants as hearings
use Rattle.rk_mail.specs.Talk.{is_take_hearing, IsAnswerTo, spawn_hearing, kill_hearing}
use Rattle.rk_node.specs.Boxes.{Box}
use Rattle.rk_node.specs.Answering.{IsBoxWork}
use Rattle.xm_block.proofs.HomeBlocks.{length-blocks_of_home}
use Rattle.rk_node.proofs.Names.{not_contained}
use Rattle.rk_node.proofs.Sorted.{once-rising}
use Rattle.rk_rows.specs.Lone.{hearing_ids, AreAtOnePlace, HasQueued, IsEligibleItem, IsAnswerable, IsAnsweredAlone}
use Rattle.rk_rows.proofs.Counts.{length-counts, taken-ids}

-- ---- what a Take says

taken-asking : (asking dead : ℕ) (poller : Option ℕ) (node : Node) → take_call asking dead poller ≡ take_call_of node → asking ≡ process_set is_receiving node.processes
taken-asking asking dead poller node e = cc

taken-dead : (asking dead : ℕ) (poller : Option ℕ) (node : Node) → take_call asking dead poller ≡ take_call_of node → dead ≡ process_set is_stopped node.processes
taken-dead asking dead poller node e = cc

taken-poller : (asking dead : ℕ) (poller : Option ℕ) (node : Node) → take_call asking dead poller ≡ take_call_of node → poller ≡ slice_get node.polling_ids 0
taken-poller asking dead poller node e = cc

-- ---- blocks

own-once : (id : BlockId) → count id (blocks_of_home 0) ≤ 1
own-once id = once-rising id (blocks_of_home 0) (rising-home 0)

-- a box whose blocks are the node's own has room for more
pub few-blocks : (box : Box) (away : List BlockId) (items : List Item) → greatest_blocks ≤ box.room → AreAtOnePlace box.node away items → length (blocks_of box.node) < box.room
few-blocks box away items room at =
    omega (
      arith,
      length-counts (blocks_of box.node) (blocks_of_home 0) (λ id. omega (arith, at.places id)),
      length-blocks_of_home 0,
      home_blocks_lem,
      greatest_blocks_lem,
      room,
    )

-- an item that waits and can be given is one for the box
pub item-for : (box : Box) (asking dead : ℕ) (poller : Option ℕ) (items : List Item) (item : Item) → IsAnswerable box (take_call asking dead poller) items
    → find (is_eligible asking dead) items ≡ Some item → IsEligibleItem box item
item-for box asking dead poller items (start pid image) can found = tt
item-for box asking dead poller items (kill pid) can found = tt
item-for box asking dead poller items (mail parcel) can found =
    let id = parcel.block.id in
    let is = can.said.2 in
    let passes : is_eligible asking dead (mail parcel) ≡ true = find-passes (is_eligible asking dead) items (mail parcel) found in
    let waits = taken-ids id (is_eligible asking dead) items (mail parcel) found in
    record {
      eligible = subst (λ asking. IsTrue (is_eligible asking (process_set is_stopped box.node.processes) (mail parcel))) (taken-asking asking dead poller box.node is)
          (subst (λ dead. IsTrue (is_eligible asking dead (mail parcel))) (taken-dead asking dead poller box.node is) passes);
      apart = not_contained id (blocks_of box.node) (omega (arith, can.places.places id, own-once id, waits, count-one id id, hit-self id));
      room = few-blocks box (call_ids (take_call asking dead poller)) items can.room can.places;
    }

-- ---- answers

-- the item is given
pub item-answers : (images : List ImageParts) (box : Box) (asking dead : ℕ) (poller : Option ℕ) (items rest : List Item) (item : Item) (hearing : Hearing)
    → IsAnswerable box (take_call asking dead poller) items → find (is_eligible asking dead) items ≡ Some item → rest ≡ without_first (is_eligible asking dead) items
    → IsBoxWork images box hearing → IsTrue (is_take_hearing hearing) → hearing_ids hearing ≡ parcel_ids (item ∷ []) → IsAnsweredAlone images box hearing rest
item-answers images box asking dead poller items rest item hearing can found left work take blocks = record {
  can = record { call = take_call asking dead poller; said = can.said; answer = take; work = work };
  places = record {
    places = λ id. omega (
      arith,
      can.places.places id,
      count-nil id,
      taken-ids id (is_eligible asking dead) items item found,
      ap (count id) blocks,
      ap (λ items. count id (parcel_ids items)) left,
    );
  };
}

-- the one that polls longest is told so
pub poll-answers : (images : List ImageParts) (box : Box) (asking dead pid : ℕ) (items : List Item) → IsAnswerable box (take_call asking dead (Some pid)) items
    → IsAnsweredAlone images box (Poll pid) items
poll-answers images box asking dead pid items can = record {
  can = record { call = take_call asking dead (Some pid); said = can.said; answer = refl; work = sym (taken-poller asking dead (Some pid) box.node can.said.2) };
  places = record { places = λ id. can.places.places id };
}

pub idle-answers : (images : List ImageParts) (box : Box) (asking dead : ℕ) (items : List Item) → IsAnswerable box (take_call asking dead None) items → IsAnsweredAlone images box Idle items
idle-answers images box asking dead items can = record {
  can = record { call = take_call asking dead None; said = can.said; answer = refl; work = tt };
  places = record { places = λ id. can.places.places id };
}

-- a call that asks for no work is answered, and its blocks wait
pub call-answers : (images : List ImageParts) (box : Box) (call : Call) (before after : List Item) (hearing : Hearing) → IsAnswerable box call before → IsAnswerTo call hearing
    → IsBoxWork images box hearing → hearing_ids hearing ≡ [] → HasQueued (call_ids call) before after → IsAnsweredAlone images box hearing after
call-answers images box call before after hearing can answer work none queued = record {
  can = record { call = call; said = can.said; answer = answer; work = work };
  places = record { places = λ id. omega (arith, can.places.places id, queued.counts id, ap (count id) none, count-nil id) };
}

-- a spawn is answered by whether the id was never used before
pub spawn-answers : (images : List ImageParts) (box : Box) (pid image : ℕ) (to : Place) (before after : List Item) (fresh : Bool) → IsAnswerable box (spawn_call pid image to) before
    → HasQueued [] before after → IsAnsweredAlone images box (spawn_hearing fresh) after
spawn-answers images box pid image to before after true can queued = call-answers images box (spawn_call pid image to) before after hearings.Spawned can (inl refl) tt refl queued
spawn-answers images box pid image to before after false can queued = call-answers images box (spawn_call pid image to) before after hearings.Used can (inr refl) tt refl queued

-- a kill is answered by what it found
pub kill-answers : (images : List ImageParts) (box : Box) (pid : ℕ) (to : Place) (before after : List Item) (found : KillResult) → IsAnswerable box (kill_call pid to) before
    → HasQueued [] before after → IsAnsweredAlone images box (kill_hearing found) after
kill-answers images box pid to before after Killed can queued = call-answers images box (kill_call pid to) before after hearings.Killed can (inl refl) tt refl queued
kill-answers images box pid to before after Unused can queued = call-answers images box (kill_call pid to) before after hearings.Unused can (inr (inl refl)) tt refl queued
kill-answers images box pid to before after Already can queued = call-answers images box (kill_call pid to) before after hearings.Already can (inr (inr refl)) tt refl queued

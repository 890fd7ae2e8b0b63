-- An entry that its actor makes next leaves a sound cube, and takes and sends only what it can.
use Rattle.std.proofs.Common.{◌≡◌, ℕ, ◌^◌, ◌<◌, ◌≤◌, Bool, true, false, not, ◌==◌, if◌then◌else◌, List, [], ◌∷◌, ◌++◌, find, map, Option, Some, None, option_map, option_and_then, refl, sym, ◌∙◌, subst, arith, inl, inr}
use Rattle.std.specs.List.{AllByRecursion, list_any}
use Rattle.std.proofs.lemmas.Bool.{cases_Bool, both_ways, ne_eqb, eqb-true, ltb-true, not-true, or_from, not_from_false}
use Rattle.ce_model.specs.declared.topology.TheConstants.{HOST}
use Rattle.ce_model.specs.declared.topology.Place.{Place}
use Rattle.ce_model.specs.declared.entry.Entry.{Entry}
use Rattle.ce_model.specs.declared.entry.What.{What}
use Rattle.ce_model.specs.declared.entry.What.TheVariants as whats
use Rattle.ce_model.specs.declared.entry.KillResult.{KillResult}
use Rattle.ce_model.specs.declared.entry.KillResult.TheVariants.{Killed, Unused, Already}
use Rattle.ce_model.specs.declared.entry.TakeResult.{TakeResult}
use Rattle.ce_model.specs.declared.entry.TakeResult.TheVariants.{Start, Mail, Kill, Poll, Idle, Spent}
use Rattle.ce_model.specs.Parcels.{Parcel, Item, start, mail, kill, take_result_of, is_item, is_named_by, message_parcels}
use Rattle.ce_model.specs.Node.{Call, take_call, send_call, spawn_call, kill_call, note_call, arm_call, look_call, mail_call, is_place}
use Rattle.ce_model.specs.Trace.{NodeRecord, Standing, items_to}
use Rattle.ce_model.specs.Answers.{is_among, kill_result, offer_of, first_number, answer}
use Rattle.ce_model.specs.Saying.{says}
use Rattle.ce_model.specs.Cube.{Cube, CubeState, IsCube, Wish, call_of_wish, is_node}
use Rattle.ce_model.specs.Sound.{numbers_of, IsItemOf, IsHostItem, IsSound}
use Rattle.ce_model.proofs.OneMore.{taken_for, is_untaken}
use Rattle.ce_solo.proofs.Lists.{all-weaker, all-filter}
use Rattle.ce_solo.proofs.Words.{HasMadeCall}
use Rattle.ce_solo.proofs.Sending.{node_parcels, from-count}
use Rattle.ce_solo.proofs.Entries.{entry_in, state_after}
use Rattle.ce_solo.proofs.NodeEntries.{node-said, notes-acts, spawned-acts, killed-acts, kill_accepted}
use Rattle.ce_solo.proofs.NodeSends.{sends-acts}
use Rattle.ce_solo.proofs.NodeTakes.{takes-acts}
use Rattle.ce_solo.proofs.HostEntries.{host-entry}

-- ---- the cube stays sound

pub node-entry : (cube : Cube) (s : CubeState) (r : ℕ) (call : Call) → IsCube cube → r < 2 ^ cube.dim → IsSound cube s → HasMadeCall (s.node r) (says (s.node r)).node call
    → IsSound cube (state_after cube s (entry_in cube s r call))
unfolding answer
node-entry cube s r (take_call asking dead poller) of below sound said = takes-acts cube s r of below sound asking dead poller said
node-entry cube s r (send_call pid to bytes) of below sound said = sends-acts cube s r of below sound pid to bytes said
node-entry cube s r (spawn_call pid image to) of below sound said =
    spawned-acts cube s r of below sound pid image to (not (is_among to.pid (s.standing.node_record to.node).spawned_ids)) refl
    (subst (λ dim. is_place dim to ≡ true) (said.became.dim ∙ (sound.nodes r below).dim) said.of_node.1)
    (subst (λ images. image < images) (said.became.images ∙ (sound.nodes r below).images) said.of_node.0) said
node-entry cube s r (kill_call pid to) of below sound said =
    killed-acts cube s r of below sound pid to (kill_result (s.standing.node_record to.node) to.pid) refl
    (subst (λ dim. is_place dim to ≡ true) (said.became.dim ∙ (sound.nodes r below).dim) said.of_node) said
node-entry cube s r (note_call pid word) of below sound said = notes-acts cube s r of below sound pid word said
node-entry cube s r (arm_call count) of below sound said = absurd said.of_node
node-entry cube s r look_call of below sound said = absurd said.of_node
node-entry cube s r mail_call of below sound said = absurd said.of_node

-- the call that an actor of a cube in this state makes
abbrev pub call_in : Cube → CubeState → ℕ → Option Wish → Option Call
call_in cube s actor wish =
    if actor == HOST then option_and_then (call_of_wish cube s.hoststore) wish
    else (if is_node cube actor then Some (says (s.node actor)).call else None)

request-entry : (cube : Cube) (s : CubeState) (wish : Option Wish) (call : Call) → IsCube cube → IsSound cube s
    → option_and_then (call_of_wish cube s.hoststore) wish ≡ Some call → IsSound cube (state_after cube s (entry_in cube s HOST call))
request-entry cube s None call of sound e = cc
request-entry cube s (Some wish) call of sound e = host-entry cube s of sound wish call e

-- who makes an entry: the host, or a node that says its call
pub data IsMadeCall (cube : Cube) (s : CubeState) (actor : ℕ) (wish : Option Wish) (call : Call) : Type 0 where
  by_host : actor ≡ HOST → option_and_then (call_of_wish cube s.hoststore) wish ≡ Some call → IsMadeCall cube s actor wish call
  by_node : actor < 2 ^ cube.dim → (says (s.node actor)).call ≡ call → IsMadeCall cube s actor wish call

some_same : (x y : Call) → Some x ≡ Some y → x ≡ y
some_same x y e = cc

made-by_node : (cube : Cube) (s : CubeState) (actor : ℕ) (wish : Option Wish) (call : Call) (b : Bool) → is_node cube actor ≡ b
    → (if b then Some (says (s.node actor)).call else None) ≡ Some call → IsMadeCall cube s actor wish call
made-by_node cube s actor wish call true is e = by_node (ltb-true _ _ is) (some_same (says (s.node actor)).call call e)
made-by_node cube s actor wish call false is e = absurd (cc)

made-by : (cube : Cube) (s : CubeState) (actor : ℕ) (wish : Option Wish) (call : Call) (b : Bool) → (actor == HOST) ≡ b
    → (if b then option_and_then (call_of_wish cube s.hoststore) wish else (if is_node cube actor then Some (says (s.node actor)).call else None)) ≡ Some call
    → IsMadeCall cube s actor wish call
made-by cube s actor wish call true is e = by_host (eqb-true actor HOST is) e
made-by cube s actor wish call false is e = made-by_node cube s actor wish call (is_node cube actor) refl e

pub made : (cube : Cube) (s : CubeState) (actor : ℕ) (wish : Option Wish) (call : Call) → call_in cube s actor wish ≡ Some call → IsMadeCall cube s actor wish call
made cube s actor wish call e = made-by cube s actor wish call (actor == HOST) refl e

pub made-leaves : (cube : Cube) (s : CubeState) (r : ℕ) (call : Call) → IsCube cube → r < 2 ^ cube.dim → IsSound cube s → (says (s.node r)).call ≡ call
    → HasMadeCall (s.node r) (says (s.node r)).node call
made-leaves cube s r call of below sound e = subst (HasMadeCall (s.node r) (says (s.node r)).node) e (node-said cube s r of below sound).leaves

pub made-sound : (cube : Cube) (s : CubeState) (actor : ℕ) (wish : Option Wish) (call : Call) → IsCube cube → IsSound cube s
    → IsMadeCall cube s actor wish call → IsSound cube (state_after cube s (entry_in cube s actor call))
made-sound cube s actor wish call of sound (by_host is e) =
    subst (λ actor. IsSound cube (state_after cube s (entry_in cube s actor call))) (sym is) (request-entry cube s wish call of sound e)
made-sound cube s actor wish call of sound (by_node below e) = node-entry cube s actor call of below sound (made-leaves cube s actor call of below sound e)

-- ---- what an entry sends is new

-- an item that was never sent to the node before
abbrev pub IsNewItem : ℕ → NodeRecord → Item → Type 0
IsNewItem sent node_record (start pid image) = is_among pid node_record.spawned_ids ≡ false
IsNewItem sent node_record (mail parcel) = sent ≤ parcel.number
IsNewItem sent node_record (kill pid) = is_among pid node_record.killed_ids ≡ false

new_mails : (sent : ℕ) (node_record : NodeRecord) (ps : List Parcel) → AllByRecursion (λ (p : Parcel). sent ≤ p.number) ps → AllByRecursion (IsNewItem sent node_record) (map mail ps)
new_mails sent node_record [] all = tt
new_mails sent node_record (p ∷ ps) all = (all.0, new_mails sent node_record ps all.1)

new_start : (s : Standing) (r image : ℕ) (to : Place) (b : Bool) → (to.node == r) ≡ b → is_among to.pid (s.node_record to.node).spawned_ids ≡ false
    → AllByRecursion (IsNewItem s.parcel_count (s.node_record r)) ((if b then start to.pid image ∷ [] else []) ++ [])
new_start s r image to true e fresh = (subst (λ q. is_among to.pid (s.node_record q).spawned_ids ≡ false) (eqb-true to.node r e) fresh, tt)
new_start s r image to false e fresh = tt

new_kill : (s : Standing) (r : ℕ) (to : Place) (b : Bool) → (to.node == r) ≡ b → is_among to.pid (s.node_record to.node).killed_ids ≡ false
    → AllByRecursion (IsNewItem s.parcel_count (s.node_record r)) ((if b then kill to.pid ∷ [] else []) ++ [])
new_kill s r to true e fresh = (subst (λ q. is_among to.pid (s.node_record q).killed_ids ≡ false) (eqb-true to.node r e) fresh, tt)
new_kill s r to false e fresh = tt

-- an entry of these
abbrev of_what : ℕ → ℕ → What → Entry
of_what user actor what = record { user = user; actor = actor; what = what }

new_spawn : (s : Standing) (user actor r pid image : ℕ) (to : Place) (fresh : Bool) → not (is_among to.pid (s.node_record to.node).spawned_ids) ≡ fresh
    → AllByRecursion (IsNewItem s.parcel_count (s.node_record r)) (items_to r (of_what user actor (whats.Spawn pid image to fresh)))
new_spawn s user actor r pid image to true e = new_start s r image to (to.node == r) refl (not-true _ e)
new_spawn s user actor r pid image to false e = tt

new_killing : (s : Standing) (user actor r pid : ℕ) (to : Place) (found : KillResult) → kill_result (s.node_record to.node) to.pid ≡ found
    → AllByRecursion (IsNewItem s.parcel_count (s.node_record r)) (items_to r (of_what user actor (whats.Kill pid to found)))
new_killing s user actor r pid to Killed e =
    new_kill s r to (to.node == r) refl (kill_accepted (is_among to.pid (s.node_record to.node).spawned_ids) (is_among to.pid (s.node_record to.node).killed_ids) e).1
new_killing s user actor r pid to Unused e = tt
new_killing s user actor r pid to Already e = tt

pub items-new : (cube : Cube) (s : CubeState) (actor r : ℕ) (call : Call)
    → AllByRecursion (IsNewItem s.standing.parcel_count (s.standing.node_record r)) (items_to r (entry_in cube s actor call))
unfolding answer
items-new cube s actor r (take_call asking dead poller) = tt
items-new cube s actor r (send_call pid to bytes) =
    let from : Place = record { node = actor; pid = pid } in
    let ps = message_parcels from s.standing.parcel_count bytes to in
    new_mails s.standing.parcel_count (s.standing.node_record r) (node_parcels r ps)
    (all-filter (λ (p : Parcel). s.standing.parcel_count ≤ p.number) (λ p. p.to.node == r) ps (from-count from bytes s.standing.parcel_count to))
items-new cube s actor r (spawn_call pid image to) =
    new_spawn s.standing cube.user actor r pid image to (not (is_among to.pid (s.standing.node_record to.node).spawned_ids)) refl
items-new cube s actor r (kill_call pid to) = new_killing s.standing cube.user actor r pid to (kill_result (s.standing.node_record to.node) to.pid) refl
items-new cube s actor r (note_call pid word) = tt
items-new cube s actor r (arm_call count) = tt
items-new cube s actor r look_call = tt
items-new cube s actor r mail_call = tt

-- ---- what an entry takes is known

-- an item that was taken had been sent to the node
abbrev pub IsKnown : ℕ → NodeRecord → TakeResult → Type 0
IsKnown sent node_record (Start pid image) = is_among pid node_record.spawned_ids ≡ true
IsKnown sent node_record (Mail pid number) = number < sent
IsKnown sent node_record (Kill pid) = is_among pid node_record.killed_ids ≡ true
IsKnown sent node_record other = Unit {0}

new-unnamed : (sent : ℕ) (node_record : NodeRecord) (given : TakeResult) (item : Item) → IsKnown sent node_record given → IsNewItem sent node_record item → is_named_by given item ≡ false
new-unnamed sent node_record (Start pid image) (start pid' image') known new =
    ne_eqb pid pid' (λ e. both_ways _ new (subst (λ p. is_among p node_record.spawned_ids ≡ true) e known))
new-unnamed sent node_record (Start pid image) (mail parcel) known new = refl
new-unnamed sent node_record (Start pid image) (kill pid') known new = refl
new-unnamed sent node_record (Mail pid number) (start pid' image') known new = refl
new-unnamed sent node_record (Mail pid number) (mail parcel) known new = ne_eqb number parcel.number (λ e. omega (arith, e, known, new))
new-unnamed sent node_record (Mail pid number) (kill pid') known new = refl
new-unnamed sent node_record (Kill pid) (start pid' image') known new = refl
new-unnamed sent node_record (Kill pid) (mail parcel) known new = refl
new-unnamed sent node_record (Kill pid) (kill pid') known new = ne_eqb pid pid' (λ e. both_ways _ new (subst (λ p. is_among p node_record.killed_ids ≡ true) e known))
new-unnamed sent node_record (Poll pid) item known new = refl
new-unnamed sent node_record Idle item known new = refl
new-unnamed sent node_record Spent item known new = refl

any_unnamed : (sent : ℕ) (node_record : NodeRecord) (taken : List TakeResult) (item : Item) → AllByRecursion (IsKnown sent node_record) taken → IsNewItem sent node_record item
    → list_any (λ given. is_named_by given item) taken ≡ false
any_unnamed sent node_record [] item known new = refl
any_unnamed sent node_record (given ∷ taken) item known new = or_from _ _ (new-unnamed sent node_record given item known.0 new) (any_unnamed sent node_record taken item known.1 new)

pub new-untaken : (sent : ℕ) (node_record : NodeRecord) (taken : List TakeResult) (items : List Item) → AllByRecursion (IsKnown sent node_record) taken → AllByRecursion (IsNewItem sent node_record) items
    → AllByRecursion (λ item. is_untaken taken item ≡ true) items
new-untaken sent node_record taken items known new =
    all-weaker (IsNewItem sent node_record) (λ item. is_untaken taken item ≡ true) items (λ item h. not_from_false _ (any_unnamed sent node_record taken item known h)) new

pub takes_none : (own : Bool) (given : TakeResult) → (if own then None else None) ≡ Some given → ⊥
takes_none true given e = cc
takes_none false given e = cc

-- an entry that takes an item sends none
pub taking-sends_none : (cube : Cube) (s : CubeState) (actor r : ℕ) (call : Call) (given : TakeResult) → taken_for r (entry_in cube s actor call) ≡ Some given
    → items_to r (entry_in cube s actor call) ≡ []
unfolding answer
taking-sends_none cube s actor r (take_call asking dead poller) given e = refl
taking-sends_none cube s actor r (send_call pid to bytes) given e = absurd (takes_none (actor == r) given e)
taking-sends_none cube s actor r (spawn_call pid image to) given e = absurd (takes_none (actor == r) given e)
taking-sends_none cube s actor r (kill_call pid to) given e = absurd (takes_none (actor == r) given e)
taking-sends_none cube s actor r (note_call pid word) given e = refl
taking-sends_none cube s actor r (arm_call count) given e = refl
taking-sends_none cube s actor r look_call given e = refl
taking-sends_none cube s actor r mail_call given e = refl

pub known_items : (cube : Cube) (sent r : ℕ) (node_record : NodeRecord) (items : List Item) → AllByRecursion (IsItemOf cube r node_record) items → AllByRecursion (λ n. n < sent) (numbers_of items)
    → AllByRecursion (λ item. IsKnown sent node_record (take_result_of item)) items
known_items cube sent r node_record [] own below = tt
known_items cube sent r node_record (start pid image ∷ items) own below = (own.0.0, known_items cube sent r node_record items own.1 below)
known_items cube sent r node_record (mail parcel ∷ items) own below = (below.0, known_items cube sent r node_record items own.1 below.1)
known_items cube sent r node_record (kill pid ∷ items) own below = (own.0, known_items cube sent r node_record items own.1 below)

pub find-all : {X : Type 0} (P : X → Type 0) (test : X → Bool) (xs : List X) (x : X) → AllByRecursion P xs → find test xs ≡ Some x → P x
find-all P test [] x all e = cc
find-all P test (y ∷ ys) x all e =
    elim (cases_Bool (test y)) [
      | inl t ↦ let here : Some y ≡ Some x = rw t at e in let same : y ≡ x = cc in subst P same all.0
      | inr f ↦ let later : find test ys ≡ Some x = rw f at e in find-all P test ys x all.1 later
    ]

pub known_given : (sent : ℕ) (node_record : NodeRecord) (found : Option Item) (poller : Option ℕ) (used : Bool) (given : TakeResult)
    → ((item : Item) → found ≡ Some item → IsKnown sent node_record (take_result_of item))
    → (if is_item (offer_of found poller used) then Some (offer_of found poller used) else None) ≡ Some given → IsKnown sent node_record given
known_given sent node_record (Some item) poller true given known e = absurd (cc)
known_given sent node_record (Some (start pid image)) poller false given known e = let same : take_result_of (start pid image) ≡ given = cc in subst (IsKnown sent node_record) same (known (start pid image) refl)
known_given sent node_record (Some (mail parcel)) poller false given known e = let same : take_result_of (mail parcel) ≡ given = cc in subst (IsKnown sent node_record) same (known (mail parcel) refl)
known_given sent node_record (Some (kill pid)) poller false given known e = let same : take_result_of (kill pid) ≡ given = cc in subst (IsKnown sent node_record) same (known (kill pid) refl)
known_given sent node_record None (Some pid) true given known e = absurd (cc)
known_given sent node_record None (Some pid) false given known e = absurd (cc)
known_given sent node_record None None used given known e = absurd (cc)

pub known_first : (sent : ℕ) (node_record : NodeRecord) (items : List Item) (given : TakeResult) → AllByRecursion IsHostItem items → AllByRecursion (λ n. n < sent) (numbers_of items)
    → option_map (λ n. Mail 0 n) (first_number items) ≡ Some given → IsKnown sent node_record given
known_first sent node_record [] given own below e = absurd (cc)
known_first sent node_record (start pid image ∷ items) given own below e = absurd own.0
known_first sent node_record (mail parcel ∷ items) given own below e = let same : Mail 0 parcel.number ≡ given = cc in subst (IsKnown sent node_record) same below.0
known_first sent node_record (kill pid ∷ items) given own below e = absurd own.0

-- What an entry that takes an item does to the bytes between two places.
use Rattle.std.proofs.Common.{◌≡◌, ℕ, ◌^◌, ◌<◌, Bool, true, false, not, ◌&&◌, ◌||◌, ◌==◌, nat_lt, if◌then◌else◌, List, [], ◌∷◌, find, filter, Option, Some, None, option_and_then, option_map, refl, ap, sym, ◌∙◌, subst, inl, inr}
use Rattle.std.specs.List.{AllByRecursion}
use Rattle.std.proofs.lemmas.Bool.{cases_Bool, both_ways, eq-eqb, eqb-true, and_parts, and_from, or_left, false_from_ne_true}
use Rattle.ce_model.specs.declared.topology.TheConstants.{HOST}
use Rattle.ce_model.specs.declared.topology.Place.{Place}
use Rattle.ce_model.specs.declared.entry.Entry.{Entry}
use Rattle.ce_model.specs.declared.entry.What.TheVariants.{HostTake, Take}
use Rattle.ce_model.specs.declared.entry.TakeResult.{TakeResult}
use Rattle.ce_model.specs.declared.entry.TakeResult.TheVariants.{Start, Mail, Kill}
use Rattle.ce_model.specs.Parcels.{Parcel, Item, start, mail, kill, is_member, is_eligible, is_item, take_result_of, is_named_by, parcel_in}
use Rattle.ce_model.specs.Process.{is_receiving, is_stopped}
use Rattle.ce_model.specs.Node.{Node, process_at, take_call, take_call_of, process_set}
use Rattle.ce_model.specs.Answers.{offer_of, is_used_up, first_number}
use Rattle.ce_model.specs.Saying.{says}
use Rattle.ce_model.specs.Cube.{Cube, CubeState, IsCube, parcel_numbered}
use Rattle.ce_model.specs.Order.{is_between, bytes_between, number_handed, bytes_handed}
use Rattle.ce_model.specs.Sound.{numbers_of, IsHostItem, IsSound, IsSoundHost}
use Rattle.ce_model.proofs.Subcubes.{find-passes}
use Rattle.ce_solo.proofs.Lists.{IsOut, find-out}
use Rattle.ce_solo.proofs.Items.{AreRising, named-mail, named-itself}
use Rattle.ce_solo.proofs.Words.{HasMadeCall}
use Rattle.ce_solo.proofs.Hears.{receiving_is}
use Rattle.ce_solo.proofs.Records.{named_once}
use Rattle.ce_solo.proofs.HandedOver.{member-of, dead-of}
use Rattle.ce_solo.proofs.Stopped.{is_receiver_stopped}
use Rattle.ce_solo.proofs.Between.{found_bytes, between-other, one-between, none-between, between-first, between-receiver, none-earlier, handed-own}
use Rattle.ce_solo.proofs.InOrder.{HasPassed, passes, hands, drops}

-- a list without what is named so
abbrev pub unnamed : TakeResult → List Item → List Item
unnamed given items = filter (λ item. not (is_named_by given item)) items

-- a parcel that is handed over, and was the first of those that go between the two
passed-parcel : (from to : Place) (e named : Item → Bool) (items : List Item) (parcel : Parcel) (handed : List (List ℕ)) (g g' : Bool) → IsOut e named items (mail parcel)
    → handed ≡ bytes_between from to (mail parcel ∷ []) → ((before : List Item) → AllByRecursion (λ y. e y ≡ false) before → bytes_between from to before ≡ [])
    → (is_between from to parcel ≡ true → g ≡ false)
    → HasPassed handed (bytes_between from to items) (bytes_between from to (filter (λ item. not (named item)) items)) g g'
passed-parcel from to e named items parcel handed g g' out same first here =
    elim (cases_Bool (is_between from to parcel)) [
      | inl t ↦
          hands parcel.block.bytes (same ∙ one-between from to parcel t)
          (ap (bytes_between from to) out.whole ∙ between-first from to out.before parcel out.behind t (first out.before out.earlier) ∙ ap (λ xs. parcel.block.bytes ∷ bytes_between from to xs) (sym out.rest))
          (here t)
      | inr f ↦
          passes (same ∙ none-between from to parcel f)
          (ap (bytes_between from to) out.rest ∙ between-other from to out.before (mail parcel) out.behind (none-between from to parcel f) ∙ sym (ap (bytes_between from to) out.whole))
    ]

-- an item that goes, with nothing handed over and nothing between the two in it
passed-other : (from to : Place) (e named : Item → Bool) (items : List Item) (item : Item) (handed : List (List ℕ)) (g g' : Bool) → IsOut e named items item
    → handed ≡ [] → bytes_between from to (item ∷ []) ≡ [] → HasPassed handed (bytes_between from to items) (bytes_between from to (filter (λ x. not (named x)) items)) g g'
passed-other from to e named items item handed g g' out none nothing =
    passes none (ap (bytes_between from to) out.rest ∙ between-other from to out.before item out.behind nothing ∙ sym (ap (bytes_between from to) out.whole))

-- ---- the host takes its next message

no_earlier : (from to : Place) (before : List Item) → AllByRecursion (λ (y : Item). true ≡ false) before → bytes_between from to before ≡ []
no_earlier from to [] all = refl
no_earlier from to (x ∷ before) all = absurd (both_ways _ all.0 refl)

host-passed : (from to : Place) (items : List Item) (given : TakeResult) (handed : List (List ℕ)) (g' : Bool) → AllByRecursion IsHostItem items → AreRising (numbers_of items)
    → option_map (λ n. Mail 0 n) (first_number items) ≡ Some given
    → handed ≡ found_bytes from to (option_and_then (λ n. parcel_numbered n items) (number_handed to.pid (HostTake (first_number items))))
    → HasPassed handed (bytes_between from to items) (bytes_between from to (unnamed given items)) false g'
host-passed from to [] given handed g' own rising e is = absurd (cc)
host-passed from to (start pid image ∷ rest) given handed g' own rising e is = absurd own.0
host-passed from to (kill pid ∷ rest) given handed g' own rising e is = absurd own.0
host-passed from to (mail parcel ∷ rest) given handed g' own rising e is =
    let items : List Item = mail parcel ∷ rest in
    let named = is_named_by (Mail 0 parcel.number) in
    let out = find-out (λ (x : Item). true) named items (mail parcel) refl (eq-eqb parcel.number parcel.number refl) (named-mail 0 parcel.number items rising) in
    let found : parcel_numbered parcel.number items ≡ Some parcel = ap (option_and_then parcel_in) out.found in
    let same : Mail 0 parcel.number ≡ given = cc in
    subst (λ given. HasPassed handed (bytes_between from to items) (bytes_between from to (unnamed given items)) false g') same
    (elim (cases_Bool (to.pid == 0)) [
      | inl t ↦
          passed-parcel from to (λ (x : Item). true) named items parcel handed false g' out
          (is ∙ ap (λ b. found_bytes from to (option_and_then (λ n. parcel_numbered n items) (if b then Some parcel.number else None))) t ∙ ap (found_bytes from to) found)
          (no_earlier from to) (λ t. refl)
      | inr f ↦
          passed-other from to (λ (x : Item). true) named items (mail parcel) handed false g' out
          (is ∙ ap (λ b. found_bytes from to (option_and_then (λ n. parcel_numbered n items) (if b then Some parcel.number else None))) f)
          (none-between from to parcel (false_from_ne_true (is_between from to parcel) (λ t.
          let pid = eqb-true parcel.to.pid to.pid (between-receiver from to parcel t).1 in
          both_ways _ f (eq-eqb to.pid 0 (sym pid ∙ ap (λ (p : Place). p.pid) own.0)))))
    ])

pub host-takes : (cube : Cube) (s : CubeState) (from to : Place) (given : TakeResult) → IsSound cube s → to.node ≡ HOST
    → option_map (λ n. Mail 0 n) (first_number (s.standing.node_record to.node).waiting_items) ≡ Some given → is_receiver_stopped cube s to ≡ false → (g' : Bool) → (user : ℕ)
    → HasPassed (bytes_handed from to (s.standing.node_record to.node).waiting_items (record { user = user; actor = to.node; what = HostTake (first_number (s.standing.node_record to.node).waiting_items) }))
    (bytes_between from to (s.standing.node_record to.node).waiting_items) (bytes_between from to (unnamed given (s.standing.node_record to.node).waiting_items)) (is_receiver_stopped cube s to) g'
host-takes cube s from to given sound is e here g' user =
    let items = (s.standing.node_record to.node).waiting_items in
    let entry : Entry = record { user = user; actor = to.node; what = HostTake (first_number items) } in
    let host = subst (λ q. IsSoundHost s.standing.parcel_count (s.standing.node_record q).waiting_items) (sym is) sound.host in
    subst (λ g. HasPassed (bytes_handed from to items entry) (bytes_between from to items) (bytes_between from to (unnamed given items)) g g') (sym here)
    (host-passed from to items given (bytes_handed from to items entry) g' host.own host.numbered.rising e
    (handed-own from to items entry (number_handed to.pid (HostTake (first_number items))) (eq-eqb to.node to.node refl) refl))

-- ---- a node takes an item

module _ (cube : Cube) (s : CubeState) (of : IsCube cube) (sound : IsSound cube s) (from to : Place) (below : to.node < 2 ^ cube.dim) (asking dead : ℕ) (poller : Option ℕ) (said : HasMadeCall (s.node to.node) (says (s.node to.node)).node (take_call asking dead poller)) where
  abbrev items : List Item
  items = (s.standing.node_record to.node).waiting_items

  abbrev now : Node
  now = (says (s.node to.node)).node

  -- the entry by which the node is given this
  abbrev given_entry : TakeResult → Entry
  given_entry given = record { user = cube.user; actor = to.node; what = Take asking dead poller given }

  out-of : (item : Item) → find (is_eligible asking dead) items ≡ Some item → IsOut (is_eligible asking dead) (is_named_by (take_result_of item)) items item
  out-of item found =
      find-out (is_eligible asking dead) (is_named_by (take_result_of item)) items item found (named-itself item)
      (named_once cube s.standing.parcel_count to.node (s.standing.node_record to.node) item (sound.records to.node below))

  -- who asks has not stopped
  asks-here : is_member to.pid asking ≡ true → is_receiver_stopped cube s to ≡ false
  asks-here h =
      false_from_ne_true (is_receiver_stopped cube s to) (λ t.
      let parts = and_parts (nat_lt to.node (2 ^ cube.dim)) (is_stopped (process_at (s.node to.node) to.pid).status) t in
      let receives = asking-of now said.of_node.0 in
      both_ways _ (receiving_is (process_at now to.pid).status receives).1 (said.became.stopped to.pid parts.1))
    where
      asking-of : (node : Node) → take_call asking dead poller ≡ take_call_of node → is_receiving (process_at node to.pid).status ≡ true
      asking-of node same =
          let is : asking ≡ process_set is_receiving node.processes = cc in
          member-of is_receiving node.processes to.pid (ap (is_member to.pid) (sym is) ∙ h)

  mail-passed : (parcel : Parcel) (g' : Bool) → find (is_eligible asking dead) items ≡ Some (mail parcel)
      → (is_stopped (process_at now to.pid).status ≡ true → g' ≡ true)
      → HasPassed (bytes_handed from to items (given_entry (take_result_of (mail parcel)))) (bytes_between from to items) (bytes_between from to (unnamed (take_result_of (mail parcel)) items)) (is_receiver_stopped cube s to) g'
  mail-passed parcel g' found stops =
      let out = out-of (mail parcel) found in
      let entry = given_entry (take_result_of (mail parcel)) in
      let named = is_named_by (take_result_of (mail parcel)) in
      let handed = bytes_handed from to items entry in
      let taken : parcel_numbered parcel.number items ≡ Some parcel = ap (option_and_then parcel_in) out.found in
      let number = λ (b : Bool). if b then Some parcel.number else None in
      elim (cases_Bool (parcel.to.pid == to.pid && is_member to.pid asking)) [
        | inl t ↦
            let parts = and_parts (parcel.to.pid == to.pid) (is_member to.pid asking) t in
            passed-parcel from to (is_eligible asking dead) named items parcel handed (is_receiver_stopped cube s to) g' out
            (handed-own from to items entry (Some parcel.number) (eq-eqb to.node to.node refl) (ap number t) ∙ ap (found_bytes from to) taken)
            (λ before all. none-earlier from to asking dead before (or_left _ _ parts.1) all) (λ b. asks-here parts.1)
        | inr f ↦
            let none : handed ≡ [] = handed-own from to items entry None (eq-eqb to.node to.node refl) (ap number f) in
            elim (cases_Bool (is_between from to parcel)) [
              | inl t ↦
                  let pid = (between-receiver from to parcel t).1 in
                  let no_asking : is_member to.pid asking ≡ false = false_from_ne_true (is_member to.pid asking) (λ m. both_ways _ f (and_from _ _ pid m)) in
                  let can = find-passes (is_eligible asking dead) items (mail parcel) found in
                  let can_be_given : (is_member to.pid asking || is_member to.pid dead) ≡ true = subst (λ p. (is_member p asking || is_member p dead) ≡ true) (eqb-true parcel.to.pid to.pid pid) can in
                  drops none (stops (dead-of now asking dead to.pid poller said.of_node.0 (second_of (is_member to.pid asking) (is_member to.pid dead) no_asking can_be_given)))
              | inr b ↦ passed-other from to (is_eligible asking dead) named items (mail parcel) handed (is_receiver_stopped cube s to) g' out none (none-between from to parcel b)
            ]
      ]
    where
      second_of : (x y : Bool) → x ≡ false → (x || y) ≡ true → y ≡ true
      second_of true y f h = absurd (both_ways _ f refl)
      second_of false y f h = h

  item-passed : (item : Item) (g' : Bool) → find (is_eligible asking dead) items ≡ Some item → (is_stopped (process_at now to.pid).status ≡ true → g' ≡ true)
      → HasPassed (bytes_handed from to items (given_entry (take_result_of item))) (bytes_between from to items) (bytes_between from to (unnamed (take_result_of item) items)) (is_receiver_stopped cube s to) g'
  item-passed (start pid image) g' found stops =
      passed-other from to (is_eligible asking dead) (is_named_by (Start pid image)) items (start pid image) (bytes_handed from to items (given_entry (Start pid image))) (is_receiver_stopped cube s to) g' (out-of (start pid image) found)
      (handed-own from to items (given_entry (Start pid image)) None (eq-eqb to.node to.node refl) refl) refl
  item-passed (mail parcel) g' found stops = mail-passed parcel g' found stops
  item-passed (kill pid) g' found stops =
      passed-other from to (is_eligible asking dead) (is_named_by (Kill pid)) items (kill pid) (bytes_handed from to items (given_entry (Kill pid))) (is_receiver_stopped cube s to) g' (out-of (kill pid) found)
      (handed-own from to items (given_entry (Kill pid)) None (eq-eqb to.node to.node refl) refl) refl

  given-passed : (item : Item) (given : TakeResult) (g' : Bool) → find (is_eligible asking dead) items ≡ Some item → take_result_of item ≡ given → (is_stopped (process_at now to.pid).status ≡ true → g' ≡ true)
      → HasPassed (bytes_handed from to items (given_entry (take_result_of item))) (bytes_between from to items) (bytes_between from to (unnamed given items)) (is_receiver_stopped cube s to) g'
  given-passed item given g' found same stops =
      subst (λ given. HasPassed (bytes_handed from to items (given_entry (take_result_of item))) (bytes_between from to items) (bytes_between from to (unnamed given items)) (is_receiver_stopped cube s to) g') same
      (item-passed item g' found stops)

  offered-passed : (found : Option Item) (p : Option ℕ) (used : Bool) (given : TakeResult) (g' : Bool) → find (is_eligible asking dead) items ≡ found
      → (if is_item (offer_of found p used) then Some (offer_of found p used) else None) ≡ Some given → (is_stopped (process_at now to.pid).status ≡ true → g' ≡ true)
      → HasPassed (bytes_handed from to items (given_entry (offer_of found p used))) (bytes_between from to items) (bytes_between from to (unnamed given items)) (is_receiver_stopped cube s to) g'
  offered-passed (Some item) p true given g' f e stops = absurd (cc)
  offered-passed (Some (start pid image)) p false given g' f e stops = let same : take_result_of (start pid image) ≡ given = cc in given-passed (start pid image) given g' f same stops
  offered-passed (Some (mail parcel)) p false given g' f e stops = let same : take_result_of (mail parcel) ≡ given = cc in given-passed (mail parcel) given g' f same stops
  offered-passed (Some (kill pid)) p false given g' f e stops = let same : take_result_of (kill pid) ≡ given = cc in given-passed (kill pid) given g' f same stops
  offered-passed None (Some pid) true given g' f e stops = absurd (cc)
  offered-passed None (Some pid) false given g' f e stops = absurd (cc)
  offered-passed None None used given g' f e stops = absurd (cc)

  pub node-takes : (given : TakeResult) (g' : Bool)
      → (if is_item (offer_of (find (is_eligible asking dead) items) poller (is_used_up s.standing)) then Some (offer_of (find (is_eligible asking dead) items) poller (is_used_up s.standing)) else None) ≡ Some given
      → (is_stopped (process_at now to.pid).status ≡ true → g' ≡ true)
      → HasPassed (bytes_handed from to items (given_entry (offer_of (find (is_eligible asking dead) items) poller (is_used_up s.standing)))) (bytes_between from to items) (bytes_between from to (unnamed given items)) (is_receiver_stopped cube s to) g'
  node-takes given g' e stops = offered-passed (find (is_eligible asking dead) items) poller (is_used_up s.standing) given g' refl e stops

-- What an entry sends keeps each node's record sound: parcels, a start, or a kill.
use Rattle.std.proofs.Common.{◌≡◌, ◌⊎◌, ℕ, suc, ◌+◌, ◌^◌, ◌<◌, ◌≤◌, Bool, true, false, ◌==◌, nat_lt, if◌then◌else◌, List, [], ◌∷◌, ◌++◌, map, filter, length, refl, ap, sym, ◌∙◌, subst, arith, inl, inr, pow_mono}
use Rattle.std.specs.List.{AllByRecursion}
use Rattle.std.proofs.lemmas.Bool.{eq-eqb, ne_eqb, eqb-true, ltb-true, and_parts}
use Rattle.ce_model.specs.declared.topology.TheConstants.{HOST}
use Rattle.ce_model.specs.declared.topology.Place.{Place}
use Rattle.ce_model.specs.declared.topology.BlockId.{BlockId}
use Rattle.ce_model.specs.Limits.{process_count, greatest_dim_lem}
use Rattle.ce_model.specs.Lists.{ArePairwise}
use Rattle.ce_model.specs.Parcels.{Parcel, Item, start, mail, kill, item_id, message_parcels}
use Rattle.ce_model.specs.Node.{is_place, is_host_place, host_place}
use Rattle.ce_model.specs.Trace.{Mark, NodeRecord}
use Rattle.ce_model.specs.Answers.{is_among}
use Rattle.ce_model.specs.Cube.{Cube, IsCube}
use Rattle.ce_model.specs.Sound.{IsHostItem, IsSoundHost, IsSoundRecord}
use Rattle.ce_solo.proofs.Counting.{hit, count, count-nil, count-cons, sum_run, sum_run-same, sum_run-add, sum_run-zero, sum_run-at}
use Rattle.ce_solo.proofs.Lists.{all-append, all-weaker, all-filter, all-filtered, all-both, all-map, pairwise-filter, with_appended, with_appended-is}
use Rattle.ce_solo.proofs.Items.{AreRising}
use Rattle.ce_solo.proofs.Records.{record_with, HasStayedSound, keeps-same, AreNew, numbered-mails, keeps-start, keeps-kill}

-- ---- places

-- the host is no node of a cube
pub not_host : (cube : Cube) (r : ℕ) → IsCube cube → r < 2 ^ cube.dim → r < HOST
not_host cube r of below =
    let small : cube.dim ≤ 6 = omega (arith, of.dim, greatest_dim_lem) in
    let nodes : 2 ^ cube.dim ≤ 64 = pow_mono small in
    omega arith

pub host_past : (cube : Cube) → IsCube cube → 2 ^ cube.dim ≤ HOST
host_past cube of =
    let small : cube.dim ≤ 6 = omega (arith, of.dim, greatest_dim_lem) in
    let nodes : 2 ^ cube.dim ≤ 64 = pow_mono small in
    omega arith

-- a place where a process of the cube is, or its host
abbrev pub IsTargetOf : Cube → Place → Type 0
IsTargetOf cube to = (is_place cube.dim to ≡ true) ⊎ (to ≡ host_place)

place_at : ℕ → ℕ → Place
place_at node pid = record { node = node; pid = pid }

same_place : (n m p q : ℕ) → n ≡ m → p ≡ q → place_at n p ≡ place_at m q
same_place n m p q e f = ap (λ n. place_at n p) e ∙ ap (place_at m) f

pub is_host : (to : Place) → is_host_place to ≡ true → to ≡ host_place
unfolding place_at
is_host to h = let parts = and_parts (to.node == HOST) (to.pid == 0) h in same_place to.node HOST to.pid 0 (eqb-true _ _ parts.0) (eqb-true _ _ parts.1)

pub place_parts : (dim : ℕ) (to : Place) → is_place dim to ≡ true → (to.node < 2 ^ dim) × (to.pid < process_count)
place_parts dim to h = let parts = and_parts (nat_lt to.node (2 ^ dim)) (nat_lt to.pid process_count) h in (ltb-true _ _ parts.0, ltb-true _ _ parts.1)

-- ---- parcels

abbrev pub sent_ids : List Parcel → List BlockId
sent_ids ps = map (λ p. p.block.id) ps

-- those of these parcels that go to a node
abbrev pub node_parcels : ℕ → List Parcel → List Parcel
node_parcels r ps = filter (λ parcel. parcel.to.node == r) ps

module _ (from : Place) (bytes : List ℕ) where
  pub from-count : (number : ℕ) (to : List (Place × BlockId)) → AllByRecursion (λ (p : Parcel). number ≤ p.number) (message_parcels from number bytes to)
  from-count number [] = tt
  from-count number (target ∷ targets) =
      (omega arith, all-weaker (λ (p : Parcel). number + 1 ≤ p.number) (λ p. number ≤ p.number) (message_parcels from (number + 1) bytes targets) (λ p h. omega arith) (from-count (number + 1) targets))

  pub from-below : (number : ℕ) (to : List (Place × BlockId))
      → AllByRecursion (λ (p : Parcel). p.number < number + length (message_parcels from number bytes to)) (message_parcels from number bytes to)
  from-below number [] = tt
  from-below number (target ∷ targets) = (
    omega arith,
    all-weaker (λ (p : Parcel). p.number < number + 1 + length (message_parcels from (number + 1) bytes targets))
        (λ p. p.number < number + suc (length (message_parcels from (number + 1) bytes targets))) (message_parcels from (number + 1) bytes targets) (λ p h. omega arith) (from-below (number + 1) targets),
  )

  pub from-rising : (number : ℕ) (to : List (Place × BlockId)) → ArePairwise (λ (p q : Parcel). p.number < q.number) (message_parcels from number bytes to)
  from-rising number [] = tt
  from-rising number (target ∷ targets) = (
    all-weaker (λ (p : Parcel). number + 1 ≤ p.number) (λ p. number < p.number) (message_parcels from (number + 1) bytes targets) (λ p h. omega arith) (from-count (number + 1) targets),
    from-rising (number + 1) targets,
  )

  pub from-targets : (P : Place → Type 0) (number : ℕ) (to : List (Place × BlockId)) → AllByRecursion (λ target. P target.0) to
      → AllByRecursion (λ (p : Parcel). P p.to) (message_parcels from number bytes to)
  from-targets P number [] all = tt
  from-targets P number (target ∷ targets) all = (all.0, from-targets P (number + 1) targets all.1)

  pub from-ids : (number : ℕ) (to : List (Place × BlockId)) → sent_ids (message_parcels from number bytes to) ≡ map (λ target. target.1) to
  from-ids number [] = refl
  from-ids number (target ∷ targets) = ap (λ ids. target.1 ∷ ids) (from-ids (number + 1) targets)

rising-numbers : (ps : List Parcel) → ArePairwise (λ (p q : Parcel). p.number < q.number) ps → AreRising (map (λ p. p.number) ps)
rising-numbers [] rising = tt
rising-numbers (p ∷ ps) rising = (all-map (λ n. p.number < n) (λ (q : Parcel). q.number) ps rising.0, rising-numbers ps rising.1)

-- parcels of which each goes to a process of the cube or to its host, with rising numbers from the
-- cube's count on
pub record AreSent (cube : Cube) (count count' : ℕ) (ps : List Parcel) : Type 0 where
  pub rising : ArePairwise (λ (p q : Parcel). p.number < q.number) ps
  pub from_count : AllByRecursion (λ (p : Parcel). count ≤ p.number) ps
  pub below : AllByRecursion (λ (p : Parcel). p.number < count') ps
  pub targets : AllByRecursion (λ (p : Parcel). IsTargetOf cube p.to) ps
  pub more : count ≤ count'

pub are_sent : (cube : Cube) (from : Place) (number : ℕ) (bytes : List ℕ) (to : List (Place × BlockId)) → AllByRecursion (λ target. IsTargetOf cube target.0) to
    → AreSent cube number (number + length (message_parcels from number bytes to)) (message_parcels from number bytes to)
are_sent cube from number bytes to targets = record {
  rising = from-rising from bytes number to;
  from_count = from-count from bytes number to;
  below = from-below from bytes number to;
  targets = from-targets from bytes (IsTargetOf cube) number to targets;
  more = omega arith;
}

module _ (cube : Cube) (number number' : ℕ) (ps : List Parcel) (of : IsCube cube) (are : AreSent cube number number' ps) where
  to_process : (r : ℕ) → r < 2 ^ cube.dim → (p : Parcel) → (IsTargetOf cube p.to) × ((p.to.node == r) ≡ true) → (p.to.node ≡ r) × (p.to.pid < process_count)
  to_process r below p h =
      let at = eqb-true p.to.node r h.1 in (
        at,
        elim h.0 [
          | inl place ↦ (place_parts cube.dim p.to place).1
          | inr host ↦ absurd (omega (arith, not_host cube r of below, ap (λ (to : Place). to.node) host))
        ],
      )

  to_host : (p : Parcel) → (IsTargetOf cube p.to) × ((p.to.node == HOST) ≡ true) → p.to ≡ host_place
  to_host p h =
      elim h.0 [
        | inl place ↦ absurd (omega (arith, not_host cube p.to.node of (place_parts cube.dim p.to place).0, eqb-true p.to.node HOST h.1))
        | inr host ↦ host
      ]

  pub sent-new : (r : ℕ) → r < 2 ^ cube.dim → AreNew number number' r (node_parcels r ps)
  sent-new r below = record {
    rising = rising-numbers (node_parcels r ps) (pairwise-filter (λ (p q : Parcel). p.number < q.number) (λ p. p.to.node == r) ps are.rising);
    from_count = all-map (λ n. number ≤ n) (λ (p : Parcel). p.number) (node_parcels r ps) (all-filter (λ (p : Parcel). number ≤ p.number) (λ p. p.to.node == r) ps are.from_count);
    below = all-map (λ n. n < number') (λ (p : Parcel). p.number) (node_parcels r ps) (all-filter (λ (p : Parcel). p.number < number') (λ p. p.to.node == r) ps are.below);
    places = all-weaker (λ (p : Parcel). (IsTargetOf cube p.to) × ((p.to.node == r) ≡ true)) (λ p. (p.to.node ≡ r) × (p.to.pid < process_count)) (node_parcels r ps) (to_process r below)
        (all-both (λ (p : Parcel). IsTargetOf cube p.to) (λ p. (p.to.node == r) ≡ true) (node_parcels r ps)
        (all-filter (λ (p : Parcel). IsTargetOf cube p.to) (λ p. p.to.node == r) ps are.targets) (all-filtered (λ (p : Parcel). p.to.node == r) ps));
  }

  host_items : (qs : List Parcel) → AllByRecursion (λ (p : Parcel). p.to ≡ host_place) qs → AllByRecursion IsHostItem (map mail qs)
  host_items [] all = tt
  host_items (q ∷ qs) all = (all.0, host_items qs all.1)

  pub sent-host : (items : List Item) → IsSoundHost number items → IsSoundHost number' (with_appended items (map mail (node_parcels HOST ps)))
  sent-host items host =
      subst (IsSoundHost number') (with_appended-is items (map mail (node_parcels HOST ps)))
      (record {
        numbered = numbered-mails number number' HOST items (node_parcels HOST ps) are.more host.numbered
            (rising-numbers (node_parcels HOST ps) (pairwise-filter (λ (p q : Parcel). p.number < q.number) (λ p. p.to.node == HOST) ps are.rising))
            (all-map (λ n. number ≤ n) (λ (p : Parcel). p.number) (node_parcels HOST ps) (all-filter (λ (p : Parcel). number ≤ p.number) (λ p. p.to.node == HOST) ps are.from_count))
            (all-map (λ n. n < number') (λ (p : Parcel). p.number) (node_parcels HOST ps) (all-filter (λ (p : Parcel). p.number < number') (λ p. p.to.node == HOST) ps are.below));
        own = all-append IsHostItem items (map mail (node_parcels HOST ps)) host.own
            (host_items (node_parcels HOST ps)
            (all-weaker (λ (p : Parcel). (IsTargetOf cube p.to) × ((p.to.node == HOST) ≡ true)) (λ p. p.to ≡ host_place) (node_parcels HOST ps) to_host
            (all-both (λ (p : Parcel). IsTargetOf cube p.to) (λ p. (p.to.node == HOST) ≡ true) (node_parcels HOST ps)
            (all-filter (λ (p : Parcel). IsTargetOf cube p.to) (λ p. p.to.node == HOST) ps are.targets) (all-filtered (λ (p : Parcel). p.to.node == HOST) ps))));
      })

-- each parcel goes to one node or to the host
one_to : (id : BlockId) (r : ℕ) (p : Parcel) (ps : List Parcel)
    → count id (sent_ids (node_parcels r (p ∷ ps))) ≡ (if p.to.node == r then hit id p.block.id else 0) + count id (sent_ids (node_parcels r ps))
one_to id r p ps = by_test (p.to.node == r)
  where
    by_test : (b : Bool) → count id (sent_ids (if b then p ∷ node_parcels r ps else node_parcels r ps)) ≡ (if b then hit id p.block.id else 0) + count id (sent_ids (node_parcels r ps))
    by_test true = count-cons id p.block.id (sent_ids (node_parcels r ps))
    by_test false = omega arith

if_true : (b : Bool) (n : ℕ) → b ≡ true → (if b then n else 0) ≡ n
if_true b n t = ap {B = ℕ} (λ b. if b then n else 0) t

if_false : (b : Bool) (n : ℕ) → b ≡ false → (if b then n else 0) ≡ 0
if_false b n f = ap {B = ℕ} (λ b. if b then n else 0) f

pub sent-sum : (cube : Cube) (id : BlockId) (ps : List Parcel) → IsCube cube → AllByRecursion (λ (p : Parcel). IsTargetOf cube p.to) ps
    → sum_run (λ r. count id (sent_ids (node_parcels r ps))) 0 (2 ^ cube.dim) + count id (sent_ids (node_parcels HOST ps)) ≡ count id (sent_ids ps)
sent-sum cube id [] of all = omega (arith, sum_run-zero (λ r. count id []) 0 (2 ^ cube.dim) (λ k low high. count-nil id), count-nil id)
sent-sum cube id (p ∷ ps) of all =
    let n = 2 ^ cube.dim in
    let here = λ (r : ℕ). if p.to.node == r then hit id p.block.id else 0 in
    let rest = sent-sum cube id ps of all.1 in
    let split = sum_run-same (λ r. count id (sent_ids (node_parcels r (p ∷ ps)))) (λ r. here r + count id (sent_ids (node_parcels r ps))) 0 n (λ r low high. one_to id r p ps) in
    let added = sum_run-add here (λ r. count id (sent_ids (node_parcels r ps))) 0 n in
    elim all.0 [
      | inl place ↦
          let below = (place_parts cube.dim p.to place).0 in
          let at_one = sum_run-at here p.to.node 0 n (omega arith) (omega arith) (λ k differ. if_false (p.to.node == k) (hit id p.block.id) (ne_eqb p.to.node k (λ e. differ (sym e)))) in
          omega (
            arith,
            rest,
            split,
            added,
            at_one,
            if_true (p.to.node == p.to.node) (hit id p.block.id) (eq-eqb p.to.node p.to.node refl),
            one_to id HOST p ps,
            if_false (p.to.node == HOST) (hit id p.block.id) (ne_eqb p.to.node HOST (λ e. omega (arith, not_host cube p.to.node of below))),
            count-cons id p.block.id (sent_ids ps),
          )
      | inr host ↦
          let at : p.to.node ≡ HOST = ap (λ (to : Place). to.node) host in
          let none = sum_run-zero here 0 n (λ k low high. if_false (p.to.node == k) (hit id p.block.id) (ne_eqb p.to.node k (λ e. omega (arith, not_host cube k of (omega arith))))) in
          omega (arith, rest, split, added, none, one_to id HOST p ps, if_true (p.to.node == HOST) (hit id p.block.id) (eq-eqb p.to.node HOST at), count-cons id p.block.id (sent_ids ps))
    ]

-- ---- a start and a kill

-- a start of a fresh id comes to its node, and to no other
pub start-keeps : (cube : Cube) (sent r image : ℕ) (to : Place) (node_record : NodeRecord) (mark : Mark) (b : Bool) → IsSoundRecord cube sent r node_record
    → (b ≡ true → is_among to.pid node_record.spawned_ids ≡ false) → to.pid < process_count → image < length cube.images
    → HasStayedSound cube (sent + 0) r node_record
    (record_with (with_appended node_record.waiting_items ((if b then start to.pid image ∷ [] else []) ++ [])) (with_appended node_record.spawned_ids (map item_id (if b then start to.pid image ∷ [] else []))) node_record.killed_ids mark) [] []
start-keeps cube sent r image to node_record mark true sound fresh within of_cube =
    subst (λ n. HasStayedSound cube n r node_record (record_with (node_record.waiting_items ++ start to.pid image ∷ []) (node_record.spawned_ids ++ to.pid ∷ []) node_record.killed_ids mark) [] []) (omega arith)
    (keeps-start cube sent r to.pid image node_record mark sound (fresh refl) within of_cube)
start-keeps cube sent r image to node_record mark false sound fresh within of_cube = keeps-same cube sent (sent + 0) r node_record mark (omega arith) sound

-- so does an accepted kill
pub kill-keeps : (cube : Cube) (sent r : ℕ) (to : Place) (node_record : NodeRecord) (mark : Mark) (b : Bool) → IsSoundRecord cube sent r node_record
    → (b ≡ true → is_among to.pid node_record.spawned_ids ≡ true) → (b ≡ true → is_among to.pid node_record.killed_ids ≡ false)
    → HasStayedSound cube (sent + 0) r node_record
    (record_with (with_appended node_record.waiting_items ((if b then kill to.pid ∷ [] else []) ++ [])) node_record.spawned_ids (with_appended node_record.killed_ids (map item_id (if b then kill to.pid ∷ [] else []))) mark) [] []
kill-keeps cube sent r to node_record mark true sound known fresh =
    subst (λ n. HasStayedSound cube n r node_record (record_with (node_record.waiting_items ++ kill to.pid ∷ []) node_record.spawned_ids (node_record.killed_ids ++ to.pid ∷ []) mark) [] []) (omega arith)
    (keeps-kill cube sent r to.pid node_record mark sound (known refl) (fresh refl))
kill-keeps cube sent r to node_record mark false sound known fresh = keeps-same cube sent (sent + 0) r node_record mark (omega arith) sound

-- Where all boxes of a cube are in step, its blocks are in the boxes, on the parcels that wait and
-- in the host's store, each once.
use Rattle.std.proofs.Common.{◌≡◌, ◌⊎◌, ℕ, zero, suc, ◌+◌, ◌^◌, ◌<◌, Bool, true, false, ◌||◌, ◌==◌, if◌then◌else◌, List, [], ◌∷◌, ◌++◌, map, flat_map, count_by, IsSomeAnd, refl, ap, ap₂, sym, ◌∙◌, subst, inl, inr, arith}
use Rattle.std.specs.List.{AllByRecursion, range_with_len}
use Rattle.std.proofs.lemmas.Bool.{cases_Bool, cases_lt, both_ways, eq-eqb, eqb-true, ne_eqb, lt-ltb, ltb-true, and_parts, and_from, or_cases, or_left, or_right}
use Rattle.std.proofs.lemmas.List.{map-append}
use Rattle.std.proofs.lemmas.List.Folds.{flat_map-map}
use Rattle.ce_model.specs.declared.topology.TheConstants.{HOST}
use Rattle.ce_model.specs.declared.topology.BlockId.{BlockId}
use Rattle.ce_model.specs.declared.entry.Entry.{Entry}
use Rattle.ce_model.specs.Limits.{home_blocks, host_home, host_home_lem}
use Rattle.ce_model.specs.Blocks.{is_same_id}
use Rattle.ce_model.specs.Parcels.{Item, start, mail, kill}
use Rattle.ce_model.specs.Node.{Node, Call, take_call, send_call, spawn_call, kill_call, note_call, arm_call, look_call, mail_call, blocks_of}
use Rattle.ce_model.specs.Saying.{says}
use Rattle.ce_model.specs.Trace.{NodeRecord}
use Rattle.ce_model.specs.Cube.{Cube, CubeState, opening, state_after_trace, hoststore, node_numbers}
use Rattle.ce_model.specs.Owners.{IsBlockOf}
use Rattle.ce_model.specs.Subcubes.{extract, node_of, is_inside}
use Rattle.ce_model.specs.Renaming.{CubeGrant, block_outward, renamed_item}
use Rattle.ce_model.specs.Views.{view}
use Rattle.ce_model.specs.Machine.{MachineParts, HeldCube, after, nodes_of, host_record, all_parcels, HasHeldCube, cube_of}
use Rattle.ce_model.specs.Literals.{block}
use Rattle.ce_model.proofs.Subcubes.{is_inside-node_of, node_of-extract}
use Rattle.ce_script.specs.Rounds.{asks_for_work}
use Rattle.ce_solo.proofs.Counting.{count, count-nil, count-append, count-is, count-run, all-at_name, sum_run, sum_run-same, sum_run-add}
use Rattle.ce_solo.proofs.Items.{parcel_ids, ids-append}
use Rattle.ce_solo.proofs.Lists.{all-map, all-weaker}
use Rattle.ce_solo.proofs.Totals.{count_at_node, count_at_node-is, total, total-is, holders-total}
use Rattle.ce_solo.proofs.Room.{held_blocks}
use Rattle.ce_solo.proofs.Words.{call_ids}
use Rattle.ce_solo.proofs.Projection.Numbers.{IsPlaced, few_relative, out_no_host, inside_below}
use Rattle.ce_cube.specs.Boxes.{AreInStep}
use Rattle.ce_cube.specs.Rehoming.{is_block_of, names_in_cube, AreAllBlocks}
use Rattle.ce_cube.specs.Laws.{BlocksAreWhole}
use Rattle.ce_cube.proofs.Held.{IsSeen, by_seen}
use Rattle.ce_cube.proofs.Seats.{node-said}
use Rattle.ce_cube.proofs.Names.{blocks-outward, count-outward}

-- ---- lists over the nodes

flat-outward : {X Y : Type 0} (f : X → Y) (here : ℕ → List X) (there : ℕ → List Y) (from n : ℕ) → ((k : ℕ) → k < from + n → there k ≡ map f (here k))
    → flat_map there (range_with_len from n) ≡ map f (flat_map here (range_with_len from n))
flat-outward f here there from zero each = refl
flat-outward f here there from (suc n) each =
    ap₂ (λ xs ys. xs ++ ys) (each from (omega arith)) (flat-outward f here there (from + 1) n (λ k below. each k (omega (arith, below))))
    ∙ sym (map-append f (here from) (flat_map here (range_with_len (from + 1) n)))

ids-flat : (items : ℕ → List Item) (rs : List ℕ) → parcel_ids (flat_map items rs) ≡ flat_map (λ r. parcel_ids (items r)) rs
ids-flat items [] = refl
ids-flat items (r ∷ rs) = ids-append (items r) (flat_map items rs) ∙ ap (λ ids. parcel_ids (items r) ++ ids) (ids-flat items rs)

ids-outward : (rename : BlockId → BlockId) (items : List Item) → parcel_ids (map (renamed_item rename) items) ≡ map rename (parcel_ids items)
ids-outward rename [] = refl
ids-outward rename (start pid image ∷ items) = ids-outward rename items
ids-outward rename (mail parcel ∷ items) = ap (λ ids. rename parcel.block.id ∷ ids) (ids-outward rename items)
ids-outward rename (kill pid ∷ items) = ids-outward rename items

-- ---- which blocks are a cube's

module _ (dim : ℕ) (grant : CubeGrant) (placed : IsPlaced dim grant) where
  block-known : (id : BlockId) → IsBlockOf grant.dim id → is_block_of grant (block_outward grant id) ≡ true
  block-known id of = and_from _ _ (by_home of.home) (lt-ltb id.index home_blocks of.index)
    where
      by_home : (id.home < 2 ^ grant.dim) ⊎ (id.home ≡ host_home)
          → (is_inside grant.sub (block_outward grant id).home || (block_outward grant id).home == host_home + grant.user) ≡ true
      by_home (inl below) =
          let node : (id.home == host_home) ≡ false = ne_eqb _ _ (λ e. omega (arith, few_relative dim grant placed, host_home_lem)) in
          rw node (or_left _ _ (is_inside-node_of grant.sub id.home placed.sub.apart (rw placed.sub.dimension below)))
      by_home (inr host) =
          let is : (id.home == host_home) ≡ true = eq-eqb _ _ host in
          rw is (or_right _ _ (eq-eqb (host_home + grant.user) (host_home + grant.user) refl))

  -- the cube's own name of a block
  record IsOwn (id : BlockId) : Type 0 where
    own : BlockId
    of : IsBlockOf grant.dim own
    is : block_outward grant own ≡ id

  block-own : (id : BlockId) → is_block_of grant id ≡ true → IsOwn id
  block-own id is =
      let parts = and_parts _ _ is in
      let index : id.index < home_blocks = ltb-true _ _ parts.1 in
      elim (or_cases _ _ parts.0) [
        | inl inside ↦
            let below = inside_below dim grant placed id.home inside in
            let node : (extract id.home grant.sub.mask == host_home) ≡ false = ne_eqb _ _ (λ e. omega (arith, below, few_relative dim grant placed, host_home_lem)) in
            record {
              own = block (extract id.home grant.sub.mask) id.index;
              of = record { home = inl below; index = index };
              is = rw node (ap (λ home. block home id.index) (node_of-extract grant.sub id.home inside));
            }
        | inr host ↦
            let here : (host_home == host_home) ≡ true = eq-eqb host_home host_home refl in
            record {
              own = block host_home id.index;
              of = record { home = inr refl; index = index };
              is = rw here (ap (λ home. block home id.index) (sym (eqb-true _ _ host)));
            }
      ]

-- a call that asks for work takes no block out
asks-no_blocks : (call : Call) → asks_for_work call ≡ true → call_ids call ≡ []
asks-no_blocks (take_call asking dead poller) asks = refl
asks-no_blocks (send_call pid to bytes) asks = absurd (cc)
asks-no_blocks (spawn_call pid image to) asks = refl
asks-no_blocks (kill_call pid to) asks = refl
asks-no_blocks (note_call pid word) asks = refl
asks-no_blocks (arm_call count) asks = refl
asks-no_blocks look_call asks = refl
asks-no_blocks mail_call asks = refl

-- ---- the cube that is held

module _ (parts : MachineParts) (history : List Entry) (cube : HeldCube) (now : IsSeen parts history cube) (box : ℕ → Node)
    (steps : AreInStep parts history cube.number cube.grant box) where
  abbrev own : Cube
  own = cube_of parts.images cube.grant

  abbrev s : CubeState
  s = state_after_trace own (opening own) (view history cube.number)

  abbrev n : ℕ
  n = 2 ^ cube.grant.dim

  abbrev rest : ℕ → Node
  rest r = (says (s.node r)).node

  abbrev waiting : ℕ → List Item
  waiting r = (s.standing.node_record r).waiting_items

  abbrev all_items : List Item
  all_items = flat_map waiting (node_numbers cube.grant.dim) ++ waiting HOST

  -- the names that the cube has for the blocks
  abbrev inner : List BlockId
  inner = flat_map (λ r. blocks_of (rest r)) (node_numbers cube.grant.dim) ++ (parcel_ids all_items ++ s.hoststore)

  rest-count : (id : BlockId) (r : ℕ) → r < n → count id (blocks_of (rest r)) ≡ count id (blocks_of (s.node r))
  rest-count id r below =
      omega (
        arith,
        (node-said parts history cube now r below).became.blocks id,
        ap (count id) (asks-no_blocks (says (s.node r)).call (steps r below).asks),
        count-nil id,
      )

  items-count : (id : BlockId) → count id (parcel_ids all_items) ≡ sum_run (λ r. count id (parcel_ids (waiting r))) 0 n + count id (parcel_ids (waiting HOST))
  items-count id =
      omega (
        arith,
        ap (count id) (ids-append (flat_map waiting (node_numbers cube.grant.dim)) (waiting HOST)),
        count-append id (parcel_ids (flat_map waiting (node_numbers cube.grant.dim))) (parcel_ids (waiting HOST)),
        ap (count id) (ids-flat waiting (node_numbers cube.grant.dim)),
        count-run id (λ r. parcel_ids (waiting r)) 0 n,
      )

  inner-count : (id : BlockId) → count id inner ≡ total id cube.grant.dim s
  inner-count id =
      omega (
        arith,
        count-append id (flat_map (λ r. blocks_of (rest r)) (node_numbers cube.grant.dim)) (parcel_ids all_items ++ s.hoststore),
        count-append id (parcel_ids all_items) s.hoststore,
        count-run id (λ r. blocks_of (rest r)) 0 n,
        items-count id,
        total-is id cube.grant.dim s,
        sum_run-same (count_at_node id s) (λ r. count id (blocks_of (rest r)) + count id (parcel_ids (waiting r))) 0 n
            (λ r low high. omega (arith, count_at_node-is id s r, rest-count id r (omega (arith, high)))),
        sum_run-add (λ r. count id (blocks_of (rest r))) (λ r. count id (parcel_ids (waiting r))) 0 n,
      )

  inner-blocks : AllByRecursion (IsBlockOf cube.grant.dim) inner
  inner-blocks = held_blocks own s inner now.stands.sound (λ id. omega (arith, inner-count id))

  -- ---- with the machine's names

  abbrev out : BlockId → BlockId
  out = block_outward cube.grant

  abbrev outer : List BlockId
  outer = names_in_cube cube.grant box (all_parcels (after history) cube) (map out s.hoststore)

  boxes-outward : flat_map (λ r. blocks_of (box r)) (node_numbers cube.grant.dim) ≡ map out (flat_map (λ r. blocks_of (rest r)) (node_numbers cube.grant.dim))
  boxes-outward =
      flat-outward out (λ r. blocks_of (rest r)) (λ r. blocks_of (box r)) 0 n
      (λ r below. ap blocks_of (steps r (omega (arith, below))).at_rest ∙ blocks-outward cube.grant (rest r))

  -- what the machine keeps for a number, by whether that is the host's
  abbrev kept_if : Bool → ℕ → List Item
  kept_if b node = (if b then host_record cube else (after history).node_record node).waiting_items

  items-outward : flat_map (λ node. ((after history).node_record node).waiting_items) (nodes_of cube.grant) ++ cube.mail ≡ map (renamed_item out) all_items
  items-outward =
      ap₂ (λ xs ys. xs ++ ys)
      (flat_map-map (λ node. ((after history).node_record node).waiting_items) (node_of cube.grant.sub) (node_numbers cube.grant.dim)
      ∙ flat-outward (renamed_item out) waiting (λ r. ((after history).node_record (node_of cube.grant.sub r)).waiting_items) 0 n
      (λ r below. waits_outward r (omega (arith, below))))
      now.standing.host
      ∙ sym (map-append (renamed_item out) (flat_map waiting (node_numbers cube.grant.dim)) (waiting HOST))
    where
      waits_outward : (r : ℕ) → r < n → ((after history).node_record (node_of cube.grant.sub r)).waiting_items ≡ map (renamed_item out) (waiting r)
      waits_outward r below =
          sym (ap (λ b. kept_if b (node_of cube.grant.sub r)) (out_no_host parts.dim cube.grant now.placed r)) ∙ ap (λ (kept : NodeRecord). kept.waiting_items) (now.standing.nodes r below)

  outer-is : outer ≡ map out inner
  outer-is =
      ap₂ (λ xs ys. xs ++ (ys ++ map out s.hoststore)) boxes-outward (ap parcel_ids items-outward ∙ ids-outward out all_items)
      ∙ ap (λ ids. map out (flat_map (λ r. blocks_of (rest r)) (node_numbers cube.grant.dim)) ++ ids) (sym (map-append out (parcel_ids all_items) s.hoststore))
      ∙ sym (map-append out (flat_map (λ r. blocks_of (rest r)) (node_numbers cube.grant.dim)) (parcel_ids all_items ++ s.hoststore))

  own-once : (id : BlockId) → IsOwn parts.dim cube.grant now.placed id → count_by (is_same_id id) (map out inner) ≡ 1
  own-once id is =
      subst (λ id. count_by (is_same_id id) (map out inner) ≡ 1) is.is
      (omega (
        arith,
        count-outward parts.dim cube.grant now.placed is.own inner is.of inner-blocks,
        count-is is.own inner,
        inner-count is.own,
        holders-total is.own cube.grant.dim s,
        now.stands.sound.owners is.own is.of,
      ))

  other-none : (id : BlockId) → is_block_of cube.grant id ≡ false → count_by (is_same_id id) (map out inner) ≡ 0
  other-none id other =
      elim (cases_lt (count id (map out inner)) 1) [
        | inl none ↦ omega (arith, none, count-is id (map out inner))
        | inr some ↦
            absurd (both_ways _ other (all-at_name (λ id. is_block_of cube.grant id ≡ true) (map out inner) id
            (all-map (λ id. is_block_of cube.grant id ≡ true) out inner
            (all-weaker (IsBlockOf cube.grant.dim) (λ id. is_block_of cube.grant (out id) ≡ true) inner (block-known parts.dim cube.grant now.placed) inner-blocks)) some))
      ]

  all-blocks : AreAllBlocks cube.grant outer
  all-blocks = record {
    once = λ id.
        ap (count_by (is_same_id id)) outer-is
        ∙ elim (cases_Bool (is_block_of cube.grant id)) [
          | inl is ↦ own-once id (block-own parts.dim cube.grant now.placed id is) ∙ sym (ap {B = ℕ} (λ b. if b then 1 else 0) is)
          | inr other ↦ other-none id other ∙ sym (ap {B = ℕ} (λ b. if b then 1 else 0) other)
        ];
  }

pub blocks-are-whole : BlocksAreWhole
blocks-are-whole parts history number grant machine lawful held box steps =
    by_seen
    (λ number grant. AreInStep parts history number grant box → HasHeldCube history grant.user (λ cube. AreAllBlocks grant
    (names_in_cube grant box (all_parcels (after history) cube) (map (block_outward grant) (hoststore (opening (cube_of parts.images grant)) (view history number))))))
    parts history number grant machine lawful
    (λ cube now steps. subst (λ held. IsSomeAnd held (λ one. AreAllBlocks cube.grant
    (names_in_cube cube.grant box (all_parcels (after history) one) (map (block_outward cube.grant) (hoststore (opening (cube_of parts.images cube.grant)) (view history cube.number))))))
    (sym now.holds) (all-blocks parts history cube now box steps)) held steps

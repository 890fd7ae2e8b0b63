-- A cube that is given back: its blocks fit the host's store, and each of its homes gets its own.
use Rattle.std.proofs.Common.{◌≡◌, ℕ, zero, suc, ◌+◌, ◌*◌, ◌^◌, ◌<◌, ◌≤◌, true, List, [], ◌∷◌, ◌++◌, map, flat_map, take, drop, length, get_or, refl, ap, ap₂, sym, ◌∙◌, subst, arith, pow_mono}
use Rattle.std.specs.List.{All, AllByRecursion, range_with_len}
use Rattle.std.proofs.lemmas.List.{get_or_default, get_or-map, length-append, length-map, take_at, drop_at}
use Rattle.std.proofs.lemmas.List.Folds.{flat_map-map}
use Rattle.std.proofs.lemmas.List.FromFn.{fill_by_all}
use Rattle.ce_model.specs.declared.topology.BlockId.{BlockId}
use Rattle.ce_model.specs.Limits.{greatest_dim, home_blocks, home_blocks_lem, host_home, process_count, greatest_blocks, greatest_blocks_lem}
use Rattle.ce_model.specs.Blocks.{Block, is_lower, with_ids, blocks_of_home}
use Rattle.ce_model.specs.Node.{blocks_of}
use Rattle.ce_model.specs.Sound.{AreRisingIds}
use Rattle.ce_model.specs.Cube.{node_numbers}
use Rattle.ce_model.specs.Subcubes.{IsSubcube, node_of}
use Rattle.ce_model.specs.Renaming.{CubeGrant}
use Rattle.ce_model.proofs.Subcubes.{ones_of-bound}
use Rattle.ce_solo.proofs.Counting.{count, count-append, count-is, count-put_all}
use Rattle.ce_solo.proofs.Lists.{truth_bit, truth_bit-le}
use Rattle.ce_solo.proofs.Fresh.{ids-unborn}
use Rattle.ce_solo.proofs.Renaming.Grants.{few_nodes}
use Rattle.ce_solo.proofs.Projection.Numbers.{IsPlaced}
use Rattle.ce_model.specs.Rising as rising
use Rattle.xm_block.specs.Stores.{BlockStore, ids_of, is_block_before}
use Rattle.ce_daemon.specs.Boxes.{AreBoxes}
use Rattle.ce_host.specs.declared.host.Host.{Host}
use Rattle.rk_node.specs.Boxes.{Box, IsCleanBox, IsIdleBox}
use Rattle.rk_node.specs.Hearings.{AreNewToStore}
use Rattle.ce_cube.specs.Crews.{box_at, HasAllBlocks, IsHostAtHome}
use Rattle.ce_cube.specs.Rehoming.{is_block_of, AreAllBlocks}
use Rattle.ce_cube.specs.Homecoming.{IsEmptiedBox, names_in_boxes, emptied_box, refilled_box, names_at_home, HasPrefix}
use Rattle.ce_cube.proofs.Homes.{names_of_cube, length-cube, length-whole, whole-store}

-- ---- lists by index

flat-by_index : {X Y : Type 0} (has : X → List Y) (xs : List X) (n : ℕ) (d : X) → length xs ≡ n
    → flat_map (λ r. has (get_or xs r d)) (range_with_len 0 n) ≡ flat_map has xs
flat-by_index has xs n d long =
    sym (flat_map-map has (λ r. get_or xs r d) (range_with_len 0 n)) ∙ ap (flat_map has) (sym (fill_by_all (λ r. get_or xs r d) xs n d long (λ r below. refl)))

flat-same : {Y : Type 0} (f g : ℕ → List Y) (from n : ℕ) → ((r : ℕ) → r < from + n → f r ≡ g r)
    → flat_map f (range_with_len from n) ≡ flat_map g (range_with_len from n)
flat-same f g from zero each = refl
flat-same f g from (suc n) each =
    ap₂ (λ xs ys. xs ++ ys) (each from (omega arith)) (flat-same f g (from + 1) n (λ r below. each r (omega (arith, below))))

-- ---- stores and boxes

rising-head : (block : Block) (blocks : List Block) → rising.IsRising is_block_before (block ∷ blocks) → AllByRecursion (λ id. is_lower block.id id ≡ true) (ids_of blocks)
rising-head block [] pairs = tt
rising-head block (other ∷ blocks) pairs =
    (pairs 0 1 block (omega arith) (omega arith), rising-head block blocks (λ i j d low high. skip i j d low high))
  where
    skip : (i j : ℕ) (d : Block) → i < j → j < length (block ∷ blocks) → (is_block_before (get_or (block ∷ blocks) i d) (get_or (block ∷ blocks) j d)) ≡ true
    skip zero zero d low high = absurd (omega (arith, low))
    skip zero (suc j) d low high = pairs 0 (suc (suc j)) d (omega arith) (omega (arith, high))
    skip (suc i) zero d low high = absurd (omega (arith, low))
    skip (suc i) (suc j) d low high = pairs (suc (suc i)) (suc (suc j)) d (omega (arith, low)) (omega (arith, high))

rising-ids : (blocks : List Block) → rising.IsRising is_block_before blocks → AreRisingIds (ids_of blocks)
rising-ids [] pairs = tt
rising-ids (block ∷ blocks) pairs =
    (rising-head block blocks pairs, rising-ids blocks (λ i j d low high. pairs (suc i) (suc j) d (omega (arith, low)) (omega (arith, high))))

clean : (box : Box) → IsIdleBox box → greatest_blocks ≤ box.room → IsCleanBox (refilled_box (emptied_box box))
clean box idle room = record { node = refl; awaited_call = idle; room = room }

-- a subcube of a machine is one of the greatest
pub placed-sub : (dim : ℕ) (grant : CubeGrant) → IsPlaced dim grant → IsSubcube greatest_dim grant.dim grant.sub
placed-sub dim grant placed =
    let more : 2 ^ dim ≤ 2 ^ greatest_dim = pow_mono placed.within in
    record {
      mask_within = omega (arith, placed.sub.mask_within, more);
      base_within = omega (arith, placed.sub.base_within, more);
      dimension = placed.sub.dimension;
      apart = placed.sub.apart;
    }

-- ---- a cube that is given back

module _ (grant : CubeGrant) (boxes : List Box) (host : Host) (drained : List Block) (holds : HasAllBlocks grant boxes host drained) where
  abbrev n : ℕ
  n = 2 ^ grant.dim

  abbrev other : Box
  other = box_at [] 0

  abbrev names : List BlockId
  names = names_in_boxes boxes

  by_index : flat_map (λ r. blocks_of (box_at boxes r).node) (node_numbers grant.dim) ≡ names
  by_index = flat-by_index (λ (box : Box). blocks_of box.node) boxes n other holds.all

  abbrev ids : List BlockId
  ids = names ++ (ids_of drained ++ ids_of host.store.blocks)

  all : AreAllBlocks grant ids
  all = subst (λ some. AreAllBlocks grant (some ++ (ids_of drained ++ ids_of host.store.blocks))) by_index holds.blocks

  counted : (id : BlockId) → count id names + (count id (ids_of drained) + count id (ids_of host.store.blocks)) ≡ truth_bit (is_block_of grant id)
  counted id =
      ap (λ m. count id names + m) (sym (count-append id (ids_of drained) (ids_of host.store.blocks)))
      ∙ sym (count-append id names (ids_of drained ++ ids_of host.store.blocks)) ∙ sym (count-is id ids) ∙ all.once id

  -- ---- room

  total : length names + (length drained + length host.store.blocks) ≡ (n + 1) * home_blocks
  total =
      omega (
        arith,
        length-whole grant holds.sub ids all,
        length-append names (ids_of drained ++ ids_of host.store.blocks),
        length-append (ids_of drained) (ids_of host.store.blocks),
        length-map drained (λ (block : Block). block.id),
        length-map host.store.blocks (λ (block : Block). block.id),
      )

  fits : length names + length drained ≤ host.store.spare
  fits =
      let few : n ≤ 64 = few_nodes grant.dim (rw (← holds.sub.dimension) (ones_of-bound greatest_dim grant.sub.mask)) in
      omega (arith, total, few, ap (λ b. (n + 1) * b) home_blocks_lem, holds.room, greatest_blocks_lem)

  pub boxes-fit : length names ≤ host.store.spare
  boxes-fit = omega (arith, fits)

  pub drained-fit : (store : BlockStore) → store.spare + length names ≡ host.store.spare → length drained ≤ store.spare
  drained-fit store spare = omega (arith, fits, spare)

  -- ---- names apart

  pub boxes-apart : AreNewToStore names host.store
  boxes-apart = record {
    apart = λ id. omega (arith, count-append id names (ids_of host.store.blocks), counted id, truth_bit-le (is_block_of grant id));
  }

  pub drained-apart : (store : BlockStore) → ids_of store.blocks ≡ with_ids names (ids_of host.store.blocks) → AreNewToStore (ids_of drained) store
  drained-apart store moved = record {
    apart = λ id. omega (
      arith,
      count-append id (ids_of drained) (ids_of store.blocks),
      ap (count id) moved,
      count-put_all id names (ids_of host.store.blocks),
      counted id,
      truth_bit-le (is_block_of grant id),
    );
  }

  -- ---- the boxes

  ready-at : (r : ℕ) (d : Box) → r < length boxes → box_at boxes r ≡ get_or boxes r d
  ready-at r d below = get_or_default boxes r other d below

  pub boxes-idle : All IsIdleBox boxes
  boxes-idle r d below = subst IsIdleBox (ready-at r d below) (holds.ready r (omega (arith, below, holds.all))).idle

  room-at : (r : ℕ) (d : Box) → r < length boxes → greatest_blocks ≤ (get_or boxes r d).room
  room-at r d below = subst (λ (box : Box). greatest_blocks ≤ box.room) (ready-at r d below) (holds.ready r (omega (arith, below, holds.all))).room

  pub boxes-emptied : (some : List Box) → some ≡ map emptied_box boxes → All IsEmptiedBox some
  boxes-emptied some are r d below =
      let within : r < length boxes = omega (arith, below, ap (λ xs. length xs) are, length-map boxes emptied_box) in
      let is : get_or some r d ≡ emptied_box (get_or boxes r d) = ap (λ xs. get_or xs r d) are ∙ get_or-map emptied_box boxes r d d within in
      subst IsEmptiedBox (sym is) (record { none = ids-unborn process_count; room = omega (arith, room-at r d within, greatest_blocks_lem, home_blocks_lem) })

  -- ---- the store with all blocks

  pub gathered : (first store : BlockStore) → ids_of first.blocks ≡ with_ids names (ids_of host.store.blocks)
      → ids_of store.blocks ≡ with_ids (ids_of drained) (ids_of first.blocks) → rising.IsRising is_block_before store.blocks → ids_of store.blocks ≡ names_of_cube grant
  gathered first store of_boxes of_drained pairs =
      whole-store grant holds.sub (ids_of store.blocks) (rising-ids store.blocks pairs)
      (λ id. ap (count id) of_drained ∙ count-put_all id (ids_of drained) (ids_of first.blocks)
      ∙ omega (arith, counted id, ap (count id) of_boxes, count-put_all id names (ids_of host.store.blocks)))

  pub at_home : names_at_home (map emptied_box boxes) ≡ flat_map (λ r. blocks_of_home (node_of grant.sub r)) (node_numbers grant.dim)
  at_home =
      flat_map-map (λ (box : Box). blocks_of_home box.node.home) emptied_box boxes
      ∙ sym (flat-by_index (λ (box : Box). blocks_of_home box.node.home) boxes n other holds.all)
      ∙ flat-same (λ r. blocks_of_home (box_at boxes r).node.home) (λ r. blocks_of_home (node_of grant.sub r)) 0 n
      (λ r below. ap blocks_of_home (holds.homes r (omega (arith, below))))

  abbrev own : List BlockId
  own = blocks_of_home (host_home + grant.user)

  parted : (store : List BlockId) → store ≡ names_of_cube grant → store ≡ names_at_home (map emptied_box boxes) ++ own
  parted store is = is ∙ ap (λ some. some ++ own) (sym at_home)

  pub least : (some : List Box) (store : List BlockId) → some ≡ map emptied_box boxes → store ≡ names_of_cube grant → HasPrefix (names_at_home some) store
  least some store are is =
      let front : List BlockId = names_at_home (map emptied_box boxes) in
      subst (λ xs. HasPrefix (names_at_home xs) store) (sym are) (ap (take (length front)) (parted store is) ∙ take_at front own (length front) refl)

  pub host-left : (some : List Box) (store left : List BlockId) → some ≡ map emptied_box boxes → store ≡ names_of_cube grant
      → left ≡ drop (length (names_at_home some)) store → left ≡ own
  host-left some store left are is rest =
      let front : List BlockId = names_at_home (map emptied_box boxes) in
      rest ∙ ap (λ xs. drop (length (names_at_home xs)) store) are ∙ ap (drop (length front)) (parted store is) ∙ drop_at front own (length front) refl

  -- ---- all at home

  pub boxes-home : (some there : List Box) → some ≡ map emptied_box boxes → there ≡ map refilled_box some
      → AreBoxes (λ (box : Box). box.node.home) IsCleanBox n (node_of grant.sub) there
  boxes-home some there are filled =
      let is : there ≡ map refilled_box (map emptied_box boxes) = filled ∙ ap (map refilled_box) are in
      record {
        all = ap (λ xs. length xs) is ∙ length-map (map emptied_box boxes) refilled_box ∙ length-map boxes emptied_box ∙ holds.all;
        each = λ r d below.
            (let within : r < length boxes = omega (arith, below, holds.all) in
            let at : get_or there r d ≡ refilled_box (emptied_box (get_or boxes r d)) =
            ap (λ xs. get_or xs r d) is ∙ get_or-map refilled_box (map emptied_box boxes) r d d (omega (arith, within, length-map boxes emptied_box))
            ∙ ap refilled_box (get_or-map emptied_box boxes r d d within) in
            let home : (get_or boxes r d).node.home ≡ node_of grant.sub r = ap (λ (box : Box). box.node.home) (sym (ready-at r d within)) ∙ holds.homes r below in
            (ap (λ (box : Box). box.node.home) at ∙ home, subst IsCleanBox (sym at) (clean (get_or boxes r d) (boxes-idle r d within) (room-at r d within))));
      }

  pub host-home : (some : List Box) (first second third : BlockStore) → some ≡ map emptied_box boxes
      → first.spare + length names ≡ host.store.spare → second.spare + length drained ≡ first.spare → third.spare ≡ second.spare + length (names_at_home some)
      → ids_of second.blocks ≡ names_of_cube grant → ids_of third.blocks ≡ drop (length (names_at_home some)) (ids_of second.blocks)
      → IsHostAtHome grant.user (record { store = third; spare_batch = host.spare_batch })
  host-home some first second third are of_boxes of_drained of_home is rest =
      let left : ids_of third.blocks ≡ own = host-left some (ids_of second.blocks) (ids_of third.blocks) are is rest in
      record {
        blocks = left;
        room = omega (
          arith,
          of_boxes,
          of_drained,
          of_home,
          ap (λ xs. length (names_at_home xs)) are,
          ap (λ xs. length xs) (parted (ids_of second.blocks) is),
          ap (λ xs. length xs) is,
          length-cube grant holds.sub,
          length-append (names_at_home (map emptied_box boxes)) own,
          ap (λ xs. length xs) left,
          length-map third.blocks (λ (block : Block). block.id),
          total,
          holds.room,
        );
        spare = holds.spare;
      }

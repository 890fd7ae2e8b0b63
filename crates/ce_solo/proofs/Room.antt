-- How many items can wait: the parcels that wait have blocks of the cube, each once, and an id has
-- one start and one kill.
use Rattle.std.proofs.Common.{◌≡◌, ℕ, zero, suc, ◌+◌, ◌*◌, ◌^◌, ◌<◌, ◌≤◌, ◌==◌, nat_lt, if◌then◌else◌, List, [], ◌∷◌, map, length, count_by, refl, ap, sym, ◌∙◌, subst, arith, inl, inr}
use Rattle.std.specs.List.{AllByRecursion}
use Rattle.std.proofs.lemmas.Bool.{cond_both, cases_Bool, cases_lt, both_ways, eq-eqb, ne_eqb, eqb-true, lt-ltb, le-ltb, true_from_ne_false, and_from, ltb-true}
use Rattle.std.proofs.lemmas.List.{length-map}
use Rattle.ce_model.specs.declared.topology.TheConstants.{HOST}
use Rattle.ce_model.specs.declared.topology.BlockId.{BlockId}
use Rattle.ce_model.specs.Limits.{process_count, home_blocks, home_blocks_lem, host_home}
use Rattle.ce_model.specs.Parcels.{Item, start, mail, kill}
use Rattle.ce_model.specs.Trace.{NodeRecord}
use Rattle.ce_model.specs.Answers.{is_among}
use Rattle.ce_model.specs.Cube.{Cube, CubeState, IsCube}
use Rattle.ce_model.specs.Owners.{IsBlockOf, holdings}
use Rattle.ce_model.specs.Sound.{is_start_of, is_kill_of, IsItemOf, IsHostItem, IsSoundRecord, IsSound}
use Rattle.ce_solo.proofs.Counting.{hit, hit-self, count, count-cons, all-at_name, all-from_names, sum_run, sum_run-same, sum_run-add, sum_run-zero, sum_run-at, sum_run-part}
use Rattle.ce_solo.proofs.Lists.{all-map, count_by-cons, truth_bit, truth_bit-true, truth_bit-false, all-weaker}
use Rattle.ce_solo.proofs.Items.{parcel_ids}
use Rattle.ce_solo.proofs.Records.{among-all, killed-spawned}
use Rattle.ce_solo.proofs.Sending.{host_past}
use Rattle.ce_solo.proofs.Totals.{HeldName, names, names-total, count_at_node-is, total-is, total-le, count_at_node, total}

-- ---- numbers that differ and are below a limit

-- how often a number is in a list
abbrev times : ℕ → List ℕ → ℕ
times k ks = count_by (λ other. other == k) ks

sum-one : (k n : ℕ) → k < n → sum_run (λ j. truth_bit (k == j)) 0 n ≡ 1
sum-one k n below =
    sum_run-at (λ j. truth_bit (k == j)) k 0 n (omega arith) (omega arith) (λ j differ. truth_bit-false (k == j) (ne_eqb k j (λ e. differ (sym e))))
    ∙ truth_bit-true (k == k) (eq-eqb k k refl)

length-times : (ks : List ℕ) (n : ℕ) → AllByRecursion (λ k. k < n) ks → length ks ≡ sum_run (λ j. times j ks) 0 n
length-times [] n all = sym (sum_run-zero (λ j. times j []) 0 n (λ k low high. refl))
length-times (k ∷ ks) n all =
    omega (
      arith,
      length-times ks n all.1,
      sum-one k n all.0,
      sum_run-add (λ j. truth_bit (k == j)) (λ j. times j ks) 0 n,
      sum_run-same (λ j. times j (k ∷ ks)) (λ j. truth_bit (k == j) + times j ks) 0 n (λ j low high. count_by-cons (λ other. other == j) k ks),
    )

sum-le : (f : ℕ → ℕ) (from n : ℕ) → ((k : ℕ) → f k ≤ 1) → sum_run f from n ≤ n
unfolding sum_run
sum-le f from zero each = omega arith
sum-le f from (suc n) each = omega (arith, each from, sum-le f (from + 1) n each)

pub few-distinct : (ks : List ℕ) (n : ℕ) → AllByRecursion (λ k. k < n) ks → ((k : ℕ) → times k ks ≤ 1) → length ks ≤ n
few-distinct ks n all once = omega (arith, length-times ks n all, sum-le (λ j. times j ks) 0 n once)

-- ---- blocks of a cube

-- a number for each block of a cube
abbrev home_slot : ℕ → BlockId → ℕ
home_slot dim id = if nat_lt id.home (2 ^ dim) then id.home else 2 ^ dim

block_number : ℕ → BlockId → ℕ
block_number dim id = home_slot dim id * 32 + id.index

block_number-below : (dim : ℕ) (id : BlockId) → IsBlockOf dim id → block_number dim id < (2 ^ dim + 1) * 32
unfolding block_number
block_number-below dim id block =
    cond_both (nat_lt id.home (2 ^ dim)) id.home (2 ^ dim) (λ slot. slot * 32 + id.index < (2 ^ dim + 1) * 32)
    (λ t. omega (arith, ltb-true id.home (2 ^ dim) t, block.index, home_blocks_lem))
    (λ f. omega (arith, block.index, home_blocks_lem))

slot_at_node : (dim : ℕ) (id : BlockId) → id.home < 2 ^ dim → home_slot dim id ≡ id.home
slot_at_node dim id h = ap (λ b. if b then id.home else 2 ^ dim) (lt-ltb id.home (2 ^ dim) h)

slot_at_host : (dim : ℕ) (id : BlockId) → 2 ^ dim ≤ id.home → home_slot dim id ≡ 2 ^ dim
slot_at_host dim id h = ap (λ b. if b then id.home else 2 ^ dim) (le-ltb id.home (2 ^ dim) h)

same_name : (a b : BlockId) → a.home ≡ b.home → a.index ≡ b.index → 1 ≤ hit a b
unfolding hit
same_name a b h i =
    omega (arith, ap truth_bit (and_from (a.home == b.home) (a.index == b.index) (eq-eqb a.home b.home h) (eq-eqb a.index b.index i)))

-- blocks of one number are the same
same_number : (cube : Cube) (a b : BlockId) → IsCube cube → IsBlockOf cube.dim a → IsBlockOf cube.dim b → block_number cube.dim a ≡ block_number cube.dim b → 1 ≤ hit a b
unfolding block_number
same_number cube a b of block other e =
    let small = host_past cube of in
    let index : a.index ≡ b.index = omega (arith, e, block.index, other.index, home_blocks_lem) in
    let slot : home_slot cube.dim a ≡ home_slot cube.dim b = omega (arith, e, block.index, other.index, home_blocks_lem) in
    elim (cases_lt a.home (2 ^ cube.dim)) [
      | inl count_at_node ↦ elim (cases_lt b.home (2 ^ cube.dim)) [
        | inl there ↦ same_name a b (sym (slot_at_node cube.dim a count_at_node) ∙ slot ∙ slot_at_node cube.dim b there) index
        | inr past ↦ absurd (omega (arith, count_at_node, slot, slot_at_node cube.dim a count_at_node, slot_at_host cube.dim b past))
      ]
      | inr at_host ↦ elim (cases_lt b.home (2 ^ cube.dim)) [
        | inl there ↦ absurd (omega (arith, there, slot, slot_at_host cube.dim a at_host, slot_at_node cube.dim b there))
        | inr past ↦ same_name a b (home_of_host cube a at_host block ∙ sym (home_of_host cube b past other)) index
      ]
    ]
  where
    home_of_host : (cube : Cube) (id : BlockId) → 2 ^ cube.dim ≤ id.home → IsBlockOf cube.dim id → id.home ≡ host_home
    home_of_host cube id past block = elim block.home [ inl node ↦ absurd (omega (arith, node, past)) | inr host ↦ host ]

other_numbers : (cube : Cube) (a : BlockId) (ids : List BlockId) → IsCube cube → IsBlockOf cube.dim a → AllByRecursion (IsBlockOf cube.dim) ids → count a ids ≡ 0
    → times (block_number cube.dim a) (map (block_number cube.dim) ids) ≡ 0
other_numbers cube a [] of block all none = refl
other_numbers cube a (b ∷ ids) of block all none =
    let differ : block_number cube.dim b ≡ block_number cube.dim a → ⊥ =
    λ e. omega (arith, none, count-cons a b ids, same_number cube a b of block all.0 (sym e)) in
    omega (
      arith,
      count_by-cons (λ other. other == block_number cube.dim a) (block_number cube.dim b) (map (block_number cube.dim) ids),
      truth_bit-false (block_number cube.dim b == block_number cube.dim a) (ne_eqb (block_number cube.dim b) (block_number cube.dim a) differ),
      other_numbers cube a ids of block all.1 (omega (arith, none, count-cons a b ids)),
    )

numbers-once : (cube : Cube) (ids : List BlockId) (k : ℕ) → IsCube cube → AllByRecursion (IsBlockOf cube.dim) ids → ((id : BlockId) → count id ids ≤ 1)
    → times k (map (block_number cube.dim) ids) ≤ 1
numbers-once cube [] k of all once = omega arith
numbers-once cube (a ∷ ids) k of all once =
    let n = block_number cube.dim a in
    let rest = numbers-once cube ids k of all.1 (λ id. omega (arith, once id, count-cons id a ids)) in
    elim (cases_Bool (n == k)) [
      | inl t ↦
          let none = other_numbers cube a ids of all.0 all.1 (omega (arith, once a, count-cons a a ids, hit-self a)) in
          omega (
            arith,
            count_by-cons (λ other. other == k) n (map (block_number cube.dim) ids),
            truth_bit-true (n == k) t,
            subst (λ k. times k (map (block_number cube.dim) ids) ≡ 0) (eqb-true n k t) none,
          )
      | inr f ↦ omega (arith, rest, count_by-cons (λ other. other == k) n (map (block_number cube.dim) ids), truth_bit-false (n == k) f)
    ]

-- blocks of a cube of which each stands once are as many at most as the cube has
pub few-blocks : (cube : Cube) (ids : List BlockId) → IsCube cube → AllByRecursion (IsBlockOf cube.dim) ids → ((id : BlockId) → count id ids ≤ 1)
    → length ids ≤ (2 ^ cube.dim + 1) * home_blocks
few-blocks cube ids of all once =
    let few = few-distinct (map (block_number cube.dim) ids) ((2 ^ cube.dim + 1) * 32)
    (all-map (λ k. k < (2 ^ cube.dim + 1) * 32) (block_number cube.dim) ids
    (all-weaker (IsBlockOf cube.dim) (λ id. block_number cube.dim id < (2 ^ cube.dim + 1) * 32) ids (block_number-below cube.dim) all))
    (λ k. numbers-once cube ids k of all once) in
    omega (arith, few, length-map ids (block_number cube.dim), ap (λ n. (2 ^ cube.dim + 1) * n) home_blocks_lem)

-- ---- items

start_pids : List Item → List ℕ
start_pids [] = []
start_pids (start pid image ∷ items) = pid ∷ start_pids items
start_pids (mail parcel ∷ items) = start_pids items
start_pids (kill pid ∷ items) = start_pids items

kill_pids : List Item → List ℕ
kill_pids [] = []
kill_pids (start pid image ∷ items) = kill_pids items
kill_pids (mail parcel ∷ items) = kill_pids items
kill_pids (kill pid ∷ items) = pid ∷ kill_pids items

length-items : (items : List Item) → length items ≡ length (start_pids items) + length (kill_pids items) + length (parcel_ids items)
unfolding start_pids kill_pids
length-items [] = refl
length-items (start pid image ∷ items) = omega (arith, length-items items)
length-items (mail parcel ∷ items) = omega (arith, length-items items)
length-items (kill pid ∷ items) = omega (arith, length-items items)

starts-times : (pid : ℕ) (items : List Item) → times pid (start_pids items) ≡ count_by (is_start_of pid) items
unfolding start_pids
starts-times pid [] = refl
starts-times pid (start other image ∷ items) =
    omega (arith, starts-times pid items, count_by-cons (λ k. k == pid) other (start_pids items), count_by-cons (is_start_of pid) (start other image) items)
starts-times pid (mail parcel ∷ items) = omega (arith, starts-times pid items, count_by-cons (is_start_of pid) (mail parcel) items)
starts-times pid (kill other ∷ items) = omega (arith, starts-times pid items, count_by-cons (is_start_of pid) (kill other) items)

kills-times : (pid : ℕ) (items : List Item) → times pid (kill_pids items) ≡ count_by (is_kill_of pid) items
unfolding kill_pids
kills-times pid [] = refl
kills-times pid (start other image ∷ items) = omega (arith, kills-times pid items, count_by-cons (is_kill_of pid) (start other image) items)
kills-times pid (mail parcel ∷ items) = omega (arith, kills-times pid items, count_by-cons (is_kill_of pid) (mail parcel) items)
kills-times pid (kill other ∷ items) =
    omega (arith, kills-times pid items, count_by-cons (λ k. k == pid) other (kill_pids items), count_by-cons (is_kill_of pid) (kill other) items)

starts-small : (cube : Cube) (sent r : ℕ) (node_record : NodeRecord) (items : List Item) → IsSoundRecord cube sent r node_record → AllByRecursion (IsItemOf cube r node_record) items
    → AllByRecursion (λ pid. pid < process_count) (start_pids items)
unfolding start_pids
starts-small cube sent r node_record [] sound own = tt
starts-small cube sent r node_record (start pid image ∷ items) sound own =
    (among-all (λ q. q < process_count) pid node_record.spawned_ids sound.ids own.0.0, starts-small cube sent r node_record items sound own.1)
starts-small cube sent r node_record (mail parcel ∷ items) sound own = starts-small cube sent r node_record items sound own.1
starts-small cube sent r node_record (kill pid ∷ items) sound own = starts-small cube sent r node_record items sound own.1

kills-small : (cube : Cube) (sent r : ℕ) (node_record : NodeRecord) (items : List Item) → IsSoundRecord cube sent r node_record → AllByRecursion (IsItemOf cube r node_record) items
    → AllByRecursion (λ pid. pid < process_count) (kill_pids items)
unfolding kill_pids
kills-small cube sent r node_record [] sound own = tt
kills-small cube sent r node_record (start pid image ∷ items) sound own = kills-small cube sent r node_record items sound own.1
kills-small cube sent r node_record (mail parcel ∷ items) sound own = kills-small cube sent r node_record items sound own.1
kills-small cube sent r node_record (kill pid ∷ items) sound own = (
  among-all (λ q. q < process_count) pid node_record.spawned_ids sound.ids
      (true_from_ne_false (is_among pid node_record.spawned_ids) (λ none. both_ways _ (killed-spawned pid node_record.spawned_ids node_record.killed_ids sound.killed none) own.0)),
  kills-small cube sent r node_record items sound own.1,
)

-- blocks that are held are the cube's
pub held_blocks : (cube : Cube) (s : CubeState) (ids : List BlockId) → IsSound cube s → ((id : BlockId) → count id ids ≤ total id cube.dim s)
    → AllByRecursion (IsBlockOf cube.dim) ids
held_blocks cube s ids sound within =
    all-from_names (IsBlockOf cube.dim) ids
    (λ id some. all-at_name (IsBlockOf cube.dim) (names (holdings cube.dim s)) id
    (all-map (IsBlockOf cube.dim) (λ (holding : HeldName). holding.1) (holdings cube.dim s) sound.blocks) (omega (arith, some, within id, names-total id cube.dim s)))

-- ---- the room of a queue

-- no more items wait at a node than a start and a kill for each id and a parcel for each block
pub node_room : (cube : Cube) (s : CubeState) (r : ℕ) → IsCube cube → IsSound cube s → r < 2 ^ cube.dim
    → length (s.standing.node_record r).waiting_items ≤ (2 ^ cube.dim + 1) * home_blocks + 2 * process_count
node_room cube s r of sound below =
    let node_record = s.standing.node_record r in
    let is = sound.records r below in
    let within : (id : BlockId) → count id (parcel_ids node_record.waiting_items) ≤ total id cube.dim s =
    λ id. omega (arith, total-is id cube.dim s, count_at_node-is id s r, sum_run-part (count_at_node id s) r 0 (2 ^ cube.dim) (omega arith) (omega arith)) in
    let blocks = few-blocks cube (parcel_ids node_record.waiting_items) of (held_blocks cube s (parcel_ids node_record.waiting_items) sound within) (λ id. omega (arith, within id, total-le cube s id sound)) in
    let starts = few-distinct (start_pids node_record.waiting_items) process_count (starts-small cube s.standing.parcel_count r node_record node_record.waiting_items is is.own) (λ pid. omega (arith, is.one_start pid, starts-times pid node_record.waiting_items)) in
    let kills = few-distinct (kill_pids node_record.waiting_items) process_count (kills-small cube s.standing.parcel_count r node_record node_record.waiting_items is is.own) (λ pid. omega (arith, is.one_kill pid, kills-times pid node_record.waiting_items)) in
    omega (arith, length-items node_record.waiting_items, blocks, starts, kills)

host_pids : (items : List Item) → AllByRecursion IsHostItem items → length items ≡ length (parcel_ids items)
host_pids [] own = refl
host_pids (start pid image ∷ items) own = absurd own.0
host_pids (mail parcel ∷ items) own = ap suc (host_pids items own.1)
host_pids (kill pid ∷ items) own = absurd own.0

-- and no more parcels wait at the host than the cube has blocks
pub host_room : (cube : Cube) (s : CubeState) → IsCube cube → IsSound cube s → length (s.standing.node_record HOST).waiting_items ≤ (2 ^ cube.dim + 1) * home_blocks
host_room cube s of sound =
    let items = (s.standing.node_record HOST).waiting_items in
    let within : (id : BlockId) → count id (parcel_ids items) ≤ total id cube.dim s = λ id. omega (arith, total-is id cube.dim s) in
    omega (
      arith,
      host_pids items sound.host.own,
      few-blocks cube (parcel_ids items) of (held_blocks cube s (parcel_ids items) sound within) (λ id. omega (arith, within id, total-le cube s id sound)),
    )

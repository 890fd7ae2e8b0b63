-- How often a block is held in a cube, as a sum over its nodes, its host's parcels and its host's
-- store.
use Rattle.std.proofs.Common.{◌≡◌, ℕ, ◌+◌, ◌^◌, ◌<◌, ◌≤◌, List, [], ◌∷◌, ◌++◌, map, filter, filter_map, flat_map, length, count_by, Option, Some, None, option_map, refl, ap, ◌∙◌, arith, inl, inr}
use Rattle.std.specs.List.{AllByRecursion, enumerate_from}
use Rattle.std.proofs.lemmas.Bool.{cases_lt}
use Rattle.std.proofs.lemmas.List.{map-append, length-map}
use Rattle.std.proofs.lemmas.List.Sums.{length-filter}
use Rattle.ce_model.specs.declared.topology.TheConstants.{HOST}
use Rattle.ce_model.specs.declared.topology.BlockId.{BlockId}
use Rattle.ce_model.specs.Blocks.{Block, is_same_id}
use Rattle.ce_model.specs.Parcels.{Parcel, Item, item_parcels}
use Rattle.ce_model.specs.Space.{mapped_ids}
use Rattle.ce_model.specs.Process.{Process}
use Rattle.ce_model.specs.Node.{Node, blocks_of}
use Rattle.ce_model.specs.Cube.{Cube, CubeState, node_numbers}
use Rattle.ce_model.specs.Owners.{Holder, store_holder, window_holder, parcel_holder, hoststore_holder, process_holdings, node_holdings, parcel_holdings, holdings, holders, IsBlockOf, HasOneOwner}
use Rattle.ce_model.specs.Sound.{IsSound}
use Rattle.ce_solo.proofs.Counting.{count, count-is, count-append, count-run, all-at_name, all-from_names, sum_run, sum_run-same, sum_run-part}
use Rattle.ce_solo.proofs.Lists.{all-map, all-of_map, count_by-cons}
use Rattle.ce_solo.proofs.Windows.{ids_at}
use Rattle.ce_solo.proofs.Items.{parcel_ids}

abbrev pub HeldName : Type 0
HeldName = Holder × BlockId

-- the names of the blocks that are held
abbrev pub names : List HeldName → List BlockId
names held = map (λ holding. holding.1) held

names-append : (xs ys : List HeldName) → names (xs ++ ys) ≡ names xs ++ names ys
names-append xs ys = map-append (λ (holding : HeldName). holding.1) xs ys

names-with : {X : Type 0} (holder : X → Holder) (id : X → BlockId) (xs : List X) → names (map (λ x. (holder x, id x)) xs) ≡ map id xs
names-with holder id [] = refl
names-with holder id (x ∷ xs) = ap (λ ids. id x ∷ ids) (names-with holder id xs)

map-same : (ids : List BlockId) → map (λ (id : BlockId). id) ids ≡ ids
map-same [] = refl
map-same (id ∷ ids) = ap (λ rest. id ∷ rest) (map-same ids)

names-window : (r pid n : ℕ) (windows : List (Option Block))
    → names (filter_map (λ (window : ℕ × Option Block). option_map (λ block. (window_holder r pid window.0, block.id)) window.1) (enumerate_from n windows)) ≡ ids_at windows
names-window r pid n [] = refl
names-window r pid n (None ∷ windows) = names-window r pid (n + 1) windows
names-window r pid n (Some block ∷ windows) = ap (λ ids. block.id ∷ ids) (names-window r pid (n + 1) windows)

names-processes : (r n : ℕ) (ps : List Process) → names (flat_map (process_holdings r) (enumerate_from n ps)) ≡ flat_map (λ p. mapped_ids p.space) ps
names-processes r n [] = refl
names-processes r n (p ∷ ps) =
    names-append (process_holdings r (n, p)) (flat_map (process_holdings r) (enumerate_from (n + 1) ps))
    ∙ ap (λ ids. ids ++ names (flat_map (process_holdings r) (enumerate_from (n + 1) ps))) (names-window r n 0 p.space.windows)
    ∙ ap (λ ids. mapped_ids p.space ++ ids) (names-processes r (n + 1) ps)

names-node : (r : ℕ) (node : Node) → names (node_holdings r node) ≡ blocks_of node
names-node r node =
    names-append (map (λ id. (store_holder r, id)) node.store) (flat_map (process_holdings r) (enumerate_from 0 node.processes))
    ∙ ap (λ ids. ids ++ names (flat_map (process_holdings r) (enumerate_from 0 node.processes))) (names-with (λ id. store_holder r) (λ id. id) node.store ∙ map-same node.store)
    ∙ ap (λ ids. node.store ++ ids) (names-processes r 0 node.processes)

names-parcels : (r : ℕ) (items : List Item) → names (parcel_holdings r items) ≡ parcel_ids items
names-parcels r items = names-with (λ (parcel : Parcel). parcel_holder r parcel.number) (λ parcel. parcel.block.id) (item_parcels items)

-- how often a block is at a node: in its store, its windows, and the parcels that wait there
unfoldable pub count_at_node : BlockId → CubeState → ℕ → ℕ
count_at_node id s r = count id (blocks_of (s.node r)) + count id (parcel_ids (s.standing.node_record r).waiting_items)

pub count_at_node-is : (id : BlockId) (s : CubeState) (r : ℕ) → count_at_node id s r ≡ count id (blocks_of (s.node r)) + count id (parcel_ids (s.standing.node_record r).waiting_items)
unfolding count_at_node
count_at_node-is id s r = refl

-- how often it is in the cube
unfoldable pub total : BlockId → ℕ → CubeState → ℕ
total id dim s = sum_run (count_at_node id s) 0 (2 ^ dim) + count id (parcel_ids (s.standing.node_record HOST).waiting_items) + count id s.hoststore

pub total-is : (id : BlockId) (dim : ℕ) (s : CubeState)
    → total id dim s ≡ sum_run (count_at_node id s) 0 (2 ^ dim) + count id (parcel_ids (s.standing.node_record HOST).waiting_items) + count id s.hoststore
unfolding total
total-is id dim s = refl

names-flat : (f : ℕ → List HeldName) (rs : List ℕ) → names (flat_map f rs) ≡ flat_map (λ r. names (f r)) rs
names-flat f [] = refl
names-flat f (r ∷ rs) = names-append (f r) (flat_map f rs) ∙ ap (λ ids. names (f r) ++ ids) (names-flat f rs)

-- what a node and the parcels that wait there hold
abbrev at : CubeState → ℕ → List HeldName
at s r = node_holdings r (s.node r) ++ parcel_holdings r (s.standing.node_record r).waiting_items

count-at : (id : BlockId) (s : CubeState) (r : ℕ) → count id (names (at s r)) ≡ count_at_node id s r
unfolding count_at_node
count-at id s r =
    omega (
      arith,
      ap (count id) (names-append (node_holdings r (s.node r)) (parcel_holdings r (s.standing.node_record r).waiting_items)),
      count-append id (names (node_holdings r (s.node r))) (names (parcel_holdings r (s.standing.node_record r).waiting_items)),
      ap (count id) (names-node r (s.node r)),
      ap (count id) (names-parcels r (s.standing.node_record r).waiting_items),
    )

pub names-total : (id : BlockId) (dim : ℕ) (s : CubeState) → count id (names (holdings dim s)) ≡ total id dim s
unfolding total holdings
names-total id dim s =
    let nodes = flat_map (at s) (node_numbers dim) in
    let parcels = parcel_holdings HOST (s.standing.node_record HOST).waiting_items in
    let store : List HeldName = map (λ id. (hoststore_holder, id)) s.hoststore in
    let of_nodes : count id (names nodes) ≡ sum_run (count_at_node id s) 0 (2 ^ dim) =
    ap (count id) (names-flat (at s) (node_numbers dim)) ∙ count-run id (λ r. names (at s r)) 0 (2 ^ dim)
    ∙ sum_run-same (λ r. count id (names (at s r))) (count_at_node id s) 0 (2 ^ dim) (λ r low high. count-at id s r) in
    omega (
      arith,
      of_nodes,
      ap (count id) (names-append (nodes ++ parcels) store),
      count-append id (names (nodes ++ parcels)) (names store),
      ap (count id) (names-append nodes parcels),
      count-append id (names nodes) (names parcels),
      ap (count id) (names-parcels HOST (s.standing.node_record HOST).waiting_items),
      ap (count id) (names-with (λ (id : BlockId). hoststore_holder) (λ id. id) s.hoststore ∙ map-same s.hoststore),
    )

count_by-names : (id : BlockId) (held : List HeldName) → count_by (λ holding. is_same_id id holding.1) held ≡ count_by (is_same_id id) (names held)
count_by-names id [] = refl
count_by-names id (holding ∷ held) =
    omega (arith, count_by-cons (λ (h : HeldName). is_same_id id h.1) holding held, count_by-cons (is_same_id id) holding.1 (names held), count_by-names id held)

pub holders-total : (id : BlockId) (dim : ℕ) (s : CubeState) → length (holders dim s id) ≡ total id dim s
unfolding holders
holders-total id dim s =
    length-map (filter (λ (holding : HeldName). is_same_id id holding.1) (holdings dim s)) (λ holding. holding.0)
    ∙ length-filter (λ (holding : HeldName). is_same_id id holding.1) (holdings dim s)
    ∙ count_by-names id (holdings dim s) ∙ count-is id (names (holdings dim s)) ∙ names-total id dim s

-- ---- one owner

-- no block of a sound cube is at two places
pub total-le : (cube : Cube) (s : CubeState) (id : BlockId) → IsSound cube s → total id cube.dim s ≤ 1
total-le cube s id sound =
    elim (cases_lt (total id cube.dim s) 1) [
      | inl none ↦ omega arith
      | inr some ↦
          let of_cube = all-at_name (IsBlockOf cube.dim) (names (holdings cube.dim s)) id
          (all-map (IsBlockOf cube.dim) (λ (holding : HeldName). holding.1) (holdings cube.dim s) sound.blocks) (omega (arith, some, names-total id cube.dim s)) in
          omega (arith, sound.owners id of_cube, holders-total id cube.dim s)
    ]

pub at_node-le : (cube : Cube) (s : CubeState) (r : ℕ) (id : BlockId) → IsSound cube s → r < 2 ^ cube.dim → count_at_node id s r ≤ 1
at_node-le cube s r id sound below =
    omega (arith, total-le cube s id sound, total-is id cube.dim s, sum_run-part (count_at_node id s) r 0 (2 ^ cube.dim) (omega arith) (omega arith))

-- where each block is as often as before, each has one owner as before, and there are no others
pub owners-kept : (cube : Cube) (s s' : CubeState) → IsSound cube s → ((id : BlockId) → total id cube.dim s' ≡ total id cube.dim s) → HasOneOwner cube.dim s'
owners-kept cube s s' sound same id of_cube =
    omega (arith, holders-total id cube.dim s', same id, holders-total id cube.dim s, sound.owners id of_cube)

pub blocks-kept : (cube : Cube) (s s' : CubeState) → IsSound cube s → ((id : BlockId) → total id cube.dim s' ≡ total id cube.dim s)
    → AllByRecursion (λ holding. IsBlockOf cube.dim holding.1) (holdings cube.dim s')
blocks-kept cube s s' sound same =
    all-of_map (IsBlockOf cube.dim) (λ (holding : HeldName). holding.1) (holdings cube.dim s')
    (all-from_names (IsBlockOf cube.dim) (names (holdings cube.dim s'))
    (λ id some. all-at_name (IsBlockOf cube.dim) (names (holdings cube.dim s)) id
    (all-map (IsBlockOf cube.dim) (λ (holding : HeldName). holding.1) (holdings cube.dim s) sound.blocks)
    (omega (arith, some, names-total id cube.dim s', same id, names-total id cube.dim s))))

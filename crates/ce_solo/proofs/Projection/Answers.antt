-- What a cube's call is answered, by how the machine keeps the cube: the same, with the machine's
-- numbers and names.
use Rattle.std.proofs.Common.{◌≡◌, ℕ, zero, suc, ◌+◌, ◌^◌, ◌<◌, Bool, true, false, not, ◌&&◌, ◌||◌, ◌==◌, if◌then◌else◌, List, [], ◌∷◌, map, find, Option, Some, None, option_map, refl, ap, ap₂, sym, ◌∙◌, inl, inr, arith}
use Rattle.std.specs.List.{list_any, list_all, range_with_len}
use Rattle.ce_model.specs.declared.topology.TheConstants.{HOST}
use Rattle.ce_model.specs.declared.topology.Place.{Place}
use Rattle.ce_model.specs.declared.topology.BlockId.{BlockId}
use Rattle.ce_model.specs.declared.entry.What.TheVariants.{Look, HostTake, Send, Spawn, Kill, Take}
use Rattle.ce_model.specs.Parcels.{Item, start, mail, kill, is_eligible}
use Rattle.ce_model.specs.Node.{Call, take_call, send_call, spawn_call, kill_call, note_call, arm_call, look_call, mail_call}
use Rattle.ce_model.specs.Trace.{NodeRecord, Standing}
use Rattle.ce_model.specs.Answers.{is_used_up, offer_of, is_among, kill_result, is_quiet_node, is_quiet, look_result_where, first_number, answer}
use Rattle.ce_model.specs.Cube.{node_numbers}
use Rattle.ce_model.specs.Subcubes.{node_of}
use Rattle.ce_model.specs.Renaming.{CubeGrant, place_outward, block_outward, number_outward, renamed_targets, renamed_item, renamed_record, renamed_call_blocks}
use Rattle.ce_model.specs.Machine.{nodes_of, with_places_outward}
use Rattle.ce_solo.proofs.Projection.Numbers.{IsPlaced, IsNumber, what_outward, out_node, out_host}

-- ---- items with other names for their blocks

module _ (rename : BlockId → BlockId) where
  pub eligible-renamed : (asking dead : ℕ) (item : Item) → is_eligible asking dead (renamed_item rename item) ≡ is_eligible asking dead item
  eligible-renamed asking dead (start pid image) = refl
  eligible-renamed asking dead (mail parcel) = refl
  eligible-renamed asking dead (kill pid) = refl

  found_of : (b : Bool) (item : Item) (rest : Option Item) (rest' : Option Item) → rest' ≡ option_map (renamed_item rename) rest
      → (if b then Some (renamed_item rename item) else rest') ≡ option_map (renamed_item rename) (if b then Some item else rest)
  found_of true item rest rest' same = refl
  found_of false item rest rest' same = same

  pub find-renamed : (asking dead : ℕ) (items : List Item)
      → find (is_eligible asking dead) (map (renamed_item rename) items) ≡ option_map (renamed_item rename) (find (is_eligible asking dead) items)
  find-renamed asking dead [] = refl
  find-renamed asking dead (item ∷ items) =
      rw (eligible-renamed asking dead item)
      (found_of (is_eligible asking dead item) item (find (is_eligible asking dead) items) (find (is_eligible asking dead) (map (renamed_item rename) items))
      (find-renamed asking dead items))

  pub offered-renamed : (found : Option Item) (poller : Option ℕ) (used : Bool) → offer_of (option_map (renamed_item rename) found) poller used ≡ offer_of found poller used
  offered-renamed (Some (start pid image)) poller used = refl
  offered-renamed (Some (mail parcel)) poller used = refl
  offered-renamed (Some (kill pid)) poller used = refl
  offered-renamed None (Some pid) used = refl
  offered-renamed None None used = refl

  pub any-renamed : (asking dead : ℕ) (items : List Item) → list_any (is_eligible asking dead) (map (renamed_item rename) items) ≡ list_any (is_eligible asking dead) items
  any-renamed asking dead [] = refl
  any-renamed asking dead (item ∷ items) = ap₂ (λ a b. a || b) (eligible-renamed asking dead item) (any-renamed asking dead items)

  pub first-renamed : (items : List Item) → first_number (map (renamed_item rename) items) ≡ first_number items
  first-renamed [] = refl
  first-renamed (start pid image ∷ items) = refl
  first-renamed (mail parcel ∷ items) = refl
  first-renamed (kill pid ∷ items) = refl

  pub quiet-renamed : (kept : NodeRecord) → is_quiet_node (renamed_record rename kept) ≡ is_quiet_node kept
  quiet-renamed kept = ap (λ b. kept.mark.is_idle && not b) (any-renamed kept.mark.asking kept.mark.dead kept.waiting_items)

-- ---- how the machine keeps a cube

-- the one is how a cube stands, and the other how the machine keeps it, with its numbers for the
-- nodes and its names for blocks
pub record IsStandingOf (grant : CubeGrant) (there here : Standing) : Type 0 where
  pub nodes : (r : ℕ) → r < 2 ^ grant.dim → there.node_record (node_of grant.sub r) ≡ renamed_record (block_outward grant) (here.node_record r)
  pub host : (there.node_record HOST).waiting_items ≡ map (renamed_item (block_outward grant)) (here.node_record HOST).waiting_items
  pub allowed_dispatches : there.allowed_dispatches ≡ here.allowed_dispatches
  pub made_dispatches : there.made_dispatches ≡ here.made_dispatches
  pub parcel_count : there.parcel_count ≡ here.parcel_count

-- a call names places and blocks of a cube of this dimension alone, and an actor that is no node
-- takes no work
abbrev pub IsCallIn : ℕ → Call → Type 0
IsCallIn d (spawn_call pid image to) = to.node < 2 ^ d
IsCallIn d (kill_call pid to) = to.node < 2 ^ d
IsCallIn d other = Unit {0}

both_renamed : (place : Place → Place) (block : BlockId → BlockId) (to : List (Place × BlockId))
    → renamed_targets place (λ id. id) (renamed_targets (λ place. place) block to) ≡ renamed_targets place block to
both_renamed place block [] = refl
both_renamed place block (target ∷ to) = ap (λ rest. (place target.0, block target.1) ∷ rest) (both_renamed place block to)

module _ (dim : ℕ) (grant : CubeGrant) (of : IsPlaced dim grant) (there here : Standing) (is : IsStandingOf grant there here) where
  pub waiting-outward : (n : ℕ) → IsNumber grant.dim n
      → (there.node_record (number_outward grant.sub n)).waiting_items ≡ map (renamed_item (block_outward grant)) (here.node_record n).waiting_items
  waiting-outward n (inl below) =
      ap (λ m. (there.node_record m).waiting_items) (out_node dim grant of n below) ∙ ap (λ (kept : NodeRecord). kept.waiting_items) (is.nodes n below)
  waiting-outward n (inr host) =
      ap (λ m. (there.node_record (number_outward grant.sub m)).waiting_items) host ∙ ap (λ m. (there.node_record m).waiting_items) (out_host grant)
      ∙ is.host ∙ ap (λ m. map (renamed_item (block_outward grant)) (here.node_record m).waiting_items) (sym host)

  pub record-outward : (r : ℕ) → r < 2 ^ grant.dim → there.node_record (number_outward grant.sub r) ≡ renamed_record (block_outward grant) (here.node_record r)
  record-outward r below = ap there.node_record (out_node dim grant of r below) ∙ is.nodes r below

  used-outward : is_used_up there ≡ is_used_up here
  used-outward = ap₂ (λ a b. a == b) is.made_dispatches is.allowed_dispatches

  quiet_run : (from count : ℕ) → ((k : ℕ) → k < count → from + k < 2 ^ grant.dim)
      → list_all (λ n. is_quiet_node (there.node_record n)) (map (node_of grant.sub) (range_with_len from count))
      ≡ list_all (λ r. is_quiet_node (here.node_record r)) (range_with_len from count)
  quiet_run from zero below = refl
  quiet_run from (suc count) below =
      ap₂ (λ a b. a && b)
      (ap is_quiet_node (is.nodes from (omega (arith, below 0 (omega arith)))) ∙ quiet-renamed (block_outward grant) (here.node_record from))
      (quiet_run (from + 1) count (λ k less. omega (arith, below (suc k) (omega arith))))

  quiet-outward : is_quiet (nodes_of grant) there ≡ is_quiet (node_numbers grant.dim) here
  unfolding is_quiet
  quiet-outward = quiet_run 0 (2 ^ grant.dim) (λ k less. omega arith)

  pub answer-outward : (n : ℕ) (call : Call) → IsNumber grant.dim n → IsCallIn grant.dim call
      → answer (nodes_of grant) there (number_outward grant.sub n) (with_places_outward grant (renamed_call_blocks (block_outward grant) call))
      ≡ what_outward grant (answer (node_numbers grant.dim) here n call)
  unfolding answer
  answer-outward n (take_call asking dead poller) num in_cube =
      ap₂ (λ items used. Take asking dead poller (offer_of (find (is_eligible asking dead) items) poller used)) (waiting-outward n num) used-outward
      ∙ ap (λ found. Take asking dead poller (offer_of found poller (is_used_up here))) (find-renamed (block_outward grant) asking dead (here.node_record n).waiting_items)
      ∙ ap (Take asking dead poller) (offered-renamed (block_outward grant) (find (is_eligible asking dead) (here.node_record n).waiting_items) poller (is_used_up here))
  answer-outward n (send_call pid to bytes) num in_cube =
      ap₂ (λ count to. Send pid count to bytes) is.parcel_count (both_renamed (place_outward grant.sub) (block_outward grant) to)
  answer-outward n (spawn_call pid image to) num in_cube =
      ap (λ (kept : NodeRecord). Spawn pid image (place_outward grant.sub to) (not (is_among to.pid kept.spawned_ids))) (record-outward to.node in_cube)
  answer-outward n (kill_call pid to) num in_cube =
      ap (λ (kept : NodeRecord). Kill pid (place_outward grant.sub to) (kill_result kept to.pid)) (record-outward to.node in_cube)
  answer-outward n (note_call pid word) num in_cube = refl
  answer-outward n (arm_call count) num in_cube = refl
  answer-outward n look_call num in_cube = ap₂ (λ quiet used. Look (look_result_where quiet used)) quiet-outward used-outward
  answer-outward n mail_call num in_cube =
      ap (λ items. HostTake (first_number items)) (waiting-outward n num) ∙ ap HostTake (first-renamed (block_outward grant) (here.node_record n).waiting_items)

-- Three wrong rules, each with a trace that it gives and a law that this trace breaks: one block in
-- two parcels, the newest mail first, and early mail dropped.
use Rattle.std.proofs.Common.{◌≡◌, ℕ, Bool, true, false, ◌||◌, List, [], ◌∷◌, map, find, reverse, slice_index, slice_index_or, None, refl, ap, arith, inr}
use Rattle.rv_model.specs.Image.{ImageParts}
use Rattle.ce_model.specs.declared.topology.TheConstants.{HOST}
use Rattle.ce_model.specs.declared.topology.Place.{Place}
use Rattle.ce_model.specs.declared.topology.BlockId.{BlockId}
use Rattle.ce_model.specs.declared.entry.Entry.{Entry}
use Rattle.ce_model.specs.declared.entry.TakeResult.{TakeResult}
use Rattle.ce_model.specs.declared.entry.TakeResult.TheVariants.{Start, Mail}
use Rattle.ce_model.specs.declared.entry.What.TheVariants.{Send, Spawn, Take}
use Rattle.ce_model.specs.Limits.{home_blocks_lem}
use Rattle.ce_model.specs.Lists.{IsFront}
use Rattle.ce_model.specs.Parcels.{Item, mail, item_id, is_eligible, is_member}
use Rattle.ce_model.specs.Node.{host_place}
use Rattle.ce_model.specs.Trace.{sent_items, taken_results, waiting_items}
use Rattle.ce_model.specs.Answers.{offer_of}
use Rattle.ce_model.specs.Cube.{opening, state_after_trace}
use Rattle.ce_model.specs.Owners.{IsBlockOf, IsOwned}
use Rattle.ce_model.specs.Order.{messages_sent, messages_got, IsInOrder}
use Rattle.ce_model.proofs.Rows.Cubes.{one_cube, row_entry, place_0, host_block, host_parcel}
use Rattle.ce_solo.proofs.Counting.{hit-self, count, count-nil, count-cons, sum_run-part}
use Rattle.ce_solo.proofs.Items.{parcel_ids}
use Rattle.ce_solo.proofs.Totals.{holders-total, count_at_node, count_at_node-is, total-is}

-- ---- one block in two parcels

-- what a message to several places would be that puts its one block into each parcel
abbrev pub one_block_each : BlockId → List Place → List (Place × BlockId)
one_block_each id places = map (λ to. (to, id)) places

-- the host sends 1 to process 0 twice, in one block
abbrev pub two_parcels : List Entry
two_parcels = row_entry HOST (Send 0 0 (one_block_each (host_block 0) (place_0 ∷ place_0 ∷ [])) (1 ∷ [])) ∷ []

-- what waits behind it
two_wait : (image : ImageParts)
    → waiting_items (opening (one_cube image)).standing 0 two_parcels ≡ mail (host_parcel 0 0 (1 ∷ [])) ∷ mail (host_parcel 1 0 (1 ∷ [])) ∷ []
unfolding waiting_items sent_items taken_results
two_wait image = refl

of_the_cube : (image : ImageParts) → IsBlockOf (one_cube image).dim (host_block 0)
of_the_cube image = record { home = inr refl; index = omega (arith, home_blocks_lem) }

pub two_parcels-refused : (image : ImageParts) → IsOwned (one_cube image) (opening (one_cube image)) two_parcels → ⊥
two_parcels-refused image owned =
    let cube = one_cube image in
    let s = state_after_trace cube (opening cube) two_parcels in
    let id = host_block 0 in
    let one = owned two_parcels ([], refl) id (of_the_cube image) in
    omega (
      arith,
      one,
      holders-total id cube.dim s,
      total-is id cube.dim s,
      sum_run-part (count_at_node id s) 0 0 1 (omega arith) (omega arith),
      count_at_node-is id s 0,
      ap (λ items. count id (parcel_ids items)) (two_wait image),
      count-cons id id (id ∷ []),
      count-cons id id [],
      count-nil id,
      hit-self id,
    )

-- ---- what was got is no front of what was sent

-- the messages 1 and 2
abbrev one : List ℕ
one = 1 ∷ []

abbrev two : List ℕ
two = 2 ∷ []

-- the host sends 1 and then 2, and 2 alone was got
not_front : IsFront (two ∷ []) (one ∷ two ∷ []) → ⊥
not_front front =
    let first : ◌≡◌ {A = ℕ} 2 1 = ap (λ messages. slice_index (slice_index_or messages 0 []) 0) front.1 in
    omega (arith, first)

-- ---- the newest mail first

-- what a node would be given that takes the newest item first
abbrev pub newest_result : ℕ → ℕ → List Item → TakeResult
newest_result asking dead items = offer_of (find (is_eligible asking dead) (reverse items)) None false

-- the host sends 1 and then 2 to process 0, which asks, and gets 2
abbrev pub newest_first : List Entry
newest_first =
    row_entry HOST (Send 0 0 ((place_0, host_block 0) ∷ []) (1 ∷ []))
    ∷ row_entry HOST (Send 0 1 ((place_0, host_block 1) ∷ []) (2 ∷ []))
    ∷ row_entry 0 (Take 1 0 None (newest_result 1 0 (mail (host_parcel 0 0 (1 ∷ [])) ∷ mail (host_parcel 1 1 (2 ∷ [])) ∷ [])))
    ∷ []

pub newest_first-refused : (image : ImageParts) → IsInOrder (opening (one_cube image)).standing newest_first → ⊥
unfolding messages_got messages_sent waiting_items sent_items taken_results
newest_first-refused image order = not_front (order newest_first ([], refl) host_place place_0)

-- ---- early mail dropped

-- an item could be given at once that is for a process of these, as one that isn't born
abbrev pub is_early_eligible : ℕ → ℕ → ℕ → Item → Bool
is_early_eligible asking dead unborn item = is_eligible asking dead item || is_member (item_id item) unborn

abbrev pub early_result : ℕ → ℕ → ℕ → List Item → TakeResult
early_result asking dead unborn items = offer_of (find (is_early_eligible asking dead unborn) items) None false

-- the host sends 1 to process 0 before it is spawned, and its node is given it at once; later 2
-- comes, and the process gets it
abbrev pub early_dropped : List Entry
early_dropped =
    row_entry HOST (Send 0 0 ((place_0, host_block 0) ∷ []) (1 ∷ []))
    ∷ row_entry 0 (Take 0 0 None (early_result 0 0 1 (mail (host_parcel 0 0 (1 ∷ [])) ∷ [])))
    ∷ row_entry HOST (Spawn 0 0 place_0 true)
    ∷ row_entry 0 (Take 0 0 None (Start 0 0))
    ∷ row_entry HOST (Send 0 1 ((place_0, host_block 1) ∷ []) (2 ∷ []))
    ∷ row_entry 0 (Take 1 0 None (Mail 0 1))
    ∷ []

pub early_dropped-refused : (image : ImageParts) → IsInOrder (opening (one_cube image)).standing early_dropped → ⊥
unfolding messages_got messages_sent waiting_items sent_items taken_results
early_dropped-refused image order = not_front (order early_dropped ([], refl) host_place place_0)

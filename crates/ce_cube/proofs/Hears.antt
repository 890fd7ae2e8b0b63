-- The box of a node that made an entry stands for the node behind it, once it has heard the answer.
use Rattle.std.proofs.Common.{◌≡◌, ℕ, ◌^◌, ◌<◌, ◌==◌, true, IsSomeAnd, List, [], ◌∷◌, ◌++◌, map, ap, sym, ◌∙◌, subst}
use Rattle.std.proofs.lemmas.Bool.{eq-eqb}
use Rattle.ce_model.specs.declared.entry.Entry.{Entry}
use Rattle.ce_model.specs.Parcels.{Item}
use Rattle.ce_model.specs.Node.{Node}
use Rattle.ce_model.specs.Saying.{says}
use Rattle.ce_model.specs.Hearing.{node_after_hearing}
use Rattle.ce_model.specs.Trace.{NodeRecord, waiting_items}
use Rattle.ce_model.specs.Cube.{Cube, opening, state, hearing_of_entry}
use Rattle.ce_model.specs.Subcubes.{relative_number, node_of}
use Rattle.ce_model.specs.Renaming.{place_inward, block_inward, block_outward, renamed_item, node_outward, entry_inward}
use Rattle.ce_model.specs.Views.{view}
use Rattle.ce_model.specs.Machine.{MachineParts, HeldCube, after, cube_standing, cube_of}
use Rattle.ce_model.proofs.OneMore.{state-more}
use Rattle.rk_mail.specs.declared.talk.Hearing.{Hearing}
use Rattle.rk_mail.specs.Talk.{hearing_model, IsHearingOfEntry}
use Rattle.ce_solo.proofs.Projection.Numbers.{relative_out}
use Rattle.ce_cube.specs.Boxes.{trace_node, IsStandIn, IsCubeCallEntry, IsHearingOfNode}
use Rattle.ce_cube.specs.Laws.{BoxesHear}
use Rattle.ce_cube.proofs.Held.{IsSeen, by_seen}
use Rattle.ce_cube.proofs.Seats.{rest-hears, parcel-blocks}
use Rattle.ce_cube.proofs.Says.{says-of}
use Rattle.ce_cube.proofs.Adds.{trace_next}
use Rattle.ce_cube.proofs.Replies.{reply-heard, heard-of}

-- a node that has made an entry has heard its answer
state-own : (cube : Cube) (r : ℕ) (t : List Entry) (entry : Entry) → (entry.actor == r) ≡ true
    → state cube (opening cube) r (t ++ entry ∷ [])
    ≡ node_after_hearing cube.images (says (state cube (opening cube) r t)).node (hearing_of_entry (waiting_items (opening cube).standing r t) entry.what)
state-own cube r t entry own = rw own at (state-more cube (opening cube) r t entry)

module _ (parts : MachineParts) (history : List Entry) (cube : HeldCube) (now : IsSeen parts history cube) (r : ℕ) (below : r < 2 ^ cube.grant.dim) (box : Node)
    (stands : IsStandIn cube.grant (trace_node parts history cube.number cube.grant r) box) where
  abbrev own : Cube
  own = cube_of parts.images cube.grant

  abbrev items : List Item
  items = waiting_items (opening own).standing r (view history cube.number)

  -- what waits for the node, with the machine's names
  pub items-outward : ((cube_standing (after history) cube).node_record (node_of cube.grant.sub r)).waiting_items ≡ map (renamed_item (block_outward cube.grant)) items
  items-outward = ap (λ (kept : NodeRecord). kept.waiting_items) (now.standing.nodes r below)

  pub heard-own : (entry : Entry) (hearing : Hearing) → IsHearingOfNode history cube.grant r entry.what hearing → IsHearingOfEntry (map (renamed_item (block_outward cube.grant)) items) entry.what hearing
  heard-own entry hearing is =
      subst (λ items. IsHearingOfEntry items entry.what hearing) items-outward
      (subst (λ held. IsSomeAnd held (λ one. IsHearingOfEntry ((cube_standing (after history) one).node_record (node_of cube.grant.sub r)).waiting_items entry.what hearing)) now.holds is)

  hears-own : (entry : Entry) (hearing : Hearing) → IsCubeCallEntry parts history cube.grant (node_of cube.grant.sub r) (says box).call entry
      → IsHearingOfNode history cube.grant r entry.what hearing
      → node_after_hearing parts.images (says box).node (hearing_model hearing) ≡ node_outward cube.grant (trace_node parts (history ++ entry ∷ []) cube.number cube.grant r)
  hears-own entry hearing made is =
      let said = says-of parts history cube now r below box stands in
      let inner = entry_inward cube.grant.sub entry in
      let actor : (inner.actor == r) ≡ true = eq-eqb _ _ (ap (relative_number cube.grant.sub) made.actor_is ∙ relative_out parts.dim cube.grant now.placed r below) in
      ap (λ node. node_after_hearing parts.images node (hearing_model hearing)) said.at_rest
      ∙ ap (node_after_hearing parts.images (node_outward cube.grant (says (trace_node parts history cube.number cube.grant r)).node))
      (reply-heard (block_outward cube.grant) (place_inward cube.grant.sub) (block_inward cube.grant.sub) items entry.what hearing (heard-own entry hearing is))
      ∙ rest-hears parts history cube now r below (hearing_of_entry items inner.what) (heard-of cube.grant.dim items inner.what (parcel-blocks parts history cube now r below))
      ∙ ap (node_outward cube.grant) (sym (ap (state own (opening own) r)
      (trace_next parts history cube now (node_of cube.grant.sub r) (says box).call entry said.fits made)
      ∙ state-own own r (view history cube.number) inner actor))

pub boxes-hear : BoxesHear
boxes-hear parts history number grant machine lawful held r box entry hearing below stands made is =
    by_seen
    (λ number grant. r < 2 ^ grant.dim → IsStandIn grant (trace_node parts history number grant r) box
    → IsCubeCallEntry parts history grant (node_of grant.sub r) (says box).call entry → IsHearingOfNode history grant r entry.what hearing
    → node_after_hearing parts.images (says box).node (hearing_model hearing) ≡ node_outward grant (trace_node parts (history ++ entry ∷ []) number grant r)) parts history number grant machine lawful
    (λ cube now below stands made is. hears-own parts history cube now r below box stands entry hearing made is) held below stands made is

-- A node of a cube that is held, and the box that stands for it: both say the same, with other
-- names.
use Rattle.std.proofs.Common.{◌≡◌, ℕ, ◌^◌, ◌<◌, ◌≤◌, IsTrue, List, refl, ap, sym, ◌∙◌, inl, inr, arith}
use Rattle.std.specs.List.{AllByRecursion}
use Rattle.ce_model.specs.declared.topology.BlockId.{BlockId}
use Rattle.ce_model.specs.declared.entry.Entry.{Entry}
use Rattle.ce_model.specs.Node.{Node, Call, take_call, send_call, spawn_call, kill_call, note_call, arm_call, look_call, mail_call, blocks_of}
use Rattle.ce_model.specs.Saying.{Saying, says, saying_in}
use Rattle.ce_model.specs.Hearing.{Hearing, node_after_hearing}
use Rattle.ce_model.specs.Cube.{Cube, CubeState, opening, state_after_trace}
use Rattle.ce_model.specs.Renaming.{block_outward, renamed_hearing, node_outward, saying_outward}
use Rattle.ce_model.specs.Owners.{IsBlockOf}
use Rattle.ce_model.specs.Views.{view}
use Rattle.ce_model.specs.Machine.{MachineParts, HeldCube, cube_of}
use Rattle.ce_script.specs.Rounds.{asks_for_work}
use Rattle.ce_solo.specs.Laws.{IsNodeOf, IsHearingOfCube}
use Rattle.ce_solo.proofs.Counting.{count, count-nil, sum_run-part}
use Rattle.ce_solo.proofs.Items.{parcel_ids}
use Rattle.ce_solo.proofs.Totals.{count_at_node, count_at_node-is, total, total-is}
use Rattle.ce_solo.proofs.Room.{held_blocks}
use Rattle.ce_solo.proofs.Words.{HasMadeCall, IsCallOfNode}
use Rattle.ce_solo.proofs.Made.{made-leaves}
use Rattle.ce_solo.proofs.Renaming.Grants.{renaming}
use Rattle.ce_cube.specs.Boxes.{IsStandIn}
use Rattle.ce_cube.proofs.Held.{IsSeen, placed-grant}

-- a node that asked for work asks so again
pub asks_again : (node : Node) (call : Call) → IsCallOfNode node call → IsTrue (asks_for_work call) → says node ≡ record { node = node; call = call }
unfolding says
asks_again node (take_call asking dead poller) of asks = ap (saying_in node) of.1 ∙ ap (λ (call : Call). record { node = node; call = call }) (sym of.0)
asks_again node (send_call pid to bytes) of asks = absurd (cc)
asks_again node (spawn_call pid image to) of asks = absurd (cc)
asks_again node (kill_call pid to) of asks = absurd (cc)
asks_again node (note_call pid word) of asks = absurd (cc)
asks_again node (arm_call count) of asks = absurd of
asks_again node look_call of asks = absurd of
asks_again node mail_call of asks = absurd of

module _ (parts : MachineParts) (history : List Entry) (cube : HeldCube) (now : IsSeen parts history cube) (r : ℕ) (below : r < 2 ^ cube.grant.dim) where
  abbrev pub own : Cube
  own = cube_of parts.images cube.grant

  abbrev pub s : CubeState
  s = state_after_trace own (opening own) (view history cube.number)

  at_most : (id : BlockId) → count_at_node id s r ≤ total id cube.grant.dim s
  at_most id = omega (arith, total-is id cube.grant.dim s, sum_run-part (count_at_node id s) r 0 (2 ^ cube.grant.dim) (omega arith) (omega (arith, below)))

  pub node-said : HasMadeCall (s.node r) (says (s.node r)).node (says (s.node r)).call
  node-said = made-leaves own s r (says (s.node r)).call now.of below now.stands.sound refl

  node-blocks : IsNodeOf cube.grant.dim (s.node r)
  node-blocks = held_blocks own s (blocks_of (s.node r)) now.stands.sound (λ id. omega (arith, count_at_node-is id s r, at_most id))

  pub rest-blocks : IsNodeOf cube.grant.dim (says (s.node r)).node
  rest-blocks =
      held_blocks own s (blocks_of (says (s.node r)).node) now.stands.sound
      (λ id. omega (arith, count_at_node-is id s r, at_most id, node-said.became.blocks id, count-nil id))

  pub parcel-blocks : AllByRecursion (IsBlockOf cube.grant.dim) (parcel_ids (s.standing.node_record r).waiting_items)
  parcel-blocks = held_blocks own s (parcel_ids (s.standing.node_record r).waiting_items) now.stands.sound (λ id. omega (arith, count_at_node-is id s r, at_most id))

  pub rest-again : IsTrue (asks_for_work (says (s.node r)).call) → says (says (s.node r)).node ≡ says (s.node r)
  rest-again asks = asks_again (says (s.node r)).node (says (s.node r)).call node-said.of_node asks

  says_outward : (node : Node) → IsNodeOf cube.grant.dim node → says (node_outward cube.grant node) ≡ saying_outward cube.grant (says node)
  says_outward node blocks = (renaming parts.dim cube.grant node (placed-grant parts.dim cube.grant now.placed) blocks).0

  -- the box says what the node says
  pub box-says : (box : Node) → IsStandIn cube.grant (s.node r) box → says box ≡ saying_outward cube.grant (says (s.node r))
  box-says box (inl same) = ap says same ∙ says_outward (s.node r) node-blocks
  box-says box (inr step) =
      ap says step.at_rest ∙ says_outward (says (s.node r)).node rest-blocks ∙ ap (saying_outward cube.grant) (rest-again step.asks)

  -- and hears what it hears
  pub rest-hears : (hearing : Hearing) → IsHearingOfCube cube.grant.dim hearing
      → node_after_hearing parts.images (node_outward cube.grant (says (s.node r)).node) (renamed_hearing (block_outward cube.grant) hearing)
      ≡ node_outward cube.grant (node_after_hearing parts.images (says (s.node r)).node hearing)
  rest-hears hearing is = (renaming parts.dim cube.grant (says (s.node r)).node (placed-grant parts.dim cube.grant now.placed) rest-blocks).1 parts.images hearing is

  -- a box at rest says again what it says where that asks for work
  pub box-again : (box : Node) → IsStandIn cube.grant (s.node r) box → IsTrue (asks_for_work (says (s.node r)).call) → says (says box).node ≡ says box
  box-again box stands asks =
      let said = box-says box stands in
      box-says (says box).node (inr (record { at_rest = ap (λ (saying : Saying). saying.node) said; asks = asks })) ∙ sym said

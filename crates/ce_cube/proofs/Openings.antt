-- A cube that was just granted: its clean boxes are in step with the nodes that it begins with.
use Rattle.std.proofs.Common.{◌≡◌, ℕ, zero, suc, ◌+◌, ◌^◌, ◌<◌, ◌≤◌, ◌==◌, false, true, List, [], ◌∷◌, map, length, replicate, slice_index_or, refl, ap, ap₂, sym, ◌∙◌, subst, arith, pow_mono}
use Rattle.std.specs.List.{range_with_len}
use Rattle.std.proofs.lemmas.Bool.{eq-eqb, ne_eqb}
use Rattle.ce_model.specs.declared.entry.Entry.{Entry}
use Rattle.ce_model.specs.declared.topology.BlockId.{BlockId}
use Rattle.ce_model.specs.Limits.{greatest_dim, greatest_nodes_lem, host_home, host_home_lem, home_blocks, process_count}
use Rattle.ce_model.specs.Blocks.{blocks_of_home}
use Rattle.ce_model.specs.Process.{Process, unborn_process}
use Rattle.ce_model.specs.Node.{opening_node}
use Rattle.ce_model.specs.Saying.{says}
use Rattle.ce_model.specs.Cube.{opening, state, hoststore}
use Rattle.ce_model.specs.Subcubes.{node_of}
use Rattle.ce_model.specs.Renaming.{CubeGrant, block_outward, renamed_process, node_outward}
use Rattle.ce_model.specs.Machine.{MachineParts, cube_of}
use Rattle.ce_model.specs.Views.{view}
use Rattle.ce_daemon.specs.Boxes.{AreGrantBoxes}
use Rattle.ce_daemon.specs.declared.grant.Grant.{Grant}
use Rattle.rk_node.specs.Boxes.{Box, IsCleanBox, fresh_node_at}
use Rattle.ce_cube.specs.Boxes.{IsInStep, trace_node}
use Rattle.ce_cube.specs.Crews.{box_at, IsReadyBox, AreBoxesInStep}
use Rattle.ce_daemon.specs.Peeks.{cube_grant}
use Rattle.ce_cube.specs.Homecoming.{entered_box}

module _ (grant : CubeGrant) where
  abbrev outward : BlockId → BlockId
  outward = block_outward grant

  unborn-outward : (n : ℕ) → map (renamed_process outward) (replicate n unborn_process) ≡ replicate n unborn_process
  unborn-outward zero = refl
  unborn-outward (suc n) = ap (λ ps. unborn_process ∷ ps) (unborn-outward n)

  name : ℕ → ℕ → BlockId
  name home index = record { home = home; index = index }

  names-outward : (home there from n : ℕ) → ((index : ℕ) → outward (name home index) ≡ name there index)
      → map outward (map (name home) (range_with_len from n)) ≡ map (name there) (range_with_len from n)
  names-outward home there from zero each = refl
  names-outward home there from (suc n) each = ap₂ (λ id ids. id ∷ ids) (each from) (names-outward home there (from + 1) n each)

  pub host-outward : map outward (blocks_of_home host_home) ≡ blocks_of_home (host_home + grant.user)
  unfolding name
  host-outward =
      let host : (host_home == host_home) ≡ true = eq-eqb host_home host_home refl in
      names-outward host_home (host_home + grant.user) 0 home_blocks (λ index. rw host refl)

  module _ (dim : grant.dim ≤ greatest_dim) where
    no_host : (r : ℕ) → r < 2 ^ grant.dim → (r == host_home) ≡ false
    no_host r below =
        let few : 2 ^ grant.dim ≤ 2 ^ greatest_dim = pow_mono dim in
        ne_eqb _ _ (λ e. omega (arith, e, below, few, greatest_nodes_lem, host_home_lem))

    home-outward : (r : ℕ) → r < 2 ^ grant.dim → map outward (blocks_of_home r) ≡ blocks_of_home (node_of grant.sub r)
    unfolding name
    home-outward r below = names-outward r (node_of grant.sub r) 0 home_blocks (λ index. rw (no_host r below) refl)

    fresh-outward : (r images : ℕ) → r < 2 ^ grant.dim → node_outward grant (opening_node r grant.dim images) ≡ fresh_node_at (node_of grant.sub r) r grant.dim images
    fresh-outward r images below =
        ap₂ (λ (processes : List Process) (store : List BlockId). record (opening_node r grant.dim images) { home = node_of grant.sub r; processes = processes; store = store })
        (unborn-outward process_count) (home-outward r below)

    module _ (parts : MachineParts) (history : List Entry) (number : ℕ) (begins : view history number ≡ []) where
      node-fresh : (r : ℕ) → trace_node parts history number grant r ≡ opening_node r grant.dim (length parts.images)
      unfolding state
      node-fresh r = ap (λ t. state (cube_of parts.images grant) (opening (cube_of parts.images grant)) r t) begins

      fresh-in_step : (r : ℕ) → r < 2 ^ grant.dim
          → IsInStep grant (opening_node r grant.dim (length parts.images)) (fresh_node_at (node_of grant.sub r) r grant.dim (length parts.images))
      unfolding says
      fresh-in_step r below = record { at_rest = sym (fresh-outward r (length parts.images) below); asks = refl }

      pub entered-in_step : (r home images : ℕ) → r < 2 ^ grant.dim → home ≡ node_of grant.sub r → length parts.images ≡ images
          → IsInStep grant (trace_node parts history number grant r) (fresh_node_at home r grant.dim images)
      entered-in_step r home images below at same =
          let there = subst (λ node. IsInStep grant node (fresh_node_at (node_of grant.sub r) r grant.dim (length parts.images))) (sym (node-fresh r)) (fresh-in_step r below) in
          subst (λ box. IsInStep grant (trace_node parts history number grant r) box)
          (ap₂ (λ (h n : ℕ). fresh_node_at h r grant.dim n) (sym at) same) there

      pub host-begins : map outward (hoststore (opening (cube_of parts.images grant)) (view history number)) ≡ blocks_of_home (host_home + grant.user)
      unfolding hoststore
      host-begins = ap (λ t. map outward (hoststore (opening (cube_of parts.images grant)) t)) begins ∙ host-outward

-- ---- the boxes of a grant

module _ (grant : Grant) (parts : MachineParts) (history : List Entry) (images : ℕ) (boxes now : List Box) (dim : grant.dim ≤ greatest_dim)
    (begins : view history grant.number ≡ []) (same : length parts.images ≡ images) (clean : AreGrantBoxes (λ (box : Box). box.node.home) IsCleanBox grant boxes)
    (long : length now ≡ length boxes)
    (each : (r : ℕ) (other : Box) → r < length boxes → slice_index_or now r other ≡ entered_box grant.dim images r (slice_index_or boxes r other)) where
  entered-at : (r : ℕ) → r < 2 ^ grant.dim → box_at now r ≡ entered_box grant.dim images r (box_at boxes r)
  entered-at r below = each r (box_at [] r) (omega (arith, below, clean.all))

  ready : (r : ℕ) → r < 2 ^ grant.dim → IsReadyBox (box_at now r)
  ready r below =
      let was : IsCleanBox (box_at boxes r) = (clean.each r (box_at [] r) below).1 in
      subst IsReadyBox (sym (entered-at r below)) (record { idle = was.awaited_call; room = was.room })

  pub boxes-begin : AreBoxesInStep parts history grant now
  boxes-begin = record {
    all = long ∙ clean.all;
    ready = ready;
    in_step = λ r below.
        subst (λ (box : Box). IsInStep (cube_grant grant) (trace_node parts history grant.number (cube_grant grant) r) box.node) (sym (entered-at r below))
        (entered-in_step (cube_grant grant) dim parts history grant.number begins r (box_at boxes r).node.home images below (clean.each r (box_at [] r) below).0 same);
  }

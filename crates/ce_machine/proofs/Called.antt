-- What is known of a call of a cube that fits: who makes it, how many places it names, and that
-- they are the cube's.
use Rattle.std.proofs.Common.{◌≡◌, ◌⊎◌, ℕ, ◌<◌, ◌≤◌, true, false, ◌==◌, List, [], ◌∷◌, length, Some, ap, ◌∙◌, subst, inl, inr, arith}
use Rattle.std.specs.List.{AllByRecursion}
use Rattle.std.proofs.lemmas.Bool.{eqb-true}
use Rattle.std.proofs.lemmas.List.{length-map}
use Rattle.ce_model.specs.declared.topology.TheConstants.{HOST}
use Rattle.ce_model.specs.declared.topology.Place.{Place}
use Rattle.ce_model.specs.declared.topology.BlockId.{BlockId}
use Rattle.ce_model.specs.declared.entry.Entry.{Entry}
use Rattle.ce_model.specs.Limits.{greatest_targets, process_count, process_count_lem}
use Rattle.ce_model.specs.Node.{Node, Call, send_call, spawn_call, kill_call, is_place, host_place}
use Rattle.ce_model.specs.Kernel.{is_target}
use Rattle.ce_model.specs.Saying.{says}
use Rattle.ce_model.specs.Cube.{Cube, CubeState, IsCube, opening, state_after_trace, wish_of_call, actor_call}
use Rattle.ce_model.specs.Sound.{IsSound}
use Rattle.ce_model.specs.Subcubes.{relative_number, is_inside}
use Rattle.ce_model.specs.Renaming.{renamed_targets, renamed_call_blocks, block_outward}
use Rattle.ce_model.specs.Views.{trace_behind}
use Rattle.ce_model.specs.Machine.{MachineParts, IsMachine, HeldCube, cube_held_by, cube_of, after, IsCallOf, IsLawful}
use Rattle.ce_solo.proofs.Lists.{all-weaker}
use Rattle.ce_solo.proofs.Words as words
use Rattle.ce_solo.proofs.Sending.{not_host, place_parts}
use Rattle.ce_solo.proofs.NodeSends.{target_of}
use Rattle.ce_solo.proofs.Made.{IsMadeCall, by_host, by_node, made, made-leaves}
use Rattle.ce_solo.proofs.Projection.Numbers.{IsPlaced, IsNumber, relative_inside, relative_host, inside_below}
use Rattle.ce_solo.proofs.Projection.Views.{view-is}
use Rattle.ce_solo.proofs.Projection.Invariant.{IsHeld, IsProjected}
use Rattle.ce_solo.proofs.Projection.Own.{own_cube, stands}
use Rattle.ce_solo.proofs.Projection.Law.{projected}
use Rattle.ce_machine.proofs.NodeCalls.{IsNodeActorCall, says-node_call, IsHostActorCall, wish-call_of_wish}

-- ---- the places of a call

-- a place where a process of a cube of this dimension is, or its host
abbrev pub IsTarget : ℕ → Place → Type 0
IsTarget d to = (is_place d to ≡ true) ⊎ (to ≡ host_place)

pub target-number : (d : ℕ) (to : Place) → IsTarget d to → IsNumber d to.node
target-number d to (inl place) = inl (place_parts d to place).0
target-number d to (inr host) = inr (ap (λ (place : Place). place.node) host)

pub target-pid : (d : ℕ) (to : Place) → IsTarget d to → to.pid < process_count
target-pid d to (inl place) = (place_parts d to place).1
target-pid d to (inr host) = omega (arith, ap (λ (place : Place). place.pid) host, process_count_lem)

-- the places that a call names are a cube's
abbrev pub HasPlacesOf : ℕ → Call → Type 0
HasPlacesOf d (send_call pid to bytes) = AllByRecursion (λ target. IsTarget d target.0) to
HasPlacesOf d (spawn_call pid image to) = is_place d to ≡ true
HasPlacesOf d (kill_call pid to) = is_place d to ≡ true
HasPlacesOf d other = Unit {0}

host-places : (d : ℕ) (call : Call) → IsHostActorCall d call → HasPlacesOf d call
host-places d (send_call pid to bytes) is = all-weaker (λ (target : Place × BlockId). is_place d target.0 ≡ true) (λ target. IsTarget d target.0) to (λ target place. inl place) is.1
host-places d (spawn_call pid image to) is = is
host-places d (kill_call pid to) is = is
host-places d other is = tt

node-places : (cube : Cube) (node : Node) (call : Call) → node.dim ≡ cube.dim → words.IsCallOfNode node call → HasPlacesOf cube.dim call
node-places cube node (send_call pid to bytes) same is =
    all-weaker (λ (target : Place × BlockId). is_target node target.0 ≡ true) (λ target. IsTarget cube.dim target.0) to (λ target place. target_of cube node target.0 same place) is
node-places cube node (spawn_call pid image to) same is = subst (λ d. is_place d to ≡ true) same is.1
node-places cube node (kill_call pid to) same is = subst (λ d. is_place d to ≡ true) same is
node-places cube node other same is = tt

-- a message goes to so many places at most
abbrev pub HasFewPlaces : Call → Type 0
HasFewPlaces (send_call pid to bytes) = length to ≤ greatest_targets
HasFewPlaces other = Unit {0}

few-by_node : (call : Call) → IsNodeActorCall call → HasFewPlaces call
few-by_node (send_call pid to bytes) is = is
few-by_node other is = tt

few-by_host : (d : ℕ) (call : Call) → IsHostActorCall d call → HasFewPlaces call
few-by_host d (send_call pid to bytes) is = is.0
few-by_host d other is = tt

-- ---- renamed calls

module _ (rename : BlockId → BlockId) where
  abbrev renamed : List (Place × BlockId) → List (Place × BlockId)
  renamed to = renamed_targets (λ place. place) rename to

  renamed-count : (to : List (Place × BlockId)) → length (renamed to) ≡ length to
  renamed-count to = length-map {B = Place × BlockId} to (λ (target : Place × BlockId). (target.0, rename target.1))

  all-renamed : (P : Place → Type 0) (to : List (Place × BlockId)) → AllByRecursion (λ target. P target.0) to → AllByRecursion (λ target. P target.0) (renamed to)
  all-renamed P [] all = tt
  all-renamed P (target ∷ to) all = (all.0, all-renamed P to all.1)

  has-places : (d : ℕ) (call : Call) → HasPlacesOf d call → HasPlacesOf d (renamed_call_blocks rename call)
  has-places d (send_call pid to bytes) is = all-renamed (IsTarget d) to is
  has-places d other is = is

  node-renamed : (call : Call) → IsNodeActorCall call → IsNodeActorCall (renamed_call_blocks rename call)
  node-renamed (send_call pid to bytes) is = omega (arith, is, renamed-count to)
  node-renamed other is = is

  host-renamed : (d : ℕ) (call : Call) → IsHostActorCall d call → IsHostActorCall d (renamed_call_blocks rename call)
  host-renamed d (send_call pid to bytes) is = (omega (arith, is.0, renamed-count to), all-renamed (λ place. is_place d place ≡ true) to is.1)
  host-renamed d other is = is

-- ---- a cube that is held

module _ (parts : MachineParts) (machine : IsMachine parts) (h : List Entry) (lawful : IsLawful parts h) where
  abbrev before : IsProjected parts (after h) h
  before = projected parts h machine lawful

  module _ (user : ℕ) (cube : HeldCube) (holds : cube_held_by (after h) user ≡ Some cube) where
    abbrev pub was : IsHeld parts (after h) h cube
    was = before.held user cube holds

    abbrev pub own : Cube
    own = cube_of parts.images cube.grant

    -- its grant is one of the machine
    pub placed-now : IsPlaced parts.dim cube.grant
    placed-now = was.placed

    -- how a cube that is held stands by its own trace
    abbrev pub left_now : CubeState
    left_now = state_after_trace own (opening own) (trace_behind cube.grant was.behind)

    pub own-is : IsCube own
    own-is = own_cube parts cube.grant machine was.placed

    -- it is sound up to its drain
    pub sound-now : cube.is_drained ≡ false → IsSound own left_now
    sound-now goes = (stands parts machine (after h) h cube was goes (before.views cube.number cube.grant was.behind was.found).alone).sound

    -- ---- a call of it that fits

    module _ (actor : ℕ) (call : Call) (fits : IsCallOf parts h actor call cube) where
      is_made : IsMadeCall own left_now (relative_number cube.grant.sub actor) (wish_of_call fits.inner) fits.inner
      is_made =
          made own left_now (relative_number cube.grant.sub actor) (wish_of_call fits.inner) fits.inner
          (subst (λ t. actor_call own (opening own) t (relative_number cube.grant.sub actor) (wish_of_call fits.inner) ≡ Some fits.inner)
          (view-is h cube.number cube.grant was.behind was.found) fits.next)

      -- it names places of the cube
      pub call-places : HasPlacesOf cube.grant.dim call
      call-places = subst (HasPlacesOf cube.grant.dim) fits.renamed (has-places (block_outward cube.grant) cube.grant.dim fits.inner (by_made is_made))
        where
          by_made : IsMadeCall own left_now (relative_number cube.grant.sub actor) (wish_of_call fits.inner) fits.inner → HasPlacesOf cube.grant.dim fits.inner
          by_made (by_host is e) = host-places cube.grant.dim fits.inner (wish-call_of_wish own left_now.hoststore (wish_of_call fits.inner) fits.inner e)
          by_made (by_node below e) =
              let r = relative_number cube.grant.sub actor in
              let said = made-leaves own left_now r fits.inner own-is below (sound-now fits.not_drained) e in
              node-places own (says (left_now.node r)).node fits.inner (said.became.dim ∙ ((sound-now fits.not_drained).nodes r below).dim) said.of_node

      -- of a host it is a call that a host can make
      pub host-call : (actor == HOST) ≡ true → IsHostActorCall cube.grant.dim call
      host-call host = subst (IsHostActorCall cube.grant.dim) fits.renamed (host-renamed (block_outward cube.grant) cube.grant.dim fits.inner (by_made is_made))
        where
          by_made : IsMadeCall own left_now (relative_number cube.grant.sub actor) (wish_of_call fits.inner) fits.inner → IsHostActorCall cube.grant.dim fits.inner
          by_made (by_host is e) = wish-call_of_wish own left_now.hoststore (wish_of_call fits.inner) fits.inner e
          by_made (by_node below e) =
              let is : relative_number cube.grant.sub actor ≡ HOST = ap (relative_number cube.grant.sub) (eqb-true actor HOST host) ∙ relative_host parts.dim cube.grant was.placed in
              absurd (omega (arith, is, not_host own _ own-is below))

      -- and of a node one that a node can make
      pub node-call : is_inside cube.grant.sub actor ≡ true → IsNodeActorCall call
      node-call inside = subst IsNodeActorCall fits.renamed (node-renamed (block_outward cube.grant) fits.inner (by_made is_made))
        where
          by_made : IsMadeCall own left_now (relative_number cube.grant.sub actor) (wish_of_call fits.inner) fits.inner → IsNodeActorCall fits.inner
          by_made (by_host is e) =
              absurd (omega (
                arith,
                is,
                relative_inside parts.dim cube.grant was.placed actor inside,
                not_host own _ own-is (inside_below parts.dim cube.grant was.placed actor inside),
              ))
          by_made (by_node below e) = subst IsNodeActorCall e (says-node_call (left_now.node (relative_number cube.grant.sub actor)))

      -- it names so many places at most
      pub call-few : HasFewPlaces call
      call-few = elim fits.inside [ inl host ↦ few-by_host cube.grant.dim call (host-call host) | inr inside ↦ few-by_node call (node-call inside) ]

      -- so what a node can't make is a host's, and what a host can't make is a node's
      pub of-host : (IsNodeActorCall call → ⊥) → (actor == HOST) ≡ true
      of-host none = elim fits.inside [ inl host ↦ host | inr inside ↦ absurd (none (node-call inside)) ]

      pub of-node : (IsHostActorCall cube.grant.dim call → ⊥) → is_inside cube.grant.sub actor ≡ true
      of-node none = elim fits.inside [ inl host ↦ absurd (none (host-call host)) | inr inside ↦ inside ]

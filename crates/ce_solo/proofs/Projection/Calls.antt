-- The call that an actor of a sound cube makes names places and blocks of the cube alone, and so
-- does its entry.
use Rattle.std.proofs.Common.{◌≡◌, ℕ, ◌^◌, ◌<◌, Bool, true, false, ◌&&◌, ◌||◌, nat_lt, if◌then◌else◌, List, [], ◌∷◌, map, length, slice_get, Option, Some, None, option_map, option_and_then, refl, ap, ◌∙◌, subst, inl, inr, arith}
use Rattle.std.specs.List.{AllByRecursion}
use Rattle.std.proofs.lemmas.Bool.{and_parts, or_cases}
use Rattle.ce_model.specs.declared.topology.Place.{Place}
use Rattle.ce_model.specs.declared.topology.BlockId.{BlockId}
use Rattle.ce_model.specs.Node.{Node, Call, send_call, spawn_call, kill_call, arm_call, look_call, mail_call, is_place, is_host_place}
use Rattle.ce_model.specs.Kernel.{is_target}
use Rattle.ce_model.specs.Answers.{answer}
use Rattle.ce_model.specs.Cube.{Cube, CubeState, IsCube, Wish, send_wish, spawn_wish, kill_wish, arm_wish, look_wish, mail_wish, call_of_wish, node_numbers}
use Rattle.ce_model.specs.Saying.{says}
use Rattle.ce_model.specs.Owners.{IsBlockOf}
use Rattle.ce_model.specs.Sound.{IsSound}
use Rattle.ce_solo.proofs.Counting.{count, count-nil, count-cons, hit, sum_run-part}
use Rattle.ce_solo.proofs.Totals.{total-is, count_at_node-is, count_at_node}
use Rattle.ce_solo.proofs.Words.{HasMadeCall}
use Rattle.ce_solo.proofs.Sending.{place_parts, is_host}
use Rattle.ce_solo.proofs.Room.{held_blocks}
use Rattle.ce_solo.proofs.Made.{IsMadeCall, by_host, by_node, made-leaves}
use Rattle.ce_solo.proofs.Projection.Numbers.{IsNumber, IsWhatOf}
use Rattle.ce_solo.proofs.Projection.Answers.{IsCallIn}

-- all places and blocks that a call names are of a cube of this dimension
abbrev pub IsCallWithin : ℕ → Call → Type 0
IsCallWithin d (send_call pid to bytes) = AllByRecursion (λ target. IsNumber d target.0.node × IsBlockOf d target.1) to
IsCallWithin d (spawn_call pid image to) = to.node < 2 ^ d
IsCallWithin d (kill_call pid to) = to.node < 2 ^ d
IsCallWithin d other = Unit {0}

pub call-in : (d : ℕ) (call : Call) → IsCallWithin d call → IsCallIn d call
call-in d (spawn_call pid image to) is = is
call-in d (kill_call pid to) is = is
call-in d other is = tt

both_all : (P : Place → Type 0) (Q : BlockId → Type 0) (to : List (Place × BlockId)) → AllByRecursion (λ target. P target.0) to
    → AllByRecursion Q (map (λ target. target.1) to) → AllByRecursion (λ target. P target.0 × Q target.1) to
both_all P Q [] places blocks = tt
both_all P Q (target ∷ to) places blocks = ((places.0, blocks.0), both_all P Q to places.1 blocks.1)

target_number : (d : ℕ) (to : Place) → (is_place d to || is_host_place to) ≡ true → IsNumber d to.node
target_number d to h =
    elim (or_cases (is_place d to) (is_host_place to) h) [
      | inl place ↦ inl (place_parts d to place).0
      | inr host ↦ inr (ap (λ (place : Place). place.node) (is_host to host))
    ]

targets_numbers : (node : Node) (d : ℕ) (to : List (Place × BlockId)) → node.dim ≡ d → AllByRecursion (λ target. is_target node target.0 ≡ true) to
    → AllByRecursion (λ target. IsNumber d target.0.node) to
targets_numbers node d [] same all = tt
targets_numbers node d (target ∷ to) same all =
    (target_number d target.0 (subst (λ d. (is_place d target.0 || is_host_place target.0) ≡ true) same all.0), targets_numbers node d to same all.1)

module _ (cube : Cube) (s : CubeState) (of : IsCube cube) (sound : IsSound cube s) where
  node-within : (r : ℕ) (call : Call) → r < 2 ^ cube.dim → HasMadeCall (s.node r) (says (s.node r)).node call → IsCallWithin cube.dim call
  node-within r (send_call pid to bytes) below said =
      both_all (λ place. IsNumber cube.dim place.node) (IsBlockOf cube.dim) to
      (targets_numbers (says (s.node r)).node cube.dim to (said.became.dim ∙ (sound.nodes r below).dim) said.of_node)
      (held_blocks cube s (map (λ target. target.1) to) sound
      (λ id. omega (arith, said.became.blocks id, count-nil id, total-is id cube.dim s, count_at_node-is id s r, sum_run-part (count_at_node id s) r 0 (2 ^ cube.dim) (omega arith) (omega arith))))
  node-within r (spawn_call pid image to) below said =
      (place_parts cube.dim to (subst (λ dim. is_place dim to ≡ true) (said.became.dim ∙ (sound.nodes r below).dim) said.of_node.1)).0
  node-within r (kill_call pid to) below said =
      (place_parts cube.dim to (subst (λ dim. is_place dim to ≡ true) (said.became.dim ∙ (sound.nodes r below).dim) said.of_node)).0
  node-within r other below said = tt

  within_of : (x y : Call) → Some x ≡ Some y → IsCallWithin cube.dim x → IsCallWithin cube.dim y
  within_of x y e is = let same : x ≡ y = cc in subst (IsCallWithin cube.dim) same is

  first_block : (store : List BlockId) (id : BlockId) → s.hoststore ≡ store → slice_get store 0 ≡ Some id → AllByRecursion (IsBlockOf cube.dim) (id ∷ [])
  first_block [] id same e = absurd (cc)
  first_block (other ∷ store) id same e =
      let first : other ≡ id = cc in
      held_blocks cube s (id ∷ []) sound
      (λ name. omega (arith, total-is name cube.dim s, ap (count name) same, count-cons name other store, count-cons name id [], count-nil name, ap (hit name) first))

  sends-within : (to : Place) (bytes : List ℕ) (call : Call) (least : Option BlockId) → slice_get s.hoststore 0 ≡ least → is_place cube.dim to ≡ true
      → option_map (λ id. send_call 0 ((to, id) ∷ []) bytes) least ≡ Some call → IsCallWithin cube.dim call
  sends-within to bytes call None same place e = absurd (cc)
  sends-within to bytes call (Some id) same place e =
      within_of (send_call 0 ((to, id) ∷ []) bytes) call e ((inl (place_parts cube.dim to place).0, (first_block s.hoststore id refl same).0), tt)

  by_place : (b : Bool) (x : Option Call) (call : Call) → (if b then x else None) ≡ Some call → (b ≡ true) × (x ≡ Some call)
  by_place true x call e = (refl, e)
  by_place false x call e = absurd (cc)

  host-within : (wish : Wish) (call : Call) → call_of_wish cube s.hoststore wish ≡ Some call → IsCallWithin cube.dim call
  host-within (send_wish to bytes) call e =
      let parts = by_place (is_place cube.dim to) _ call e in sends-within to bytes call (slice_get s.hoststore 0) refl parts.0 parts.1
  host-within (spawn_wish image to) call e =
      let parts = by_place (is_place cube.dim to && nat_lt image (length cube.images)) _ call e in
      within_of (spawn_call 0 image to) call parts.1 (place_parts cube.dim to (and_parts (is_place cube.dim to) _ parts.0).0).0
  host-within (kill_wish to) call e =
      let parts = by_place (is_place cube.dim to) _ call e in within_of (kill_call 0 to) call parts.1 (place_parts cube.dim to parts.0).0
  host-within (arm_wish count) call e = within_of (arm_call count) call e tt
  host-within look_wish call e = within_of look_call call e tt
  host-within mail_wish call e = within_of mail_call call e tt

  asked-within : (wish : Option Wish) (call : Call) → option_and_then (call_of_wish cube s.hoststore) wish ≡ Some call → IsCallWithin cube.dim call
  asked-within None call e = absurd (cc)
  asked-within (Some wish) call e = host-within wish call e

  pub made-within : (actor : ℕ) (wish : Option Wish) (call : Call) → IsMadeCall cube s actor wish call → IsCallWithin cube.dim call
  made-within actor wish call (by_host is e) = asked-within wish call e
  made-within actor wish call (by_node below e) = node-within actor call below (made-leaves cube s actor call of below sound e)

  pub made-number : (actor : ℕ) (wish : Option Wish) (call : Call) → IsMadeCall cube s actor wish call → IsNumber cube.dim actor
  made-number actor wish call (by_host is e) = inr is
  made-number actor wish call (by_node below e) = inl below

  pub what-within : (actor : ℕ) (call : Call) → IsCallWithin cube.dim call → IsWhatOf cube.dim (answer (node_numbers cube.dim) s.standing actor call)
  unfolding answer
  what-within actor (send_call pid to bytes) is = is
  what-within actor (spawn_call pid image to) is = is
  what-within actor (kill_call pid to) is = is
  what-within actor other is = tt

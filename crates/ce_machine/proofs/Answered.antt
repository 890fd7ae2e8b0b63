-- What a call of a cube that is held is answered, read off what the machine keeps for its nodes.
use Rattle.std.proofs.Common.{◌≡◌, ℕ, ◌^◌, ◌<◌, true, false, ◌&&◌, ◌==◌, if◌then◌else◌, List, [], ◌∷◌, map, find, Option, Some, option_map, refl, ap, ◌∙◌}
use Rattle.std.specs.List.{list_all}
use Rattle.ce_model.specs.declared.topology.TheConstants.{HOST}
use Rattle.ce_model.specs.declared.topology.Place.{Place}
use Rattle.ce_model.specs.declared.topology.BlockId.{BlockId}
use Rattle.ce_model.specs.declared.entry.What.{What}
use Rattle.ce_model.specs.declared.entry.What.TheVariants.{Arm, Look, HostTake, Send, Note, Take}
use Rattle.ce_model.specs.Parcels.{is_eligible}
use Rattle.ce_model.specs.Node.{Call, take_call, send_call, note_call, arm_call, look_call, mail_call}
use Rattle.ce_model.specs.Trace.{NodeRecord}
use Rattle.ce_model.specs.Answers.{answer, offer_of, is_quiet_node, is_quiet, look_result_where, first_number}
use Rattle.ce_model.specs.Cube.{node_numbers}
use Rattle.ce_model.specs.Subcubes.{node_of}
use Rattle.ce_model.specs.Renaming.{place_outward, renamed_targets}
use Rattle.ce_model.specs.Machine.{MachineParts, MachineState, HeldCube, cube_held_by, nodes_of, host_record, cube_standing, with_places_outward, cube_request, what_of_request}
use Rattle.ce_solo.proofs.Projection.Numbers.{IsPlaced, out_node, out_no_host}
use Rattle.ce_machine.specs.declared.order.Order.{Order}
use Rattle.ce_machine.specs.declared.order.Order.TheVariants.{Spawn, Kill}
use Rattle.ce_machine.specs.Orders.{call_of_order, what_of_order}

-- the place of the machine that a place of a cube's node is
abbrev pub place_of : HeldCube → Place → Place
place_of cube to = record { node = node_of cube.grant.sub to.node; pid = to.pid }

module _ (state : MachineState) (cube : HeldCube) (actor : ℕ) where
  -- the answer to a call of the cube
  abbrev pub answer_to : Call → What
  answer_to call = answer (nodes_of cube.grant) (cube_standing state cube) actor (with_places_outward cube.grant call)

  -- it makes the entry of a user that holds the cube
  pub call-answered : (parts : MachineParts) (user : ℕ) (call : Call) → cube_held_by state user ≡ Some cube → what_of_request parts state user actor (cube_request call) ≡ Some (answer_to call)
  call-answered parts user call holds = ap (option_map (λ cube. answer (nodes_of cube.grant) (cube_standing state cube) actor (with_places_outward cube.grant call))) holds

  pub send-answer : (pid : ℕ) (to : List (Place × BlockId)) (bytes : List ℕ)
      → answer_to (send_call pid to bytes) ≡ Send pid cube.parcel_count (renamed_targets (place_outward cube.grant.sub) (λ id. id) to) bytes
  unfolding answer
  send-answer pid to bytes = refl

  pub note-answer : (pid word : ℕ) → answer_to (note_call pid word) ≡ Note pid word
  unfolding answer
  note-answer pid word = refl

  pub arm-answer : (count : ℕ) → answer_to (arm_call count) ≡ Arm count
  unfolding answer
  arm-answer count = refl

  pub take-answer : (asking dead : ℕ) (poller : Option ℕ) → (actor == HOST) ≡ false → answer_to (take_call asking dead poller)
      ≡ Take asking dead poller (offer_of (find (is_eligible asking dead) (state.node_record actor).waiting_items) poller (cube.made_dispatches == cube.allowed_dispatches))
  unfolding answer
  take-answer asking dead poller node = rw node refl

  pub mail-answer : (actor == HOST) ≡ true → answer_to mail_call ≡ HostTake (first_number cube.mail)
  unfolding answer
  mail-answer host = rw host refl

  module _ (dim : ℕ) (placed : IsPlaced dim cube.grant) where
    -- what the cube's standing has for one of its nodes
    node-standing : (r : ℕ) → (cube_standing state cube).node_record (node_of cube.grant.sub r) ≡ state.node_record (node_of cube.grant.sub r)
    node-standing r = ap (λ b. if b then host_record cube else state.node_record (node_of cube.grant.sub r)) (out_no_host dim cube.grant placed r)

    place-outward : (to : Place) → to.node < 2 ^ cube.grant.dim → place_outward cube.grant.sub to ≡ place_of cube to
    place-outward to below = ap (λ node. record { node = node; pid = to.pid }) (out_node dim cube.grant placed to.node below)

    order-renamed : (order : Order) (pid : ℕ) (to : Place) → answer_to (call_of_order order pid to)
        ≡ (let at = place_outward cube.grant.sub to in what_of_order order pid at ((cube_standing state cube).node_record at.node))
    unfolding answer
    order-renamed (Spawn image) pid to = refl
    order-renamed Kill pid to = refl

    pub order-answer : (order : Order) (pid : ℕ) (to : Place) → to.node < 2 ^ cube.grant.dim → answer_to (call_of_order order pid to)
        ≡ what_of_order order pid (place_of cube to) (state.node_record (node_of cube.grant.sub to.node))
    order-answer order pid to below =
        order-renamed order pid to
        ∙ ap (λ (at : Place). what_of_order order pid at ((cube_standing state cube).node_record at.node)) (place-outward to below)
        ∙ ap (λ (node_record : NodeRecord). what_of_order order pid (place_of cube to) node_record) (node-standing to.node)

    all-quiet : (rs : List ℕ) → list_all (λ node. is_quiet_node ((cube_standing state cube).node_record node)) (map (node_of cube.grant.sub) rs)
        ≡ list_all (λ node. is_quiet_node (state.node_record node)) (map (node_of cube.grant.sub) rs)
    all-quiet [] = refl
    all-quiet (r ∷ rs) = λ i. is_quiet_node (node-standing r i) && all-quiet rs i

    pub look-answer : answer_to look_call ≡ Look (look_result_where (list_all (λ node. is_quiet_node (state.node_record node)) (nodes_of cube.grant)) (cube.made_dispatches == cube.allowed_dispatches))
    unfolding answer is_quiet
    look-answer = ap (λ quiet. Look (look_result_where quiet (cube.made_dispatches == cube.allowed_dispatches))) (all-quiet (node_numbers cube.grant.dim))

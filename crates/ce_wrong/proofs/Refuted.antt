-- The two wrong machines make their histories, and the cube alone answers the last call of each
-- view otherwise.
use Rattle.std.proofs.Common.{◌≡◌, List, [], ◌∷◌, ◌++◌, Some, None, refl, ap, sym, ◌∙◌}
use Rattle.rv_model.specs.Image.{ImageParts}
use Rattle.ce_model.specs.declared.entry.Entry.{Entry}
use Rattle.ce_model.specs.Limits.{greatest_dim, process_count, home_blocks, host_home}
use Rattle.ce_model.specs.Lists.{EachAfter}
use Rattle.ce_model.specs.Literals.{machine, place, block, first_bytes}
use Rattle.ce_model.specs.Node.{Call, take_call, send_call, spawn_call, arm_call}
use Rattle.ce_model.specs.Trace.{sent_items, taken_results, waiting_items, spawned_ids, killed_ids, mark, allowed_dispatches, made_dispatches, parcels, standing}
use Rattle.ce_model.specs.Answers.{answer, recorded_call}
use Rattle.ce_model.specs.Saying.{says}
use Rattle.ce_model.specs.Cube.{Cube, CubeState, opening, node_numbers, state, hoststore, next_entry, IsNext, IsAlone, entry_wish}
use Rattle.ce_model.specs.Subcubes.{extract, relative_number, deposit, subcubes, first_free_subcube}
use Rattle.ce_model.specs.Views.{view}
use Rattle.ce_model.specs.Machine.{getcube, drain, freecube, cube_request}
use Rattle.ce_model.proofs.AloneByEntries.{call_of-answer, is_made, alone_by_entries, entries_of_alone}
use Rattle.ce_wrong.specs.Histories.{IsAnswered, mail_keeping_rules, history_over_mail, stray_mail_entry, DrainLeavesMail, rank_sum_rules, astray_start, idle_entry, RankIsAddedToBase}

-- ---- an entry that is its actor's next one has the cube's answer

answer_is : (cube : Cube) (o : CubeState) (t : List Entry) (entry : Entry) (call : Call) → recorded_call entry.what ≡ Some call → IsNext cube o t entry
    → entry.what ≡ answer (node_numbers cube.dim) (standing o.standing t) entry.actor call
answer_is cube o t entry call c next =
    let m = is_made cube o t entry.actor (entry_wish entry) entry next in
    let what = ap (λ e. e.what) m.is in
    let same = sym (ap recorded_call what ∙ call_of-answer (node_numbers cube.dim) (standing o.standing t) entry.actor m.call) ∙ c in
    let is = ap (λ made. elim made [ None ↦ call | Some x ↦ x ]) same in
    what ∙ ap (answer (node_numbers cube.dim) (standing o.standing t) entry.actor) is

-- ---- a drain that leaves the messages

mail_is_made : (image : ImageParts) → EachAfter (IsAnswered mail_keeping_rules (machine 0 2 image)) [] (history_over_mail ++ stray_mail_entry ∷ [])
unfolding extract relative_number deposit subcubes first_free_subcube answer greatest_dim
mail_is_made image = (
  record { request = getcube 0; answer = refl },
  (
    record { request = cube_request (send_call 0 ((place 0 0, block 256 0) ∷ []) first_bytes); answer = refl },
    (
      record { request = drain; answer = refl },
      (
        record { request = freecube; answer = refl },
        (
          record { request = getcube 0; answer = refl },
          (
            record { request = cube_request (spawn_call 0 0 (place 0 0)); answer = refl },
            (
              record { request = cube_request (arm_call 10); answer = refl },
              (
                record { request = cube_request (take_call 0 0 None); answer = refl },
                (record { request = cube_request (take_call 1 0 None); answer = refl }, tt),
              ),
            ),
          ),
        ),
      ),
    ),
  ),
)

mail_is_not_alone : (image : ImageParts) → IsAlone (record { user = 1; dim = 0; images = image ∷ [] }) (view (history_over_mail ++ stray_mail_entry ∷ []) 1) → ⊥
unfolding view extract relative_number sent_items taken_results waiting_items spawned_ids killed_ids mark allowed_dispatches made_dispatches parcels answer greatest_dim host_home
mail_is_not_alone image alone =
    let cube : Cube = record { user = 1; dim = 0; images = image ∷ [] } in
    let each = entries_of_alone cube (opening cube) (view (history_over_mail ++ stray_mail_entry ∷ []) 1) alone in
    let e = answer_is cube (opening cube) _ _ (take_call 1 0 None) refl each.1.1.1.0 in
    cc

-- the start is the cube's own, and a fresh node asks for work
start_is_alone : (image : ImageParts) → IsAlone (record { user = 1; dim = 0; images = image ∷ [] }) (view history_over_mail 1)
unfolding view extract relative_number next_entry state hoststore says sent_items taken_results waiting_items spawned_ids killed_ids mark allowed_dispatches made_dispatches parcels answer greatest_dim process_count home_blocks host_home
start_is_alone image =
    let cube : Cube = record { user = 1; dim = 0; images = image ∷ [] } in
    alone_by_entries cube (opening cube) (view history_over_mail 1) (refl, (refl, (refl, tt)))

pub drain_leaves_mail : DrainLeavesMail
drain_leaves_mail image = (mail_is_made image, (start_is_alone image, mail_is_not_alone image))

-- ---- a node's number added to the base

start_is_made : (image : ImageParts) → EachAfter (IsAnswered rank_sum_rules (machine 2 3 image)) [] (astray_start ++ idle_entry ∷ [])
unfolding extract relative_number deposit subcubes first_free_subcube answer greatest_dim
start_is_made image = (
  record { request = getcube 0; answer = refl },
  (
    record { request = getcube 0; answer = refl },
    (
      record { request = getcube 0; answer = refl },
      (
        record { request = drain; answer = refl },
        (
          record { request = freecube; answer = refl },
          (
            record { request = getcube 1; answer = refl },
            (
              record { request = cube_request (spawn_call 0 0 (place 1 0)); answer = refl },
              (
                record { request = cube_request (arm_call 10); answer = refl },
                (record { request = cube_request (take_call 0 0 None); answer = refl }, tt),
              ),
            ),
          ),
        ),
      ),
    ),
  ),
)

start_is_not_alone : (image : ImageParts) → IsAlone (record { user = 1; dim = 1; images = image ∷ [] }) (view (astray_start ++ idle_entry ∷ []) 3) → ⊥
unfolding view extract relative_number sent_items taken_results waiting_items spawned_ids killed_ids mark allowed_dispatches made_dispatches parcels answer greatest_dim host_home
start_is_not_alone image alone =
    let cube : Cube = record { user = 1; dim = 1; images = image ∷ [] } in
    let each = entries_of_alone cube (opening cube) (view (astray_start ++ idle_entry ∷ []) 3) alone in
    let e = answer_is cube (opening cube) _ _ (take_call 0 0 None) refl each.1.1.0 in
    cc

-- what the host does is the cube's own
host_is_alone : (image : ImageParts) → IsAlone (record { user = 1; dim = 1; images = image ∷ [] }) (view astray_start 3)
unfolding view extract relative_number next_entry state hoststore says sent_items taken_results waiting_items spawned_ids killed_ids mark allowed_dispatches made_dispatches parcels answer greatest_dim process_count home_blocks host_home
host_is_alone image =
    let cube : Cube = record { user = 1; dim = 1; images = image ∷ [] } in
    alone_by_entries cube (opening cube) (view astray_start 3) (refl, (refl, tt))

pub rank_added_to_base : RankIsAddedToBase
rank_added_to_base image = (start_is_made image, (host_is_alone image, start_is_not_alone image))

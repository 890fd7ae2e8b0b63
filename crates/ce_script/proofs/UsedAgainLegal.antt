-- The worked row in which a node is used again: the parts of a legal record, and the order of a
-- serial one. What the process says is a premise; that blocks have one owner and that messages
-- arrive in order are laws of every cube, so they are premises too.
use Rattle.std.proofs.Common.{◌≡◌, Option, if◌then◌else◌, ℕ, ◌==◌, List, [], ◌∷◌, ◌++◌, map, fold, Some, None, option_and_then, true, refl, ap, ◌∙◌}
use Rattle.rv_model.specs.Image.{ImageParts}
use Rattle.ce_model.specs.declared.topology.TheConstants.{HOST}
use Rattle.ce_model.specs.declared.entry.Entry.{Entry}
use Rattle.ce_model.specs.declared.entry.What.TheVariants.{Arm, Spawn, Take}
use Rattle.ce_model.specs.declared.entry.TakeResult.TheVariants.{Start, Idle}
use Rattle.ce_model.specs.Limits.{process_count, home_blocks, host_home, greatest_dim}
use Rattle.ce_model.specs.Subcubes.{extract, deposit, relative_number, subcubes, first_free_subcube}
use Rattle.ce_model.specs.Answers.{answer, is_quiet}
use Rattle.ce_model.specs.Trace.{sent_items, taken_results, waiting_items, spawned_ids, killed_ids, mark, allowed_dispatches, made_dispatches, parcels}
use Rattle.ce_model.specs.Views.{view}
use Rattle.ce_model.specs.Cube.{Cube, opening, state, hoststore, Wish, Solo, next_solo, whole_trace, continued_solo, solo, next_entry, spawn_wish, arm_wish, look_wish, IsAlone}
use Rattle.ce_model.specs.Owners.{IsOwned}
use Rattle.ce_model.specs.Order.{IsInOrder}
use Rattle.ce_model.specs.Machine.{IsLawful, after}
use Rattle.ce_model.proofs.Rows.UsedAgain.{first_sends, row_is_lawful}
use Rattle.ce_script.specs.Rounds.{serial}
use Rattle.ce_script.specs.Moments.{moments, holding}
use Rattle.ce_host.specs.declared.command.Command.TheVariants.{Getcube}
use Rattle.ce_host.specs.declared.answer.Answer.{Answer}
use Rattle.ce_host.specs.declared.answer.Answer.TheVariants as answers
use Rattle.ce_script.specs.Doings.{IsRefusedExactly, Doing, AreRefusedExactly}
use Rattle.ce_script.specs.Legal.{EachCube, IsLegal, script_images, machine_of}
use Rattle.ce_script.specs.Serial.{IsSerial}
use Rattle.ce_script.proofs.Rows.{first_bytes, second_bytes, third_bytes, doing_in, entry_of, place}
use Rattle.ce_script.proofs.RowUsedAgain.{the_script, the_record}
use Rattle.ce_script.proofs.UsedAgainDone.{HasSaidRow, alice_doings, bob_doings, bob_cube, bob_trace, is_kept, alice_did, bob_did}

-- ---- refusals

-- a getcube that was granted where none was held, since the one subcube is free
pub alice_refused : (image : ImageParts) → AreRefusedExactly (machine_of (the_script image)) alice_doings
unfolding moments holding after first_free_subcube subcubes extract deposit greatest_dim
alice_refused image = (record { held = (λ h. absurd (cc), λ h. absurd (cc)); none = (λ h. absurd (cc), λ h. absurd (cc)) }, (tt, (tt, (tt, (tt, tt)))))

pub bob_refused : (image : ImageParts) → AreRefusedExactly (machine_of (the_script image)) bob_doings
unfolding moments holding after first_free_subcube subcubes extract deposit greatest_dim
bob_refused image = (record { held = (λ h. absurd (cc), λ h. absurd (cc)); none = (λ h. absurd (cc), λ h. absurd (cc)) }, (tt, (tt, tt)))

-- ---- the cubes alone

abbrev alice_cube : ImageParts → Cube
alice_cube image = record { user = 0; dim = 0; images = image ∷ [] }

abbrev alice_trace : List Entry
alice_trace = first_sends 0 first_bytes ∷ first_sends 1 second_bytes ∷ first_sends 2 third_bytes ∷ []

alice_alone : (image : ImageParts) → IsAlone (alice_cube image) alice_trace
unfolding solo continued_solo next_entry hoststore answer waiting_items sent_items taken_results spawned_ids killed_ids mark allowed_dispatches made_dispatches parcels process_count home_blocks host_home
alice_alone image = refl

-- bob's cube in the middle of its run
abbrev now_at : List Entry → List Wish → Solo
now_at trace asked = record { trace = trace; wishes_left = asked }

abbrev spawned_entry : Entry
spawned_entry = entry_of 1 HOST (Spawn 0 0 (place 0 0) true)

abbrev armed_entry : Entry
armed_entry = entry_of 1 HOST (Arm 10)

abbrev started_entry : Entry
started_entry = entry_of 1 0 (Take 0 0 None (Start 0 0))

abbrev rested_entry : Entry
rested_entry = entry_of 1 0 (Take 1 0 None Idle)

abbrev bob_acts : ImageParts → Solo → ℕ → Option Solo
bob_acts image now actor = next_solo (bob_cube image) (opening (bob_cube image)) now actor

abbrev spawned_now : Solo
spawned_now = now_at (spawned_entry ∷ []) (arm_wish 10 ∷ look_wish ∷ [])

abbrev armed_now : Solo
armed_now = now_at (spawned_entry ∷ armed_entry ∷ []) (look_wish ∷ [])

abbrev started_now : Solo
started_now = now_at (spawned_entry ∷ armed_entry ∷ started_entry ∷ []) (look_wish ∷ [])

abbrev rested_now : Solo
rested_now = now_at (spawned_entry ∷ armed_entry ∷ started_entry ∷ rested_entry ∷ []) (look_wish ∷ [])

spawns : (image : ImageParts) → bob_acts image (now_at [] (spawn_wish 0 (place 0 0) ∷ arm_wish 10 ∷ look_wish ∷ [])) HOST ≡ Some spawned_now
unfolding next_entry hoststore answer waiting_items sent_items taken_results spawned_ids killed_ids mark allowed_dispatches made_dispatches parcels process_count home_blocks host_home
spawns image = refl

arms : (image : ImageParts) → bob_acts image spawned_now HOST ≡ Some armed_now
unfolding next_entry hoststore answer waiting_items sent_items taken_results spawned_ids killed_ids mark allowed_dispatches made_dispatches parcels home_blocks host_home
arms image = refl

starts : (image : ImageParts) → HasSaidRow image → bob_acts image armed_now 0 ≡ Some started_now
unfolding next_entry state hoststore answer waiting_items sent_items taken_results spawned_ids killed_ids mark allowed_dispatches made_dispatches parcels home_blocks host_home
starts image h = rw h.asks refl

rests : (image : ImageParts) → HasSaidRow image → bob_acts image started_now 0 ≡ Some rested_now
unfolding next_entry state hoststore answer waiting_items sent_items taken_results spawned_ids killed_ids mark allowed_dispatches made_dispatches parcels home_blocks host_home
rests image h = rw h.waits refl

looks : (image : ImageParts) → bob_acts image rested_now HOST ≡ Some (now_at bob_trace [])
unfolding next_entry hoststore answer is_quiet waiting_items sent_items taken_results spawned_ids killed_ids mark allowed_dispatches made_dispatches parcels home_blocks host_home
looks image = refl

bob_alone : (image : ImageParts) → HasSaidRow image → IsAlone (bob_cube image) bob_trace
unfolding solo continued_solo
bob_alone image h =
    let cube = bob_cube image in
    let go : Option Solo → List ℕ → Option (List Entry) = λ now schedule. option_and_then (λ (end : Solo). whole_trace end.trace end.wishes_left) (fold (λ now' actor. option_and_then (λ solo. next_solo cube (opening cube) solo actor) now') now schedule) in
    ap (λ now. go now (HOST ∷ 0 ∷ 0 ∷ HOST ∷ [])) (spawns image)
    ∙ ap (λ now. go now (0 ∷ 0 ∷ HOST ∷ [])) (arms image)
    ∙ ap (λ now. go now (0 ∷ HOST ∷ [])) (starts image h)
    ∙ ap (λ now. go now (HOST ∷ [])) (rests image h)
    ∙ ap (λ now. go now []) (looks image)

are_alone : (image : ImageParts) → HasSaidRow image → EachCube IsAlone (script_images (the_script image)) the_record.history
unfolding view extract relative_number host_home greatest_dim
are_alone image h = (alice_alone image, (bob_alone image h, tt))

-- ---- the record

-- the machine allows the history, which is that of the model's row
pub is_lawful : (image : ImageParts) → HasSaidRow image → IsLawful (machine_of (the_script image)) the_record.history
is_lawful image h = row_is_lawful image (record { asks = h.asks; waits = h.waits })

abbrev doings_by : ℕ → List Doing
doings_by user = if user == 0 then alice_doings else bob_doings

pub is_legal : (image : ImageParts) → HasSaidRow image
    → EachCube (λ cube t. IsOwned cube (opening cube) t) (script_images (the_script image)) the_record.history
    → EachCube (λ cube t. IsInOrder (opening cube).standing t) (script_images (the_script image)) the_record.history
    → IsLegal serial (the_script image) the_record
is_legal image h owned in_order = record {
  doings = doings_by;
  keeps = is_kept image;
  lawful = is_lawful image h;
  does = (alice_did image, (bob_did image h, tt));
  alone = are_alone image h;
  owned = owned;
  in_order = in_order;
  refused = (alice_refused image, (bob_refused image, tt));
}

pub is_serial : (image : ImageParts) → HasSaidRow image → IsSerial (the_script image) the_record
unfolding moments
is_serial image h = record {
  doings = map (λ doing. (0, doing)) alice_doings ++ map (λ doing. (1, doing)) bob_doings;
  commands = refl;
  together = refl;
  each = (alice_did image, (bob_did image h, tt));
}

-- ---- what is no legal record

-- alice's getcube, answered otherwise
abbrev answered_with : Answer → Doing
answered_with answer = doing_in the_record.history (Getcube 0) answer 0 1

-- it can't be answered that no subcube is free, nor that alice holds a cube
pub none_is_not_allowed : (image : ImageParts) → IsRefusedExactly (machine_of (the_script image)) None 0 (answered_with answers.None) → ⊥
unfolding moments after first_free_subcube subcubes extract deposit greatest_dim
none_is_not_allowed image h = let found = (h.none.0 refl).1 in absurd (cc)

pub held_is_not_allowed : (image : ImageParts) → IsRefusedExactly (machine_of (the_script image)) None 0 (answered_with answers.Held) → ⊥
held_is_not_allowed image h = let found = h.held.0 refl in absurd (cc)

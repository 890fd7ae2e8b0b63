-- What a node with other names for its blocks becomes by the answer to its call.
use Rattle.std.proofs.Common.{◌≡◌, ℕ, nat_lt, if◌then◌else◌, List, length, Option, Some, None, refl, ap, ap₂, ◌∙◌}
use Rattle.std.proofs.lemmas.List.{length-map}
use Rattle.rv_model.specs.Image.{ImageParts}
use Rattle.rv_model.specs.declared.stop.Stop.TheVariants.{Killed, WindowsSpent}
use Rattle.ce_model.specs.declared.process.Status.TheVariants.{Running}
use Rattle.ce_model.specs.Limits.{turn_instructions, window_count}
use Rattle.ce_model.specs.Parcels.{Parcel}
use Rattle.ce_model.specs.Space.{window_start, has_unused_window, mapped_space}
use Rattle.ce_model.specs.Process.{Process, started_process, with_answer, is_receiving, is_stopped}
use Rattle.ce_model.specs.Node.{Turn, Node, process_at, with_process, without_poller, with_stopped_process}
use Rattle.ce_model.specs.Hearing.{Hearing, start_of, mail_of, kill_of, poll_of, answer_of, nothing, image_at, with_turn, with_answered_turn, with_stored_parcel, with_received_parcel, with_answered_call, node_after_hearing}
use Rattle.ce_model.specs.Renaming.{renamed_parcel, renamed_hearing}
use Rattle.ce_solo.proofs.Renaming.Lists.{if_made}
use Rattle.ce_solo.proofs.Renaming.Memory.{IsNamedSpace, mapped-renamed}
use Rattle.ce_solo.proofs.Renaming.Store.{put-named, put-renamed}
use Rattle.ce_solo.proofs.Renaming.Nodes.{IsNamed, process-named, process-renamed, with_process-renamed, with_stopped-renamed}
use Rattle.ce_solo.proofs.Renaming.Calls.{Names, node_with_names, process_with_names}

module _ (names : Names) where
  -- the block of a parcel that is heard of has such a name
  abbrev pub IsNamedHeard : Hearing → Type 0
  IsNamedHeard (mail_of parcel) = names.P parcel.block.id
  IsNamedHeard other = Unit {0}

  begins-renamed : (node : Node) (pid : ℕ) (p : Process) → with_turn (node_with_names names node) pid (process_with_names names p) ≡ node_with_names names (with_turn node pid p)
  begins-renamed node pid p =
      ap (λ (node : Node). record node {
        polling_ids = without_poller pid node.polling_ids;
        turn = Some (record { pid = pid; instructions_left = turn_instructions; calls = 0 });
      })
      (with_process-renamed names.rename names.home node pid (record p { status = Running }))

  with_stored-renamed : (node : Node) (parcel : Parcel) → IsNamed names.P node → names.P parcel.block.id
      → with_stored_parcel (node_with_names names node) (renamed_parcel names.rename parcel) ≡ node_with_names names (with_stored_parcel node parcel)
  with_stored-renamed node parcel named new =
      ap (λ store. record (node_with_names names node) { store = store }) (put-renamed names.rename names.P parcel.block.id node.store names.order new named.store)

  stored-full : (node : Node) (parcel : Parcel) (p : Process) → IsNamed names.P node → IsNamedSpace names.P p.space → names.P parcel.block.id
      → with_stopped_process (with_stored_parcel (node_with_names names node) (renamed_parcel names.rename parcel)) parcel.to.pid (process_with_names names p) WindowsSpent
      ≡ node_with_names names (with_stopped_process (with_stored_parcel node parcel) parcel.to.pid p WindowsSpent)
  stored-full node parcel p named own new =
      ap (λ node. with_stopped_process node parcel.to.pid (process_with_names names p) WindowsSpent) (with_stored-renamed node parcel named new)
      ∙ with_stopped-renamed names.rename names.home names.P (with_stored_parcel node parcel) parcel.to.pid p WindowsSpent names.order
      (record { store = put-named names.P parcel.block.id node.store new named.store; processes = named.processes }) own

  mapped-begins : (node : Node) (parcel : Parcel) (p : Process) (used : ℕ) → used ≡ length p.space.windows
      → with_answered_turn (node_with_names names node) parcel.to.pid (record (process_with_names names p) { space = mapped_space (renamed_parcel names.rename parcel).block (process_with_names names p).space }) (window_start used)
      ≡ node_with_names names (with_answered_turn node parcel.to.pid (record p { space = mapped_space parcel.block p.space }) (window_start (length p.space.windows)))
  mapped-begins node parcel p used same =
      ap₂ (λ space used. with_answered_turn (node_with_names names node) parcel.to.pid (record p { space = space }) (window_start used)) (mapped-renamed names.rename parcel.block p.space) same
      ∙ begins-renamed node parcel.to.pid (with_answer (window_start (length p.space.windows)) (record p { space = mapped_space parcel.block p.space }))

  gets-renamed : (node : Node) (parcel : Parcel) (p : Process) → IsNamed names.P node → IsNamedSpace names.P p.space → names.P parcel.block.id
      → with_received_parcel (node_with_names names node) (renamed_parcel names.rename parcel) (process_with_names names p) ≡ node_with_names names (with_received_parcel node parcel p)
  gets-renamed node parcel p named own new =
      if_made (node_with_names names) _ (has_unused_window p.space) _ _ _ _ (ap (λ used. nat_lt used window_count) (length-map p.space.windows _))
      (mapped-begins node parcel p _ (length-map p.space.windows _)) (stored-full node parcel p named own new)

  tells-renamed : (value : ℕ) (node : Node) (turn : Option Turn) → with_answered_call value (node_with_names names node) turn ≡ node_with_names names (with_answered_call value node turn)
  tells-renamed value node None = refl
  tells-renamed value node (Some turn) =
      ap (λ p. with_process (node_with_names names node) turn.pid (with_answer value p)) (process-renamed names.rename names.home node turn.pid)
      ∙ with_process-renamed names.rename names.home node turn.pid (with_answer value (process_at node turn.pid))

  pub hears-renamed : (images : List ImageParts) (node : Node) (heard : Hearing) → IsNamed names.P node → IsNamedHeard heard
      → node_after_hearing images (node_with_names names node) (renamed_hearing names.rename heard) ≡ node_with_names names (node_after_hearing images node heard)
  unfolding node_after_hearing
  hears-renamed images node (start_of pid image) named new = begins-renamed node pid (started_process (image_at images image))
  hears-renamed images node (mail_of parcel) named new =
      let p = process_at node parcel.to.pid in
      ap (λ p. if is_receiving p.status then with_received_parcel (node_with_names names node) (renamed_parcel names.rename parcel) p
      else with_stored_parcel (node_with_names names node) (renamed_parcel names.rename parcel)) (process-renamed names.rename names.home node parcel.to.pid)
      ∙ if_made (node_with_names names) _ (is_receiving p.status) _ _ _ _ refl
      (gets-renamed node parcel p named (process-named names.P node parcel.to.pid named) new) (with_stored-renamed node parcel named new)
  hears-renamed images node (kill_of pid) named new =
      let p = process_at node pid in
      ap (λ p. if is_stopped p.status then node_with_names names node else with_stopped_process (node_with_names names node) pid p Killed)
      (process-renamed names.rename names.home node pid)
      ∙ if_made (node_with_names names) _ (is_stopped p.status) _ _ _ _ refl refl
      (with_stopped-renamed names.rename names.home names.P node pid p Killed names.order named (process-named names.P node pid named))
  hears-renamed images node (poll_of pid) named new =
      ap (λ p. with_answered_turn (node_with_names names node) pid p 0) (process-renamed names.rename names.home node pid)
      ∙ begins-renamed node pid (with_answer 0 (process_at node pid))
  hears-renamed images node (answer_of value) named new = tells-renamed value node node.turn
  hears-renamed images node nothing named new = refl

-- What the parts of an answer make of a node.
use Rattle.std.proofs.Common.{◌≡◌, ℕ, ◌<◌, true, false, [], length, flat_map, refl, ap, ◌∙◌, arith, inl, inr}
use Rattle.std.proofs.lemmas.Bool.{cases_lt}
use Rattle.rv_model.specs.declared.stop.Stop.TheVariants.{Killed}
use Rattle.ce_model.specs.declared.topology.BlockId.{BlockId}
use Rattle.ce_model.specs.declared.process.Status.TheVariants.{Running}
use Rattle.ce_model.specs.Blocks.{with_id}
use Rattle.ce_model.specs.Parcels.{Parcel}
use Rattle.ce_model.specs.Space.{window_start, has_unused_window, mapped_ids}
use Rattle.ce_model.specs.Process.{Process, with_answer, is_receiving, is_stopped}
use Rattle.ce_model.specs.Node.{Node, process_at, with_process, with_stopped_process, blocks_of}
use Rattle.ce_model.specs.Kernel.{with_store}
use Rattle.ce_model.specs.Hearing.{mail_of, kill_of, with_turn, with_stored_parcel, with_received_parcel, node_after_hearing}
use Rattle.ce_solo.proofs.Counting.{hit, hit-le, same_from_hit, count, count-append, count-put}
use Rattle.rk_node.specs.Moves.{with_status, with_mapped_block}
use Rattle.rk_node.specs.Ready.{HasBlocksOnce}
use Rattle.rk_node.proofs.Stops.{changed-twice}

-- a turn begins of a process that was changed before
pub begins-after : (node a : Node) (pid : ℕ) (q : Process) (change : Process → Process) → pid < length node.processes → a ≡ with_process node pid q
    → with_turn a pid (change (process_at a pid)) ≡ with_turn node pid (change q)
begins-after node a pid q change h same =
    ap (λ (n : Node). with_turn n pid (change (process_at n pid))) same
    ∙ ap (λ ps. record (with_turn node pid (change q)) { processes = ps }) (changed-twice node.processes pid q (λ p. with_status Running (change p)) h)

pub gets-begins : (node : Node) (parcel : Parcel) (p : Process) → has_unused_window p.space ≡ true
    → with_received_parcel node parcel p ≡ with_turn node parcel.to.pid (with_answer (window_start (length p.space.windows)) (with_mapped_block parcel.block p))
gets-begins node parcel p t = rw t refl

pub mail-gets : (node : Node) (parcel : Parcel) → is_receiving (process_at node parcel.to.pid).status ≡ true
    → node_after_hearing [] node (mail_of parcel) ≡ with_received_parcel node parcel (process_at node parcel.to.pid)
unfolding node_after_hearing
mail-gets node parcel t = rw t refl

pub mail-stored : (node : Node) (parcel : Parcel) → is_receiving (process_at node parcel.to.pid).status ≡ false
    → node_after_hearing [] node (mail_of parcel) ≡ with_stored_parcel node parcel
unfolding node_after_hearing
mail-stored node parcel f = rw f refl

pub kill-stops : (node : Node) (pid : ℕ) → is_stopped (process_at node pid).status ≡ false → node_after_hearing [] node (kill_of pid) ≡ with_stopped_process node pid (process_at node pid) Killed
unfolding node_after_hearing
kill-stops node pid f = rw f refl

pub kill-stays : (node : Node) (pid : ℕ) → is_stopped (process_at node pid).status ≡ true → node_after_hearing [] node (kill_of pid) ≡ node
unfolding node_after_hearing
kill-stays node pid t = rw t refl

pub apart-stored : (node : Node) (id : BlockId) → count id (blocks_of node) ≡ 0 → count id node.store ≡ 0
apart-stored node id none = omega (arith, none, count-append id node.store (flat_map (λ q. mapped_ids q.space) node.processes))

-- a block more, which was nowhere
pub once-stored : (node : Node) (id : BlockId) → HasBlocksOnce node → count id (blocks_of node) ≡ 0 → HasBlocksOnce (with_store (with_id id node.store) node)
once-stored node id once none = record {
  once = λ other.
      let others = flat_map (λ (q : Process). mapped_ids q.space) node.processes in
      let all = count-append other node.store others in
      let more = count-append other (with_id id node.store) others in
      let new = count-put other id node.store in
      elim (cases_lt (hit other id) 1) [
        | inl none_of ↦ omega (arith, none_of, all, more, new, once.once other)
        | inr one ↦ (let same = same_from_hit other id one in
            let here : count other (blocks_of node) ≡ 0 = ap (λ name. count name (blocks_of node)) same ∙ none in
            omega (arith, here, all, more, new, hit-le other id))
      ];
}

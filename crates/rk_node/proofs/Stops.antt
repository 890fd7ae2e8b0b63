-- A process stops: its parts, one after the other, are the whole.
use Rattle.std.proofs.Common.{◌≡◌, ℕ, ◌<◌, List, length, slice_set, slice_index_or, None, ap, ◌∙◌}
use Rattle.std.proofs.lemmas.List.{get_or-set_same}
use Rattle.rv_model.specs.declared.stop.Stop.{Stop}
use Rattle.ce_model.specs.declared.process.Status.TheVariants.{Stopped}
use Rattle.ce_model.specs.Space.{emptied_space}
use Rattle.ce_model.specs.Process.{Process, unborn_process}
use Rattle.ce_model.specs.Node.{Node, process_at, with_process, without_poller, with_stopped_process}
use Rattle.ce_model.specs.Kernel.{with_space}
use Rattle.rk_node.specs.Moves.{with_status, released_node}
use Rattle.rk_node.proofs.Processes.{set-twice}

-- a process that changes and changes again
pub changed-twice : (ps : List Process) (pid : ℕ) (p : Process) (change : Process → Process) → pid < length ps
    → slice_set (slice_set ps pid p) pid (change (slice_index_or (slice_set ps pid p) pid unborn_process)) ≡ slice_set ps pid (change p)
changed-twice ps pid p change h =
    set-twice ps pid p (change (slice_index_or (slice_set ps pid p) pid unborn_process)) ∙ ap (λ q. slice_set ps pid (change q)) (get_or-set_same ps pid p unborn_process h)

pub stopped-steps : (node a b d : Node) (pid : ℕ) (cause : Stop) → pid < length node.processes → a ≡ released_node pid node
    → b ≡ with_process a pid (with_status (Stopped cause) (process_at a pid)) → d ≡ record b { polling_ids = without_poller pid b.polling_ids }
    → record d { turn = None } ≡ with_stopped_process node pid (process_at node pid) cause
stopped-steps node a b d pid cause h first next last =
    let p = process_at node pid in
    ap (λ (n : Node). record n { turn = None }) last
    ∙ ap (λ (n : Node). record n { polling_ids = without_poller pid n.polling_ids; turn = None }) next
    ∙ ap (λ (n : Node). record (with_process n pid (with_status (Stopped cause) (process_at n pid))) { polling_ids = without_poller pid n.polling_ids; turn = None }) first
    ∙ ap (λ ps. record (with_stopped_process node pid p cause) { processes = ps })
    (changed-twice node.processes pid (with_space p (emptied_space p.space)) (with_status (Stopped cause)) h)

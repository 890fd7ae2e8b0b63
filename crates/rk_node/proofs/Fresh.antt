-- Processes that weren't started, and a node that is fresh.
use Rattle.std.proofs.Common.{◌≡◌, ℕ, zero, suc, ◌+◌, List, ◌∷◌, replicate, refl, ap, ◌∙◌}
use Rattle.ce_model.specs.Process.{unborn_process}
use Rattle.xm_owner.specs.Holdings.{Mapping}
use Rattle.rk_process.specs.OwnStates.{unborn_state, windows_of, process_with_mappings}
use Rattle.rk_node.specs.Standing.{later_processes}

-- a process that wasn't started is the model's, whatever other processes hold
pub unborn-in : (m : List Mapping) (pid : ℕ) → process_with_mappings m pid unborn_state ≡ unborn_process
unfolding windows_of
unborn-in m pid = refl

pub all-unborn : (m : List Mapping) (pid n : ℕ) → later_processes m pid (replicate n unborn_state) ≡ replicate n unborn_process
all-unborn m pid zero = refl
all-unborn m pid (suc n) =
    ap (λ p. p ∷ later_processes m (pid + 1) (replicate n unborn_state)) (unborn-in m pid) ∙ ap (λ ps. unborn_process ∷ ps) (all-unborn m (pid + 1) n)

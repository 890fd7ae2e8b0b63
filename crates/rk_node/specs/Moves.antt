-- What the parts of a kernel call make of a process and of its node.
use Rattle.std.specs.Prelude.{◌≡◌, ℕ, [], slice_set, Option, Some, Result, Ok, Err}
use Rattle.rv_model.specs.declared.stop.Stop.{Stop}
use Rattle.ce_model.specs.declared.process.Status.{Status}
use Rattle.ce_model.specs.Blocks.{Block, with_ids}
use Rattle.ce_model.specs.Space.{mapped_space, emptied_space, mapped_ids}
use Rattle.ce_model.specs.Process.{Process}
use Rattle.ce_model.specs.Node as model
use Rattle.ce_model.specs.Kernel.{with_space}
use Rattle.rk_node.specs.declared.node.Node.{Node}
use Rattle.rk_node.specs.Boxes.{fresh_node_at}
use Rattle.rk_node.specs.Standing.{node_model}

-- the process does this from now on
abbrev pub with_status : Status → Process → Process
with_status status p = record p { status = status }

-- the block is mapped at the next window of the process
abbrev pub with_mapped_block : Block → Process → Process
with_mapped_block block p = with_space p (mapped_space block p.space)

-- the blocks of a process are in the store
abbrev pub released_node : ℕ → model.Node → model.Node
released_node pid node = record node {
  processes = slice_set node.processes pid
      (with_space (model.process_at node pid) (emptied_space (model.process_at node pid).space));
  store = with_ids (mapped_ids (model.process_at node pid).space) node.store;
}

-- the window that an address names, by the block that each window holds, or why there is none
abbrev pub IsWindowOfAddress : (ℕ → Option Block) → Result (ℕ × Block) Stop → Result ℕ Stop → Type 0
IsWindowOfAddress block_at named_block (Ok window) =
    (block : Block) × (block_at window ≡ Some block) × (named_block ≡ Ok (window, block))
IsWindowOfAddress block_at named_block (Err cause) = named_block ≡ Err cause

-- a node as it is made
pub record IsNewNode (home room : ℕ) (node : Node) : Type 0 where
  pub fresh : node_model node ≡ fresh_node_at home 0 0 0
  pub has_room : node.room ≡ room
  pub batch : node.batch ≡ Some []

-- The node that a box stands for.
use Rattle.std.specs.Prelude.{ℕ, ◌+◌, List, [], ◌∷◌, option_map}
use Rattle.ce_model.specs.Process.{Process}
use Rattle.ce_model.specs.Node as model
use Rattle.xm_block.specs.Stores.{ids_of}
use Rattle.xm_owner.specs.Holdings.{Mapping}
use Rattle.rk_process.specs.OwnStates.{OwnState, process_with_mappings}
use Rattle.rk_node.specs.declared.node.Node.{Node}
use Rattle.rk_node.specs.declared.turn.Turn.{Turn}

-- the processes of a node, from an id on
abbrev pub later_processes : List Mapping → ℕ → List OwnState → List Process
later_processes mappings pid [] = []
later_processes mappings pid (own_state ∷ own_states) =
    process_with_mappings mappings pid own_state ∷ later_processes mappings (pid + 1) own_states

abbrev pub processes_of : List Mapping → List OwnState → List Process
processes_of mappings own_states = later_processes mappings 0 own_states

abbrev pub turn_model : Turn → model.Turn
turn_model turn =
    record { pid = turn.pid.number; instructions_left = turn.instructions_left; calls = turn.calls }

-- the node of the model, with the names that its blocks have
abbrev pub node_model : Node → model.Node
node_model node = record {
  number = node.number;
  dim = node.dim;
  home = node.home;
  images = node.images;
  processes = processes_of node.held_blocks.mappings node.processes.items;
  store = ids_of node.store.blocks;
  polling_ids = node.polling_ids.items;
  turn = option_map turn_model node.turn;
}

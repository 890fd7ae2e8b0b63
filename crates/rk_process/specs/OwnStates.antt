-- A process as the model sees it: what it has of its own, and the blocks that its node holds for
-- it.
use Rattle.std.specs.Prelude.{ℕ, List, [], map, replicate, Option}
use Rattle.std.specs.List.{range_with_len}
use Rattle.rv_model.specs.declared.limits.TheConstants.{REGISTER_COUNT}
use Rattle.rv_model.specs.Private.{with_loaded_bytes}
use Rattle.ce_model.specs.declared.process.Status.{Status}
use Rattle.ce_model.specs.declared.process.Status.TheVariants.{Unborn}
use Rattle.ce_model.specs.Blocks.{Block}
use Rattle.ce_model.specs.Space.{Space}
use Rattle.ce_model.specs.Process.{Process}
use Rattle.xm_owner.specs.Holdings.{Mapping, MappingTable, block_held_at, without_process}

-- what a process does, its registers, its pc, its private memory, and how many windows it has used
pub record OwnState : Type 0 where
  pub status : Status
  pub registers : List ℕ
  pub pc : ℕ
  pub private : List ℕ
  pub used_count : ℕ

-- what the windows of a process hold that has used so many
unfoldable pub windows_of : List Mapping → ℕ → ℕ → List (Option Block)
windows_of mappings pid used_count = map (block_held_at mappings pid) (range_with_len 0 used_count)

abbrev pub space_of : List ℕ → List Mapping → ℕ → ℕ → Space
space_of private mappings pid used_count =
    record { private = private; windows = windows_of mappings pid used_count }

-- a process of this id, with the blocks that are held for it
abbrev pub process_with_mappings : List Mapping → ℕ → OwnState → Process
process_with_mappings mappings pid own_state = record {
  status = own_state.status;
  registers = own_state.registers;
  pc = own_state.pc;
  space = space_of own_state.private mappings pid own_state.used_count;
}

abbrev pub owned_process : OwnState → ℕ → MappingTable → Process
owned_process own_state pid table = process_with_mappings table.mappings pid own_state

-- where a block is mapped: the process, and its window
abbrev pub place_of : Mapping → ℕ × ℕ
place_of mapping = (mapping.pid, mapping.window)

-- all that a process's instructions leave as it is: who it is, how many windows it has used, which
-- windows of its node hold a block, what the other processes hold, and the room that is left
pub record ProcessRest : Type 0 where
  pub pid : ℕ
  pub used_count : ℕ
  pub windows : List (ℕ × ℕ)
  pub others : List Mapping
  pub spare : ℕ

abbrev pub rest_of : ℕ → ℕ → MappingTable → ProcessRest
rest_of pid used_count table = record {
  pid = pid;
  used_count = used_count;
  windows = map place_of table.mappings;
  others = without_process pid table.mappings;
  spare = table.spare;
}

-- what a process has that wasn't started yet
abbrev pub unborn_state : OwnState
unborn_state = record {
  status = Unborn;
  registers = replicate REGISTER_COUNT 0;
  pc = 0;
  private = with_loaded_bytes [];
  used_count = 0;
}

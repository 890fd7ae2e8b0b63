-- The memory of a process while it runs, as the model sees it.
use Rattle.ce_model.specs.Space.{Space}
use Rattle.rk_process.specs.OwnStates.{ProcessRest, space_of, rest_of}
use Rattle.rk_process.specs.declared.memory.ProcessMemory.{ProcessMemory}

abbrev pub memory_space : ProcessMemory → Space
memory_space memory =
    space_of memory.private memory.held_blocks.mappings memory.windows.pid memory.windows.used_count

-- and what its instructions leave as it is
abbrev pub memory_rest : ProcessMemory → ProcessRest
memory_rest memory = rest_of memory.windows.pid memory.windows.used_count memory.held_blocks

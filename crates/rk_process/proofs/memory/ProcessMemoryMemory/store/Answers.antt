use Rattle.std.proofs.Common.{◌≡◌, ◌%◌, ◌==◌, if◌then◌else◌, Err}
use Rattle.ce_model.specs.Space.{Space, result_map, store_result}
use Rattle.rk_process.specs.OwnStates.{space_of, windows_of}
use Rattle.rk_process.specs.Windows.{stored_windows}
use Rattle.rk_process.proofs.Sites.{stored-private, stored-elsewhere, stored-then, refused-then}
use Rattle.rk_process.proofs.memory.ProcessMemoryMemory.store.Goals as goal

pub returns-in-Ok-clause-stored : goal.returns-in-Ok-clause-stored
returns-in-Ok-clause-stored c =
    let memory = c.args.self.now in
    let space : Space = space_of memory.private memory.held_blocks.mappings memory.windows.pid memory.windows.used_count in
    stored-private space c.args.address c.args.size.bytes c.args.value c.store.new.self c.in-Ok.ensures.stored

module _ (c : goal.After-store_elsewhere) where
  abbrev space : Space
  space = space_of c.args.self.now.private c.args.self.now.held_blocks.mappings c.args.self.now.windows.pid c.args.self.now.windows.used_count

  made : store_result space c.args.address c.args.size.bytes c.args.value
      ≡ result_map (λ windows. record space { windows = windows })
      (if c.args.address % c.args.size.bytes == 0 then stored_windows space.windows c.args.address c.args.size.bytes c.args.value else Err c.in-Err.cause)
  made = stored-elsewhere space c.args.address c.args.size.bytes c.in-Err.cause c.args.value c.in-Err.ensures.refused

pub returns-in-Err-clause-stored : goal.returns-in-Err-clause-stored
returns-in-Err-clause-stored c =
    stored-then (space c) _ _ (made c) c.store.new.self (windows_of c.store_elsewhere.new.held_blocks.mappings c.args.self.now.windows.pid c.args.self.now.windows.used_count)
    c.in-Err.ensures.unchanged c.store_elsewhere.result c.store_elsewhere.ensures.stored

pub returns-in-Err-clause-refused : goal.returns-in-Err-clause-refused
returns-in-Err-clause-refused c = refused-then (space c) _ _ (made c) c.store_elsewhere.result c.store_elsewhere.ensures.refused

use Rattle.rk_process.proofs.Found.{window_found-at}
use Rattle.rk_process.proofs.memory.window_at.Goals as goal

pub returns-clause-found : goal.returns-clause-found
returns-clause-found c mappings pid = window_found-at mappings pid c.args.used_count c.args.address _ c.used_window.ensures

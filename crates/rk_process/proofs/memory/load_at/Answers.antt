use Rattle.std.proofs.Common.{sym, ◌∙◌}
use Rattle.ce_model.specs.Space.{Space}
use Rattle.rk_process.specs.OwnStates.{space_of}
use Rattle.rk_process.proofs.Sites.{loaded-private, loaded-elsewhere}
use Rattle.rk_process.proofs.memory.load_at.Goals as goal

pub returns-in-Ok-clause-value : goal.returns-in-Ok-clause-value
returns-in-Ok-clause-value c =
    let space : Space = space_of c.args.private.now c.args.held_blocks.now.mappings c.args.windows.now.pid c.args.windows.now.used_count in
    loaded-private space c.args.address c.args.size.bytes c.in-Ok.number (sym c.load.ensures.value ∙ c.in-Ok.is)

pub returns-in-Err-clause-value : goal.returns-in-Err-clause-value
returns-in-Err-clause-value c =
    let space : Space = space_of c.args.private.now c.args.held_blocks.now.mappings c.args.windows.now.pid c.args.windows.now.used_count in
    c.load_elsewhere.ensures.value ∙ loaded-elsewhere space c.args.address c.args.size.bytes c.in-Err.cause (sym c.load.ensures.value ∙ c.in-Err.is)

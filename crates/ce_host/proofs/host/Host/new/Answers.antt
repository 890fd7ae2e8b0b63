use Rattle.std.proofs.Common.{◌+◌, ap, sym, ◌∙◌}
use Rattle.ce_model.specs.Limits.{host_home_lem}
use Rattle.ce_model.specs.Blocks.{blocks_of_home}
use Rattle.ce_host.proofs.host.Host.new.Goals as goal

pub returns-clause-blocks : goal.returns-clause-blocks
returns-clause-blocks c =
    c.in_ok-store.ensures.blocks ∙ ap (λ home. blocks_of_home (home + c.args.user)) (sym host_home_lem)

use Rattle.std.proofs.Common.{[], ◌∷◌, ◌++◌, append_assoc, ap, sym, ◌∙◌}
use Rattle.ce_host.specs.declared.command.Command.TheVariants.{Getcube}
use Rattle.ce_script.proofs.MadeLoads.{start_on, starts_below, starts-more}
use Rattle.ce_script.proofs.load.push_commands.Goals as goal

pub loop-node-preserved : goal.loop-node-preserved
loop-node-preserved c =
    let front = c.args.commands.now ++ (c.args.user, Getcube 2) ∷ [] in
    let next = start_on c.args.user c.loop-node.node ∷ [] in
    c.in_ok-push-2.ensures.ok
    ∙ ap (λ before. before ++ next) c.loop-node.invariant
    ∙ append_assoc front (starts_below c.args.user c.loop-node.node) next
    ∙ ap (λ starts. front ++ starts) (sym (starts-more c.args.user c.loop-node.node))

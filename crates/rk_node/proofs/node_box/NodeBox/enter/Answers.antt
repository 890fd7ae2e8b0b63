use Rattle.std.proofs.Common.{ap, ◌∙◌}
use Rattle.rk_node.specs.Boxes.{Box}
use Rattle.rk_node.proofs.node_box.NodeBox.enter.Goals as goal

pub invariant_of-self : goal.invariant_of-self
invariant_of-self c =
    let whole = c.self.invariant in
    record {
      well = record {
        process_ids = whole.well.process_ids;
        processes = whole.well.processes;
        polling_ids = whole.well.polling_ids;
        store = whole.well.store;
        once = whole.well.once;
      };
      batch = whole.batch;
    }

pub returns : goal.returns
returns c =
    ap (λ (b : Box). record b { node = record b.node { number = c.args.number; dim = c.args.dim; images = c.args.images } }) c.self.view_is
    ∙ ap (λ n. record c.args.self.now { node = record n { number = c.args.number; dim = c.args.dim; images = c.args.images } }) c.requires.clean.node

use Rattle.std.proofs.Common.{◌∙◌, arith}
use Rattle.ce_model.specs.Limits.{greatest_nodes_lem}
use Rattle.ce_set.proofs.Numbers.{relative-host, relative-node}
use Rattle.ce_set.proofs.subcube.relative_number.Goals as goal

pub extract-requires : goal.extract-requires
extract-requires c = rw greatest_nodes_lem (omega arith)

pub returns-then-node-eq-HOST : goal.returns-then-node-eq-HOST
returns-then-node-eq-HOST c = relative-host c.args.sub.now c.args.node c.if-node-eq-HOST.true

pub returns-else-node-eq-HOST : goal.returns-else-node-eq-HOST
returns-else-node-eq-HOST c = c.extract.ensures.value ∙ relative-node c.args.sub.now c.args.node c.if-node-eq-HOST.false

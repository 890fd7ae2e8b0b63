use Rattle.std.proofs.Common.{refl, lit<}
use Rattle.ce_model.specs.Limits.{greatest_dim}
use Rattle.ce_model.specs.Subcubes.{extract}
use Rattle.ce_set.proofs.tests.nodes_of_a_subcube.Goals as goal

pub nodes_of-requires-clause-apart : goal.nodes_of-requires-clause-apart
unfolding extract greatest_dim
nodes_of-requires-clause-apart g c = refl

pub node_of-requires-clause-apart : goal.node_of-requires-clause-apart
unfolding extract greatest_dim
node_of-requires-clause-apart g c = refl

pub node_of-requires-clause-relative : goal.node_of-requires-clause-relative
unfolding greatest_dim
node_of-requires-clause-relative g c = lit< tt

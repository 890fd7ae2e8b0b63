use Rattle.std.proofs.lemmas.Nat.{or_lt}
use Rattle.ce_set.proofs.WordBits.{is_member-or}
use Rattle.ce_daemon.proofs.nodes.union.Goals as goal

pub returns-clause-nodes : goal.returns-clause-nodes
returns-clause-nodes c = λ node. is_member-or c.args.set.0 c.args.other.0 node

pub returns-clause-within : goal.returns-clause-within
returns-clause-within c = λ count of_set of_other. or_lt count c.args.set.0 c.args.other.0 of_set of_other

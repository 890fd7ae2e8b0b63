use Rattle.std.proofs.Common.{◌∙◌, sym}
use Rattle.rk_mail.specs.Items.{parcel_of}
use Rattle.rk_node.specs.Standing.{node_model}
use Rattle.rk_node.proofs.Heard.{mail-gets, mail-stored, apart-stored}
use Rattle.rk_node.proofs.node.Node.take_mail.Goals as goal

pub give-requires-clause-apart : goal.give-requires-clause-apart
give-requires-clause-apart c = apart-stored (node_model c.args.self.now) c.args.parcel.block.id c.requires.apart

pub returns-then-is_receiving-clause-node : goal.returns-then-is_receiving-clause-node
returns-then-is_receiving-clause-node c = c.receive.ensures.node ∙ sym (mail-gets (node_model c.args.self.now) (parcel_of c.args.parcel) (cc))

pub returns-else-is_receiving-clause-node : goal.returns-else-is_receiving-clause-node
returns-else-is_receiving-clause-node c = c.give.ensures.node ∙ sym (mail-stored (node_model c.args.self.now) (parcel_of c.args.parcel) (cc))

use Rattle.rk_node.proofs.Made.{made-named, made-refused, is_held}
use Rattle.rk_node.proofs.node.Node.call_on_block.Goals as goal

pub free_block-requires : goal.free_block-requires
free_block-requires c = record { ready = c.requires; held = is_held c.in-Ok.ensures.1 }

pub send_block-requires : goal.send_block-requires
send_block-requires c = record { ready = c.requires; held = is_held c.in-Ok.ensures.1 }

pub xmsend_block-requires : goal.xmsend_block-requires
xmsend_block-requires c = record { ready = c.requires; held = is_held c.in-Ok.ensures.1 }

pub returns-in-Free : goal.returns-in-Free
returns-in-Free c = made-named c.argument.ensures c.in-Ok.ensures.1 c.in-Ok.ensures.2 c.in-Free.is c.free_block.ensures

pub returns-in-Length : goal.returns-in-Length
returns-in-Length c = made-named c.argument.ensures c.in-Ok.ensures.1 c.in-Ok.ensures.2 c.in-Length.is c.return_length.ensures

pub returns-in-Send : goal.returns-in-Send
returns-in-Send c = made-named c.argument.ensures c.in-Ok.ensures.1 c.in-Ok.ensures.2 c.in-Send.is c.send_block.ensures

pub returns-in-SendToSeveral : goal.returns-in-SendToSeveral
returns-in-SendToSeveral c = made-named c.argument.ensures c.in-Ok.ensures.1 c.in-Ok.ensures.2 c.in-SendToSeveral.is c.xmsend_block.ensures

pub returns-in-Err : goal.returns-in-Err
returns-in-Err c = made-refused c.args.call c.argument.ensures c.in-Err.ensures c.stop_turn.ensures

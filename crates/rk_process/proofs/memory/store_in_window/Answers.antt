use Rattle.std.proofs.Common.{sym}
use Rattle.rk_process.proofs.Found.{place-tells, store-done, store-refused, rest_of-set}
use Rattle.rk_process.proofs.memory.store_in_window.Goals as goal

pub returns-in-Some-get_mut-clause-stored : goal.returns-in-Some-get_mut-clause-stored
returns-in-Some-get_mut-clause-stored c =
    let place = place-tells c.args.windows.used_count c.args.address c.in-Some.window c.in-Some.offset c.in-Some.ensures.place in
    store-done c.args.held_blocks.now c.args.windows.pid c.args.windows.used_count c.args.address c.args.size.bytes c.args.value c.in-Some.window c.in-Some-get_mut.block.now c.store_in_block.new.block
    place.0 place.1 (sym c.in-Some-get_mut.ensures.block) c.store_in_block.result (c.in-Some.ensures.found _ _) c.store_in_block.ensures.stored

pub returns-in-Some-get_mut-clause-unchanged : goal.returns-in-Some-get_mut-clause-unchanged
returns-in-Some-get_mut-clause-unchanged c =
    let place = place-tells c.args.windows.used_count c.args.address c.in-Some.window c.in-Some.offset c.in-Some.ensures.place in
    store-refused c.args.held_blocks.now c.args.windows.pid c.args.windows.used_count c.args.address c.args.size.bytes c.args.value c.in-Some.window c.in-Some-get_mut.block.now c.store_in_block.new.block
    place.0 place.1 (sym c.in-Some-get_mut.ensures.block) c.store_in_block.result c.store_in_block.ensures.unchanged

pub returns-in-Some-get_mut-clause-rest : goal.returns-in-Some-get_mut-clause-rest
returns-in-Some-get_mut-clause-rest c = rest_of-set c.args.held_blocks.now c.args.windows.pid c.args.windows.used_count c.in-Some.window c.store_in_block.new.block

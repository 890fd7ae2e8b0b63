use Rattle.std.proofs.Common.{sym, ap, length, arith}
use Rattle.ce_model.specs.Limits.{greatest_images_lem}
use Rattle.ce_cube.specs.Crews.{serial_facts}
use Rattle.ce_script.specs.Rounds.{serial}
use Rattle.ce_run.proofs.Granted.{getcube-fits, none-done, getcube-ends, boxes-are, host-home, dim-within, granted-done}
use Rattle.ce_run.proofs.commands.cubes.getcube.Goals as goal

pub ask-requires-clause-fits : goal.ask-requires-clause-fits
ask-requires-clause-fits c = getcube-fits c.args.machine.now c.args.user c.args.dim c.requires.ready.user_is c.requires.ready.free c.requires.dim

pub unreachable-requires : goal.unreachable-requires
unreachable-requires c =
    getcube-ends c.args.machine.now c.args.user c.args.dim c.requires.ready.user_is c.requires.ready.free c.requires.dim c.ask.new.machine c.in_ok-grant.field-0 c.in_ok-grant.ensures
    c.in_default.not-NoneFree c.in_default.not-Granted

pub overflow_cast-images : goal.overflow_cast-images
overflow_cast-images c = omega (arith, ap length c.requires.ready.images_are, c.requires.ready.user_is.sound.within.images, greatest_images_lem)

pub new-crew-requires-clause-boxes : goal.new-crew-requires-clause-boxes
new-crew-requires-clause-boxes c =
    boxes-are c.args.machine.now c.args.user c.args.dim c.requires.ready.user_is c.requires.ready.free c.requires.dim c.ask.new.machine c.in_ok-grant.field-0 c.in_ok-grant.ensures
    c.in-Granted.grant c.in-Granted.boxes c.in-Granted.is

pub new-crew-requires-clause-host : goal.new-crew-requires-clause-host
new-crew-requires-clause-host c =
    host-home c.args.machine.now c.args.user c.args.dim c.requires.ready.user_is c.requires.ready.free c.requires.dim c.ask.new.machine c.in_ok-grant.field-0 c.in_ok-grant.ensures
    c.in-Granted.grant c.in-Granted.boxes c.in-Granted.is c.args.host c.requires.ready.host_is

pub new-crew-requires-clause-dim : goal.new-crew-requires-clause-dim
new-crew-requires-clause-dim c =
    dim-within c.args.machine.now c.args.user c.args.dim c.requires.ready.user_is c.requires.ready.free c.requires.dim c.ask.new.machine c.in_ok-grant.field-0 c.in_ok-grant.ensures
    c.in-Granted.grant c.in-Granted.boxes c.in-Granted.is

pub new-crew-requires-clause-images : goal.new-crew-requires-clause-images
new-crew-requires-clause-images c = omega (arith, ap length c.requires.ready.images_are, c.requires.ready.user_is.sound.within.images)

pub returns-in-NoneFree : goal.returns-in-NoneFree
returns-in-NoneFree c =
    none-done c.args.machine.now c.args.user c.args.dim c.requires.ready.user_is c.requires.ready.free c.requires.dim c.ask.new.machine c.in_ok-grant.field-0 c.in_ok-grant.ensures
    serial c.in-NoneFree.is c.args.host c.requires.ready.host_is

pub returns-in-Granted : goal.returns-in-Granted
returns-in-Granted c =
    granted-done c.args.machine.now c.args.user c.args.dim c.requires.ready.user_is c.requires.ready.free c.requires.dim c.ask.new.machine c.in_ok-grant.field-0 c.in_ok-grant.ensures
    c.in-Granted.grant c.in-Granted.boxes c.in-Granted.is serial (serial_facts c.new-crew.result) c.new-crew.ensures.grant
    (c.new-crew.ensures.in_step c.args.machine.now.parts c.ask.new.machine.history c.requires.ready.user_is.sound.within (sym (ap length c.requires.ready.images_are)))

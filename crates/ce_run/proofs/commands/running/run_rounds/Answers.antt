use Rattle.std.proofs.Common.{true, subst, arith}
use Rattle.ce_cube.specs.Crews.{HasMadeSerialRound, serial_facts}
use Rattle.ce_cube.proofs.Crewing.{still-sound}
use Rattle.ce_script.specs.Rounds.{serial}
use Rattle.ce_run.proofs.Going.{images-stay, no-round, one-round-more, rounds-over, left-behind}
use Rattle.ce_run.proofs.commands.running.run_rounds.Goals as goal

pub rounds-init : goal.rounds-init
rounds-init c = no-round serial c.args.machine.now (serial_facts c.args.crew.now) c.requires.crew_is.user.sound c.requires.crew_is.in_step

pub round_serial-requires-clause-machine : goal.round_serial-requires-clause-machine
round_serial-requires-clause-machine c =
    still-sound serial c.args.machine.now c.rounds.machine (serial_facts c.args.crew.now) (serial_facts c.rounds.crew) _ c.requires.crew_is.user.sound c.rounds.invariant.goes_on

pub round_serial-requires-clause-images : goal.round_serial-requires-clause-images
round_serial-requires-clause-images c =
    images-stay serial c.args.machine.now c.rounds.machine (serial_facts c.args.crew.now) (serial_facts c.rounds.crew) _ c.args.images.now c.rounds.invariant.goes_on
    c.requires.images_are

pub rounds-preserved : goal.rounds-preserved
rounds-preserved c =
    one-round-more serial c.args.machine.now c.rounds.machine c.round_serial.new.machine (serial_facts c.args.crew.now) (serial_facts c.rounds.crew)
    (serial_facts c.round_serial.new.crew) c.rounds.invariant
    (subst (HasMadeSerialRound c.rounds.machine c.round_serial.new.machine (serial_facts c.rounds.crew) (serial_facts c.round_serial.new.crew)) c.if-branch.true
    c.in_ok-round_serial.ensures).made_round

pub rounds-smaller : goal.rounds-smaller
rounds-smaller c =
    let made = subst (HasMadeSerialRound c.rounds.machine c.round_serial.new.machine (serial_facts c.rounds.crew) (serial_facts c.round_serial.new.crew)) c.if-branch.true
    c.in_ok-round_serial.ensures in
    omega (arith, left-behind c.rounds.machine c.round_serial.new.machine (serial_facts c.rounds.crew) (serial_facts c.round_serial.new.crew) true made)

pub returns : goal.returns
returns c =
    rounds-over serial c.args.machine.now c.rounds.machine c.round_serial.new.machine (serial_facts c.args.crew.now) (serial_facts c.rounds.crew)
    (serial_facts c.round_serial.new.crew) c.rounds.invariant
    (subst (HasMadeSerialRound c.rounds.machine c.round_serial.new.machine (serial_facts c.rounds.crew) (serial_facts c.round_serial.new.crew)) c.if-branch.false
    c.in_ok-round_serial.ensures).made_round

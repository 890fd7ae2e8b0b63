use Rattle.std.proofs.Common.{◌≡◌, ◌^◌, subst, arith}
use Rattle.std.proofs.lemmas.Result.{err_from_is_err_and}
use Rattle.ce_cube.specs.Crews.{serial_facts}
use Rattle.ce_cube.specs.Exchanges.{IsRoundUnderWay}
use Rattle.ce_cube.proofs.Crewing.{few-nodes, round-starts, round-goes_on, round-stops, stopped-round}
use Rattle.ce_cube.proofs.round.round_serial.Goals as goal

pub overflow_cast-count : goal.overflow_cast-count
overflow_cast-count c =
    omega (arith, c.len-count.ensures, c.requires.crew.boxes.all, few-nodes c.args.machine.now c.args.crew.now.grant c.requires.machine c.requires.crew.held)

pub loop-r-init : goal.loop-r-init
loop-r-init c = round-starts c.args.machine.now (serial_facts c.args.crew.now) c.requires.machine c.requires.crew

pub loop-r-preserved : goal.loop-r-preserved
loop-r-preserved c =
    round-goes_on c.args.machine.now c.loop-r.machine c.turn_of.new.machine (serial_facts c.args.crew.now) (serial_facts c.loop-r.crew) (serial_facts c.turn_of.new.crew)
    c.loop-r.r c.loop-r.gives_work c.in_ok-gives_work.field-0
    c.loop-r.invariant c.in_ok-gives_work.ensures

pub returns-in_err-gives_work : goal.returns-in_err-gives_work
returns-in_err-gives_work c =
    let p = err_from_is_err_and c.from_residual.result c.from_residual.ensures.1 in
    rw p.1 (stopped-round c.args.machine.now c.loop-r.machine c.turn_of.new.machine (serial_facts c.args.crew.now) (serial_facts c.loop-r.crew) c.loop-r.r c.loop-r.gives_work
    c.loop-r.invariant c.in_err-gives_work.ensures)

pub returns : goal.returns
returns c =
    let end : c.loop-r.r ≡ 2 ^ c.args.crew.now.grant.dim =
    omega (arith, c.loop-r-test.false, c.loop-r.auto.r-end, c.len-count.ensures, c.requires.crew.boxes.all) in
    round-stops c.args.machine.now c.loop-r.machine (serial_facts c.args.crew.now) (serial_facts c.loop-r.crew) c.loop-r.gives_work
    (subst (λ r. IsRoundUnderWay c.args.machine.now c.loop-r.machine (serial_facts c.args.crew.now) (serial_facts c.loop-r.crew) r c.loop-r.gives_work) end c.loop-r.invariant)

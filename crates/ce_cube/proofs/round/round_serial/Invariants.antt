use Rattle.ce_cube.specs.Crews.{serial_facts}
use Rattle.ce_cube.specs.Exchanges.{IsRoundUnderWay}
use Rattle.ce_cube.proofs.round.round_serial.Given as goal

-- the round is under way
abbrev pub invariant-loop-r : goal.invariant-loop-r
invariant-loop-r l = IsRoundUnderWay l.fn.machine l.machine (serial_facts l.fn.crew) (serial_facts l.crew) l.r l.gives_work

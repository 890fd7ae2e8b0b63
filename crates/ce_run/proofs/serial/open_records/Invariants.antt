use Rattle.std.proofs.Common.{◌≡◌, [], map, take}
use Rattle.ce_run.proofs.serial.open_records.Given as goal

abbrev pub invariant-loop-name : goal.invariant-loop-name
invariant-loop-name l = l.users.items ≡ map (λ name. record { name = name; done = [] }) (take l.name-index l.names)

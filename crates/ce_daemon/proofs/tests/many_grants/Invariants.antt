use Rattle.std.proofs.Common.{◌≡◌, []}
use Rattle.ce_daemon.proofs.tests.many_grants.Given as goal

-- between two rounds nobody holds a cube
abbrev pub invariant-loop : goal.invariant-loop
invariant-loop g l = l.daemon.grants ≡ []

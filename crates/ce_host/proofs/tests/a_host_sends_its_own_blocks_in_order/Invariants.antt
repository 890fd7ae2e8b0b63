use Rattle.std.proofs.Common.{◌≡◌, [], Some}
use Rattle.ce_host.proofs.tests.a_host_sends_its_own_blocks_in_order.Given as goal

abbrev pub invariant-loop-index : goal.invariant-loop-index
invariant-loop-index g l = l.host.spare_batch ≡ Some []

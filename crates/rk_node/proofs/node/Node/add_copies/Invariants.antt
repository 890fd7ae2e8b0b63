use Rattle.std.proofs.Common.{◌≡◌, ◌+◌, ◌++◌, length, take, drop, zip}
use Rattle.ce_model.specs.Kernel.{with_store}
use Rattle.rk_mail.specs.Targets.{bytes_of, targets_of}
use Rattle.rk_node.specs.Standing.{node_model}
use Rattle.rk_node.proofs.node.Node.add_copies.Given as goal

abbrev pub invariant-loop-to : goal.invariant-loop-to
invariant-loop-to l = record {
  node : node_model l.self ≡ with_store (drop l.to-index (node_model l.fn.self).store) (node_model l.fn.self);
  targets : targets_of l.batch ≡ targets_of l.fn.batch ++ zip (take l.to-index l.places) (take l.to-index (node_model l.fn.self).store);
  bytes : bytes_of l.batch ≡ bytes_of l.fn.batch;
  count : length l.batch ≡ length l.fn.batch + l.to-index;
  batch : l.self.batch ≡ l.fn.self.batch;
  room : l.self.room ≡ l.fn.self.room;
}

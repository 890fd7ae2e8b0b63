use Rattle.std.proofs.Common.{◌≡◌, ◌+◌, [], length}
use Rattle.ce_model.specs.Blocks.{with_ids}
use Rattle.ce_model.specs.Node.{blocks_of}
use Rattle.xm_block.specs.Stores.{ids_of}
use Rattle.rk_node.specs.Standing.{node_model}
use Rattle.rk_node.specs.Hearings.{AreNewToStore}
use Rattle.rk_node.proofs.Moved.{reset_first, ids_from}
use Rattle.rk_node.proofs.node.Node.scrub.Given as goal

abbrev pub invariant-loop-pid : goal.invariant-loop-pid
invariant-loop-pid l = record {
  node : node_model l.self ≡ record (node_model l.fn.self) { processes = reset_first l.pid (node_model l.fn.self).processes; store = [] };
  moved : with_ids (ids_from l.pid (node_model l.fn.self).processes) (ids_of l.out.blocks) ≡ with_ids (blocks_of (node_model l.fn.self)) (ids_of l.fn.out.blocks);
  apart : AreNewToStore (ids_from l.pid (node_model l.fn.self).processes) l.out;
  spare : l.out.spare + length (blocks_of (node_model l.fn.self)) ≡ l.fn.out.spare + length (ids_from l.pid (node_model l.fn.self).processes);
  batch : l.self.batch ≡ l.fn.self.batch;
  room : l.self.room ≡ l.fn.self.room;
}

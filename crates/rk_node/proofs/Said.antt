-- What a box is once its node has said something.
use Rattle.std.proofs.Common.{◌≡◌, [], Some, IfSome, ap, sym, subst, arith}
use Rattle.ce_model.specs.Node as model
use Rattle.ce_model.specs.Node.{Call, take_call, blocks_of}
use Rattle.ce_model.specs.Saying.{says}
use Rattle.ce_model.specs.Sound.{IsSoundTurn}
use Rattle.ce_solo.proofs.Counting.{count, count-nil}
use Rattle.ce_solo.proofs.Nodes.{IsWell}
use Rattle.ce_solo.proofs.Words.{IsCallOfNode, call_ids}
use Rattle.ce_solo.proofs.Says.{says-said}
use Rattle.rk_node.specs.declared.node.Node.{Node}
use Rattle.rk_node.specs.declared.awaited_call.AwaitedCall.{AwaitedCall}
use Rattle.rk_node.specs.declared.awaited_call.AwaitedCall.TheVariants.{Nothing}
use Rattle.rk_node.specs.Standing.{node_model}
use Rattle.rk_node.specs.Wording.{awaited_call_of, HasBatch}
use Rattle.rk_node.specs.Boxes.{Box}
use Rattle.rk_node.specs.Answering.{IsAwaitingAnswer}
use Rattle.rk_node.specs.Withdrawal.{HasTakenOut}
use Rattle.rk_node.specs.Whole.{IsWholeBox}
use Rattle.rk_node.proofs.Limits.{sound_if}

-- what a node is that was well and said this call
pub record IsAfter (node after : model.Node) (call : Call) : Type 0 where
  pub well : IsWell after.turn after
  pub of_node : IsCallOfNode after call
  pub takes_out : HasTakenOut node after call

said-after : (node after : model.Node) (call : Call) → IsWell node.turn node → IfSome node.turn IsSoundTurn
    → call ≡ (says node).call → after ≡ (says node).node → IsAfter node after call
said-after node after call well sound same is =
    let said = (says-said node well sound).leaves in
    record {
      well = subst (λ (n : model.Node). IsWell n.turn n) (sym is) said.became.well;
      of_node = subst (λ (n : model.Node). IsCallOfNode n call) (sym is) (subst (IsCallOfNode (says node).node) (sym same) said.of_node);
      takes_out = λ id. omega (
        arith,
        said.became.blocks id,
        count-nil id,
        ap (λ (n : model.Node). count id (blocks_of n)) is,
        ap (λ (c : Call). count id (call_ids c)) same,
      );
    }

pub said-whole : (node : Node) (out : AwaitedCall) (after : Node) (call : Call) → IsWholeBox node out → call ≡ (says (node_model node)).call
    → node_model after ≡ (says (node_model node)).node → IsAfter (node_model node) (node_model after) call
said-whole node out after call whole same is = said-after (node_model node) (node_model after) call whole.well (sound_if node.turn) same is

pub has_said : (box : Box) (call : Call) → box.awaited_call ≡ awaited_call_of call → IsCallOfNode box.node call → IsAwaitingAnswer box call
has_said box (take_call asking dead poller) is of = (is, of.1, of.0)
has_said box call is of = sym is

pub has_batch : (node : Node) (out : AwaitedCall) → IsWholeBox node out → out ≡ Nothing → node.batch ≡ Some []
has_batch node out whole none = subst (λ o. HasBatch o node.batch) none whole.batch

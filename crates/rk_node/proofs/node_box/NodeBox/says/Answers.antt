use Rattle.std.proofs.Common.{ap, sym, ◌∙◌, subst}
use Rattle.ce_model.specs.Saying.{says}
use Rattle.rk_mail.specs.Talk.{call_of_say}
use Rattle.rk_node.specs.Boxes.{Box}
use Rattle.rk_node.specs.Standing.{node_model}
use Rattle.rk_node.specs.Withdrawal.{HasTakenOut}
use Rattle.rk_node.specs.Wording.{HasBatch}
use Rattle.rk_node.proofs.Said.{said-whole, has_said, has_batch}
use Rattle.rk_node.proofs.node_box.NodeBox.says.Goals as goal

pub says-say-requires : goal.says-say-requires
says-say-requires c =
    let whole = c.self.invariant in
    record {
      ready = whole.well;
      batch = has_batch _ _ whole (ap (λ (b : Box). b.awaited_call) c.self.view_is ∙ c.requires.idle);
    }

pub invariant_of-self : goal.invariant_of-self
invariant_of-self c =
    let said = c.says-say.ensures in
    let after = said-whole _ _ c.says-say.new.self (call_of_say c.says-say.result) c.self.invariant said.call said.node in
    record {
      well = after.well;
      batch = subst (λ out. HasBatch out c.says-say.new.self.batch) (sym c.awaited_call_after-self-inside.ensures) said.batch;
    }

pub returns-clause-call : goal.returns-clause-call
returns-clause-call c = c.says-say.ensures.call ∙ ap (λ (b : Box). (says b.node).call) c.self.view_is

pub returns-clause-node : goal.returns-clause-node
returns-clause-node c = c.says-say.ensures.node ∙ ap (λ (b : Box). (says b.node).node) c.self.view_is

pub returns-clause-room : goal.returns-clause-room
returns-clause-room c = c.says-say.ensures.room ∙ ap (λ (b : Box). b.room) c.self.view_is

pub returns-clause-said : goal.returns-clause-said
returns-clause-said c =
    let said = c.says-say.ensures in
    let after = said-whole _ _ c.says-say.new.self (call_of_say c.says-say.result) c.self.invariant said.call said.node in
    has_said (record { node = node_model c.says-say.new.self; room = c.says-say.new.self.room; awaited_call = c.awaited_call_after-self-inside.result }) (call_of_say c.says-say.result) c.awaited_call_after-self-inside.ensures after.of_node

pub returns-clause-blocks : goal.returns-clause-blocks
returns-clause-blocks c =
    let said = c.says-say.ensures in
    let after = said-whole _ _ c.says-say.new.self (call_of_say c.says-say.result) c.self.invariant said.call said.node in
    subst (λ (b : Box). HasTakenOut b.node (node_model c.says-say.new.self) (call_of_say c.says-say.result)) c.self.view_is after.takes_out

use Rattle.std.proofs.Common.{ap, ◌∙◌, sym, subst, arith}
use Rattle.ce_model.specs.Process.{with_answer}
use Rattle.ce_model.specs.Node.{process_at}
use Rattle.ce_model.specs.Hearing.{with_turn}
use Rattle.rk_mail.specs.Items.{parcel_of}
use Rattle.rk_node.specs.Moves.{with_mapped_block}
use Rattle.rk_node.specs.Standing.{node_model}
use Rattle.rk_node.specs.Ready.{HasBlocksOnce}
use Rattle.rk_node.proofs.Processes.{length-processes}
use Rattle.rk_node.proofs.Heard.{begins-after, gets-begins, apart-stored, once-stored}
use Rattle.rk_node.proofs.node.Node.receive.Goals as goal

pub give-requires-clause-apart : goal.give-requires-clause-apart
give-requires-clause-apart c = apart-stored (node_model c.args.self.now) c.args.parcel.block.id c.requires.apart

pub stop-requires : goal.stop-requires
stop-requires c =
    subst HasBlocksOnce (sym c.give.ensures.node) (once-stored (node_model c.args.self.now) c.args.parcel.block.id (record { once = c.requires.ready.once }) c.requires.apart)

pub returns-then-has_unused_window-clause-node : goal.returns-then-has_unused_window-clause-node
returns-then-has_unused_window-clause-node c =
    let node = c.args.self.now in
    let n = node_model node in
    let pid = c.args.parcel.to.pid in
    c.begin_answered_turn.ensures.node
    ∙ begins-after n (node_model c.map-address.new.self) pid (with_mapped_block c.args.parcel.block (process_at n pid)) (with_answer c.map-address.result)
    (omega (arith, length-processes node, c.requires.pid)) c.map-address.ensures.node
    ∙ ap (λ a. with_turn n pid (with_answer a (with_mapped_block c.args.parcel.block (process_at n pid)))) c.map-address.ensures.start
    ∙ sym (gets-begins n (parcel_of c.args.parcel) (process_at n pid) (cc))

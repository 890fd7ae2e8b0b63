-- What the kernel's calls that name a block do.
use Rattle.std.specs.Prelude.{ℕ, IfSome}
use Rattle.ce_model.specs.Blocks.{Block}
use Rattle.ce_model.specs.Space.{block_named}
use Rattle.ce_model.specs.Process.{Process, argument}
use Rattle.ce_model.specs.Node as model
use Rattle.ce_model.specs.Kernel.{CallOutcome, read_outcome, free_outcome, send_outcome, xmsend_block, length_outcome}
use Rattle.xm_owner.specs.Holdings.{block_held_at}
use Rattle.rk_node.specs.declared.node.Node.{Node}
use Rattle.rk_node.specs.declared.turn.CallEnd.{CallEnd}
use Rattle.rk_node.specs.declared.turn.BlockCall.{BlockCall}
use Rattle.rk_node.specs.declared.turn.BlockCall.TheVariants.{Free, Length, Send, SendToSeveral}
use Rattle.rk_node.specs.Wording.{HasDoneCall}

-- what the call does with the block that it names
abbrev pub block_call_outcome : BlockCall → model.Node → model.Turn → Process → ℕ × Block
    → CallOutcome
block_call_outcome Free = free_outcome
block_call_outcome Length = length_outcome
block_call_outcome Send = send_outcome
block_call_outcome SendToSeveral = xmsend_block

-- what the call does: xfree, xlength, xsend or xmsend
abbrev pub block_outcome : BlockCall → model.Node → model.Turn → Process → CallOutcome
block_outcome call node turn p = read_outcome node turn p (block_named p.space (argument p 0))
    (block_call_outcome call node turn p)

-- the block at a window of the turn's process, if it holds one, comes to what this does with it
abbrev pub HasDoneBlockCall : ℕ → (model.Node → model.Turn → Process → ℕ × Block → CallOutcome)
    → Node → Node → model.Turn → CallEnd → Type 0
HasDoneBlockCall window model_outcome old_node new_node turn call_end =
    IfSome (block_held_at old_node.held_blocks.mappings turn.pid window)
    (λ block. HasDoneCall (λ node turn p. model_outcome node turn p (window, block))
    old_node new_node turn turn call_end)

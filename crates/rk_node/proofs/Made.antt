-- What a call makes of a node, by what its parts make.
use Rattle.std.proofs.Common.{◌≡◌, ℕ, ◌<◌, ◌≤◌, true, false, List, length, map, slice_get, slice_index_or, Option, Some, None, is_some, IsSome, IfSome, Result, Ok, Err, if◌then◌else◌, refl, ap, subst, sym, ◌∙◌, arith, inl, inr}
use Rattle.std.proofs.lemmas.Bool.{cases_Bool}
use Rattle.std.proofs.lemmas.Option.{slice_get_past}
use Rattle.rv_model.specs.declared.stop.Stop.{Stop}
use Rattle.rv_model.specs.declared.stop.Stop.TheVariants.{NotABlock, Gone}
use Rattle.ce_model.specs.declared.topology.BlockId.{BlockId}
use Rattle.ce_model.specs.Blocks.{Block}
use Rattle.ce_model.specs.Space.{Space, mapped_ids, window_of, is_window_start, block_at_window, block_named}
use Rattle.ce_model.specs.Process.{Process, unborn_process, argument, with_answer}
use Rattle.ce_model.specs.Node as model
use Rattle.ce_model.specs.Kernel.{CallOutcome, continuation, return_outcome, stop_outcome, read_outcome, with_store}
use Rattle.xm_owner.specs.Holdings.{Mapping, block_held_at}
use Rattle.ce_solo.proofs.Counting.{hit-self, count, count-append}
use Rattle.ce_solo.proofs.Windows.{count-unmapped}
use Rattle.ce_solo.proofs.Nodes.{IsWell}
use Rattle.rk_process.specs.OwnStates.{OwnState, place_of, unborn_state}
use Rattle.rk_process.proofs.Found.{slice_get-windows_of}
use Rattle.rk_node.specs.declared.node.Node.{Node}
use Rattle.rk_node.specs.declared.turn.CallEnd as code
use Rattle.rk_node.specs.declared.turn.BlockCall.{BlockCall}
use Rattle.rk_node.specs.Standing.{node_model, processes_of}
use Rattle.rk_node.specs.Tables.{AreUsedWindows}
use Rattle.rk_node.specs.Ready.{HasBlocksOnce}
use Rattle.rk_node.specs.Moves.{IsWindowOfAddress}
use Rattle.rk_node.specs.Wording.{HasDoneCall}
use Rattle.rk_node.specs.BlockCalls.{block_call_outcome, block_outcome, HasDoneBlockCall}
use Rattle.rk_node.proofs.Windows.{used-held}
use Rattle.rk_node.proofs.Names.{once-process}
use Rattle.rk_node.proofs.Processes.{process_of-at, process-read, used-read}
use Rattle.rk_node.proofs.Stops.{changed-twice}

-- a call that does the same as another
pub made-as : {word word' : model.Node → model.Turn → Process → CallOutcome} {before after : Node} {turn now turn' : model.Turn} {outcome : code.CallEnd}
    → HasDoneCall word before after turn turn' outcome
    → word' (node_model before) now (model.process_at (node_model before) now.pid) ≡ word (node_model before) turn (model.process_at (node_model before) turn.pid)
    → HasDoneCall word' before after now turn' outcome
made-as made same = record { did = made.did ∙ sym same; batch = made.batch; room = made.room }

-- an answer to a process that was changed
pub returns-after : (node b : model.Node) (turn : model.Turn) (q : Process) (store : List BlockId) (value : ℕ) → turn.pid < length node.processes
    → b ≡ with_store store (model.with_process node turn.pid q)
    → return_outcome b turn (model.process_at b turn.pid) value ≡ return_outcome (with_store store node) turn q value
returns-after node b turn q store value h same =
    ap (λ b. return_outcome b turn (model.process_at b turn.pid) value) same
    ∙ ap (λ ps. continuation (record node { processes = ps; store = store }) turn) (changed-twice node.processes turn.pid q (with_answer value) h)

-- ---- a block that a call names

pub named-not : (space : Space) (p : ℕ) → is_window_start p ≡ false → block_named space p ≡ Err (NotABlock p)
unfolding block_named
named-not space p f = rw f refl

pub named-at : (space : Space) (p : ℕ) → is_window_start p ≡ true → block_named space p ≡ block_at_window (slice_get space.windows (window_of p)) p
unfolding block_named
named-at space p t = rw t refl

-- where a window begins
pub at_start : (p : ℕ) (window : ℕ) → Some window ≡ (if is_window_start p then Some (window_of p) else None) → (is_window_start p ≡ true) × (window ≡ window_of p)
at_start p window e = elim (cases_Bool (is_window_start p)) [
  | inl t ↦ (let same : ◌≡◌ {A = Option ℕ} (Some window) (Some (window_of p)) = rw t at e in (t, cc))
  | inr f ↦ (let none : ◌≡◌ {A = Option ℕ} (Some window) None = rw f at e in absurd (cc))
]

pub not_start : (p : ℕ) → None ≡ (if is_window_start p then Some (window_of p) else None) → is_window_start p ≡ false
not_start p e = elim (cases_Bool (is_window_start p)) [
  | inl t ↦ (let some : ◌≡◌ {A = Option ℕ} None (Some (window_of p)) = rw t at e in absurd (cc))
  | inr f ↦ f
]

pub named-reading : (node : model.Node) (turn : model.Turn) (p : Process) (a : ℕ) (r : Result (ℕ × Block) Stop) (onward : ℕ × Block → CallOutcome)
    → a ≡ argument p 0 → block_named p.space a ≡ r → read_outcome node turn p (block_named p.space (argument p 0)) onward ≡ read_outcome node turn p r onward
named-reading node turn p a r onward same named =
    ap (λ a. read_outcome node turn p (block_named p.space a) onward) (sym same) ∙ ap (λ r. read_outcome node turn p r onward) named

-- a block that is held is at its window
pub window-held : (m : List Mapping) (owns : List OwnState) (pid k : ℕ) (block : Block) → pid < length owns → AreUsedWindows owns (map place_of m)
    → block_held_at m pid k ≡ Some block → slice_get (slice_index_or (processes_of m owns) pid unborn_process).space.windows k ≡ Some (Some block)
window-held m owns pid k block h within held =
    ap (λ (p : Process). slice_get p.space.windows k) (process_of-at m owns pid h)
    ∙ slice_get-windows_of m pid (slice_index_or owns pid unborn_state).used_count k (used-held owns m pid k block within held) ∙ ap Some held

-- so its name isn't in the store
pub store-apart : (node : model.Node) (pid k : ℕ) (block : Block) → HasBlocksOnce node → pid < length node.processes
    → slice_get (model.process_at node pid).space.windows k ≡ Some (Some block) → count block.id node.store ≡ 0
store-apart node pid k block once h at =
    omega (
      arith,
      once-process node pid _ once h refl block.id,
      count-append block.id (mapped_ids (model.process_at node pid).space) node.store,
      count-unmapped block.id (model.process_at node pid).space.windows k block at,
      hit-self block.id,
    )

pub well-once : (turn : Option model.Turn) (node : model.Node) → IsWell turn node → HasBlocksOnce node
well-once turn node well = record { once = well.once }

pub is_held : {X : Type 0} {o : Option X} {x : X} → o ≡ Some x → IsSome o
is_held e = ap is_some e

pub some_held : {X : Type 0} {o : Option X} → IsSome o → (x : X) × (o ≡ Some x)
some_held {o = None} held = absurd (cc)
some_held {o = Some x} held = (x, refl)

pub at-some : {X : Type 0} (o : Option X) (x : X) (P : X → Type 0) → o ≡ Some x → IfSome o P → P x
at-some None x P e p = absurd (cc)
at-some (Some y) x P e p = let same : y ≡ x = cc in subst P same p

-- a call that names a block, which is there
pub made-named : {call call' : BlockCall} {before after : Node} {turn : model.Turn} {outcome : code.CallEnd} {a window : ℕ} {block : Block}
    → a ≡ argument (model.process_at (node_model before) turn.pid) 0 → block_held_at before.held_blocks.mappings turn.pid window ≡ Some block
    → block_named (model.process_at (node_model before) turn.pid).space a ≡ Ok (window, block) → call ≡ call'
    → HasDoneBlockCall window (block_call_outcome call') before after turn outcome → HasDoneCall (block_outcome call) before after turn turn outcome
made-named {call' = call'} {before = before} {after = after} {turn = turn} {outcome = outcome} {window = window} {block = block} same there named is made =
    let n = node_model before in
    let p = model.process_at n turn.pid in
    made-as (at-some _ block (λ block. HasDoneCall (λ node turn p. block_call_outcome call' node turn p (window, block)) before after turn turn outcome) there made)
    (ap (λ call. block_outcome call n turn p) is ∙ named-reading n turn p _ _ (block_call_outcome call' n turn p) same named)

-- a call that names none
pub made-refused : (call : BlockCall) {before after : Node} {turn : model.Turn} {outcome : code.CallEnd} {a : ℕ} {cause : Stop}
    → a ≡ argument (model.process_at (node_model before) turn.pid) 0 → block_named (model.process_at (node_model before) turn.pid).space a ≡ Err cause
    → HasDoneCall (λ node turn p. stop_outcome node turn p cause) before after turn turn outcome → HasDoneCall (block_outcome call) before after turn turn outcome
made-refused call {before = before} {turn = turn} same named made =
    let n = node_model before in
    let p = model.process_at n turn.pid in
    made-as made (named-reading n turn p _ _ (block_call_outcome call n turn p) same named)

-- the block at a window that holds one, or none
pub named_here : (block_at : ℕ → Option Block) (at : Option (Option Block)) (window a : ℕ) (block : Block) → block_at window ≡ Some block → at ≡ Some (block_at window)
    → window ≡ window_of a → IsWindowOfAddress block_at (block_at_window at a) (Ok window)
named_here block_at at window a block h there same =
    (block, h, ap (λ o. block_at_window o a) (there ∙ ap Some h) ∙ ap {B = Result (ℕ × Block) Stop} (λ w. Ok (w, block)) (sym same))

pub gone_here : (block_at : ℕ → Option Block) (at : Option (Option Block)) (window a : ℕ) → block_at window ≡ None → at ≡ Some (block_at window) → block_at_window at a ≡ Err (Gone a)
gone_here block_at at window a h there = ap (λ o. block_at_window o a) (there ∙ ap Some h)

-- what the list of a process's windows has for one
pub at-window : (m : List Mapping) (owns : List OwnState) (pid : ℕ) (own : OwnState) (k : ℕ) → pid < length owns → own ≡ slice_index_or owns pid own → k < own.used_count
    → slice_get (slice_index_or (processes_of m owns) pid unborn_process).space.windows k ≡ Some (block_held_at m pid k)
at-window m owns pid own k h read less =
    ap (λ (p : Process). slice_get p.space.windows k) (process-read m owns pid own h read) ∙ slice_get-windows_of m pid own.used_count k less

pub past-windows : (m : List Mapping) (owns : List OwnState) (pid : ℕ) (own : OwnState) (k : ℕ) → pid < length owns → own ≡ slice_index_or owns pid own → own.used_count ≤ k
    → slice_get (slice_index_or (processes_of m owns) pid unborn_process).space.windows k ≡ None
past-windows m owns pid own k h read more =
    slice_get_past (slice_index_or (processes_of m owns) pid unborn_process).space.windows k (omega (arith, used-read m owns pid own h read))

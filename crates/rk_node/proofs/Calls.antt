-- The kernel's calls by their numbers.
use Rattle.std.proofs.Common.{◌≡◌, ℕ, ◌+◌, ◌-◌, ◌<◌, ◌≤◌, Bool, true, false, ◌||◌, ◌==◌, nat_lt, IsTrue, slice_get, Option, Some, None, refl, ap, sym, ◌∙◌, arith, inl, inr}
use Rattle.std.specs.Option.{option_map_or}
use Rattle.std.proofs.lemmas.Bool.{cases_Bool, cases_lt, eqb-true, lt-ltb, ne_eqb}
use Rattle.std.proofs.lemmas.Option.{slice_get_past}
use Rattle.rv_model.specs.declared.stop.Stop.TheVariants.{TurnSpent, NoCall}
use Rattle.ce_model.specs.Limits.{turn_calls}
use Rattle.ce_model.specs.Process.{Process, argument}
use Rattle.ce_model.specs.Node as model
use Rattle.ce_model.specs.Kernel.{CallOutcome, stop_outcome, KernelCall, kernel_calls, kernel_call, is_counted_at, call_outcome, kernel}
use Rattle.ce_solo.proofs.Nodes.{well-turn}
use Rattle.ce_solo.proofs.Calls.{one_call_more}
use Rattle.rk_node.specs.declared.node.Node.{Node}
use Rattle.rk_node.specs.declared.turn.CallEnd as code
use Rattle.rk_node.specs.Standing.{node_model}
use Rattle.rk_node.specs.Ready.{IsInTurn}
use Rattle.rk_node.specs.Wording.{HasDoneCall}
use Rattle.rk_node.proofs.Made.{made-as}

pub in_turn-more : {node : Node} {turn : model.Turn} → IsInTurn node turn → IsInTurn node (one_call_more turn)
in_turn-more {node} {turn} ready = record {
  well = well-turn (node_model node) turn turn.instructions_left (turn.calls + 1) ready.well;
  batch = ready.batch;
}

-- ---- numbers without a call

past_calls : (number : ℕ) → 15 ≤ number → slice_get kernel_calls (number - 1) ≡ None
unfolding kernel_calls
past_calls number h = slice_get_past kernel_calls (number - 1) (omega arith)

no_call : (number : ℕ) → 15 ≤ number → kernel_call number ≡ None
no_call number h = rw (ne_eqb number 0 (λ e. omega (arith, e))) (past_calls number h)

-- ---- the calls that count

-- past the limit of the turn none of them is made
spent-call : (found : Option KernelCall) → IsTrue (option_map_or (λ call. call.is_counted) found false) → (node : model.Node) (turn : model.Turn) (p : Process)
    → nat_lt turn.calls turn_calls ≡ false → call_outcome found node turn p ≡ stop_outcome node turn p TurnSpent
spent-call None h node turn p past = absurd (cc)
spent-call (Some call) h node turn p past = rw (h, past) refl

pub spent : (number : ℕ) → IsTrue (is_counted_at number) → (node : model.Node) (turn : model.Turn) (p : Process)
    → nat_lt turn.calls turn_calls ≡ false → call_outcome (kernel_call number) node turn p ≡ stop_outcome node turn p TurnSpent
spent number h = spent-call (kernel_call number) h

either : (number k : ℕ) (rest : Bool) → IsTrue (number == k || rest) → IsTrue (is_counted_at k) → (IsTrue rest → IsTrue (is_counted_at number))
    → IsTrue (is_counted_at number)
either number k rest h here others = elim (cases_Bool (number == k)) [
  | inl t ↦ ap is_counted_at (eqb-true number k t) ∙ here
  | inr f ↦ others (rw f at h)
]

pub counted-number : (number : ℕ) → IsTrue (number == 4 || (number == 5 || (number == 8 || (number == 9 || number == 14)))) → IsTrue (is_counted_at number)
unfolding kernel_calls
counted-number number h =
    either number 4 _ h refl (λ h. either number 5 _ h refl (λ h. either number 8 _ h refl (λ h. either number 9 _ h refl (λ h. ap is_counted_at (eqb-true number 14 h)))))

not-counted : (number k : ℕ) → IsTrue (is_counted_at number) → is_counted_at k ≡ false → ¬ (number ≡ k)
not-counted number k h none same = let wrong : true ≡ false = sym h ∙ ap is_counted_at same ∙ none in absurd (cc)

pub is_note : (number : ℕ) → IsTrue (is_counted_at number) → ¬ (number ≡ 4) → ¬ (number ≡ 5) → ¬ (number ≡ 8) → ¬ (number ≡ 9) → number ≡ 14
unfolding kernel_calls
is_note number h a b d e = elim (cases_lt number 15) [
  | inl below ↦ omega (
    arith,
    a,
    b,
    d,
    e,
    not-counted number 0 h refl,
    not-counted number 1 h refl,
    not-counted number 2 h refl,
    not-counted number 3 h refl,
    not-counted number 6 h refl,
    not-counted number 7 h refl,
    not-counted number 10 h refl,
    not-counted number 11 h refl,
    not-counted number 12 h refl,
    not-counted number 13 h refl,
  )
  | inr above ↦ (let none : is_counted_at number ≡ false = ap (λ found. option_map_or (λ call. call.is_counted) found false) (no_call number above) in absurd (cc))
]

-- the call of this number does what a word of the kernel does with one call more
pub made-counted : {word : model.Node → model.Turn → Process → CallOutcome} {number k : ℕ} {before after : Node} {turn : model.Turn} {outcome : code.CallEnd}
    → HasDoneCall word before after (one_call_more turn) (one_call_more turn) outcome → number ≡ k → turn.calls < turn_calls
    → ((node : model.Node) (p : Process) → nat_lt turn.calls turn_calls ≡ true → call_outcome (kernel_call k) node turn p ≡ word node (one_call_more turn) p)
    → HasDoneCall (call_outcome (kernel_call number)) before after turn (one_call_more turn) outcome
made-counted {before = before} {turn = turn} made same less counts =
    let n = node_model before in
    let p = model.process_at n turn.pid in
    made-as made (ap (λ k. call_outcome (kernel_call k) n turn p) same ∙ counts n p (lt-ltb turn.calls turn_calls less))

-- ---- all calls

pub made-number : {number : ℕ} {before after : Node} {turn turn' : model.Turn} {outcome : code.CallEnd}
    → HasDoneCall (call_outcome (kernel_call number)) before after turn turn' outcome → number ≡ argument (model.process_at (node_model before) turn.pid) 7
    → HasDoneCall kernel before after turn turn' outcome
unfolding kernel
made-number {before = before} {turn = turn} made read =
    let n = node_model before in
    let p = model.process_at n turn.pid in
    made-as made (ap (λ k. call_outcome (kernel_call k) n turn p) (sym read))

-- the call of this number does what a word of the kernel does
pub made-call : {word : model.Node → model.Turn → Process → CallOutcome} {number k : ℕ} {before after : Node} {turn turn' : model.Turn} {outcome : code.CallEnd}
    → HasDoneCall word before after turn turn' outcome → number ≡ argument (model.process_at (node_model before) turn.pid) 7 → number ≡ k
    → ((node : model.Node) (p : Process) → call_outcome (kernel_call k) node turn p ≡ word node turn p) → HasDoneCall kernel before after turn turn' outcome
made-call {before = before} {turn = turn} made read same does =
    let n = node_model before in
    let p = model.process_at n turn.pid in
    made-number (made-as made (ap (λ k. call_outcome (kernel_call k) n turn p) same ∙ does n p)) read

pub call_none : (number : ℕ) → ¬ (number ≡ 1) → ¬ (number ≡ 2) → ¬ (number ≡ 3) → ¬ (number ≡ 4) → ¬ (number ≡ 5) → ¬ (number ≡ 6) → ¬ (number ≡ 7)
    → ¬ (number ≡ 8) → ¬ (number ≡ 9) → ¬ (number ≡ 10) → ¬ (number ≡ 11) → ¬ (number ≡ 12) → ¬ (number ≡ 13) → ¬ (number ≡ 14) → kernel_call number ≡ None
call_none number a b c d e f g h i j k l m n = elim (cases_lt number 15) [
  | inl below ↦ (let none : number ≡ 0 = omega (arith, a, b, c, d, e, f, g, h, i, j, k, l, m, n) in ap kernel_call none)
  | inr above ↦ no_call number above
]

pub made-none : {number : ℕ} {before after : Node} {turn turn' : model.Turn} {outcome : code.CallEnd}
    → HasDoneCall (λ node turn p. stop_outcome node turn p (NoCall number)) before after turn turn' outcome → number ≡ argument (model.process_at (node_model before) turn.pid) 7
    → kernel_call number ≡ None → HasDoneCall kernel before after turn turn' outcome
made-none {before = before} {turn = turn} made read none =
    let n = node_model before in
    let p = model.process_at n turn.pid in
    made-number (made-as made (ap (λ found. call_outcome found n turn p) none ∙ ap (λ number. stop_outcome n turn p (NoCall number)) (sym read))) read

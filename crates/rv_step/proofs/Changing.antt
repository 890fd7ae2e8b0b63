-- What a step changes of private memory.
use Rattle.std.proofs.Common.{◌≡◌, ℕ, ◌+◌, ◌-◌, ◌*◌, ◌%◌, ◌≤◌, ◌<◌, Bool, true, false, cond, List, ◌++◌, length, take, drop, Option, Some, None, Result, Ok, Err, refl, sym, ap, ◌∙◌, arith, inl, inr}
use Rattle.std.specs.Prelude.{ok_or, ◌==◌, ◌/◌}
use Rattle.std.specs.Int.{bytes_low_first}
use Rattle.std.proofs.lemmas.Bool.{eqb-true, leb-true, ltb-true, and_parts}
use Rattle.std.proofs.lemmas.List.{length-append, length-drop, length-take-le, take_at, drop-drop}
use Rattle.std.proofs.Math.Seq.{drop-append-add}
use Rattle.rv_model.specs.declared.inst.Inst.{Inst}
use Rattle.rv_model.specs.declared.inst.Inst.TheVariants.{Lui, Auipc, Jal, Jalr, Branch, Load, Store, OpImm, Op, Fence, Ecall, Ebreak}
use Rattle.rv_model.specs.declared.inst.StoreOp.{StoreOp}
use Rattle.rv_model.specs.declared.inst.StoreOp.TheVariants.{Sb, Sh, Sw}
use Rattle.rv_model.specs.declared.limits.TheConstants.{PRIVATE_START, PRIVATE_SIZE, PRIVATE_END}
use Rattle.rv_model.specs.declared.stop.Stop.{Stop}
use Rattle.rv_model.specs.declared.stop.Stop.TheVariants.{Illegal, Target, Misaligned, Unmapped}
use Rattle.rv_model.specs.LittleEndian.{with_number_at}
use Rattle.rv_model.specs.Exec.{◌>>=◌, IsAccessSize, step_outcome, effect_of, jump_outcome, is_taken, register_value, next_pc, offset_by, store_size, next_state, stop_state}
use Rattle.rv_model.specs.Private.{private_access, private_size, is_private}
use Rattle.rv_model.specs.Words.{instruction_of}
use Rattle.rv_step.specs.MemoryChange.{HasChangedAtMost, memory_left}
use Rattle.rv_model.proofs.PrivateSize.{private_size_lem}

-- nothing changed
stays : (m : List ℕ) → HasChangedAtMost 4 m m
stays m = record { first = 0; size = refl; before = refl; behind = refl }

length-low : (size n : ℕ) → IsAccessSize size → length (bytes_low_first 0 size n) ≡ size
length-low size n (inl e) = rw e refl
length-low size n (inr (inl e)) = rw e refl
length-low size n (inr (inr e)) = rw e refl

-- behind what was written, from any place past its end on
behind_written : (bytes low : List ℕ) (offset size more : ℕ) → length low ≡ size → offset ≤ length bytes
    → drop (offset + (size + more)) (take offset bytes ++ (low ++ drop (offset + size) bytes)) ≡ drop (offset + (size + more)) bytes
behind_written bytes low offset size more e le =
    let front : length (take offset bytes) ≡ offset = length-take-le offset bytes le in
    ap (λ (n : ℕ). drop (n + (size + more)) (take offset bytes ++ (low ++ drop (offset + size) bytes))) (sym front)
    ∙ drop-append-add (take offset bytes) (low ++ drop (offset + size) bytes) (size + more)
    ∙ ap (λ (n : ℕ). drop (n + more) (low ++ drop (offset + size) bytes)) (sym e)
    ∙ drop-append-add low (drop (offset + size) bytes) more
    ∙ drop-drop more (offset + size) bytes
    ∙ ap (λ (n : ℕ). drop n bytes) (omega arith)

written_changes : (bytes : List ℕ) (offset size more n : ℕ) → IsAccessSize size → size + more ≡ 4 → offset + size ≤ length bytes → HasChangedAtMost 4 bytes (with_number_at bytes offset size n)
unfolding with_number_at
written_changes bytes offset size more n sized four le =
    let low : length (bytes_low_first 0 size n) ≡ size = length-low size n sized in
    let front : length (take offset bytes) ≡ offset = length-take-le offset bytes (omega arith) in
    record {
      first = offset;
      size = omega (arith, low, front, length-append (take offset bytes) (bytes_low_first 0 size n ++ drop (offset + size) bytes), length-append (bytes_low_first 0 size n) (drop (offset + size) bytes), length-drop (offset + size) bytes);
      before = take_at (take offset bytes) (bytes_low_first 0 size n ++ drop (offset + size) bytes) offset front;
      behind =
          ap (λ (k : ℕ). drop (offset + k) (take offset bytes ++ (bytes_low_first 0 size n ++ drop (offset + size) bytes))) (sym four)
          ∙ behind_written bytes (bytes_low_first 0 size n) offset size more low (omega arith)
          ∙ ap (λ (k : ℕ). drop (offset + k) bytes) four;
    }

-- ---- a store

-- an aligned private address leaves room for the size
room : (a size : ℕ) → IsAccessSize size → a % size ≡ 0 → PRIVATE_START ≤ a → a < PRIVATE_END → a - PRIVATE_START + size ≤ PRIVATE_SIZE
room a size (inl e) h low high = omega arith
room a size (inr (inl e)) h low high = let h2 : a % 2 ≡ 0 = rw (← e) h in omega arith
room a size (inr (inr e)) h low high = let h4 : a % 4 ≡ 0 = rw (← e) h in omega arith

rest_of : (size : ℕ) → IsAccessSize size → (more : ℕ) × (size + more ≡ 4)
rest_of size (inl e) = (3, omega arith)
rest_of size (inr (inl e)) = (2, omega arith)
rest_of size (inr (inr e)) = (0, omega arith)

store_by : (bytes x : List ℕ) (a pc size n : ℕ) (aligned private : Bool) → IsAccessSize size → length bytes ≡ private_size → (a % size == 0) ≡ aligned → is_private a ≡ private
    → HasChangedAtMost 4 bytes (memory_left bytes (cond aligned (cond private (Ok (with_number_at bytes (a - PRIVATE_START) size n)) (Err (Unmapped a))) (Err (Misaligned a)) >>= λ left. next_state x pc left))
store_by bytes x a pc size n false private sized len e p = stays bytes
store_by bytes x a pc size n true false sized len e p = stays bytes
store_by bytes x a pc size n true true sized len e p =
    let more = rest_of size sized in
    let parts = and_parts _ _ p in
    let place = room a size sized (eqb-true _ _ e) (leb-true _ _ parts.0) (ltb-true _ _ parts.1) in
    written_changes bytes (a - PRIVATE_START) size more.0 n sized more.1 (omega (arith, place, len, private_size_lem))

store_changes : (bytes x : List ℕ) (a pc size n : ℕ) → IsAccessSize size → length bytes ≡ private_size
    → HasChangedAtMost 4 bytes (memory_left bytes (private_access.store bytes a size n >>= λ left. next_state x pc left))
store_changes bytes x a pc size n sized len = store_by bytes x a pc size n (a % size == 0) (is_private a) sized len refl refl

sized : (op : StoreOp) → IsAccessSize (store_size op)
sized Sb = inl refl
sized Sh = inr (inl refl)
sized Sw = inr (inr refl)

-- ---- the others

jump_by : (bytes x : List ℕ) (pc target : ℕ) (aligned : Bool) → HasChangedAtMost 4 bytes (memory_left bytes (cond aligned (next_state x target bytes) (stop_state (Target pc))))
jump_by bytes x pc target true = stays bytes
jump_by bytes x pc target false = stays bytes

branch_by : (bytes x : List ℕ) (pc target next : ℕ) (taken : Bool) → HasChangedAtMost 4 bytes (memory_left bytes (cond taken (jump_outcome pc target x bytes) (next_state x next bytes)))
branch_by bytes x pc target next true = jump_by bytes x pc target (target % 4 == 0)
branch_by bytes x pc target next false = stays bytes

load_by : (bytes : List ℕ) (pc : ℕ) (registers : ℕ → List ℕ) (loaded : Result ℕ Stop) → HasChangedAtMost 4 bytes (memory_left bytes (loaded >>= λ n. next_state (registers n) pc bytes))
load_by bytes pc registers (Ok n) = stays bytes
load_by bytes pc registers (Err cause) = stays bytes

performed_changes : (inst : Inst) (x bytes : List ℕ) (pc : ℕ) → length bytes ≡ private_size → HasChangedAtMost 4 bytes (memory_left bytes (effect_of private_access inst x pc bytes))
unfolding effect_of
performed_changes (Lui rd imm) x bytes pc len = stays bytes
performed_changes (Auipc rd imm) x bytes pc len = stays bytes
performed_changes (Jal rd offset) x bytes pc len = jump_by bytes _ pc (offset_by pc offset) (offset_by pc offset % 4 == 0)
performed_changes (Jalr rd rs1 imm) x bytes pc len = jump_by bytes _ pc _ (offset_by (register_value x rs1) imm / 2 * 2 % 4 == 0)
performed_changes (Branch op rs1 rs2 offset) x bytes pc len = branch_by bytes x pc (offset_by pc offset) (next_pc pc) (is_taken op (register_value x rs1) (register_value x rs2))
performed_changes (Load op rd rs1 imm) x bytes pc len = load_by bytes (next_pc pc) _ _
performed_changes (Store op rs1 rs2 imm) x bytes pc len = store_changes bytes x (offset_by (register_value x rs1) imm) (next_pc pc) (store_size op) _ (sized op) len
performed_changes (OpImm op rd rs1 imm) x bytes pc len = stays bytes
performed_changes (Op op rd rs1 rs2) x bytes pc len = stays bytes
performed_changes (Fence word) x bytes pc len = stays bytes
performed_changes Ecall x bytes pc len = stays bytes
performed_changes Ebreak x bytes pc len = stays bytes

decoded_by : (found : Option Inst) (x bytes : List ℕ) (pc word : ℕ) → length bytes ≡ private_size
    → HasChangedAtMost 4 bytes (memory_left bytes (ok_or found (Illegal pc word) >>= λ inst. effect_of private_access inst x pc bytes))
decoded_by None x bytes pc word len = stays bytes
decoded_by (Some inst) x bytes pc word len = performed_changes inst x bytes pc len

fetched_by : (fetched : Result ℕ Stop) (x bytes : List ℕ) (pc : ℕ) → length bytes ≡ private_size
    → HasChangedAtMost 4 bytes (memory_left bytes (fetched >>= λ word. ok_or (instruction_of word) (Illegal pc word) >>= λ inst. effect_of private_access inst x pc bytes))
fetched_by (Err cause) x bytes pc len = stays bytes
fetched_by (Ok word) x bytes pc len = decoded_by (instruction_of word) x bytes pc word len

pub step_outcome_changes : (x bytes : List ℕ) (pc : ℕ) → length bytes ≡ private_size → HasChangedAtMost 4 bytes (memory_left bytes (step_outcome private_access x pc bytes))
unfolding step_outcome
step_outcome_changes x bytes pc len = fetched_by (private_access.fetch bytes pc) x bytes pc len

-- An instruction leaves as many registers as there were, and the blocks at their windows.
use Rattle.std.proofs.Common.{◌≡◌, ℕ, ◌%◌, ◌/◌, ◌*◌, ◌^◌, ◌==◌, List, length, slice_set, Result, Ok, Err, ok_or, IfOk, refl, length-set}
use Rattle.std.specs.Int.{w32, cast_unsigned}
use Rattle.std.proofs.lemmas.Bool.{cond_both}
use Rattle.rv_model.specs.declared.stop.Stop.{Stop}
use Rattle.rv_model.specs.declared.stop.Stop.TheVariants.{Illegal, Target}
use Rattle.rv_model.specs.declared.inst.Inst.{Inst}
use Rattle.rv_model.specs.declared.inst.Inst.TheVariants.{Lui, Auipc, Jal, Jalr, Branch, Load, Store, OpImm, Op, Fence, Ecall, Ebreak}
use Rattle.rv_model.specs.Words.{instruction_of}
use Rattle.rv_model.specs.Word.{wrapping_sum}
use Rattle.rv_model.specs.Private.{word_at_pc}
use Rattle.rv_model.specs.Exec.{Outcome, next_state, call_state, stop_state, ◌>>=◌, register_value, with_register, is_taken, immediate_result, register_result, load_size, store_size, loaded_number, next_pc, offset_by, jump_outcome, effect_of, step_outcome}
use Rattle.ce_model.specs.Space.{Space, load_result, store_result, process_access}
use Rattle.ce_solo.proofs.Windows.{IsSameHeld, same_held, stored-held}

-- what an instruction leads to
abbrev pub IsLed : List ℕ → Space → Outcome Space → Type 0
IsLed x space (next_state x' pc space') = (length x' ≡ length x) × IsSameHeld space space'
IsLed x space (call_state x' pc space') = (length x' ≡ length x) × IsSameHeld space space'
IsLed x space (stop_state cause) = Unit {0}

bind_led : {X : Type 0} (x : List ℕ) (space : Space) (r : Result X Stop) (f : X → Outcome Space) (P : X → Type 0)
    → IfOk r P → ((y : X) → P y → IsLed x space (f y)) → IsLed x space (r >>= f)
bind_led x space (Ok y) f P p led = led y p
bind_led x space (Err cause) f P p led = tt

pub any_ok : {X : Type 0} (r : Result X Stop) → IfOk r (λ x. Unit {0})
any_ok (Ok x) = tt
any_ok (Err cause) = tt

length-with_reg : (x : List ℕ) (rd value : ℕ) → length (with_register x rd value) ≡ length x
length-with_reg x rd value = cond_both (rd == 0) x (slice_set x rd value) (λ y. length y ≡ length x) (λ t. refl) (λ f. length-set x rd value)

jumped-led : (x y : List ℕ) (space : Space) (pc target : ℕ) → length y ≡ length x → IsLed x space (jump_outcome pc target y space)
jumped-led x y space pc target long =
    cond_both (target % 4 == 0) (next_state y target space) (stop_state (Target pc)) (IsLed x space) (λ t. (long, same_held space)) (λ f. tt)

performed-led : (inst : Inst) (x : List ℕ) (pc : ℕ) (space : Space) → IsLed x space (effect_of process_access inst x pc space)
unfolding effect_of
performed-led (Lui rd imm) x pc space = (length-with_reg x rd imm, same_held space)
performed-led (Auipc rd imm) x pc space = (length-with_reg x rd (wrapping_sum pc imm), same_held space)
performed-led (Jal rd offset) x pc space = jumped-led x (with_register x rd (next_pc pc)) space pc (offset_by pc offset) (length-with_reg x rd (next_pc pc))
performed-led (Jalr rd rs1 imm) x pc space =
    jumped-led x (with_register x rd (next_pc pc)) space pc (offset_by (register_value x rs1) imm / 2 * 2) (length-with_reg x rd (next_pc pc))
performed-led (Branch op rs1 rs2 offset) x pc space =
    cond_both (is_taken op (register_value x rs1) (register_value x rs2)) (jump_outcome pc (offset_by pc offset) x space) (next_state x (next_pc pc) space) (IsLed x space)
    (λ t. jumped-led x x space pc (offset_by pc offset) refl) (λ f. (refl, same_held space))
performed-led (Load op rd rs1 imm) x pc space =
    bind_led x space (load_result space (offset_by (register_value x rs1) imm) (load_size op)) (λ n. next_state (with_register x rd (loaded_number op n)) (next_pc pc) space)
    (λ n. Unit {0}) (any_ok (load_result space (offset_by (register_value x rs1) imm) (load_size op))) (λ n p. (length-with_reg x rd (loaded_number op n), same_held space))
performed-led (Store op rs1 rs2 imm) x pc space =
    bind_led x space (store_result space (offset_by (register_value x rs1) imm) (store_size op) (register_value x rs2 % 256 ^ store_size op)) (λ left. next_state x (next_pc pc) left)
    (IsSameHeld space) (stored-held space (offset_by (register_value x rs1) imm) (store_size op) (register_value x rs2 % 256 ^ store_size op)) (λ left held. (refl, held))
performed-led (OpImm op rd rs1 imm) x pc space =
    (length-with_reg x rd (immediate_result op (register_value x rs1) (cast_unsigned w32 imm)), same_held space)
performed-led (Op op rd rs1 rs2) x pc space = (length-with_reg x rd (register_result op (register_value x rs1) (register_value x rs2)), same_held space)
performed-led (Fence word) x pc space = (refl, same_held space)
performed-led Ecall x pc space = (refl, same_held space)
performed-led Ebreak x pc space = tt

pub step_outcome-led : (x : List ℕ) (pc : ℕ) (space : Space) → IsLed x space (step_outcome process_access x pc space)
unfolding step_outcome
step_outcome-led x pc space =
    bind_led x space (word_at_pc space.private pc) (λ word. ok_or (instruction_of word) (Illegal pc word) >>= (λ inst. effect_of process_access inst x pc space))
    (λ word. Unit {0}) (any_ok (word_at_pc space.private pc))
    (λ word p. bind_led x space (ok_or (instruction_of word) (Illegal pc word)) (λ inst. effect_of process_access inst x pc space)
    (λ inst. Unit {0}) (any_ok (ok_or (instruction_of word) (Illegal pc word))) (λ inst q. performed-led inst x pc space))

-- What an instruction does, on memories that answer alike.
use Rattle.std.proofs.Common.{◌≡◌, ℕ, ◌*◌, ◌/◌, ◌%◌, ◌^◌, ◌==◌, List, Result, Ok, Err, IfOk, ok_or, refl, ap, sym, subst}
use Rattle.rv_model.specs.declared.stop.Stop.{Stop}
use Rattle.rv_model.specs.declared.stop.Stop.TheVariants.{Illegal}
use Rattle.rv_model.specs.declared.inst.Inst.{Inst}
use Rattle.rv_model.specs.declared.inst.Inst.TheVariants.{Lui, Auipc, Jal, Jalr, Branch, Load, Store, OpImm, Op, Fence, Ecall, Ebreak}
use Rattle.rv_model.specs.Words.{instruction_of}
use Rattle.rv_model.specs.Exec.{Access, Outcome, next_state, call_state, stop_state, ◌>>=◌, register_value, with_register, is_taken, load_size, store_size, loaded_number, next_pc, offset_by, jump_outcome, effect_of, step_outcome}
use Rattle.ce_model.specs.Space.{result_map}
use Rattle.ce_solo.proofs.Renaming.Lists.{if_both}

-- a map of memories and a property of them under which a memory's answers are alike
pub record IsAlike {M : Type 0} (A : Access M) (g : M → M) (Q : M → Type 0) : Type 0 where
  pub fetched : (m : M) (pc : ℕ) → A.fetch (g m) pc ≡ A.fetch m pc
  pub loaded : (m : M) (a size : ℕ) → A.load (g m) a size ≡ A.load m a size
  pub stored : (m : M) (a size n : ℕ) → A.store (g m) a size n ≡ result_map g (A.store m a size n)
  pub kept : (m : M) (a size n : ℕ) → Q m → IfOk (A.store m a size n) Q

module _ {M : Type 0} (A : Access M) (g : M → M) (Q : M → Type 0) (alike : IsAlike A g Q) where
  abbrev pub outcome_with : Outcome M → Outcome M
  outcome_with (next_state x pc m) = next_state x pc (g m)
  outcome_with (call_state x pc m) = call_state x pc (g m)
  outcome_with (stop_state cause) = stop_state cause

  -- the memory that an instruction left has the property
  abbrev pub IsLeft : Outcome M → Type 0
  IsLeft (next_state x pc m) = Q m
  IsLeft (call_state x pc m) = Q m
  IsLeft (stop_state cause) = Unit {0}

  -- the one outcome is the other on the other memory
  pub record AreAlike (there here : Outcome M) : Type 0 where
    pub same : there ≡ outcome_with here
    pub left : IsLeft here

  bound-alike : {X : Type 0} (r' r : Result X Stop) (there here : X → Outcome M) → r' ≡ r → ((x : X) → AreAlike (there x) (here x))
      → AreAlike (r' >>= there) (r >>= here)
  bound-alike r' (Ok x) there here same each = subst (λ r. AreAlike (r >>= there) (here x)) (sym same) (each x)
  bound-alike r' (Err cause) there here same each = record { same = ap (λ r. r >>= there) same; left = tt }

  jumped-alike : (pc target : ℕ) (x : List ℕ) (m : M) → Q m → AreAlike (jump_outcome pc target x (g m)) (jump_outcome pc target x m)
  jumped-alike pc target x m q = if_both AreAlike (target % 4 == 0) _ _ _ _ (record { same = refl; left = q }) (record { same = refl; left = tt })

  stored_alike : (r' r : Result M Stop) (x : List ℕ) (pc : ℕ) → r' ≡ result_map g r → IfOk r Q → AreAlike (r' >>= next_state x pc) (r >>= next_state x pc)
  stored_alike r' (Ok m) x pc same q = record { same = ap (λ r. r >>= next_state x pc) same; left = q }
  stored_alike r' (Err cause) x pc same q = record { same = ap (λ r. r >>= next_state x pc) same; left = tt }

  performed-alike : (inst : Inst) (x : List ℕ) (pc : ℕ) (m : M) → Q m → AreAlike (effect_of A inst x pc (g m)) (effect_of A inst x pc m)
  unfolding effect_of
  performed-alike (Lui rd imm) x pc m q = record { same = refl; left = q }
  performed-alike (Auipc rd imm) x pc m q = record { same = refl; left = q }
  performed-alike (Jal rd offset) x pc m q = jumped-alike pc (offset_by pc offset) (with_register x rd (next_pc pc)) m q
  performed-alike (Jalr rd rs1 imm) x pc m q = jumped-alike pc (offset_by (register_value x rs1) imm / 2 * 2) (with_register x rd (next_pc pc)) m q
  performed-alike (Branch op rs1 rs2 offset) x pc m q =
      if_both AreAlike (is_taken op (register_value x rs1) (register_value x rs2)) _ _ _ _ (jumped-alike pc (offset_by pc offset) x m q) (record { same = refl; left = q })
  performed-alike (Load op rd rs1 imm) x pc m q =
      bound-alike _ (A.load m (offset_by (register_value x rs1) imm) (load_size op))
      (λ n. next_state (with_register x rd (loaded_number op n)) (next_pc pc) (g m)) (λ n. next_state (with_register x rd (loaded_number op n)) (next_pc pc) m)
      (alike.loaded m (offset_by (register_value x rs1) imm) (load_size op))
      (λ n. record { same = refl; left = q })
  performed-alike (Store op rs1 rs2 imm) x pc m q =
      stored_alike _ _ x (next_pc pc)
      (alike.stored m (offset_by (register_value x rs1) imm) (store_size op) (register_value x rs2 % 256 ^ store_size op))
      (alike.kept m (offset_by (register_value x rs1) imm) (store_size op) (register_value x rs2 % 256 ^ store_size op) q)
  performed-alike (OpImm op rd rs1 imm) x pc m q = record { same = refl; left = q }
  performed-alike (Op op rd rs1 rs2) x pc m q = record { same = refl; left = q }
  performed-alike (Fence word) x pc m q = record { same = refl; left = q }
  performed-alike Ecall x pc m q = record { same = refl; left = q }
  performed-alike Ebreak x pc m q = record { same = refl; left = tt }

  pub step_outcome-alike : (x : List ℕ) (pc : ℕ) (m : M) → Q m → AreAlike (step_outcome A x pc (g m)) (step_outcome A x pc m)
  unfolding step_outcome
  step_outcome-alike x pc m q =
      bound-alike (A.fetch (g m) pc) (A.fetch m pc)
      (λ word. ok_or (instruction_of word) (Illegal pc word) >>= λ inst. effect_of A inst x pc (g m))
      (λ word. ok_or (instruction_of word) (Illegal pc word) >>= λ inst. effect_of A inst x pc m)
      (alike.fetched m pc)
      (λ word.
      bound-alike (ok_or (instruction_of word) (Illegal pc word)) (ok_or (instruction_of word) (Illegal pc word))
      (λ inst. effect_of A inst x pc (g m)) (λ inst. effect_of A inst x pc m) refl
      (λ inst. performed-alike inst x pc m q))

-- The faults of labels, as the tests tell them.
use Rattle.std.proofs.Common.{◌≡◌, ℕ, zero, suc, ◌+◌, ◌<◌, Bool, true, false, cond, not, List, [], ◌∷◌, ◌++◌, take, Option, Some, None, Result, Ok, Err, refl, sym, ap, subst, ◌∙◌, arith}
use Rattle.std.specs.Prelude.{ℤ, pos, ◌-ℤ◌, sum_by, slice_get}
use Rattle.std.proofs.lemmas.List.Sums.{sum_by-cons}
use Rattle.std.specs.Result.{result_err}
use Rattle.rv_model.specs.declared.limits.TheConstants.{BRANCH_REACH, JUMP_REACH}
use Rattle.rv_asm.specs.declared.fault.AsmKind.{AsmKind}
use Rattle.rv_asm.specs.declared.fault.AsmKind.TheVariants.{UnknownName, TooFar}
use Rattle.rv_asm.specs.declared.symbols.Symbol.{Symbol}
use Rattle.rv_asm.specs.declared.symbols.Symbol.TheVariants.{Label, Number}
use Rattle.rv_asm.specs.declared.fault.AsmFault.{AsmFault}
use Rattle.rv_asm.specs.declared.statement.PlacedStatement.{PlacedStatement}
use Rattle.rv_asm.specs.declared.statement.Statement.{Statement}
use Rattle.rv_asm.specs.declared.statement.Statement.TheVariants as statements
use Rattle.rv_asm.specs.Faults.{◌>>=◌, refusal}
use Rattle.rv_asm.specs.Names.{Names}
use Rattle.rv_asm.specs.Sizes.{size_of}
use Rattle.rv_asm.specs.FirstPass.{judgment_at_line}
use Rattle.rv_asm.specs.SecondPass.{Part, is_reached, address_judgment, address_of, offset_to, parts_of, second_pass}
use Rattle.rv_asm_laws.specs.LabelFaults.{is_no_label, is_far, label_fault, numbered_label_fault, IsFirstLabelFault, HasLabels}

plain_label : {A : Type 0} (meant : Option Symbol) (make : ℕ → A) → result_err (address_judgment meant >>= λ target. Ok (make target)) ≡ cond (is_no_label meant) (Some UnknownName) None
plain_label None make = refl
plain_label (Some (Label address)) make = refl
plain_label (Some (Number n)) make = refl

reached_by : {A : Type 0} (reached : Bool) (offset : ℤ) (make : ℤ → A) → result_err ((refusal (not reached) TooFar >>= λ near. Ok offset) >>= λ it. Ok (make it)) ≡ cond (not reached) (Some TooFar) None
reached_by true offset make = refl
reached_by false offset make = refl

far_label : {A : Type 0} (reach address : ℕ) (meant : Option Symbol) (make : ℤ → A)
    → result_err (address_judgment meant >>= λ target. offset_to reach address target >>= λ it. Ok (make it)) ≡ cond (is_no_label meant) (Some UnknownName) (cond (is_far reach address meant) (Some TooFar) None)
unfolding offset_to
far_label reach address None make = refl
far_label reach address (Some (Number n)) make = refl
far_label reach address (Some (Label target)) make = reached_by (is_reached reach (pos target -ℤ pos address)) (pos target -ℤ pos address) make

pub labels_judged : (names : Names) (address : ℕ) (statement : Statement) → result_err (parts_of names address statement) ≡ label_fault names address statement
unfolding parts_of address_of
labels_judged names address (statements.Inst inst) = refl
labels_judged names address (statements.Jal rd label) = far_label JUMP_REACH address (names label) _
labels_judged names address (statements.Branch op rs1 rs2 label) = far_label BRANCH_REACH address (names label) _
labels_judged names address (statements.La rd label) = plain_label (names label) _
labels_judged names address (statements.Word word) = refl
labels_judged names address (statements.Address label) = plain_label (names label) _
labels_judged names address (statements.Byte byte) = refl
labels_judged names address (statements.Zero count) = refl

-- ---- the first one

-- the same statement, behind one more
behind : (names : Names) (address : ℕ) (first : PlacedStatement) (others : List PlacedStatement) (i : ℕ) (it : PlacedStatement) → numbered_label_fault names address (first ∷ others) (suc i) it ≡ numbered_label_fault names (address + size_of first.statement) others i it
behind names address first others i it =
    let split : sum_by (λ (one : PlacedStatement). size_of one.statement) (first ∷ take i others) ≡ size_of first.statement + sum_by (λ (one : PlacedStatement). size_of one.statement) (take i others) = sum_by-cons (λ (one : PlacedStatement). size_of one.statement) first (take i others) in
    let same : address + sum_by (λ (one : PlacedStatement). size_of one.statement) (first ∷ take i others) ≡ address + size_of first.statement + sum_by (λ (one : PlacedStatement). size_of one.statement) (take i others) = omega (arith, split) in
    ap (λ (n : ℕ). label_fault names n it.statement) same

alone : (names : Names) (address : ℕ) (first : PlacedStatement) (others : List PlacedStatement) → numbered_label_fault names address (first ∷ others) 0 first ≡ label_fault names address first.statement
alone names address first others = ap (λ (n : ℕ). label_fault names n first.statement) (omega arith)

the_first : (first it : PlacedStatement) → Some first ≡ Some it → first ≡ it
the_first first it e = ap (λ (found : Option PlacedStatement). elim found as (λ _. PlacedStatement) [ None ↦ first | Some one ↦ one ]) e

none_before : (names : Names) (address : ℕ) (first : PlacedStatement) (others : List PlacedStatement) (place : ℕ) → label_fault names address first.statement ≡ None
    → ((i : ℕ) (other : PlacedStatement) → i < place → slice_get others i ≡ Some other → numbered_label_fault names (address + size_of first.statement) others i other ≡ None)
    → (i : ℕ) (other : PlacedStatement) → i < suc place → slice_get (first ∷ others) i ≡ Some other → numbered_label_fault names address (first ∷ others) i other ≡ None
none_before names address first others place none h zero other lt e =
    subst (λ (it : PlacedStatement). numbered_label_fault names address (first ∷ others) 0 it ≡ None) (the_first first other e) (alone names address first others ∙ none)
none_before names address first others place none h (suc i) other lt e = behind names address first others i other ∙ h i other (omega arith) e

fault_in : AsmFault → Result (List Part) AsmFault → AsmFault
fault_in other (Ok parts) = other
fault_in other (Err fault) = fault

first_by : (names : Names) (address : ℕ) (first : PlacedStatement) (others : List PlacedStatement) (fault : AsmFault) (r : Result (List Part) AsmKind) → parts_of names address first.statement ≡ r
    → (second_pass names (address + size_of first.statement) others ≡ Err fault → IsFirstLabelFault names (address + size_of first.statement) others fault)
    → (rest : Result (List Part) AsmFault) → second_pass names (address + size_of first.statement) others ≡ rest
    → (judgment_at_line first.line r >>= λ here. rest >>= λ there. Ok (here ++ there)) ≡ Err fault → IsFirstLabelFault names address (first ∷ others) fault
unfolding fault_in
first_by names address first others fault (Err kind) e inner rest f h =
    let same : record { line = first.line; kind = kind } ≡ fault = ap (fault_in fault) h in
    record {
      place = 0;
      it = first;
      here = refl;
      line = sym (ap (λ (one : AsmFault). one.line) same);
      kind = alone names address first others ∙ sym (labels_judged names address first.statement) ∙ ap result_err e ∙ ap (λ (one : AsmFault). Some one.kind) same;
      before = λ i other lt. absurd (omega arith);
    }
first_by names address first others fault (Ok parts) e inner (Ok there) f h = absurd cc
first_by names address first others fault (Ok parts) e inner (Err other) f h =
    let same : other ≡ fault = ap (fault_in fault) h in
    let rest = inner (f ∙ ap (λ (one : AsmFault). Err one) same) in
    record {
      place = suc rest.place;
      it = rest.it;
      here = rest.here;
      line = rest.line;
      kind = behind names address first others rest.place rest.it ∙ rest.kind;
      before = none_before names address first others rest.place (sym (labels_judged names address first.statement) ∙ ap result_err e) rest.before;
    }

pub first_label_fault : (names : Names) (address : ℕ) (placed : List PlacedStatement) (fault : AsmFault) → second_pass names address placed ≡ Err fault → IsFirstLabelFault names address placed fault
unfolding second_pass
first_label_fault names address [] fault h = absurd cc
first_label_fault names address (first ∷ others) fault h =
    first_by names address first others fault (parts_of names address first.statement) refl (first_label_fault names (address + size_of first.statement) others fault) (second_pass names (address + size_of first.statement) others) refl h

none_by : (names : Names) (address : ℕ) (first : PlacedStatement) (others : List PlacedStatement) (parts : List Part) (r : Result (List Part) AsmKind) → parts_of names address first.statement ≡ r
    → ((those : List Part) → second_pass names (address + size_of first.statement) others ≡ Ok those → HasLabels names (address + size_of first.statement) others)
    → (rest : Result (List Part) AsmFault) → second_pass names (address + size_of first.statement) others ≡ rest
    → (judgment_at_line first.line r >>= λ here. rest >>= λ there. Ok (here ++ there)) ≡ Ok parts → HasLabels names address (first ∷ others)
none_by names address first others parts (Err kind) e inner rest f h = absurd cc
none_by names address first others parts (Ok here) e inner (Err other) f h = absurd cc
none_by names address first others parts (Ok here) e inner (Ok there) f h =
    λ i it found. none_before names address first others i (sym (labels_judged names address first.statement) ∙ ap result_err e) (λ k other lt. inner there f k other) i it (omega arith) found

pub labels_there : (names : Names) (address : ℕ) (placed : List PlacedStatement) (parts : List Part) → second_pass names address placed ≡ Ok parts → HasLabels names address placed
unfolding second_pass
labels_there names address [] parts h = λ i it found. absurd cc
labels_there names address (first ∷ others) parts h =
    none_by names address first others parts (parts_of names address first.statement) refl (labels_there names (address + size_of first.statement) others) (second_pass names (address + size_of first.statement) others) refl h

-- The first fault of lines.
use Rattle.std.proofs.Common.{◌≡◌, ℕ, zero, suc, ◌+◌, ◌<◌, List, [], ◌∷◌, length, get_or, take, Result, Ok, Err, refl, sym, ap, ◌∙◌, subst, arith}
use Rattle.std.specs.Prelude.{IsOk}
use Rattle.std.proofs.lemmas.List.{take_all}
use Rattle.std.proofs.lemmas.Result.{IfOk-at_ok, IfErr-at_err}
use Rattle.rv_asm.specs.declared.fault.AsmKind.{AsmKind}
use Rattle.rv_asm.specs.declared.fault.AsmFault.{AsmFault}
use Rattle.rv_asm.specs.Faults.{◌>>=◌}
use Rattle.ce_text.specs.Line.{line_texts}
use Rattle.rv_asm.specs.FirstPass.{LayoutSoFar, empty_layout, layout_with_line, judgment_at_line, layout_with_lines, first_pass}
use Rattle.rv_asm_laws.specs.Before.{layout_behind_line, layout_of_lines, layout_before, layout_judgment, IsFirstFault, AreLaid}

-- the judgment of a line of those behind so many, once this is laid
abbrev judged_at : ℕ → LayoutSoFar → List (List ℕ) → ℕ → Result LayoutSoFar AsmKind
judged_at before layout these i = layout_with_line (before + i + 1) (layout_of_lines before layout (take i these)) (get_or these i [])

-- the same, behind one more line
judged_behind : (before : ℕ) (layout next : LayoutSoFar) (line : List ℕ) (these : List (List ℕ)) (i : ℕ) → layout_with_line (before + 1) layout line ≡ Ok next
    → judged_at before layout (line ∷ these) (suc i) ≡ judged_at (before + 1) next these i
unfolding layout_of_lines
judged_behind before layout next line these i e =
    ap (λ (r : Result LayoutSoFar AsmKind). layout_with_line (before + suc i + 1) (layout_of_lines (before + 1) (layout_behind_line layout r) (take i these)) (get_or these i [])) e
    ∙ ap (λ (n : ℕ). layout_with_line n (layout_of_lines (before + 1) next (take i these)) (get_or these i [])) (omega arith)

judged_first : (before : ℕ) (layout : LayoutSoFar) (line : List ℕ) (these : List (List ℕ)) → judged_at before layout (line ∷ these) 0 ≡ layout_with_line (before + 1) layout line
unfolding layout_of_lines
judged_first before layout line these = ap (λ (n : ℕ). layout_with_line n layout line) (omega arith)

record IsFirst (before : ℕ) (layout : LayoutSoFar) (these : List (List ℕ)) (fault : AsmFault) : Type 0 where
  place : ℕ
  number : fault.line ≡ before + place + 1
  within : place < length these
  here : judged_at before layout these place ≡ Err fault.kind
  earlier : (i : ℕ) → i < place → IsOk (judged_at before layout these i)

ok_from : (r : Result LayoutSoFar AsmKind) (next : LayoutSoFar) → r ≡ Ok next → IsOk r
ok_from r next e = subst (λ (q : Result LayoutSoFar AsmKind). IsOk q) (sym e) refl

earlier_by : (before : ℕ) (layout next : LayoutSoFar) (line : List ℕ) (these : List (List ℕ)) (place : ℕ) → layout_with_line (before + 1) layout line ≡ Ok next
    → ((i : ℕ) → i < place → IsOk (judged_at (before + 1) next these i)) → (i : ℕ) → i < suc place → IsOk (judged_at before layout (line ∷ these) i)
earlier_by before layout next line these place e h zero lt = ok_from _ next (judged_first before layout line these ∙ e)
earlier_by before layout next line these place e h (suc i) lt =
    subst (λ (q : Result LayoutSoFar AsmKind). IsOk q) (sym (judged_behind before layout next line these i e)) (h i (omega arith))

first_by : (before : ℕ) (layout : LayoutSoFar) (line : List ℕ) (these : List (List ℕ)) (fault : AsmFault) (r : Result LayoutSoFar AsmKind) → layout_with_line (before + 1) layout line ≡ r
    → ((next : LayoutSoFar) → layout_with_lines (before + 1) next these ≡ Err fault → IsFirst (before + 1) next these fault)
    → (judgment_at_line (before + 1) r >>= λ one. layout_with_lines (before + 1) one these) ≡ Err fault → IsFirst before layout (line ∷ these) fault
first_by before layout line these fault (Err kind) e others h =
    let same : record { line = before + 1; kind = kind } ≡ fault = IfErr-at_err (λ (other : AsmFault). record { line = before + 1; kind = kind } ≡ other) h refl in
    record {
      place = 0;
      number = ap (λ (f : AsmFault). f.line) (sym same) ∙ omega arith;
      within = omega arith;
      here = judged_first before layout line these ∙ e ∙ ap (λ (f : AsmFault). Err f.kind) same;
      earlier = λ i lt. absurd (omega arith);
    }
first_by before layout line these fault (Ok next) e others h =
    let rest = others next h in
    record {
      place = suc rest.place;
      number = omega (arith, rest.number);
      within = omega (arith, rest.within);
      here = judged_behind before layout next line these rest.place e ∙ rest.here;
      earlier = earlier_by before layout next line these rest.place e rest.earlier;
    }

is_first : (before : ℕ) (layout : LayoutSoFar) (these : List (List ℕ)) (fault : AsmFault) → layout_with_lines before layout these ≡ Err fault → IsFirst before layout these fault
unfolding layout_with_lines
is_first before layout [] fault h = absurd cc
is_first before layout (line ∷ these) fault h =
    first_by before layout line these fault (layout_with_line (before + 1) layout line) refl (λ next. is_first (before + 1) next these fault) h

judged_so : (these : List (List ℕ)) (i : ℕ) → judged_at 0 empty_layout these i ≡ layout_judgment these i
judged_so these i = ap (λ (n : ℕ). layout_with_line n (layout_before these i) (get_or these i [])) (omega arith)

pub first_fault_of : (text : List ℕ) (fault : AsmFault) → first_pass text ≡ Err fault → IsFirstFault (line_texts text) fault
unfolding first_pass
first_fault_of text fault h =
    let first = is_first 0 empty_layout (line_texts text) fault h in
    record {
      place = first.place;
      number = omega (arith, first.number);
      within = first.within;
      here = sym (judged_so (line_texts text) first.place) ∙ first.here;
      before = λ i lt. subst (λ (r : Result LayoutSoFar AsmKind). IsOk r) (judged_so (line_texts text) i) (first.earlier i lt);
    }

-- ---- no fault

record AreAll (before : ℕ) (layout : LayoutSoFar) (these : List (List ℕ)) (out : LayoutSoFar) : Type 0 where
  each : (i : ℕ) → i < length these → IsOk (judged_at before layout these i)
  last : layout_of_lines before layout these ≡ out

all_by : (before : ℕ) (layout : LayoutSoFar) (line : List ℕ) (these : List (List ℕ)) (out : LayoutSoFar) (r : Result LayoutSoFar AsmKind) → layout_with_line (before + 1) layout line ≡ r
    → ((next : LayoutSoFar) → layout_with_lines (before + 1) next these ≡ Ok out → AreAll (before + 1) next these out)
    → (judgment_at_line (before + 1) r >>= λ one. layout_with_lines (before + 1) one these) ≡ Ok out → AreAll before layout (line ∷ these) out
unfolding layout_of_lines
all_by before layout line these out (Err kind) e others h = absurd cc
all_by before layout line these out (Ok next) e others h =
    let rest = others next h in
    record {
      each = λ i lt. earlier_by before layout next line these (length these) e rest.each i (omega arith);
      last = ap (λ (r : Result LayoutSoFar AsmKind). layout_of_lines (before + 1) (layout_behind_line layout r) these) e ∙ rest.last;
    }

are_all : (before : ℕ) (layout : LayoutSoFar) (these : List (List ℕ)) (out : LayoutSoFar) → layout_with_lines before layout these ≡ Ok out → AreAll before layout these out
unfolding layout_with_lines layout_of_lines
are_all before layout [] out h = record { each = λ i lt. absurd (omega arith); last = IfOk-at_ok (λ (one : LayoutSoFar). layout ≡ one) h refl }
are_all before layout (line ∷ these) out h =
    all_by before layout line these out (layout_with_line (before + 1) layout line) refl (λ next. are_all (before + 1) next these out) h

pub are_laid : (text : List ℕ) (layout : LayoutSoFar) → first_pass text ≡ Ok layout → AreLaid (line_texts text) layout
unfolding first_pass
are_laid text layout h =
    let all = are_all 0 empty_layout (line_texts text) layout h in
    record {
      each = λ i lt. subst (λ (r : Result LayoutSoFar AsmKind). IsOk r) (judged_so (line_texts text) i) (all.each i lt);
      all = ap (layout_of_lines 0 empty_layout) (take_all (length (line_texts text)) (line_texts text) (omega arith)) ∙ all.last;
    }

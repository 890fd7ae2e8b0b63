-- What is laid out takes the sum of the sizes of its statements.
use Rattle.std.proofs.Common.{◌≡◌, ℕ, ◌+◌, List, [], ◌∷◌, take, Result, Ok, Err, refl, ap, arith}
use Rattle.std.proofs.lemmas.List.Sums.{sum_by-append}
use Rattle.rv_model.specs.declared.limits.TheConstants.{PRIVATE_START}
use Rattle.rv_asm.specs.declared.fault.AsmKind.{AsmKind}
use Rattle.rv_asm.specs.Sizes.{size_of, statements_size}
use Rattle.rv_asm.specs.FirstPass.{LayoutSoFar, empty_layout, layout_with_line}
use Rattle.rv_asm_laws.specs.Before.{layout_behind_line, layout_of_lines, layout_before}
use Rattle.rv_asm_laws.proofs.Leading.{HasLed, IsKept, line_led}

-- the size that is counted is the sum of the sizes
record IsSummed (layout : LayoutSoFar) : Type 0 where
  sum : layout.size ≡ statements_size layout.statements

abbrev IsSummedFrom : LayoutSoFar → LayoutSoFar → Type 0
IsSummedFrom layout next = IsSummed layout → IsSummed next

summed_kept : IsKept IsSummedFrom
summed_kept = record {
  same = λ layout h. h;
  further = λ first second third f g h. g (f h);
  placed = λ layout one h. record { sum = omega (arith, h.sum, sum_by-append (λ it. size_of it.statement) layout.statements (one ∷ [])) };
  numbered = λ layout name n free h. record { sum = h.sum };
}

line_sums : (number : ℕ) (layout : LayoutSoFar) (line : List ℕ) → HasLed (IsSummedFrom layout) (layout_with_line number layout line)
line_sums number layout line = line_led IsSummedFrom summed_kept (λ layout name address free h. record { sum = h.sum }) number layout line

or_summed : (layout : LayoutSoFar) (r : Result LayoutSoFar AsmKind) → IsSummed layout → HasLed (IsSummedFrom layout) r → IsSummed (layout_behind_line layout r)
or_summed layout (Ok next) h s = s.led next refl h
or_summed layout (Err kind) h s = h

by_summed : (before : ℕ) (layout : LayoutSoFar) (these : List (List ℕ)) → IsSummed layout → IsSummed (layout_of_lines before layout these)
unfolding layout_of_lines
by_summed before layout [] h = h
by_summed before layout (line ∷ these) h =
    by_summed (before + 1) (layout_behind_line layout (layout_with_line (before + 1) layout line)) these
    (or_summed layout (layout_with_line (before + 1) layout line) h (line_sums (before + 1) layout line))

before_summed : (these : List (List ℕ)) (i : ℕ) → IsSummed (layout_before these i)
before_summed these i = by_summed 0 empty_layout (take i these) (record { sum = refl })

pub address_behind : (these : List (List ℕ)) (i : ℕ) → PRIVATE_START + (layout_before these i).size ≡ PRIVATE_START + statements_size (layout_before these i).statements
address_behind these i = ap (λ (n : ℕ). PRIVATE_START + n) (before_summed these i).sum

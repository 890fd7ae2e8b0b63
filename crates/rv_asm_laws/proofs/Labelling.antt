-- The labels of the lines of a text.
use Rattle.std.proofs.Common.{◌≡◌, ℕ, zero, suc, ◌+◌, ◌<◌, Bool, true, false, cond, List, [], ◌∷◌, length, get_or, take, Option, Some, None, Result, Ok, Err, refl, sym, ap, ◌∙◌, subst, arith, inl, inr, ◌⊎◌}
use Rattle.std.specs.Prelude.{bytes_eq, is_some, codes, ℤ}
use Rattle.std.specs.Cmp.Lexicographic.{bytes_decides}
use Rattle.std.proofs.lemmas.Result.{IfOk-at_ok}
use Rattle.rv_model.specs.declared.limits.TheConstants.{PRIVATE_START}
use Rattle.rv_asm.specs.declared.fault.AsmKind.{AsmKind}
use Rattle.rv_asm.specs.declared.symbols.Symbol.{Symbol}
use Rattle.rv_asm.specs.declared.symbols.Symbol.TheVariants.{Label, Number}
use Rattle.rv_asm.specs.Faults.{◌>>=◌}
use Rattle.ce_text.specs.Line.{without_outer_blanks, line_texts}
use Rattle.rv_asm.specs.Names.{Names, is_taken}
use Rattle.rv_asm.specs.FirstPass.{LayoutSoFar, empty_layout, layout_with_name, layout_with_statement_text, layout_with_labelled_statement, layout_with_line, judgment_at_line, layout_with_lines, first_pass}
use Rattle.rv_asm.specs.Assembly.{label_or_start, entry_of}
use Rattle.rv_asm_laws.specs.Before.{label_part, label_of, layout_behind_line, layout_of_lines, layout_before}
use Rattle.rv_asm_laws.proofs.Leading.{HasLed, IsKept, led_here, led_next, led_then, led_further, led_at_line, define_led, statement_led, line_led}

-- ---- names that are defined stay so

-- each name that means something means the same afterwards
abbrev HasNamesOf : LayoutSoFar → LayoutSoFar → Type 0
HasNamesOf layout next = (name : List ℕ) (symbol : Symbol) → layout.names name ≡ Some symbol → next.names name ≡ Some symbol

named_by : (names : Names) (name : List ℕ) (symbol : Symbol) (other : List ℕ) (meant : Symbol) (same : Bool) → bytes_eq name other ≡ same → is_taken names name ≡ false → names other ≡ Some meant
    → cond same (Some symbol) (names other) ≡ Some meant
named_by names name symbol other meant true e free h =
    let taken : is_taken names name ≡ true = ap is_some (ap names ((bytes_decides name other).0 e) ∙ h) in
    absurd cc
named_by names name symbol other meant false e free h = h

names_kept : IsKept HasNamesOf
names_kept = record {
  same = λ layout name symbol h. h;
  further = λ first second third f g name symbol h. g name symbol (f name symbol h);
  placed = λ layout one name symbol h. h;
  numbered = λ layout name n free other meant h. named_by layout.names name (Number n) other meant (bytes_eq name other) refl free h;
}

line_keeps : (number : ℕ) (layout : LayoutSoFar) (line : List ℕ) → HasLed (HasNamesOf layout) (layout_with_line number layout line)
line_keeps number layout line =
    line_led HasNamesOf names_kept
    (λ layout name address free other meant h. named_by layout.names name (Label address) other meant (bytes_eq name other) refl free h) number layout line

-- ---- a label is defined by its line

abbrev HasLabel : List ℕ → ℕ → LayoutSoFar → Type 0
HasLabel name address layout = layout.names name ≡ Some (Label address)

same_bytes : (name : List ℕ) → bytes_eq name name ≡ true
same_bytes name = (bytes_decides name name).1 refl

named_so : (names : Names) (name : List ℕ) (address : ℕ) (same : Bool) → same ≡ true → cond same (Some (Label address)) (names name) ≡ Some (Label address)
named_so names name address same e = rw e refl

define_means : (layout : LayoutSoFar) (name : List ℕ) (address : ℕ) → HasLed (HasLabel name address) (layout_with_name layout name (Label address))
define_means layout name address =
    define_led (HasLabel name address) layout name (Label address) (λ free. named_so layout.names name address (bytes_eq name name) (same_bytes name))

labelled_means : (line : ℕ) (layout : LayoutSoFar) (front : List ℕ) (rest : Option (List ℕ)) (name : List ℕ) → label_part (front, rest) ≡ Some name
    → HasLed (HasLabel name (PRIVATE_START + layout.size)) (layout_with_labelled_statement line layout front rest)
labelled_means line layout front None name e = absurd cc
labelled_means line layout front (Some rest) name e =
    let same : without_outer_blanks front ≡ name = ap (λ (found : Option (List ℕ)). elim found as (λ _. List ℕ) [ None ↦ [] | Some x ↦ x ]) e in
    let P : LayoutSoFar → Type 0 = HasLabel (without_outer_blanks front) (PRIVATE_START + layout.size) in
    subst (λ (n : List ℕ). HasLed (HasLabel n (PRIVATE_START + layout.size)) (layout_with_labelled_statement line layout front (Some rest))) same
    (led_next P _ _ (λ named. led_then P P _ _ (define_means layout (without_outer_blanks front) (PRIVATE_START + layout.size))
    (λ one meant. record { led = λ next so. (statement_led HasNamesOf names_kept line one (without_outer_blanks rest)).led next so (without_outer_blanks front) (Label (PRIVATE_START + layout.size)) meant })))

line_means : (number : ℕ) (layout : LayoutSoFar) (line name : List ℕ) → label_of line ≡ Some name → HasLed (HasLabel name (PRIVATE_START + layout.size)) (layout_with_line number layout line)
unfolding layout_with_line label_of
line_means number layout line name e = search (led_next, labelled_means)

-- ---- all lines

lines_keep : (before : ℕ) (layout : LayoutSoFar) (these : List (List ℕ)) → HasLed (HasNamesOf layout) (layout_with_lines before layout these)
unfolding layout_with_lines
lines_keep before layout [] = led_here (HasNamesOf layout) layout (λ name symbol h. h)
lines_keep before layout (line ∷ these) =
    led_further HasNamesOf names_kept layout (judgment_at_line (before + 1) (layout_with_line (before + 1) layout line)) _
    (led_at_line (HasNamesOf layout) (before + 1) _ (line_keeps (before + 1) layout line)) (λ one. lines_keep (before + 1) one these)

-- a line that is laid, in front of others
record IsFirstLaid (before : ℕ) (layout out : LayoutSoFar) (line : List ℕ) (these : List (List ℕ)) : Type 0 where
  next : LayoutSoFar
  here : layout_with_line (before + 1) layout line ≡ Ok next
  rest : layout_with_lines (before + 1) next these ≡ Ok out

first_by : (before : ℕ) (layout out : LayoutSoFar) (line : List ℕ) (these : List (List ℕ)) (r : Result LayoutSoFar AsmKind) → layout_with_line (before + 1) layout line ≡ r
    → (judgment_at_line (before + 1) r >>= λ one. layout_with_lines (before + 1) one these) ≡ Ok out → IsFirstLaid before layout out line these
first_by before layout out line these (Ok next) e h = record { next = next; here = e; rest = h }
first_by before layout out line these (Err kind) e h = absurd cc

first_laid : (before : ℕ) (layout out : LayoutSoFar) (line : List ℕ) (these : List (List ℕ)) → layout_with_lines before layout (line ∷ these) ≡ Ok out → IsFirstLaid before layout out line these
unfolding layout_with_lines
first_laid before layout out line these h = first_by before layout out line these (layout_with_line (before + 1) layout line) refl h

labels_meant : (before : ℕ) (layout out : LayoutSoFar) (these : List (List ℕ)) (i : ℕ) (name : List ℕ) → layout_with_lines before layout these ≡ Ok out → i < length these → label_of (get_or these i []) ≡ Some name
    → out.names name ≡ Some (Label (PRIVATE_START + (layout_of_lines before layout (take i these)).size))
unfolding layout_of_lines
labels_meant before layout out [] i name h lt e = absurd (omega arith)
labels_meant before layout out (line ∷ these) zero name h lt e =
    let first = first_laid before layout out line these h in
    let meant = (line_means (before + 1) layout line name e).led first.next first.here in
    (lines_keep (before + 1) first.next these).led out first.rest name _ meant
labels_meant before layout out (line ∷ these) (suc i) name h lt e =
    let first = first_laid before layout out line these h in
    labels_meant (before + 1) first.next out these i name first.rest (omega arith) e
    ∙ ap (λ (r : Result LayoutSoFar AsmKind). Some (Label (PRIVATE_START + (layout_of_lines (before + 1) (layout_behind_line layout r) (take i these)).size))) (sym first.here)

pub label_addresses : (text : List ℕ) (layout : LayoutSoFar) (i : ℕ) (name : List ℕ) → first_pass text ≡ Ok layout → i < length (line_texts text) → label_of (get_or (line_texts text) i []) ≡ Some name
    → layout.names name ≡ Some (Label (PRIVATE_START + (layout_before (line_texts text) i).size))
unfolding first_pass
label_addresses text layout i name h lt e = labels_meant 0 empty_layout layout (line_texts text) i name h lt e

-- ---- a label comes from its line

-- each label was there before
abbrev HasLabelsOf : LayoutSoFar → LayoutSoFar → Type 0
HasLabelsOf layout next = (name : List ℕ) (address : ℕ) → HasLabel name address next → HasLabel name address layout

number_by : (names : Names) (name other : List ℕ) (n : ℤ) (address : ℕ) (same : Bool) → cond same (Some (Number n)) (names other) ≡ Some (Label address) → names other ≡ Some (Label address)
number_by names name other n address true h = absurd cc
number_by names name other n address false h = h

labels_kept : IsKept HasLabelsOf
labels_kept = record {
  same = λ layout name address h. h;
  further = λ first second third f g name address h. f name address (g name address h);
  placed = λ layout one name address h. h;
  numbered = λ layout name n free other address h. number_by layout.names name other n address (bytes_eq name other) h;
}

-- each label was there before, or is the one that is defined
abbrev HasLabelsFrom : LayoutSoFar → Option (List ℕ) → LayoutSoFar → Type 0
HasLabelsFrom layout label next = (name : List ℕ) (address : ℕ) → HasLabel name address next
    → HasLabel name address layout ⊎ ((label ≡ Some name) × (address ≡ PRIVATE_START + layout.size))

address_in : Option Symbol → ℕ
address_in (Some (Label address)) = address
address_in (Some (Number n)) = 0
address_in None = 0

label_by : (names : Names) (name other : List ℕ) (here address : ℕ) (same : Bool) → bytes_eq name other ≡ same → cond same (Some (Label here)) (names other) ≡ Some (Label address)
    → (names other ≡ Some (Label address)) ⊎ ((Some name ≡ Some other) × (address ≡ here))
unfolding address_in
label_by names name other here address true e h = inr (ap (λ (n : List ℕ). Some n) ((bytes_decides name other).0 e), sym (ap address_in h))
label_by names name other here address false e h = inl h

define_comes : (layout : LayoutSoFar) (name : List ℕ) → HasLed (HasLabelsFrom layout (Some name)) (layout_with_name layout name (Label (PRIVATE_START + layout.size)))
define_comes layout name =
    define_led (HasLabelsFrom layout (Some name)) layout name (Label (PRIVATE_START + layout.size))
    (λ free other address meant. label_by layout.names name other (PRIVATE_START + layout.size) address (bytes_eq name other) refl meant)

statement_comes : (line : ℕ) (layout : LayoutSoFar) (bytes : List ℕ) → HasLed (HasLabelsOf layout) (layout_with_statement_text line layout bytes)
statement_comes line layout bytes = statement_led HasLabelsOf labels_kept line layout bytes

labelled_comes : (line : ℕ) (layout : LayoutSoFar) (front : List ℕ) (rest : Option (List ℕ)) → HasLed (HasLabelsFrom layout (label_part (front, rest))) (layout_with_labelled_statement line layout front rest)
labelled_comes line layout front None = record { led = λ next so name address meant. inl ((statement_comes line layout (without_outer_blanks front)).led next so name address meant) }
labelled_comes line layout front (Some rest) =
    let P : LayoutSoFar → Type 0 = HasLabelsFrom layout (Some (without_outer_blanks front)) in
    led_next P _ _ (λ named. led_then P P _ _ (define_comes layout (without_outer_blanks front))
    (λ one from. record { led = λ next so name address meant. from name address ((statement_comes line one (without_outer_blanks rest)).led next so name address meant) }))

line_comes : (number : ℕ) (layout : LayoutSoFar) (line : List ℕ) → HasLed (HasLabelsFrom layout (label_of line)) (layout_with_line number layout line)
unfolding layout_with_line label_of
line_comes number layout line = search (led_next, labelled_comes)

-- the line that a label comes from
record IsLabelled (before : ℕ) (layout : LayoutSoFar) (these : List (List ℕ)) (name : List ℕ) (address : ℕ) : Type 0 where
  place : ℕ
  within : place < length these
  labelled : label_of (get_or these place []) ≡ Some name
  address_is : address ≡ PRIVATE_START + (layout_of_lines before layout (take place these)).size

behind_first : (before : ℕ) (layout next : LayoutSoFar) (line : List ℕ) (these : List (List ℕ)) (name : List ℕ) (address : ℕ) → layout_with_line (before + 1) layout line ≡ Ok next
    → IsLabelled (before + 1) next these name address → IsLabelled before layout (line ∷ these) name address
unfolding layout_of_lines
behind_first before layout next line these name address e h = record {
  place = suc h.place;
  within = omega (arith, h.within);
  labelled = h.labelled;
  address_is =
      h.address_is ∙ ap (λ (r : Result LayoutSoFar AsmKind). PRIVATE_START + (layout_of_lines (before + 1) (layout_behind_line layout r) (take h.place these)).size) (sym e);
}

at_first : (before : ℕ) (layout : LayoutSoFar) (line : List ℕ) (these : List (List ℕ)) (name : List ℕ) (address : ℕ) → label_of line ≡ Some name → address ≡ PRIVATE_START + layout.size
    → IsLabelled before layout (line ∷ these) name address
unfolding layout_of_lines
at_first before layout line these name address e same = record { place = 0; within = omega arith; labelled = e; address_is = same }

comes_by : (before : ℕ) (layout next : LayoutSoFar) (line : List ℕ) (these : List (List ℕ)) (name : List ℕ) (address : ℕ) → layout_with_line (before + 1) layout line ≡ Ok next
    → (next.names name ≡ Some (Label address)) ⊎ IsLabelled (before + 1) next these name address
    → (layout.names name ≡ Some (Label address)) ⊎ IsLabelled before layout (line ∷ these) name address
comes_by before layout next line these name address e (inr h) = inr (behind_first before layout next line these name address e h)
comes_by before layout next line these name address e (inl meant) =
    elim ((line_comes (before + 1) layout line).led next e name address meant) [
      | inl old ↦ inl old
      | inr here ↦ inr (at_first before layout line these name address here.0 here.1)
    ]

labels_come : (before : ℕ) (layout out : LayoutSoFar) (these : List (List ℕ)) (name : List ℕ) (address : ℕ) → layout_with_lines before layout these ≡ Ok out → out.names name ≡ Some (Label address)
    → (layout.names name ≡ Some (Label address)) ⊎ IsLabelled before layout these name address
unfolding layout_with_lines
labels_come before layout out [] name address h meant = inl (IfOk-at_ok (HasLabel name address) (sym h) meant)
labels_come before layout out (line ∷ these) name address h meant =
    let first = first_laid before layout out line these h in
    comes_by before layout first.next line these name address first.here (labels_come (before + 1) first.next out these name address first.rest meant)

-- ---- the entry

no_label_by : (text : List ℕ) (layout : LayoutSoFar) (name : List ℕ) (meaning : Option Symbol) → layout.names name ≡ meaning → first_pass text ≡ Ok layout
    → ((i : ℕ) → i < length (line_texts text) → label_of (get_or (line_texts text) i []) ≡ Some name → ⊥) → label_or_start meaning ≡ PRIVATE_START
unfolding first_pass
no_label_by text layout name (Some (Label address)) e h none =
    elim (labels_come 0 empty_layout layout (line_texts text) name address h e) [
      | inl old ↦ absurd cc
      | inr from ↦ absurd (none from.place from.within from.labelled)
    ]
no_label_by text layout name (Some (Number n)) e h none = refl
no_label_by text layout name None e h none = refl

pub entry_without_start : (text : List ℕ) (layout : LayoutSoFar) → first_pass text ≡ Ok layout → ((i : ℕ) → i < length (line_texts text) → label_of (get_or (line_texts text) i []) ≡ Some (codes "start") → ⊥) → entry_of layout.names ≡ PRIVATE_START
entry_without_start text layout h none = no_label_by text layout (codes "start") (layout.names (codes "start")) refl h none

pub entry_at_start : (text : List ℕ) (layout : LayoutSoFar) (i : ℕ) → first_pass text ≡ Ok layout → i < length (line_texts text) → label_of (get_or (line_texts text) i []) ≡ Some (codes "start")
    → entry_of layout.names ≡ PRIVATE_START + (layout_before (line_texts text) i).size
entry_at_start text layout i h lt e = ap label_or_start (label_addresses text layout i (codes "start") h lt e)

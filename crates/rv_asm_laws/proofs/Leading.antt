-- What the judgments of a line lead to, and what each of them keeps.
use Rattle.std.proofs.Common.{◌≡◌, ℕ, ◌+◌, Bool, true, false, cond, List, [], ◌∷◌, ◌++◌, Option, Some, None, Result, Ok, Err, refl}
use Rattle.std.specs.Prelude.{ℤ}
use Rattle.std.proofs.lemmas.Result.{IfOk-at_ok}
use Rattle.rv_asm.specs.declared.fault.AsmKind.{AsmKind}
use Rattle.rv_asm.specs.declared.fault.AsmKind.TheVariants.{NameTaken}
use Rattle.rv_asm.specs.declared.symbols.Symbol.{Symbol}
use Rattle.rv_asm.specs.declared.symbols.Symbol.TheVariants.{Label, Number}
use Rattle.rv_asm.specs.declared.statement.Statement.{Statement}
use Rattle.rv_asm.specs.declared.statement.PlacedStatement.{PlacedStatement}
use Rattle.rv_asm.specs.Faults.{◌>>=◌, refusal}
use Rattle.ce_text.specs.Line.{without_outer_blanks}
use Rattle.rv_asm.specs.Names.{with_name, is_taken}
use Rattle.rv_asm.specs.Sizes.{size_of}
use Rattle.rv_asm.specs.FirstPass.{LayoutSoFar, layout_of, layout_with_statement, layout_with_all, layout_with_name, layout_with_number, layout_with_statements, layout_with_statement_text, layout_with_labelled_statement, layout_with_line, judgment_at_line}

-- what is laid by a judgment, if it is no fault, has the property
pub record HasLed {E : Type 0} (P : LayoutSoFar → Type 0) (r : Result LayoutSoFar E) : Type 0 where
  pub led : (next : LayoutSoFar) → r ≡ Ok next → P next

led_nowhere : {E : Type 0} (P : LayoutSoFar → Type 0) (kind : E) → HasLed P (Err kind)
led_nowhere P kind = record { led = λ next e. absurd cc }

pub led_here : {E : Type 0} (P : LayoutSoFar → Type 0) (one : LayoutSoFar) → P one → HasLed {E = E} P (Ok one)
led_here P one h = record { led = λ next e. IfOk-at_ok P e h }

pub led_next : {A E : Type 0} (P : LayoutSoFar → Type 0) (r : Result A E) (next : A → Result LayoutSoFar E) → ((x : A) → HasLed P (next x)) → HasLed P (r >>= next)
led_next P (Ok x) next h = h x
led_next P (Err kind) next h = led_nowhere P kind

pub led_then : {E : Type 0} (P Q : LayoutSoFar → Type 0) (r : Result LayoutSoFar E) (next : LayoutSoFar → Result LayoutSoFar E) → HasLed Q r → ((one : LayoutSoFar) → Q one → HasLed P (next one)) → HasLed P (r >>= next)
led_then P Q (Ok one) next first h = h one (first.led one refl)
led_then P Q (Err kind) next first h = led_nowhere P kind

led_either : {E : Type 0} (P : LayoutSoFar → Type 0) (test : Bool) (first second : Result LayoutSoFar E) → HasLed P first → HasLed P second → HasLed P (cond test first second)
led_either P true first second h g = h
led_either P false first second h g = g

pub led_at_line : (P : LayoutSoFar → Type 0) (number : ℕ) (r : Result LayoutSoFar AsmKind) → HasLed P r → HasLed P (judgment_at_line number r)
led_at_line P number (Ok next) h = led_here P next (h.led next refl)
led_at_line P number (Err kind) h = led_nowhere P _

-- a name is defined only where it is free
pub define_led : (P : LayoutSoFar → Type 0) (layout : LayoutSoFar) (name : List ℕ) (symbol : Symbol)
    → (is_taken layout.names name ≡ false → P (layout_of (with_name layout.names name symbol) layout.statements layout.size)) → HasLed P (layout_with_name layout name symbol)
unfolding layout_with_name
define_led P layout name symbol h = by (is_taken layout.names name) refl
  where
    by : (taken : Bool) → is_taken layout.names name ≡ taken → HasLed P (refusal taken NameTaken >>= λ free. Ok (layout_of (with_name layout.names name symbol) layout.statements layout.size))
    by true e = led_nowhere P NameTaken
    by false e = led_here P _ (h e)

-- what is laid afterwards stands so to what was laid before, once a statement or a number is laid
pub record IsKept (R : LayoutSoFar → LayoutSoFar → Type 0) : Type 0 where
  pub same : (layout : LayoutSoFar) → R layout layout
  pub further : (first second third : LayoutSoFar) → R first second → R second third → R first third
  pub placed : (layout : LayoutSoFar) (one : PlacedStatement) → R layout (layout_of layout.names (layout.statements ++ one ∷ []) (layout.size + size_of one.statement))
  pub numbered : (layout : LayoutSoFar) (name : List ℕ) (n : ℤ) → is_taken layout.names name ≡ false → R layout (layout_of (with_name layout.names name (Number n)) layout.statements layout.size)

module _ (R : LayoutSoFar → LayoutSoFar → Type 0) (kept : IsKept R) where
  pub led_further : {E : Type 0} (layout : LayoutSoFar) (r : Result LayoutSoFar E) (next : LayoutSoFar → Result LayoutSoFar E) → HasLed (R layout) r → ((one : LayoutSoFar) → HasLed (R one) (next one)) → HasLed (R layout) (r >>= next)
  led_further layout r next first h = led_then (R layout) (R layout) r next first (λ one so. record { led = λ last e. kept.further layout one last so ((h one).led last e) })

  placed_led : (line : ℕ) (layout : LayoutSoFar) (it : Statement) → HasLed {E = AsmKind} (R layout) (Ok (layout_of layout.names (layout.statements ++ record { line = line; statement = it } ∷ []) (layout.size + size_of it)))
  placed_led line layout it = led_here (R layout) _ (kept.placed layout (record { line = line; statement = it }))

  place_led : (line : ℕ) (layout : LayoutSoFar) (it : Statement) → HasLed (R layout) (layout_with_statement line layout it)
  unfolding layout_with_statement
  place_led line layout it = search (led_next, placed_led)

  place_all_led : (line : ℕ) (layout : LayoutSoFar) (these : List Statement) → HasLed (R layout) (layout_with_all line layout these)
  unfolding layout_with_all
  place_all_led line layout [] = led_here (R layout) layout (kept.same layout)
  place_all_led line layout (it ∷ these) = led_further layout (layout_with_statement line layout it) _ (place_led line layout it) (λ one. place_all_led line one these)

  number_led : (layout : LayoutSoFar) (name : List ℕ) (n : ℤ) → HasLed (R layout) (layout_with_name layout name (Number n))
  number_led layout name n = define_led (R layout) layout name (Number n) (kept.numbered layout name n)

  equ_led : (layout : LayoutSoFar) (operands : List ℕ) → HasLed (R layout) (layout_with_number layout operands)
  unfolding layout_with_number
  equ_led layout operands = search (led_next, number_led)

  lay_led : (line : ℕ) (layout : LayoutSoFar) (word operands : List ℕ) → HasLed (R layout) (layout_with_statements line layout word operands)
  unfolding layout_with_statements
  lay_led line layout word operands = search (led_next, place_all_led)

  pub statement_led : (line : ℕ) (layout : LayoutSoFar) (bytes : List ℕ) → HasLed (R layout) (layout_with_statement_text line layout bytes)
  unfolding layout_with_statement_text
  statement_led line layout [] = led_here (R layout) layout (kept.same layout)
  statement_led line layout (byte ∷ bytes) = search (led_next, led_either, equ_led, lay_led)

  -- the same of a whole line, where a label keeps it too
  module _ (named : (layout : LayoutSoFar) (name : List ℕ) (address : ℕ) → is_taken layout.names name ≡ false → R layout (layout_of (with_name layout.names name (Label address)) layout.statements layout.size)) where
    label_led : (layout : LayoutSoFar) (name : List ℕ) (address : ℕ) → HasLed (R layout) (layout_with_name layout name (Label address))
    label_led layout name address = define_led (R layout) layout name (Label address) (named layout name address)

    labelled_led : (line : ℕ) (layout : LayoutSoFar) (front : List ℕ) (rest : Option (List ℕ)) → HasLed (R layout) (layout_with_labelled_statement line layout front rest)
    labelled_led line layout front None = statement_led line layout (without_outer_blanks front)
    labelled_led line layout front (Some rest) = search (led_next, led_further, label_led, statement_led)

    pub line_led : (number : ℕ) (layout : LayoutSoFar) (line : List ℕ) → HasLed (R layout) (layout_with_line number layout line)
    unfolding layout_with_line
    line_led number layout line = search (led_next, labelled_led)

-- Statements that are placed one after the other.
use Rattle.std.proofs.Common.{◌≡◌, ℕ, List, [], ◌∷◌, Result, Ok, sym, ap, ◌∙◌}
use Rattle.rv_asm.specs.declared.fault.AsmKind.{AsmKind}
use Rattle.rv_asm.specs.declared.fault.Halt.{Halt}
use Rattle.rv_asm.specs.declared.fault.Halt.TheVariants as halts
use Rattle.rv_asm.specs.declared.statement.Statement.{Statement}
use Rattle.rv_asm.specs.Faults.{◌>>=◌, IsHaltOf}
use Rattle.rv_asm.specs.FirstPass.{LayoutSoFar, layout_with_statement, layout_with_all}

pub place_next : (line : ℕ) (layout next : LayoutSoFar) (all others : List Statement) (statement : Statement) → all ≡ statement ∷ others → layout_with_statement line layout statement ≡ Ok next → layout_with_all line next others ≡ layout_with_all line layout all
unfolding layout_with_all
place_next line layout next all others statement e h =
    sym (ap (layout_with_all line layout) e ∙ ap (λ (r : Result LayoutSoFar AsmKind). r >>= λ one. layout_with_all line one others) h)

pub place_stops : (halt : Halt) (line : ℕ) (layout : LayoutSoFar) (all others : List Statement) (statement : Statement) → all ≡ statement ∷ others → IsHaltOf halt (layout_with_statement line layout statement) → IsHaltOf halt (layout_with_all line layout all)
unfolding layout_with_all
place_stops halts.Memory line layout all others statement e h = tt
place_stops (halts.Fault kind) line layout all others statement e h =
    ap (layout_with_all line layout) e ∙ ap (λ (r : Result LayoutSoFar AsmKind). r >>= λ one. layout_with_all line one others) h

pub place_none : (line : ℕ) (layout : LayoutSoFar) (all : List Statement) → all ≡ [] → layout_with_all line layout all ≡ Ok layout
unfolding layout_with_all
place_none line layout all e = ap (layout_with_all line layout) e

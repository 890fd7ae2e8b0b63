-- The faults of labels: each kind is a test of its own on a statement, its address and what names
-- mean in the whole text.
use Rattle.std.specs.Prelude.{◌≡◌, ℕ, ◌+◌, ◌<◌, Bool, false, true, not, if◌then◌else◌, List, slice_get, take, sum_by, Option, Some, None, pos, ◌-ℤ◌}
use Rattle.rv_model.specs.declared.limits.TheConstants.{BRANCH_REACH, JUMP_REACH}
use Rattle.rv_asm.specs.declared.fault.AsmKind.{AsmKind}
use Rattle.rv_asm.specs.declared.fault.AsmKind.TheVariants.{UnknownName, TooFar}
use Rattle.rv_asm.specs.declared.fault.AsmFault.{AsmFault}
use Rattle.rv_asm.specs.declared.symbols.Symbol.{Symbol}
use Rattle.rv_asm.specs.declared.symbols.Symbol.TheVariants.{Label, Number}
use Rattle.rv_asm.specs.declared.statement.Statement.{Statement}
use Rattle.rv_asm.specs.declared.statement.Statement.TheVariants as statements
use Rattle.rv_asm.specs.declared.statement.PlacedStatement.{PlacedStatement}
use Rattle.rv_asm.specs.Names.{Names}
use Rattle.rv_asm.specs.Sizes.{size_of}
use Rattle.rv_asm.specs.SecondPass.{is_reached}

-- no line has the label
abbrev pub is_no_label : Option Symbol → Bool
is_no_label (Some (Label address)) = false
is_no_label (Some (Number n)) = true
is_no_label None = true

-- a statement names a label that no line has
abbrev pub lacks_label : Names → Statement → Bool
lacks_label names (statements.Jal rd label) = is_no_label (names label)
lacks_label names (statements.Branch op rs1 rs2 label) = is_no_label (names label)
lacks_label names (statements.La rd label) = is_no_label (names label)
lacks_label names (statements.Address label) = is_no_label (names label)
lacks_label names statement = false

-- a label's address is out of reach, or at an odd distance
abbrev pub is_far : ℕ → ℕ → Option Symbol → Bool
is_far reach address (Some (Label target)) = not (is_reached reach (pos target -ℤ pos address))
is_far reach address (Some (Number n)) = false
is_far reach address None = false

-- a jump or a branch does not reach its label
abbrev pub goes_too_far : Names → ℕ → Statement → Bool
goes_too_far names address (statements.Jal rd label) = is_far JUMP_REACH address (names label)
goes_too_far names address (statements.Branch op rs1 rs2 label) =
    is_far BRANCH_REACH address (names label)
goes_too_far names address statement = false

-- the fault of a statement's label
abbrev pub label_fault : Names → ℕ → Statement → Option AsmKind
label_fault names address statement =
    if lacks_label names statement then Some UnknownName
    else (if goes_too_far names address statement then Some TooFar else None)

-- the address of a statement among those that are laid from an address on
abbrev pub statement_address : ℕ → List PlacedStatement → ℕ → ℕ
statement_address address placed_statements i =
    address + sum_by (λ it. size_of it.statement) (take i placed_statements)

-- the fault of a statement among those, counted from 0
abbrev pub numbered_label_fault : Names → ℕ → List PlacedStatement → ℕ → PlacedStatement
    → Option AsmKind
numbered_label_fault names address placed_statements i it =
    label_fault names (statement_address address placed_statements i) it.statement

-- The line and kind of a fault are those of the first statement whose label has one.
pub record IsFirstLabelFault (names : Names) (address : ℕ)
    (placed_statements : List PlacedStatement) (fault : AsmFault) : Type 0 where
  pub place : ℕ
  pub it : PlacedStatement
  pub here : slice_get placed_statements place ≡ Some it
  pub line : fault.line ≡ it.line
  pub kind : numbered_label_fault names address placed_statements place it ≡ Some fault.kind
  pub before : (i : ℕ) (other : PlacedStatement) → i < place → slice_get placed_statements i
      ≡ Some other → numbered_label_fault names address placed_statements i other ≡ None

-- no statement's label has a fault
abbrev pub HasLabels : Names → ℕ → List PlacedStatement → Type 0
HasLabels names address placed_statements =
    (i : ℕ) (it : PlacedStatement) → slice_get placed_statements i ≡ Some it
    → numbered_label_fault names address placed_statements i it ≡ None

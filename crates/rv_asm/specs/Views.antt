-- What the code's values stand for.
use Rattle.std.specs.Prelude.{ℕ, List, Option, Some, None, Result, Ok, Err}
use Rattle.rv_asm.specs.declared.fault.AsmKind.{AsmKind}
use Rattle.rv_asm.specs.declared.statement.Datum.{Datum}
use Rattle.rv_asm.specs.declared.statement.Datum.TheVariants as datums
use Rattle.rv_asm.specs.declared.statement.Statement.{Statement}
use Rattle.rv_asm.specs.Names.{Names}
use Rattle.rv_asm.specs.Statements.{word_value, byte_value}

-- an operand of `.word` or of `.byte`
abbrev pub datum_value : Datum → Names → List ℕ → Result Statement AsmKind
datum_value datums.Word names piece = word_value names piece
datum_value datums.Byte names piece = byte_value names piece

-- the judgment that a list and a fault stand for: the fault, where there is one
abbrev pub list_judgment : {A : Type 0} → Option AsmKind → List A → Result (List A) AsmKind
list_judgment None list = Ok list
list_judgment (Some kind) list = Err kind

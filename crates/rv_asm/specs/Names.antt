-- What names mean.
use Rattle.std.specs.Prelude.{ℕ, List, Bool, Option, Some, None, bytes_eq, is_some}
use Rattle.std.specs.Map.{update}
use Rattle.rv_asm.specs.declared.symbols.Symbol.{Symbol}

-- what each name means so far
abbrev pub Names : Type 0
Names = List ℕ → Option Symbol

abbrev pub no_names : Names
no_names name = None

-- the names, and one more
abbrev pub with_name : Names → List ℕ → Symbol → Names
with_name names name symbol = update bytes_eq names name (Some symbol)

abbrev pub is_taken : Names → List ℕ → Bool
is_taken names name = is_some (names name)

-- What names mean.
use Rattle.std.specs.Prelude.{ℕ, List, Option}
use Rattle.std.specs.Ordering.{nat_cmp}
use Rattle.std.specs.Cmp.Lexicographic.{slice_cmp}
use Rattle.std.specs.BTreeMap.{get_by}
use Rattle.ce_text.specs.declared.names.NameTable.{NameTable}

-- what each name means by a table
abbrev pub meanings_of : {X : Type 0} → NameTable X → List ℕ → Option X
meanings_of table name = get_by (λ key. slice_cmp nat_cmp name key.items) table.meanings

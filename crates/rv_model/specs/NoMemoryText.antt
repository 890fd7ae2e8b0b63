-- The text of want of memory.
use Rattle.std.specs.Prelude.{ℕ, List, codes}

abbrev pub no_memory : List ℕ
no_memory = codes "no memory"

use Rattle.ce_io.specs.declared.whole.ReadError.{ReadError}
use Rattle.ce_io.specs.declared.whole.ReadError.TheVariants.{TooLong, Read, Memory}

-- the error is that memory ran out
abbrev pub IsReadNoMemory : ReadError → Type 0
IsReadNoMemory TooLong = ⊥
IsReadNoMemory Read = ⊥
IsReadNoMemory (Memory want) = Unit {0}

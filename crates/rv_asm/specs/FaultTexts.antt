-- The texts of faults.
use Rattle.std.specs.Prelude.{ℕ, List, codes}
use Rattle.rv_model.specs.NoMemoryText.{no_memory}
use Rattle.rv_asm.specs.declared.fault.AsmKind.{AsmKind}
use Rattle.rv_asm.specs.declared.fault.AsmKind.TheVariants.{BadByte, NameTaken, UnknownWord, Operands, BadRegister, BadNumber, UnknownName, Unaligned, TooLarge, TooFar, Entry, Memory}

-- the text of a kind
abbrev pub assembly_text : AsmKind → List ℕ
assembly_text BadByte = codes "bad byte"
assembly_text NameTaken = codes "name taken"
assembly_text UnknownWord = codes "unknown word"
assembly_text Operands = codes "operands"
assembly_text BadRegister = codes "bad register"
assembly_text BadNumber = codes "bad number"
assembly_text UnknownName = codes "unknown name"
assembly_text Unaligned = codes "unaligned"
assembly_text TooLarge = codes "too large"
assembly_text TooFar = codes "too far"
assembly_text Entry = codes "entry"
assembly_text (Memory cause) = no_memory

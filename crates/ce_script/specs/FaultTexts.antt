-- The texts of faults, as they are told to who gave the script.
use Rattle.std.specs.Prelude.{ℕ, List, [], ◌++◌, codes}
use Rattle.rv_model.specs.NoMemoryText.{no_memory}
use Rattle.rv_asm.specs.declared.fault.AsmKind.TheVariants as kinds
use Rattle.rv_asm.specs.FaultTexts.{assembly_text}
use Rattle.ce_script.specs.declared.script.ScriptKind.{ScriptKind}
use Rattle.ce_script.specs.declared.script.ScriptKind.TheVariants.{BadByte, UnknownWord, WordCount, NoMachine, SecondMachine, NoUser, BadNumber, BadName, BadHex, NameTaken, TooMany, UnknownImage, NoEnd, Assembly, BadImage, Memory}

-- what the text of a kind begins with: the whole of it, but for a fault that the assembler found
unfoldable pub kind_part : ScriptKind → List ℕ
kind_part BadByte = assembly_text kinds.BadByte
kind_part UnknownWord = assembly_text kinds.UnknownWord
kind_part WordCount = codes "wrong number of words"
kind_part NoMachine = codes "no machine line"
kind_part SecondMachine = codes "second machine line"
kind_part NoUser = codes "no user line"
kind_part BadNumber = assembly_text kinds.BadNumber
kind_part BadName = codes "bad name"
kind_part BadHex = codes "bad hex"
kind_part NameTaken = assembly_text kinds.NameTaken
kind_part TooMany = codes "too many"
kind_part UnknownImage = codes "unknown image"
kind_part NoEnd = codes "no end line"
kind_part (Assembly kind) = codes "assembly: "
kind_part BadImage = codes "bad image"
kind_part (Memory want) = no_memory

-- behind it stands the assembler's own text, where the assembler found the fault, and else nothing;
-- a script's own kinds stand for the assembler's Memory and BadByte, so no fault of a script has
-- these two
unfoldable pub assembly_part : ScriptKind → List ℕ
assembly_part (Assembly kind) = assembly_text kind
assembly_part other = []

-- the text of a kind
unfoldable pub kind_text : ScriptKind → List ℕ
kind_text kind = kind_part kind ++ assembly_part kind

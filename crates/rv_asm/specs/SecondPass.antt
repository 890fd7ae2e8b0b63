-- The second pass: each statement becomes instructions or bytes.
use Rattle.std.specs.Prelude.{ℕ, ◌+◌, ◌%◌, Bool, not, ◌&&◌, ◌==◌, List, [], ◌∷◌, ◌++◌, map, replicate, Option, Some, None, Result, Ok, Err, ℤ, pos, ◌-ℤ◌, neg_ℤ, int_le, int_lt, unsigned_abs}
use Rattle.std.specs.Int.{w32, to_le_bytes}
use Rattle.rv_model.specs.declared.limits.TheConstants.{BRANCH_REACH, JUMP_REACH}
use Rattle.rv_model.specs.declared.inst.Inst.{Inst}
use Rattle.rv_model.specs.declared.inst.Inst.TheVariants as insts
use Rattle.rv_asm.specs.declared.fault.AsmKind.{AsmKind}
use Rattle.rv_asm.specs.declared.fault.AsmKind.TheVariants.{UnknownName, TooFar}
use Rattle.rv_asm.specs.declared.fault.AsmFault.{AsmFault}
use Rattle.rv_asm.specs.declared.symbols.Symbol.{Symbol}
use Rattle.rv_asm.specs.declared.symbols.Symbol.TheVariants.{Label, Number}
use Rattle.rv_asm.specs.declared.statement.Statement.{Statement}
use Rattle.rv_asm.specs.declared.statement.Statement.TheVariants as statements
use Rattle.rv_asm.specs.declared.statement.PlacedStatement.{PlacedStatement}
use Rattle.rv_asm.specs.Names.{Names}
use Rattle.rv_asm.specs.Faults.{◌>>=◌, refusal}
use Rattle.rv_asm.specs.Sizes.{size_of}
use Rattle.rv_asm.specs.FirstPass.{judgment_at_line}
use Rattle.rv_asm.specs.Statements.{two_instructions}

-- a part of an image
pub data Part : Type 0 where
  Instruction : Inst → Part
  Plain : List ℕ → Part

-- the address that a label stands for
abbrev pub address_judgment : Option Symbol → Result ℕ AsmKind
address_judgment (Some (Label address)) = Ok address
address_judgment (Some (Number n)) = Err UnknownName
address_judgment None = Err UnknownName

unfoldable pub address_of : Names → List ℕ → Result ℕ AsmKind
address_of names label = address_judgment (names label)

-- an even number from -reach to reach - 1
abbrev pub is_reached : ℕ → ℤ → Bool
is_reached reach offset =
    (unsigned_abs offset % 2 == 0) && int_le (neg_ℤ (pos reach)) offset && int_lt offset (pos reach)

-- from the instruction at an address to a target
unfoldable pub offset_to : ℕ → ℕ → ℕ → Result ℤ AsmKind
offset_to reach address target = do
  near ← refusal (not (is_reached reach (pos target -ℤ pos address))) TooFar
  Ok (pos target -ℤ pos address)

-- what a statement at an address becomes
unfoldable pub parts_of : Names → ℕ → Statement → Result (List Part) AsmKind
parts_of names address (statements.Inst inst) = Ok (Instruction inst ∷ [])
parts_of names address (statements.Jal rd label) = do
  target ← address_of names label
  offset ← offset_to JUMP_REACH address target
  Ok (Instruction (insts.Jal rd offset) ∷ [])
parts_of names address (statements.Branch op rs1 rs2 label) = do
  target ← address_of names label
  offset ← offset_to BRANCH_REACH address target
  Ok (Instruction (insts.Branch op rs1 rs2 offset) ∷ [])
parts_of names address (statements.La rd label) = do
  target ← address_of names label
  Ok (map Instruction (two_instructions rd target))
parts_of names address (statements.Word word) = Ok (Plain (to_le_bytes w32 word) ∷ [])
parts_of names address (statements.Address label) = do
  target ← address_of names label
  Ok (Plain (to_le_bytes w32 target) ∷ [])
parts_of names address (statements.Byte byte) = Ok (Plain (byte ∷ []) ∷ [])
parts_of names address (statements.Zero count) = Ok (Plain (replicate count 0) ∷ [])

-- what statements from an address on become
unfoldable pub second_pass : Names → ℕ → List PlacedStatement → Result (List Part) AsmFault
second_pass names address [] = Ok []
second_pass names address (placed_statement ∷ others) = do
  statement_parts ← judgment_at_line placed_statement.line
      (parts_of names address placed_statement.statement)
  later_parts ← second_pass names (address + size_of placed_statement.statement) others
  Ok (statement_parts ++ later_parts)

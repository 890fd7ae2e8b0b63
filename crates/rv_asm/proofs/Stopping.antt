-- A call that stops at a line.
use Rattle.std.proofs.Common.{◌≡◌, ℕ, Result, Err, ap, ◌∙◌}
use Rattle.rv_asm.specs.declared.fault.AsmKind.{AsmKind}
use Rattle.rv_asm.specs.declared.fault.AsmKind.TheVariants.{BadByte, NameTaken, UnknownWord, Operands, BadRegister, BadNumber, UnknownName, Unaligned, TooLarge, TooFar, Entry, Memory}
use Rattle.rv_asm.specs.declared.fault.AsmFault.{AsmFault}
use Rattle.rv_asm.specs.declared.fault.Halt.{Halt}
use Rattle.rv_asm.specs.declared.fault.Halt.TheVariants as halts
use Rattle.rv_asm.specs.Faults.{◌>>=◌, halt_fault, IsHaltOf, AsmUnless}
use Rattle.rv_asm.specs.FirstPass.{judgment_at_line}

pub unless : (kind : AsmKind) (P : Type 0) → P → AsmUnless kind P
unless BadByte P p = p
unless NameTaken P p = p
unless UnknownWord P p = p
unless Operands P p = p
unless BadRegister P p = p
unless BadNumber P p = p
unless UnknownName P p = p
unless Unaligned P p = p
unless TooLarge P p = p
unless TooFar P p = p
unless Entry P p = p
unless (Memory cause) P p = tt

pub stops_all : {A B : Type 0} (halt : Halt) (line : ℕ) (judgment : Result A AsmKind) (next : A → Result B AsmFault) (total : Result B AsmFault)
    → total ≡ (judgment_at_line line judgment >>= next) → IsHaltOf halt judgment → AsmUnless (halt_fault halt line).kind (total ≡ Err (halt_fault halt line))
stops_all halts.Memory line judgment next total e s = tt
stops_all (halts.Fault kind) line judgment next total e s =
    unless kind (total ≡ Err (record { line = line; kind = kind })) (e ∙ ap (λ r. judgment_at_line line r >>= next) s)

-- The faults of a line, and how judgments are joined.
use Rattle.std.specs.Prelude.{◌≡◌, ℕ, nat_le, Bool, if◌then◌else◌, List, [], ◌∷◌, ◌++◌, fold, Result, Ok, Err}
use Rattle.rv_asm.specs.declared.fault.AsmKind.{AsmKind}
use Rattle.rv_asm.specs.declared.fault.AsmKind.TheVariants.{BadByte, NameTaken, UnknownWord, Operands, BadRegister, BadNumber, UnknownName, Unaligned, TooLarge, TooFar, Entry, Memory}
use Rattle.rv_asm.specs.declared.fault.AsmFault.{AsmFault}
use Rattle.rv_asm.specs.declared.fault.Halt.{Halt}
use Rattle.rv_asm.specs.declared.fault.Halt.TheVariants as halts

infixl 10 ◌>>=◌
abbrev pub ◌>>=◌ : {A B E : Type 0} → Result A E → (A → Result B E) → Result B E
(Ok x) >>= next = next x
(Err fault) >>= next = Err fault

-- nothing, where a test does not hold, and else this fault
abbrev pub refusal : Bool → AsmKind → Result (Unit {0}) AsmKind
refusal test kind = if test then Err kind else Ok tt

-- the place of a kind in the order in which the kinds of a line are judged
abbrev pub rank : AsmKind → ℕ
rank BadByte = 0
rank NameTaken = 1
rank UnknownWord = 2
rank Operands = 3
rank BadRegister = 4
rank BadNumber = 5
rank UnknownName = 6
rank Unaligned = 7
rank TooLarge = 8
rank TooFar = 9
rank Entry = 10
rank (Memory cause) = 11

-- the kind that is judged first
abbrev pub earlier_kind : AsmKind → AsmKind → AsmKind
earlier_kind first second = if nat_le (rank first) (rank second) then first else second

-- two judgments of one line: both values, or the fault whose kind is judged first
unfoldable pub pair_judgment : {A B : Type 0} → Result A AsmKind → Result B AsmKind
    → Result (A × B) AsmKind
pair_judgment (Ok first) (Ok second) = Ok (first, second)
pair_judgment (Ok first) (Err kind) = Err kind
pair_judgment (Err kind) (Ok second) = Err kind
pair_judgment (Err first) (Err second) = Err (earlier_kind first second)

-- one more judgment behind those of a line
unfoldable pub with_judgment : {A : Type 0} → Result (List A) AsmKind → Result A AsmKind
    → Result (List A) AsmKind
with_judgment judgment value =
    pair_judgment judgment value >>= λ parts. Ok (parts.0 ++ parts.1 ∷ [])

-- any number of judgments of one line: all values, or the fault whose kind is judged first
unfoldable pub judgment_of_list : {A : Type 0} → List (Result A AsmKind) → Result (List A) AsmKind
judgment_of_list values = fold with_judgment (Ok []) values

-- why a line stops the work, as a fault of this line
abbrev pub halt_fault : Halt → ℕ → AsmFault
halt_fault halts.Memory line = record { line = line; kind = Memory (record {}) }
halt_fault (halts.Fault kind) line = record { line = line; kind = kind }

-- what is known of a call that stopped: memory ran out, or the definition has this fault
abbrev pub IsHaltOf : {A : Type 0} → Halt → Result A AsmKind → Type 0
IsHaltOf halts.Memory judgment = Unit {0}
IsHaltOf (halts.Fault kind) judgment = judgment ≡ Err kind

-- what is known of a fault: nothing, where memory ran out
abbrev pub AsmUnless : AsmKind → Type 0 → Type 0
AsmUnless (Memory cause) fact = Unit {0}
AsmUnless kind fact = fact

-- what a pass answered, seen by `view`, is what the definition says, unless memory ran out
abbrev pub IsAllSeenAs : {A B : Type 0} → (A → B) → Result A AsmFault → Result B AsmFault → Type 0
IsAllSeenAs view (Ok x) judgment = judgment ≡ Ok (view x)
IsAllSeenAs view (Err fault) judgment = AsmUnless fault.kind (judgment ≡ Err fault)

-- what a call answered, seen by `view`, is what the definition says, unless memory ran out
abbrev pub IsSeenAs : {A B : Type 0} → (A → B) → Result A Halt → Result B AsmKind → Type 0
IsSeenAs view (Ok x) judgment = judgment ≡ Ok (view x)
IsSeenAs view (Err halt) judgment = IsHaltOf halt judgment

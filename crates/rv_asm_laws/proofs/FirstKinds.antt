-- Kinds of faults, joined.
use Rattle.std.proofs.Common.{◌≡◌, Bool, true, false, Option, Some, None, refl}
use Rattle.std.specs.Prelude.{◌||◌}
use Rattle.rv_asm.specs.declared.fault.AsmKind.{AsmKind}
use Rattle.rv_asm.specs.Faults.{earlier_kind}
use Rattle.rv_asm_laws.specs.Forms.{first_kind}

-- the fault that is judged first, of two judgments of one line
abbrev pub earliest_kind : Option AsmKind → Option AsmKind → Option AsmKind
earliest_kind None second = second
earliest_kind (Some first) None = Some first
earliest_kind (Some first) (Some second) = Some (earlier_kind first second)

-- the kinds of two judgments are those of either, and the earlier of their first ones is the first
pub first_kind-joined : (malformed register number name malformed' register' number' name' : Bool)
    → earliest_kind (first_kind malformed register number name) (first_kind malformed' register' number' name')
    ≡ first_kind (malformed || malformed') (register || register') (number || number') (name || name')
first_kind-joined true b c d true b' c' d' = refl
first_kind-joined true b c d false true c' d' = refl
first_kind-joined true b c d false false true d' = refl
first_kind-joined true b c d false false false true = refl
first_kind-joined true b c d false false false false = refl
first_kind-joined false true c d true b' c' d' = refl
first_kind-joined false true c d false true c' d' = refl
first_kind-joined false true c d false false true d' = refl
first_kind-joined false true c d false false false true = refl
first_kind-joined false true c d false false false false = refl
first_kind-joined false false true d true b' c' d' = refl
first_kind-joined false false true d false true c' d' = refl
first_kind-joined false false true d false false true d' = refl
first_kind-joined false false true d false false false true = refl
first_kind-joined false false true d false false false false = refl
first_kind-joined false false false true true b' c' d' = refl
first_kind-joined false false false true false true c' d' = refl
first_kind-joined false false false true false false true d' = refl
first_kind-joined false false false true false false false true = refl
first_kind-joined false false false true false false false false = refl
first_kind-joined false false false false true b' c' d' = refl
first_kind-joined false false false false false true c' d' = refl
first_kind-joined false false false false false false true d' = refl
first_kind-joined false false false false false false false true = refl
first_kind-joined false false false false false false false false = refl

pub or_assoc : (a b c : Bool) → (a || b) || c ≡ a || (b || c)
or_assoc true b c = refl
or_assoc false b c = refl

pub or_false : (a : Bool) → a || false ≡ a
or_false true = refl
or_false false = refl

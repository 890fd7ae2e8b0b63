use Rattle.std.proofs.Common.{◌∙◌, ◌==◌, ap, sym, arith}
use Rattle.std.proofs.lemmas.Bool.{le-ltb}
use Rattle.std.proofs.lemmas.Nat.Bits.{bit_at_above}
use Rattle.rk_mail.proofs.parcel.is_member.Goals as goal

pub returns-else-pid-lt-BITS : goal.returns-else-pid-lt-BITS
returns-else-pid-lt-BITS c =
    le-ltb c.args.pid 32 (omega arith) ∙ ap (λ bit. bit == 1) (sym (bit_at_above c.args.ids 32 c.args.pid c.ranges.ids.fits (omega arith)))

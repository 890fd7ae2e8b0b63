use Rattle.std.proofs.Common.{sym, rules}
use Rattle.rv_asm.specs.Statements.{registers_immediate}
use Rattle.rv_asm.proofs.forms.registers_immediate.Goals as goal

pub returns-in_err-rd-2-clause-value : goal.returns-in_err-rd-2-clause-value
unfolding registers_immediate
returns-in_err-rd-2-clause-value c =
    let failed = sym c.in_err-rd-2.ensures.joined in
    let failed_so = rw (c.pair.ensures.joined, c.register.ensures.value, c.register-2.ensures.value, c.immediate.ensures.value) at failed in
    rw (c.in_ok-rd.ensures, failed_so) (search rules)

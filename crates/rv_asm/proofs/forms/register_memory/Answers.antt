use Rattle.std.proofs.Common.{sym, rules}
use Rattle.rv_asm.specs.Statements.{register_memory}
use Rattle.rv_asm.proofs.forms.register_memory.Goals as goal

pub returns-in_err-rd-2-clause-value : goal.returns-in_err-rd-2-clause-value
unfolding register_memory
returns-in_err-rd-2-clause-value c =
    let failed = sym c.in_err-rd-2.ensures.joined in
    let failed_so = rw (c.register.ensures.value, c.memory.ensures.value) at failed in
    rw (c.in_ok-rd.ensures, failed_so) (search rules)

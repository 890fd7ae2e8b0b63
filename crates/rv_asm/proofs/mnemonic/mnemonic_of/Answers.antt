use Rattle.std.proofs.Common.{sym, subst, Option}
use Rattle.std.specs.Prelude.{IfSome}
use Rattle.rv_asm.specs.declared.mnemonic.Mnemonic.{Mnemonic}
use Rattle.rv_asm.specs.Sound.{IsSoundMnemonic}
use Rattle.rv_asm.specs.Words.{mnemonic_of, mnemonic_table}
use Rattle.rv_asm.proofs.WordTable.{sound_word}
use Rattle.rv_asm.proofs.mnemonic.mnemonic_of.Goals as goal

pub returns-clause-sound : goal.returns-clause-sound
unfolding mnemonic_of mnemonic_table
returns-clause-sound c =
    subst (λ (found : Option Mnemonic). IfSome found IsSoundMnemonic) (sym c.look_up.ensures) (sound_word c.args.text.now)

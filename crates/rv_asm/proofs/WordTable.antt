-- The words of the table stand for instructions and registers that there are.
use Rattle.std.proofs.Common.{ℕ, Bool, true, false, cond, List, [], ◌∷◌, Option, Some, arith, rules}
use Rattle.std.specs.Prelude.{IfSome, bytes_eq}
use Rattle.rv_inst.specs.Valid.{IsRegister, IsValid}
use Rattle.rv_asm.specs.declared.mnemonic.Mnemonic.{Mnemonic}
use Rattle.rv_asm.specs.declared.mnemonic.Mnemonic.TheVariants as mnemonics
use Rattle.ce_text.specs.Table.{table_value}
use Rattle.rv_asm.specs.Words.{mnemonic_table, mnemonic_of}
use Rattle.rv_asm.specs.Sound.{IsSoundMnemonic}

-- the rows that hold an instruction or a register hold one that there is; nothing is asked of the
-- others
abbrev AreSoundRows : List (List ℕ × Mnemonic) → Type 0
AreSoundRows [] = Unit {0}
AreSoundRows ((word, mnemonics.Plain inst) ∷ rows) = IsValid inst × AreSoundRows rows
AreSoundRows ((word, mnemonics.Jump rd) ∷ rows) = IsRegister rd × AreSoundRows rows
AreSoundRows ((word, mnemonic) ∷ rows) = AreSoundRows rows

looked_by : (here : Bool) (mnemonic : Mnemonic) (there : Option Mnemonic) → IsSoundMnemonic mnemonic → IfSome there IsSoundMnemonic → IfSome (cond here (Some mnemonic) there) IsSoundMnemonic
looked_by true mnemonic there sound others = sound
looked_by false mnemonic there sound others = others

looked : (rows : List (List ℕ × Mnemonic)) (text : List ℕ) → AreSoundRows rows → IfSome (table_value rows text) IsSoundMnemonic
looked [] text all = tt
looked ((word, mnemonics.Plain inst) ∷ rows) text all = looked_by (bytes_eq word text) (mnemonics.Plain inst) (table_value rows text) all.0 (looked rows text all.1)
looked ((word, mnemonics.Jump rd) ∷ rows) text all = looked_by (bytes_eq word text) (mnemonics.Jump rd) (table_value rows text) all.0 (looked rows text all.1)
looked ((word, mnemonic) ∷ rows) text all = looked_by (bytes_eq word text) mnemonic (table_value rows text) tt (looked rows text all)

sound_rows : AreSoundRows mnemonic_table
unfolding mnemonic_table
sound_rows = search (rules, arith)

pub sound_word : (word : List ℕ) → IfSome (mnemonic_of word) IsSoundMnemonic
unfolding mnemonic_of
sound_word word = looked mnemonic_table word sound_rows

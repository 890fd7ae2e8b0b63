use Rattle.std.proofs.Common.{[], ◌∷◌, refl, sym, replicate}
use Rattle.std.specs.Int.{w32, to_le_bytes}
use Rattle.rv_asm.specs.SecondPass.{Plain, parts_of}
use Rattle.rv_asm.proofs.Putting.{put_plain}
use Rattle.rv_asm.proofs.second_pass.put_statement.Goals as goal

pub returns-in_ok-put_word-in-Word-clause-parts : goal.returns-in_ok-put_word-in-Word-clause-parts
unfolding parts_of
returns-in_ok-put_word-in-Word-clause-parts c =
    (Plain (to_le_bytes w32 c.in-Word.word) ∷ [], rw c.in-Word.is refl, put_plain c.args.out.now.items c.put_word.new.out.items (to_le_bytes w32 c.in-Word.word) c.in_ok-put_word-in-Word.ensures)

pub returns-in_ok-push-in-Byte-clause-parts : goal.returns-in_ok-push-in-Byte-clause-parts
unfolding parts_of
returns-in_ok-push-in-Byte-clause-parts c =
    (Plain (c.in-Byte.byte ∷ []) ∷ [], rw c.in-Byte.is refl, put_plain c.args.out.now.items c.push.new.self.items (c.in-Byte.byte ∷ []) c.in_ok-push-in-Byte.ensures.items)

pub returns-in_ok-put_zeros-in-Zero-clause-parts : goal.returns-in_ok-put_zeros-in-Zero-clause-parts
unfolding parts_of
returns-in_ok-put_zeros-in-Zero-clause-parts c =
    (Plain (replicate c.in-Zero.count 0) ∷ [], rw c.in-Zero.is refl, put_plain c.args.out.now.items c.put_zeros.new.out.items (replicate c.in-Zero.count 0) c.in_ok-put_zeros-in-Zero.ensures)

pub returns-in_ok-put_word-in-Address-clause-parts : goal.returns-in_ok-put_word-in-Address-clause-parts
unfolding parts_of
returns-in_ok-put_word-in-Address-clause-parts c =
    let target = sym c.in_ok-address_of-in-Address.ensures in
    let bytes = to_le_bytes w32 c.in_ok-address_of-in-Address.field-0 in
    (Plain bytes ∷ [], rw (c.in-Address.is, target) refl, put_plain c.args.out.now.items c.put_word-in-Address.new.out.items bytes c.in_ok-put_word-in-Address.ensures)

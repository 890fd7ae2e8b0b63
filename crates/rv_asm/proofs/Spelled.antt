-- The laws of what is assembled.
use Rattle.std.proofs.Common.{◌≡◌, ℕ, ◌+◌, ◌^◌, ◌<◌, List, [], ◌∷◌, ◌++◌, length, take, refl, sym, ap, ◌∙◌}
use Rattle.std.specs.Int.{w32, to_le_bytes, from_le_bytes}
use Rattle.std.proofs.lemmas.List.{take_at}
use Rattle.std.proofs.lemmas.Nat.{from_le_bytes-to_le_bytes_4}
use Rattle.std.proofs.Math.Seq.{drop-append-add}
use Rattle.rv_model.specs.Words.{instruction_of}
use Rattle.rv_inst.proofs.Joined.{one_word}
use Rattle.rv_asm.specs.SecondPass.{Instruction, Plain}
use Rattle.rv_asm.specs.Law.{parts_size, word_at, InstructionsDecode, PartsHaveOneSpelling}

-- a place behind a word, or behind bytes
behind_word : (place word : ℕ) (rest bytes : List ℕ) → bytes ≡ to_le_bytes w32 word ++ rest → word_at (4 + place) bytes ≡ word_at place rest
behind_word place word rest bytes e =
    ap (word_at (4 + place)) e ∙ ap (λ (left : List ℕ). from_le_bytes w32 (take 4 left)) (drop-append-add (to_le_bytes w32 word) rest place)

behind_bytes : (place : ℕ) (plain rest bytes : List ℕ) → bytes ≡ plain ++ rest → word_at (length plain + place) bytes ≡ word_at place rest
behind_bytes place plain rest bytes e =
    ap (word_at (length plain + place)) e ∙ ap (λ (left : List ℕ). from_le_bytes w32 (take 4 left)) (drop-append-add plain rest place)

word_in_front : (word : ℕ) (rest bytes : List ℕ) → word < 2 ^ 32 → bytes ≡ to_le_bytes w32 word ++ rest → word_at 0 bytes ≡ word
word_in_front word rest bytes lt e =
    ap (word_at 0) e ∙ ap (from_le_bytes w32) (take_at (to_le_bytes w32 word) rest 4 refl) ∙ from_le_bytes-to_le_bytes_4 word lt

pub decodes : InstructionsDecode
decodes [] back inst bytes s = ap instruction_of (word_in_front s.0 s.1 bytes s.2 s.4) ∙ s.3
decodes (Instruction first ∷ front) back inst bytes s = ap instruction_of (behind_word (parts_size front) s.0 s.1 bytes s.4) ∙ decodes front back inst s.1 s.5
decodes (Plain plain ∷ front) back inst bytes s = ap instruction_of (behind_bytes (parts_size front) plain s.0 bytes s.1) ∙ decodes front back inst s.0 s.2

pub one_spelling : PartsHaveOneSpelling
one_spelling [] first second s t = s ∙ sym t
one_spelling (Instruction inst ∷ parts) first second s t =
    s.4
    ∙ ap (λ (word : ℕ). to_le_bytes w32 word ++ s.1) (one_word s.0 t.0 inst s.2 t.2 s.3 t.3)
    ∙ ap (λ (rest : List ℕ). to_le_bytes w32 t.0 ++ rest) (one_spelling parts s.1 t.1 s.5 t.5)
    ∙ sym t.4
one_spelling (Plain plain ∷ parts) first second s t =
    s.1 ∙ ap (λ (rest : List ℕ). plain ++ rest) (one_spelling parts s.0 t.0 s.2 t.2) ∙ sym t.1

-- A list that is split at each byte that passes, from the first such byte on.
use Rattle.std.proofs.Common.{◌≡◌, ℕ, List, [], ◌∷◌, map, Option, Some, None, Ok, Err, refl, ap, ◌∙◌}
use Rattle.rv_asm.specs.declared.fault.AsmKind.{AsmKind}
use Rattle.rv_asm.specs.declared.fault.AsmKind.TheVariants.{Operands}
use Rattle.rv_asm.specs.Faults.{◌>>=◌}
use Rattle.ce_text.proofs.Splitting.{split_cut, split_behind}
use Rattle.ce_text.specs.Line.{cut_parts, without_outer_blanks}
use Rattle.rv_asm.specs.Line.{pieces, comma_pieces, is_comma}
use Rattle.rv_asm.specs.Operand.{single_text, text_pair, text_triple, one_piece, two_pieces, three_pieces}

map_behind : (rest : Option (List ℕ)) → map without_outer_blanks (split_behind is_comma rest) ≡ comma_pieces rest
unfolding pieces
map_behind None = refl
map_behind (Some rest) = refl

pub pieces_cut : (operands : List ℕ) → pieces operands ≡ without_outer_blanks (cut_parts is_comma operands).0 ∷ comma_pieces (cut_parts is_comma operands).1
unfolding pieces
pieces_cut operands = ap (map without_outer_blanks) (split_cut is_comma operands) ∙ ap (λ (others : List (List ℕ)). without_outer_blanks (cut_parts is_comma operands).0 ∷ others) (map_behind (cut_parts is_comma operands).1)

-- ---- how many operands there are, from the first one on

module _ (operands first : List ℕ) where
  pub one_alone : pieces operands ≡ first ∷ [] → one_piece operands ≡ Ok first
  unfolding one_piece
  one_alone e = ap single_text e

  pub two_alone : pieces operands ≡ first ∷ [] → two_pieces operands ≡ Err Operands
  unfolding two_pieces
  two_alone e = ap text_pair e

  pub three_alone : pieces operands ≡ first ∷ [] → three_pieces operands ≡ Err Operands
  unfolding three_pieces
  three_alone e = ap text_triple e

  module _ (rest : List ℕ) where
    pub one_more : pieces operands ≡ first ∷ pieces rest → one_piece operands ≡ Err Operands
    unfolding one_piece
    one_more e = ap single_text (e ∙ ap (λ (others : List (List ℕ)). first ∷ others) (pieces_cut rest))

    pub two_wrong : (kind : AsmKind) → pieces operands ≡ first ∷ pieces rest → one_piece rest ≡ Err kind → two_pieces operands ≡ Err kind
    unfolding two_pieces one_piece
    two_wrong kind e wrong = ap text_pair e ∙ ap (λ judgment. judgment >>= λ second. Ok (first, second)) wrong

    pub two_more : (second : List ℕ) → pieces operands ≡ first ∷ pieces rest → one_piece rest ≡ Ok second → two_pieces operands ≡ Ok (first, second)
    unfolding two_pieces one_piece
    two_more second e found = ap text_pair e ∙ ap (λ judgment. judgment >>= λ second. Ok (first, second)) found

    pub three_wrong : (kind : AsmKind) → pieces operands ≡ first ∷ pieces rest → two_pieces rest ≡ Err kind → three_pieces operands ≡ Err kind
    unfolding three_pieces two_pieces
    three_wrong kind e wrong = ap text_triple e ∙ ap (λ judgment. judgment >>= λ last. Ok (first, last.0, last.1)) wrong

    pub three_more : (second third : List ℕ) → pieces operands ≡ first ∷ pieces rest → two_pieces rest ≡ Ok (second, third) → three_pieces operands ≡ Ok (first, second, third)
    unfolding three_pieces two_pieces
    three_more second third e found = ap text_triple e ∙ ap (λ judgment. judgment >>= λ last. Ok (first, last.0, last.1)) found

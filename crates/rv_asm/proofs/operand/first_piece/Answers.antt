use Rattle.std.proofs.Common.{◌∷◌, List, ℕ, Option, ap, sym, ◌∙◌}
use Rattle.ce_text.specs.Line.{without_outer_blanks}
use Rattle.rv_asm.specs.Line.{comma_pieces}
use Rattle.rv_asm.proofs.Pieces.{pieces_cut}
use Rattle.rv_asm.proofs.operand.first_piece.Goals as goal

pub returns-clause-parts : goal.returns-clause-parts
returns-clause-parts c = rw c.without_outer_blanks.ensures (pieces_cut c.args.operands.now ∙ ap (λ (parts : List ℕ × Option (List ℕ)). without_outer_blanks parts.0 ∷ comma_pieces parts.1) (sym c.cut_at.ensures.parts))

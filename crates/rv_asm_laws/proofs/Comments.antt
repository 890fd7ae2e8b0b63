-- A comment changes nothing.
use Rattle.std.proofs.Common.{◌≡◌, ℕ, false, List, ◌∷◌, ◌++◌, Option, refl, sym, ap, ◌∙◌}
use Rattle.std.specs.Prelude.{not}
use Rattle.std.specs.List.{list_any, list_all}
use Rattle.ce_text.specs.Bytes.{is_hash, is_plain}
use Rattle.ce_text.specs.Line.{cut_parts, before_comment}
use Rattle.rv_asm.specs.FirstPass.{LayoutSoFar, layout_with_labelled_statement, layout_with_line}
use Rattle.rv_asm.specs.declared.fault.AsmKind.TheVariants.{BadByte}
use Rattle.rv_asm.specs.Faults.{◌>>=◌, refusal}
use Rattle.rv_asm.specs.Line.{is_colon}
use Rattle.ce_text.proofs.CutParts.{cut_none, cut_mark}

same_code : (line comment : List ℕ) → list_any is_hash line ≡ false → before_comment (line ++ 35 ∷ comment) ≡ before_comment line
unfolding before_comment
same_code line comment e = ap (λ (parts : List ℕ × Option (List ℕ)). parts.0) (cut_mark is_hash line 35 comment e refl) ∙ ap (λ (parts : List ℕ × Option (List ℕ)). parts.0) (sym (cut_none is_hash line e))

by_code : (number : ℕ) (layout : LayoutSoFar) (first second : List ℕ) → before_comment first ≡ before_comment second → layout_with_line number layout first ≡ layout_with_line number layout second
unfolding layout_with_line
by_code number layout first second e =
    ap (λ (code : List ℕ). refusal (not (list_all is_plain code)) BadByte >>= λ plain. layout_with_labelled_statement number layout (cut_parts is_colon code).0 (cut_parts is_colon code).1) e

pub comment_goes : (number : ℕ) (layout : LayoutSoFar) (line comment : List ℕ) → list_any is_hash line ≡ false → layout_with_line number layout (line ++ 35 ∷ comment) ≡ layout_with_line number layout line
comment_goes number layout line comment e = by_code number layout (line ++ 35 ∷ comment) line (same_code line comment e)

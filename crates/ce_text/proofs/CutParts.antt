-- Cuts of bytes of several parts, at the first byte that passes.
use Rattle.std.proofs.Common.{◌≡◌, ℕ, suc, ◌+◌, Bool, true, false, List, [], ◌∷◌, ◌++◌, length, Option, Some, None, refl, sym, ap, ◌∙◌, append_assoc, arith}
use Rattle.std.specs.Prelude.{nat_lt}
use Rattle.std.specs.List.{list_any, position_or_len}
use Rattle.std.proofs.lemmas.Bool.{or_parts, ltb-true, ltb-false, lt-ltb, le-ltb}
use Rattle.std.proofs.lemmas.List.{append-nil}
use Rattle.ce_text.specs.Line.{cut_parts}

-- what a cut gives of more bytes in front, or at the end
abbrev pub parts_with_front : List ℕ → List ℕ × Option (List ℕ) → List ℕ × Option (List ℕ)
parts_with_front bytes (front, rest) = (bytes ++ front, rest)

abbrev pub parts_with_end : List ℕ → List ℕ × Option (List ℕ) → List ℕ × Option (List ℕ)
parts_with_end bytes (front, None) = (front ++ bytes, None)
parts_with_end bytes (front, Some rest) = (front, Some (rest ++ bytes))

less_more : (a b : ℕ) (within : Bool) → nat_lt a b ≡ within → nat_lt (1 + a) (suc b) ≡ within
less_more a b true e = lt-ltb _ _ (omega (arith, ltb-true a b e))
less_more a b false e = le-ltb _ _ (omega (arith, ltb-false a b e))

module _ (test : ℕ → Bool) (byte : ℕ) (bytes : List ℕ) where
  cut_here : test byte ≡ true → cut_parts test (byte ∷ bytes) ≡ ([], Some bytes)
  unfolding cut_parts
  cut_here e =
      let place : position_or_len test (byte ∷ bytes) ≡ 0 = rw e refl in
      let within : nat_lt 0 (suc (length bytes)) ≡ true = lt-ltb _ _ (omega arith) in
      rw (place, within) refl

  pub cut_later : test byte ≡ false → cut_parts test (byte ∷ bytes) ≡ parts_with_front (byte ∷ []) (cut_parts test bytes)
  unfolding cut_parts
  cut_later e =
      let n = position_or_len test bytes in
      let more : position_or_len test (byte ∷ bytes) ≡ suc n = (let p : position_or_len test (byte ∷ bytes) ≡ 1 + n = rw e refl in omega (arith, p)) in
      let less : nat_lt (suc n) (suc (length bytes)) ≡ nat_lt n (length bytes) = ap (λ (k : ℕ). nat_lt k (suc (length bytes))) (omega arith) ∙ less_more n (length bytes) (nat_lt n (length bytes)) refl in
      let behind : suc n + 1 ≡ suc (n + 1) = omega arith in
      rw (more, behind, less) refl

pub cut_front : (test : ℕ → Bool) (front bytes : List ℕ) → list_any test front ≡ false → cut_parts test (front ++ bytes) ≡ parts_with_front front (cut_parts test bytes)
cut_front test [] bytes e = refl
cut_front test (byte ∷ front) bytes e =
    let parts = or_parts (test byte) (list_any test front) e in
    cut_later test byte (front ++ bytes) parts.0 ∙ ap (parts_with_front (byte ∷ [])) (cut_front test front bytes parts.1)

pub cut_none : (test : ℕ → Bool) (bytes : List ℕ) → list_any test bytes ≡ false → cut_parts test bytes ≡ (bytes, None)
unfolding cut_parts
cut_none test [] e = refl
cut_none test (byte ∷ bytes) e =
    let parts = or_parts (test byte) (list_any test bytes) e in
    cut_later test byte bytes parts.0 ∙ ap (parts_with_front (byte ∷ [])) (cut_none test bytes parts.1)

end_of_front : (front bytes : List ℕ) (parts : List ℕ × Option (List ℕ)) → parts_with_front front (parts_with_end bytes parts) ≡ parts_with_end bytes (parts_with_front front parts)
end_of_front front bytes (first, None) = ap (λ (it : List ℕ). (it, None)) (sym (append_assoc front first bytes))
end_of_front front bytes (first, Some rest) = refl

cut_end_by : (test : ℕ → Bool) (byte : ℕ) (bytes more : List ℕ) (passes : Bool) → test byte ≡ passes → cut_parts test (bytes ++ more) ≡ parts_with_end more (cut_parts test bytes)
    → cut_parts test (byte ∷ bytes ++ more) ≡ parts_with_end more (cut_parts test (byte ∷ bytes))
cut_end_by test byte bytes more true e others = cut_here test byte (bytes ++ more) e ∙ ap (parts_with_end more) (sym (cut_here test byte bytes e))
cut_end_by test byte bytes more false e others =
    cut_later test byte (bytes ++ more) e ∙ ap (parts_with_front (byte ∷ [])) others ∙ end_of_front (byte ∷ []) more (cut_parts test bytes) ∙ ap (parts_with_end more) (sym (cut_later test byte bytes e))

pub cut_end : (test : ℕ → Bool) (bytes more : List ℕ) → list_any test more ≡ false → cut_parts test (bytes ++ more) ≡ parts_with_end more (cut_parts test bytes)
unfolding cut_parts
cut_end test [] more e = cut_none test more e
cut_end test (byte ∷ bytes) more e = cut_end_by test byte bytes more (test byte) refl (cut_end test bytes more e)

pub cut_mark : (test : ℕ → Bool) (front : List ℕ) (mark : ℕ) (rest : List ℕ) → list_any test front ≡ false → test mark ≡ true → cut_parts test (front ++ mark ∷ rest) ≡ (front, Some rest)
cut_mark test front mark rest e m = cut_front test front (mark ∷ rest) e ∙ ap (parts_with_front front) (cut_here test mark rest m) ∙ ap (λ (bytes : List ℕ). (bytes, Some rest)) (append-nil front)

-- Cutting a list at its first byte that passes, and trimming blanks.
use Rattle.std.proofs.Common.{◌≡◌, ℕ, ◌+◌, ◌-◌, ◌<◌, Bool, true, false, cond, ltb, List, [], ◌∷◌, ◌++◌, length, get_or, take, drop, Option, Some, None, refl, sym, ap, ◌∙◌, arith}
use Rattle.std.specs.Prelude.{position, MatchOption}
use Rattle.std.specs.List.{position_or_len}
use Rattle.std.proofs.lemmas.Bool.{ltb-false}
use Rattle.std.proofs.lemmas.List.{take_all, take_more, length-drop}
use Rattle.ce_text.specs.Bytes.{is_blank}
use Rattle.ce_text.specs.Line.{cut_parts, with_front_byte, without_front_blanks, without_end_blanks}

-- the cut at a place, if it is within the list
abbrev bounded_parts : ℕ → List ℕ → Bool → List ℕ × Option (List ℕ)
bounded_parts place bytes within = (take place bytes, cond within (Some (drop (place + 1) bytes)) None)

abbrev pub uncut_parts : List ℕ → List ℕ × Option (List ℕ)
uncut_parts bytes = (bytes, None)

abbrev pub parts_at_place : List ℕ → ℕ → List ℕ × Option (List ℕ)
parts_at_place bytes place = (take place bytes, Some (take (length bytes - (place + 1)) (drop (place + 1) bytes)))

abbrev front_and_rest : List ℕ → List ℕ → List ℕ × Option (List ℕ)
front_and_rest front rest = (front, Some rest)

whole : (n : ℕ) (bytes : List ℕ) → drop n bytes ≡ take (length bytes - n) (drop n bytes)
whole n bytes = sym (take_all (length bytes - n) (drop n bytes) (omega (arith, length-drop n bytes)))

cut_by : (place : ℕ) (bytes : List ℕ) (within : Bool) → ltb place (length bytes) ≡ within → (found : Option ℕ) → found ≡ cond within (Some place) None
    → MatchOption found (bounded_parts place bytes within ≡ uncut_parts bytes) (λ k. bounded_parts place bytes within ≡ parts_at_place bytes k)
cut_by place bytes true lt None e = absurd cc
cut_by place bytes true lt (Some k) e =
    let same : place ≡ k = cc in
    ap (front_and_rest (take place bytes)) (whole (place + 1) bytes) ∙ ap (parts_at_place bytes) same
cut_by place bytes false lt None e = ap uncut_parts (take_all place bytes (ltb-false place (length bytes) lt))
cut_by place bytes false lt (Some k) e = absurd cc

-- the cut, from the place that `position` found
pub cut_at_place : (test : ℕ → Bool) (bytes : List ℕ) (found : Option ℕ) → found ≡ position test bytes
    → MatchOption found (cut_parts test bytes ≡ uncut_parts bytes) (λ place. cut_parts test bytes ≡ parts_at_place bytes place)
unfolding cut_parts
cut_at_place test bytes found e = cut_by (position_or_len test bytes) bytes (ltb (position_or_len test bytes) (length bytes)) refl found e

-- ---- blanks at the front

pub front_blank_goes : (bytes : List ℕ) → 0 < length bytes → is_blank (get_or bytes 0 0) ≡ true → without_front_blanks (take (length bytes - 1) (drop 1 bytes)) ≡ without_front_blanks bytes
unfolding without_front_blanks
front_blank_goes [] lt e = absurd (omega arith)
front_blank_goes (byte ∷ bytes) lt e =
    let whole : take (length (byte ∷ bytes) - 1) (drop 1 (byte ∷ bytes)) ≡ bytes = take_all (length (byte ∷ bytes) - 1) bytes (omega arith) in
    ap without_front_blanks whole ∙ rw e refl

pub front_stays : (bytes : List ℕ) → 0 < length bytes → is_blank (get_or bytes 0 0) ≡ false → without_front_blanks bytes ≡ bytes
unfolding without_front_blanks
front_stays [] lt e = refl
front_stays (byte ∷ bytes) lt e = rw e refl

pub front_empty : (bytes : List ℕ) → length bytes ≡ 0 → without_front_blanks bytes ≡ bytes
unfolding without_front_blanks
front_empty [] e = refl
front_empty (byte ∷ bytes) e = absurd (omega arith)

-- ---- blanks at the end

end_blank : (bytes : List ℕ) (last : ℕ) → is_blank last ≡ true → without_end_blanks (bytes ++ last ∷ []) ≡ without_end_blanks bytes
unfolding without_end_blanks
end_blank [] last e = rw e refl
end_blank (byte ∷ bytes) last e = ap (with_front_byte byte) (end_blank bytes last e)

onto_more : (byte : ℕ) (bytes : List ℕ) (last : ℕ) → with_front_byte byte (bytes ++ last ∷ []) ≡ byte ∷ (bytes ++ last ∷ [])
onto_more byte [] last = refl
onto_more byte (next ∷ bytes) last = refl

end_other : (bytes : List ℕ) (last : ℕ) → is_blank last ≡ false → without_end_blanks (bytes ++ last ∷ []) ≡ bytes ++ last ∷ []
unfolding without_end_blanks
end_other [] last e = rw e refl
end_other (byte ∷ bytes) last e = ap (with_front_byte byte) (end_other bytes last e) ∙ onto_more byte bytes last

-- a list that is not empty is its front and its last element
front_and_last : (bytes : List ℕ) → 0 < length bytes → bytes ≡ take (length bytes - 1) bytes ++ get_or bytes (length bytes - 1) 0 ∷ []
front_and_last bytes lt =
    let n : length bytes - 1 < length bytes = omega arith in
    let whole : length bytes - 1 + 1 ≡ length bytes = omega arith in
    let all : take (length bytes - 1 + 1) bytes ≡ bytes = take_all (length bytes - 1 + 1) bytes (omega arith) in
    sym all ∙ take_more bytes (length bytes - 1) 0 n

pub end_blank_goes : (bytes : List ℕ) → 0 < length bytes → is_blank (get_or bytes (length bytes - 1) 0) ≡ true → without_end_blanks (take (length bytes - 1) bytes) ≡ without_end_blanks bytes
end_blank_goes bytes lt e =
    sym (ap without_end_blanks (front_and_last bytes lt) ∙ end_blank (take (length bytes - 1) bytes) (get_or bytes (length bytes - 1) 0) e)

pub end_stays : (bytes : List ℕ) → 0 < length bytes → is_blank (get_or bytes (length bytes - 1) 0) ≡ false → without_end_blanks bytes ≡ bytes
end_stays bytes lt e =
    ap without_end_blanks (front_and_last bytes lt) ∙ end_other (take (length bytes - 1) bytes) (get_or bytes (length bytes - 1) 0) e ∙ sym (front_and_last bytes lt)

pub end_empty : (bytes : List ℕ) → length bytes ≡ 0 → without_end_blanks bytes ≡ bytes
unfolding without_end_blanks
end_empty [] e = refl
end_empty (byte ∷ bytes) e = absurd (omega arith)

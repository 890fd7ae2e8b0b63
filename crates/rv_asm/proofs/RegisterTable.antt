-- A register by the place of its name.
use Rattle.std.proofs.Common.{◌≡◌, ℕ, ◌+◌, List, [], ◌∷◌, option_map, refl, inl, inr}
use Rattle.std.specs.Prelude.{bytes_eq, codes}
use Rattle.std.proofs.lemmas.Bool.{cases_Bool}
use Rattle.ce_text.specs.Table.{table_value}
use Rattle.rv_asm.specs.Places.{place_of, register_number}
use Rattle.rv_asm.specs.Register.{register_names, named_register}

-- texts, each with what its place gives
abbrev placed : {X : Type 0} → (ℕ → X) → ℕ → List (List ℕ) → List (List ℕ × X)
placed value place [] = []
placed value place (word ∷ words) = (word, value place) ∷ placed value (place + 1) words

look_up_placed : {X : Type 0} (value : ℕ → X) (place : ℕ) (words : List (List ℕ)) (text : List ℕ)
    → table_value (placed value place words) text ≡ option_map value (place_of place words text)
look_up_placed value place [] text = refl
look_up_placed value place (word ∷ words) text = elim (cases_Bool (bytes_eq word text)) [
  | inl t ↦ rw t refl
  | inr f ↦ rw f (look_up_placed value (place + 1) words text)
]

abbrev pub names : List (List ℕ)
names =
    codes "zero" ∷ codes "ra" ∷ codes "sp" ∷ codes "gp" ∷ codes "tp" ∷ codes "t0" ∷ codes "t1" ∷ codes "t2"
    ∷ codes "s0" ∷ codes "s1" ∷ codes "a0" ∷ codes "a1" ∷ codes "a2" ∷ codes "a3" ∷ codes "a4" ∷ codes "a5"
    ∷ codes "a6" ∷ codes "a7" ∷ codes "s2" ∷ codes "s3" ∷ codes "s4" ∷ codes "s5" ∷ codes "s6" ∷ codes "s7"
    ∷ codes "s8" ∷ codes "s9" ∷ codes "s10" ∷ codes "s11" ∷ codes "t3" ∷ codes "t4" ∷ codes "t5" ∷ codes "t6"
    ∷ codes "fp" ∷ codes "x0" ∷ codes "x1" ∷ codes "x2" ∷ codes "x3" ∷ codes "x4" ∷ codes "x5" ∷ codes "x6"
    ∷ codes "x7" ∷ codes "x8" ∷ codes "x9" ∷ codes "x10" ∷ codes "x11" ∷ codes "x12" ∷ codes "x13" ∷ codes "x14"
    ∷ codes "x15" ∷ codes "x16" ∷ codes "x17" ∷ codes "x18" ∷ codes "x19" ∷ codes "x20" ∷ codes "x21" ∷ codes "x22"
    ∷ codes "x23" ∷ codes "x24" ∷ codes "x25" ∷ codes "x26" ∷ codes "x27" ∷ codes "x28" ∷ codes "x29" ∷ codes "x30"
    ∷ codes "x31"
    ∷ []

pub register_by_place : (text : List ℕ) → named_register text ≡ option_map register_number (place_of 0 names text)
unfolding named_register register_names
register_by_place text = look_up_placed register_number 0 names text

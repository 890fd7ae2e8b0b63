-- The second pass, statement by statement.
use Rattle.std.proofs.Common.{◌≡◌, ℕ, zero, suc, ◌+◌, ◌<◌, ◌≤◌, List, [], ◌∷◌, ◌++◌, length, get_or, drop, Result, Ok, Err, refl, sym, ap, subst, ◌∙◌, arith, append_assoc}
use Rattle.std.proofs.lemmas.List.{append-nil, at_drop_all, drop_more}
use Rattle.std.specs.Int.{w32, to_le_bytes}
use Rattle.rv_model.specs.declared.limits.TheConstants.{PRIVATE_START}
use Rattle.rv_asm.specs.declared.fault.AsmKind.{AsmKind}
use Rattle.rv_asm.specs.declared.fault.AsmFault.{AsmFault}
use Rattle.rv_asm.specs.declared.statement.PlacedStatement.{PlacedStatement}
use Rattle.rv_asm.specs.Faults.{◌>>=◌}
use Rattle.rv_asm.specs.Names.{Names}
use Rattle.rv_asm.specs.Sizes.{size_of}
use Rattle.rv_asm.specs.Sound.{IsSoundStatement, ArePlacedSound}
use Rattle.rv_asm.specs.FirstPass.{judgment_at_line}
use Rattle.rv_asm.specs.SecondPass.{Part, Instruction, Plain, parts_of, second_pass}
use Rattle.rv_asm.specs.Spelling.{IsSpellingOf, HasAppendedParts}

pub spells_append : (front back : List Part) (xs ys : List ℕ) → IsSpellingOf front xs → IsSpellingOf back ys → IsSpellingOf (front ++ back) (xs ++ ys)
spells_append [] back xs ys s t = subst (λ (zs : List ℕ). IsSpellingOf back (zs ++ ys)) (sym s) t
spells_append (Instruction inst ∷ front) back xs ys s t =
    (s.0, s.1 ++ ys, s.2, s.3, ap (λ (zs : List ℕ). zs ++ ys) s.4 ∙ append_assoc (to_le_bytes w32 s.0) s.1 ys, spells_append front back s.1 ys s.5 t)
spells_append (Plain plain ∷ front) back xs ys s t =
    (s.0 ++ ys, ap (λ (zs : List ℕ). zs ++ ys) s.1 ∙ append_assoc plain s.0 ys, spells_append front back s.0 ys s.2 t)

-- parts in front of those that a pass gives
abbrev pub parts_with_front : List Part → List Part → Result (List Part) AsmFault
parts_with_front front parts = Ok (front ++ parts)

-- the bytes lay out parts, and with those of the statements that are left they are the whole
pub record IsPutSoFar (names : Names) (all : List PlacedStatement) (i : ℕ) (bytes : List ℕ) : Type 0 where
  pub parts : List Part
  pub spelled : IsSpellingOf parts bytes
  pub whole : second_pass names PRIVATE_START all ≡ (second_pass names (PRIVATE_START + length bytes) (drop i all) >>= parts_with_front parts)

pub put_plain : (old new plain : List ℕ) → new ≡ old ++ plain → HasAppendedParts (Plain plain ∷ []) old new
put_plain old new plain e = (plain, ([], sym (append-nil plain), refl), e)

nothing_behind : (r : Result (List Part) AsmFault) → r ≡ (r >>= parts_with_front [])
nothing_behind (Ok parts) = refl
nothing_behind (Err fault) = refl

pub put_none : (names : Names) (all : List PlacedStatement) (bytes : List ℕ) → bytes ≡ [] → IsPutSoFar names all 0 bytes
put_none names all bytes e =
    subst (IsPutSoFar names all 0) (sym e) (record { parts = []; spelled = refl; whole = nothing_behind (second_pass names PRIVATE_START all) })

-- what is left to do from a statement on, whose parts are known
abbrev pub result_with_front : Names → ℕ → List PlacedStatement → List Part → List Part → Result (List Part) AsmFault
result_with_front names address others front here = (second_pass names address others >>= λ there. Ok (here ++ there)) >>= parts_with_front front

flat : (line : ℕ) (r : Result (List Part) AsmKind) (next : List Part → Result (List Part) AsmFault) (front : List Part) → ((judgment_at_line line r >>= next) >>= parts_with_front front) ≡ (judgment_at_line line r >>= λ here. next here >>= parts_with_front front)
flat line (Ok here) next front = refl
flat line (Err kind) next front = refl

pub put_step : (names : Names) (all : List PlacedStatement) (i : ℕ) (d : PlacedStatement) (old : List ℕ) → i < length all → (before : IsPutSoFar names all i old)
    → second_pass names PRIVATE_START all
    ≡ (judgment_at_line (get_or all i d).line (parts_of names (PRIVATE_START + length old) (get_or all i d).statement)
    >>= result_with_front names (PRIVATE_START + length old + size_of (get_or all i d).statement) (drop (i + 1) all) before.parts)
unfolding second_pass
put_step names all i d old lt before =
    before.whole
    ∙ ap (λ (placed : List PlacedStatement). second_pass names (PRIVATE_START + length old) placed >>= parts_with_front before.parts) (drop_more all i d lt)
    ∙ flat (get_or all i d).line (parts_of names (PRIVATE_START + length old) (get_or all i d).statement)
    (λ here. second_pass names (PRIVATE_START + length old + size_of (get_or all i d).statement) (drop (i + 1) all) >>= λ there. Ok (here ++ there)) before.parts

regroup : (front here : List Part) (r : Result (List Part) AsmFault) → ((r >>= λ there. Ok (here ++ there)) >>= parts_with_front front) ≡ (r >>= parts_with_front (front ++ here))
regroup front here (Ok there) = ap (λ (parts : List Part). Ok parts) (sym (append_assoc front here there))
regroup front here (Err fault) = refl

pub put_more : (names : Names) (all : List PlacedStatement) (i : ℕ) (d : PlacedStatement) (old new : List ℕ) → i < length all → IsPutSoFar names all i old
    → (parts : List Part) → parts_of names (PRIVATE_START + length old) (get_or all i d).statement ≡ Ok parts → HasAppendedParts parts old new → length new ≡ length old + size_of (get_or all i d).statement
    → IsPutSoFar names all (i + 1) new
put_more names all i d old new lt before parts e appended size =
    let there : PRIVATE_START + length old + size_of (get_or all i d).statement ≡ PRIVATE_START + length new = omega arith in
    record {
      parts = before.parts ++ parts;
      spelled = subst (IsSpellingOf (before.parts ++ parts)) (sym appended.2) (spells_append before.parts parts old appended.0 before.spelled appended.1);
      whole =
          put_step names all i d old lt before
          ∙ ap (λ (r : Result (List Part) AsmKind). judgment_at_line (get_or all i d).line r >>= result_with_front names (PRIVATE_START + length old + size_of (get_or all i d).statement) (drop (i + 1) all) before.parts) e
          ∙ regroup before.parts parts (second_pass names (PRIVATE_START + length old + size_of (get_or all i d).statement) (drop (i + 1) all))
          ∙ ap (λ (address : ℕ). second_pass names address (drop (i + 1) all) >>= parts_with_front (before.parts ++ parts)) there;
    }

pub put_all : (names : Names) (all : List PlacedStatement) (i : ℕ) (bytes : List ℕ) → length all ≤ i → (so_far : IsPutSoFar names all i bytes) → second_pass names PRIVATE_START all ≡ Ok so_far.parts
unfolding second_pass
put_all names all i bytes le so_far =
    so_far.whole
    ∙ ap (λ (r : Result (List Part) AsmFault). r >>= parts_with_front so_far.parts) (at_drop_all (second_pass names (PRIVATE_START + length bytes)) all i le)
    ∙ ap (λ (parts : List Part). Ok parts) (append-nil so_far.parts)

pub sound_at : (all : List PlacedStatement) (i : ℕ) (d : PlacedStatement) → i < length all → ArePlacedSound all → IsSoundStatement (get_or all i d).statement
sound_at [] i d lt h = absurd (omega arith)
sound_at (placed ∷ all) zero d lt h = h.0
sound_at (placed ∷ all) (suc i) d lt h = sound_at all i d (omega arith) h.1

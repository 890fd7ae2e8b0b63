-- What is written in several pieces.
use Rattle.std.proofs.Common.{◌≡◌, ℕ, ◌+◌, List, ◌++◌, Option, Some, None, length, take, min, refl, ap, sym, ◌∙◌, append_assoc, arith, Result, Ok, Err, OnErr}
use Rattle.std.specs.Io.KnownBytes.{append_known}
use Rattle.std.proofs.lemmas.Grind.{common_steps}
use Rattle.std.proofs.Math.Seq.{take-append-add}

-- one piece behind the other
pub known_pieces : (known : Option (List ℕ)) (first rest : List ℕ) → append_known (append_known known first) rest ≡ append_known known (first ++ rest)
known_pieces None first rest = refl
known_pieces (Some before) first rest = ap (λ l. Some l) (append_assoc before first rest)

-- a front part of all the pieces, where the first one was written in part
take_within : (first rest : List ℕ) (n : ℕ) → take (min n (length first)) (first ++ rest) ≡ take n first
take_within first rest n = grind (arith, common_steps)

pub part_of_first : (known now : Option (List ℕ)) (first rest : List ℕ) (n : ℕ) → now ≡ append_known known (take n first)
    → (m : ℕ) × (now ≡ append_known known (take m (first ++ rest)))
part_of_first known now first rest n h = (min n (length first), h ∙ ap (append_known known) (sym (take_within first rest n)))

-- and where it was written whole, and a part of the others
take_behind : (first rest : List ℕ) (n : ℕ) → take (length first + n) (first ++ rest) ≡ first ++ take n rest
take_behind first rest n = take-append-add first rest n

pub part_of_rest : (known mid now : Option (List ℕ)) (first rest : List ℕ) (n : ℕ) → mid ≡ append_known known first → now ≡ append_known mid (take n rest)
    → (m : ℕ) × (now ≡ append_known known (take m (first ++ rest)))
part_of_rest known mid now first rest n first_is rest_is = (
  length first + n,
  rest_is ∙ ap (λ k. append_known k (take n rest)) first_is ∙ known_pieces known first (take n rest)
      ∙ ap (append_known known) (sym (take_behind first rest n)),
)

-- a fact that holds anyway holds where there is an error
pub on_err : {T E : Type 0} (result : Result T E) (P : Type 0) → P → OnErr result P
on_err (Ok x) P p = tt
on_err (Err e) P p = p

-- what is wanted where there is an error follows from what is known there
pub map_err_fact : {T E : Type 0} (result : Result T E) (P Q : Type 0) → (P → Q) → OnErr result P → OnErr result Q
map_err_fact (Ok x) P Q f p = tt
map_err_fact (Err e) P Q f p = f p

-- Looking for the place of a text among others, one by one.
use Rattle.std.proofs.Common.{◌≡◌, ℕ, ◌+◌, ◌<◌, ◌≤◌, Bool, true, false, cond, List, ◌∷◌, length, get_or, drop, map, Some, None, Bor, refl, ◌∙◌}
use Rattle.std.specs.Str.{bytes_eq}
use Rattle.std.proofs.lemmas.List.{at_drop_more, at_drop_all}
use Rattle.rv_asm.specs.Places.{place_of}

-- the texts from a place on
abbrev pub texts_from : List (Bor (List ℕ)) → ℕ → List (List ℕ)
texts_from texts i = map (λ it. it.now) (drop i texts)

found_by : (first : Bor (List ℕ)) (texts : List (Bor (List ℕ))) (text : List ℕ) (i : ℕ) (same : Bool) → bytes_eq first.now text ≡ same
    → place_of i (map (λ (it : Bor (List ℕ)). it.now) (first ∷ texts)) text ≡ cond same (Some i) (place_of (i + 1) (map (λ (it : Bor (List ℕ)). it.now) texts) text)
found_by first texts text i true e = rw e refl
found_by first texts text i false e = rw e refl

pub place_more : (texts : List (Bor (List ℕ))) (text : List ℕ) (i : ℕ) (d : Bor (List ℕ)) (same : Bool) → i < length texts → bytes_eq (get_or texts i d).now text ≡ same
    → place_of i (texts_from texts i) text ≡ cond same (Some i) (place_of (i + 1) (texts_from texts (i + 1)) text)
place_more texts text i d same lt e =
    at_drop_more (λ (ts : List (Bor (List ℕ))). place_of i (map (λ (it : Bor (List ℕ)). it.now) ts) text) texts i d lt
    ∙ found_by (get_or texts i d) (drop (i + 1) texts) text i same e

pub place_end : (texts : List (Bor (List ℕ))) (text : List ℕ) (i : ℕ) → length texts ≤ i → place_of i (texts_from texts i) text ≡ None
place_end texts text i le =
    at_drop_all (λ (ts : List (Bor (List ℕ))). place_of i (map (λ (it : Bor (List ℕ)). it.now) ts) text) texts i le

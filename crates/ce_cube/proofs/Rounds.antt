-- Turns, rounds and shares are made entry by entry.
use Rattle.std.proofs.Common.{◌≡◌, ◌||◌, Bool, true, false, ℕ, zero, suc, ◌+◌, List, [], ◌∷◌, ◌++◌, refl, ap, sym, ◌∙◌, subst, arith, append-nil}
use Rattle.std.specs.Prelude.{IsTrue, IsFalse}
use Rattle.std.specs.List.{AllZip, range_with_len}
use Rattle.std.proofs.lemmas.Grind.{flat_map-append}
use Rattle.std.proofs.lemmas.List.Folds.{list_any-append}
use Rattle.ce_model.specs.declared.entry.Entry.{Entry}
use Rattle.ce_script.specs.Rounds.{is_take, is_dispatch, has_work, IsTurn, joined_lists}
use Rattle.ce_solo.proofs.Lists.{all-append}
use Rattle.ce_cube.specs.Rounds.{RoundsAreMade}

turn-more : (r : ℕ) (turn : List Entry) (entry : Entry) → IsTurn r turn → entry.actor ≡ r → IsFalse (is_take entry) → IsTurn r (turn ++ entry ∷ [])
turn-more r [] entry is actor other = absurd is
turn-more r (first ∷ others) entry is actor other = (
  is.0,
  all-append (λ entry. IsFalse (is_take entry)) others (entry ∷ []) is.1 (other, tt),
  (is.2.0, all-append (λ (entry : Entry). entry.actor ≡ r) others (entry ∷ []) is.2.1 (actor, tt)),
)

zip-push : (rs : List ℕ) (turns : List (List Entry)) (r : ℕ) (turn : List Entry) → AllZip IsTurn rs turns → IsTurn r turn → AllZip IsTurn (rs ++ r ∷ []) (turns ++ turn ∷ [])
zip-push [] [] r turn each is = (is, tt)
zip-push [] (first ∷ turns) r turn each is = absurd each
zip-push (first ∷ rs) [] r turn each is = absurd each
zip-push (q ∷ rs) (first ∷ turns) r turn each is = (each.0, zip-push rs turns r turn each.1 is)

range-push : (from n : ℕ) → range_with_len from (suc n) ≡ range_with_len from n ++ (from + n) ∷ []
range-push from zero = let here : from + 0 ≡ from = omega arith in rw here refl
range-push from (suc n) =
    let there : from + 1 + n ≡ from + suc n = omega arith in
    ap (λ rest. from ∷ rest) (range-push (from + 1) n ∙ ap (λ k. range_with_len (from + 1) n ++ k ∷ []) there)

one-further : (r : ℕ) (turns : List (List Entry)) (turn : List Entry) → AllZip IsTurn (range_with_len 0 r) turns → IsTurn r turn
    → AllZip IsTurn (range_with_len 0 (r + 1)) (turns ++ turn ∷ [])
one-further r turns turn each is =
    let next : suc r ≡ r + 1 = omega arith in
    let here : 0 + r ≡ r = omega arith in
    subst (λ n. AllZip IsTurn (range_with_len 0 n) (turns ++ turn ∷ [])) next
    (subst (λ rs. AllZip IsTurn rs (turns ++ turn ∷ [])) (sym (range-push 0 r))
    (zip-push (range_with_len 0 r) turns (0 + r) turn each (subst (λ n. IsTurn n turn) (sym here) is)))

joined-push : (turns : List (List Entry)) (turn : List Entry) → joined_lists turns ++ turn ≡ joined_lists (turns ++ turn ∷ [])
joined-push turns turn =
    sym (flat_map-append (λ (list : List Entry). list) turns (turn ∷ []) ∙ ap (λ xs. joined_lists turns ++ xs) (append-nil turn))

one_only : (b : Bool) → (b || false) ≡ b
one_only true = refl
one_only false = refl

pub are-made : RoundsAreMade
are-made = record {
  turn_begins = λ r entry actor take. (take, tt, (actor, tt));
  turn_goes_on = turn-more;
  round_begins = record { turns = []; each = tt; all = refl };
  round_goes_on = λ r entries turn part is. record {
    turns = part.turns ++ turn ∷ [];
    each = one-further r part.turns turn part.each is;
    all = ap (λ xs. xs ++ turn) part.all ∙ joined-push part.turns turn;
  };
  round_ends = λ dim entries part. record { turns = part.turns; each = part.each; all = part.all };
  share_begins = λ r. record { turns = []; each = tt; with_work = tt; all = refl };
  share_goes_on = λ r entries turn part is work. record {
    turns = part.turns ++ turn ∷ [];
    each = all-append (IsTurn r) part.turns (turn ∷ []) part.each (is, tt);
    with_work = all-append (λ turn. IsTrue (has_work turn)) part.turns (turn ∷ []) part.with_work (work, tt);
    all = ap (λ xs. xs ++ turn) part.all ∙ joined-push part.turns turn;
  };
  share_ends = λ r entries last part take none. record {
    turns = part.turns;
    last = last;
    each = part.each;
    with_work = part.with_work;
    last_take = take;
    without_work = none;
    all = ap (λ xs. xs ++ last ∷ []) part.all;
  };
  work_begins = λ entry. one_only (is_dispatch entry);
  work_adds = λ entries others. list_any-append is_dispatch entries others;
}

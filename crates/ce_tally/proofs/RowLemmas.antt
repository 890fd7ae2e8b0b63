-- Heads that have added keep what they added.
use Rattle.std.proofs.Common.{◌≡◌, ℕ, zero, suc, ◌<◌, List, [], ◌∷◌, ◌++◌, map, sym, ap, ◌∙◌, append_assoc, length, arith}
use Rattle.std.specs.List.{Contains}
use Rattle.std.proofs.lemmas.List.{nil_from_length, length_push}
use Rattle.ce_model.specs.declared.topology.TheConstants.{HOST}
use Rattle.ce_model.specs.Lists.{IsFront}
use Rattle.ce_lock.specs.declared.who.Who.{Who}
use Rattle.ce_lock.specs.Entries.{entries_of}
use Rattle.ce_lock.specs.Sitting.{SeatFacts, BookFacts, IsSameSeat, IsNewHead, who, seen_history, earlier, mine, out}
use Rattle.ce_tally.specs.declared.tally.Addition.{Addition}
use Rattle.ce_tally.specs.Rows.{IsOnly, HasAddition, HasAdded, additions_of}

module _ {O : Type 0} (book : BookFacts O) where
  -- a new head has added its first number
  pub added_first : (family number : ℕ) (s t : SeatFacts O Addition) (e : Addition)
      → IsNewHead book family s → IsSameSeat s t → out t ≡ out s → mine t ≡ mine s ++ e ∷ [] → e.number ≡ number → HasAdded book family number t
  added_first family number s t e new same out_is mine_is number_is = record {
    of_book = same.name ∙ new.of_book;
    actor = same.actor ∙ new.actor;
    nobody_out = out_is ∙ new.nobody_out;
    nothing_earlier = same.since ∙ new.nothing_earlier;
    only = record { entry = e; alone = mine_is ∙ ap (λ (l : List Addition). l ++ e ∷ []) new.nothing_made; number_is = number_is };
  }

  -- a seat that stays the same has still added it
  pub still_added : (family number : ℕ) (s t : SeatFacts O Addition) → HasAdded book family number s → IsSameSeat s t → mine t ≡ mine s → out t ≡ out s → HasAdded book family number t
  still_added family number s t h same mine_is out_is = record {
    of_book = same.name ∙ h.of_book;
    actor = same.actor ∙ h.actor;
    nobody_out = out_is ∙ h.nobody_out;
    nothing_earlier = same.since ∙ h.nothing_earlier;
    only = record { entry = h.only.entry; alone = mine_is ∙ h.only.alone; number_is = h.only.number_is };
  }

  -- what it has added is all that its actor has in what it has seen
  pub only_one : (family number : ℕ) (s : SeatFacts O Addition)
      → HasAdded book family number s → entries_of (λ (x : Addition). x.who) (who s) (seen_history s) ≡ earlier s ++ mine s → IsOnly number (additions_of family HOST (seen_history s))
  only_one family number s h own = record {
    entry = h.only.entry;
    alone = ap (λ (w : Who). entries_of (λ (x : Addition). x.who) w (seen_history s)) (sym h.actor) ∙ (own ∙ (ap (λ (l : List Addition). l ++ mine s) h.nothing_earlier ∙ h.only.alone));
    number_is = h.only.number_is;
  }

-- an entry at the end of a front part is among all
pub among : (family actor number : ℕ) (before h : List Addition) (e : Addition) (seen_by : List Addition) → seen_by ≡ before ++ e ∷ [] → IsFront seen_by h → e.who ≡ record { family = family; actor = actor } → e.number ≡ number → HasAddition family actor number h
among family actor number before h e seen_by is p actor_is number_is = record {
  front = before;
  entry = e;
  back = p.0;
  whole = sym (append_assoc before (e ∷ []) p.0) ∙ (ap (λ (l : List Addition). l ++ p.0) (sym is) ∙ p.1);
  actor_is = actor_is;
  number_is = number_is;
}

pub still_among : (family actor number : ℕ) (h k : List Addition) → HasAddition family actor number h → IsFront h k → HasAddition family actor number k
still_among family actor number h k a p = record {
  front = a.front;
  entry = a.entry;
  back = a.back ++ p.0;
  whole = sym (append_assoc a.front (a.entry ∷ a.back) p.0) ∙ (ap (λ (l : List Addition). l ++ p.0) a.whole ∙ p.1);
  actor_is = a.actor_is;
  number_is = a.number_is;
}

-- a list of two, from its end
pub two_of : {A : Type 0} (items mid front : List A) (a b : A) → items ≡ mid ++ b ∷ [] → mid ≡ front ++ a ∷ [] → length items ≡ 2 → items ≡ a ∷ b ∷ []
two_of items mid front a b p q count = let none : length front ≡ 0 = omega (arith, ap length p, ap length q, length_push mid b, length_push front a) in
    p ∙ ap (λ (l : List _). l ++ b ∷ []) (q ∙ ap (λ (l : List _). l ++ a ∷ []) (nil_from_length front none))

-- of two seats of families 0 and 1 one is of each family below 2
pub family_there : {O E : Type 0} (a b : SeatFacts O E) (f : ℕ) → (who a).family ≡ 0 → (who b).family ≡ 1 → f < 2 → Contains (map (λ (s : SeatFacts O E). (who s).family) (a ∷ b ∷ [])) f
family_there a b zero at_a at_b low = (0, omega arith, at_a)
family_there a b (suc zero) at_a at_b low = (1, omega arith, at_b)
family_there a b (suc (suc k)) at_a at_b low = absurd (omega (arith, low))

-- The queue keeps its points, step by step.
use Rattle.std.proofs.Common.{◌≡◌, ◌≢◌, ℕ, suc, ◌+◌, ◌^◌, ◌%◌, ◌<◌, ◌≤◌, true, false, List, [], ◌∷◌, ◌++◌, set, refl, sym, ap, ◌∙◌, ⊎_elim, arith, length}
use mathlib.Core.Logic.{dite}
use mathlib.Core.Option.{some}
use native.Mathlib.Decide.{ℕ_discrete}
use lib.ListN.{get_elem?}
use Rattle.atomic_table.proofs.Lists.{at_set, at_longer, one_turn}
use Rattle.ce_lock.specs.declared.view.QueuePlace.{QueuePlace}
use Rattle.ce_lock.specs.OneOrder.{IsQueue}
use Rattle.ce_lock.specs.Telling.{idle_place, place_waiting}
use Rattle.ce_lock.proofs.Seats.{at_same, at_other, at_one, each_kept, each_set, each_added, at_added}

false_true : {P : Type 0} → false ≡ true → P
false_true e = absurd (cc)

module _ (now next : ℕ) (ps : List QueuePlace) (q : IsQueue now next ps) where
  -- a place that has drawn tells something else of the same ticket
  pub retell : (id : ℕ) (p p' : QueuePlace) → get_elem? ps id ≡ some p → p.has_ticket ≡ true → p'.has_ticket ≡ true → p'.ticket ≡ p.ticket
      → (p'.is_turn ≡ true → p'.ticket ≡ now) → (p'.has_object ≡ true → p'.is_turn ≡ true) → IsQueue now next (set ps id p')
  retell id p p' at d d' same turn out = record {
    up = q.up;
    few = q.few;
    each = λ t low high. let h = q.each t low high in dite (ℕ_discrete h.0 id)
        (λ e. (id, p', at_same ps id p p' at, d', same ∙ (ap (λ (z : QueuePlace). z.ticket) (at_one ps id p h.1 at (ap (get_elem? ps) (sym e) ∙ h.2)) ∙ h.4)))
        (λ ne. (h.0, h.1, at_other ps id h.0 h.1 p' ne h.2, h.3, h.4));
    once = λ i j a b. λ ea eb da db same_ticket. ⊎_elim
        (λ (x : (i ≡ id) × (p' ≡ a)). ⊎_elim
        (λ (y : (j ≡ id) × (p' ≡ b)). x.0 ∙ sym y.0)
        (λ (y : (j ≢ id) × (get_elem? ps j ≡ some b)). x.0 ∙ q.once id j p b at y.1 d db (sym same ∙ (ap (λ (z : QueuePlace). z.ticket) x.1 ∙ same_ticket)))
        (at_set ps id j p' b eb))
        (λ (x : (i ≢ id) × (get_elem? ps i ≡ some a)). ⊎_elim
        (λ (y : (j ≡ id) × (p' ≡ b)). q.once i id a p x.1 at da d (same_ticket ∙ (sym (ap (λ (z : QueuePlace). z.ticket) y.1) ∙ same)) ∙ sym y.0)
        (λ (y : (j ≢ id) × (get_elem? ps j ≡ some b)). q.once i j a b x.1 y.1 da db same_ticket)
        (at_set ps id j p' b eb))
        (at_set ps id i p' a ea);
    has_ticket = each_kept (λ (z : QueuePlace). z.has_ticket ≡ true → (now ≤ z.ticket) × (z.ticket < next)) ps id p'
        (λ _. let h = q.has_ticket id p at d in (omega (arith, h.0, same), omega (arith, h.1, same))) q.has_ticket;
    is_turn = each_kept (λ (z : QueuePlace). z.is_turn ≡ true → (z.has_ticket ≡ true) × (z.ticket ≡ now)) ps id p' (λ e. (d', turn e)) q.is_turn;
    has_object = each_kept (λ (z : QueuePlace). z.has_object ≡ true → z.is_turn ≡ true) ps id p' out q.has_object;
  }

  -- one more ticket is drawn
  pub draw : (id : ℕ) (p : QueuePlace) → get_elem? ps id ≡ some p → p.has_ticket ≡ false → suc next < now + 2 ^ 64 → IsQueue now (suc next) (set ps id (place_waiting next))
  draw id p at d room = let up : now ≤ next = q.up in record {
    up = omega arith;
    few = room;
    each = λ t low high. dite (ℕ_discrete t next)
        (λ e. (id, place_waiting next, at_same ps id p (place_waiting next) at, refl, sym e))
        (λ ne. let h = q.each t low (omega arith) in (h.0, h.1, at_other ps id h.0 h.1 (place_waiting next) (λ e. false_true (sym d ∙ (ap (λ (z : QueuePlace). z.has_ticket) (at_one ps id p h.1 at (ap (get_elem? ps) (sym e) ∙ h.2)) ∙ h.3))) h.2, h.3, h.4));
    once = λ i j a b ea eb da db same. ⊎_elim
        (λ (x : (i ≡ id) × (place_waiting next ≡ a)). ⊎_elim
        (λ (y : (j ≡ id) × (place_waiting next ≡ b)). x.0 ∙ sym y.0)
        (λ (y : (j ≢ id) × (get_elem? ps j ≡ some b)). let h = q.has_ticket j b y.1 db in let n : next ≡ b.ticket = ap (λ (z : QueuePlace). z.ticket) x.1 ∙ same in absurd (omega (arith, h.1)))
        (at_set ps id j (place_waiting next) b eb))
        (λ (x : (i ≢ id) × (get_elem? ps i ≡ some a)). ⊎_elim
        (λ (y : (j ≡ id) × (place_waiting next ≡ b)). let h = q.has_ticket i a x.1 da in let n : next ≡ a.ticket = ap (λ (z : QueuePlace). z.ticket) y.1 ∙ sym same in absurd (omega (arith, h.1)))
        (λ (y : (j ≢ id) × (get_elem? ps j ≡ some b)). q.once i j a b x.1 y.1 da db same)
        (at_set ps id j (place_waiting next) b eb))
        (at_set ps id i (place_waiting next) a ea);
    has_ticket = each_set (λ (z : QueuePlace). z.has_ticket ≡ true → (now ≤ z.ticket) × (z.ticket < suc next)) ps id (place_waiting next) (λ _. (up, omega arith))
        (λ j x _ e d'. let h = q.has_ticket j x e d' in (h.0, omega (arith, h.1)));
    is_turn = each_kept (λ (z : QueuePlace). z.is_turn ≡ true → (z.has_ticket ≡ true) × (z.ticket ≡ now)) ps id (place_waiting next) (λ e. false_true e) q.is_turn;
    has_object = each_kept (λ (z : QueuePlace). z.has_object ≡ true → z.is_turn ≡ true) ps id (place_waiting next) (λ e. false_true e) q.has_object;
  }

  -- whoever is at its turn is the one whose ticket is served
  pub one_at_turn : (i j : ℕ) (a b : QueuePlace) → get_elem? ps i ≡ some a → get_elem? ps j ≡ some b → a.is_turn ≡ true → b.is_turn ≡ true → i ≡ j
  one_at_turn i j a b ea eb ta tb = let x = q.is_turn i a ea ta in let y = q.is_turn j b eb tb in q.once i j a b ea eb x.0 y.0 (x.1 ∙ sym y.1)

  -- the one whose ticket is served leaves
  pub leave : (id : ℕ) (p : QueuePlace) → get_elem? ps id ≡ some p → p.is_turn ≡ true → IsQueue (suc now) next (set ps id idle_place)
  leave id p at mine = let m = q.is_turn id p at mine in let range = q.has_ticket id p at m.0 in record {
    up = omega (arith, m.1, range.1);
    few = let few = q.few in omega arith;
    each = λ t low high. let h = q.each t (omega arith) high in
        (h.0, h.1, at_other ps id h.0 h.1 idle_place (λ e. let same : h.1.ticket ≡ now = ap (λ (z : QueuePlace). z.ticket) (sym (at_one ps id p h.1 at (ap (get_elem? ps) (sym e) ∙ h.2))) ∙ m.1 in absurd (omega (arith, h.4, same))) h.2, h.3, h.4);
    once = λ i j a b ea eb da db same. ⊎_elim
        (λ (x : (i ≡ id) × (idle_place ≡ a)). false_true (ap (λ (z : QueuePlace). z.has_ticket) x.1 ∙ da))
        (λ (x : (i ≢ id) × (get_elem? ps i ≡ some a)). ⊎_elim
        (λ (y : (j ≡ id) × (idle_place ≡ b)). false_true (ap (λ (z : QueuePlace). z.has_ticket) y.1 ∙ db))
        (λ (y : (j ≢ id) × (get_elem? ps j ≡ some b)). q.once i j a b x.1 y.1 da db same)
        (at_set ps id j idle_place b eb))
        (at_set ps id i idle_place a ea);
    has_ticket = each_set (λ (z : QueuePlace). z.has_ticket ≡ true → (suc now ≤ z.ticket) × (z.ticket < next)) ps id idle_place (λ e. false_true e)
        (λ j x ne e d. let h = q.has_ticket j x e d in (dite (ℕ_discrete x.ticket now) (λ same. absurd (ne (q.once j id x p e at d m.0 (same ∙ sym m.1)))) (λ other. omega (arith, h.0)), h.1));
    is_turn = each_set (λ (z : QueuePlace). z.is_turn ≡ true → (z.has_ticket ≡ true) × (z.ticket ≡ suc now)) ps id idle_place (λ e. false_true e)
        (λ j x ne e t. absurd (ne (one_at_turn j id x p e at t mine)));
    has_object = each_kept (λ (z : QueuePlace). z.has_object ≡ true → z.is_turn ≡ true) ps id idle_place (λ e. false_true e) q.has_object;
  }

  -- a view that has drawn nothing comes
  pub come : IsQueue now next (ps ++ idle_place ∷ [])
  come = record {
    up = q.up;
    few = q.few;
    each = λ t low high. let h = q.each t low high in (h.0, h.1, at_longer ps (idle_place ∷ []) h.0 h.1 h.2, h.3, h.4);
    once = λ i j a b ea eb da db same. ⊎_elim
        (λ (x : get_elem? ps i ≡ some a). ⊎_elim
        (λ (y : get_elem? ps j ≡ some b). q.once i j a b x y da db same)
        (λ (y : (j ≡ length ps) × (idle_place ≡ b)). false_true (ap (λ (z : QueuePlace). z.has_ticket) y.1 ∙ db))
        (at_added ps idle_place j b eb))
        (λ (x : (i ≡ length ps) × (idle_place ≡ a)). false_true (ap (λ (z : QueuePlace). z.has_ticket) x.1 ∙ da))
        (at_added ps idle_place i a ea);
    has_ticket = each_added (λ (z : QueuePlace). z.has_ticket ≡ true → (now ≤ z.ticket) × (z.ticket < next)) ps idle_place (λ e. false_true e) q.has_ticket;
    is_turn = each_added (λ (z : QueuePlace). z.is_turn ≡ true → (z.has_ticket ≡ true) × (z.ticket ≡ now)) ps idle_place (λ e. false_true e) q.is_turn;
    has_object = each_added (λ (z : QueuePlace). z.has_object ≡ true → z.is_turn ≡ true) ps idle_place (λ e. false_true e) q.has_object;
  }

  -- a ticket whose remainder is that of the one served is served
  pub served : (id : ℕ) (p : QueuePlace) → get_elem? ps id ≡ some p → p.has_ticket ≡ true → now % 2 ^ 64 ≡ p.ticket % 2 ^ 64 → p.ticket ≡ now
  served id p at d same = let h = q.has_ticket id p at d in let few = q.few in let low : now ≤ p.ticket = h.0 in let high : p.ticket < next = h.1 in
      sym (one_turn now p.ticket (2 ^ 64) low (omega arith) same)

-- The list of those that poll: an id that leaves it, and how long it can be.
use Rattle.std.proofs.Common.{◌≡◌, ℕ, zero, suc, ◌+◌, ◌<◌, ◌≤◌, Bool, false, ◌==◌, nat_lt, if◌then◌else◌, List, [], ◌∷◌, length, Option, Some, None, refl, ap, sym, ◌∙◌, subst, arith, inl, inr}
use Rattle.std.specs.List.{position, position_or_len, remove}
use Rattle.std.proofs.lemmas.Bool.{cases_Bool, ltb-true, ltb-false, cond_both, eq-eqb, cases_eq, ne_eqb}
use Rattle.std.proofs.lemmas.List.{get_or_past}
use Rattle.std.proofs.lemmas.List.Sums.{sum_by-cons}
use Rattle.ce_model.specs.Limits.{process_count}
use Rattle.ce_model.specs.Lists.{without_first}
use Rattle.ce_model.specs.Process.{Process, unborn_process}
use Rattle.ce_model.specs.Node.{Turn, Node, without_poller, process_at}
use Rattle.ce_model.specs.Sound.{is_polling}
use Rattle.ce_solo.proofs.Nodes.{polls, polls-other, polls-without, IsWell}

some_place : {X : Type 0} (p : X → Bool) (xs : List X) (k : ℕ) → position p xs ≡ Some k → (position_or_len p xs ≡ k) × (k < length xs)
some_place p xs k e = elim (cases_Bool (nat_lt (position_or_len p xs) (length xs))) [
  | inl t ↦ (let same : ◌≡◌ {A = Option ℕ} (Some (position_or_len p xs)) (Some k) = rw t at e in
      let is : position_or_len p xs ≡ k = cc in
      (is, let h = ltb-true (position_or_len p xs) (length xs) t in omega (arith, is, h)))
  | inr f ↦ (let none : ◌≡◌ {A = Option ℕ} None (Some k) = rw f at e in absurd (cc))
]

no_place : {X : Type 0} (p : X → Bool) (xs : List X) → position p xs ≡ None → length xs ≤ position_or_len p xs
no_place p xs e = elim (cases_Bool (nat_lt (position_or_len p xs) (length xs))) [
  | inl t ↦ (let some : ◌≡◌ {A = Option ℕ} (Some (position_or_len p xs)) None = rw t at e in absurd (cc))
  | inr f ↦ ltb-false (position_or_len p xs) (length xs) f
]

removed_at : {X : Type 0} (p : X → Bool) (xs : List X) (k : ℕ) → position_or_len p xs ≡ k → k < length xs → remove xs k ≡ without_first p xs
removed_at p [] k e h = absurd (omega arith)
removed_at p (x ∷ xs) zero e h = elim (cases_Bool (p x)) [
  | inl t ↦ rw t refl
  | inr f ↦ (let more : 1 + position_or_len p xs ≡ 0 = rw f at e in absurd (omega arith))
]
removed_at p (x ∷ xs) (suc k) e h = elim (cases_Bool (p x)) [
  | inl t ↦ (let none : 0 ≡ suc k = rw t at e in absurd (omega arith))
  | inr f ↦ (let more : 1 + position_or_len p xs ≡ suc k = rw f at e in
      rw f (ap (λ ys. x ∷ ys) (removed_at p xs k (omega arith) (omega arith))))
]

stays_past : {X : Type 0} (p : X → Bool) (xs : List X) → length xs ≤ position_or_len p xs → without_first p xs ≡ xs
stays_past p [] h = refl
stays_past p (x ∷ xs) h = elim (cases_Bool (p x)) [
  | inl t ↦ (let none : suc (length xs) ≤ 0 = rw t at h in absurd (omega arith))
  | inr f ↦ (let more : suc (length xs) ≤ 1 + position_or_len p xs = rw f at h in rw f (ap (λ ys. x ∷ ys) (stays_past p xs (omega arith))))
]

-- the first of an id is taken out
pub removed : (pid : ℕ) (polling : List ℕ) (k : ℕ) → position (λ other. other == pid) polling ≡ Some k → remove polling k ≡ without_poller pid polling
removed pid polling k e = let place = some_place (λ other. other == pid) polling k e in removed_at (λ other. other == pid) polling k place.0 place.1

pub place_within : (pid : ℕ) (polling : List ℕ) (k : ℕ) → position (λ other. other == pid) polling ≡ Some k → k < length polling
place_within pid polling k e = (some_place (λ other. other == pid) polling k e).1

pub not_there : (pid : ℕ) (polling : List ℕ) → position (λ other. other == pid) polling ≡ None → without_poller pid polling ≡ polling
not_there pid polling e = stays_past (λ other. other == pid) polling (no_place (λ other. other == pid) polling e)

-- ---- how long the list can be

length-without_poller : (pid : ℕ) (xs : List ℕ) → length xs ≤ suc (length (without_poller pid xs))
length-without_poller pid [] = omega arith
length-without_poller pid (x ∷ xs) =
    cond_both (x == pid) xs (x ∷ without_poller pid xs) (λ ys. suc (length xs) ≤ suc (length ys))
    (λ t. omega arith) (λ f. omega (arith, length-without_poller pid xs))

pub polls-head : (x : ℕ) (xs : List ℕ) → 1 ≤ polls x (x ∷ xs)
polls-head x xs =
    omega (arith, sum_by-cons (λ other. if other == x then 1 else 0) x xs, ap {B = ℕ} (λ b. if b then 1 else 0) (eq-eqb x x refl))

-- distinct ids below a number are no more than it
few_polls : (n : ℕ) (xs : List ℕ) → ((q : ℕ) → polls q xs ≤ 1) → ((q : ℕ) → n ≤ q → polls q xs ≡ 0) → length xs ≤ n
few_polls zero [] once below = omega arith
few_polls zero (x ∷ xs) once below = absurd (omega (arith, polls-head x xs, below x (omega arith)))
few_polls (suc n) xs once below =
    let fewer = few_polls n (without_poller n xs)
    (λ q. elim (cases_eq q n) [
      | inl same ↦ subst (λ k. polls k (without_poller n xs) ≤ 1) (sym same) (omega (arith, polls-without n xs (once n)))
      | inr differ ↦ omega (arith, polls-other n q xs differ, once q)
    ])
    (λ q h. elim (cases_eq q n) [
      | inl same ↦ subst (λ k. polls k (without_poller n xs) ≡ 0) (sym same) (polls-without n xs (once n))
      | inr differ ↦ polls-other n q xs differ ∙ below q (omega (arith, differ))
    ]) in
    omega (arith, fewer, length-without_poller n xs)

-- the process of the turn doesn't poll, so a place is left for it
pub room_to_poll : (node : Node) (turn : Turn) → IsWell (Some turn) node → turn.pid < process_count → polls turn.pid node.polling_ids ≡ 0 → length node.polling_ids < process_count
room_to_poll node turn well within none =
    let more : length (turn.pid ∷ node.polling_ids) ≤ process_count = few_polls process_count (turn.pid ∷ node.polling_ids)
    (λ q. let cons = sum_by-cons (λ other. if other == q then 1 else 0) turn.pid node.polling_ids in
    elim (cases_eq q turn.pid) [
      | inl same ↦ (let here : polls q node.polling_ids ≡ 0 = ap (λ k. polls k node.polling_ids) same ∙ none in
          elim (cases_Bool (turn.pid == q)) [
            | inl t ↦ omega (arith, cons, here, ap {B = ℕ} (λ b. if b then 1 else 0) t)
            | inr f ↦ omega (arith, cons, here, ap {B = ℕ} (λ b. if b then 1 else 0) f)
          ])
      | inr differ ↦ (let here : (turn.pid == q) ≡ false = ne_eqb turn.pid q (λ e. differ (sym e)) in
          omega (arith, cons, polls_once q, ap {B = ℕ} (λ b. if b then 1 else 0) here))
    ])
    (λ q h. let cons = sum_by-cons (λ other. if other == q then 1 else 0) turn.pid node.polling_ids in
    let here : (turn.pid == q) ≡ false = ne_eqb turn.pid q (λ e. omega (arith, e)) in
    omega (arith, cons, polls_past q h, ap {B = ℕ} (λ b. if b then 1 else 0) here)) in
    omega (arith, more)
  where
    polls_once : (q : ℕ) → polls q node.polling_ids ≤ 1
    polls_once q = elim (cases_Bool (is_polling (process_at node q).status)) [
      | inl t ↦ omega (arith, well.polling_ids q, ap {B = ℕ} (λ b. if b then 1 else 0) t)
      | inr f ↦ omega (arith, well.polling_ids q, ap {B = ℕ} (λ b. if b then 1 else 0) f)
    ]

    polls_past : (q : ℕ) → process_count ≤ q → polls q node.polling_ids ≡ 0
    polls_past q h = well.polling_ids q ∙ ap {B = ℕ} (λ (p : Process). if is_polling p.status then 1 else 0) (get_or_past node.processes q unborn_process (omega (arith, well.process_ids)))

-- Behind a round without work, serial or threaded, a cube is quiet, or its dispatches are used up.
use Rattle.std.proofs.Common.{◌≡◌, ◌⊎◌, ℕ, ◌+◌, ◌^◌, ◌<◌, Bool, true, false, ◌||◌, ◌==◌, if◌then◌else◌, IsTrue, List, [], ◌∷◌, ◌++◌, filter, refl, ap, sym, ◌∙◌, subst, inl, inr, arith, append-nil}
use Rattle.std.specs.List.{AllByRecursion, list_any}
use Rattle.std.proofs.lemmas.Bool.{cases_Bool, both_ways, false≢true, eq-eqb, eqb-true, or_parts}
use Rattle.std.proofs.lemmas.List.Folds.{list_any-append}
use Rattle.ce_model.specs.declared.entry.Entry.{Entry}
use Rattle.ce_model.specs.Lists.{EachAfter}
use Rattle.ce_model.specs.Trace.{standing}
use Rattle.ce_model.specs.Answers.{is_used_up, is_quiet}
use Rattle.ce_model.specs.Cube.{Cube, CubeState, IsCube, node_numbers, IsNext}
use Rattle.ce_model.proofs.Walked.{one_further, each_of_front, each_behind}
use Rattle.ce_model.proofs.AloneByEntries.{entries_of_alone}
use Rattle.ce_script.specs.Rounds.{RoundKind, serial, threaded, is_take, is_dispatch, has_work, joined_lists, IsShare, IsThreadedRound, IsRoundWithoutWork}
use Rattle.ce_solo.proofs.Lists.{all-filter, any-none, none-from_any}
use Rattle.ce_solo.proofs.Stands.{IsSoundTrace, entry_of-next, stands-made, stands-each}
use Rattle.ce_cube.specs.Laws.{RoundsRest}
use Rattle.ce_cube.proofs.Resting.{at, is_quiet_at, IsLeftQuiet, first_leaves, IsResting, serial-rests, rests-of}

-- ---- lists

module _ {X : Type 0} where
  -- what holds of the members of each number holds of all
  all-numbered : (P : X → Type 0) (number : X → ℕ) (n : ℕ) (xs : List X) → AllByRecursion (λ x. number x < n) xs
      → ((r : ℕ) → r < n → AllByRecursion P (filter (λ x. number x == r) xs)) → AllByRecursion P xs
  all-numbered P number n [] below each = tt
  all-numbered P number n (x ∷ xs) below each =
      (here, all-numbered P number n xs below.1 (λ r low. later (number x == r) (filter (λ y. number y == r) xs) (each r low)))
    where
      later : (own : Bool) (ys : List X) → AllByRecursion P (if own then x ∷ ys else ys) → AllByRecursion P ys
      later true ys all = all.1
      later false ys all = all

      first : (own : Bool) (ys : List X) → own ≡ true → AllByRecursion P (if own then x ∷ ys else ys) → P x
      first true ys is all = all.0
      first false ys is all = absurd (false≢true is)

      here : P x
      here = first (number x == number x) (filter (λ y. number y == number x) xs) (eq-eqb (number x) (number x) refl) (each (number x) below.0)

  none-filtered : (test : X → Bool) (xs : List X) → AllByRecursion (λ x. test x ≡ false) xs → filter test xs ≡ []
  none-filtered test [] none = refl
  none-filtered test (x ∷ xs) none = ap (λ own. if own then x ∷ filter test xs else filter test xs) none.0 ∙ none-filtered test xs none.1

-- ---- a share without work

-- a Take that gave no work
abbrev IsIdleTake : Entry → Type 0
IsIdleTake entry = (is_take entry ≡ true) × (is_dispatch entry ≡ false)

no_turns : (turns : List (List Entry)) → AllByRecursion (λ turn. IsTrue (has_work turn)) turns → has_work (joined_lists turns) ≡ false → joined_lists turns ≡ []
no_turns [] with_work none = refl
no_turns (turn ∷ turns) with_work none =
    let first = (or_parts (has_work turn) (has_work (joined_lists turns)) (sym (list_any-append is_dispatch turn (joined_lists turns)) ∙ none)).0 in
    absurd (both_ways _ first with_work.0)

-- it is one Take
record IsOneTake (share : List Entry) : Type 0 where
  entry : Entry
  all : share ≡ entry ∷ []
  idle : IsIdleTake entry

share-idle : (r : ℕ) (share : List Entry) → IsShare r share → has_work share ≡ false → IsOneTake share
share-idle r share is none =
    let parts =
    or_parts (has_work (joined_lists is.turns)) (has_work (is.last ∷ []))
    (sym (list_any-append is_dispatch (joined_lists is.turns) (is.last ∷ [])) ∙ ap has_work (sym is.all) ∙ none) in
    record {
      entry = is.last;
      all = is.all ∙ ap (λ entries. entries ++ is.last ∷ []) (no_turns is.turns is.with_work parts.0);
      idle = (is.last_take.0, is.without_work);
    }

module _ (dim : ℕ) (round : List Entry) (is : IsThreadedRound dim round) (none : has_work round ≡ false) where
  node-idle : (r : ℕ) → r < 2 ^ dim → IsOneTake (filter (λ entry. entry.actor == r) round)
  node-idle r below =
      share-idle r (filter (λ entry. entry.actor == r) round) (is.shares r below)
      (any-none is_dispatch _ (all-filter (λ entry. is_dispatch entry ≡ false) (λ entry. entry.actor == r) round (none-from_any is_dispatch round none)))

  all-idle : AllByRecursion IsIdleTake round
  all-idle =
      all-numbered IsIdleTake (λ (entry : Entry). entry.actor) (2 ^ dim) round is.nodes
      (λ r below. let one = node-idle r below in subst (AllByRecursion IsIdleTake) (sym one.all) (one.idle, tt))

  node-took : (r : ℕ) → r < 2 ^ dim → list_any (λ entry. entry.actor == r) round ≡ true
  node-took r below =
      elim (cases_Bool (list_any (λ entry. entry.actor == r) round)) [
        | inl some ↦ some
        | inr nobody ↦
            let one = node-idle r below in
            let nothing = none-filtered (λ (entry : Entry). entry.actor == r) round (none-from_any (λ entry. entry.actor == r) round nobody) in
            let same : one.entry ∷ [] ≡ [] = sym one.all ∙ nothing in
            absurd (cc)
      ]

-- ---- a threaded round without work

module _ (cube : Cube) (of : IsCube cube) (o : CubeState) where
  abbrev left : List Entry → CubeState
  left t = at cube of o t

  -- the dispatches are used up, or node q is quiet
  abbrev IsRestingAt : ℕ → List Entry → Type 0
  IsRestingAt q t = (is_used_up (left t).standing ≡ true) ⊎ (is_quiet_at cube of o q (left t) ≡ true)

  module _ (t t' : List Entry) (r : ℕ) (leaves : IsLeftQuiet cube of o r (left t) (left t')) (q : ℕ) where
    own-rests : (r == q) ≡ true → IsRestingAt q t'
    own-rests same =
        elim leaves.own [
          | inl used ↦ inl (leaves.used ∙ used)
          | inr quiet ↦ inr (subst (λ q. is_quiet_at cube of o q (left t') ≡ true) (eqb-true r q same) quiet)
        ]

    still-rests : IsRestingAt q t → IsRestingAt q t'
    still-rests (inl used) = inl (leaves.used ∙ used)
    still-rests (inr quiet) = elim (cases_Bool (r == q)) [ inl same ↦ own-rests same | inr other ↦ inr (leaves.others q other ∙ quiet) ]

  -- Takes without work leave at rest each node of one of them, and each that was at rest
  takes-rest : (q : ℕ) (round t : List Entry) → IsSoundTrace cube o t → EachAfter (IsNext cube o) t round → AllByRecursion IsIdleTake round
      → (list_any (λ entry. entry.actor == q) round ≡ true) ⊎ IsRestingAt q t → IsRestingAt q (t ++ round)
  takes-rest q [] t stands each idle (inl none) = absurd (false≢true none)
  takes-rest q [] t stands each idle (inr rests) = subst (IsRestingAt q) (sym (append-nil t)) rests
  takes-rest q (entry ∷ round) t stands each idle some =
      let next = stands-made cube o t entry of stands (entry_of-next cube o t entry each.0) in
      let leaves = first_leaves cube of o t entry stands each.0 idle.0.0 idle.0.1 in
      subst (IsRestingAt q) (one_further t entry round)
      (takes-rest q round (t ++ entry ∷ []) next each.1 idle.1
      (elim some [
        | inl took ↦
            elim (cases_Bool (entry.actor == q)) [
              | inl same ↦ inr (own-rests t (t ++ entry ∷ []) entry.actor leaves q same)
              | inr other ↦ inl (ap (λ own. own || list_any (λ (entry : Entry). entry.actor == q) round) (sym other) ∙ took)
            ]
        | inr rests ↦ inr (still-rests t (t ++ entry ∷ []) entry.actor leaves q rests)
      ]))

  threaded-rests : (before round : List Entry) → IsSoundTrace cube o before → EachAfter (IsNext cube o) before round → IsThreadedRound cube.dim round
      → has_work round ≡ false → IsResting cube of o (0 + 2 ^ cube.dim) (before ++ round)
  threaded-rests before round stands each is none =
      elim (cases_Bool (is_used_up (left (before ++ round)).standing)) [
        | inl used ↦ inl used
        | inr goes ↦ inr (λ q below.
            elim (takes-rest q round before stands each (all-idle cube.dim round is none) (inl (node-took cube.dim round is none q (omega (arith, below))))) [
              | inl used ↦ absurd (both_ways _ goes used)
              | inr quiet ↦ quiet
            ])
      ]

  rests-by : (kind : RoundKind) (before round : List Entry) → IsSoundTrace cube o before → EachAfter (IsNext cube o) before round
      → IsRoundWithoutWork kind cube.dim round → IsResting cube of o (0 + 2 ^ cube.dim) (before ++ round)
  rests-by serial before round stands each is = serial-rests cube of o before round stands each is.0 is.1
  rests-by threaded before round stands each is = threaded-rests before round stands each is.0 is.1

pub rounds-rest : RoundsRest
rounds-rest cube o t of sound alone kind before round same quiet =
    let each = subst (EachAfter (IsNext cube o) []) same (entries_of_alone cube o t alone) in
    let stands = stands-each cube o before of sound (each_of_front (IsNext cube o) [] before round each) in
    subst (λ t. (is_quiet (node_numbers cube.dim) (standing o.standing t) || is_used_up (standing o.standing t)) ≡ true) (sym same)
    (rests-of cube of o (before ++ round) (rests-by cube of o kind before round stands (each_behind (IsNext cube o) [] before round each) quiet))

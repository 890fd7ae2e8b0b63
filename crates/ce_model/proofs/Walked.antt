-- Lists that are walked from the front: one member more at the end, and properties that each member
-- keeps.
use Rattle.std.proofs.Common.{◌≡◌, List, [], ◌∷◌, ◌++◌, refl, ap, sym, ◌∙◌, subst, append_assoc, append-nil}
use Rattle.ce_model.specs.Lists.{fold_behind, fold_with_front, EachAfter}

-- a list with a member in its midst: the member may stand at the end of the first part
pub one_further : {X : Type 0} (before : List X) (x : X) (behind : List X) → (before ++ x ∷ []) ++ behind ≡ before ++ x ∷ behind
one_further before x behind = append_assoc before (x ∷ []) behind

pub walked_on-more : {S X : Type 0} (step : List X → S → X → S) (before : List X) (state : S) (xs : List X) (x : X)
    → fold_behind step before state (xs ++ x ∷ []) ≡ step (before ++ xs) (fold_behind step before state xs) x
walked_on-more step before state [] x = rw (append-nil before) refl
walked_on-more step before state (y ∷ ys) x =
    walked_on-more step (before ++ y ∷ []) (step before state y) ys x
    ∙ ap (λ b. step b (fold_behind step (before ++ y ∷ []) (step before state y) ys) x) (one_further before y ys)

-- the last step sees all members before its own
pub walked-more : {S X : Type 0} (step : List X → S → X → S) (state : S) (xs : List X) (x : X)
    → fold_with_front step state (xs ++ x ∷ []) ≡ step xs (fold_with_front step state xs) x
walked-more step state xs x = walked_on-more step [] state xs x

-- what each member keeps, of all before it and itself, holds of the whole
pub kept_by_each : {X : Type 0} (P : List X → X → Type 0) (Q : List X → Type 0)
    → ((before : List X) (x : X) → Q before → P before x → Q (before ++ x ∷ []))
    → (before behind : List X) → Q before → EachAfter P before behind → Q (before ++ behind)
kept_by_each P Q keeps before [] q each = subst Q (sym (append-nil before)) q
kept_by_each P Q keeps before (x ∷ behind) q each =
    subst Q (one_further before x behind) (kept_by_each P Q keeps (before ++ x ∷ []) behind (keeps before x q each.0) each.1)

-- the members of a front have the property too
pub each_of_front : {X : Type 0} (P : List X → X → Type 0) (before front behind : List X)
    → EachAfter P before (front ++ behind) → EachAfter P before front
each_of_front P before [] behind each = tt
each_of_front P before (x ∷ front) behind each = (each.0, each_of_front P (before ++ x ∷ []) front behind each.1)

-- so have those behind it
pub each_behind : {X : Type 0} (P : List X → X → Type 0) (before front behind : List X)
    → EachAfter P before (front ++ behind) → EachAfter P (before ++ front) behind
each_behind P before [] behind each = subst (λ b. EachAfter P b behind) (sym (append-nil before)) each
each_behind P before (x ∷ front) behind each =
    subst (λ b. EachAfter P b behind) (one_further before x front) (each_behind P (before ++ x ∷ []) front behind each.1)

-- both parts have the property, and so has the whole
pub each_joined : {X : Type 0} (P : List X → X → Type 0) (before front behind : List X)
    → EachAfter P before front → EachAfter P (before ++ front) behind → EachAfter P before (front ++ behind)
each_joined P before [] behind of_front each = subst (λ b. EachAfter P b behind) (append-nil before) each
each_joined P before (x ∷ front) behind of_front each = (
  of_front.0,
  each_joined P (before ++ x ∷ []) front behind of_front.1
      (subst (λ b. EachAfter P b behind) (sym (one_further before x front)) each),
)

-- one member more
pub each-more : {X : Type 0} (P : List X → X → Type 0) (xs : List X) (x : X) → EachAfter P [] xs → P xs x → EachAfter P [] (xs ++ x ∷ [])
each-more P xs x each p = each_joined P [] xs (x ∷ []) each (p, tt)

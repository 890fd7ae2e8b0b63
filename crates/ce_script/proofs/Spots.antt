-- Spots of lists, and the first of several options.
use Rattle.std.proofs.Common.{◌≡◌, List, [], ◌∷◌, ◌++◌, Bool, true, false, Option, Some, None, refl, subst, ◌∙◌, map}
use Rattle.std.proofs.lemmas.List.{append_assoc}
use Rattle.std.specs.Prelude.{filter_map, option_map}
use Rattle.std.specs.List.{AllByRecursion, cons_option}
use Rattle.std.specs.Option.{option_or}
use Rattle.ce_script.specs.declared.script.ScriptKind.{ScriptKind}
use Rattle.ce_script.specs.Lines.{Spot, later_spots}
use Rattle.ce_script.specs.Faults.{first_some, kind_where}

-- ---- options

pub option_or-none : {A : Type 0} (one : Option A) → option_or one None ≡ one
option_or-none None = refl
option_or-none (Some x) = refl

pub option_or-assoc : {A : Type 0} (one two three : Option A) → option_or (option_or one two) three ≡ option_or one (option_or two three)
option_or-assoc None two three = refl
option_or-assoc (Some x) two three = refl

-- where the first of two is none, neither is there
pub or_none : {A : Type 0} (one other : Option A) → option_or one other ≡ None → (one ≡ None) × (other ≡ None)
or_none None other e = (refl, e)
or_none (Some x) other e = absurd cc

pub map_none : {A B : Type 0} (f : A → B) (one : Option A) → option_map f one ≡ None → one ≡ None
map_none f None e = refl
map_none f (Some x) e = absurd cc

pub each_none : {A : Type 0} (all : List (Option A)) → first_some all ≡ None → AllByRecursion (λ one. one ≡ None) all
each_none [] e = tt
each_none (one ∷ others) e = let both = or_none one (first_some others) e in (both.0, each_none others both.1)

pub each_mapped_none : {A B : Type 0} (f : A → Option B) (all : List A) → first_some (map f all) ≡ None → AllByRecursion (λ one. f one ≡ None) all
each_mapped_none f [] e = tt
each_mapped_none f (one ∷ others) e =
    let both = or_none (f one) (first_some (map f others)) e in (both.0, each_mapped_none f others both.1)

pub refused_none : (test : Bool) (kind : ScriptKind) → kind_where test kind ≡ None → test ≡ false
refused_none true kind e = absurd cc
refused_none false kind e = refl

-- ---- what holds of each

pub each_made : {A B : Type 0} (f : A → Option B) (Q : B → Type 0) (all : List A) → AllByRecursion (λ one. (made : B) → f one ≡ Some made → Q made) all
    → AllByRecursion Q (filter_map f all)
each_made f Q [] each = tt
each_made {A} {B} f Q (one ∷ others) each =
    elim (f one) as (λ made. f one ≡ made → AllByRecursion Q (cons_option made (filter_map f others))) [
      | None ↦ λ e. each_made f Q others each.1
      | Some made ↦ λ e. (each.0 made e, each_made f Q others each.1)
    ] refl

-- ---- spots

-- each spot has all of the list
pub each_whole : {A : Type 0} (before list : List A) → AllByRecursion (λ spot. spot.before ++ spot.here ∷ spot.behind ≡ before ++ list) (later_spots before list)
each_whole before [] = tt
each_whole {A} before (here ∷ behind) =
    let P : List A → Type 0 = λ whole. AllByRecursion (λ spot. spot.before ++ spot.here ∷ spot.behind ≡ whole) (later_spots (before ++ here ∷ []) behind) in
    (refl, subst P (append_assoc before (here ∷ []) behind) (each_whole (before ++ here ∷ []) behind))

-- what holds of each spot holds of the last
pub last_spot : {A : Type 0} (P : Spot A → Type 0) (before : List A) (here : A) (behind : List A) → AllByRecursion P (later_spots before (here ∷ behind))
    → (spot : Spot A) × P spot × (spot.before ++ spot.here ∷ [] ≡ before ++ here ∷ behind)
last_spot P before here [] each = (record { before = before; here = here; behind = [] }, each.0, refl)
last_spot P before here (next ∷ behind) each =
    let last = last_spot P (before ++ here ∷ []) next behind each.1 in
    (last.0, last.1, last.2 ∙ append_assoc before (here ∷ []) (next ∷ behind))

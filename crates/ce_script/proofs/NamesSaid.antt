-- The names of a text without a fault.
use Rattle.std.proofs.Common.{◌≡◌, ℕ, List, [], ◌∷◌, ◌++◌, Bool, true, false, not, cond, refl, sym, subst}
use Rattle.std.proofs.lemmas.Bool.{not-false}
use Rattle.std.proofs.lemmas.List.{append_assoc, append-nil}
use Rattle.std.specs.Prelude.{IsTrue, bytes_eq}
use Rattle.std.specs.List.{AllByRecursion, IsDistinct}
use Rattle.ce_model.proofs.Members.{all-weaker}
use Rattle.ce_script.specs.declared.grammar.Verb.{Verb}
use Rattle.ce_script.specs.declared.grammar.Verb.TheVariants.{Image, User}
use Rattle.ce_script.specs.declared.script.ScriptKind.TheVariants.{BadName, NameTaken}
use Rattle.ce_script.specs.Lines.{Spot, spots, later_spots, words}
use Rattle.ce_script.specs.Names.{is_name}
use Rattle.ce_script.specs.Verbs.{verb_of, is_image, is_user}
use Rattle.ce_script.specs.Statements.{ScriptStatement, operand, has_verb_kind}
use Rattle.ce_script.specs.Sayings.{statements_of_kind, stated_names, image_names, users}
use Rattle.ce_script.specs.Faults.{is_one_name_of, kind_where}
use Rattle.ce_script.specs.Bounds.{AreNames}
use Rattle.ce_script.proofs.Spots.{or_none, refused_none}
use Rattle.ce_script.proofs.Judged.{IsRight, operands_right, the_verb, image_alone, user_alone, names_append}
use Rattle.ce_script.proofs.Distinct.{distinct_each, distinct_are_distinct, distinct_behind}

-- what holds of the statement of each spot holds of each statement
each_here : {A : Type 0} (P : A → Type 0) (before list : List A) → AllByRecursion (λ spot. P spot.here) (later_spots before list) → AllByRecursion P list
each_here P before [] each = tt
each_here P before (here ∷ behind) each = (each.0, each_here P (before ++ here ∷ []) behind each.1)

-- what holds of the names of statements of a kind
each_name : (kind : Verb → Bool) (P : List ℕ → Type 0) (all : List ScriptStatement) → AllByRecursion (λ one. has_verb_kind kind one ≡ true → P (operand 1 one)) all
    → AllByRecursion P (stated_names (statements_of_kind kind all))
each_name kind P [] each = tt
each_name kind P (one ∷ others) each =
    elim (has_verb_kind kind one) as (λ b. has_verb_kind kind one ≡ b → AllByRecursion P (stated_names (cond b (one ∷ statements_of_kind kind others) (statements_of_kind kind others)))) [
      | true ↦ λ is. (each.0 is, each_name kind P others each.1)
      | false ↦ λ _. each_name kind P others each.1
    ] refl

-- ---- names

user_name : (spot : Spot ScriptStatement) → IsRight spot → has_verb_kind is_user spot.here ≡ true → IsTrue (is_name (operand 1 spot.here))
user_name spot right is =
    not-false (is_name (operand 1 spot.here))
    (refused_none (not (is_name (operand 1 spot.here))) BadName (operands_right spot User (the_verb is_user User user_alone (verb_of (words spot.here.line)) is) right).0)

-- what is known of the name of an image that begins
record IsNew (names : List (List ℕ)) (name : List ℕ) : Type 0 where
  named : IsTrue (is_name name)
  apart : is_one_name_of names name ≡ false

image_name : (spot : Spot ScriptStatement) → IsRight spot → has_verb_kind is_image spot.here ≡ true → IsNew (image_names spot.before) (operand 1 spot.here)
image_name spot right is =
    let name = operand 1 spot.here in
    let judged = (operands_right spot Image (the_verb is_image Image image_alone (verb_of (words spot.here.line)) is) right).0 in
    let both = or_none (kind_where (not (is_name name)) BadName) (kind_where (is_one_name_of (image_names spot.before) name) NameTaken) judged in
    record { named = not-false (is_name name) (refused_none (not (is_name name)) BadName both.0); apart = refused_none (is_one_name_of (image_names spot.before) name) NameTaken both.1 }

-- ---- different names

joined : (before : List ScriptStatement) (here : ScriptStatement) → image_names (before ++ here ∷ []) ≡ image_names before ++ stated_names (statements_of_kind is_image (here ∷ []))
unfolding image_names
joined before here = names_append is_image before (here ∷ [])

one_more : (spot : Spot ScriptStatement) → IsDistinct bytes_eq (image_names spot.before) → IsRight spot → IsDistinct bytes_eq (image_names (spot.before ++ spot.here ∷ []))
one_more spot apart right =
    subst (IsDistinct bytes_eq) (sym (joined spot.before spot.here))
    (elim (has_verb_kind is_image spot.here) as (λ b. has_verb_kind is_image spot.here ≡ b → IsDistinct bytes_eq (image_names spot.before ++ stated_names (cond b (spot.here ∷ []) []))) [
      | true ↦ λ is. distinct_behind (image_names spot.before) (operand 1 spot.here) apart (image_name spot right is).apart
      | false ↦ λ _. subst (IsDistinct bytes_eq) (sym (append-nil (image_names spot.before))) apart
    ] refl)

images_apart : (before list : List ScriptStatement) → IsDistinct bytes_eq (image_names before) → AllByRecursion IsRight (later_spots before list) → IsDistinct bytes_eq (image_names (before ++ list))
images_apart before [] apart each = subst (λ (all : List ScriptStatement). IsDistinct bytes_eq (image_names all)) (sym (append-nil before)) apart
images_apart before (here ∷ behind) apart each =
    subst (λ (all : List ScriptStatement). IsDistinct bytes_eq (image_names all)) (append_assoc before (here ∷ []) behind)
    (images_apart (before ++ here ∷ []) behind (one_more (record { before = before; here = here; behind = behind }) apart each.0) each.1)

-- ---- all names

pub user_names_are : (all : List ScriptStatement) → AllByRecursion IsRight (spots all) → AreNames (users all)
unfolding users
user_names_are all each =
    let IsName : List ℕ → Type 0 = λ name. IsTrue (is_name name) in
    let HasName : ScriptStatement → Type 0 = λ one. has_verb_kind is_user one ≡ true → IsName (operand 1 one) in
    let said = each_here HasName [] all (all-weaker IsRight (λ spot. HasName spot.here) (spots all) user_name each) in
    record { each = distinct_each IsName (stated_names (statements_of_kind is_user all)) (each_name is_user IsName all said); distinct = distinct_are_distinct (stated_names (statements_of_kind is_user all)) }

pub image_names_are : (all : List ScriptStatement) → AllByRecursion IsRight (spots all) → AreNames (image_names all)
unfolding image_names IsDistinct
image_names_are all each =
    let IsName : List ℕ → Type 0 = λ name. IsTrue (is_name name) in
    let HasName : ScriptStatement → Type 0 = λ one. has_verb_kind is_image one ≡ true → IsName (operand 1 one) in
    let said = each_here HasName [] all (all-weaker IsRight (λ spot. HasName spot.here) (spots all) (λ spot right is. (image_name spot right is).named) each) in
    record { each = each_name is_image IsName all said; distinct = images_apart [] all tt each }

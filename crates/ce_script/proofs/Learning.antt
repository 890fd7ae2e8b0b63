-- What the reader knows behind one statement more.
use Rattle.std.proofs.Common.{◌≡◌, ℕ, List, [], ◌∷◌, ◌++◌, Bool, true, false, cond, ◌||◌, Option, Some, None, refl, sym, ap, subst, ◌∙◌, append-nil, map}
use Rattle.std.proofs.lemmas.List.{map-append}
use Rattle.std.proofs.lemmas.List.Elements.{filter-append}
use Rattle.std.proofs.lemmas.List.Folds.{find-append, list_any-append}
use Rattle.std.specs.Prelude.{IfSome, is_some, find, option_map, unwrap_or}
use Rattle.std.specs.Option.{option_or}
use Rattle.std.specs.List.{list_any, last_or}
use Rattle.ce_host.specs.declared.command.Command.{Command}
use Rattle.ce_script.specs.declared.grammar.Verb.{Verb}
use Rattle.ce_script.specs.declared.grammar.Verb.TheVariants.{Machine, Image, User}
use Rattle.ce_script.specs.declared.reader.so_far.ScriptSoFar.{ScriptSoFar}
use Rattle.ce_script.specs.declared.script.NamedImage.{NamedImage}
use Rattle.ce_script.specs.Lines.{words}
use Rattle.ce_script.specs.Verbs.{verb_of, is_machine, is_image, is_user}
use Rattle.ce_script.specs.Statements.{ScriptStatement, operand, has_verb_kind}
use Rattle.ce_script.specs.Sayings.{statements_of_kind, stated_names, name_number, operand_number, stated_image, dimension, images, users, last_user}
use Rattle.ce_script.specs.Reading.{with_user_name}
use Rattle.ce_script.specs.Standing.{with_statement, with_command, HasReadFront}
use Rattle.ce_script.proofs.Spots.{option_or-none}
use Rattle.ce_script.proofs.Stepping.{kind_is, more_users, names_more}

-- ---- each part behind one statement more

dim_more : (front : List ScriptStatement) (here : ScriptStatement) (is : Bool) → has_verb_kind is_machine here ≡ is
    → dimension (front ++ here ∷ []) ≡ option_or (dimension front) (cond is (Some (operand_number 1 here)) None)
unfolding dimension
dim_more front here is e =
    ap (option_map (operand_number 1)) (find-append (has_verb_kind is_machine) front (here ∷ []) ∙ ap (λ b. option_or (find (has_verb_kind is_machine) front) (cond b (Some here) None)) e)
    ∙ by (find (has_verb_kind is_machine) front) is
  where
    by : (found : Option ScriptStatement) (b : Bool) → option_map (operand_number 1) (option_or found (cond b (Some here) None)) ≡ option_or (option_map (operand_number 1) found) (cond b (Some (operand_number 1 here)) None)
    by None true = refl
    by None false = refl
    by (Some one) b = refl

any_more : (kind : Verb → Bool) (front : List ScriptStatement) (here : ScriptStatement) (is : Bool) → has_verb_kind kind here ≡ is → list_any (has_verb_kind kind) (front ++ here ∷ []) ≡ (list_any (has_verb_kind kind) front || is)
any_more kind front here is e =
    list_any-append (has_verb_kind kind) front (here ∷ []) ∙ ap (λ b. list_any (has_verb_kind kind) front || (b || false)) e ∙ by is
  where
    by : (b : Bool) → (list_any (has_verb_kind kind) front || (b || false)) ≡ (list_any (has_verb_kind kind) front || b)
    by true = refl
    by false = refl

abbrev made_of : ScriptStatement → NamedImage
made_of one = record { name = operand 1 one; image = stated_image one }

abbrev made_if : Bool → ScriptStatement → List NamedImage
made_if true here = made_of here ∷ []
made_if false here = []

images_more : (front : List ScriptStatement) (here : ScriptStatement) (is : Bool) → has_verb_kind is_image here ≡ is → images (front ++ here ∷ []) ≡ images front ++ made_if is here
unfolding images
images_more front here is e =
    ap (map made_of) (filter-append (has_verb_kind is_image) front (here ∷ [])) ∙ map-append made_of (statements_of_kind is_image front) (statements_of_kind is_image (here ∷ []))
    ∙ ap (λ (b : Bool). map made_of (statements_of_kind is_image front) ++ map made_of (cond b (here ∷ []) [])) e ∙ by is
  where
    by : (b : Bool) → map made_of (statements_of_kind is_image front) ++ map made_of (cond b (here ∷ []) []) ≡ map made_of (statements_of_kind is_image front) ++ made_if b here
    by true = refl
    by false = refl

last_more : {A : Type 0} (first : Option A) (all : List A) (one : A) → last_or first (all ++ one ∷ []) ≡ Some one
last_more first [] one = refl
last_more first (it ∷ all) one = last_more (Some it) all one

last_user_more : (front : List ScriptStatement) (here : ScriptStatement) (is : Bool) → has_verb_kind is_user here ≡ is → last_user (front ++ here ∷ []) ≡ cond is (operand 1 here) (last_user front)
last_user_more front here true e =
    ap (λ names. unwrap_or (last_or None names) []) (names_more is_user front here true e)
    ∙ ap (λ last. unwrap_or last []) (last_more None (stated_names (statements_of_kind is_user front)) (operand 1 here))
last_user_more front here false e =
    ap (λ names. unwrap_or (last_or None names) []) (names_more is_user front here false e ∙ append-nil (stated_names (statements_of_kind is_user front)))

users_kept : (front : List ScriptStatement) (here : ScriptStatement) (verb : Verb) → verb_of (words here.line) ≡ Some verb → is_user verb ≡ false → users (front ++ here ∷ []) ≡ users front
users_kept front here verb e f = more_users front here verb e ∙ ap (λ b. cond b (with_user_name (users front) (operand 1 here)) (users front)) f

-- ---- behind one statement more, by its kind

some_or : {A : Type 0} (one other : Option A) → is_some one ≡ true → option_or one other ≡ one
some_or None other e = absurd cc
some_or (Some x) other e = refl

none_or : {A : Type 0} (one other : Option A) → is_some one ≡ false → option_or one other ≡ other
none_or None other e = refl
none_or (Some x) other e = absurd cc

keeps_bool : (b : Bool) → (b || false) ≡ b
keeps_bool true = refl
keeps_bool false = refl

or_true : (b : Bool) → (b || true) ≡ true
or_true true = refl
or_true false = refl

-- a statement that is none of the three
pub behind_command : (so_far : ScriptSoFar) (front : List ScriptStatement) (here : ScriptStatement) (verb : Verb) (command : Option Command) → verb_of (words here.line) ≡ Some verb
    → is_machine verb ≡ false → is_image verb ≡ false → is_user verb ≡ false → HasReadFront so_far front → HasReadFront (with_command so_far command) (front ++ here ∷ [])
behind_command so_far front here verb command e machine image user is = record {
  dim = is.dim ∙ sym (dim_more front here false (kind_is is_machine here verb e ∙ machine) ∙ option_or-none (dimension front));
  machine = is.machine ∙ sym (any_more is_machine front here false (kind_is is_machine here verb e ∙ machine) ∙ keeps_bool (list_any (has_verb_kind is_machine) front));
  has_user = is.has_user ∙ sym (any_more is_user front here false (kind_is is_user here verb e ∙ user) ∙ keeps_bool (list_any (has_verb_kind is_user) front));
  user =
      subst (λ (known : List (List ℕ)). IfSome so_far.user (λ number. number ≡ name_number (last_user (front ++ here ∷ [])) known)) (sym (users_kept front here verb e user))
      (subst (λ (name : List ℕ). IfSome so_far.user (λ number. number ≡ name_number name (users front))) (sym (last_user_more front here false (kind_is is_user here verb e ∙ user))) is.user);
  images = is.images ∙ sym (images_more front here false (kind_is is_image here verb e ∙ image) ∙ append-nil (images front));
  users = is.users ∙ sym (users_kept front here verb e user);
}

pub behind_machine : (so_far : ScriptSoFar) (front : List ScriptStatement) (here : ScriptStatement) → verb_of (words here.line) ≡ Some Machine → is_some so_far.script.dim ≡ false
    → HasReadFront so_far front → HasReadFront (with_statement so_far Machine here) (front ++ here ∷ [])
behind_machine so_far front here e none is = record {
  dim = sym (dim_more front here true (kind_is is_machine here Machine e) ∙ none_or (dimension front) (Some (operand_number 1 here)) (sym (ap is_some is.dim) ∙ none));
  machine = sym (any_more is_machine front here true (kind_is is_machine here Machine e) ∙ or_true (list_any (has_verb_kind is_machine) front));
  has_user = is.has_user ∙ sym (any_more is_user front here false (kind_is is_user here Machine e) ∙ keeps_bool (list_any (has_verb_kind is_user) front));
  user =
      subst (λ (known : List (List ℕ)). IfSome so_far.user (λ number. number ≡ name_number (last_user (front ++ here ∷ [])) known)) (sym (users_kept front here Machine e refl))
      (subst (λ (name : List ℕ). IfSome so_far.user (λ number. number ≡ name_number name (users front))) (sym (last_user_more front here false (kind_is is_user here Machine e))) is.user);
  images = is.images ∙ sym (images_more front here false (kind_is is_image here Machine e) ∙ append-nil (images front));
  users = is.users ∙ sym (users_kept front here Machine e refl);
}

pub behind_image : (so_far : ScriptSoFar) (front : List ScriptStatement) (here : ScriptStatement) → verb_of (words here.line) ≡ Some Image
    → HasReadFront so_far front → HasReadFront (with_statement so_far Image here) (front ++ here ∷ [])
behind_image so_far front here e is = record {
  dim = is.dim ∙ sym (dim_more front here false (kind_is is_machine here Image e) ∙ option_or-none (dimension front));
  machine = is.machine ∙ sym (any_more is_machine front here false (kind_is is_machine here Image e) ∙ keeps_bool (list_any (has_verb_kind is_machine) front));
  has_user = is.has_user ∙ sym (any_more is_user front here false (kind_is is_user here Image e) ∙ keeps_bool (list_any (has_verb_kind is_user) front));
  user =
      subst (λ (known : List (List ℕ)). IfSome so_far.user (λ number. number ≡ name_number (last_user (front ++ here ∷ [])) known)) (sym (users_kept front here Image e refl))
      (subst (λ (name : List ℕ). IfSome so_far.user (λ number. number ≡ name_number name (users front))) (sym (last_user_more front here false (kind_is is_user here Image e))) is.user);
  images = ap (λ (known : List NamedImage). known ++ made_of here ∷ []) is.images ∙ sym (images_more front here true (kind_is is_image here Image e));
  users = is.users ∙ sym (users_kept front here Image e refl);
}

pub behind_user : (so_far : ScriptSoFar) (front : List ScriptStatement) (here : ScriptStatement) → verb_of (words here.line) ≡ Some User
    → HasReadFront so_far front → HasReadFront (with_statement so_far User here) (front ++ here ∷ [])
behind_user so_far front here e is =
    let more = ap (λ known. with_user_name known (operand 1 here)) is.users ∙ sym (more_users front here User e) in
    let last = last_user_more front here true (kind_is is_user here User e) in
    record {
      dim = is.dim ∙ sym (dim_more front here false (kind_is is_machine here User e) ∙ option_or-none (dimension front));
      machine = is.machine ∙ sym (any_more is_machine front here false (kind_is is_machine here User e) ∙ keeps_bool (list_any (has_verb_kind is_machine) front));
      has_user = sym (any_more is_user front here true (kind_is is_user here User e) ∙ or_true (list_any (has_verb_kind is_user) front));
      user = ap (name_number (operand 1 here)) more ∙ sym (ap (λ name. name_number name (users (front ++ here ∷ []))) last);
      images = is.images ∙ sym (images_more front here false (kind_is is_image here User e) ∙ append-nil (images front));
      users = more;
    }

-- What is known of a statement without a fault.
use Rattle.std.proofs.Common.{◌≡◌, List, [], ◌++◌, Bool, true, false, Option, Some, None, refl, ap, subst, ◌∙◌}
use Rattle.std.proofs.lemmas.List.{map-append}
use Rattle.std.proofs.lemmas.List.Elements.{filter-append}
use Rattle.std.specs.Prelude.{option_map}
use Rattle.std.specs.Option.{option_map_or}
use Rattle.std.specs.List.{AllByRecursion, enumerate_from}
use Rattle.ce_model.proofs.Members.{all-weaker}
use Rattle.ce_script.specs.declared.grammar.Verb.{Verb}
use Rattle.ce_script.specs.declared.grammar.Verb.TheVariants.{Machine, Image, User}
use Rattle.ce_script.specs.Lines.{Spot, spots, words}
use Rattle.ce_script.specs.Verbs.{verb_of, is_machine, is_image, is_user, verb_operands}
use Rattle.ce_script.specs.Statements.{ScriptStatement, operand, has_verb_kind}
use Rattle.ce_script.specs.Bodies.{located_fault}
use Rattle.ce_script.specs.Sayings.{statements_of_kind, stated_names}
use Rattle.ce_script.specs.Faults.{expected_operands, lacks_machine, lacks_user, placed_fault, operands_fault, is_one_too_many, own_line_faults, own_line_fault, image_fault, statement_fault}
use Rattle.ce_script.proofs.Spots.{or_none, map_none, each_none, each_mapped_none, refused_none}

-- ---- a statement without a fault

-- what is known of a statement without a fault
pub record IsRight (spot : Spot ScriptStatement) : Type 0 where
  pub machine : lacks_machine spot ≡ false
  pub user : lacks_user spot ≡ false
  pub operands : AllByRecursion (λ placed. placed_fault spot placed ≡ None) (enumerate_from 1 (expected_operands spot.here))
  pub many : is_one_too_many spot ≡ false

right : (spot : Spot ScriptStatement) → statement_fault spot ≡ None → IsRight spot
unfolding own_line_fault operands_fault
right spot e =
    let line = map_none (located_fault spot.here.line.number) (own_line_fault spot) (or_none (option_map (located_fault spot.here.line.number) (own_line_fault spot)) (image_fault spot.here) e).0 in
    let rows = each_none (own_line_faults spot) line in
    record {
      machine = refused_none _ _ rows.1.1.1.0;
      user = refused_none _ _ rows.1.1.1.1.1.0;
      operands = each_mapped_none (placed_fault spot) (enumerate_from 1 (expected_operands spot.here)) rows.1.1.1.1.1.1.0;
      many = refused_none _ _ rows.1.1.1.1.1.1.1.0;
    }

pub each_right : (all : List ScriptStatement) → AllByRecursion (λ spot. statement_fault spot ≡ None) (spots all) → AllByRecursion IsRight (spots all)
each_right all each = all-weaker (λ spot. statement_fault spot ≡ None) IsRight (spots all) right each

-- ---- operands

-- the operands of a statement with this verb are right
pub operands_right : (spot : Spot ScriptStatement) (verb : Verb) → verb_of (words spot.here.line) ≡ Some verb → IsRight spot
    → AllByRecursion (λ placed. placed_fault spot placed ≡ None) (enumerate_from 1 (verb_operands verb))
operands_right spot verb e is =
    let P : Option Verb → Type 0 = λ found. AllByRecursion (λ placed. placed_fault spot placed ≡ None) (enumerate_from 1 (option_map_or verb_operands found [])) in
    subst P e is.operands

-- the verb of a statement of a kind that one verb alone has
pub the_verb : (kind : Verb → Bool) (verb : Verb) → ((other : Verb) → kind other ≡ true → other ≡ verb) → (found : Option Verb) → option_map_or kind found false ≡ true → found ≡ Some verb
the_verb kind verb alone None e = absurd cc
the_verb kind verb alone (Some other) e = ap Some (alone other e)

pub machine_alone : (verb : Verb) → is_machine verb ≡ true → verb ≡ Machine
machine_alone Machine e = refl
machine_alone other e = absurd cc

pub image_alone : (verb : Verb) → is_image verb ≡ true → verb ≡ Image
image_alone Image e = refl
image_alone other e = absurd cc

pub user_alone : (verb : Verb) → is_user verb ≡ true → verb ≡ User
user_alone User e = refl
user_alone other e = absurd cc

-- ---- names

pub names_append : (kind : Verb → Bool) (before more : List ScriptStatement) → stated_names (statements_of_kind kind (before ++ more)) ≡ stated_names (statements_of_kind kind before) ++ stated_names (statements_of_kind kind more)
names_append kind before more = ap stated_names (filter-append (has_verb_kind kind) before more) ∙ map-append (operand 1) (statements_of_kind kind before) (statements_of_kind kind more)

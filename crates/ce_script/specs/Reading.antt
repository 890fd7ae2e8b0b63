-- How a statement is judged part by part as it is read: what is judged when, and what is made of
-- it.
use Rattle.std.specs.Prelude.{◌≡◌, ℕ, Bool, not, ◌&&◌, nat_lt, if◌then◌else◌, List, [], ◌∷◌, ◌++◌, map, length, Option, Some, None, Result, Ok, Err}
use Rattle.std.specs.List.{enumerate_from}
use Rattle.std.specs.Option.{option_or}
use Rattle.ce_model.specs.Limits.{greatest_users}
use Rattle.rv_asm.specs.declared.fault.AsmKind.TheVariants as kinds
use Rattle.ce_script.specs.declared.grammar.Verb.{Verb}
use Rattle.ce_script.specs.declared.script.ScriptFault.{ScriptFault}
use Rattle.ce_script.specs.declared.script.ScriptKind.{ScriptKind}
use Rattle.ce_script.specs.declared.script.ScriptKind.TheVariants.{BadByte, UnknownWord, WordCount, NoMachine, SecondMachine, NoUser, BadName, TooMany, Assembly, Memory}
use Rattle.ce_script.specs.Lines.{has_bad_byte}
use Rattle.ce_script.specs.Names.{is_name}
use Rattle.ce_script.specs.Verbs.{is_machine, is_command, verb_operands}
use Rattle.ce_script.specs.Statements.{ScriptStatement, operand}
use Rattle.ce_script.specs.Faults.{first_some, kind_where, has_unknown_word, has_wrong_count, is_one_name_of, operand_fault}

-- ---- judgments

-- what is known of a fault: nothing where memory ran out; and the assembler tells nothing of memory
abbrev pub ScriptUnless : ScriptKind → Type 0 → Type 0
ScriptUnless (Memory want) known = Unit {0}
ScriptUnless (Assembly (kinds.Memory want)) known = ⊥
ScriptUnless kind known = known

-- a call answered this value where there is no fault, and else the fault, unless memory ran out
abbrev pub HasJudged : {A : Type 0} → Result A ScriptKind → Option ScriptKind → Option A → Type 0
HasJudged (Ok x) fault value = (fault ≡ None) × (value ≡ Some x)
HasJudged (Err kind) fault value = ScriptUnless kind (fault ≡ Some kind)

-- the same of a call whose fault has a line
abbrev pub HasFound : {A : Type 0} → Result A ScriptFault → Option ScriptFault → Option A → Type 0
HasFound (Ok x) fault value = (fault ≡ None) × (value ≡ Some x)
HasFound (Err answer) fault value = ScriptUnless answer.kind (fault ≡ Some answer)

-- ---- what is wrong with a line, in the parts in which it is judged

-- with its bytes and words alone
unfoldable pub word_fault : ScriptStatement → Option ScriptKind
word_fault statement =
    option_or (kind_where (has_bad_byte statement.line) BadByte)
    (option_or (kind_where (has_unknown_word statement) UnknownWord)
    (kind_where (has_wrong_count statement) WordCount))

-- with its place, where there was a machine line before it or none, and a user line or none
unfoldable pub place_fault : Bool → Bool → Verb → Option ScriptKind
place_fault has_machine has_user verb =
    option_or (kind_where (not (is_machine verb) && not has_machine) NoMachine)
    (option_or (kind_where (is_machine verb && has_machine) SecondMachine)
    (kind_where (is_command verb && not has_user) NoUser))

-- with its operands, where the earlier images have these names
unfoldable pub operands_judgment : List (List ℕ) → Verb → ScriptStatement → Option ScriptKind
operands_judgment names verb statement =
    first_some
    (map (λ placed_operand. operand_fault names placed_operand.1
    (operand placed_operand.0 statement))
    (enumerate_from 1 (verb_operands verb)))

-- ---- users

-- the names with one more, unless it is among them
abbrev pub with_user_name : List (List ℕ) → List ℕ → List (List ℕ)
with_user_name names name = if is_one_name_of names name then names else names ++ name ∷ []

-- what is wrong with a user line behind these users
abbrev pub user_fault : List (List ℕ) → List ℕ → Option ScriptKind
user_fault names name =
    option_or (kind_where (not (is_name name)) BadName)
    (kind_where (nat_lt greatest_users (length (with_user_name names name))) TooMany)

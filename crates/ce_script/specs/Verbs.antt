-- What statements begin with, and what belongs behind it.
use Rattle.std.specs.Prelude.{ℕ, Bool, true, false, List, [], ◌∷◌, Option, None, codes, map}
use Rattle.std.specs.Option.{option_map_or}
use Rattle.ce_text.specs.Table.{table_value}
use Rattle.ce_model.specs.Limits.{greatest_dim, greatest_count}
use Rattle.ce_script.specs.declared.grammar.Verb.{Verb}
use Rattle.ce_script.specs.declared.grammar.Verb.TheVariants.{Machine, Image, User, Getcube, Peek, Freecube, Spawn, Kill, Send, Run, Recv, Dump, Trace}
use Rattle.ce_script.specs.declared.grammar.ImageForm.{ImageForm}
use Rattle.ce_script.specs.declared.grammar.ImageForm.TheVariants.{Hex, Asm, Rki}
use Rattle.ce_script.specs.Spellings.{greatest_number}

-- all verbs
abbrev pub all_verbs : List Verb
all_verbs =
    Machine
    ∷ Image
    ∷ User
    ∷ Getcube
    ∷ Peek
    ∷ Freecube
    ∷ Spawn
    ∷ Kill
    ∷ Send
    ∷ Run
    ∷ Recv
    ∷ Dump
    ∷ Trace
    ∷ []

-- the word of a verb
abbrev pub verb_word : Verb → List ℕ
verb_word Machine = codes "machine"
verb_word Image = codes "image"
verb_word User = codes "user"
verb_word Getcube = codes "getcube"
verb_word Peek = codes "peek"
verb_word Freecube = codes "freecube"
verb_word Spawn = codes "spawn"
verb_word Kill = codes "kill"
verb_word Send = codes "send"
verb_word Run = codes "run"
verb_word Recv = codes "recv"
verb_word Dump = codes "dump"
verb_word Trace = codes "trace"

-- the words that begin statements
unfoldable pub verbs : List (List ℕ × Verb)
verbs = map (λ verb. (verb_word verb, verb)) all_verbs

-- what these words begin with, where it begins a statement
unfoldable pub verb_of : List (List ℕ) → Option Verb
verb_of [] = None
verb_of (word ∷ words) = table_value verbs word

-- ---- kinds of verbs

-- it begins the statement of the machine
abbrev pub is_machine : Verb → Bool
is_machine Machine = true
is_machine other = false

-- it begins an image
abbrev pub is_image : Verb → Bool
is_image Image = true
is_image other = false

-- it begins the commands of a user
abbrev pub is_user : Verb → Bool
is_user User = true
is_user other = false

-- it begins a command: all but these three
abbrev pub is_command : Verb → Bool
is_command Machine = false
is_command Image = false
is_command User = false
is_command other = true

-- the words begin with a verb of this kind
abbrev pub has_verb : (Verb → Bool) → List (List ℕ) → Bool
has_verb test words = option_map_or test (verb_of words) false

-- ---- operands

-- what a word behind the first stands for
pub data Operand : Type 0 where
  -- a number that is at most this
  Number : ℕ → Operand
  -- the name of an image that begins here
  NewImage : Operand
  -- the form of an image
  Form : Operand
  -- the name of an earlier image
  OldImage : Operand
  -- the name of a user
  Name : Operand
  -- the bytes of a message
  Data : Operand

-- any number
abbrev pub any_number : Operand
any_number = Number greatest_number

-- the words that belong behind a verb
abbrev pub verb_operands : Verb → List Operand
verb_operands Machine = Number greatest_dim ∷ []
verb_operands Image = NewImage ∷ Form ∷ []
verb_operands User = Name ∷ []
verb_operands Getcube = Number greatest_dim ∷ []
verb_operands Peek = []
verb_operands Freecube = []
verb_operands Spawn = OldImage ∷ any_number ∷ any_number ∷ []
verb_operands Kill = any_number ∷ any_number ∷ []
verb_operands Send = any_number ∷ any_number ∷ Data ∷ []
verb_operands Run = Number greatest_count ∷ []
verb_operands Recv = Number greatest_count ∷ []
verb_operands Dump = any_number ∷ any_number ∷ []
verb_operands Trace = []

-- ---- forms of images

-- the words that name forms
abbrev pub forms : List (List ℕ × ImageForm)
forms = (codes "hex", Hex) ∷ (codes "asm", Asm) ∷ (codes "rki", Rki) ∷ []

-- the form that a word names
unfoldable pub form_of : List ℕ → Option ImageForm
form_of word = table_value forms word

-- What a command line asks for: what `clap` reads of the words behind the program's name, by the
-- command that the program has.
use Rattle.std.specs.Prelude.{◌≡◌, ℕ, ◌<◌, ◌^◌, Bool, true, false, List, [], Option, Some, codes, option_map, pos, IfSome}
use Rattle.std.specs.Option.{option_map_or}
use Rattle.std.specs.Str.{bytes_eq}
use Rattle.std.specs.Str.Parse.{IsNumeral, digits_value, without_leading_plus}
use Rattle.clap.specs.Words.{App, Rule, Row, new_app, new_rule, with_rule, matches_of, fault_of, first_of, one_of}
use Rattle.clap.specs.Simple.{on_top}
use Rattle.clap.specs.declared.builder.action.ArgAction.TheVariants.{SetTrue}
use Rattle.clap.specs.declared.builder.value_parser.ValueParser.TheVariants.{Signed}
use Rattle.ce_words.specs.declared.line.CommandLine.{CommandLine}

-- ---- the command

-- the flag for a run on one thread
abbrev pub serial_rule : Rule
serial_rule =
    record (new_rule (codes "serial")) { long = Some (codes "serial"); action = Some SetTrue }

-- the option for a load, with its number
abbrev pub load_rule : Rule
load_rule = record (new_rule (codes "load")) {
  long = Some (codes "load");
  parser = Some (Signed (pos 0) (pos 4_294_967_295));
}

-- it has no options for help or the version, and no word stands for the program itself
abbrev pub bare_program : App
bare_program =
    on_top (λ top. record top {
      no_binary_name = true;
      disable_help_flag = true;
      disable_version_flag = true;
    }) (new_app (codes "ce"))

abbrev pub ce_program : App
ce_program = with_rule (with_rule bare_program serial_rule) load_rule

-- ---- a line

-- what the command finds in the words
abbrev pub rows : List (List ℕ) → List Row
rows words = matches_of ce_program words

-- the flag is there
abbrev pub asks_serial : List Row → Bool
asks_serial found_rows = option_map_or (λ text. bytes_eq text (codes "true"))
    (first_of (codes "serial") found_rows) false

-- what stands behind the option, where it is there
abbrev pub load_text : List Row → Option (List ℕ)
load_text found_rows = one_of (codes "load") found_rows

-- the number that a text in decimal digits gives
abbrev pub number_of : List ℕ → ℕ
number_of text = digits_value 10 (without_leading_plus text)

-- the text is a number of 32 bits in decimal digits
abbrev pub IsNumber : List ℕ → Type 0
IsNumber text = IsNumeral 10 (without_leading_plus text) × (number_of text < 2 ^ 32)

-- the command takes the words
pub record IsCommandLine (words : List (List ℕ)) : Type 0 where
  pub faultless : fault_of ce_program words ≡ []
  pub numbered : IfSome (load_text (rows words)) IsNumber

-- what the line asks for
abbrev pub line_of_rows : List Row → CommandLine
line_of_rows found_rows = record {
  is_serial = asks_serial found_rows;
  load = option_map number_of (load_text found_rows);
}

abbrev pub line_of_words : List (List ℕ) → CommandLine
line_of_words words = line_of_rows (rows words)

-- Verbs by their words.
use Rattle.std.proofs.Common.{◌≡◌, ℕ, cond, List, [], ◌∷◌, map, Some, refl, ap}
use Rattle.std.specs.Prelude.{find}
use Rattle.std.specs.Str.{bytes_eq}
use Rattle.ce_text.specs.Table.{table_value}
use Rattle.ce_script.specs.declared.grammar.Verb.{Verb}
use Rattle.ce_script.specs.Verbs.{verb_word}

-- the first verb with a word, and the first row for it
pub found_by_word : (all : List Verb) (text : List ℕ)
    → table_value (map (λ verb. (verb_word verb, verb)) all) text ≡ find (λ verb. bytes_eq (verb_word verb) text) all
found_by_word [] text = refl
found_by_word (verb ∷ verbs) text = ap (λ rest. cond (bytes_eq (verb_word verb) text) (Some verb) rest) (found_by_word verbs text)

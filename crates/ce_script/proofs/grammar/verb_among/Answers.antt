use Rattle.std.proofs.Common.{◌∙◌, bytes_eq, rules}
use Rattle.std.proofs.lemmas.Iterator.{YieldsList-from_slice}
use Rattle.std.proofs.lemmas.Iterator.Search.{find_from_yields_List}
use Rattle.ce_script.specs.declared.grammar.Verb.{Verb}
use Rattle.ce_script.specs.Verbs.{verb_word}
use Rattle.ce_script.proofs.grammar.verb_among.Goals as goal

pub returns : goal.returns
returns c =
    c.copied.ensures
    ∙ find_from_yields_List (λ (verb : Verb). bytes_eq (verb_word verb) c.args.word.now) _ _ _ c.find.ensures.ran (YieldsList-from_slice c.args.verbs.now cc) (λ x b q k. search rules)

use Rattle.std.proofs.Common.{◌∙◌, sym, ap, arith, Some}
use Rattle.std.proofs.lemmas.List.{length-map}
use Rattle.std.specs.Prelude.{is_some}
use Rattle.ce_script.specs.declared.script.NamedImage.{NamedImage}
use Rattle.ce_script.specs.Standing.{names_so_far}
use Rattle.ce_script.proofs.Judging.{among_place, image_taken, image_over, image_fits}
use Rattle.ce_script.proofs.reader.state.Reader.new_name.Goals as goal

pub returns-then-is_some : goal.returns-then-is_some
returns-then-is_some c =
    let names = names_so_far c.args.self.now.so_far in
    let among = sym (among_place names c.args.word.now) ∙ ap is_some (sym (c.args.self.now.indexed.images c.args.word.now) ∙ sym c.meaning.ensures) ∙ sym c.is_some.ensures ∙ c.if-is_some.true in
    image_taken names c.args.word.now (sym c.if-not-is_name.ensures) among

pub returns-then-len : goal.returns-then-len
returns-then-len c =
    let names = names_so_far c.args.self.now.so_far in
    let among = sym (among_place names c.args.word.now) ∙ ap is_some (sym (c.args.self.now.indexed.images c.args.word.now) ∙ sym c.meaning.ensures) ∙ sym c.is_some.ensures ∙ c.if-is_some.false in
    image_over names c.args.word.now (sym c.if-not-is_name.ensures) among
    (omega (arith, c.if-len.true, c.len.ensures, length-map c.args.self.now.so_far.script.images (λ (named : NamedImage). named.name)))

pub returns : goal.returns
returns c =
    let names = names_so_far c.args.self.now.so_far in
    let among = sym (among_place names c.args.word.now) ∙ ap is_some (sym (c.args.self.now.indexed.images c.args.word.now) ∙ sym c.meaning.ensures) ∙ sym c.is_some.ensures ∙ c.if-is_some.false in (
      image_fits names c.args.word.now (sym c.if-not-is_name.ensures) among
          (omega (arith, c.if-len.false, c.len.ensures, length-map c.args.self.now.so_far.script.images (λ (named : NamedImage). named.name))),
      ap Some (sym c.in_ok-name_of.ensures),
    )

use Rattle.std.proofs.Common.{◌≡◌, ◌∙◌, ◌∷◌, [], sym, ap, subst, arith, map}
use Rattle.std.proofs.lemmas.List.{length-map, map-append}
use Rattle.ce_model.specs.Limits.{greatest_images_lem}
use Rattle.ce_script.specs.declared.script.NamedImage.{NamedImage}
use Rattle.ce_script.specs.Places.{IsIndexOf}
use Rattle.ce_script.specs.Standing.{names_so_far}
use Rattle.ce_script.proofs.Further.{few_images}
use Rattle.ce_script.proofs.Indexing.{index_more, no_place}
use Rattle.ce_script.proofs.reader.state.Reader.add_image.Goals as goal

pub overflow_cast-number : goal.overflow_cast-number
overflow_cast-number c = omega (arith, c.len-number.ensures, c.args.self.few.images, greatest_images_lem)

pub invariant_of-self : goal.invariant_of-self
invariant_of-self c =
    let so_far = c.args.self.so_far in
    let named = c.args.named_image in
    let images = c.in_ok-push.ensures.ok in
    let names = ap (map (λ (named : NamedImage). named.name)) images ∙ map-append (λ (named : NamedImage). named.name) so_far.script.images (named ∷ []) in
    let word : c.as_bytes.result.now ≡ named.name = cc in
    record {
      few = record {
        users = c.args.self.few.users;
        images = rw images (few_images so_far named c.requires);
      };
      indexed = record {
        users = c.args.self.indexed.users;
        images =
            subst (IsIndexOf c.define.new.self) (sym names)
            (index_more c.args.self.indexes.images c.define.new.self (names_so_far so_far) named.name c.len-number.result c.args.self.indexed.images (no_place (names_so_far so_far) named.name c.requires)
            (c.len-number.ensures ∙ sym (length-map so_far.script.images (λ (named : NamedImage). named.name))) (rw word at c.in_ok-define.ensures));
      };
    }

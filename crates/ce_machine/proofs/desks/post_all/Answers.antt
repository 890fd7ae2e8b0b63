use Rattle.std.proofs.Common.{◌≡◌, List, [], ◌∷◌, ◌++◌, length, refl, sym, ap, ◌∙◌, arith, append_assoc}
use Rattle.std.proofs.lemmas.Bool.{eq-eqb}
use Rattle.std.proofs.lemmas.List.{length-append}
use Rattle.ce_model.specs.declared.topology.TheConstants.{HOST}
use Rattle.ce_model.specs.declared.topology.Place.{Place}
use Rattle.ce_model.specs.declared.topology.BlockId.{BlockId}
use Rattle.ce_model.specs.Blocks.{Block}
use Rattle.ce_model.specs.Renaming.{place_outward, renamed_targets}
use Rattle.rk_mail.specs.Targets.{targets_of}
use Rattle.ce_machine.proofs.Letters.{posted-none, posted-more, out-apart, out-own, node-left, host-left}
use Rattle.ce_machine.proofs.desks.post_all.Goals as goal

pub loop-to-init : goal.loop-to-init
loop-to-init c = record {
  posted = posted-none c.args.grant.now.sub c.args.from c.args.first c.args.batch c.args.desks.now.items c.args.host.now;
  places = c.requires.places;
  numbers = refl;
  targets = refl;
  room = c.requires.targets;
  capacity = refl;
}

pub post-requires-clause-at_node : goal.post-requires-clause-at_node
post-requires-clause-at_node c = λ below.
    node-left c.requires.room (rw c.in-Some.ensures.taken at c.loop-to.invariant.posted)
    _ (c.requires.sub.within c.in-Some.to.node below) (out-own c.in-Some.to.node c.requires.sub below)

pub post-requires-clause-at_host : goal.post-requires-clause-at_host
post-requires-clause-at_host c = λ host.
    let places = rw c.in-Some.ensures.taken at c.loop-to.invariant.places in
    host-left c.requires.room (rw c.in-Some.ensures.taken at c.loop-to.invariant.posted)
    (out-apart c.in-Some.to c.requires.sub places.0 ∙ eq-eqb c.in-Some.to.node HOST host)

pub loop-to-preserved : goal.loop-to-preserved
loop-to-preserved c =
    let inv = c.loop-to.invariant in
    let taken : c.loop-to.batch ≡ (c.in-Some.to, c.in-Some.block) ∷ c.take_first.new.self = c.in-Some.ensures.taken in
    let places = rw taken at inv.places in
    let named : List (Place × Block) → List (Place × BlockId) = λ b. renamed_targets (place_outward c.args.grant.now.sub) (λ id. id) (targets_of b) in
    let rest = named c.take_first.new.self in
    let one : List (Place × BlockId) = (c.place_outward.result, c.id.result) ∷ [] in
    record {
      posted = posted-more (rw taken at inv.posted) c.post.ensures.desks c.post.ensures.host (out-apart c.in-Some.to c.requires.sub places.0);
      places = places.1;
      numbers = omega (arith, inv.numbers, ap length taken);
      targets = ap (λ front. front ++ rest) c.push_reserved.ensures.items ∙ append_assoc c.loop-to.targets.items one rest
          ∙ (λ i. c.loop-to.targets.items ++ (c.place_outward.ensures i, c.id.ensures i) ∷ rest) ∙ sym (ap (λ b. c.loop-to.targets.items ++ named b) taken) ∙ inv.targets;
      room = omega (arith, inv.room, ap length taken, ap length c.push_reserved.ensures.items, length-append c.loop-to.targets.items one);
      capacity = c.push_reserved.ensures.capacity ∙ inv.capacity;
    }

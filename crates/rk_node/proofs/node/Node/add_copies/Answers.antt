use Rattle.std.proofs.Common.{◌≡◌, ℕ, ◌++◌, ◌∷◌, length, drop, ap, sym, ◌∙◌, arith}
use Rattle.ce_model.specs.Node as model
use Rattle.ce_model.specs.Kernel.{with_store}
use Rattle.xm_block.specs.Stores.{ids_of}
use Rattle.rk_mail.specs.Targets.{bytes_of, targets_of}
use Rattle.rk_node.specs.Standing.{node_model}
use Rattle.rk_node.proofs.Copies.{zip-more, drop-next, targets-more, bytes-more, count-more}
use Rattle.rk_node.proofs.node.Node.add_copies.Goals as goal

pub loop-to-preserved : goal.loop-to-preserved
loop-to-preserved c =
    let before = node_model c.args.self.now in
    let was = c.loop-to.invariant in
    let block = c.in-Some.block in
    let rest = ids_of c.take_least.new.self.blocks in
    let next : drop c.loop-to.to-index before.store ≡ block.id ∷ rest = sym (ap (λ (n : model.Node). n.store) was.node) ∙ ap ids_of c.in-Some.ensures.taken in
    record {
      node = ap (with_store rest) was.node ∙ ap (λ store. with_store store before) (sym (drop-next before.store c.loop-to.to-index block.id rest next));
      targets = ap targets_of c.add.ensures
          ∙ targets-more c.loop-to.batch _ block (targets_of c.args.batch.now) _ was.targets
          ∙ ap (λ more. targets_of c.args.batch.now ++ more) (sym (zip-more c.args.places.now before.store c.loop-to.to-index _ block.id rest c.loop-to-test.true next));
      bytes = ap bytes_of c.add.ensures ∙ bytes-more c.loop-to.batch _ (omega (arith, was.count, c.requires.some)) ∙ was.bytes;
      count = ap {B = ℕ} length c.add.ensures ∙ count-more c.loop-to.batch _ (length c.args.batch.now) c.loop-to.to-index was.count;
      batch = was.batch;
      room = was.room;
    }

use Rattle.std.proofs.Common.{List, ℕ, Result, refl, ap, ◌∙◌}
use Rattle.rv_asm.specs.declared.fault.AsmKind.{AsmKind}
use Rattle.rv_asm.specs.declared.statement.Statement.{Statement}
use Rattle.rv_asm.specs.Faults.{judgment_of_list, with_judgment}
use Rattle.ce_text.specs.Names.{meanings_of}
use Rattle.rv_asm.specs.Views.{datum_value, list_judgment}
use Rattle.rv_asm.proofs.Gathering.{rest_bytes, with_rest, with_more}
use Rattle.rv_asm.proofs.statement.data.Goals as goal

pub loop-rest-init : goal.loop-rest-init
unfolding judgment_of_list
loop-rest-init c = record {
  whole = rw c.new-list.ensures.items refl;
  sound = rw c.new-list.ensures.items tt;
}

pub loop-rest-preserved : goal.loop-rest-preserved
loop-rest-preserved c =
    let judge : List ℕ → Result Statement AsmKind = datum_value c.args.datum (meanings_of c.args.symbols.now) in
    let parts = rw c.in-Some.bytes-is at c.first_piece.ensures.parts in
    let so_far = rw c.in-Some.is at c.loop-rest.invariant.whole in
    let judgment = list_judgment c.loop-rest.fault c.loop-rest.list.items in
    let more = with_more judge judgment c.in-Some.bytes.now c.first_piece.result.0.now (rest_bytes c.first_piece.result.1) parts in
    record {
      whole = ap (λ (it : Result (List Statement) AsmKind). with_rest judge it (rest_bytes c.first_piece.result.1)) (c.in_ok-fault.ensures.more ∙ ap (with_judgment judgment) c.datum_value-value.ensures.value) ∙ more ∙ so_far;
      sound = c.in_ok-fault.ensures.sound c.loop-rest.invariant.sound;
    }

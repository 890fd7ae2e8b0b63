use Rattle.std.proofs.Common.{◌≡◌, take, vec_len}
use Rattle.std.specs.Prelude.{sum_by}
use Rattle.ce_text.specs.Names.{meanings_of}
use Rattle.rv_asm.specs.Sizes.{size_of}
use Rattle.rv_asm.proofs.Putting.{IsPutSoFar}
use Rattle.rv_asm.proofs.second_pass.second_pass.Given as goal

abbrev pub invariant-loop-placed_statement : goal.invariant-loop-placed_statement
invariant-loop-placed_statement l = record {
  put : IsPutSoFar (meanings_of l.layout.symbols) l.layout.statements.items l.placed_statement-index l.out.items;
  size : vec_len l.out ≡ sum_by (λ it. size_of it.statement) (take l.placed_statement-index l.layout.statements.items);
}

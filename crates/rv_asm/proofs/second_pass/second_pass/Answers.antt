use Rattle.std.proofs.Common.{◌≡◌, ℕ, ◌+◌, vec_len, Ok, sym, subst, arith, length, drop}
use Rattle.std.proofs.lemmas.Grind.{common_steps}
use Rattle.rv_model.specs.declared.limits.TheConstants.{PRIVATE_START}
use Rattle.rv_asm.specs.declared.statement.PlacedStatement.{PlacedStatement}
use Rattle.ce_text.specs.Names.{meanings_of}
use Rattle.rv_asm.specs.Sizes.{size_of}
use Rattle.rv_asm.specs.Faults.{◌>>=◌, IsHaltOf}
use Rattle.rv_asm.specs.FirstPass.{judgment_at_line}
use Rattle.rv_asm.specs.SecondPass.{parts_of, second_pass}
use Rattle.rv_asm.proofs.Stopping.{stops_all}
use Rattle.rv_asm.proofs.Putting.{put_none, put_step, put_more, put_all, result_with_front, sound_at}
use Rattle.rv_asm.proofs.second_pass.second_pass.Goals as goal

pub loop-placed_statement-init : goal.loop-placed_statement-init
loop-placed_statement-init c = record {
  put = put_none (meanings_of c.args.layout.now.symbols) c.args.layout.now.statements.items c.new-out.result.items c.new-out.ensures.items;
  size = c.new-out.ensures.len;
}

pub put_statement-requires-clause-sound : goal.put_statement-requires-clause-sound
put_statement-requires-clause-sound c =
    let all = c.args.layout.now.statements.items in
    let item = rw c.deref-placed_statement-items.ensures.value at c.placed_statement-item.is in
    rw item (sound_at all c.loop-placed_statement.placed_statement-index c.placed_statement-item.result (omega arith) c.args.layout.now.sound)

pub returns-in-Err-clause-parts : goal.returns-in-Err-clause-parts
returns-in-Err-clause-parts c =
    let all = c.args.layout.now.statements.items in
    let names = meanings_of c.args.layout.now.symbols in
    let out = c.loop-placed_statement.out.items in
    let i = c.loop-placed_statement.placed_statement-index in
    let d = c.placed_statement-item.result in
    let before = c.loop-placed_statement.invariant.put in
    let item = rw c.deref-placed_statement-items.ensures.value at c.placed_statement-item.is in
    let len : length out ≡ vec_len c.loop-placed_statement.out = omega (arith, c.loop-placed_statement.out.ok.0) in
    let stopped = subst (λ (n : ℕ). IsHaltOf c.in-Err.halt (parts_of names (PRIVATE_START + n) d.statement)) (sym len) c.in-Err.ensures.parts in
    let step = put_step names all i d out (omega arith) before in
    let step_here = subst
    (λ (p : PlacedStatement). second_pass names PRIVATE_START all ≡ (judgment_at_line p.line (parts_of names (PRIVATE_START + length out) p.statement) >>= result_with_front names (PRIVATE_START + length out + size_of p.statement) (drop (i + 1) all) before.parts))
    (sym item) step in
    rw c.fault_of_line.ensures
    (stops_all c.in-Err.halt d.line (parts_of names (PRIVATE_START + length out) d.statement) (result_with_front names (PRIVATE_START + length out + size_of d.statement) (drop (i + 1) all) before.parts)
    (second_pass names PRIVATE_START all) step_here stopped)

pub loop-placed_statement-preserved : goal.loop-placed_statement-preserved
loop-placed_statement-preserved c =
    let all = c.args.layout.now.statements.items in
    let names = meanings_of c.args.layout.now.symbols in
    let out = c.loop-placed_statement.out.items in
    let i = c.loop-placed_statement.placed_statement-index in
    let d = c.placed_statement-item.result in
    let item = rw c.deref-placed_statement-items.ensures.value at c.placed_statement-item.is in
    let len : length out ≡ vec_len c.loop-placed_statement.out = omega (arith, c.loop-placed_statement.out.ok.0) in
    let new_len : length c.put_statement.new.out.items ≡ vec_len c.put_statement.new.out = omega (arith, c.put_statement.new.out.ok.0) in
    let parts = c.in_default.ensures.parts.0 in
    let known = subst (λ (n : ℕ). parts_of names (PRIVATE_START + n) d.statement ≡ Ok parts) (sym len) c.in_default.ensures.parts.1 in
    let known_here = subst (λ (p : PlacedStatement). parts_of names (PRIVATE_START + length out) p.statement ≡ Ok parts) item known in
    let grown : length c.put_statement.new.out.items ≡ length out + size_of d.statement = omega (arith, c.in_default.ensures.size) in
    let grown_here = subst (λ (p : PlacedStatement). length c.put_statement.new.out.items ≡ length out + size_of p.statement) item grown in
    record {
      put = put_more names all i d out c.put_statement.new.out.items (omega arith) c.loop-placed_statement.invariant.put parts known_here c.in_default.ensures.parts.2 grown_here;
      size = grind (arith, common_steps);
    }

pub returns-clause-parts : goal.returns-clause-parts
returns-clause-parts c =
    let so_far = c.loop-placed_statement.invariant.put in
    (so_far.parts, put_all (meanings_of c.args.layout.now.symbols) c.args.layout.now.statements.items c.loop-placed_statement.placed_statement-index c.loop-placed_statement.out.items (omega arith) so_far, so_far.spelled)

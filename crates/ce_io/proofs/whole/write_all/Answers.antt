use Rattle.std.proofs.Common.{◌≡◌, ◌+◌, ◌-◌, ◌≤◌, length, take, drop, ap, ◌∙◌, arith, length-drop, ℕ}
use Rattle.std.proofs.lemmas.Grind.{common_steps}
use Rattle.std.specs.Io.KnownBytes.{append_known}
use Rattle.ce_io.proofs.Known.{append_more}
use Rattle.ce_io.proofs.whole.write_all.Goals as goal

pub loop-written_count-preserved : goal.loop-written_count-preserved
loop-written_count-preserved g c =
    let written = g.K.Sink.written in
    let bytes = c.args.bytes.now in
    let done = c.loop-written_count.written_count in
    let n = c.in_ok-written_count.field-0 in
    let rest : take (length bytes - done) (drop done bytes) ≡ drop done bytes = grind (arith, common_steps) in
    let fits : n ≤ length (drop done bytes) = rw rest at c.in_ok-written_count.ensures.count.1 in
    let within : done + n ≤ length bytes = omega (arith, length-drop {A = ℕ}) in
    let more = append_more (written c.args.sink.now) (written c.loop-written_count.sink) bytes done n within c.loop-written_count.invariant.written in
    record {
      written = c.in_ok-written_count.ensures.written ∙ ap (λ piece. append_known (written c.loop-written_count.sink) (take n piece)) rest ∙ more;
      faults = c.in_ok-written_count.ensures.cause.passed ∙ c.loop-written_count.invariant.faults;
      within = within;
    }

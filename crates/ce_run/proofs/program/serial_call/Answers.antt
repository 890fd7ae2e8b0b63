use Rattle.std.proofs.Common.{◌≡◌, ℕ, List, Some, None, map, sym, subst, refl, ◌∙◌}
use Rattle.std.specs.String.{string_bytes}
use Rattle.ce_io.specs.Whole.{reading, writing}
use Rattle.ce_words.specs.Line.{line_of_words}
use Rattle.ce_script.specs.Load.{load}
use Rattle.ce_run.specs.declared.run_end.RunEnd.{RunEnd}
use Rattle.ce_run.specs.Promise.{HasEnded, HasFinished, HasScript}
use Rattle.ce_run.proofs.Ends.{ends_at_words, ends_of_load, runs_as_promised}
use Rattle.ce_run.proofs.program.serial_call.Goals as goal

pub returns-in-Err-clause-ended : goal.returns-in-Err-clause-ended
returns-in-Err-clause-ended g c =
    let words : List (List ℕ) = map string_bytes c.args.words.now in
    let P : RunEnd → Type 0 = HasEnded words (reading g.S.Source.left g.S.Source.given g.S.Source.faults c.args.source.now c.args.source.now)
    (writing g.K.Sink.written g.K.Sink.faults c.args.sink.now c.args.sink.now) in
    subst P (sym c.refusal.ensures)
    (ends_at_words g.S.Source.left g.S.Source.given g.S.Source.faults c.args.source.now g.K.Sink.written g.K.Sink.faults c.args.sink.now words
    c.in-Err.fault c.in-Err.ensures.fault c.in-Err.ensures.refused)

pub returns-in-Ok-Some-clause-ended : goal.returns-in-Ok-Some-clause-ended
returns-in-Ok-Some-clause-ended g c =
    ends_of_load g.S.Source.left g.S.Source.given g.S.Source.faults c.args.source.now
    (writing g.K.Sink.written g.K.Sink.faults c.args.sink.now c.run_load.new.sink) (map string_bytes c.args.words.now)
    (load c.in-Ok-Some.seed) c.in-Ok-Some.seed c.run_load.result c.in-Ok-Some.ensures.served
    (c.in-Ok-Some.ensures.load ∙ c.in-Ok-Some.field-0-is) c.run_load.ensures

pub returns-in-Ok-Some-clause-headline : goal.returns-in-Ok-Some-clause-headline
returns-in-Ok-Some-clause-headline g c =
    let line = line_of_words (map string_bytes c.args.words.now) in
    let source = reading g.S.Source.left g.S.Source.given g.S.Source.faults c.args.source.now c.args.source.now in
    let sink = writing g.K.Sink.written g.K.Sink.faults c.args.sink.now c.run_load.new.sink in
    let asked : Some c.in-Ok-Some.seed ≡ line.load = sym (c.in-Ok-Some.ensures.load ∙ c.in-Ok-Some.field-0-is) in
    let script = load c.in-Ok-Some.seed in
    runs_as_promised line source sink script c.run_load.result c.in-Ok-Some.ensures.served.serial
    (subst (λ load. HasScript load source script) asked (refl, refl))
    (subst (λ load. HasFinished script load sink c.run_load.result) asked c.run_load.ensures)

pub returns-in-Ok-clause-headline : goal.returns-in-Ok-clause-headline
returns-in-Ok-clause-headline g c =
    let line = line_of_words (map string_bytes c.args.words.now) in
    let source = reading g.S.Source.left g.S.Source.given g.S.Source.faults c.args.source.now c.read_source.new.source in
    let sink = writing g.K.Sink.written g.K.Sink.faults c.args.sink.now c.run_script.new.sink in
    let asked : None ≡ line.load = sym (c.in-Ok-None.ensures.load ∙ c.in-Ok-None.field-0-is) in
    let read = c.in-Ok.ensures.read in
    runs_as_promised line source sink c.in-Ok.script.script c.run_script.result c.in-Ok-None.ensures.served.serial
    (subst (λ load. HasScript load source c.in-Ok.script.script) asked (read.bytes, read.is_script.1, read.gave, read.is_script.0))
    (subst (λ load. HasFinished c.in-Ok.script.script load sink c.run_script.result) asked c.run_script.ensures)

-- The worked row in which a process notes 42, run with threads: the round with work ends idle, and
-- the last round is idle.
use Rattle.std.proofs.Common.{◌≡◌, ℕ, List, [], ◌∷◌, Some, None, true, codes, refl}
use Rattle.std.specs.Fmt.{digits}
use Rattle.ce_text.specs.Line.{lines_text}
use Rattle.rv_model.specs.Image.{ImageParts}
use Rattle.ce_model.specs.Limits.{greatest_dim}
use Rattle.ce_model.specs.declared.topology.TheConstants.{HOST}
use Rattle.ce_model.specs.declared.entry.What.TheVariants as whats
use Rattle.ce_model.specs.declared.entry.LookResult.TheVariants as look_result
use Rattle.ce_model.specs.declared.entry.TakeResult.TheVariants.{Start, Idle}
use Rattle.ce_model.specs.Subcubes.{extract, relative_number}
use Rattle.ce_model.specs.Views.{view}
use Rattle.ce_host.specs.declared.command.Command.TheVariants.{Getcube, Spawn, Run}
use Rattle.ce_host.specs.declared.answer.Answer.TheVariants as answers
use Rattle.ce_script.specs.declared.record.Record.{Record}
use Rattle.ce_script.specs.declared.script.Script.{Script}
use Rattle.ce_script.specs.Texts.{report}
use Rattle.ce_script.proofs.Rows.{entry_of, place, subcube}

abbrev pub the_script : ImageParts → Script
the_script image = record {
  dim = Some 0;
  images = record { name = codes "hello"; image = image } ∷ [];
  users = codes "alice" ∷ [];
  commands = (0, Getcube 0) ∷ (0, Spawn 0 (place 0 0)) ∷ (0, Run 10) ∷ [];
}

abbrev pub the_record : Record
the_record = record {
  users = record {
    name = codes "alice";
    done = (Getcube 0, answers.Granted (subcube 0 0)) ∷ (Spawn 0 (place 0 0), answers.Ok) ∷ (Run 10, answers.Quiet) ∷ [];
  } ∷ [];
  history = entry_of 0 HOST (whats.Getcube 0 (Some (subcube 0 0))) ∷ entry_of 0 HOST (whats.Spawn 0 0 (place 0 0) true) ∷ entry_of 0 HOST (whats.Arm 10)
      ∷ entry_of 0 0 (whats.Take 0 0 None (Start 0 0)) ∷ entry_of 0 0 (whats.Note 0 42) ∷ entry_of 0 0 (whats.Take 0 1 None Idle) ∷ entry_of 0 0 (whats.Take 0 1 None Idle)
      ∷ entry_of 0 HOST (whats.Look look_result.Quiet) ∷ [];
}

abbrev pub the_report : List ℕ
the_report = lines_text (
    codes "machine 0" ∷ codes "user alice" ∷ codes "getcube 0" ∷ codes "= granted mask 0 base 0" ∷ codes "spawn hello 0 0" ∷ codes "= ok"
    ∷ codes "run 10" ∷ codes "= quiet" ∷ codes "cube 0 user alice dim 0 mask 0 base 0" ∷ codes "host spawn 0 hello 0.0 ok"
    ∷ codes "host arm 10" ∷ codes "node 0 take 0 0 - start 0 hello" ∷ codes "node 0 note 0 42" ∷ codes "node 0 take 0 1 - idle"
    ∷ codes "node 0 take 0 1 - idle" ∷ codes "host look quiet" ∷ codes "end" ∷ [])

pub hello_is_reported : (image : ImageParts) → report (the_script image) the_record ≡ the_report
unfolding report view relative_number extract digits greatest_dim
hello_is_reported image = refl

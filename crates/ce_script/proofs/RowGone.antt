-- The worked row in which a process sends a block to its host and then touches it.
use Rattle.std.proofs.Common.{◌≡◌, ℕ, List, [], ◌∷◌, Some, None, true, codes, refl}
use Rattle.std.specs.Fmt.{digits}
use Rattle.ce_text.specs.Line.{lines_text}
use Rattle.rv_model.specs.Image.{ImageParts}
use Rattle.rv_model.specs.declared.stop.Stop.TheVariants.{Gone}
use Rattle.hex.specs.Hex.{encode_with}
use Rattle.ce_model.specs.declared.process.Status.TheVariants.{Stopped}
use Rattle.ce_model.specs.declared.topology.TheConstants.{HOST}
use Rattle.ce_model.specs.declared.entry.What.TheVariants as whats
use Rattle.ce_model.specs.declared.entry.LookResult.TheVariants as look_result
use Rattle.ce_model.specs.declared.entry.TakeResult.TheVariants.{Start, Idle}
use Rattle.ce_model.specs.Limits.{host_home, greatest_dim}
use Rattle.ce_model.specs.Subcubes.{extract, relative_number}
use Rattle.ce_model.specs.Views.{view}
use Rattle.ce_host.specs.declared.command.Command.{Command}
use Rattle.ce_host.specs.declared.answer.Answer.{Answer}
use Rattle.ce_host.specs.declared.command.Command.TheVariants.{Getcube, Spawn, Run, Recv, Dump, Trace}
use Rattle.ce_host.specs.declared.answer.Answer.TheVariants as answers
use Rattle.ce_script.specs.declared.record.Record.{Record}
use Rattle.ce_script.specs.declared.script.Script.{Script}
use Rattle.ce_script.specs.Texts.{report}
use Rattle.ce_script.proofs.Rows.{entry_of, place, block, subcube}

abbrev pub the_script : ImageParts → Script
the_script image = record {
  dim = Some 0;
  images = record { name = codes "gone"; image = image } ∷ [];
  users = codes "alice" ∷ [];
  commands = (0, Getcube 0) ∷ (0, Spawn 0 (place 0 0)) ∷ (0, Run 10) ∷ (0, Dump (place 0 0)) ∷ (0, Recv 0) ∷ (0, Trace) ∷ [];
}

abbrev pub message : List ℕ
message = 7 ∷ 0 ∷ 0 ∷ 0 ∷ 0 ∷ 0 ∷ 0 ∷ 0 ∷ []

abbrev pub alice_done : List (Command × Answer)
alice_done =
    (Getcube 0, answers.Granted (subcube 0 0)) ∷ (Spawn 0 (place 0 0), answers.Ok) ∷ (Run 10, answers.Quiet)
    ∷ (Dump (place 0 0), answers.State (Stopped (Gone 0x8000_0000))) ∷ (Recv 0, answers.Message (place 0 0) message) ∷ (Trace, answers.Entries 8) ∷ []

abbrev pub the_record : Record
the_record = record {
  users = record { name = codes "alice"; done = alice_done } ∷ [];
  history = entry_of 0 HOST (whats.Getcube 0 (Some (subcube 0 0))) ∷ entry_of 0 HOST (whats.Spawn 0 0 (place 0 0) true) ∷ entry_of 0 HOST (whats.Arm 10)
      ∷ entry_of 0 0 (whats.Take 0 0 None (Start 0 0)) ∷ entry_of 0 0 (whats.Send 0 0 ((place HOST 0, block 0 0) ∷ []) message)
      ∷ entry_of 0 0 (whats.Take 0 1 None Idle) ∷ entry_of 0 HOST (whats.Look look_result.Quiet) ∷ entry_of 0 HOST (whats.Arm 0) ∷ entry_of 0 HOST (whats.HostTake (Some 0)) ∷ [];
}

abbrev pub the_report : List ℕ
the_report = lines_text (
    codes "machine 0" ∷ codes "user alice" ∷ codes "getcube 0" ∷ codes "= granted mask 0 base 0" ∷ codes "spawn gone 0 0" ∷ codes "= ok"
    ∷ codes "run 10" ∷ codes "= quiet" ∷ codes "dump 0 0" ∷ codes "= stopped gone 0x80000000" ∷ codes "recv 0"
    ∷ codes "= message 0.0 0700000000000000" ∷ codes "trace" ∷ codes "= entries 8" ∷ codes "cube 0 user alice dim 0 mask 0 base 0"
    ∷ codes "host spawn 0 gone 0.0 ok" ∷ codes "host arm 10" ∷ codes "node 0 take 0 0 - start 0 gone"
    ∷ codes "node 0 send 0 0 host.0=0.0 0700000000000000" ∷ codes "node 0 take 0 1 - idle" ∷ codes "host look quiet"
    ∷ codes "host arm 0" ∷ codes "host get 0" ∷ codes "end" ∷ [])

pub gone_is_reported : (image : ImageParts) → report (the_script image) the_record ≡ the_report
unfolding report view relative_number extract digits encode_with host_home greatest_dim
gone_is_reported image = refl

-- The worked row in which messages wait for a process that is started later, and come back in
-- order.
use Rattle.std.proofs.Common.{◌≡◌, ℕ, List, [], ◌∷◌, Some, None, true, codes, refl}
use Rattle.std.specs.Fmt.{digits}
use Rattle.ce_text.specs.Line.{lines_text}
use Rattle.rv_model.specs.Image.{ImageParts}
use Rattle.hex.specs.Hex.{encode_with}
use Rattle.ce_model.specs.declared.topology.TheConstants.{HOST}
use Rattle.ce_model.specs.declared.entry.What.{What}
use Rattle.ce_model.specs.declared.entry.What.TheVariants as whats
use Rattle.ce_model.specs.declared.entry.LookResult.TheVariants as look_result
use Rattle.ce_model.specs.declared.entry.TakeResult.TheVariants.{Start, Mail, Idle}
use Rattle.ce_model.specs.Limits.{host_home, greatest_dim}
use Rattle.ce_model.specs.Subcubes.{extract, relative_number}
use Rattle.ce_model.specs.Views.{view}
use Rattle.ce_host.specs.declared.command.Command.{Command}
use Rattle.ce_host.specs.declared.answer.Answer.{Answer}
use Rattle.ce_host.specs.declared.command.Command.TheVariants.{Getcube, Send, Spawn, Recv}
use Rattle.ce_host.specs.declared.answer.Answer.TheVariants as answers
use Rattle.ce_script.specs.declared.record.Record.{Record}
use Rattle.ce_script.specs.declared.script.Script.{Script}
use Rattle.ce_script.specs.Texts.{report}
use Rattle.ce_script.proofs.Rows.{first_bytes, second_bytes, entry_of, place, block, subcube}

abbrev pub the_script : ImageParts → Script
the_script image = record {
  dim = Some 0;
  images = record { name = codes "echo"; image = image } ∷ [];
  users = codes "alice" ∷ [];
  commands = (0, Getcube 0) ∷ (0, Send (place 0 0) first_bytes) ∷ (0, Send (place 0 0) second_bytes) ∷ (0, Spawn 0 (place 0 0)) ∷ (0, Recv 100)
      ∷ (0, Recv 100) ∷ (0, Recv 100) ∷ [];
}

-- the host sends its block of this index, and the process sends it back
abbrev pub host_send : ℕ → List ℕ → ℕ → What
host_send index bytes first = whats.Send 0 first ((place 0 0, block 256 index) ∷ []) bytes

abbrev pub reply_send : ℕ → List ℕ → ℕ → What
reply_send index bytes first = whats.Send 0 first ((place HOST 0, block 256 index) ∷ []) bytes

abbrev pub alice_done : List (Command × Answer)
alice_done =
    (Getcube 0, answers.Granted (subcube 0 0)) ∷ (Send (place 0 0) first_bytes, answers.Ok) ∷ (Send (place 0 0) second_bytes, answers.Ok) ∷ (Spawn 0 (place 0 0), answers.Ok)
    ∷ (Recv 100, answers.Message (place 0 0) first_bytes) ∷ (Recv 100, answers.Message (place 0 0) second_bytes) ∷ (Recv 100, answers.None) ∷ []

abbrev pub the_record : Record
the_record = record {
  users = record { name = codes "alice"; done = alice_done } ∷ [];
  history = entry_of 0 HOST (whats.Getcube 0 (Some (subcube 0 0))) ∷ entry_of 0 HOST (host_send 0 first_bytes 0) ∷ entry_of 0 HOST (host_send 1 second_bytes 1)
      ∷ entry_of 0 HOST (whats.Spawn 0 0 (place 0 0) true)
      ∷ entry_of 0 HOST (whats.Arm 100) ∷ entry_of 0 HOST (whats.HostTake None) ∷ entry_of 0 0 (whats.Take 0 0 None (Start 0 0)) ∷ entry_of 0 HOST (whats.HostTake None)
      ∷ entry_of 0 0 (whats.Take 1 0 None (Mail 0 0)) ∷ entry_of 0 0 (reply_send 0 first_bytes 2) ∷ entry_of 0 HOST (whats.HostTake (Some 2))
      ∷ entry_of 0 HOST (whats.Arm 100) ∷ entry_of 0 HOST (whats.HostTake None) ∷ entry_of 0 0 (whats.Take 1 0 None (Mail 0 1)) ∷ entry_of 0 0 (reply_send 1 second_bytes 3)
      ∷ entry_of 0 HOST (whats.HostTake (Some 3))
      ∷ entry_of 0 HOST (whats.Arm 100) ∷ entry_of 0 HOST (whats.HostTake None) ∷ entry_of 0 0 (whats.Take 1 0 None Idle) ∷ entry_of 0 HOST (whats.HostTake None)
      ∷ entry_of 0 HOST (whats.Look look_result.Quiet) ∷ [];
}

abbrev pub the_report : List ℕ
the_report = lines_text (
    codes "machine 0" ∷ codes "user alice" ∷ codes "getcube 0" ∷ codes "= granted mask 0 base 0" ∷ codes "send 0 0 aa" ∷ codes "= ok"
    ∷ codes "send 0 0 bb" ∷ codes "= ok" ∷ codes "spawn echo 0 0" ∷ codes "= ok" ∷ codes "recv 100" ∷ codes "= message 0.0 aa"
    ∷ codes "recv 100" ∷ codes "= message 0.0 bb" ∷ codes "recv 100" ∷ codes "= none" ∷ codes "cube 0 user alice dim 0 mask 0 base 0"
    ∷ codes "host send 0 0 0.0=host.0 aa" ∷ codes "host send 0 1 0.0=host.1 bb" ∷ codes "host spawn 0 echo 0.0 ok"
    ∷ codes "host arm 100" ∷ codes "host get -" ∷ codes "node 0 take 0 0 - start 0 echo" ∷ codes "host get -"
    ∷ codes "node 0 take 1 0 - mail 0 0" ∷ codes "node 0 send 0 2 host.0=host.0 aa" ∷ codes "host get 2" ∷ codes "host arm 100"
    ∷ codes "host get -" ∷ codes "node 0 take 1 0 - mail 0 1" ∷ codes "node 0 send 0 3 host.0=host.1 bb" ∷ codes "host get 3"
    ∷ codes "host arm 100" ∷ codes "host get -" ∷ codes "node 0 take 1 0 - idle" ∷ codes "host get -" ∷ codes "host look quiet"
    ∷ codes "end" ∷ [])

pub unborn_is_reported : (image : ImageParts) → report (the_script image) the_record ≡ the_report
unfolding report view relative_number extract digits encode_with host_home greatest_dim
unborn_is_reported image = refl

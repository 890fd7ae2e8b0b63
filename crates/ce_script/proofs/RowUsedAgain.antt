-- The worked row in which a cube is given back with messages that wait, and its node is used again:
-- what is written about the history of the model's row.
use Rattle.std.proofs.Common.{◌≡◌, ℕ, List, [], ◌∷◌, ◌++◌, Some, codes, refl}
use Rattle.std.specs.Fmt.{digits}
use Rattle.ce_text.specs.Line.{lines_text}
use Rattle.rv_model.specs.Image.{ImageParts}
use Rattle.hex.specs.Hex.{encode_with}
pub use Rattle.ce_script.proofs.Rows.{first_bytes, second_bytes, third_bytes}
use Rattle.ce_model.specs.Limits.{host_home, greatest_dim}
use Rattle.ce_model.specs.Subcubes.{extract, relative_number}
use Rattle.ce_model.specs.Views.{view}
use Rattle.ce_model.proofs.Rows.UsedAgain.{first_cube, second_cube}
use Rattle.ce_host.specs.declared.command.Command.{Command}
use Rattle.ce_host.specs.declared.command.Command.TheVariants.{Getcube, Send, Freecube, Spawn, Run}
use Rattle.ce_host.specs.declared.answer.Answer.{Answer}
use Rattle.ce_host.specs.declared.answer.Answer.TheVariants as answers
use Rattle.ce_script.specs.declared.record.Record.{Record}
use Rattle.ce_script.specs.declared.script.Script.{Script}
use Rattle.ce_script.specs.Texts.{report}
use Rattle.ce_script.proofs.Rows.{place, subcube}

abbrev pub the_script : ImageParts → Script
the_script image = record {
  dim = Some 0;
  images = record { name = codes "waiter"; image = image } ∷ [];
  users = codes "alice" ∷ codes "bob" ∷ [];
  commands = (0, Getcube 0) ∷ (0, Send (place 0 0) first_bytes) ∷ (0, Send (place 0 0) second_bytes) ∷ (0, Send (place 0 0) third_bytes) ∷ (0, Freecube)
      ∷ (1, Getcube 0) ∷ (1, Spawn 0 (place 0 0)) ∷ (1, Run 10) ∷ [];
}

abbrev pub alice_done : List (Command × Answer)
alice_done =
    (Getcube 0, answers.Granted (subcube 0 0)) ∷ (Send (place 0 0) first_bytes, answers.Ok) ∷ (Send (place 0 0) second_bytes, answers.Ok) ∷ (Send (place 0 0) third_bytes, answers.Ok)
    ∷ (Freecube, answers.Freed) ∷ []

abbrev pub bob_done : List (Command × Answer)
bob_done = (Getcube 0, answers.Granted (subcube 0 0)) ∷ (Spawn 0 (place 0 0), answers.Ok) ∷ (Run 10, answers.Quiet) ∷ []

abbrev pub the_record : Record
the_record = record {
  users = record { name = codes "alice"; done = alice_done } ∷ record { name = codes "bob"; done = bob_done } ∷ [];
  history = first_cube ++ second_cube;
}

abbrev pub the_report : List ℕ
the_report = lines_text (
    codes "machine 0" ∷ codes "user alice" ∷ codes "getcube 0" ∷ codes "= granted mask 0 base 0" ∷ codes "send 0 0 aa" ∷ codes "= ok"
    ∷ codes "send 0 0 bb" ∷ codes "= ok" ∷ codes "send 0 0 cc" ∷ codes "= ok" ∷ codes "freecube" ∷ codes "= freed" ∷ codes "user bob"
    ∷ codes "getcube 0" ∷ codes "= granted mask 0 base 0" ∷ codes "spawn waiter 0 0" ∷ codes "= ok" ∷ codes "run 10" ∷ codes "= quiet"
    ∷ codes "cube 0 user alice dim 0 mask 0 base 0" ∷ codes "host send 0 0 0.0=host.0 aa" ∷ codes "host send 0 1 0.0=host.1 bb"
    ∷ codes "host send 0 2 0.0=host.2 cc" ∷ codes "cube 1 user bob dim 0 mask 0 base 0" ∷ codes "host spawn 0 waiter 0.0 ok"
    ∷ codes "host arm 10" ∷ codes "node 0 take 0 0 - start 0 waiter" ∷ codes "node 0 take 1 0 - idle" ∷ codes "host look quiet"
    ∷ codes "end" ∷ [])

pub used_again_is_reported : (image : ImageParts) → report (the_script image) the_record ≡ the_report
unfolding report view relative_number extract digits encode_with host_home greatest_dim
used_again_is_reported image = refl

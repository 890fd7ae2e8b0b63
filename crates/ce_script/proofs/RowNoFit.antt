-- The worked row in which two nodes are free that are no cube of dimension 1: one user is refused,
-- and looks which cubes are held.
use Rattle.std.proofs.Common.{◌≡◌, ℕ, List, [], ◌∷◌, Some, None, codes, refl}
use Rattle.std.specs.Fmt.{digits}
use Rattle.ce_text.specs.Line.{lines_text}
use Rattle.ce_model.specs.Limits.{greatest_dim}
use Rattle.ce_model.specs.declared.topology.TheConstants.{HOST}
use Rattle.ce_model.specs.declared.entry.What.TheVariants as whats
use Rattle.ce_model.specs.Subcubes.{extract, relative_number}
use Rattle.ce_model.specs.Views.{view}
use Rattle.ce_daemon.specs.declared.grant.Grant.{Grant}
use Rattle.ce_host.specs.declared.command.Command.TheVariants.{Getcube, Peek, Freecube}
use Rattle.ce_host.specs.declared.answer.Answer.TheVariants as answers
use Rattle.ce_script.specs.declared.record.UserRecord.{UserRecord}
use Rattle.ce_script.specs.declared.record.Record.{Record}
use Rattle.ce_script.specs.declared.script.Script.{Script}
use Rattle.ce_script.specs.Texts.{report}
use Rattle.ce_script.proofs.Rows.{entry_of, subcube}

abbrev pub the_script : Script
the_script = record {
  dim = Some 2;
  images = [];
  users = codes "a" ∷ codes "b" ∷ codes "c" ∷ codes "d" ∷ [];
  commands = (0, Getcube 0) ∷ (1, Getcube 0) ∷ (2, Getcube 0) ∷ (0, Freecube) ∷ (3, Getcube 1) ∷ (3, Peek) ∷ [];
}

-- a grant of one node
abbrev pub grant : ℕ → Grant
grant number = record { number = number; user = number; dim = 0; sub = subcube 0 number }

abbrev pub users : List UserRecord
users =
    record { name = codes "a"; done = (Getcube 0, answers.Granted (subcube 0 0)) ∷ (Freecube, answers.Freed) ∷ [] }
    ∷ record { name = codes "b"; done = (Getcube 0, answers.Granted (subcube 0 1)) ∷ [] }
    ∷ record { name = codes "c"; done = (Getcube 0, answers.Granted (subcube 0 2)) ∷ [] }
    ∷ record { name = codes "d"; done = (Getcube 1, answers.None) ∷ (Peek, answers.Peeked (record { free = 2; grants = grant 1 ∷ grant 2 ∷ [] })) ∷ [] }
    ∷ []

abbrev pub the_record : Record
the_record = record {
  users = users;
  history = entry_of 0 HOST (whats.Getcube 0 (Some (subcube 0 0))) ∷ entry_of 1 HOST (whats.Getcube 0 (Some (subcube 0 1)))
      ∷ entry_of 2 HOST (whats.Getcube 0 (Some (subcube 0 2))) ∷ entry_of 0 HOST whats.Drain ∷ entry_of 0 HOST whats.Freecube ∷ entry_of 3 HOST (whats.Getcube 1 None)
      ∷ entry_of 3 HOST whats.Peek ∷ [];
}

abbrev pub the_report : List ℕ
the_report = lines_text (
    codes "machine 2" ∷ codes "user a" ∷ codes "getcube 0" ∷ codes "= granted mask 0 base 0" ∷ codes "freecube" ∷ codes "= freed"
    ∷ codes "user b" ∷ codes "getcube 0" ∷ codes "= granted mask 0 base 1" ∷ codes "user c" ∷ codes "getcube 0"
    ∷ codes "= granted mask 0 base 2" ∷ codes "user d" ∷ codes "getcube 1" ∷ codes "= none" ∷ codes "peek"
    ∷ codes "= free 2, b dim 0 mask 0 base 1, c dim 0 mask 0 base 2" ∷ codes "cube 0 user a dim 0 mask 0 base 0"
    ∷ codes "cube 1 user b dim 0 mask 0 base 1" ∷ codes "cube 2 user c dim 0 mask 0 base 2" ∷ codes "end" ∷ [])

pub no_fit_is_reported : report the_script the_record ≡ the_report
unfolding report view relative_number extract digits greatest_dim
no_fit_is_reported = refl

-- The records that the model allows of a script.
use Rattle.std.specs.Prelude.{◌≡◌, ℕ, ◌==◌, List, map, filter, length, unwrap_or}
use Rattle.std.specs.List.{AllByRecursion, enumerate_from}
use Rattle.rv_model.specs.Image.{ImageParts}
use Rattle.ce_model.specs.declared.entry.Entry.{Entry}
use Rattle.ce_model.specs.Views.{grants_of, view}
use Rattle.ce_model.specs.Cube.{Cube, opening, IsAlone}
use Rattle.ce_model.specs.Owners.{IsOwned}
use Rattle.ce_model.specs.Order.{IsInOrder}
use Rattle.ce_model.specs.Machine.{MachineParts, IsLawful, cube_of}
use Rattle.ce_host.specs.declared.command.Command.{Command}
use Rattle.ce_script.specs.declared.record.UserRecord.{UserRecord}
use Rattle.ce_script.specs.declared.record.Record.{Record}
use Rattle.ce_script.specs.declared.script.Script.{Script}
use Rattle.ce_script.specs.Rounds.{RoundKind}
use Rattle.ce_script.specs.Doings.{Doing, AreDoings, AreRefusedExactly}

-- ---- the script's part

-- the images of a script
abbrev pub script_images : Script → List ImageParts
script_images script = map (λ named_image. named_image.image) script.images

-- the machine of a script
abbrev pub machine_of : Script → MachineParts
machine_of script =
    record {
      dim = unwrap_or script.dim 0;
      users = length script.users;
      images = script_images script;
    }

-- the commands of a user, by number, in the script's order
abbrev pub user_commands : Script → ℕ → List Command
user_commands script user = map (λ user_command. user_command.1)
    (filter (λ user_command. user_command.0 == user) script.commands)

-- this holds of each user of a record, by number
abbrev pub EachUser : (ℕ → UserRecord → Type 0) → Record → Type 0
EachUser P run_record =
    AllByRecursion (λ numbered_user. P numbered_user.0 numbered_user.1)
    (enumerate_from 0 run_record.users)

-- the record has the script's users, by number, each with all its commands, in the script's order
pub record IsRecordOfScript (script : Script) (run_record : Record) : Type 0 where
  pub users : map (λ user. user.name) run_record.users ≡ script.users
  pub commands : EachUser
      (λ number user. map (λ doing. doing.0) user.done ≡ user_commands script number) run_record

-- ---- the record

-- this holds of each cube that a history grants, and of its trace
abbrev pub EachCube : (Cube → List Entry → Type 0) → List ImageParts → List Entry → Type 0
EachCube P images history =
    AllByRecursion
    (λ numbered_grant. P (cube_of images numbered_grant.1) (view history numbered_grant.0))
    (enumerate_from 0 (grants_of history))

-- The model allows the record, all of whose rounds are of this kind: its users and commands are the
-- script's; the machine allows its history, which is empty where there are no users; each user's
-- replies and entries are those of its commands; each cube's trace is the one that it gives alone,
-- each of its blocks always has one owner, and messages arrive in order; and a getcube is refused
-- exactly where it must be.
pub record IsLegal (kind : RoundKind) (script : Script) (run_record : Record) : Type 0 where
  pub doings : ℕ → List Doing
  pub keeps : IsRecordOfScript script run_record
  pub lawful : IsLawful (machine_of script) run_record.history
  pub does : EachUser
      (λ number user.
      AreDoings kind (machine_of script) run_record.history number user.done
      (doings number)) run_record
  pub alone : EachCube IsAlone (script_images script) run_record.history
  pub owned : EachCube (λ cube t. IsOwned cube (opening cube) t)
      (script_images script) run_record.history
  pub in_order : EachCube (λ cube t. IsInOrder (opening cube).standing t) (script_images script)
      run_record.history
  pub refused : EachUser
      (λ number user. AreRefusedExactly (machine_of script) (doings number)) run_record

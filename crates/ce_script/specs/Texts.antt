-- What is written about a record: the report of a script's run, and the summary of a load's.
use Rattle.std.specs.Prelude.{ℕ, List, [], ◌∷◌, ◌++◌, Some, None, Bool, true, false, codes, decimal, find, flat_map, option_map, unwrap_or}
use Rattle.std.specs.List.{enumerate_from}
use Rattle.ce_model.specs.Renaming.{CubeGrant}
use Rattle.ce_model.specs.Views.{grants_of, view}
use Rattle.ce_host.specs.declared.command.Command.{Command}
use Rattle.ce_host.specs.declared.command.Command.TheVariants.{Recv}
use Rattle.ce_host.specs.declared.answer.Answer.{Answer}
use Rattle.ce_script.specs.declared.record.UserRecord.{UserRecord}
use Rattle.ce_script.specs.declared.record.Record.{Record}
use Rattle.ce_script.specs.declared.script.Script.{Script}
use Rattle.ce_script.specs.TextParts.{line, user_name, subcube_words}
use Rattle.ce_script.specs.CommandText.{command_words, reply_text}
use Rattle.ce_script.specs.EntryText.{entry_line}

-- ---- the report

-- a command and its reply, a line each
abbrev pub doing_text : Script → Record → Command × Answer → List ℕ
doing_text script run_record doing =
    line (command_words script doing.0) ++ line (codes "=" ∷ reply_text run_record doing.1 ∷ [])

-- a user, and what it did
abbrev pub user_text : Script → Record → UserRecord → List ℕ
user_text script run_record user =
    line (codes "user" ∷ user.name ∷ []) ++ flat_map (doing_text script run_record) user.done

-- the head of a cube's section
abbrev pub cube_line : Record → ℕ → CubeGrant → List ℕ
cube_line run_record number grant =
    line (codes "cube" ∷ decimal number ∷ codes "user" ∷ user_name run_record grant.user
    ∷ codes "dim"
    ∷ decimal grant.dim ∷ subcube_words grant.sub)

-- the section of a cube: whose it is and which nodes it is, and its trace
abbrev pub cube_text : Script → Record → ℕ × CubeGrant → List ℕ
cube_text script run_record numbered_grant =
    cube_line run_record numbered_grant.0 numbered_grant.1
    ++ flat_map (entry_line script) (view run_record.history numbered_grant.0)

-- the report; of a script without statements nothing is written
unfoldable pub report : Script → Record → List ℕ
report script run_record = elim script.dim [
  | None ↦ []
  | Some dim ↦ line (codes "machine" ∷ decimal dim ∷ [])
      ++ flat_map (user_text script run_record) run_record.users
      ++ flat_map (cube_text script run_record) (enumerate_from 0 (grants_of run_record.history))
      ++ line (codes "end" ∷ [])
]

-- ---- the summary

abbrev pub is_recv : Command → Bool
is_recv (Recv count) = true
is_recv other = false

-- what a user's `recv` was answered
abbrev pub received_text : Record → UserRecord → List ℕ
received_text run_record user =
    unwrap_or
    (option_map (λ doing. reply_text run_record doing.1)
    (find (λ doing. is_recv doing.0) user.done)) []

-- the summary of the load of this seed
unfoldable pub summary : ℕ → Record → List ℕ
summary seed run_record =
    line (codes "load" ∷ decimal seed ∷ [])
    ++ flat_map (λ user. line (user.name ∷ received_text run_record user ∷ [])) run_record.users

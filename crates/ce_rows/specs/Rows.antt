-- The worked rows.
use Rattle.std.specs.Prelude.{ℕ, List, [], ◌∷◌, Some, None, true, false}
use Rattle.rv_model.specs.declared.limits.TheConstants.{PRIVATE_START}
use Rattle.rv_model.specs.Image.{ImageParts, image_parts}
use Rattle.ce_model.specs.declared.limits.TheConstants.{HOST_HOME}
use Rattle.ce_model.specs.declared.topology.Place.{Place}
use Rattle.ce_model.specs.declared.topology.Subcube.{Subcube}
use Rattle.ce_model.specs.declared.entry.What.{What}
use Rattle.ce_model.specs.declared.entry.What.TheVariants.{Getcube, Peek, Drain, Freecube, Arm, Look, HostTake, Send, Spawn, Kill, Note, Take}
use Rattle.ce_model.specs.declared.entry.TakeResult.TheVariants as take_result
use Rattle.ce_model.specs.declared.entry.LookResult.TheVariants as look_result
use Rattle.ce_model.specs.declared.entry.KillResult.TheVariants.{Killed, Unused, Already}
use Rattle.ce_model.specs.Literals.{machine, entry_of, host_entry, subcube}
pub use Rattle.ce_model.specs.Literals.{place, block, first_bytes}
use Rattle.ce_model.specs.Node as model
use Rattle.ce_model.specs.Node.{take_call, send_call, spawn_call, kill_call, note_call, arm_call, look_call, mail_call, host_place}
use Rattle.ce_model.specs.Machine.{Request, getcube, peek, drain, freecube, cube_request}
use Rattle.ce_lock.specs.declared.who.Who.{Who}
use Rattle.ce_machine.specs.declared.call.Call.{Call}
use Rattle.ce_rows.specs.declared.worked.WorkedRow.{WorkedRow}
use Rattle.ce_rows.specs.declared.worked.WorkedRow.TheVariants.{FirstCube, GreatestCube, NextOwner, Replies, Hearings, WaitingMail}
use Rattle.ce_rows.specs.RowEntries.{RowEntry, Row, IsNextRowCall, IsCallWithoutBoxes}

-- ---- words of the rows

-- an entry of a user's host, and of a node that a user holds
abbrev pub host_row : ℕ → Request → What → RowEntry
host_row user request what = record { request = request; entry = host_entry user what }

abbrev pub node_row : ℕ → ℕ → model.Call → What → RowEntry
node_row user node call what =
    record { request = cube_request call; entry = entry_of user node what }

-- the whole machine of one node
abbrev pub node_0 : Subcube
node_0 = subcube 0 0

abbrev pub place_0 : Place
place_0 = place 0 0

-- the bytes of a program that notes 42, sends a byte to its host, and then asks for a message three
-- times
abbrev pub program : List ℕ
program =
    147 ∷ 8 ∷ 224 ∷ 0
    ∷ 19 ∷ 5 ∷ 160 ∷ 2
    ∷ 115 ∷ 0 ∷ 0 ∷ 0
    ∷ 147 ∷ 8 ∷ 16 ∷ 0
    ∷ 19 ∷ 5 ∷ 16 ∷ 0
    ∷ 115 ∷ 0 ∷ 0 ∷ 0
    ∷ 147 ∷ 8 ∷ 64 ∷ 0
    ∷ 147 ∷ 5 ∷ 240 ∷ 255
    ∷ 115 ∷ 0 ∷ 0 ∷ 0
    ∷ 147 ∷ 8 ∷ 96 ∷ 0
    ∷ 115 ∷ 0 ∷ 0 ∷ 0
    ∷ 115 ∷ 0 ∷ 0 ∷ 0
    ∷ 115 ∷ 0 ∷ 0 ∷ 0 ∷ []

abbrev pub image : ImageParts
image = image_parts PRIVATE_START program 0

-- ---- the rows

abbrev pub first_cube : List RowEntry
first_cube =
    host_row 1 (getcube 1) (Getcube 1 (Some (subcube 1 0)))
    ∷ host_row 0 peek Peek
    ∷ []

abbrev pub greatest_cube : List RowEntry
greatest_cube = host_row 7 (getcube 6) (Getcube 6 (Some (subcube 63 0))) ∷ []

abbrev pub next_owner : List RowEntry
next_owner =
    host_row 0 (getcube 0) (Getcube 0 (Some node_0))
    ∷ host_row 0 (cube_request (send_call 0 ((place_0, block HOST_HOME 0) ∷ []) first_bytes))
    (Send 0 0 ((place_0, block HOST_HOME 0) ∷ []) first_bytes)
    ∷ host_row 0 drain Drain
    ∷ host_row 0 freecube Freecube
    ∷ host_row 1 (getcube 0) (Getcube 0 (Some node_0))
    ∷ node_row 1 0 (take_call 0 0 None) (Take 0 0 None take_result.Idle)
    ∷ []

abbrev pub replies : List RowEntry
replies =
    host_row 1 peek Peek
    ∷ host_row 0 (getcube 0) (Getcube 0 (Some node_0))
    ∷ host_row 1 (getcube 0) (Getcube 0 None)
    ∷ host_row 0 (cube_request look_call) (Look look_result.Quiet)
    ∷ host_row 0 (cube_request (kill_call 0 place_0)) (Kill 0 place_0 Unused)
    ∷ host_row 0 (cube_request (spawn_call 0 0 place_0)) (Spawn 0 0 place_0 true)
    ∷ host_row 0 (cube_request (spawn_call 0 0 place_0)) (Spawn 0 0 place_0 false)
    ∷ host_row 0 (cube_request look_call) (Look look_result.Spent)
    ∷ node_row 0 0 (take_call 0 0 None) (Take 0 0 None take_result.Spent)
    ∷ host_row 0 (cube_request (arm_call 3)) (Arm 3)
    ∷ host_row 0 (cube_request look_call) (Look look_result.Busy)
    ∷ host_row 0 (cube_request (kill_call 0 place_0)) (Kill 0 place_0 Killed)
    ∷ host_row 0 (cube_request (kill_call 0 place_0)) (Kill 0 place_0 Already)
    ∷ host_row 0 (cube_request (send_call 0 ((place_0, block HOST_HOME 0) ∷ []) first_bytes))
    (Send 0 0 ((place_0, block HOST_HOME 0) ∷ []) first_bytes)
    ∷ host_row 0 (cube_request mail_call) (HostTake None)
    ∷ node_row 0 0 (take_call 0 0 None) (Take 0 0 None (take_result.Start 0 0))
    ∷ host_row 0 drain Drain
    ∷ []

abbrev pub hearings : List RowEntry
hearings =
    host_row 0 (getcube 0) (Getcube 0 (Some node_0))
    ∷ host_row 0 (cube_request (spawn_call 0 0 place_0)) (Spawn 0 0 place_0 true)
    ∷ host_row 0 (cube_request (arm_call 10)) (Arm 10)
    ∷ node_row 0 0 (take_call 0 0 None) (Take 0 0 None (take_result.Start 0 0))
    ∷ node_row 0 0 (note_call 0 42) (Note 0 42)
    ∷ node_row 0 0 (send_call 0 ((host_place, block 0 0) ∷ []) (0 ∷ []))
    (Send 0 0 ((host_place, block 0 0) ∷ []) (0 ∷ []))
    ∷ node_row 0 0 (take_call 1 0 (Some 0)) (Take 1 0 (Some 0) (take_result.Poll 0))
    ∷ host_row 0 (cube_request (send_call 0 ((place_0, block HOST_HOME 0) ∷ []) first_bytes))
    (Send 0 1 ((place_0, block HOST_HOME 0) ∷ []) first_bytes)
    ∷ node_row 0 0 (take_call 1 0 (Some 0)) (Take 1 0 (Some 0) (take_result.Mail 0 1))
    ∷ host_row 0 (cube_request mail_call) (HostTake (Some 0))
    ∷ host_row 0 (cube_request (kill_call 0 place_0)) (Kill 0 place_0 Killed)
    ∷ node_row 0 0 (take_call 1 0 (Some 0)) (Take 1 0 (Some 0) (take_result.Kill 0))
    ∷ node_row 0 0 (take_call 0 1 None) (Take 0 1 None take_result.Idle)
    ∷ []

abbrev pub waiting_mail : List RowEntry
waiting_mail =
    host_row 0 (getcube 2) (Getcube 2 (Some (subcube 3 0)))
    ∷ host_row 0 (cube_request (spawn_call 0 0 (place 1 0))) (Spawn 0 0 (place 1 0) true)
    ∷ host_row 0 (cube_request (arm_call 10)) (Arm 10)
    ∷ node_row 0 1 (take_call 0 0 None) (Take 0 0 None (take_result.Start 0 0))
    ∷ node_row 0 1 (note_call 0 42) (Note 0 42)
    ∷ node_row 0 1 (send_call 0 ((host_place, block 1 0) ∷ []) (0 ∷ []))
    (Send 0 0 ((host_place, block 1 0) ∷ []) (0 ∷ []))
    ∷ host_row 0 (cube_request (send_call 0 ((place 2 0, block HOST_HOME 0) ∷ []) first_bytes))
    (Send 0 1 ((place 2 0, block HOST_HOME 0) ∷ []) first_bytes)
    ∷ host_row 0 (cube_request (send_call 0 ((place 0 0, block HOST_HOME 1) ∷ []) first_bytes))
    (Send 0 2 ((place 0 0, block HOST_HOME 1) ∷ []) first_bytes)
    ∷ host_row 0 (cube_request (send_call 0 ((place 3 1, block HOST_HOME 2) ∷ []) first_bytes))
    (Send 0 3 ((place 3 1, block HOST_HOME 2) ∷ []) first_bytes)
    ∷ host_row 0 drain Drain
    ∷ []

-- the row of a name
abbrev pub row_of : WorkedRow → Row
row_of FirstCube = record { parts = machine 2 2 image; entries = first_cube }
row_of GreatestCube = record { parts = machine 6 8 image; entries = greatest_cube }
row_of NextOwner = record { parts = machine 0 2 image; entries = next_owner }
row_of Replies = record { parts = machine 0 2 image; entries = replies }
row_of Hearings = record { parts = machine 0 1 image; entries = hearings }
row_of WaitingMail = record { parts = machine 2 1 image; entries = waiting_mail }

-- the call is a row's next behind its first so many, and it brings no boxes
pub record IsRowCallWithoutBoxes {N : Type 0} (row : WorkedRow) (count : ℕ) (who : Who)
    (call : Call N) : Type 0 where
  pub next : IsNextRowCall (row_of row) count who call
  pub boxes : IsCallWithoutBoxes call

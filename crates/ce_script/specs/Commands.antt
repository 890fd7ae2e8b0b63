-- What a user's commands do: the entries that each one makes, and its reply.
use Rattle.std.specs.Prelude.{◌≡◌, ℕ, List, [], ◌∷◌, ◌++◌, Option, Some, None, Bool, true, false, if◌then◌else◌, length, map, flat_map, option_map}
use Rattle.std.specs.List.{AllByRecursion}
use Rattle.ce_model.specs.declared.topology.TheConstants.{HOST}
use Rattle.ce_model.specs.declared.topology.Place.{Place}
use Rattle.ce_model.specs.declared.topology.BlockId.{BlockId}
use Rattle.ce_model.specs.declared.topology.Subcube.{Subcube}
use Rattle.ce_model.specs.declared.entry.Entry.{Entry}
use Rattle.ce_model.specs.declared.entry.What.TheVariants as whats
use Rattle.ce_model.specs.declared.entry.LookResult.{LookResult}
use Rattle.ce_model.specs.declared.entry.LookResult.TheVariants as look_result
use Rattle.ce_model.specs.declared.entry.KillResult.{KillResult}
use Rattle.ce_model.specs.declared.entry.KillResult.TheVariants as kill_result
use Rattle.ce_model.specs.Parcels.{Parcel, Item}
use Rattle.ce_model.specs.Node.{is_place, process_at}
use Rattle.ce_model.specs.Renaming.{entry_inward}
use Rattle.ce_model.specs.Trace.{sent_items}
use Rattle.ce_model.specs.Cube.{Cube, CubeState, opening, hoststore, parcel_numbered, rest}
use Rattle.ce_model.specs.Machine.{MachineParts, after, cube_of}
use Rattle.ce_model.specs.Literals.{host_entry}
use Rattle.ce_daemon.specs.Peeks.{peek_result}
use Rattle.ce_host.specs.declared.command.Command.{Command}
use Rattle.ce_host.specs.declared.command.Command.TheVariants.{Getcube, Peek, Freecube, Spawn, Kill, Send, Run, Recv, Dump, Trace}
use Rattle.ce_host.specs.declared.answer.Answer.{Answer}
use Rattle.ce_host.specs.declared.answer.Answer.TheVariants as answers
use Rattle.ce_script.specs.Rounds.{RoundKind, joined_lists, IsRoundWithWork, IsRoundWithoutWork, AreTurnsOver}
use Rattle.ce_script.specs.Moments.{Moment, moment_entries, Holding}

-- a command makes no entry, and is answered so
abbrev pub IsReplyAtOnce : Answer → Answer → List Entry → Type 0
IsReplyAtOnce reply answer segment = (answer ≡ reply) × (segment ≡ [])

-- ---- without a cube

-- what a getcube is answered, by the subcube that its entry grants
abbrev pub getcube_reply : Option Subcube → Answer
getcube_reply None = answers.None
getcube_reply (Some sub) = answers.Granted sub

-- `getcube`: the cube that its entry grants, or none; where one is held already it makes no entry
abbrev pub IsGetcube : ℕ → Option Holding → ℕ → Answer → List Entry → Type 0
IsGetcube user None dim answer entries =
    (sub : Option Subcube) × (entries ≡ host_entry user (whats.Getcube dim sub) ∷ [])
    × (answer ≡ getcube_reply sub)
IsGetcube user (Some user_holding) dim answer entries = IsReplyAtOnce answers.Held answer entries

-- `peek`
abbrev pub IsPeek : MachineParts → ℕ → Answer → List Moment → Type 0
IsPeek machine user answer moments =
    (before : List Entry)
    × (moments ≡ record { before = before; entry = host_entry user whats.Peek } ∷ [])
    × (answer ≡ answers.Peeked (peek_result machine (after before)))

-- ---- at a place

-- at what is no place of the cube a command makes no entry, and at a place this holds of it
abbrev pub IsAtPlace : Bool → Answer → List Entry → Type 0 → Type 0
IsAtPlace true answer segment P = P
IsAtPlace false answer segment P = IsReplyAtOnce answers.NoPlace answer segment

-- `spawn`, by whether the id was fresh
abbrev pub IsSpawn : ℕ → ℕ → Place → Answer → List Entry → Type 0
IsSpawn user image to answer segment =
    (fresh : Bool) × (segment ≡ host_entry user (whats.Spawn 0 image to fresh) ∷ [])
    × (answer ≡ (if fresh then answers.Ok else answers.Used))

-- `kill`, by what it found
abbrev pub kill_reply : KillResult → Answer
kill_reply kill_result.Killed = answers.Ok
kill_reply kill_result.Unused = answers.Unused
kill_reply kill_result.Already = answers.Already

abbrev pub IsKill : ℕ → Place → Answer → List Entry → Type 0
IsKill user to answer segment =
    (found : KillResult) × (segment ≡ host_entry user (whats.Kill 0 to found) ∷ [])
    × (answer ≡ kill_reply found)

-- `send`, by the blocks in the host's store before it
abbrev pub IsSend : ℕ → List BlockId → Place → List ℕ → Answer → List Entry → Type 0
IsSend user [] to bytes answer segment = IsReplyAtOnce answers.NoStore answer segment
IsSend user (id ∷ others) to bytes answer segment =
    (first : ℕ) × (segment ≡ host_entry user (whats.Send 0 first ((to, id) ∷ []) bytes) ∷ [])
    × (answer ≡ answers.Ok)

-- ---- with rounds

-- what `run` is answered, by what its look found; none ends with a look that finds Busy
abbrev pub run_reply : LookResult → Option Answer
run_reply look_result.Quiet = Some answers.Quiet
run_reply look_result.Spent = Some answers.Spent
run_reply look_result.Busy = None

-- `run`: dispatches are allowed, then come rounds up to the first without work, then a look
pub record IsRun (kind : RoundKind) (cube : Cube) (count : ℕ) (answer : Answer)
    (segment : List Entry) : Type 0 where
  pub rounds : List (List Entry)
  pub last : List Entry
  pub found : LookResult
  pub with_work : AllByRecursion (IsRoundWithWork kind cube.dim) rounds
  pub without_work : IsRoundWithoutWork kind cube.dim last
  pub entries : segment
      ≡ host_entry cube.user (whats.Arm count)
      ∷ (joined_lists rounds ++ (last ++ host_entry cube.user (whats.Look found) ∷ []))
  pub reply : run_reply found ≡ Some answer

-- how `recv` ends
pub data RecvEnd : Type 0 where
  -- the message of this number is there, at the first look or behind a round with work
  message_next : ℕ → RecvEnd
  -- none is there, and behind a round without work the one of this number
  message_behind_rest : List Entry → ℕ → RecvEnd
  -- none is there, nor behind a round without work, and a look finds how the cube stands
  no_message : List Entry → LookResult → RecvEnd

-- the host looks for a message: the one of this number is there, or none
abbrev pub host_take : ℕ → Option ℕ → Entry
host_take user number = host_entry user (whats.HostTake number)

-- the entries of an end
abbrev pub end_entries : ℕ → RecvEnd → List Entry
end_entries user (message_next number) = host_take user (Some number) ∷ []
end_entries user (message_behind_rest round number) =
    host_take user None ∷ (round ++ host_take user (Some number) ∷ [])
end_entries user (no_message round found) =
    host_take user None ∷ (round ++ host_take user None ∷ host_entry user (whats.Look found) ∷ [])

-- the rounds without work at an end: one, or none where a message comes before one
abbrev pub end_rounds : RecvEnd → List (List Entry)
end_rounds (message_next number) = []
end_rounds (message_behind_rest round number) = round ∷ []
end_rounds (no_message round found) = round ∷ []

-- what `recv` is answered with a message, and without one by what its look found
abbrev pub message_reply : Option Parcel → Option Answer
message_reply parcel =
    option_map (λ message. answers.Message message.from message.block.bytes) parcel

abbrev pub no_message_reply : LookResult → Option Answer
no_message_reply look_result.Quiet = Some answers.None
no_message_reply look_result.Spent = Some answers.Spent
no_message_reply look_result.Busy = None

-- what `recv` is answered that ends so, by all that was sent to the host
abbrev pub recv_reply : List Item → RecvEnd → Option Answer
recv_reply items (message_next number) = message_reply (parcel_numbered number items)
recv_reply items (message_behind_rest round number) = message_reply (parcel_numbered number items)
recv_reply items (no_message round found) = no_message_reply found

-- `recv`: dispatches are allowed, then the host looks for a message, with a round between each two
-- looks
pub record IsRecv (kind : RoundKind) (cube : Cube) (items : List Item) (count : ℕ) (answer : Answer)
    (segment : List Entry) : Type 0 where
  pub rounds : List (List Entry)
  pub end : RecvEnd
  pub with_work : AllByRecursion (IsRoundWithWork kind cube.dim) rounds
  pub without_work : AllByRecursion (IsRoundWithoutWork kind cube.dim) (end_rounds end)
  pub entries : segment
      ≡ host_entry cube.user (whats.Arm count)
      ∷ (flat_map (λ round. host_take cube.user None ∷ round) rounds ++ end_entries cube.user end)
  pub reply : recv_reply items end ≡ Some answer

-- ---- all commands

-- a command in a cube, by the trace before it, but for those that ask for a cube, peek or give it
-- back; the entries have the cube's numbers for its nodes
abbrev pub IsCubeCommand : RoundKind → Cube → CubeState → List Entry → Command → Answer → List Entry
    → Type 0
IsCubeCommand kind cube o t (Spawn image to) answer segment =
    IsAtPlace (is_place cube.dim to) answer segment (IsSpawn cube.user image to answer segment)
IsCubeCommand kind cube o t (Kill to) answer segment =
    IsAtPlace (is_place cube.dim to) answer segment (IsKill cube.user to answer segment)
IsCubeCommand kind cube o t (Send to bytes) answer segment =
    IsAtPlace (is_place cube.dim to) answer segment
    (IsSend cube.user (hoststore o t) to bytes answer segment)
IsCubeCommand kind cube o t (Run count) answer segment =
    IsRun kind cube count answer segment × AreTurnsOver cube o (t ++ segment)
IsCubeCommand kind cube o t (Recv count) answer segment =
    IsRecv kind cube (sent_items o.standing HOST (t ++ segment)) count answer segment
    × AreTurnsOver cube o (t ++ segment)
IsCubeCommand kind cube o t (Dump place) answer segment =
    IsAtPlace (is_place cube.dim place) answer segment
    (IsReplyAtOnce
    (answers.State (process_at (rest cube o place.node t) place.pid).status) answer segment)
IsCubeCommand kind cube o t Trace answer segment =
    IsReplyAtOnce (answers.Entries (length t)) answer segment
IsCubeCommand kind cube o t other answer segment = ⊥

-- the entries of a freecube: the cube is drained, and then given back
abbrev pub freecube_entries : ℕ → List Entry
freecube_entries user = host_entry user whats.Drain ∷ host_entry user whats.Freecube ∷ []

-- `freecube`: what waits is taken away, and then the cube is given back
abbrev pub IsFreecube : ℕ → Answer → List Entry → Type 0
IsFreecube user answer entries =
    (answer ≡ answers.Freed) × (entries ≡ freecube_entries user)

-- a command of who holds this cube
abbrev pub IsHolderCommand : RoundKind → Cube → Holding → Command → Answer → List Entry → Type 0
IsHolderCommand kind cube user_holding Freecube answer entries = IsFreecube cube.user answer entries
IsHolderCommand kind cube user_holding other answer entries =
    IsCubeCommand kind cube (opening cube) user_holding.trace other answer
    (map (entry_inward user_holding.grant.sub) entries)

-- a command that wants a cube
abbrev pub IsWithCube : RoundKind → MachineParts → Option Holding → Command → Answer → List Entry
    → Type 0
IsWithCube kind machine None command answer entries = IsReplyAtOnce answers.NoCube answer entries
IsWithCube kind machine (Some user_holding) command answer entries =
    IsHolderCommand kind
    (cube_of machine.images user_holding.grant) user_holding command answer entries

-- a user's command, by the cube that it holds: what it is answered, and the moments of its entries
abbrev pub IsCommand : RoundKind → MachineParts → ℕ → Option Holding → Command → Answer
    → List Moment → Type 0
IsCommand kind machine user user_holding (Getcube dim) answer moments =
    IsGetcube user user_holding dim answer (moment_entries moments)
IsCommand kind machine user user_holding Peek answer moments = IsPeek machine user answer moments
IsCommand kind machine user user_holding other answer moments =
    IsWithCube kind machine user_holding other answer (moment_entries moments)

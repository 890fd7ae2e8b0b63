-- The laws of the record that a run leaves.
use Rattle.std.specs.Prelude.{◌≡◌, ◌≢◌, ◌⊎◌, ℕ, ◌<◌, true, false, List, [], ◌∷◌, ◌++◌, Some, None, IsTrue, IsSomeAnd, map, flat_map, length, replicate, slice_set, slice_index_or}
use Rattle.std.specs.List.{AllByRecursion}
use Rattle.ce_model.specs.declared.topology.TheConstants.{HOST}
use Rattle.ce_model.specs.declared.topology.Place.{Place}
use Rattle.ce_model.specs.declared.topology.BlockId.{BlockId}
use Rattle.ce_model.specs.declared.topology.Subcube.{Subcube}
use Rattle.ce_model.specs.declared.entry.Entry.{Entry}
use Rattle.ce_model.specs.declared.entry.What.{What}
use Rattle.ce_model.specs.declared.entry.What.TheVariants as whats
use Rattle.ce_model.specs.declared.entry.LookResult.{LookResult}
use Rattle.ce_model.specs.Parcels.{Parcel, Item}
use Rattle.ce_model.specs.Node.{is_place, process_at}
use Rattle.ce_model.specs.Trace.{sent_items}
use Rattle.ce_model.specs.Cube.{opening, hoststore, parcel_numbered, rest}
use Rattle.ce_model.specs.Renaming.{entry_inward}
use Rattle.ce_model.specs.Views.{view}
use Rattle.ce_model.specs.Machine.{MachineParts, IsMachine, IsLawful, HeldCube, MachineState, after, cube_held_by, Request, getcube, new_cube}
use Rattle.ce_model.specs.Literals.{host_entry}
use Rattle.rk_mail.specs.declared.talk.Hearing.{Hearing}
use Rattle.rk_mail.specs.Talk.{IsHearingOfEntry}
use Rattle.ce_host.specs.declared.command.Command.{Command}
use Rattle.ce_host.specs.declared.command.Command.TheVariants.{Getcube, Freecube, Send, Run, Recv, Dump, Trace}
use Rattle.ce_host.specs.declared.answer.Answer.{Answer}
use Rattle.ce_host.specs.declared.answer.Answer.TheVariants.{NoCube, Held, Freed, NoPlace, NoStore, Message, State, Entries}
use Rattle.ce_script.specs.declared.record.Record.{Record}
use Rattle.ce_script.specs.declared.script.Script.{Script}
use Rattle.ce_script.specs.Bounds.{IsWithinLimits}
use Rattle.ce_script.specs.Rounds.{RoundKind, serial}
use Rattle.ce_script.specs.Moments.{user_moments, moment_entries, holding, own_entries, AreCallsOfUser}
use Rattle.ce_script.specs.Commands.{run_reply, RecvEnd, message_reply, recv_reply, freecube_entries}
use Rattle.ce_script.specs.Doings.{Doing, command_with_answer, holding_behind}
use Rattle.ce_script.specs.Legal.{IsLegal, IsRecordOfScript, EachUser, machine_of}
use Rattle.ce_script.specs.Serial.{IsSerial}
use Rattle.ce_record.specs.Requests.{wants_cube, command_place, command_request, entry_reply, hearing_reply, IsMadeByRequest}
use Rattle.ce_record.specs.CubeRounds.{IsRunOf, IsRecvOf}
use Rattle.ce_record.specs.HeldCubes.{history_holding, granted_cube, AreTurnsOverIn}
use Rattle.ce_record.specs.Run.{IsRunSoFar, next_doing, IsNextCommand, AreReplies, IsRecordOfRun}
use Rattle.ce_record.specs.Users.{HasDoneSoFar, own_doing}

-- ---- what users hold

-- what a user holds by its own entries is what the machine says
abbrev pub HoldingsAreTheMachines : Type 0
HoldingsAreTheMachines = (parts : MachineParts) (history : List Entry) (user : ℕ) → IsMachine parts
    → IsLawful parts history
    → holding (moment_entries (user_moments user history)) ≡ history_holding history user

-- so it is by what the user did, where that has its entries
abbrev pub HoldingsFollowDoings : Type 0
HoldingsFollowDoings = (parts : MachineParts) (history : List Entry) (user : ℕ)
    (doings : List Doing) → IsMachine parts → IsLawful parts history
    → flat_map (λ doing. doing.moments) doings ≡ user_moments user history → holding_behind doings
    ≡ history_holding history user

-- ---- the run

-- at first nothing was done
abbrev pub RunBegins : Type 0
RunBegins = (kind : RoundKind) (machine : MachineParts) → IsRunSoFar kind machine [] []

-- a run goes on by one command of one user
abbrev pub RunGoesOn : Type 0
RunGoesOn = (kind : RoundKind) (machine : MachineParts) (history : List Entry)
    (all : List (ℕ × Doing)) (user : ℕ) (command : Command) (answer : Answer)
    (new_entries : List Entry) → IsMachine machine → IsLawful machine history
    → IsRunSoFar kind machine history all
    → IsNextCommand kind machine history user command answer new_entries
    → IsRunSoFar kind machine (history ++ new_entries)
    (all ++ (user, next_doing history command answer new_entries) ∷ [])

-- at first no user was answered
abbrev pub RepliesBegin : Type 0
RepliesBegin = (count : ℕ) → AreReplies [] (replicate count [])

-- the user of a command has one reply more
abbrev pub RepliesGoOn : Type 0
RepliesGoOn = (all : List (ℕ × Doing)) (reply_lists : List (List (Command × Answer))) (user : ℕ)
    (doing : Doing) → user < length reply_lists → AreReplies all reply_lists
    → AreReplies (all ++ (user, doing) ∷ [])
    (slice_set reply_lists user
    (slice_index_or reply_lists user [] ++ command_with_answer doing ∷ []))

-- ---- one user among others

-- a user without an entry in the history did nothing so far
abbrev pub UserBegins : Type 0
UserBegins = (kind : RoundKind) (machine : MachineParts) (user : ℕ) (history : List Entry)
    → own_entries user history ≡ [] → HasDoneSoFar kind machine user history []

-- entries of others leave what it did
abbrev pub UserWaits : Type 0
UserWaits = (kind : RoundKind) (machine : MachineParts) (user : ℕ) (history others : List Entry)
    (doings : List Doing)
    → AllByRecursion (λ entry. entry.user ≢ user) others
    → HasDoneSoFar kind machine user history doings
    → HasDoneSoFar kind machine user (history ++ others) doings

-- A user goes on by one command, whose entries are these, in order, among others'. What a command
-- that wants a cube must do and answer depends on its own entries and its cube's trace alone; a
-- getcube and a peek look at the machine, so of them the history goes on by just their own entries.
abbrev pub UserGoesOn : Type 0
UserGoesOn = (kind : RoundKind) (machine : MachineParts) (user : ℕ)
    (history further_entries new_entries : List Entry) (doings : List Doing) (command : Command)
    (answer : Answer)
    → IsMachine machine → IsLawful machine history → HasDoneSoFar kind machine user history doings
    → IsNextCommand kind machine history user command answer new_entries
    → own_entries user further_entries ≡ new_entries → (further_entries ≡ new_entries)
    ⊎ IsTrue (wants_cube command)
    → HasDoneSoFar kind machine user (history ++ further_entries)
    (doings ++ own_doing user history command answer further_entries ∷ [])

-- ---- the whole script

-- the machine of a script with a user is within its limits
abbrev pub ScriptHasMachine : Type 0
ScriptHasMachine = (script : Script) → IsWithinLimits script → 0 < length script.users
    → IsMachine (machine_of script)

-- the record of a run of all the script's commands is legal and serial
abbrev pub RunIsLegal : Type 0
RunIsLegal = (script : Script) (run_record : Record) (all : List (ℕ × Doing))
    → IsWithinLimits script → IsLawful (machine_of script) run_record.history
    → IsRunSoFar serial (machine_of script) run_record.history all
    → IsRecordOfRun script all run_record
    → IsLegal serial script run_record × IsSerial script run_record

-- The record of a script with a user is legal, where its history is lawful, it has all the script's
-- commands, and each user did them in this history, with rounds of this kind, and was answered so.
abbrev pub UsersAreLegal : Type 0
UsersAreLegal = (kind : RoundKind) (script : Script) (run_record : Record) → IsWithinLimits script
    → 0 < length script.users
    → IsLawful (machine_of script) run_record.history → IsRecordOfScript script run_record
    → EachUser
    (λ number user. (doings : List Doing)
    × HasDoneSoFar kind (machine_of script) number run_record.history doings
    × (map command_with_answer doings ≡ user.done)) run_record
    → IsLegal kind script run_record

-- the empty record of a script without users is legal and serial
abbrev pub NoUserIsLegal : Type 0
NoUserIsLegal = (kind : RoundKind) (script : Script) → IsWithinLimits script → script.users ≡ []
    → IsLegal kind script (record { users = []; history = [] })
    × IsSerial script (record { users = []; history = [] })

-- ---- commands without rounds

-- this holds behind each history by which a user holds a cube
abbrev pub OfHolder : (MachineParts → List Entry → ℕ → HeldCube → Type 0) → Type 0
OfHolder P = (parts : MachineParts) (history : List Entry) (user : ℕ) (cube : HeldCube)
    → cube_held_by (after history) user ≡ Some cube
    → P parts history user cube

-- who holds no cube is told so by each command that wants one
abbrev pub NoCubeIsNext : Type 0
NoCubeIsNext = (kind : RoundKind) (parts : MachineParts) (history : List Entry) (user : ℕ)
    (command : Command) → cube_held_by (after history) user ≡ None
    → IsTrue (wants_cube command) → IsNextCommand kind parts history user command NoCube []

-- who holds a cube gets no other
abbrev pub RefusalOfHolderIsNext : Type 0
RefusalOfHolderIsNext = (kind : RoundKind)
    → OfHolder
    (λ parts history user cube. (dim : ℕ)
    → IsNextCommand kind parts history user (Getcube dim) Held [])

-- a command to what is no place of the cube is told so
abbrev pub NoPlaceIsNext : Type 0
NoPlaceIsNext = (kind : RoundKind)
    → OfHolder
    (λ parts history user cube. (command : Command) (to : Place) → command_place command ≡ Some to
    → is_place cube.grant.dim to ≡ false
    → IsNextCommand kind parts history user command NoPlace [])

-- nothing is sent where the host's store is empty
abbrev pub NoStoreIsNext : Type 0
NoStoreIsNext = (kind : RoundKind)
    → OfHolder
    (λ parts history user cube. (to : Place) (bytes : List ℕ) → is_place cube.grant.dim to ≡ true
    → hoststore (opening (granted_cube parts cube)) (view history cube.number) ≡ []
    → IsNextCommand kind parts history user (Send to bytes) NoStore [])

-- a dump says what the process does in the cube's state after its trace, where its node has run to
-- its next call
abbrev pub DumpIsNext : Type 0
DumpIsNext = (kind : RoundKind)
    → OfHolder
    (λ parts history user cube. (place : Place) → is_place cube.grant.dim place ≡ true
    → IsNextCommand kind parts history user (Dump place)
    (State (process_at
    (rest (granted_cube parts cube) (opening (granted_cube parts cube)) place.node
    (view history cube.number)) place.pid).status) [])

-- a trace says how long the cube's trace is
abbrev pub TraceIsNext : Type 0
TraceIsNext = (kind : RoundKind)
    → OfHolder
    (λ parts history user cube. IsNextCommand kind parts history user Trace
    (Entries (length (view history cube.number))) [])

-- who holds a cube has its freecube answered freed, with these entries
abbrev pub FreecubeIsNext : Type 0
FreecubeIsNext = (kind : RoundKind)
    → OfHolder
    (λ parts history user cube. IsNextCommand kind parts history user Freecube Freed
    (freecube_entries user))

-- what the machine's entry answers to what a command asks for
abbrev pub RequestsAreNext : Type 0
RequestsAreNext = (kind : RoundKind) (parts : MachineParts) (history : List Entry) (user : ℕ)
    (command : Command) (id : BlockId) (request : Request) (what : What)
    (answer : Answer) → IsMachine parts → IsLawful parts history → command_request id command
    ≡ Some request → IsMadeByRequest parts history user request what
    → entry_reply parts (after history) what ≡ Some answer
    → IsNextCommand kind parts history user command answer (host_entry user what ∷ [])

-- a send, a spawn or a kill is answered by what its host hears
abbrev pub HearingsAreReplies : Type 0
HearingsAreReplies = (parts : MachineParts) (state : MachineState) (items : List Item)
    (what : What) (hearing : Hearing) → IsHearingOfEntry items what hearing
    → entry_reply parts state what ≡ hearing_reply hearing

-- ---- between commands

-- entries of others leave what a user holds
abbrev pub OthersStay : Type 0
OthersStay = (parts : MachineParts) (history : List Entry) (user : ℕ) (others : List Entry)
    → IsMachine parts → IsLawful parts (history ++ others)
    → AllByRecursion (λ entry. entry.user ≢ user) others
    → (cube_held_by (after (history ++ others)) user ≡ cube_held_by (after history) user)
    × (history_holding (history ++ others) user ≡ history_holding history user)

-- the cube that a getcube grants has the next number, and no trace
abbrev pub CubeBegins : Type 0
CubeBegins = (parts : MachineParts) (history : List Entry) (user dim : ℕ) (sub : Subcube)
    → IsMachine parts → IsLawful parts history
    → IsMadeByRequest parts history user (getcube dim) (whats.Getcube dim (Some sub))
    → (cube_held_by (after (history ++ host_entry user (whats.Getcube dim (Some sub)) ∷ [])) user
    ≡ Some (new_cube (after history).grant_count (record { user = user; dim = dim; sub = sub })))
    × (view (history ++ host_entry user (whats.Getcube dim (Some sub)) ∷ [])
    (after history).grant_count ≡ [])

-- ---- rounds

-- this holds of a cube that a user holds behind a lawful history, and that wasn't drained
abbrev pub OfCube : (MachineParts → List Entry → ℕ → HeldCube → Type 0) → Type 0
OfCube P = OfHolder
    (λ parts history user cube. IsMachine parts → IsLawful parts history → cube.is_drained ≡ false
    → P parts history user cube)

-- calls of the cube make its trace longer
abbrev pub TraceGoesOn : Type 0
TraceGoesOn = OfCube
    (λ parts history user cube. (new_entries : List Entry)
    → AreCallsOfUser user new_entries
    → view (history ++ new_entries) cube.number ≡ view history cube.number
    ++ map (entry_inward cube.grant.sub) new_entries)

-- and behind them it is held still
abbrev pub CubeStays : Type 0
CubeStays = OfCube
    (λ parts history user cube. (new_entries : List Entry)
    → AreCallsOfUser user new_entries
    → IsSomeAnd (cube_held_by (after (history ++ new_entries)) user)
    (λ later. (later.number ≡ cube.number) × (later.grant ≡ cube.grant)
    × (later.is_drained ≡ false)))

-- a run is answered by what its look finds, where behind its own entries no turn is open
abbrev pub RunIsNext : Type 0
RunIsNext = (kind : RoundKind)
    → OfCube (λ parts history user cube. (count : ℕ) (found : LookResult) (answer : Answer)
    (new_entries : List Entry) → IsRunOf kind user cube.grant count found new_entries
    → run_reply found ≡ Some answer → AreTurnsOverIn parts (history ++ new_entries) cube
    → IsNextCommand kind parts history user (Run count) answer new_entries)

-- all that was sent to the cube's host
abbrev pub sent_to_host : MachineParts → HeldCube → List Entry → List Item
sent_to_host parts cube trace = sent_items (opening (granted_cube parts cube)).standing HOST trace

-- a recv is answered with the message that it takes, or by what its look finds, where behind its
-- own entries no turn is open
abbrev pub RecvIsNext : Type 0
RecvIsNext = (kind : RoundKind)
    → OfCube (λ parts history user cube. (count : ℕ) (end : RecvEnd) (answer : Answer)
    (new_entries : List Entry) → IsRecvOf kind user cube.grant count end new_entries
    → recv_reply (sent_to_host parts cube (view (history ++ new_entries) cube.number)) end
    ≡ Some answer → AreTurnsOverIn parts (history ++ new_entries) cube
    → IsNextCommand kind parts history user (Recv count) answer new_entries)

-- what the machine keeps for the host is what was sent to it, whatever is sent later
abbrev pub MessageIsSent : Type 0
MessageIsSent = OfCube
    (λ parts history user cube. (number : ℕ) (parcel : Parcel) (later_entries : List Entry)
    → parcel_numbered number cube.mail ≡ Some parcel
    → message_reply
    (parcel_numbered number (sent_to_host parts cube (view history cube.number ++ later_entries)))
    ≡ Some (Message parcel.from parcel.block.bytes))

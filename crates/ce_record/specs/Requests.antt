-- What commands without rounds want and ask for, and what the machine's entry answers them.
use Rattle.std.specs.Prelude.{◌≡◌, ℕ, List, [], ◌∷◌, Option, Some, None, Bool, true, false, if◌then◌else◌}
use Rattle.ce_model.specs.declared.topology.TheConstants.{HOST}
use Rattle.ce_model.specs.declared.topology.Place.{Place}
use Rattle.ce_model.specs.declared.topology.BlockId.{BlockId}
use Rattle.ce_model.specs.declared.entry.Entry.{Entry}
use Rattle.ce_model.specs.declared.entry.What.{What}
use Rattle.ce_model.specs.declared.entry.What.TheVariants as whats
use Rattle.ce_model.specs.Node.{send_call, spawn_call, kill_call}
use Rattle.ce_model.specs.Machine.{MachineParts, MachineState, after, Request, getcube, peek, cube_request, what_of_request, IsFitting}
use Rattle.rk_mail.specs.declared.talk.Hearing.{Hearing}
use Rattle.rk_mail.specs.declared.talk.Hearing.TheVariants as hearings
use Rattle.ce_host.specs.declared.command.Command.{Command}
use Rattle.ce_host.specs.declared.command.Command.TheVariants.{Getcube, Peek, Spawn, Kill, Send, Dump}
use Rattle.ce_host.specs.declared.answer.Answer.{Answer}
use Rattle.ce_host.specs.declared.answer.Answer.TheVariants as answers
use Rattle.ce_daemon.specs.Peeks.{peek_result}
use Rattle.ce_script.specs.Commands.{getcube_reply, kill_reply}

-- the command is for who holds a cube
abbrev pub wants_cube : Command → Bool
wants_cube (Getcube dim) = false
wants_cube Peek = false
wants_cube other = true

-- the place that a command names
abbrev pub command_place : Command → Option Place
command_place (Spawn image to) = Some to
command_place (Kill to) = Some to
command_place (Send to bytes) = Some to
command_place (Dump place) = Some place
command_place other = None

-- what a command asks of the machine that makes one entry; a message goes in the block of this name
abbrev pub command_request : BlockId → Command → Option Request
command_request id (Getcube dim) = Some (getcube dim)
command_request id Peek = Some peek
command_request id (Spawn image to) = Some (cube_request (spawn_call 0 image to))
command_request id (Kill to) = Some (cube_request (kill_call 0 to))
command_request id (Send to bytes) = Some (cube_request (send_call 0 ((to, id) ∷ []) bytes))
command_request id other = None

-- what a command is answered by its one entry, in the state before it
abbrev pub entry_reply : MachineParts → MachineState → What → Option Answer
entry_reply parts state (whats.Getcube dim sub) = Some (getcube_reply sub)
entry_reply parts state whats.Peek = Some (answers.Peeked (peek_result parts state))
entry_reply parts state (whats.Spawn pid image to fresh) =
    Some (if fresh then answers.Ok else answers.Used)
entry_reply parts state (whats.Kill pid to found) = Some (kill_reply found)
entry_reply parts state (whats.Send pid first to bytes) = Some answers.Ok
entry_reply parts state other = None

-- what a command is answered by what its host hears
abbrev pub hearing_reply : Hearing → Option Answer
hearing_reply (hearings.Posted batch) = Some answers.Ok
hearing_reply hearings.Spawned = Some answers.Ok
hearing_reply hearings.Used = Some answers.Used
hearing_reply hearings.Killed = Some answers.Ok
hearing_reply hearings.Unused = Some answers.Unused
hearing_reply hearings.Already = Some answers.Already
hearing_reply other = None

-- behind a history a user's host asks for this, and the machine makes this entry of it
pub record IsMadeByRequest (parts : MachineParts) (history : List Entry) (user : ℕ)
    (request : Request) (what : What) : Type 0 where
  pub fits : IsFitting parts history user HOST request
  pub answer : what_of_request parts (after history) user HOST request ≡ Some what

-- What a call of the machine asks for, and when it fits.
use Rattle.std.specs.Prelude.{ℕ, List}
use Rattle.ce_model.specs.declared.entry.Entry.{Entry}
use Rattle.ce_model.specs.Node.{arm_call, look_call, mail_call}
use Rattle.ce_model.specs.Renaming.{CubeGrant}
use Rattle.ce_model.specs.Machine.{MachineParts, IsMachine, Request, getcube, peek, drain, freecube, cube_request, HeldCube, IsFitting, HasHeldCube}
use Rattle.ce_daemon.specs.Boxes.{AreGrantBoxes}
use Rattle.ce_daemon.specs.Peeks.{numbered_grant}
use Rattle.ce_lock.specs.declared.who.Who.{Who}
use Rattle.rk_mail.specs.Talk.{call_of_say}
use Rattle.ce_machine.specs.declared.call.Call.{Call}
use Rattle.ce_machine.specs.declared.call.Call.TheVariants.{Getcube, Peek, Drain, Freecube, Arm, Look, HostTake, Say}

-- what a call asks for
abbrev pub request_of : {N : Type 0} → Call N → Request
request_of (Getcube dim) = getcube dim
request_of Peek = peek
request_of Drain = drain
request_of (Freecube boxes) = freecube
request_of (Arm count) = cube_request (arm_call count)
request_of Look = cube_request look_call
request_of HostTake = cube_request mail_call
request_of (Say say) = cube_request (call_of_say say)

-- a cube's number and its grant
abbrev pub number_and_grant : HeldCube → ℕ × CubeGrant
number_and_grant cube = (cube.number, cube.grant)

-- who gives a cube back brings the clean boxes of its nodes
abbrev pub HasBroughtBoxes : {N : Type 0} → (N → ℕ) → (N → Type 0) → List Entry → ℕ → Call N
    → Type 0
HasBroughtBoxes home clean history user (Freecube boxes) =
    HasHeldCube history user
    (λ cube. AreGrantBoxes home clean (numbered_grant (number_and_grant cube)) boxes.items)
HasBroughtBoxes home clean history user other = Unit {0}

-- a call of an actor of a family, which is a user of the machine, fits the history before it; the
-- machine is within its limits
pub record IsFittingCall {N : Type 0} (home : N → ℕ) (clean : N → Type 0) (parts : MachineParts)
    (history : List Entry) (who : Who) (call : Call N) : Type 0 where
  pub machine : IsMachine parts
  pub fits : IsFitting parts history who.family who.actor (request_of call)
  pub boxes : HasBroughtBoxes home clean history who.family call

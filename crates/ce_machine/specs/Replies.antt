-- The reply that a call of the machine gets, in full, by the state before it and by the entry that
-- it makes.
use Rattle.std.specs.Prelude.{◌≡◌, ℕ, List, map, Option, Some, None, IsSomeAnd}
use Rattle.ce_model.specs.declared.topology.Subcube.{Subcube}
use Rattle.ce_model.specs.declared.entry.What.{What}
use Rattle.ce_model.specs.declared.entry.What.TheVariants as whats
use Rattle.ce_model.specs.declared.entry.LookResult.{LookResult}
use Rattle.ce_model.specs.declared.entry.LookResult.TheVariants as look_result
use Rattle.ce_model.specs.Parcels.{Item, Parcel}
use Rattle.ce_model.specs.Cube.{parcel_numbered}
use Rattle.ce_model.specs.Machine.{MachineParts, MachineState, HeldCube, cube_held_by, cube_standing, all_parcels}
use Rattle.ce_daemon.specs.declared.grant.Grant.{Grant}
use Rattle.ce_daemon.specs.Boxes.{AreGrantBoxes}
use Rattle.ce_daemon.specs.Holding.{next_grant}
use Rattle.ce_daemon.specs.Peeks.{peek_result}
use Rattle.rk_mail.specs.Items.{parcel_of}
use Rattle.rk_mail.specs.Talk.{IsHearingOfEntry}
use Rattle.ce_machine.specs.declared.call.Reply.{Reply}
use Rattle.ce_machine.specs.declared.call.Reply.TheVariants.{Granted, NoneFree, Peeked, Drained, Freed, Armed, Quiet, Spent, Busy, Mail, NoMail, Heard}

-- what a getcube is answered that grants this
abbrev pub IsReplyWithGrant : {N : Type 0} → (N → ℕ) → (N → Type 0) → Grant → Reply N → Type 0
IsReplyWithGrant home clean grant (Granted reply_grant boxes) =
    (reply_grant ≡ grant) × AreGrantBoxes home clean grant boxes.items
IsReplyWithGrant home clean grant other = ⊥

-- the answer to a getcube by the subcube that its entry grants: the next grant, with its clean
-- boxes, or none
abbrev pub IsGrantReply : {N : Type 0} → (N → ℕ) → (N → Type 0) → MachineState → (user dim : ℕ)
    → Option Subcube → Reply N → Type 0
IsGrantReply home clean state user dim None reply = reply ≡ NoneFree
IsGrantReply home clean state user dim (Some sub) reply =
    IsReplyWithGrant home clean (next_grant state.grant_count user dim sub) reply

-- the answer to a drain: the blocks of these parcels
abbrev pub IsDrainReply : {N : Type 0} → List Parcel → Reply N → Type 0
IsDrainReply parcels (Drained blocks) = blocks.items ≡ map (λ parcel. parcel.block) parcels
IsDrainReply parcels other = ⊥

-- the answer to a look by what it found
abbrev pub look_reply : {N : Type 0} → LookResult → Reply N
look_reply look_result.Quiet = Quiet
look_reply look_result.Spent = Spent
look_reply look_result.Busy = Busy

-- the answer to a host that takes its message of this number, of those that wait
abbrev pub IsMailReply : {N : Type 0} → ℕ → List Item → Reply N → Type 0
IsMailReply number items (Mail parcel) = parcel_numbered number items ≡ Some (parcel_of parcel)
IsMailReply number items other = ⊥

-- the answer to what was said, with these items waiting for who said it
abbrev pub IsHearingReply : {N : Type 0} → List Item → What → Reply N → Type 0
IsHearingReply items what (Heard hearing) = IsHearingOfEntry items what hearing
IsHearingReply items what other = ⊥

-- what waits for an actor of a cube
abbrev pub actor_items : MachineState → HeldCube → ℕ → List Item
actor_items state cube actor = ((cube_standing state cube).node_record actor).waiting_items

-- the user holds a cube, of which this holds
abbrev pub OfHeldCube : MachineState → ℕ → (HeldCube → Type 0) → Type 0
OfHeldCube state user P = IsSomeAnd (cube_held_by state user) P

-- the reply that a call gets in this state whose entry, of this user and this actor, is this
abbrev pub IsReplyTo : {N : Type 0} → (N → ℕ) → (N → Type 0) → MachineParts → MachineState
    → (user actor : ℕ) → What → Reply N → Type 0
IsReplyTo home clean parts state user actor (whats.Getcube dim sub) reply =
    IsGrantReply home clean state user dim sub reply
IsReplyTo home clean parts state user actor whats.Peek reply =
    reply ≡ Peeked (peek_result parts state)
IsReplyTo home clean parts state user actor whats.Drain reply =
    OfHeldCube state user (λ cube. IsDrainReply (all_parcels state cube) reply)
IsReplyTo home clean parts state user actor whats.Freecube reply = reply ≡ Freed
IsReplyTo home clean parts state user actor (whats.Arm count) reply = reply ≡ Armed
IsReplyTo home clean parts state user actor (whats.Look found) reply = reply ≡ look_reply found
IsReplyTo home clean parts state user actor (whats.HostTake None) reply = reply ≡ NoMail
IsReplyTo home clean parts state user actor (whats.HostTake (Some number)) reply =
    OfHeldCube state user (λ cube. IsMailReply number cube.mail reply)
IsReplyTo home clean parts state user actor what reply =
    OfHeldCube state user (λ cube. IsHearingReply (actor_items state cube actor) what reply)

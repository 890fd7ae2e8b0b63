-- What the code of an order has at hand: the grant of the caller's cube, the desk of the place, and
-- room on it.
use Rattle.std.proofs.Common.{◌≡◌, ◌⊎◌, ℕ, ◌^◌, ◌<◌, ◌≤◌, List, length, Some, IsSome, inl}
use Rattle.ce_model.specs.declared.topology.TheConstants.{HOST}
use Rattle.ce_model.specs.declared.topology.Place.{Place}
use Rattle.ce_model.specs.declared.entry.Entry.{Entry}
use Rattle.ce_model.specs.Limits.{greatest_dim, greatest_history}
use Rattle.ce_model.specs.Trace.{NodeRecord}
use Rattle.ce_model.specs.Subcubes.{IsSubcube}
use Rattle.ce_model.specs.Renaming.{place_outward}
use Rattle.ce_model.specs.Machine.{MachineParts}
use Rattle.ce_lock.specs.declared.who.Who.{Who}
use Rattle.ce_daemon.specs.declared.grant.Grant.{Grant}
use Rattle.ce_daemon.specs.Holding as daemon
use Rattle.ce_machine.specs.declared.call.Call.TheVariants as calls
use Rattle.ce_machine.specs.declared.order.Order.{Order}
use Rattle.ce_machine.specs.Requests.{IsFittingCall}
use Rattle.ce_machine.specs.Tables.{HostRecord, IsSoundMachine, desk_at}
use Rattle.ce_machine.specs.Desks.{AreChanged}
use Rattle.ce_machine.specs.Orders.{say_of_order, HasOrderRoom}
use Rattle.ce_machine.specs.Meanings.{MachineFacts}
use Rattle.ce_machine.proofs.Entries.{SoundMachine, sound_machine, fits-inside}
use Rattle.ce_machine.proofs.SayEntries.{HasDesk, number_below, has_desk, ordering, order_place, order-room}
use Rattle.ce_machine.proofs.Callers.{caller-grant, caller-desks, caller-still, few-still}

-- an order that this actor gives for a place of its cube, whose desk has room
pub record OrderCall (m : SoundMachine) (who : Who) (order : Order) (to : Place) : Type 0 where
  pub has_grant : IsSome (daemon.grant_held_by m.table who.family)
  pub sub : {grant : Grant} → daemon.grant_held_by m.table who.family ≡ Some grant → IsSubcube greatest_dim grant.dim grant.sub
  pub place : {grant : Grant} → daemon.grant_held_by m.table who.family ≡ Some grant → (to.node < 2 ^ grant.dim) ⊎ (to.node ≡ HOST)
  pub desk : {grant : Grant} {at : Place} → daemon.grant_held_by m.table who.family ≡ Some grant → at ≡ place_outward grant.sub to → HasDesk m.desks at
  pub room : {grant : Grant} {at : Place} → daemon.grant_held_by m.table who.family ≡ Some grant → at ≡ place_outward grant.sub to
      → HasOrderRoom order at.pid (desk_at m.desks at.node)
  pub actor : {desks' : List NodeRecord} {change : ℕ → NodeRecord → NodeRecord} → AreChanged m.desks desks' change → (who.actor ≡ HOST) ⊎ (who.actor < length desks')
  pub few : {desks' : List NodeRecord} {change : ℕ → NodeRecord → NodeRecord} → AreChanged m.desks desks' change → length desks' ≤ HOST

-- as its code has it at hand
pub order-call : {parts : MachineParts} {h : List Entry} {table : daemon.GrantTable} {desks : List NodeRecord} {hosts : List HostRecord} (sound : IsSoundMachine parts h table desks hosts)
    (few : length h < greatest_history) {machine : MachineFacts} (view_is : record { parts = parts; history = h } ≡ machine)
    {N : Type 0} {home : N → ℕ} {clean : N → Type 0} {who : Who} (order : Order) (pid : ℕ) (to : Place)
    → IsFittingCall home clean machine.parts machine.history who (calls.Say (say_of_order order pid to)) → OrderCall (sound_machine sound few) who order to
order-call sound few view_is {who = who} order pid to outside =
    let m = sound_machine sound few in
    let fits = fits-inside view_is outside in
    let in_cube = ordering m who order pid to fits in
    let is_in = order_place m who order pid to fits in
    record {
      has_grant = caller-grant m in_cube;
      sub = λ known. (caller-desks m in_cube known).sub_is;
      place = λ {grant} known. inl (number_below m who in_cube.cube in_cube.holds to is_in grant known);
      desk = λ {grant} {at} known at_outward. has_desk m who in_cube.cube in_cube.holds to is_in grant known at at_outward;
      room = λ known at_outward. order-room m who order pid to fits known at_outward;
      actor = λ changed. caller-still m in_cube changed;
      few = λ changed. few-still m changed;
    }

-- What the code of a call has at hand of its caller: the grant of the cube, and the desks that are
-- its.
use Rattle.std.proofs.Common.{◌≡◌, ◌⊎◌, ℕ, ◌<◌, ◌≤◌, List, length, Some, IsSome, arith}
use Rattle.ce_model.specs.declared.topology.TheConstants.{HOST}
use Rattle.ce_model.specs.Node as model
use Rattle.ce_model.specs.Trace.{NodeRecord}
use Rattle.ce_model.specs.Machine.{HeldCube, IsCallOf}
use Rattle.ce_daemon.specs.declared.grant.Grant.{Grant}
use Rattle.ce_daemon.specs.Holding as daemon
use Rattle.ce_machine.specs.Desks.{AreChanged, IsOnDesks}
use Rattle.ce_machine.proofs.Entries.{SoundMachine, IsIn, few-desks, actor-known, grant-is, has-grant, on-desks}
use Rattle.ce_machine.proofs.SayEntries.{still-actor}

module _ (m : SoundMachine) where
  open m use {parts, history as h, table, desks}

  module _ {user : ℕ} {P : HeldCube → Type 0} (in_cube : IsIn h user P) where
    pub caller-grant : IsSome (daemon.grant_held_by table user)
    caller-grant = has-grant m user in_cube.cube in_cube.holds

    pub caller-desks : {grant : Grant} → daemon.grant_held_by table user ≡ Some grant → IsOnDesks (length desks) grant.dim grant.sub
    caller-desks {grant} known = on-desks m user in_cube.cube grant in_cube.holds (grant-is m user in_cube.cube grant in_cube.holds known)

  module _ {user actor : ℕ} {call : model.Call} (in_cube : IsIn h user (IsCallOf parts h actor call)) where
    pub caller-known : (actor ≡ HOST) ⊎ (actor < length desks)
    caller-known = actor-known m user actor call in_cube.cube in_cube.holds in_cube.is

    -- also where desks have changed
    pub caller-still : {desks' : List NodeRecord} {change : ℕ → NodeRecord → NodeRecord} → AreChanged desks desks' change → (actor ≡ HOST) ⊎ (actor < length desks')
    caller-still {desks'} {change} changed = still-actor desks desks' change actor changed caller-known

  pub few-still : {desks' : List NodeRecord} {change : ℕ → NodeRecord → NodeRecord} → AreChanged desks desks' change → length desks' ≤ HOST
  few-still changed = omega (arith, changed.count, few-desks m)

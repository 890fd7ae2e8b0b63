-- What an order to a node is: that a process starts there (a spawn), or that one ends (a kill).
-- Each has what is said to give it, the call that this is, its entry, what is heard of it, and what
-- is kept for the node then.
use Rattle.std.specs.Prelude.{ℕ, not, if◌then◌else◌, IsTrue, ◌≡◌}
use Rattle.ce_model.specs.declared.topology.Place.{Place}
use Rattle.ce_model.specs.declared.entry.What.{What}
use Rattle.ce_model.specs.declared.entry.What.TheVariants as whats
use Rattle.ce_model.specs.declared.entry.KillResult.TheVariants.{Killed}
use Rattle.ce_model.specs.Node as model
use Rattle.ce_model.specs.Trace.{NodeRecord}
use Rattle.ce_model.specs.Answers.{is_among, kill_result}
use Rattle.rk_mail.specs.declared.talk.Say.{Say}
use Rattle.rk_mail.specs.declared.talk.Say.TheVariants as say
use Rattle.rk_mail.specs.declared.talk.Hearing.{Hearing}
use Rattle.rk_mail.specs.Talk.{call_of_say, spawn_hearing, kill_hearing}
use Rattle.ce_machine.specs.declared.order.Order.{Order}
use Rattle.ce_machine.specs.declared.order.Order.TheVariants.{Spawn, Kill}
use Rattle.ce_machine.specs.Desks.{with_start, with_kill, HasStartRoom, HasKillRoom}

-- what a process says that gives the order, for a place of its cube
abbrev pub say_of_order : Order → ℕ → Place → Say
say_of_order (Spawn image) pid to = say.Spawn pid image to
say_of_order Kill pid to = say.Kill pid to

-- the call that this is
abbrev pub call_of_order : Order → ℕ → Place → model.Call
call_of_order order pid to = call_of_say (say_of_order order pid to)

-- its entry, at a place for whose node this is kept
abbrev pub what_of_order : Order → ℕ → Place → NodeRecord → What
what_of_order (Spawn image) pid place node_record =
    whats.Spawn pid image place (not (is_among place.pid node_record.spawned_ids))
what_of_order Kill pid place node_record = whats.Kill pid place (kill_result node_record place.pid)

-- what is heard of it, with this kept for the node of the process that it is about
abbrev pub hearing_of_order : Order → ℕ → NodeRecord → Hearing
hearing_of_order (Spawn image) pid node_record =
    spawn_hearing (not (is_among pid node_record.spawned_ids))
hearing_of_order Kill pid node_record = kill_hearing (kill_result node_record pid)

-- what is kept for the node then
abbrev pub with_order : Order → ℕ → NodeRecord → NodeRecord
with_order (Spawn image) pid node_record = if not (is_among pid node_record.spawned_ids)
    then with_start pid image node_record else node_record
with_order Kill pid node_record = with_kill (kill_result node_record pid) pid node_record

-- there is room for it, where it makes something wait
abbrev pub HasOrderRoom : Order → ℕ → NodeRecord → Type 0
HasOrderRoom (Spawn image) pid node_record =
    IsTrue (not (is_among pid node_record.spawned_ids)) → HasStartRoom node_record
HasOrderRoom Kill pid node_record = kill_result node_record pid ≡ Killed → HasKillRoom node_record

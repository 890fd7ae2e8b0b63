use Rattle.std.proofs.Common.{[], ◌∷◌, refl, sym, subst}
use Rattle.ce_model.specs.Literals.{host_entry}
use Rattle.ce_model.specs.declared.entry.What.TheVariants.{Arm}
use Rattle.ce_host.specs.declared.command.Command.TheVariants.{Run, Recv}
use Rattle.ce_cube.specs.Crews.{serial_facts}
use Rattle.ce_script.specs.Rounds.{serial}
use Rattle.ce_script.specs.Bounds.{IsCommandWithin}
use Rattle.ce_host.specs.declared.answer.Answer.TheVariants.{Held, Entries}
use Rattle.ce_run.specs.UserStates.{HasDone, cube_crew}
use Rattle.ce_run.proofs.StatesBehind.{done-at-once}
use Rattle.ce_run.proofs.Going.{ready-stays}
use Rattle.ce_run.proofs.Carrying.{held-done, trace-done, command-done}
use Rattle.ce_run.proofs.commands.carry_out_in_cube.Goals as goal

pub returns-in-Getcube : goal.returns-in-Getcube
returns-in-Getcube c =
    subst (λ command. HasDone serial c.args.machine.now c.args.machine.now c.args.crew.now.grant.user command Held (cube_crew (serial_facts c.args.crew.now)))
    (sym c.in-Getcube.is)
    (held-done c.args.machine.now (serial_facts c.args.crew.now) c.requires.ready.crew_is.user.sound c.requires.ready.crew_is.in_step serial c.in-Getcube.field-0)

pub returns-in-Dump : goal.returns-in-Dump
returns-in-Dump c =
    subst (λ command. HasDone serial c.args.machine.now c.args.machine.now c.args.crew.now.grant.user command c.status.result (cube_crew
    (serial_facts c.args.crew.now)))
    (sym c.in-Dump.is)
    (done-at-once serial c.args.machine.now c.args.crew.now.grant.user _ c.status.result (cube_crew (serial_facts c.args.crew.now)) c.requires.ready.crew_is.user.sound
    (c.status.ensures c.args.machine.now.parts c.args.machine.now.history c.requires.ready.crew_is.in_step) (refl, c.requires.ready.crew_is.in_step))

pub returns-in-Trace : goal.returns-in-Trace
returns-in-Trace c =
    subst (λ command. HasDone serial c.args.machine.now c.args.machine.now c.args.crew.now.grant.user command (Entries c.args.crew.now.entries) (cube_crew
    (serial_facts c.args.crew.now)))
    (sym c.in-Trace.is) (trace-done c.args.machine.now (serial_facts c.args.crew.now) c.requires.ready.crew_is.user.sound c.requires.ready.crew_is.in_step serial)

pub spawn-requires-clause-image : goal.spawn-requires-clause-image
spawn-requires-clause-image c = subst (IsCommandWithin _) c.in-Spawn.is c.requires.within

pub allow-requires-clause-count : goal.allow-requires-clause-count
allow-requires-clause-count c = subst (IsCommandWithin _) c.in-Run.is c.requires.within

pub run-requires : goal.run-requires
run-requires c =
    ready-stays serial c.args.machine.now c.allow.new.machine (serial_facts c.args.crew.now) (serial_facts c.allow.new.crew) (host_entry c.args.crew.now.grant.user
    (Arm c.in-Run.count) ∷ [])
    c.args.images.now c.in_ok-allow-in-Run.ensures c.requires.ready

pub returns-in_ok-allow-in-Run : goal.returns-in_ok-allow-in-Run
returns-in_ok-allow-in-Run c =
    command-done serial c.args.machine.now c.allow.new.machine c.run.new.machine (serial_facts c.args.crew.now) (serial_facts c.allow.new.crew)
    (serial_facts c.run.new.crew) Run c.args.command.now c.in-Run.count
    c.run.result c.in-Run.is c.requires.ready.crew_is c.in_ok-allow-in-Run.ensures c.run.ensures

pub allow-requires-in-Recv-clause-count : goal.allow-requires-in-Recv-clause-count
allow-requires-in-Recv-clause-count c = subst (IsCommandWithin _) c.in-Recv.is c.requires.within

pub recv-requires : goal.recv-requires
recv-requires c =
    ready-stays serial c.args.machine.now c.allow-in-Recv.new.machine (serial_facts c.args.crew.now) (serial_facts c.allow-in-Recv.new.crew) (host_entry
    c.args.crew.now.grant.user (Arm c.in-Recv.count) ∷ [])
    c.args.images.now c.in_ok-allow-in-Recv.ensures c.requires.ready

pub returns-in_ok-allow-in-Recv : goal.returns-in_ok-allow-in-Recv
returns-in_ok-allow-in-Recv c =
    command-done serial c.args.machine.now c.allow-in-Recv.new.machine c.recv.new.machine (serial_facts c.args.crew.now)
    (serial_facts c.allow-in-Recv.new.crew) (serial_facts c.recv.new.crew) Recv c.args.command.now c.in-Recv.count
    c.recv.result c.in-Recv.is c.requires.ready.crew_is c.in_ok-allow-in-Recv.ensures c.recv.ensures

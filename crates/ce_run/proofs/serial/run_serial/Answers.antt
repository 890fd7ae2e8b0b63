use Rattle.std.proofs.Common.{◌≡◌, []}
use Rattle.ce_run.proofs.Further.{empty-run, no-dim}
use Rattle.ce_run.proofs.serial.run_serial.Goals.{in_default-via-in-Some+else-not-is_empty, in_default-via-in_default}
use Rattle.ce_run.proofs.serial.run_serial.Goals as goal

-- the script has no users
nobody : (c : goal.After-new-in_default) → c.args.limited_script.now.script.users ≡ []
nobody c =
    elim c.in_default.branch [
      | in_default-via-in-Some+else-not-is_empty w ↦ w.is_empty.ensures.0 w.if-not-is_empty.false
      | in_default-via-in_default w ↦ (c.args.limited_script.now.within.machine (no-dim c.args.limited_script.now.script.dim w.in_default.not-Some)).1
    ]

pub returns-in_default-clause-legal : goal.returns-in_default-clause-legal
returns-in_default-clause-legal c =
    (empty-run c.args.limited_script.now.script c.new.result c.new-in_default.result c.args.limited_script.now.within (nobody c) c.new.ensures c.new-in_default.ensures).0

pub returns-in_default-clause-serial : goal.returns-in_default-clause-serial
returns-in_default-clause-serial c =
    (empty-run c.args.limited_script.now.script c.new.result c.new-in_default.result c.args.limited_script.now.within (nobody c) c.new.ensures c.new-in_default.ensures).1

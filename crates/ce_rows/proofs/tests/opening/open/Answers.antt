use Rattle.std.proofs.Common.{◌^◌, ap, sym, ◌∙◌, subst}
use Rattle.ce_model.specs.Machine.{IsMachine}
use Rattle.ce_daemon.specs.Boxes.{AreBoxes}
use Rattle.ce_machine.specs.Meanings.{MachineFacts}
use Rattle.ce_rows.proofs.Rows.{is-machine}
use Rattle.ce_rows.proofs.Opening.{parts-are}
use Rattle.ce_rows.proofs.tests.opening.open.Goals as goal

pub new-requires-clause-machine : goal.new-requires-clause-machine
new-requires-clause-machine g c =
    subst IsMachine (sym (parts-are c.args.row _ _ _ c.dim_of-dim.ensures c.users_of-users.ensures c.in_ok-images.ensures)) (is-machine c.args.row)

pub new-requires-clause-boxes : goal.new-requires-clause-boxes
new-requires-clause-boxes g c =
    subst (λ d. AreBoxes g.N.Homed.home g.N.Homed.clean (2 ^ d) (λ node. node) c.args.boxes.items) (sym c.dim_of-dim.ensures) c.requires

pub returns : goal.returns
returns g c = record {
  parts_are = ap (λ (m : MachineFacts). m.parts) c.in_ok-machine.ensures ∙ parts-are c.args.row _ _ _ c.dim_of-dim.ensures c.users_of-users.ensures c.in_ok-images.ensures;
  history_is = ap (λ (m : MachineFacts). m.history) c.in_ok-machine.ensures;
}

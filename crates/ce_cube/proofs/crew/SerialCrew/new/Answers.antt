use Rattle.std.proofs.Common.{◌≡◌, List, length, slice_index_or, ap, sym, ◌∙◌, subst, arith}
use Rattle.std.proofs.lemmas.List.{with_items_is}
use Rattle.ce_model.specs.declared.entry.Entry.{Entry}
use Rattle.rk_node.specs.Boxes.{Box}
use Rattle.ce_cube.specs.Crews.{AreBoxesInStep}
use Rattle.ce_daemon.specs.Peeks.{cube_grant}
use Rattle.ce_cube.specs.Homecoming.{entered_box}
use Rattle.ce_cube.proofs.Openings.{host-begins, boxes-begin}
use Rattle.ce_cube.proofs.crew.SerialCrew.new.Goals as goal

pub returns-clause-in_step : goal.returns-clause-in_step
returns-clause-in_step c parts history machine images held begins =
    let grant = c.args.grant in
    let before : c.as_mut_slice.result.now ≡ c.args.boxes.items = c.as_mut_slice.ensures.value in
    let long : length c.enter_all.new.boxes ≡ length c.args.boxes.items = omega (arith, c.enter_all.auto.boxes, ap (λ (xs : List Box). length xs) before) in
    let items = with_items_is c.args.boxes c.enter_all.new.boxes (long ∙ sym c.args.boxes.ok.0) in
    let boxes : AreBoxesInStep parts history grant c.enter_all.new.boxes = boxes-begin grant parts history c.args.images c.args.boxes.items c.enter_all.new.boxes
    c.requires.dim begins images c.requires.boxes long
    (λ r other below. c.enter_all.ensures r other (omega (arith, below, ap (λ (xs : List Box). length xs) before))
    ∙ ap (λ (xs : List Box). entered_box grant.dim c.args.images r (slice_index_or xs r other)) before) in
    record {
      held = held;
      boxes = subst (AreBoxesInStep parts history grant) (sym items) boxes;
      host = record {
        blocks = c.requires.host.blocks ∙ sym (host-begins (cube_grant grant) c.requires.dim parts history grant.number begins);
        room = c.requires.host.room;
        spare = c.requires.host.spare;
      };
      entries = sym (ap (λ (t : List Entry). length t) begins);
    }

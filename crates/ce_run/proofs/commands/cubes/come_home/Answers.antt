use Rattle.std.proofs.Common.{sym, subst, ◌∙◌}
use Rattle.std.proofs.lemmas.List.{take_at}
use Rattle.ce_cube.specs.Crews.{AreAllHome, HasAllBlocks}
use Rattle.ce_daemon.specs.Peeks.{cube_grant}
use Rattle.ce_run.proofs.commands.cubes.come_home.Goals as goal

pub rehome-requires : goal.rehome-requires
rehome-requires c = record {
  all = (
    cube_grant c.args.crew.grant,
    subst (λ boxes. HasAllBlocks (cube_grant c.args.crew.grant) boxes c.args.crew.host c.args.drained_blocks.items)
        (sym c.as_mut_slice.ensures.value) c.requires,
  );
}

pub returns : goal.returns
returns c =
    let grant = cube_grant c.args.crew.grant in
    let home = c.rehome.ensures.home grant
    (subst (λ boxes. HasAllBlocks grant boxes c.args.crew.host c.args.drained_blocks.items) (sym c.as_mut_slice.ensures.value) c.requires) in
    subst (λ boxes. AreAllHome grant boxes c.rehome.new.host)
    (sym (take_at c.rehome.new.boxes _ c.args.crew.boxes.len (home.0.all ∙ sym c.requires.all ∙ sym c.args.crew.boxes.ok.0))) home

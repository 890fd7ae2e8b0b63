use Rattle.std.proofs.Common.{◌≡◌, ℕ, [], length, map, replicate, Some, refl, ap, sym, ◌∙◌, subst, arith}
use Rattle.std.proofs.lemmas.List.{length-replicate}
use Rattle.ce_model.specs.Limits.{process_count, process_count_lem, home_blocks}
use Rattle.xm_owner.specs.Holdings.{MappingTable}
use Rattle.rk_process.specs.OwnStates.{place_of, unborn_state}
use Rattle.rk_node.specs.Standing.{processes_of}
use Rattle.rk_node.specs.Tables.{AreRisingPlaces, AreUsedWindows}
use Rattle.rk_node.specs.Boxes.{fresh_node_at}
use Rattle.rk_node.proofs.Names.{length-ids_of}
use Rattle.xm_block.proofs.HomeBlocks.{length-blocks_of_home}
use Rattle.rk_node.proofs.Fresh.{all-unborn}
use Rattle.rk_node.proofs.node.Node.new.Goals as goal

pub invariant_of-result : goal.invariant_of-result
invariant_of-result c =
    let owns = c.in_ok-unborn_processes.field-0.items in
    let store = c.in_ok-of_home.field-0 in
    let none : c.in_ok-new.field-0.mappings ≡ [] = ap (λ (table : MappingTable). table.mappings) c.in_ok-new.ensures in
    let spare : c.in_ok-new.field-0.spare ≡ c.args.room = ap (λ (table : MappingTable). table.spare) c.in_ok-new.ensures in
    let many : length store.blocks ≡ home_blocks =
    sym (length-ids_of store.blocks) ∙ ap {B = ℕ} length c.in_ok-of_home.ensures.blocks ∙ length-blocks_of_home c.args.home in
    let room = c.in_ok-of_home.ensures.room in
    let no_mapping : length c.in_ok-new.field-0.mappings ≡ 0 = ap {B = ℕ} length none in
    record {
      few_nodes = omega arith;
      poll_room = omega (arith, process_count_lem, c.in_ok-with_capacity.ensures.capacity);
      stocked = record {
        every_id = ap {B = ℕ} length c.in_ok-unborn_processes.ensures ∙ length-replicate process_count unborn_state;
        windows = subst (λ m. AreUsedWindows owns (map place_of m)) (sym none) tt;
        rising = subst (λ m. AreRisingPlaces (map place_of m)) (sym none) tt;
        held_room = omega (arith, no_mapping, spare);
        store_room = omega (arith, many, room);
        within = omega (arith, many, no_mapping, room);
      };
    }

pub returns : goal.returns
returns c =
    let m = c.in_ok-new.field-0.mappings in
    let processes : processes_of m c.in_ok-unborn_processes.field-0.items ≡ replicate process_count _ =
    ap (processes_of m) c.in_ok-unborn_processes.ensures ∙ all-unborn m 0 process_count in
    record {
      fresh = λ i. record (fresh_node_at c.args.home 0 0 0) { processes = processes i; store = c.in_ok-of_home.ensures.blocks i; polling_ids = c.in_ok-with_capacity.ensures.items i };
      has_room = refl;
      batch = ap Some c.in_ok-new-2.ensures;
    }

-- What a node without a started process says once one of its processes was started.
use Rattle.std.proofs.Common.{◌≡◌, ℕ, ◌<◌, List, ap, ◌∙◌, arith}
use Rattle.std.proofs.lemmas.List.{get_or-replicate}
use Rattle.rv_model.specs.Image.{ImageParts}
use Rattle.ce_model.specs.Limits.{process_count, process_count_lem}
use Rattle.ce_model.specs.Process.{Process, unborn_process}
use Rattle.ce_model.specs.Node.{Node}
use Rattle.ce_model.specs.Hearing.{start_of, node_after_hearing}
use Rattle.ce_model.specs.Saying.{says}
use Rattle.ce_model.specs.Sound.{is_unborn}
use Rattle.ce_solo.proofs.Hears.{start-begins}
use Rattle.ce_solo.proofs.Says.{says-said}
use Rattle.rk_node.specs.Boxes.{fresh_node_at}
use Rattle.rk_node.proofs.Sorted.{idle-fresh, idle-well}

-- it has as many images as before
pub images-said : (images : List ImageParts) (node : Node) (home r dim n : ℕ) → node ≡ fresh_node_at home r dim n
    → (says (node_after_hearing images node (start_of 0 0))).node.images ≡ n
images-said images node home r dim n is =
    let idle = idle-fresh home r dim n in
    let within : 0 < process_count = omega (arith, process_count_lem) in
    let not_started = ap (λ (p : Process). is_unborn p.status) (get_or-replicate process_count 0 unborn_process unborn_process within) in
    let begun = start-begins images (fresh_node_at home r dim n) 0 0 (idle-well (fresh_node_at home r dim n) idle) within not_started in
    let said = says-said (node_after_hearing images (fresh_node_at home r dim n) (start_of 0 0)) begun.well begun.turn in
    ap (λ (node : Node). (says (node_after_hearing images node (start_of 0 0))).node.images) is ∙ said.leaves.became.images ∙ begun.images

use Rattle.std.proofs.Common.{◌≡◌, map, take}
use Rattle.ce_run.proofs.serial.copy_images.Given as goal

abbrev pub invariant-loop-named_image : goal.invariant-loop-named_image
invariant-loop-named_image l = l.copies.items ≡ map (λ named_image. named_image.image) (take l.named_image-index l.images)

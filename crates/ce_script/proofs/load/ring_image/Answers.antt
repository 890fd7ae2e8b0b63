use Rattle.ce_script.proofs.RingImage.{assembled_ring, never_refused}
use Rattle.ce_script.proofs.load.ring_image.Goals as goal

pub unreachable-requires : goal.unreachable-requires
unreachable-requires c = never_refused c.ring_text.result.now c.in-Err.fault c.ring_text.ensures.text c.in_default.not-Memory c.in-Err.ensures

pub returns-in-Ok : goal.returns-in-Ok
returns-in-Ok c = assembled_ring c.ring_text.result.now c.in-Ok.image c.ring_text.ensures.text c.in-Ok.ensures

use Rattle.std.proofs.lemmas.List.{append-nil}
use Rattle.ce_trace.proofs.stops.push_stop.Goals as goal

pub returns-in-Misaligned : goal.returns-in-Misaligned
returns-in-Misaligned c = rw (c.in-Misaligned.is, append-nil) c.push_cause_with_address-in-Misaligned.ensures

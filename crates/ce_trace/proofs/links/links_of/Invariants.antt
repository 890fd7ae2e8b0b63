use Rattle.std.proofs.Common.{◌≡◌, ℕ, drop, length, unwrap_or}
use Rattle.std.specs.BTreeMap.{get}
use Rattle.std.specs.Ordering.{nat_cmp}
use Rattle.ce_trace.specs.Links.{links_of, entries_from_own}
use Rattle.ce_trace.proofs.links.links_of.Given as goal

abbrev pub invariant-loop-index : goal.invariant-loop-index
invariant-loop-index l = record {
  linked : l.links.items ≡ links_of (drop l.index l.history);
  nearest : (user : ℕ) → unwrap_or (get nat_cmp l.nearest_entries user) 0 ≡ length (entries_from_own user (drop l.index l.history));
}

use Rattle.std.proofs.Common.{◌≡◌, ◌∷◌, ◌++◌, take}
use Rattle.std.specs.List.{flat_map}
use Rattle.ce_model.specs.Renaming.{block_inward, place_inward}
use Rattle.ce_script.specs.EntryText.{target_text}
use Rattle.ce_trace.proofs.entries.push_targets.Given as goal

abbrev pub invariant-loop-target : goal.invariant-loop-target
invariant-loop-target l =
    l.text.items ≡ l.initial.text.items ++ flat_map (λ target. 44 ∷ target_text (place_inward l.sub target.0, block_inward l.sub target.1)) (take l.target-index l.others)

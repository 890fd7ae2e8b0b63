use Rattle.std.proofs.Common.{◌≡◌, [], ◌∷◌, ◌++◌, take}
use Rattle.std.specs.List.{flat_map}
use Rattle.ce_script.specs.TextParts.{line}
use Rattle.ce_script.specs.Texts.{received_text}
use Rattle.ce_trace.proofs.summary.write_summary.Given as goal

abbrev pub invariant-loop-user : goal.invariant-loop-user
invariant-loop-user l =
    l.text.items ≡ l.initial.text.items ++ flat_map (λ user. line (user.name ∷ received_text l.run_record user ∷ [])) (take l.user-index l.user-items)

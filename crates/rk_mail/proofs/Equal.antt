-- Blocks of equal bytes.
use Rattle.std.proofs.Common.{◌≡◌, List, [], ◌∷◌, ◌++◌, Option, None, Some, sym, ◌∙◌, subst}
use Rattle.std.specs.Prelude.{option_to_list}
use Rattle.std.proofs.lemmas.List.Elements.{All-nil, All-head, All-tail, All-weaker}
use Rattle.ce_model.specs.declared.topology.Place.{Place}
use Rattle.ce_model.specs.Blocks.{Block}
use Rattle.rk_mail.specs.Targets.{HasEqualBytes}

-- those that are left have equal bytes too
pub HasEqualBytes-tail : (target : Place × Block) (targets : List (Place × Block)) → HasEqualBytes (target ∷ targets) → HasEqualBytes targets
HasEqualBytes-tail target [] equal = All-nil (λ (one : Place × Block). one.1.bytes ≡ [])
HasEqualBytes-tail target (next ∷ targets) equal =
    let rest = All-tail (λ (one : Place × Block). one.1.bytes ≡ target.1.bytes) target (next ∷ targets) equal in
    let same = All-head (λ (one : Place × Block). one.1.bytes ≡ target.1.bytes) next targets rest in
    All-weaker (λ (one : Place × Block). one.1.bytes ≡ target.1.bytes) (λ (one : Place × Block). one.1.bytes ≡ next.1.bytes) (λ one is. is ∙ sym same) (next ∷ targets) rest

pub HasEqualBytes-rest : (first : Option (Place × Block)) (all targets : List (Place × Block)) → all ≡ option_to_list first ++ targets → HasEqualBytes all → HasEqualBytes targets
HasEqualBytes-rest None all targets is equal = let P : List (Place × Block) → Type 0 = λ ts. HasEqualBytes ts in subst P is equal
HasEqualBytes-rest (Some target) all targets is equal =
    let P : List (Place × Block) → Type 0 = λ ts. HasEqualBytes ts in
    HasEqualBytes-tail target targets (subst P is equal)

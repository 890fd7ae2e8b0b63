-- Private memory that holds zeros alone, once its first bytes are written.
use Rattle.std.proofs.Common.{◌≡◌, ℕ, List, [], ◌++◌, length, drop, ap, ◌∙◌}
use Rattle.std.proofs.lemmas.List.{drop-replicate}
use Rattle.rv_model.specs.Private.{private_size, with_loaded_bytes}

pub loaded_into_zeros : (bytes loaded : List ℕ) → bytes ≡ with_loaded_bytes [] → loaded ++ drop (length loaded) bytes ≡ with_loaded_bytes loaded
unfolding private_size
loaded_into_zeros bytes loaded zeros =
    ap (λ (all : List ℕ). loaded ++ drop (length loaded) all) zeros
    ∙ ap (λ (rest : List ℕ). loaded ++ rest) (drop-replicate (length loaded) private_size 0)

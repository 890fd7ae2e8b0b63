-- Words and pieces that are joined.
use Rattle.std.proofs.Common.{◌≡◌, ℕ, ◌+◌, ◌<◌, ◌≤◌, List, [], ◌∷◌, ◌++◌, ap, sym, ◌∙◌, append_assoc, drop, get_or, length, take}
use Rattle.std.specs.List.{flat_map, join_with_byte}
use Rattle.std.proofs.lemmas.List.{append-nil, at_drop_more, at_drop_all, take_all}
use Rattle.hex.specs.Hex.{encode_lower, encode_with}
use Rattle.ce_model.specs.declared.topology.Place.{Place}
use Rattle.ce_model.specs.declared.topology.BlockId.{BlockId}
use Rattle.ce_model.specs.Renaming.{renamed_targets}
use Rattle.ce_script.specs.EntryText.{target_text, targets_text}
use Rattle.ce_script.specs.TextParts.{joined_words}
use Rattle.ce_trace.specs.Spaced.{spaced_words}

-- pieces joined are the first one, and the separator before each further one
pub join-cons : (c : ℕ) (first : List ℕ) (pieces : List (List ℕ)) → join_with_byte c (first ∷ pieces) ≡ first ++ flat_map (λ piece. c ∷ piece) pieces
join-cons c first [] = sym (append-nil first)
join-cons c first (second ∷ pieces) = ap (λ more. first ++ (c ∷ more)) (join-cons c second pieces)

-- words are the first one, and a space before each further one
pub words-cons : (first : List ℕ) (further : List (List ℕ)) → joined_words (first ∷ further) ≡ first ++ spaced_words further
words-cons first further = join-cons 32 first further

-- the digits of one byte more
pub hex_more : (text bytes : List ℕ) (i : ℕ) → i < length bytes
    → (text ++ encode_lower (get_or bytes i 0 ∷ [])) ++ encode_lower (drop (i + 1) bytes) ≡ text ++ encode_lower (drop i bytes)
unfolding encode_with
hex_more text bytes i below =
    append_assoc text (encode_lower (get_or bytes i 0 ∷ [])) (encode_lower (drop (i + 1) bytes))
    ∙ ap (λ digits. text ++ digits) (sym (at_drop_more encode_lower bytes i 0 below))

-- the digits of all bytes
pub hex_all : (text bytes : List ℕ) (i : ℕ) → length bytes ≤ i → text ++ encode_lower (drop i bytes) ≡ text
unfolding encode_with
hex_all text bytes i all = ap (λ digits. text ++ digits) (at_drop_all encode_lower bytes i all) ∙ append-nil text

-- targets joined are the first one, and a comma before each further one
pub targets-cons : (place : Place → Place) (block : BlockId → BlockId) (first : Place × BlockId) (further : List (Place × BlockId))
    → targets_text (renamed_targets place block (first ∷ further)) ≡ target_text (place first.0, block first.1) ++ flat_map (λ target. 44 ∷ target_text (place target.0, block target.1)) further
targets-cons place block first [] = sym (append-nil (target_text (place first.0, block first.1)))
targets-cons place block first (second ∷ further) =
    ap (λ more. target_text (place first.0, block first.1) ++ (44 ∷ more)) (targets-cons place block second further)

-- the targets of a message, written one by one
pub targets_written : (place : Place → Place) (block : BlockId → BlockId) (text spaced_text begun whole : List ℕ) (to : List (Place × BlockId)) (first : Place × BlockId) (further : List (Place × BlockId)) (n : ℕ)
    → to ≡ first ∷ further → spaced_text ≡ text ++ 32 ∷ [] → begun ≡ spaced_text ++ target_text (place first.0, block first.1)
    → whole ≡ begun ++ flat_map (λ target. 44 ∷ target_text (place target.0, block target.1)) (take n further) → length further ≤ n
    → whole ≡ text ++ 32 ∷ targets_text (renamed_targets place block to)
targets_written place block text spaced_text begun whole to first further n is one two three all =
    let pieces = λ (xs : List (Place × BlockId)). flat_map (λ (target : Place × BlockId). 44 ∷ target_text (place target.0, block target.1)) xs in
    let head = target_text (place first.0, block first.1) in
    rw (three, two, one, take_all n further all, is, targets-cons place block first further)
    (append_assoc (text ++ 32 ∷ []) head (pieces further) ∙ append_assoc text (32 ∷ []) (head ++ pieces further))

-- The numbers by which a cube knows its nodes: of a mask only some bits count.
use Rattle.std.proofs.Common.{◌≡◌, ℕ, zero, suc, ◌+◌, ◌/◌, ◌%◌, ◌^◌, refl, ap, ◌∙◌, arith}
use Rattle.ce_model.specs.Limits.{greatest_dim}
use Rattle.std.proofs.lemmas.Bool.{ne_eqb}
use Rattle.std.proofs.lemmas.Nat.{field_of, mod-pow-add}
use Rattle.ce_model.specs.declared.topology.TheConstants.{HOST}
use Rattle.ce_model.specs.declared.topology.Subcube.{Subcube}
use Rattle.ce_model.specs.Subcubes.{extract, extracted_bits, relative_number}

-- a mask says nothing beyond the bits that are looked at
extracted-low : (bits n mask : ℕ) → extracted_bits bits n (mask % 2 ^ bits) ≡ extracted_bits bits n mask
extracted-low zero n mask = refl
extracted-low (suc bits) n mask =
    let one_more : suc bits ≡ bits + 1 = omega arith in
    let low : mask % 2 ^ suc bits % 2 ≡ mask % 2 = ap (λ k. mask % 2 ^ k % 2) one_more ∙ omega (arith, mod-pow-add mask bits 1) in
    let half : mask % 2 ^ suc bits / 2 ≡ mask / 2 % 2 ^ bits = ap (λ k. mask % 2 ^ k / 2) one_more ∙ field_of mask bits 1 in
    rw (low, half, extracted-low bits (n / 2) (mask / 2)) refl

-- nor beyond the dimensions of the greatest machine
pub extract-low : (n mask : ℕ) → extract n (mask % 64) ≡ extract n mask
unfolding extract greatest_dim
extract-low n mask = extracted-low 6 n mask

-- the number by which a cube knows the host, and a node
pub relative-host : (sub : Subcube) (node : ℕ) → node ≡ HOST → HOST ≡ relative_number sub node
unfolding relative_number
relative-host sub node e = rw e refl

pub relative-node : (sub : Subcube) (node : ℕ) → (node ≡ HOST → ⊥) → extract node (sub.mask % 64) ≡ relative_number sub node
unfolding relative_number
relative-node sub node other = rw (ne_eqb node HOST other) (extract-low node sub.mask)

use Rattle.std.proofs.Common.{◌≡◌, ℕ, ◌+◌, ◌/◌, ◌%◌, ◌^◌, ◌<◌, true, ◌&&◌, ◌==◌, sym, ap, ◌∙◌, arith, w64}
use Rattle.std.specs.Int.{trailing_zeros}
use Rattle.std.proofs.lemmas.Nat.Bits.{bit_at-trailing_zeros, bit_at-zero}
use Rattle.std.proofs.lemmas.Nat.{pow_pos}
use Rattle.std.proofs.lemmas.Bool.{and_parts}
use Rattle.ce_model.specs.Limits.{greatest_dim}
use Rattle.ce_model.specs.Subcubes.{has_node, ones_of, is_base, are_all_nodes, subcube, deposit}
use Rattle.ce_model.proofs.Subcubes.{find-none, find-first, all_nodes-at}
use Rattle.ce_set.proofs.WordBits.{below-is_member}
use Rattle.ce_set.proofs.subcube.first_with.Goals as goal

pub returns-then-bases-eq0 : goal.returns-then-bases-eq0
returns-then-bases-eq0 c = λ dim within.
    let mask = c.args.mask in
    let test = are_all_nodes (has_node c.args.free_nodes) (ones_of greatest_dim mask) in
    let both = λ (n : ℕ). is_base mask n && test (subcube mask n) in
    sym (find-none test (subcube mask) (is_base mask) 0 (2 ^ dim) (λ k below.
    let here : 0 + k ≡ k = omega arith in
    let empty = ap (λ bases. bases / 2 ^ k % 2 == 1) c.if-bases-eq0.true ∙ ap (λ x. x == 1) (bit_at-zero k) in
    ap both here ∙ sym (c.bases_within-bases.ensures k) ∙ empty))

pub returns : goal.returns
returns c = λ dim within.
    let mask = c.args.mask in
    let bases = c.bases_within-bases.result in
    let base = trailing_zeros w64 bases in
    let test = are_all_nodes (has_node c.args.free_nodes) (ones_of greatest_dim mask) in
    let both = λ (n : ℕ). is_base mask n && test (subcube mask n) in
    let lowest = bit_at-trailing_zeros w64 bases (omega (arith, c.if-bases-eq0.false)) c.bases_within-bases.type_inv in
    let same : 0 + base ≡ base = omega arith in
    let found : both base ≡ true = sym (c.bases_within-bases.ensures base) ∙ ap (λ x. x == 1) lowest.1 in
    let free_there = all_nodes-at (has_node c.args.free_nodes) (ones_of greatest_dim mask) (subcube mask base) 0 (and_parts (is_base mask base) (test (subcube mask base)) found).1 (pow_pos (ones_of greatest_dim mask)) in
    let below : base + deposit 0 mask < 2 ^ dim = below-is_member c.args.free_nodes.0 (2 ^ dim) (base + deposit 0 mask) within free_there in
    let first = find-first test (subcube mask) (is_base mask) 0 (2 ^ dim) base (omega arith) (ap both same ∙ found) (λ i less.
    let here : 0 + i ≡ i = omega arith in
    ap both here ∙ sym (c.bases_within-bases.ensures i) ∙ ap (λ x. x == 1) (lowest.2 i less)) in
    sym (rw same at first)

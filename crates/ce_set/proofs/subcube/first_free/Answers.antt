use Rattle.std.proofs.Common.{◌≡◌, ℕ, suc, ◌+◌, ◌-◌, ◌*◌, ◌%◌, ◌^◌, ◌<◌, ◌≤◌, refl, sym, ◌∙◌, arith}
use Rattle.std.proofs.lemmas.Bool.{eq-eqb, ne_eqb}
use Rattle.std.proofs.lemmas.Nat.{one_shl}
use Rattle.ce_model.specs.Limits.{greatest_dim, greatest_dim_lem}
use Rattle.ce_model.specs.Subcubes.{first_free_subcube, has_node, are_all_nodes, ones_of, subcubes}
use Rattle.ce_set.proofs.Steps.{pow_le}
use Rattle.ce_set.proofs.Masks.{first_subcube_from-other, first_subcube_from-none, first_subcube_from-found, count_ones-below}
use Rattle.ce_set.proofs.subcube.first_free.Goals as goal
use Rattle.ce_set.proofs.subcube.first_free.Goals.{else-mask-d-via-else-mask-d, else-mask-d-via-then-mask-d+in-None-1}

pub overflow_shl-mask-end : goal.overflow_shl-mask-end
overflow_shl-mask-end c = omega (arith, greatest_dim_lem)

pub loop-mask-init : goal.loop-mask-init
unfolding first_free_subcube subcubes
loop-mask-init c = let all : 2 ^ c.args.dim - 0 ≡ 2 ^ c.args.dim = omega arith in rw all refl

-- the masks are below the number of nodes
within : (dim mask : ℕ) → dim ≤ greatest_dim → mask < 1 * 2 ^ dim % 4294967296 → (mask < 2 ^ dim) × (mask < 2 ^ greatest_dim)
within dim mask small below =
    let whole = one_shl dim 32 (omega (arith, greatest_dim_lem)) in
    (omega (arith, whole), omega (arith, whole, pow_le dim greatest_dim small))

pub first_with-requires : goal.first_with-requires
first_with-requires c = (within c.args.dim c.loop-mask.mask c.requires.dim_within c.loop-mask-test.true).1

pub returns-in-loop-mask : goal.returns-in-loop-mask
returns-in-loop-mask c =
    let dim = c.args.dim in
    let mask = c.loop-mask.mask in
    let in_range = within dim mask c.requires.dim_within c.loop-mask-test.true in
    let ones : ones_of greatest_dim mask ≡ c.args.d = sym (count_ones-below greatest_dim mask in_range.1) ∙ c.if-mask-d.true in
    let found = rw ones at (c.first_with.ensures dim c.requires.nodes_within) in
    sym (c.loop-mask.invariant
    ∙ first_subcube_from-found (are_all_nodes (has_node c.args.free_nodes) c.args.d) c.args.d (2 ^ dim) mask (2 ^ dim - mask) (2 ^ dim - (mask + 1)) c.in-Some.sub (omega (arith, in_range.0)) (eq-eqb _ _ ones) (sym found ∙ c.in-Some.is))

pub loop-mask-preserved : goal.loop-mask-preserved
loop-mask-preserved c =
    let dim = c.args.dim in
    let mask = c.loop-mask.mask in
    let test = are_all_nodes (has_node c.args.free_nodes) c.args.d in
    let in_range = within dim mask c.requires.dim_within c.loop-mask-test.true in
    let more : 2 ^ dim - mask ≡ suc (2 ^ dim - (mask + 1)) = omega (arith, in_range.0) in
    let count = count_ones-below greatest_dim mask in_range.1 in
    elim c.else-mask-d.branch [
      | else-mask-d-via-else-mask-d w ↦
          c.loop-mask.invariant
          ∙ first_subcube_from-other test c.args.d (2 ^ dim) mask (2 ^ dim - mask) (2 ^ dim - (mask + 1)) more (ne_eqb _ _ (λ same. w.if-mask-d.false (count ∙ same)))
      | else-mask-d-via-then-mask-d+in-None-1 w ↦
          let ones : ones_of greatest_dim mask ≡ c.args.d = sym count ∙ w.if-mask-d.true in
          let none = rw ones at (w.first_with.ensures dim c.requires.nodes_within) in
          c.loop-mask.invariant
          ∙ first_subcube_from-none test c.args.d (2 ^ dim) mask (2 ^ dim - mask) (2 ^ dim - (mask + 1)) more (eq-eqb _ _ ones) (cc none)
    ]

pub returns : goal.returns
returns c =
    let done : 2 ^ c.args.dim - c.loop-mask.mask ≡ 0 = omega (arith, one_shl c.args.dim 32 (omega (arith, greatest_dim_lem, c.requires.dim_within))) in
    sym (rw done at c.loop-mask.invariant)

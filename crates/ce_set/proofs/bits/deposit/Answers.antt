use Rattle.std.proofs.Common.{◌≡◌, ◌-◌, ◌^◌, ◌<◌, refl, ap, arith}
use Rattle.ce_model.specs.Limits.{greatest_dim, greatest_dim_lem}
use Rattle.ce_model.specs.Subcubes.{deposit, deposited_bits, extract}
use Rattle.ce_model.proofs.Subcubes.{deposited-below, deposited-part, extracted-deposited, deposited-rises}
use Rattle.ce_set.proofs.Steps.{deposit_more_none, deposit_more_one, even_where_clear, odd_where_set, low_bit_shifted, none_left}
use Rattle.ce_set.proofs.bits.deposit.Goals as goal
use Rattle.ce_set.proofs.bits.deposit.Goals.{then-mask_left-eq1, else-mask_left-eq1}

pub loop-place-init : goal.loop-place-init
loop-place-init c =
    let all : greatest_dim - 0 ≡ greatest_dim = omega arith in
    rw all (omega arith)

pub overflow_add-node : goal.overflow_add-node
overflow_add-node c =
    let l = c.loop-place in
    omega (arith, low_bit_shifted l.bits_left l.place (omega arith), deposit_more_one greatest_dim l.place l.node l.bits_left l.mask_left (omega (arith, greatest_dim_lem)) (odd_where_set l.mask_left c.if-mask_left-eq1.true), l.invariant, deposited-below greatest_dim c.args.r c.args.mask, ap (λ n. 2 ^ n) greatest_dim_lem)

pub loop-place-preserved : goal.loop-place-preserved
loop-place-preserved c =
    let l = c.loop-place in
    let below : l.place < greatest_dim = omega (arith, greatest_dim_lem) in
    elim c.if-mask_left-eq1.branch [
      | then-mask_left-eq1 w ↦
          rw (w.node-is, w.bits_left-is, low_bit_shifted l.bits_left l.place (omega arith), deposit_more_one greatest_dim l.place l.node l.bits_left l.mask_left below (odd_where_set l.mask_left w.if-mask_left-eq1.true)) l.invariant
      | else-mask_left-eq1 w ↦
          rw (w.node-is, w.bits_left-is, deposit_more_none greatest_dim l.place l.node l.bits_left l.mask_left below (even_where_clear l.mask_left w.if-mask_left-eq1.false)) l.invariant
    ]

is_deposited : (c : goal.After-loop-place) → c.loop-place.node ≡ deposited_bits greatest_dim c.args.r c.args.mask
is_deposited c =
    let l = c.loop-place in
    none_left (λ bits. deposited_bits bits l.bits_left l.mask_left) greatest_dim l.place (2 ^ l.place) l.node _ refl (omega (arith, greatest_dim_lem)) l.invariant

pub returns-clause-value : goal.returns-clause-value
unfolding deposit
returns-clause-value c = is_deposited c

pub returns-clause-inside : goal.returns-clause-inside
returns-clause-inside c = rw (is_deposited c) (deposited-part greatest_dim c.args.r c.args.mask)

pub returns-clause-back : goal.returns-clause-back
unfolding extract
returns-clause-back c = λ small. rw (is_deposited c) (extracted-deposited greatest_dim c.args.r c.args.mask small)

pub returns-clause-order : goal.returns-clause-order
unfolding deposit
returns-clause-order c = λ s less small. rw (is_deposited c) (deposited-rises greatest_dim s c.args.r c.args.mask small less)

use Rattle.std.proofs.Common.{◌≡◌, ◌-◌, ◌^◌, ◌<◌, refl, arith}
use Rattle.ce_model.specs.Limits.{greatest_dim, greatest_dim_lem}
use Rattle.ce_model.specs.Subcubes.{deposit, extract, extracted_bits, ones_of}
use Rattle.ce_model.proofs.Subcubes.{extracted-below, ones_of-bound, deposited-extracted, extracted-rises}
use Rattle.ce_set.proofs.Steps.{extract_more_none, extract_more_one, even_where_clear, odd_where_set, low_bit_shifted, none_left, pow_le}
use Rattle.ce_set.proofs.bits.extract.Goals as goal
use Rattle.ce_set.proofs.bits.extract.Goals.{then-mask_left-eq1, else-mask_left-eq1}

pub loop-place-init : goal.loop-place-init
loop-place-init c =
    let all : greatest_dim - 0 ≡ greatest_dim = omega arith in
    record { whole = rw all (omega arith); few = omega arith }

pub overflow_add-r : goal.overflow_add-r
overflow_add-r c =
    let l = c.loop-place in
    omega (arith, low_bit_shifted l.bits_left l.bit_count (omega (arith, l.invariant.few)), extract_more_one greatest_dim l.place l.bit_count l.r l.bits_left l.mask_left (omega (arith, greatest_dim_lem)) (odd_where_set l.mask_left c.if-mask_left-eq1.true), l.invariant.whole, extracted-below greatest_dim c.args.node c.args.mask, pow_le (ones_of greatest_dim c.args.mask) 6 (omega (arith, ones_of-bound greatest_dim c.args.mask, greatest_dim_lem)))

pub loop-place-preserved : goal.loop-place-preserved
loop-place-preserved c =
    let l = c.loop-place in
    let below : l.place < greatest_dim = omega (arith, greatest_dim_lem) in
    elim c.if-mask_left-eq1.branch [
      | then-mask_left-eq1 w ↦
          record {
            whole = rw (w.r-is, w.bit_count-is, low_bit_shifted l.bits_left l.bit_count (omega (arith, l.invariant.few)), extract_more_one greatest_dim l.place l.bit_count l.r l.bits_left l.mask_left below (odd_where_set l.mask_left w.if-mask_left-eq1.true)) l.invariant.whole;
            few = omega (arith, l.invariant.few, w.bit_count-is);
          }
      | else-mask_left-eq1 w ↦
          record {
            whole = rw (w.r-is, w.bit_count-is, extract_more_none greatest_dim l.place l.bit_count l.r l.bits_left l.mask_left below (even_where_clear l.mask_left w.if-mask_left-eq1.false)) l.invariant.whole;
            few = omega (arith, l.invariant.few, w.bit_count-is);
          }
    ]

is_extracted : (c : goal.After-loop-place) → c.loop-place.r ≡ extracted_bits greatest_dim c.args.node c.args.mask
is_extracted c =
    let l = c.loop-place in
    none_left (λ bits. extracted_bits bits l.bits_left l.mask_left) greatest_dim l.place (2 ^ l.bit_count) l.r _ refl (omega (arith, greatest_dim_lem)) l.invariant.whole

pub returns-clause-value : goal.returns-clause-value
unfolding extract
returns-clause-value c = is_extracted c

pub returns-clause-small : goal.returns-clause-small
returns-clause-small c = rw (is_extracted c) (extracted-below greatest_dim c.args.node c.args.mask)

pub returns-clause-back : goal.returns-clause-back
unfolding deposit
returns-clause-back c = λ within part. rw (is_extracted c) (deposited-extracted greatest_dim c.args.node c.args.mask within part)

pub returns-clause-order : goal.returns-clause-order
unfolding extract
returns-clause-order c =
    λ other less within of_other of_node. rw (is_extracted c) (extracted-rises greatest_dim other c.args.node c.args.mask within of_other of_node less)

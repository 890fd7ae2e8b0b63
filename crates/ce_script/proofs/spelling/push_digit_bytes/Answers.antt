use Rattle.std.proofs.Common.{◌∙◌, sym, ap, arith, ◌++◌, append_assoc, append-nil, rules, length, take, drop, ◌-◌, ℕ, List}
use Rattle.ce_script.specs.Spellings.{digit_bytes}
use Rattle.ce_script.proofs.DigitPairs.{all_of_pairs, pair_of, no_pair}
use Rattle.ce_script.proofs.spelling.push_digit_bytes.Goals as goal

pub loop-rest-init : goal.loop-rest-init
loop-rest-init c = record { digits = all_of_pairs c.args.digits.now c.requires; bytes = search rules }

pub loop-rest-preserved : goal.loop-rest-preserved
loop-rest-preserved c =
    let rest = c.loop-rest.rest.now in
    let others = take (length rest - 2) (drop 2 rest) in
    let pair = pair_of rest c.in-len2-up.len_at_least c.loop-rest.invariant.digits in
    let pushed = rw (c.hex_digit.ensures, c.hex_digit-in-len2-up.ensures) at c.in_ok-push.ensures.items in
    record {
      digits = pair.others;
      bytes =
          ap (λ (items : List ℕ). items ++ digit_bytes others) pushed
          ∙ append_assoc c.loop-rest.bytes.items _ (digit_bytes others)
          ∙ ap (λ (more : List ℕ). c.loop-rest.bytes.items ++ more) (sym pair.bytes)
          ∙ c.loop-rest.invariant.bytes;
    }

pub returns : goal.returns
returns c =
    sym (append-nil c.loop-rest.bytes.items)
    ∙ ap (λ (more : List ℕ). c.loop-rest.bytes.items ++ more) (sym (no_pair c.loop-rest.rest.now (omega arith)))
    ∙ c.loop-rest.invariant.bytes

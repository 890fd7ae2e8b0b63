use Rattle.std.proofs.Common.{◌≡◌, ℕ, ◌-◌, ◌^◌, ◌<◌, Bool, false, not, ◌&&◌, ◌==◌, refl, ap, ◌∙◌, arith, inl, inr, w64, bit_and}
use Rattle.std.specs.Int.{bit_at}
use Rattle.std.proofs.lemmas.Bool.{cases_lt}
use Rattle.std.proofs.lemmas.Bool.Decides.{nat_tests}
use Rattle.std.proofs.lemmas.Nat.Bits.{bit_at_not, bit_at-lt}
use Rattle.ce_model.specs.Parcels.{is_member}
use Rattle.ce_set.proofs.WordBits.{is_member-and, is_member-above}
use Rattle.ce_daemon.proofs.nodes.difference.Goals as goal

turned : (x : ℕ) → x < 2 → (1 - x == 1) ≡ not (x == 1)
turned x small = grind (arith, nat_tests)

left_out : (set other n : ℕ) → set < 2 ^ 64 → other < 2 ^ 64 → is_member n (bit_and set (18446744073709551615 - other)) ≡ (is_member n set && not (is_member n other))
left_out set other n of_set of_other =
    is_member-and set (18446744073709551615 - other) n
    ∙ elim (cases_lt n 64) [
      | inl within ↦
          ap (λ (t : Bool). is_member n set && t) (ap (λ x. x == 1) (bit_at_not w64 other n of_other within) ∙ turned (bit_at other n) (bit_at-lt other n))
      | inr past ↦ let gone : is_member n set ≡ false = is_member-above set 64 n of_set past in rw gone refl
    ]

pub returns-clause-nodes : goal.returns-clause-nodes
returns-clause-nodes c = λ node. left_out c.args.set.0 c.args.other.0 node (omega arith) (omega arith)

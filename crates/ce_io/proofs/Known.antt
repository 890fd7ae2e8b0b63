-- Bytes that are known to have been read or written.
use Rattle.std.proofs.Common.{◌≡◌, ℕ, ◌+◌, ◌-◌, ◌<◌, ◌≤◌, List, ◌++◌, Option, Some, None, Result, Ok, Err, length, take, drop, refl, ap, sym, ◌∙◌, arith, append_assoc, length-append}
use Rattle.std.specs.Prelude.{Vec, IsErrAnd}
use Rattle.std.specs.declared.alloc.Global.{Global}
use Rattle.std.specs.Io.KnownBytes.{prepend_known, append_known}
use Rattle.std.proofs.lemmas.Grind.{common_steps}
use Rattle.std.proofs.Math.Seq.{take-add}
use Rattle.ce_io.specs.Counts.{raised_count}
use Rattle.ce_io.specs.ReadError.{IsReadNoMemory}
use Rattle.ce_io.specs.Whole.{HasGiven, HasReadToEnd, reading}
use Rattle.ce_io.specs.declared.whole.ReadError.{ReadError}
use Rattle.ce_io.specs.declared.whole.ReadError.TheVariants.{TooLong, Read, Memory}
use Rattle.ce_io.specs.declared.whole.TheConstants.{PIECE}

known_step : (known : Option (List ℕ)) (xs ys zs : List ℕ) → xs ++ ys ≡ zs → append_known (append_known known xs) ys ≡ append_known known zs
known_step None xs ys zs e = refl
known_step (Some ws) xs ys zs e = ap (λ l. Some l) (rw append_assoc (ap (λ l. ws ++ l) e))

-- a piece more of a list that is written from its front
pub append_more : (known now : Option (List ℕ)) (bytes : List ℕ) (done n : ℕ) → done + n ≤ length bytes → now ≡ append_known known (take done bytes) → append_known now (take n (drop done bytes)) ≡ append_known known (take (done + n) bytes)
append_more known now bytes done n within h =
    ap (λ k. append_known k (take n (drop done bytes))) h
    ∙ known_step known (take done bytes) (take n (drop done bytes)) (take (done + n) bytes) (sym (take-add done n bytes))

-- all of it
pub append_all : (known now : Option (List ℕ)) (bytes : List ℕ) (done : ℕ) → done ≡ length bytes → now ≡ append_known known (take done bytes) → now ≡ append_known known bytes
append_all known now bytes done all h = h ∙ ap (append_known known) (grind (arith, common_steps))

prepended : (xs ys : List ℕ) (known : Option (List ℕ)) → prepend_known xs (prepend_known ys known) ≡ prepend_known (xs ++ ys) known
prepended xs ys None = refl
prepended xs ys (Some zs) = ap (λ l. Some l) (sym (append_assoc xs ys zs))

module _ {S : Type 0} (left : S → Option (List ℕ)) (given faults : S → ℕ) (old mid new : S) (text into : List ℕ) (count limit : ℕ)
    (before : HasGiven (reading left given faults old mid) text) (few : length text ≤ limit)
    (within : count ≤ length into) (places : length into ≡ 4096)
    (taken : left mid ≡ prepend_known (take count into) (left new)) (rose : given new ≡ raised_count (given mid) count) where
  piece : length (take count into) ≡ count
  piece = grind (arith, common_steps)

  bytes : List ℕ
  bytes = text ++ take count into

  longer : length (text ++ take count into) ≡ length text + count
  longer = length-append text (take count into) ∙ ap (λ n. length text + n) piece

  -- one piece more
  gave : HasGiven (reading left given faults old new) (text ++ take count into)
  gave = record {
    left = before.left ∙ ap (prepend_known text) taken ∙ prepended text (take count into) (left new);
    given = rw longer (omega (arith, before.given, rose));
  }

  -- a piece that goes past the limit
  pub ends_too_long : limit - length text < count → HasReadToEnd (reading left given faults old new) limit PIECE (Err TooLong)
  ends_too_long over = record {
    bytes = text ++ take count into;
    gave = gave;
    whole = tt;
    too_long = (λ _. rw longer (omega arith), λ _. refl);
    bounded = rw longer (omega arith);
  }

  -- a piece for which there is no memory
  pub ends_in_memory : (result : Result (Vec ℕ Global) ReadError) → IsErrAnd result (λ e. IsReadNoMemory e) → count ≤ limit - length text
      → HasReadToEnd (reading left given faults old new) limit PIECE result
  ends_in_memory (Ok bytes) memory fits = absurd memory
  ends_in_memory (Err TooLong) memory fits = absurd memory
  ends_in_memory (Err Read) memory fits = absurd memory
  ends_in_memory (Err (Memory fault)) memory fits = record {
    bytes = text ++ take count into;
    gave = gave;
    whole = tt;
    too_long = (λ e. absurd (cc), λ over. absurd (let h = rw longer at over in omega arith));
    bounded = rw longer (omega arith);
  }

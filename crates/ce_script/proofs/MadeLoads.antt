-- The commands of the load, one after the other.
use Rattle.std.proofs.Common.{◌≡◌, ℕ, zero, suc, ◌+◌, ◌≤◌, List, [], ◌∷◌, ◌++◌, map, length, flat_map, append-nil, append_assoc, add-one, lit≤, arith, ap, sym, ◌∙◌}
use Rattle.std.specs.List.{range_with_len}
use Rattle.std.specs.Int.{w32, to_le_bytes}
use Rattle.std.proofs.lemmas.List.FromFn.{map-range_with_len_more}
use Rattle.ce_script.specs.declared.load.TheConstants.{HAND_OVERS}
use Rattle.ce_host.specs.declared.command.Command.{Command}
use Rattle.ce_host.specs.declared.command.Command.TheVariants.{Spawn}
use Rattle.ce_model.specs.Limits.{block_room}
use Rattle.ce_model.specs.Literals.{place}
use Rattle.ce_script.specs.Load.{next_number, load_number, numbered_commands}

-- the commands of the first users
abbrev pub commands_below : ℕ → ℕ → List (ℕ × Command)
commands_below seed count = flat_map (numbered_commands seed) (range_with_len 0 count)

flat_map-more : {X : Type 0} (f : ℕ → List X) (a n : ℕ) → flat_map f (range_with_len a (suc n)) ≡ flat_map f (range_with_len a n) ++ f (a + n)
flat_map-more f a zero = append-nil (f a) ∙ ap f (omega arith)
flat_map-more f a (suc n) =
    ap (λ rest. f a ++ rest) (flat_map-more f (a + 1) n)
    ∙ sym (append_assoc (f a) (flat_map f (range_with_len (a + 1) n)) (f (a + 1 + n)))
    ∙ ap (λ k. (f a ++ flat_map f (range_with_len (a + 1) n)) ++ f k) (omega arith)

-- one user more
pub commands-more : (seed count : ℕ) → commands_below seed (count + 1) ≡ commands_below seed count ++ numbered_commands seed count
commands-more seed count = ap (commands_below seed) (add-one count) ∙ flat_map-more (numbered_commands seed) 0 count ∙ ap (λ k. commands_below seed count ++ numbered_commands seed k) (omega arith)

-- its number
pub number-more : (seed count number : ℕ) → number ≡ load_number seed count → next_number number ≡ load_number seed (count + 1)
number-more seed count number e = ap next_number e ∙ ap (load_number seed) (sym (add-one count))

-- a user's command that starts the program on a node
abbrev pub start_on : ℕ → ℕ → ℕ × Command
start_on user node = (user, Spawn 0 (place node 0))

-- the program on the first nodes
abbrev pub starts_below : ℕ → ℕ → List (ℕ × Command)
starts_below user count = map (start_on user) (range_with_len 0 count)

pub starts-more : (user count : ℕ) → starts_below user (count + 1) ≡ starts_below user count ++ start_on user count ∷ []
starts-more user count = map-range_with_len_more (start_on user) 0 count count (omega arith)

-- a message is short
pub message_short : (number : ℕ) → length (to_le_bytes w32 number ++ to_le_bytes w32 HAND_OVERS) ≤ block_room
unfolding block_room
message_short number = lit≤ tt

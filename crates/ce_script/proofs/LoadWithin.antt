-- The load keeps the limits of a script.
use Rattle.std.proofs.Common.{ℕ, ◌<◌, ◌≤◌, List, [], ◌∷◌, length, map, flat_map, lit<, lit≤, refl}
use Rattle.std.specs.List.{AllByRecursion, IsDistinct}
use Rattle.ce_model.specs.Limits.{greatest_dim, greatest_count, greatest_users, greatest_images, block_room}
use Rattle.ce_model.proofs.Members.{all-append}
use Rattle.ce_text.specs.Name as text
use Rattle.ce_script.specs.Names.{is_name, name_room}
use Rattle.ce_script.specs.Load.{load, load_commands, load_message, load_number, numbered_commands}
use Rattle.ce_script.specs.Bounds.{IsUserCommandWithin, IsWithinLimits}
use Rattle.ce_script.proofs.MadeLoads.{message_short}

-- the commands of a user
own_within : (k : ℕ) (message : List ℕ) → k < 4 → length message ≤ block_room
    → AllByRecursion (IsUserCommandWithin 4 1) (map (λ command. (k, command)) (load_commands message))
unfolding greatest_dim greatest_count
own_within k message own short =
    ((own, lit≤ tt), ((own, lit< tt), ((own, lit< tt), ((own, lit< tt), ((own, lit< tt), ((own, short), ((own, lit≤ tt), ((own, tt), tt))))))))

-- the commands of these users
all_within : (seed : ℕ) (users : List ℕ) → AllByRecursion (λ k. k < 4) users → AllByRecursion (IsUserCommandWithin 4 1) (flat_map (numbered_commands seed) users)
all_within seed [] each = tt
all_within seed (k ∷ users) each =
    all-append (IsUserCommandWithin 4 1) (numbered_commands seed k) (flat_map (numbered_commands seed) users)
    (own_within k (load_message seed k) each.0 (message_short (load_number seed k))) (all_within seed users each.1)

pub load_within : (seed : ℕ) → IsWithinLimits (load seed)
unfolding load greatest_dim greatest_users greatest_images is_name name_room text.is_name IsDistinct
load_within seed = record {
  dim = lit≤ tt;
  users = lit≤ tt;
  user_names = record { each = (refl, (refl, (refl, (refl, tt)))); distinct = ((refl, (refl, (refl, tt))), ((refl, (refl, tt)), ((refl, tt), (tt, tt)))) };
  images = lit≤ tt;
  image_names = record { each = (refl, tt); distinct = (tt, tt) };
  commands = all_within seed (0 ∷ 1 ∷ 2 ∷ 3 ∷ []) (lit< tt, (lit< tt, (lit< tt, (lit< tt, tt))));
  machine = λ none. absurd (cc);
}

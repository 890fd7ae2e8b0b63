-- The limits that a script keeps.
use Rattle.std.specs.Prelude.{◌≡◌, ℕ, ◌<◌, ◌≤◌, List, [], None, IfSome, IsTrue, length, map, bytes_eq}
use Rattle.std.specs.List.{AllByRecursion, IsDistinct}
use Rattle.ce_model.specs.Limits.{greatest_dim, greatest_count, greatest_users, greatest_images, block_room}
use Rattle.ce_host.specs.declared.command.Command.{Command}
use Rattle.ce_host.specs.declared.command.Command.TheVariants.{Getcube, Spawn, Send, Run, Recv}
use Rattle.ce_script.specs.declared.script.Script.{Script}
use Rattle.ce_script.specs.Names.{is_name}

-- the command keeps the limits of a script with so many images
abbrev pub IsCommandWithin : ℕ → Command → Type 0
IsCommandWithin images (Getcube dim) = dim ≤ greatest_dim
IsCommandWithin images (Spawn image to) = image < images
IsCommandWithin images (Send to bytes) = length bytes ≤ block_room
IsCommandWithin images (Run count) = count ≤ greatest_count
IsCommandWithin images (Recv count) = count ≤ greatest_count
IsCommandWithin images other = Unit {0}

-- the command is one of these users', and keeps the limits
abbrev pub IsUserCommandWithin : ℕ → ℕ → ℕ × Command → Type 0
IsUserCommandWithin users images user_command =
    (user_command.0 < users) × IsCommandWithin images user_command.1

-- names, all different
pub record AreNames (names : List (List ℕ)) : Type 0 where
  pub each : AllByRecursion (λ name. IsTrue (is_name name)) names
  pub distinct : IsDistinct bytes_eq names

-- nobody says anything
abbrev pub IsSilent : Script → Type 0
IsSilent script = (script.images ≡ []) × (script.users ≡ []) × (script.commands ≡ [])

-- The script's dimension is a machine's; its users are as many as a machine can have, and so are
-- its images, each with a name of its own; its commands keep the limits; and without a machine it
-- says nothing.
pub record IsWithinLimits (script : Script) : Type 0 where
  pub dim : IfSome script.dim (λ dim. dim ≤ greatest_dim)
  pub users : length script.users ≤ greatest_users
  pub user_names : AreNames script.users
  pub images : length script.images ≤ greatest_images
  pub image_names : AreNames (map (λ named_image. named_image.name) script.images)
  pub commands : AllByRecursion (IsUserCommandWithin (length script.users) (length script.images))
      script.commands
  pub machine : script.dim ≡ None → IsSilent script

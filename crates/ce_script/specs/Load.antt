-- The script of the load: four users, each with a ring of four processes that hand one message
-- round.
use Rattle.std.specs.Prelude.{ℕ, zero, suc, ◌+◌, ◌*◌, ◌%◌, ◌^◌, List, [], ◌∷◌, ◌++◌, map, flat_map, Some, codes}
use Rattle.std.specs.Int.{w32, to_le_bytes}
use Rattle.std.specs.List.{range_with_len}
use Rattle.ce_text.specs.Line.{lines_text}
use Rattle.rv_model.specs.Image.{ImageParts}
use Rattle.ce_model.specs.declared.limits.TheConstants.{GREATEST_COUNT}
use Rattle.ce_model.specs.Literals.{place}
use Rattle.ce_host.specs.declared.command.Command.{Command}
use Rattle.ce_host.specs.declared.command.Command.TheVariants.{Getcube, Freecube, Spawn, Send, Recv}
use Rattle.ce_script.specs.declared.load.TheConstants.{CUBE_DIMENSION, HAND_OVERS, MACHINE_DIMENSION, NUMBER_FACTOR, NUMBER_STEP, USERS}
use Rattle.ce_script.specs.declared.script.Script.{Script}
use Rattle.ce_script.specs.AssemblyImage.{assembly_image}
use Rattle.ce_script.specs.Bodies.{image_or_nothing}

-- ---- its image

-- the lines of the program: it receives a block, adds its node's number and one to the block's
-- first word, takes one from the second, and hands the block to the next node; at zero it hands it
-- to the host
abbrev pub ring_lines : List (List ℕ)
ring_lines =
    codes "loop: li a7, 7"
    ∷ codes "      ecall"
    ∷ codes "      mv s0, a0"
    ∷ codes "      li a7, 10"
    ∷ codes "      ecall"
    ∷ codes "      mv s1, a0"
    ∷ codes "      lw t0, 0(s0)"
    ∷ codes "      addi t1, s1, 1"
    ∷ codes "      add t0, t0, t1"
    ∷ codes "      sw t0, 0(s0)"
    ∷ codes "      lw t0, 4(s0)"
    ∷ codes "      addi t0, t0, -1"
    ∷ codes "      sw t0, 4(s0)"
    ∷ codes "      beq t0, zero, done"
    ∷ codes "      li a7, 12"
    ∷ codes "      ecall"
    ∷ codes "      addi t1, a0, -1"
    ∷ codes "      addi a1, s1, 1"
    ∷ codes "      and a1, a1, t1"
    ∷ codes "      j pass"
    ∷ codes "done: li a1, -1"
    ∷ codes "pass: li a2, 0"
    ∷ codes "      mv a0, s0"
    ∷ codes "      li a7, 4"
    ∷ codes "      ecall"
    ∷ codes "      j loop"
    ∷ []

-- the program's text
abbrev pub ring_text : List ℕ
ring_text = lines_text ring_lines

-- the program's image
unfoldable pub ring_image : ImageParts
ring_image = image_or_nothing (assembly_image ring_text)

-- ---- its messages

-- the number that follows another, modulo 2^32
abbrev pub next_number : ℕ → ℕ
next_number x = (NUMBER_FACTOR * x + NUMBER_STEP) % 2 ^ 32

-- the number that follows a seed and k more
abbrev pub load_number : ℕ → ℕ → ℕ
load_number seed zero = next_number seed
load_number seed (suc k) = next_number (load_number seed k)

-- the message of user k: its number, and how often it is handed over
abbrev pub load_message : ℕ → ℕ → List ℕ
load_message seed k = to_le_bytes w32 (load_number seed k) ++ to_le_bytes w32 HAND_OVERS

-- ---- its commands

-- the commands of a user, with this message
abbrev pub load_commands : List ℕ → List Command
load_commands message =
    Getcube CUBE_DIMENSION
    ∷ (map (λ node. Spawn 0 (place node 0)) (range_with_len 0 (2 ^ CUBE_DIMENSION))
    ++ Send (place 0 0) message
    ∷ Recv GREATEST_COUNT
    ∷ Freecube
    ∷ [])

-- ---- the script

-- the users
abbrev pub load_users : List (List ℕ)
load_users = codes "u0" ∷ codes "u1" ∷ codes "u2" ∷ codes "u3" ∷ []

-- their numbers
abbrev pub load_user_numbers : List ℕ
load_user_numbers = range_with_len 0 USERS

-- the commands of user k, with the user's number
abbrev pub numbered_commands : ℕ → ℕ → List (ℕ × Command)
numbered_commands seed k = map (λ command. (k, command)) (load_commands (load_message seed k))

-- the load of a seed
unfoldable pub load : ℕ → Script
load seed = record {
  dim = Some MACHINE_DIMENSION;
  images = record { name = codes "ring"; image = ring_image } ∷ [];
  users = load_users;
  commands = flat_map (numbered_commands seed) load_user_numbers;
}

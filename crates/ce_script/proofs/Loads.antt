-- The load of seed 0, computed.
use Rattle.std.proofs.Common.{◌≡◌, ℕ, List, [], ◌∷◌, ◌++◌, None, refl, codes}
use Rattle.ce_text.specs.Line.{lines_text}
use Rattle.ce_script.specs.Sayings.{dimension, images, commands, command_of_statement}
use Rattle.ce_script.specs.Faults.{first_script_fault}
use Rattle.ce_script.specs.Scripts.{IsScript}
use Rattle.ce_script.specs.Load.{ring_lines, ring_image, load, load_message}
use Rattle.ce_script.proofs.Computing.{grammar}
use Rattle.ce_script.proofs.Assembling.{assembler}

-- the first words of the messages of seed 0, and how often each is handed over
message_0 : load_message 0 0 ≡ 0x5F ∷ 0xF3 ∷ 0x6E ∷ 0x3C ∷ 0xA0 ∷ 0x0F ∷ 0 ∷ 0 ∷ []
message_0 = refl

message_1 : load_message 0 1 ≡ 0x32 ∷ 0x29 ∷ 0x50 ∷ 0x47 ∷ 0xA0 ∷ 0x0F ∷ 0 ∷ 0 ∷ []
message_1 = refl

message_2 : load_message 0 2 ≡ 0xE9 ∷ 0xF6 ∷ 0xCC ∷ 0xD1 ∷ 0xA0 ∷ 0x0F ∷ 0 ∷ 0 ∷ []
message_2 = refl

message_3 : load_message 0 3 ≡ 0x34 ∷ 0x53 ∷ 0xF9 ∷ 0xAA ∷ 0xA0 ∷ 0x0F ∷ 0 ∷ 0 ∷ []
message_3 = refl

-- the lines of a user of the load
abbrev user_lines : List ℕ → List ℕ → List (List ℕ)
user_lines name digits =
    (codes "user " ++ name)
    ∷ codes "getcube 2"
    ∷ codes "spawn ring 0 0"
    ∷ codes "spawn ring 1 0"
    ∷ codes "spawn ring 2 0"
    ∷ codes "spawn ring 3 0"
    ∷ (codes "send 0 0 " ++ digits)
    ∷ codes "recv 1000000"
    ∷ codes "freecube"
    ∷ []

-- the script of seed 0 as somebody would write it
load_0 : List ℕ
load_0 =
    lines_text ((codes "machine 4" ∷ codes "image ring asm" ∷ [])
    ++ (ring_lines
    ++ ((codes "end" ∷ [])
    ++ (user_lines (codes "u0") (codes "5ff36e3ca00f0000")
    ++ (user_lines (codes "u1") (codes "32295047a00f0000")
    ++ (user_lines (codes "u2") (codes "e9f6ccd1a00f0000") ++ user_lines (codes "u3") (codes "3453f9aaa00f0000")))))))

load_0_is_right : first_script_fault load_0 ≡ None
unfolding load_0 grammar assembler
load_0_is_right = refl

-- it is the load
load_0_is_load : IsScript load_0 (load 0)
unfolding load ring_image load_0 grammar assembler dimension images commands command_of_statement
load_0_is_load = record { no_fault = load_0_is_right; dim = refl; images = refl; users = refl; commands = refl }

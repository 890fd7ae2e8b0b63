-- The first fault of small texts, computed.
use Rattle.std.proofs.Common.{◌≡◌, ℕ, List, [], ◌∷◌, ◌++◌, Option, Some, None, map, refl, codes}
use Rattle.ce_text.specs.Line.{lines_text}
use Rattle.ce_script.specs.declared.script.ScriptFault.{ScriptFault}
use Rattle.ce_script.specs.declared.script.ScriptKind.TheVariants.{BadByte, UnknownWord, WordCount, NoMachine, SecondMachine, NoUser, BadNumber, BadName, BadHex, NameTaken, TooMany, UnknownImage, NoEnd, BadImage}
use Rattle.ce_script.specs.Bodies.{located_fault}
use Rattle.ce_script.specs.Faults.{first_script_fault}
use Rattle.ce_script.proofs.Computing.{grammar}

-- each text has this first fault, or none
abbrev AreFirstFaults : List (List ℕ × Option ScriptFault) → Type 0
AreFirstFaults rows = map (λ row. first_script_fault row.0) rows ≡ map (λ row. row.1) rows

-- ---- whole scripts

-- the script that notes 42
pub hello_is_right : first_script_fault (lines_text (codes "machine 0" ∷ codes "image hello hex" ∷ codes "02A00513 00E00893 00000073 00D00893 00000073" ∷ codes "end" ∷ codes "user alice" ∷ codes "getcube 0" ∷ codes "spawn hello 0 0" ∷ codes "run 10" ∷ [])) ≡ None
unfolding grammar
hello_is_right = refl

whole_scripts : AreFirstFaults (
    -- no statement at all, and a comment alone
    ([], None)
    -- a comment may have any bytes
    ∷ (lines_text ((codes "# " ++ 200 ∷ 1 ∷ []) ∷ []), None)
    -- a machine alone
    ∷ (lines_text (codes "machine 0" ∷ []), None)
    ∷ [])
unfolding grammar
whole_scripts = refl

-- ---- the script cut short

cut_short : AreFirstFaults (
    -- in its first word
    (codes "machin", Some (located_fault 1 UnknownWord))
    -- before `end`
    ∷ (lines_text (codes "machine 0" ∷ codes "image hello hex" ∷ codes "02A00513 00E00893 00000073 00D00893 00000073" ∷ []), Some (located_fault 2 NoEnd))
    -- before the count of `run`
    ∷ (lines_text (codes "machine 0" ∷ codes "image hello hex" ∷ codes "02A00513 00E00893 00000073 00D00893 00000073" ∷ codes "end" ∷ codes "user alice" ∷ codes "getcube 0" ∷ codes "spawn hello 0 0" ∷ []) ++ codes "run ", Some (located_fault 8 WordCount))
    -- within the count, and without a line feed
    ∷ (lines_text (codes "machine 0" ∷ codes "image hello hex" ∷ codes "02A00513 00E00893 00000073 00D00893 00000073" ∷ codes "end" ∷ codes "user alice" ∷ codes "getcube 0" ∷ codes "spawn hello 0 0" ∷ []) ++ codes "run 1", None)
    ∷ [])
unfolding grammar
cut_short = refl

-- ---- kinds

kinds : AreFirstFaults (
    -- `fly` is no command
    (lines_text (codes "machine 0" ∷ codes "user a" ∷ codes "fly" ∷ []), Some (located_fault 3 UnknownWord))
    -- nine users
    ∷ (lines_text (codes "machine 0" ∷ codes "user u0" ∷ codes "user u1" ∷ codes "user u2" ∷ codes "user u3" ∷ codes "user u4" ∷ codes "user u5" ∷ codes "user u6" ∷ codes "user u7" ∷ codes "user u8" ∷ []), Some (located_fault 10 TooMany))
    -- eight users, of whom one comes again
    ∷ (lines_text (codes "machine 0" ∷ codes "user u0" ∷ codes "user u1" ∷ codes "user u2" ∷ codes "user u3" ∷ codes "user u4" ∷ codes "user u5" ∷ codes "user u6" ∷ codes "user u7" ∷ codes "user u0" ∷ []), None)
    -- an image without `end`
    ∷ (lines_text (codes "machine 0" ∷ codes "image x hex" ∷ codes "00000073" ∷ []), Some (located_fault 2 NoEnd))
    -- another statement first
    ∷ (lines_text (codes "user a" ∷ codes "machine 0" ∷ []), Some (located_fault 1 NoMachine))
    -- two machines
    ∷ (lines_text (codes "machine 0" ∷ codes "machine 0" ∷ []), Some (located_fault 2 SecondMachine))
    -- a command without a user
    ∷ (lines_text (codes "machine 0" ∷ codes "peek" ∷ []), Some (located_fault 2 NoUser))
    -- two images of one name
    ∷ (lines_text (codes "machine 0" ∷ codes "image x hex" ∷ codes "00000073" ∷ codes "end" ∷ codes "image x hex" ∷ codes "00000073" ∷ codes "end" ∷ []), Some (located_fault 5 NameTaken))
    -- an odd number of digits
    ∷ (lines_text (codes "machine 0" ∷ codes "user a" ∷ codes "send 0 0 abc" ∷ []), Some (located_fault 3 BadHex))
    -- a dimension of 7
    ∷ (lines_text (codes "machine 7" ∷ []), Some (located_fault 1 BadNumber))
    -- a count over 1,000,000
    ∷ (lines_text (codes "machine 0" ∷ codes "user a" ∷ codes "recv 1000001" ∷ []), Some (located_fault 3 BadNumber))
    -- a bad byte in a word that is none
    ∷ (lines_text ((codes "fly" ++ 200 ∷ []) ∷ []), Some (located_fault 1 BadByte))
    ∷ [])
unfolding grammar
kinds = refl

-- ---- images without `end`, and bad bytes in bodies

bodies : AreFirstFaults (
    -- without `end` the bytes of later lines do not matter
    (lines_text (codes "machine 0" ∷ codes "image x hex" ∷ (200 ∷ []) ∷ []), Some (located_fault 2 NoEnd))
    -- a bad byte comes before a bad word of the body
    ∷ (lines_text (codes "machine 0" ∷ codes "image x hex" ∷ codes "zz" ∷ (200 ∷ []) ∷ codes "end" ∷ []), Some (located_fault 4 BadByte))
    -- and before the fault of the whole image
    ∷ (lines_text (codes "machine 0" ∷ codes "image x hex" ∷ (200 ∷ []) ∷ codes "end" ∷ []), Some (located_fault 3 BadByte))
    -- and before the assembler's faults
    ∷ (lines_text (codes "machine 0" ∷ codes "image x asm" ∷ codes "fly" ∷ (200 ∷ []) ∷ codes "end" ∷ []), Some (located_fault 4 BadByte))
    -- but not before the faults of the image's own line
    ∷ (lines_text (codes "machine 0" ∷ codes "image 1x hex" ∷ (200 ∷ []) ∷ codes "end" ∷ []), Some (located_fault 2 BadName))
    -- a bad word of a body, at its line
    ∷ (lines_text (codes "machine 0" ∷ codes "image x hex" ∷ codes "00000073" ∷ codes "0000007" ∷ codes "end" ∷ []), Some (located_fault 4 BadImage))
    -- an image without a word
    ∷ (lines_text (codes "machine 0" ∷ codes "image x hex" ∷ codes "end" ∷ []), Some (located_fault 2 BadImage))
    -- three bytes are no RKI1
    ∷ (lines_text (codes "machine 0" ∷ codes "image x rki" ∷ codes "524b49" ∷ codes "end" ∷ []), Some (located_fault 2 BadImage))
    -- an odd number of digits, at its line
    ∷ (lines_text (codes "machine 0" ∷ codes "image x rki" ∷ codes "524b4" ∷ codes "end" ∷ []), Some (located_fault 3 BadImage))
    ∷ [])
unfolding grammar
bodies = refl

-- ---- forms of images

forms : AreFirstFaults (
    -- a third word that is no form, with a fourth and without a machine
    (lines_text (codes "image 1x foo bar" ∷ []), Some (located_fault 1 UnknownWord))
    -- two words alone
    ∷ (lines_text (codes "image 1x" ∷ []), Some (located_fault 1 WordCount))
    ∷ [])
unfolding grammar
forms = refl

-- ---- operands

operands : AreFirstFaults (
    -- operands are judged from left to right: an unknown image
    (lines_text (codes "machine 0" ∷ codes "user a" ∷ codes "spawn nobody x 0" ∷ []), Some (located_fault 3 UnknownImage))
    -- a name that is none
    ∷ (lines_text (codes "machine 0" ∷ codes "user a" ∷ codes "spawn 1x x 0" ∷ []), Some (located_fault 3 BadName))
    -- a process id that is no number
    ∷ (lines_text (codes "machine 0" ∷ codes "user a" ∷ codes "send 0 x zz" ∷ []), Some (located_fault 3 BadNumber))
    -- a ninth user with a bad name
    ∷ (lines_text (codes "machine 0" ∷ codes "user u0" ∷ codes "user u1" ∷ codes "user u2" ∷ codes "user u3" ∷ codes "user u4" ∷ codes "user u5" ∷ codes "user u6" ∷ codes "user u7" ∷ codes "user 1x" ∷ []), Some (located_fault 10 BadName))
    ∷ [])
unfolding grammar
operands = refl

-- ---- `end`

ends : AreFirstFaults (
    -- `end` outside an image
    (lines_text (codes "machine 0" ∷ codes "end" ∷ []), Some (located_fault 2 UnknownWord))
    -- `end end` and `end:` are words of the body
    ∷ (lines_text (codes "machine 0" ∷ codes "image x hex" ∷ codes "end end" ∷ codes "end:" ∷ codes "end" ∷ []), Some (located_fault 3 BadImage))
    -- `end` with a comment ends a body, and any form may have comments
    ∷ (lines_text (codes "machine 0" ∷ codes "image x hex" ∷ codes "00000073# one" ∷ codes "# two" ∷ codes "end # text" ∷ []), None)
    ∷ [])
unfolding grammar
ends = refl

-- ---- words, numbers and names

words_and_names : AreFirstFaults (
    -- a comment ends a word at once
    (lines_text (codes "machine 0#1" ∷ []), None)
    -- a number may have leading zeros within its ten digits
    ∷ (lines_text (codes "machine 0000000000" ∷ []), None)
    -- but no eleventh digit
    ∷ (lines_text (codes "machine 00000000000" ∷ []), Some (located_fault 1 BadNumber))
    -- a node is any number of 32 bits, and a cube may be larger than the machine
    ∷ (lines_text (codes "machine 0" ∷ codes "user a" ∷ codes "getcube 6" ∷ codes "dump 4294967295 0" ∷ []), None)
    -- and no larger number
    ∷ (lines_text (codes "machine 0" ∷ codes "user a" ∷ codes "dump 4294967296 0" ∷ []), Some (located_fault 3 BadNumber))
    -- users and images have names of their own, and every word may be a name
    ∷ (lines_text (codes "machine 0" ∷ codes "image end hex" ∷ codes "00000073" ∷ codes "end" ∷ codes "user end" ∷ codes "user host" ∷ []), None)
    ∷ [])
unfolding grammar
words_and_names = refl

-- A small script, computed: what it says.
use Rattle.std.proofs.Common.{ℕ, List, [], ◌∷◌, Some, refl, codes}
use Rattle.ce_text.specs.Line.{lines_text}
use Rattle.rv_model.specs.Image.{image_parts}
use Rattle.ce_host.specs.declared.command.Command.TheVariants.{Getcube, Spawn, Run}
use Rattle.ce_script.specs.declared.script.Script.{Script}
use Rattle.ce_script.specs.Sayings.{dimension, images, commands, command_of_statement}
use Rattle.ce_script.specs.Scripts.{IsScript}
use Rattle.ce_script.proofs.Computing.{grammar}
use Rattle.ce_script.proofs.FirstFaults.{hello_is_right}

abbrev pub hello : List ℕ
hello = lines_text (codes "machine 0" ∷ codes "image hello hex" ∷ codes "02A00513 00E00893 00000073 00D00893 00000073" ∷ codes "end" ∷ codes "user alice" ∷ codes "getcube 0" ∷ codes "spawn hello 0 0" ∷ codes "run 10" ∷ [])

-- the bytes of its image
abbrev pub hello_bytes : List ℕ
hello_bytes =
    0x13 ∷ 0x05 ∷ 0xA0 ∷ 0x02 ∷ 0x93 ∷ 0x08 ∷ 0xE0 ∷ 0x00 ∷ 0x73 ∷ 0x00 ∷ 0x00 ∷ 0x00 ∷ 0x93 ∷ 0x08 ∷ 0xD0 ∷ 0x00 ∷ 0x73 ∷ 0x00 ∷ 0x00 ∷ 0x00 ∷ []

abbrev pub hello_said : Script
hello_said = record {
  dim = Some 0;
  images = record { name = codes "hello"; image = image_parts 0x1_0000 hello_bytes 0 } ∷ [];
  users = codes "alice" ∷ [];
  commands = (0, Getcube 0) ∷ (0, Spawn 0 (record { node = 0; pid = 0 })) ∷ (0, Run 10) ∷ [];
}

pub hello_is_script : IsScript hello hello_said
unfolding grammar dimension images commands command_of_statement
hello_is_script = record { no_fault = hello_is_right; dim = refl; images = refl; users = refl; commands = refl }

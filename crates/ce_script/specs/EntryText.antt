-- The text of an entry of a cube's trace.
use Rattle.std.specs.Prelude.{ℕ, List, [], ◌∷◌, ◌++◌, Option, Some, None, codes, decimal, map, ◌==◌, if◌then◌else◌}
use Rattle.std.specs.List.{join_with_byte}
use Rattle.ce_model.specs.declared.topology.TheConstants.{HOST}
use Rattle.ce_model.specs.declared.topology.Place.{Place}
use Rattle.ce_model.specs.declared.topology.BlockId.{BlockId}
use Rattle.ce_model.specs.declared.entry.Entry.{Entry}
use Rattle.ce_model.specs.declared.entry.What.{What}
use Rattle.ce_model.specs.declared.entry.What.TheVariants.{Arm, Look, HostTake, Send, Spawn, Kill, Note, Take}
use Rattle.ce_model.specs.declared.entry.LookResult.{LookResult}
use Rattle.ce_model.specs.declared.entry.LookResult.TheVariants as look_result
use Rattle.ce_model.specs.declared.entry.KillResult.{KillResult}
use Rattle.ce_model.specs.declared.entry.KillResult.TheVariants.{Killed, Unused, Already}
use Rattle.ce_model.specs.declared.entry.TakeResult.{TakeResult}
use Rattle.ce_model.specs.declared.entry.TakeResult.TheVariants as take_result
use Rattle.rv_asm.specs.Line.{comma}
use Rattle.ce_script.specs.declared.script.Script.{Script}
use Rattle.ce_script.specs.TextParts.{line, image_name, bytes_text, place_text, block_text}

-- who made the entry
abbrev pub actor_words : ℕ → List (List ℕ)
actor_words actor = if actor == HOST then codes "host" ∷ [] else codes "node" ∷ decimal actor ∷ []

-- a number, or `-` for none
abbrev pub number_text : Option ℕ → List ℕ
number_text None = codes "-"
number_text (Some n) = decimal n

-- the places that a message goes to, each with the block that carries it there
abbrev pub target_text : Place × BlockId → List ℕ
target_text target = place_text target.0 ++ codes "=" ++ block_text target.1

abbrev pub targets_text : List (Place × BlockId) → List ℕ
targets_text targets = join_with_byte comma (map target_text targets)

abbrev pub found_text : LookResult → List ℕ
found_text look_result.Quiet = codes "quiet"
found_text look_result.Spent = codes "spent"
found_text look_result.Busy = codes "busy"

abbrev pub kill_result_text : KillResult → List ℕ
kill_result_text Killed = codes "ok"
kill_result_text Unused = codes "unused"
kill_result_text Already = codes "already"

-- what a node is given
abbrev pub given_words : Script → TakeResult → List (List ℕ)
given_words script (take_result.Start pid image) =
    codes "start" ∷ decimal pid ∷ image_name script image ∷ []
given_words script (take_result.Mail pid number) = codes "mail" ∷ decimal pid ∷ decimal number ∷ []
given_words script (take_result.Kill pid) = codes "kill" ∷ decimal pid ∷ []
given_words script (take_result.Poll pid) = codes "poll" ∷ decimal pid ∷ []
given_words script take_result.Idle = codes "idle" ∷ []
given_words script take_result.Spent = codes "spent" ∷ []

-- what was done; the entries that stand in no trace have no text
abbrev pub what_words : Script → What → List (List ℕ)
what_words script (Arm count) = codes "arm" ∷ decimal count ∷ []
what_words script (Look found) = codes "look" ∷ found_text found ∷ []
what_words script (HostTake number) = codes "get" ∷ number_text number ∷ []
what_words script (Send pid first to bytes) =
    codes "send" ∷ decimal pid ∷ decimal first ∷ targets_text to ∷ bytes_text bytes ∷ []
what_words script (Spawn pid image to fresh) =
    codes "spawn" ∷ decimal pid ∷ image_name script image ∷ place_text to
    ∷ (if fresh then codes "ok" else codes "used") ∷ []
what_words script (Kill pid to found) =
    codes "kill" ∷ decimal pid ∷ place_text to ∷ kill_result_text found ∷ []
what_words script (Note pid word) = codes "note" ∷ decimal pid ∷ decimal word ∷ []
what_words script (Take asking dead poller given) =
    codes "take" ∷ decimal asking ∷ decimal dead ∷ number_text poller ∷ given_words script given
what_words script other = []

-- the line of an entry
abbrev pub entry_line : Script → Entry → List ℕ
entry_line script entry = line (actor_words entry.actor ++ what_words script entry.what)

-- The text of a command, and of its reply.
use Rattle.std.specs.Prelude.{ℕ, List, [], ◌∷◌, ◌++◌, codes, decimal, flat_map}
use Rattle.rv_model.specs.declared.stop.Stop.{Stop}
use Rattle.rv_model.specs.declared.stop.Stop.TheVariants.{Exited, Killed, Illegal, Fetch, Target, Misaligned, Unmapped, Gone, PastEnd, NotABlock, Break, NoCall, TurnSpent, WindowsSpent}
use Rattle.ce_model.specs.declared.process.Status.{Status}
use Rattle.ce_model.specs.declared.process.Status.TheVariants.{Unborn, Running, Asking, Polling, Stopped}
use Rattle.ce_model.specs.declared.topology.Place.{Place}
use Rattle.ce_daemon.specs.declared.grant.Grant.{Grant}
use Rattle.ce_daemon.specs.declared.grant.PeekResult.{PeekResult}
use Rattle.ce_host.specs.declared.command.Command.{Command}
use Rattle.ce_host.specs.declared.command.Command.TheVariants.{Getcube, Peek, Freecube, Spawn, Kill, Send, Run, Recv, Dump, Trace}
use Rattle.ce_host.specs.declared.answer.Answer.{Answer}
use Rattle.ce_host.specs.declared.answer.Answer.TheVariants as answers
use Rattle.ce_script.specs.declared.grammar.Verb.TheVariants as verb
use Rattle.ce_script.specs.declared.record.Record.{Record}
use Rattle.ce_script.specs.declared.script.Script.{Script}
use Rattle.ce_script.specs.Verbs.{verb_word}
use Rattle.ce_script.specs.TextParts.{joined_words, image_name, user_name, word_text, bytes_text, place_text, subcube_words}

-- ---- commands

-- a node and a process id, as a user writes them
abbrev pub place_words : Place → List (List ℕ)
place_words place = decimal place.node ∷ decimal place.pid ∷ []

abbrev pub command_words : Script → Command → List (List ℕ)
command_words script (Getcube dim) = verb_word verb.Getcube ∷ decimal dim ∷ []
command_words script Peek = verb_word verb.Peek ∷ []
command_words script Freecube = verb_word verb.Freecube ∷ []
command_words script (Spawn image to) =
    verb_word verb.Spawn ∷ image_name script image ∷ place_words to
command_words script (Kill to) = verb_word verb.Kill ∷ place_words to
command_words script (Send to bytes) =
    verb_word verb.Send ∷ (place_words to ++ bytes_text bytes ∷ [])
command_words script (Run count) = verb_word verb.Run ∷ decimal count ∷ []
command_words script (Recv count) = verb_word verb.Recv ∷ decimal count ∷ []
command_words script (Dump place) = verb_word verb.Dump ∷ place_words place
command_words script Trace = verb_word verb.Trace ∷ []

-- ---- replies

-- why a process stopped
abbrev pub stop_words : Stop → List (List ℕ)
stop_words (Exited code) = codes "exited" ∷ decimal code ∷ []
stop_words Killed = codes "killed" ∷ []
stop_words (Illegal pc word) = codes "illegal" ∷ word_text pc ∷ word_text word ∷ []
stop_words (Fetch pc) = codes "fetch" ∷ word_text pc ∷ []
stop_words (Target pc) = codes "target" ∷ word_text pc ∷ []
stop_words (Misaligned a) = codes "misaligned" ∷ word_text a ∷ []
stop_words (Unmapped a) = codes "unmapped" ∷ word_text a ∷ []
stop_words (Gone a) = codes "gone" ∷ word_text a ∷ []
stop_words (PastEnd a) = codes "past" ∷ codes "end" ∷ word_text a ∷ []
stop_words (NotABlock a) = codes "not" ∷ codes "a" ∷ codes "block" ∷ word_text a ∷ []
stop_words (Break pc) = codes "break" ∷ word_text pc ∷ []
stop_words (NoCall number) = codes "no" ∷ codes "call" ∷ decimal number ∷ []
stop_words TurnSpent = codes "turn" ∷ codes "spent" ∷ []
stop_words WindowsSpent = codes "windows" ∷ codes "spent" ∷ []

-- what a process does; none is seen running between two commands
abbrev pub status_words : Status → List (List ℕ)
status_words Unborn = codes "unborn" ∷ []
status_words Running = codes "running" ∷ []
status_words Asking = codes "asking" ∷ []
status_words Polling = codes "polling" ∷ []
status_words (Stopped cause) = codes "stopped" ∷ stop_words cause

-- a cube that is held, behind what stands before it
abbrev pub grant_text : Record → Grant → List ℕ
grant_text run_record grant =
    codes ", "
    ++ joined_words
    (user_name run_record grant.user ∷ codes "dim" ∷ decimal grant.dim ∷ subcube_words grant.sub)

abbrev pub peeked_text : Record → PeekResult → List ℕ
peeked_text run_record peek_result =
    joined_words (codes "free" ∷ decimal peek_result.free ∷ [])
    ++ flat_map (grant_text run_record) peek_result.grants

abbrev pub reply_text : Record → Answer → List ℕ
reply_text run_record answers.NoCube = codes "no cube"
reply_text run_record answers.Held = codes "held"
reply_text run_record answers.None = codes "none"
reply_text run_record (answers.Granted sub) = joined_words (codes "granted" ∷ subcube_words sub)
reply_text run_record (answers.Peeked peek_result) = peeked_text run_record peek_result
reply_text run_record answers.Freed = codes "freed"
reply_text run_record answers.Ok = codes "ok"
reply_text run_record answers.NoPlace = codes "no place"
reply_text run_record answers.Used = codes "used"
reply_text run_record answers.Unused = codes "unused"
reply_text run_record answers.Already = codes "already"
reply_text run_record answers.NoStore = codes "no store"
reply_text run_record answers.Quiet = codes "quiet"
reply_text run_record answers.Spent = codes "spent"
reply_text run_record (answers.Message from bytes) =
    joined_words (codes "message" ∷ place_text from ∷ bytes_text bytes ∷ [])
reply_text run_record (answers.State status) = joined_words (status_words status)
reply_text run_record (answers.Entries count) = joined_words (codes "entries" ∷ decimal count ∷ [])

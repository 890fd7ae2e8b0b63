-- How stop causes, replies and entries are spelled: a sample of each.
use Rattle.std.proofs.Common.{◌≡◌, [], ◌∷◌, ◌++◌, Some, None, false, codes, refl}
use Rattle.std.specs.Fmt.{digits}
use Rattle.ce_text.specs.Line.{lines_text}
use Rattle.rv_model.specs.Image.{ImageParts}
use Rattle.rv_model.specs.declared.stop.Stop.TheVariants.{Exited, Killed, Illegal, Fetch, Target, Misaligned, Unmapped, Gone, PastEnd, NotABlock, Break, NoCall, TurnSpent, WindowsSpent}
use Rattle.hex.specs.Hex.{encode_with}
use Rattle.ce_model.specs.declared.process.Status.TheVariants.{Unborn, Running, Asking, Polling, Stopped}
use Rattle.ce_model.specs.declared.topology.TheConstants.{HOST}
use Rattle.ce_model.specs.declared.entry.What.TheVariants as whats
use Rattle.ce_model.specs.declared.entry.LookResult.TheVariants as look_result
use Rattle.ce_model.specs.declared.entry.KillResult.TheVariants as kill_result
use Rattle.ce_model.specs.declared.entry.TakeResult.TheVariants as take_result
use Rattle.ce_model.specs.Limits.{host_home}
use Rattle.ce_host.specs.declared.command.Command.TheVariants.{Getcube, Peek, Freecube, Spawn, Kill, Send, Run, Recv, Dump, Trace}
use Rattle.ce_host.specs.declared.answer.Answer.TheVariants as answers
use Rattle.ce_script.specs.declared.record.Record.{Record}
use Rattle.ce_script.specs.declared.script.Script.{Script}
use Rattle.ce_script.specs.TextParts.{line}
use Rattle.ce_script.specs.CommandText.{command_words, reply_text}
use Rattle.ce_script.specs.EntryText.{entry_line}
use Rattle.ce_script.specs.Texts.{summary}
use Rattle.ce_script.proofs.Rows.{entry_of, place, block, subcube}

-- one image, and two users
abbrev a_script : ImageParts → Script
a_script image = record { dim = Some 2; images = record { name = codes "ring"; image = image } ∷ []; users = codes "u0" ∷ codes "u1" ∷ []; commands = [] }

abbrev a_record : Record
a_record = record {
  users = record { name = codes "u0"; done = (Recv 100, answers.Message (place 3 0) (0x6F ∷ 0x1A ∷ [])) ∷ (Freecube, answers.Freed) ∷ [] }
      ∷ record { name = codes "u1"; done = (Getcube 2, answers.Granted (subcube 3 0)) ∷ (Recv 100, answers.Spent) ∷ [] } ∷ [];
  history = [];
}

-- every command, with words as its user may have written them
commands_text : (image : ImageParts) →
    line (command_words (a_script image) (Getcube 6)) ++ line (command_words (a_script image) Peek)
    ++ line (command_words (a_script image) Freecube) ++ line (command_words (a_script image) (Spawn 0 (place 4_294_967_295 9)))
    ++ line (command_words (a_script image) (Kill (place 1 2))) ++ line (command_words (a_script image) (Send (place 1 2) []))
    ++ line (command_words (a_script image) (Send (place 1 2) (0xAB ∷ 0x0C ∷ []))) ++ line (command_words (a_script image) (Run 1_000_000))
    ++ line (command_words (a_script image) (Recv 0)) ++ line (command_words (a_script image) (Dump (place 0 7)))
    ++ line (command_words (a_script image) Trace)
    ≡ lines_text (codes "getcube 6" ∷ codes "peek" ∷ codes "freecube" ∷ codes "spawn ring 4294967295 9" ∷ codes "kill 1 2" ∷ codes "send 1 2 -"
    ∷ codes "send 1 2 ab0c" ∷ codes "run 1000000" ∷ codes "recv 0" ∷ codes "dump 0 7" ∷ codes "trace" ∷ [])
unfolding digits encode_with
commands_text image = refl

-- the replies that name no process
replies_text :
    line (reply_text a_record answers.NoCube ∷ []) ++ line (reply_text a_record answers.Held ∷ []) ++ line (reply_text a_record answers.None ∷ [])
    ++ line (reply_text a_record (answers.Granted (subcube 5 2)) ∷ []) ++ line (reply_text a_record answers.Freed ∷ []) ++ line (reply_text a_record answers.Ok ∷ [])
    ++ line (reply_text a_record answers.NoPlace ∷ []) ++ line (reply_text a_record answers.Used ∷ []) ++ line (reply_text a_record answers.Unused ∷ [])
    ++ line (reply_text a_record answers.Already ∷ []) ++ line (reply_text a_record answers.NoStore ∷ []) ++ line (reply_text a_record answers.Quiet ∷ [])
    ++ line (reply_text a_record answers.Spent ∷ []) ++ line (reply_text a_record (answers.Message (place 3 1) []) ∷ [])
    ++ line (reply_text a_record (answers.Entries 8) ∷ []) ++ line (reply_text a_record (answers.Peeked (record { free = 64; grants = [] })) ∷ [])
    ≡ lines_text (codes "no cube" ∷ codes "held" ∷ codes "none" ∷ codes "granted mask 5 base 2" ∷ codes "freed" ∷ codes "ok" ∷ codes "no place"
    ∷ codes "used" ∷ codes "unused" ∷ codes "already" ∷ codes "no store" ∷ codes "quiet" ∷ codes "spent" ∷ codes "message 3.1 -"
    ∷ codes "entries 8" ∷ codes "free 64" ∷ [])
unfolding digits
replies_text = refl

-- what a process does, and why it stopped
states_text :
    line (reply_text a_record (answers.State Unborn) ∷ []) ++ line (reply_text a_record (answers.State Running) ∷ [])
    ++ line (reply_text a_record (answers.State Asking) ∷ []) ++ line (reply_text a_record (answers.State Polling) ∷ [])
    ++ line (reply_text a_record (answers.State (Stopped (Exited 4_294_967_295))) ∷ []) ++ line (reply_text a_record (answers.State (Stopped Killed)) ∷ [])
    ++ line (reply_text a_record (answers.State (Stopped (Illegal 0x1_0004 0xFFFF_FFFF))) ∷ [])
    ++ line (reply_text a_record (answers.State (Stopped (Fetch 0x2))) ∷ []) ++ line (reply_text a_record (answers.State (Stopped (Target 0x1_0008))) ∷ [])
    ++ line (reply_text a_record (answers.State (Stopped (Misaligned 0x1_0001))) ∷ []) ++ line (reply_text a_record (answers.State (Stopped (Unmapped 0))) ∷ [])
    ++ line (reply_text a_record (answers.State (Stopped (Gone 0x8000_0000))) ∷ [])
    ++ line (reply_text a_record (answers.State (Stopped (PastEnd 0x8001_0000))) ∷ [])
    ++ line (reply_text a_record (answers.State (Stopped (NotABlock 0xABCD_EF12))) ∷ []) ++ line (reply_text a_record (answers.State (Stopped (Break 0x1_0000))) ∷ [])
    ++ line (reply_text a_record (answers.State (Stopped (NoCall 15))) ∷ []) ++ line (reply_text a_record (answers.State (Stopped TurnSpent)) ∷ [])
    ++ line (reply_text a_record (answers.State (Stopped WindowsSpent)) ∷ [])
    ≡ lines_text (codes "unborn" ∷ codes "running" ∷ codes "asking" ∷ codes "polling" ∷ codes "stopped exited 4294967295" ∷ codes "stopped killed"
    ∷ codes "stopped illegal 0x00010004 0xffffffff" ∷ codes "stopped fetch 0x00000002" ∷ codes "stopped target 0x00010008"
    ∷ codes "stopped misaligned 0x00010001" ∷ codes "stopped unmapped 0x00000000" ∷ codes "stopped gone 0x80000000"
    ∷ codes "stopped past end 0x80010000" ∷ codes "stopped not a block 0xabcdef12" ∷ codes "stopped break 0x00010000"
    ∷ codes "stopped no call 15" ∷ codes "stopped turn spent" ∷ codes "stopped windows spent" ∷ [])
unfolding digits encode_with
states_text = refl

-- every entry of a trace
entries_text : (image : ImageParts) →
    entry_line (a_script image) (entry_of 0 HOST (whats.Arm 10)) ++ entry_line (a_script image) (entry_of 0 HOST (whats.Look look_result.Quiet))
    ++ entry_line (a_script image) (entry_of 0 HOST (whats.Look look_result.Spent)) ++ entry_line (a_script image) (entry_of 0 HOST (whats.Look look_result.Busy))
    ++ entry_line (a_script image) (entry_of 0 HOST (whats.HostTake None)) ++ entry_line (a_script image) (entry_of 0 HOST (whats.HostTake (Some 12)))
    ++ entry_line (a_script image) (entry_of 0 3 (whats.Send 1 7 ((place 0 1, block 0 0) ∷ (place HOST 0, block 256 31) ∷ []) []))
    ++ entry_line (a_script image) (entry_of 0 0 (whats.Spawn 2 0 (place 1 5) false))
    ++ entry_line (a_script image) (entry_of 0 HOST (whats.Kill 0 (place 0 0) kill_result.Killed))
    ++ entry_line (a_script image) (entry_of 0 2 (whats.Kill 7 (place 3 0) kill_result.Unused))
    ++ entry_line (a_script image) (entry_of 0 2 (whats.Kill 7 (place 3 0) kill_result.Already)) ++ entry_line (a_script image) (entry_of 0 1 (whats.Note 4 42))
    ++ entry_line (a_script image) (entry_of 0 1 (whats.Take 3 4 (Some 1) (take_result.Start 2 0))) ++ entry_line (a_script image) (entry_of 0 1 (whats.Take 0 0 None (take_result.Mail 6 9)))
    ++ entry_line (a_script image) (entry_of 0 1 (whats.Take 0 0 None (take_result.Kill 5))) ++ entry_line (a_script image) (entry_of 0 1 (whats.Take 1 0 (Some 0) (take_result.Poll 0)))
    ++ entry_line (a_script image) (entry_of 0 1 (whats.Take 0 255 None take_result.Idle)) ++ entry_line (a_script image) (entry_of 0 1 (whats.Take 0 0 None take_result.Spent))
    ≡ lines_text (codes "host arm 10" ∷ codes "host look quiet" ∷ codes "host look spent" ∷ codes "host look busy" ∷ codes "host get -"
    ∷ codes "host get 12" ∷ codes "node 3 send 1 7 0.1=0.0,host.0=host.31 -" ∷ codes "node 0 spawn 2 ring 1.5 used"
    ∷ codes "host kill 0 0.0 ok" ∷ codes "node 2 kill 7 3.0 unused" ∷ codes "node 2 kill 7 3.0 already" ∷ codes "node 1 note 4 42"
    ∷ codes "node 1 take 3 4 1 start 2 ring" ∷ codes "node 1 take 0 0 - mail 6 9" ∷ codes "node 1 take 0 0 - kill 5"
    ∷ codes "node 1 take 1 0 0 poll 0" ∷ codes "node 1 take 0 255 - idle" ∷ codes "node 1 take 0 0 - spent" ∷ [])
unfolding digits host_home
entries_text image = refl

-- a summary has each user's receipt
summary_text : summary 4_294_967_295 a_record ≡ lines_text (codes "load 4294967295" ∷ codes "u0 message 3.0 6f1a" ∷ codes "u1 spent" ∷ [])
unfolding summary digits encode_with
summary_text = refl

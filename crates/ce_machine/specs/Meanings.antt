-- The machine as a book sees it that keeps it: what never changes of it, its history, and what each
-- of its entries means.
use Rattle.std.specs.Prelude.{◌≡◌, ℕ, Bool, true, false, List, Some}
use Rattle.ce_model.specs.declared.entry.Entry.{Entry}
use Rattle.ce_model.specs.declared.entry.What.{What}
use Rattle.ce_model.specs.declared.entry.What.TheVariants.{Getcube, Drain, Freecube}
use Rattle.ce_model.specs.Machine.{MachineParts, is_alone, after, what_of_request}
use Rattle.ce_lock.specs.declared.who.Who.{Who}
use Rattle.ce_machine.specs.declared.call.Call.{Call}
use Rattle.ce_machine.specs.declared.call.Reply.{Reply}
use Rattle.ce_machine.specs.Requests.{request_of}
use Rattle.ce_machine.specs.Replies.{IsReplyTo}

-- a machine: its parts, and all that was asked of it so far
pub record MachineFacts : Type 0 where
  pub parts : MachineParts
  pub history : List Entry

-- who made an entry
abbrev pub whose : Entry → Who
whose entry = record { family = entry.user; actor = entry.actor }

-- a call that no other actor of its user's cube may make an entry beside
abbrev pub is_alone_call : {N : Type 0} → Call N → Bool
is_alone_call call = is_alone (request_of call)

-- and the entry of such a call
abbrev pub is_alone_what : What → Bool
is_alone_what (Getcube dim sub) = true
is_alone_what Drain = true
is_alone_what Freecube = true
is_alone_what other = false

abbrev pub is_alone_entry : Entry → Bool
is_alone_entry entry = is_alone_what entry.what

-- behind this history the entry is the one of the call of this user or of its node, and the reply
-- is the one that the call gets
pub record IsAnsweredBy {N : Type 0} (home : N → ℕ) (clean : N → Type 0) (parts : MachineParts)
    (earlier_entries : List Entry) (entry : Entry) (who : Who) (call : Call N)
    (reply : Reply N) : Type 0 where
  pub whose_is : whose entry ≡ who
  pub answer : what_of_request parts (after earlier_entries) who.family who.actor (request_of call)
      ≡ Some entry.what
  pub reply_is : IsReplyTo home clean parts
      (after earlier_entries) who.family who.actor entry.what reply

-- Worked rows of the machine: calls one after another, each with the entry that it makes.
use Rattle.std.specs.Prelude.{◌≡◌, ℕ, List, [], map, take, slice_get, Some, IsSomeAnd}
use Rattle.ce_model.specs.declared.entry.Entry.{Entry}
use Rattle.ce_model.specs.Lists.{EachAfter}
use Rattle.ce_model.specs.Machine.{MachineParts, Request, IsFitting, after, what_of_request}
use Rattle.ce_lock.specs.declared.who.Who.{Who}
use Rattle.ce_machine.specs.declared.call.Call.{Call}
use Rattle.ce_machine.specs.declared.call.Call.TheVariants.{Freecube}
use Rattle.ce_machine.specs.declared.call.Reply.{Reply}
use Rattle.ce_machine.specs.Requests.{request_of}
use Rattle.ce_machine.specs.Replies.{IsReplyTo}
use Rattle.ce_machine.specs.Meanings.{MachineFacts, whose}

-- what is asked, and the entry that it makes
pub record RowEntry : Type 0 where
  pub request : Request
  pub entry : Entry

-- a row: the machine, and what is asked of it
pub record Row : Type 0 where
  pub parts : MachineParts
  pub entries : List RowEntry

abbrev pub history_of : List RowEntry → List Entry
history_of entries = map (λ row_entry. row_entry.entry) entries

-- the entry is one that the machine allows behind these
pub record IsRowEntry (parts : MachineParts) (earlier_entries : List RowEntry)
    (row_entry : RowEntry) : Type 0 where
  pub fits : IsFitting parts
      (history_of earlier_entries) row_entry.entry.user row_entry.entry.actor row_entry.request
  pub answer : what_of_request parts
      (after (history_of earlier_entries)) row_entry.entry.user row_entry.entry.actor
      row_entry.request ≡ Some row_entry.entry.what

-- the machine allows the row
abbrev pub AreRowEntries : Row → Type 0
AreRowEntries row = EachAfter (IsRowEntry row.parts) [] row.entries

-- the machine has made the first so many entries of the row
pub record HasMadeRowEntries (row : Row) (count : ℕ) (machine : MachineFacts) : Type 0 where
  pub parts_are : machine.parts ≡ row.parts
  pub history_is : machine.history ≡ history_of (take count row.entries)

-- the call is the one of the row's entry behind the first so many
abbrev pub IsNextRowCall : {N : Type 0} → Row → ℕ → Who → Call N → Type 0
IsNextRowCall row count who call = IsSomeAnd (slice_get row.entries count)
    (λ row_entry. (who ≡ whose row_entry.entry) × (request_of call ≡ row_entry.request))

-- the reply is the one of that entry
abbrev pub IsNextRowReply : {N : Type 0} → (N → ℕ) → (N → Type 0) → Row → ℕ → Reply N → Type 0
IsNextRowReply home clean row count reply =
    IsSomeAnd (slice_get row.entries count)
    (λ row_entry. IsReplyTo home clean row.parts (after (history_of (take count row.entries)))
    row_entry.entry.user row_entry.entry.actor row_entry.entry.what reply)

-- a call with which nobody brings boxes
abbrev pub IsCallWithoutBoxes : {N : Type 0} → Call N → Type 0
IsCallWithoutBoxes (Freecube boxes) = ⊥
IsCallWithoutBoxes other = Unit {0}

-- What the program promises of each run, in three clauses: how it ended, what it did, and that it
-- did it.
use Rattle.std.specs.Prelude.{◌≡◌, ◌↔◌, ◌⊎◌, ◌<◌, ◌≤◌, ◌+◌, ℕ, true, if◌then◌else◌, List, Option, Some, None, Result, IsSome, IfSome, IfOk, IsErrOf, length, take}
use Rattle.std.specs.Io.KnownBytes.{append_known, IsAtEnd}
use Rattle.std.specs.IoError.{error_kind}
use Rattle.std.specs.declared.io.Error.{Error}
use Rattle.std.specs.declared.io.ErrorKind.TheVariants.{OutOfMemory}
use Rattle.ce_io.specs.Faults.{HasRisen}
use Rattle.ce_io.specs.Whole.{Reading, Writing, HasGiven}
use Rattle.ce_io.specs.declared.whole.TheConstants.{PIECE}
use Rattle.ce_words.specs.Line.{line_of_words}
use Rattle.ce_words.specs.declared.line.CommandLine.{CommandLine}
use Rattle.ce_script.specs.Faults.{first_script_fault}
use Rattle.ce_script.specs.Scripts.{IsScript}
use Rattle.ce_script.specs.Load.{load}
use Rattle.ce_script.specs.Rounds.{RoundKind, serial, threaded}
use Rattle.ce_script.specs.Legal.{IsLegal}
use Rattle.ce_script.specs.Serial.{IsSerial}
use Rattle.ce_script.specs.Texts.{report, summary}
use Rattle.ce_script.specs.declared.limited_script.LimitedScript.{LimitedScript}
use Rattle.ce_script.specs.declared.record.Record.{Record}
use Rattle.ce_script.specs.declared.script.Script.{Script}
use Rattle.ce_script.specs.declared.script.ScriptFault.{ScriptFault}
use Rattle.ce_run.specs.declared.run_end.RunEnd.{RunEnd}
use Rattle.ce_run.specs.declared.run_end.RunFault.{RunFault}
use Rattle.ce_run.specs.declared.run_end.RunFault.TheVariants as run_fault
use Rattle.ce_model.specs.declared.limits.TheConstants.{SCRIPT_LIMIT}
use Rattle.ce_run.specs.Causes.{status_of_end, IsServed, IsRunNoMemory, HasRunToEnd, HasReported}
use Rattle.ce_run.specs.Fault.{line_of}

-- What the end of a run says of its fault, and of the sink.
pub record HasWritten {K : Type 0} (sink : Writing K) (end : RunEnd) : Type 0 where
  -- the status is the fault's, and 0 without one
  pub status : end.status ≡ status_of_end end.fault
  -- the record is there exactly with the statuses 0 and 5
  pub kept : IsSome end.kept ↔ HasRunToEnd end.fault
  -- Write comes exactly where a write failed: the count of these rose, or stands at the end of its
  -- type; with each other end it stands
  pub write : end.fault ≡ Some run_fault.Write
      → HasRisen (sink.faults sink.old) (sink.faults sink.new)
  pub no_write_failed : (end.fault ≡ Some run_fault.Write)
      ⊎ (sink.faults sink.new ≡ sink.faults sink.old)
  -- with the statuses 1 to 4 the sink stays as it was
  pub unwritten : HasRunToEnd end.fault ⊎ (sink.new ≡ sink.old)

-- How a run ended: the status of each fault, the cause of each fault but Memory, which is free,
-- what was read, and what was written. It holds of a source and a sink that tell nothing, too.
pub record HasEnded {S K : Type 0} (words : List (List ℕ)) (source : Reading S) (sink : Writing K)
    (end : RunEnd) : Type 0 where
  pub written : HasWritten sink end
  -- Usage comes exactly where the words are refused or ask for threads; and then nothing is read
  pub usage : end.fault ≡ Some run_fault.Usage → ¬ IsServed words
  pub served : IsServed words ⊎ ((end.fault ≡ Some run_fault.Usage) ⊎ IsRunNoMemory end.fault)
  pub unread : end.fault ≡ Some run_fault.Usage → source.new ≡ source.old
  -- what the source gave in the call, which is nothing where a load is asked for
  pub bytes : List ℕ
  pub gave : HasGiven source bytes
  pub load_unread : IsServed words → IsSome (line_of_words words).load → source.new ≡ source.old
  -- and then nothing but the sink and memory can fail
  pub load_runs : IsServed words → IsSome (line_of_words words).load → HasRunToEnd end.fault
      ⊎ IsRunNoMemory end.fault
  -- TooLong comes exactly where it gave more than a script may have, and then by a piece more at
  -- most
  pub too_long : (end.fault ≡ Some run_fault.TooLong) ↔ (SCRIPT_LIMIT < length bytes)
  pub bounded : length bytes ≤ SCRIPT_LIMIT + PIECE
  -- where it was read to its end, Script comes exactly where its bytes are no script, with their
  -- first fault
  pub faulty : (fault : ScriptFault) → end.fault ≡ Some (run_fault.Script fault)
      → IsAtEnd (source.left source.new) × (first_script_fault bytes ≡ Some fault)
  pub faultless : HasRunToEnd end.fault → (line_of_words words).load ≡ None
      → IsAtEnd (source.left source.new) × (first_script_fault bytes ≡ None)
  -- Read comes exactly where a read failed, as Write does where a write failed
  pub read : end.fault ≡ Some run_fault.Read
      → HasRisen (source.faults source.old) (source.faults source.new)
  pub no_read_failed : (end.fault ≡ Some run_fault.Read)
      ⊎ (source.faults source.new ≡ source.faults source.old)

-- the script of a run: the one that the source was read as, to its end; or the load of a seed, and
-- then the source stays as it was
abbrev pub HasScript : {S : Type 0} → Option ℕ → Reading S → Script → Type 0
HasScript None source script =
    (text : List ℕ) × IsScript text script × HasGiven source text × IsAtEnd (source.left source.new)
HasScript (Some seed) source script = (script ≡ load seed) × (source.new ≡ source.old)

-- what a run writes: the report, or the summary of the load
abbrev pub run_text : Option ℕ → Script → Record → List ℕ
run_text None script run_record = report script run_record
run_text (Some seed) script run_record = summary seed run_record

-- how the nodes take their turns in the rounds of a run
abbrev pub round_kind : CommandLine → RoundKind
round_kind line = if line.is_serial then serial else threaded

-- What a run did that left this record: there is a script of which all this holds.
pub record HasRun {S K : Type 0} (line : CommandLine) (source : Reading S) (sink : Writing K)
    (fault : Option RunFault) (run_record : Record) : Type 0 where
  pub script : Script
  pub has_script : HasScript line.load source script
  -- The record is one that the model allows: the script's users and commands, and each cube's trace
  -- and replies as the cube gives them alone, each block with one owner, and messages in order.
  pub legal : IsLegal (round_kind line) script run_record
  -- on one thread the commands were carried out one after another, in the script's order
  pub serial : line.is_serial ≡ true → IsSerial script run_record
  -- what was appended is the run's text, or with the fault Write a front part of it
  pub reported : HasReported fault (run_text line.load script run_record) (sink.written sink.old)
      (sink.written sink.new)

-- there is something to run: a load, or a source that tells its bytes, and these are a script that
-- isn't too long
abbrev pub HasWork : {S : Type 0} → Option ℕ → Reading S → Type 0
HasWork (Some seed) source = Unit {0}
HasWork None source =
    (text : List ℕ) × (source.left source.old ≡ Some text) × (length text ≤ SCRIPT_LIMIT)
    × (first_script_fault text ≡ None)

-- What is accepted is run and reported to its end, unless the source, the sink or memory fails.
pub record IsComplete {S K : Type 0} (words : List (List ℕ)) (source : Reading S)
    (sink : Writing K) (fault : Option RunFault) : Type 0 where
  pub answered : IsServed words → HasWork (line_of_words words).load source
      → ¬ HasRisen (source.faults source.old) (source.faults source.new)
      → ¬ HasRisen (sink.faults sink.old) (sink.faults sink.new) → (fault ≡ None)
      ⊎ IsRunNoMemory fault

-- how the reading of a script went
pub record HasReadScript {S : Type 0} (source : Reading S)
    (result : Result LimitedScript RunFault) : Type 0 where
  pub bytes : List ℕ
  pub gave : HasGiven source bytes
  pub too_long : IsErrOf result run_fault.TooLong ↔ (SCRIPT_LIMIT < length bytes)
  pub bounded : length bytes ≤ SCRIPT_LIMIT + PIECE
  pub is_script : IfOk result
      (λ limited_script. IsAtEnd (source.left source.new) × IsScript bytes limited_script.script)
  pub faulty : (fault : ScriptFault) → IsErrOf result (run_fault.Script fault)
      → IsAtEnd (source.left source.new) × (first_script_fault bytes ≡ Some fault)

-- how a run of this script ended that was written, or began to be written: with this record, whose
-- text was appended; or memory was wanting before anything was written
pub record HasFinished {K : Type 0} (script : Script) (seed : Option ℕ) (sink : Writing K)
    (end : RunEnd) : Type 0 where
  pub written : HasWritten sink end
  pub legal : IfSome end.kept (IsLegal serial script)
  pub serial : IfSome end.kept (IsSerial script)
  pub reported : IfSome end.kept
      (λ run_record. HasReported end.fault (run_text seed script run_record)
      (sink.written sink.old) (sink.written sink.new))
  pub fault : HasRunToEnd end.fault ⊎ IsRunNoMemory end.fault

-- the three clauses of a run together
pub record IsPromised {S K : Type 0} (words : List (List ℕ)) (source : Reading S)
    (sink : Writing K) (end : RunEnd) : Type 0 where
  pub ended : HasEnded words source sink end
  pub headline : IfSome end.kept (HasRun (line_of_words words) source sink end.fault)
  pub complete : IsComplete words source sink end.fault

-- How the words of a command line that can't be read end it: for want of memory as Memory, and else
-- as Usage, and nothing is read or written.
pub record HasRefusedWords {S K : Type 0} (error : Error) (source : Reading S) (sink : Writing K)
    (end : RunEnd) : Type 0 where
  pub status : end.status ≡ status_of_end end.fault
  pub memory : error_kind error ≡ OutOfMemory → IsRunNoMemory end.fault
  pub usage : (end.fault ≡ Some run_fault.Usage) ⊎ (error_kind error ≡ OutOfMemory)
  pub unread : source.new ≡ source.old
  pub unwritten : sink.new ≡ sink.old

-- what is told of an end: the line of its fault, or a front part of it where a write of it failed;
-- and nothing without a fault
abbrev pub IsFaultTold : {E : Type 0} → Option RunFault → Writing E → Type 0
IsFaultTold None errors = errors.new ≡ errors.old
IsFaultTold (Some fault) errors =
    (errors.written errors.new ≡ append_known (errors.written errors.old) (line_of fault))
    ⊎ ((n : ℕ)
    × (errors.written errors.new
    ≡ append_known (errors.written errors.old) (take n (line_of fault)))
    × HasRisen (errors.faults errors.old) (errors.faults errors.new))

-- How a run ends: at its words, at its script, or with a record.
use Rattle.std.proofs.Common.{◌≡◌, ◌⊎◌, ℕ, true, if◌then◌else◌, List, [], Option, Some, None, refl, ap, sym, subst, arith, inl, inr}
use Rattle.std.specs.Prelude.{IfSome}
use Rattle.std.specs.Io.KnownBytes.{prepend_known}
use Rattle.ce_io.specs.Whole.{HasGiven, Reading, Writing, reading, writing}
use Rattle.ce_words.specs.declared.line.CommandLine.{CommandLine}
use Rattle.ce_words.specs.Line.{line_of_words}
use Rattle.ce_script.specs.Rounds.{serial, threaded}
use Rattle.ce_script.specs.Serial.{IsSerial}
use Rattle.ce_script.specs.Legal.{IsLegal}
use Rattle.ce_script.specs.Load.{load}
use Rattle.ce_script.specs.declared.script.Script.{Script}
use Rattle.ce_run.specs.declared.run_end.RunEnd.{RunEnd}
use Rattle.ce_run.specs.declared.run_end.RunFault.{RunFault}
use Rattle.ce_run.specs.declared.run_end.RunFault.TheVariants as run_fault
use Rattle.ce_run.specs.Fault.{status_of}
use Rattle.ce_run.specs.Causes.{IsServed, IsRunNoMemory, HasRunToEnd, HasReported}
use Rattle.ce_run.specs.Promise.{HasEnded, HasFinished, HasRun, HasScript, run_text}

nothing_before : (known : Option (List ℕ)) → known ≡ prepend_known [] known
nothing_before None = refl
nothing_before (Some bytes) = refl

-- a source that isn't read gives nothing
pub nothing_given : {S : Type 0} (left : S → Option (List ℕ)) (given faults : S → ℕ) (s : S) → HasGiven (reading left given faults s s) []
nothing_given left given faults s = record { left = nothing_before (left s); given = omega arith }

-- the end with this fault, and without a record
abbrev pub refusal_end : RunFault → RunEnd
refusal_end fault = record { status = status_of fault; kept = None; fault = Some fault }

-- a run that ended at its words went no further, and so with no fault of what comes behind them
no_run : (fault : RunFault) → (fault ≡ run_fault.Usage) ⊎ IsRunNoMemory (Some fault) → HasRunToEnd (Some fault) → ⊥
no_run fault (inl usage) ran = subst (λ fault. HasRunToEnd (Some fault)) usage ran
no_run (run_fault.Memory want) (inr memory) ran = ran
no_run other (inr memory) ran = memory

no_other : (fault other : RunFault) → (fault ≡ run_fault.Usage) ⊎ IsRunNoMemory (Some fault) → (other ≡ run_fault.Usage → ⊥) → (IsRunNoMemory (Some other) → ⊥) → Some fault ≡ Some other → ⊥
no_other fault other (inl usage) not_usage not_memory e = not_usage (cc)
no_other fault other (inr memory) not_usage not_memory e = not_memory (subst IsRunNoMemory e memory)

module _ {S K : Type 0} (left : S → Option (List ℕ)) (given faults : S → ℕ) (s : S) (written : K → Option (List ℕ)) (failed : K → ℕ) (k : K)
    (words : List (List ℕ)) where
  -- nothing was read or written, and this is the fault
  abbrev HasEndedWith : RunFault → Type 0
  HasEndedWith fault = HasEnded words (reading left given faults s s) (writing written failed k k) (refusal_end fault)

  -- words that aren't served, or for which there is no memory
  pub ends_at_words : (fault : RunFault) → (fault ≡ run_fault.Usage) ⊎ IsRunNoMemory (Some fault) → (fault ≡ run_fault.Usage → ¬ IsServed words) → HasEndedWith fault
  ends_at_words fault why refused = record {
    written = record {
      status = refl;
      kept = (λ none. absurd (cc), λ ran. absurd (no_run fault why ran));
      write = λ e. absurd (no_other fault run_fault.Write why (λ e. cc) (λ m. m) e);
      no_write_failed = inr refl;
      unwritten = inr refl;
    };
    usage = λ e. refused (cc);
    served = elim why [ inl usage ↦ inr (inl (ap Some usage)) | inr memory ↦ inr (inr memory) ];
    unread = λ _. refl;
    bytes = [];
    gave = nothing_given left given faults s;
    load_unread = λ _ _. refl;
    load_runs = λ served _. elim why [ inl usage ↦ absurd (refused usage served) | inr memory ↦ inr memory ];
    too_long = (λ e. absurd (no_other fault run_fault.TooLong why (λ e. cc) (λ m. m) e), λ over. absurd (omega arith));
    bounded = omega arith;
    faulty = λ other e. absurd (no_other fault (run_fault.Script other) why (λ e. cc) (λ m. m) e);
    faultless = λ ran _. absurd (no_run fault why ran);
    read = λ e. absurd (no_other fault run_fault.Read why (λ e. cc) (λ m. m) e);
    no_read_failed = inr refl;
  }

-- three facts of what is there together give a fourth
both : {A : Type 0} (some : Option A) (P Q R Z : A → Type 0) → ((a : A) → P a → Q a → R a → Z a) → IfSome some P → IfSome some Q → IfSome some R → IfSome some Z
both None P Q R Z f p q r = tt
both (Some a) P Q R Z f p q r = f a p q r

-- a run that left a record did what is promised of it
pub runs_as_promised : {S K : Type 0} (line : CommandLine) (source : Reading S) (sink : Writing K) (script : Script) (end : RunEnd)
    → line.is_serial ≡ true → HasScript line.load source script → HasFinished script line.load sink end → IfSome end.kept (HasRun line source sink end.fault)
runs_as_promised line source sink script end one has finished =
    both end.kept (IsLegal serial script) (IsSerial script) (λ kept. HasReported end.fault (run_text line.load script kept) (sink.written sink.old) (sink.written sink.new))
    (HasRun line source sink end.fault)
    (λ kept legal in_order reported. record {
      script = script;
      has_script = has;
      legal = subst (λ kind. IsLegal kind script kept) (sym (ap (λ b. if b then serial else threaded) one)) legal;
      serial = λ _. in_order;
      reported = reported;
    }) finished.legal finished.serial finished.reported

-- a run that finished has no other fault than these
other_fault : (end : Option RunFault) (fault : RunFault) → (HasRunToEnd (Some fault) → ⊥) → (IsRunNoMemory (Some fault) → ⊥)
    → HasRunToEnd end ⊎ IsRunNoMemory end → end ≡ Some fault → ⊥
other_fault end fault not_ran not_memory (inl ran) e = not_ran (subst HasRunToEnd e ran)
other_fault end fault not_ran not_memory (inr memory) e = not_memory (subst IsRunNoMemory e memory)

some_differs : (load : Option ℕ) (seed : ℕ) → load ≡ Some seed → load ≡ None → ⊥
some_differs load seed some none = absurd (cc)

-- the run of a load, for which nothing is read
pub ends_of_load : {S K : Type 0} (left : S → Option (List ℕ)) (given faults : S → ℕ) (s : S) (sink : Writing K)
    (words : List (List ℕ)) (script : Script) (seed : ℕ) (end : RunEnd) → IsServed words → (line_of_words words).load ≡ Some seed
    → HasFinished script (Some seed) sink end → HasEnded words (reading left given faults s s) sink end
ends_of_load left given faults s sink words script seed end served asked finished = record {
  written = finished.written;
  usage = λ e. absurd (other_fault end.fault run_fault.Usage (λ f. f) (λ f. f) finished.fault e);
  served = inl served;
  unread = λ _. refl;
  bytes = [];
  gave = nothing_given left given faults s;
  load_unread = λ _ _. refl;
  load_runs = λ _ _. finished.fault;
  too_long = (λ e. absurd (other_fault end.fault run_fault.TooLong (λ f. f) (λ f. f) finished.fault e), λ over. absurd (omega arith));
  bounded = omega arith;
  faulty = λ fault e. absurd (other_fault end.fault (run_fault.Script fault) (λ f. f) (λ f. f) finished.fault e);
  faultless = λ ran none. absurd (some_differs (line_of_words words).load seed asked none);
  read = λ e. absurd (other_fault end.fault run_fault.Read (λ f. f) (λ f. f) finished.fault e);
  no_read_failed = inr refl;
}

-- Lines of each kind: what is accepted asks for this, and what is refused has a fault.
use Rattle.std.specs.Prelude.{◌≡◌, true, false, [], ◌∷◌, Some, None, codes, refl}
use Rattle.clap.specs.Words.{fault_of}
use Rattle.clap.proofs.OnLiterals.{clap_on_literals}
use Rattle.clap.specs.declared.error.kind.ErrorKind.TheVariants.{UnknownArgument, ValueValidation}
use Rattle.ce_words.specs.Line.{ce_program, line_of_words}

-- ---- accepted

pub no_words : line_of_words [] ≡ record { is_serial = false; load = None }
unfolding clap_on_literals
no_words = refl

pub no_fault : fault_of ce_program [] ≡ []
unfolding clap_on_literals
no_fault = refl

pub serial : line_of_words (codes "--serial" ∷ []) ≡ record { is_serial = true; load = None }
unfolding clap_on_literals
serial = refl

pub serial_no_fault : fault_of ce_program (codes "--serial" ∷ []) ≡ []
unfolding clap_on_literals
serial_no_fault = refl

pub load : line_of_words (codes "--load" ∷ codes "0" ∷ []) ≡ record { is_serial = false; load = Some 0 }
unfolding clap_on_literals
load = refl

pub load_no_fault : fault_of ce_program (codes "--load" ∷ codes "0" ∷ []) ≡ []
unfolding clap_on_literals
load_no_fault = refl

pub both : line_of_words (codes "--load" ∷ codes "17" ∷ codes "--serial" ∷ []) ≡ record { is_serial = true; load = Some 17 }
unfolding clap_on_literals
both = refl

pub both_turned : line_of_words (codes "--serial" ∷ codes "--load" ∷ codes "17" ∷ []) ≡ record { is_serial = true; load = Some 17 }
unfolding clap_on_literals
both_turned = refl

-- ---- refused

pub unknown : fault_of ce_program (codes "--fast" ∷ []) ≡ UnknownArgument ∷ []
unfolding clap_on_literals
unknown = refl

pub too_large : fault_of ce_program (codes "--load" ∷ codes "4294967296" ∷ []) ≡ ValueValidation ∷ []
unfolding clap_on_literals
too_large = refl

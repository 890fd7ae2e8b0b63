-- Records of scripts that do nothing.
use Rattle.std.proofs.Common.{◌≡◌, List, [], ◌∷◌, Some, None, codes, refl, arith}
use Rattle.std.specs.Fmt.{digits}
use Rattle.ce_text.specs.Line.{lines_text}
use Rattle.ce_model.specs.declared.entry.Entry.{Entry}
use Rattle.ce_model.specs.Machine.{MachineParts, IsLawful}
use Rattle.ce_script.specs.declared.record.Record.{Record}
use Rattle.ce_script.specs.Texts.{report}

abbrev nothing_done : Record
nothing_done = record { users = []; history = [] }

-- a machine without users allows no entry
pub no_entry : (machine : MachineParts) (history : List Entry) → machine.users ≡ 0 → IsLawful machine history → history ≡ []
no_entry machine [] none lawful = refl
no_entry machine (entry ∷ history) none lawful = absurd (omega (arith, none, lawful.0.fits.0))

-- of a script without statements nothing is written, and of one that only names a machine two lines
empty_is_reported : report (record { dim = None; images = []; users = []; commands = [] }) nothing_done ≡ []
unfolding report
empty_is_reported = refl

machine_is_reported : report (record { dim = Some 0; images = []; users = []; commands = [] }) nothing_done ≡ lines_text (codes "machine 0" ∷ codes "end" ∷ [])
unfolding report digits
machine_is_reported = refl

-- What the rule of a book knows of the object.
use Rattle.std.specs.Prelude.{Bool, List}
use Rattle.ce_lock.specs.declared.who.Who.{Who}

-- the meanings of an object O with entries E, whose fixed data are F
pub record Meanings (O E F : Type 0) : Type 1 where
  pub fixed : O → F
  pub history : O → List E
  pub lawful : F → List E → Type 0
  pub whose : E → Who
  pub alone : E → Bool

abbrev pub meanings : {O E F : Type 0} → (O → F) → (O → List E) → (F → List E → Type 0) → (E → Who)
    → (E → Bool) → Meanings O E F
meanings fixed history lawful whose alone =
    record { fixed = fixed; history = history; lawful = lawful; whose = whose; alone = alone }

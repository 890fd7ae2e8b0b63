-- What is said of the seats in a test.
use Rattle.std.specs.Prelude.{◌≡◌, ℕ, List, [], ◌∷◌, ◌++◌}
use Rattle.ce_model.specs.declared.topology.TheConstants.{HOST}
use Rattle.ce_lock.specs.Entries.{entries_of}
use Rattle.ce_lock.specs.Sitting.{SeatFacts, BookFacts, IsSeatOf, who, out, earlier, mine}
use Rattle.ce_tally.specs.declared.tally.Addition.{Addition}

-- what one actor added
abbrev pub additions_of : ℕ → ℕ → List Addition → List Addition
additions_of family actor h =
    entries_of (λ (e : Addition). e.who) (record { family = family; actor = actor }) h

-- there is one entry, of this number
pub record IsOnly (number : ℕ) (h : List Addition) : Type 0 where
  pub entry : Addition
  pub alone : h ≡ entry ∷ []
  pub number_is : entry.number ≡ number

-- among the entries is one of the actor, of this number
pub record HasAddition (family actor number : ℕ) (h : List Addition) : Type 0 where
  pub front : List Addition
  pub entry : Addition
  pub back : List Addition
  pub whole : front ++ entry ∷ back ≡ h
  pub actor_is : entry.who ≡ record { family = family; actor = actor }
  pub number_is : entry.number ≡ number

-- the seat is that of the family's head, of the book, with nobody out, and has added just this
-- number
pub record HasAdded {O : Type 0} (book : BookFacts O) (family number : ℕ)
    (s : SeatFacts O Addition) : Type 0 where
  pub of_book : IsSeatOf book s
  pub actor : who s ≡ record { family = family; actor = HOST }
  pub nobody_out : out s ≡ []
  pub nothing_earlier : earlier s ≡ []
  pub only : IsOnly number (mine s)

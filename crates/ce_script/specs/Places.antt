-- The places of names among names, by which the reader finds them.
use Rattle.std.specs.Prelude.{◌≡◌, ℕ, List, position, bytes_eq}
use Rattle.std.proofs.Props.{props}
use Rattle.ce_text.specs.declared.names.NameTable.{NameTable}
use Rattle.ce_text.specs.Names.{meanings_of}
use Rattle.ce_script.specs.declared.reader.index.Indexes.{Indexes}
use Rattle.ce_script.specs.declared.reader.so_far.ScriptSoFar.{ScriptSoFar}
use Rattle.ce_script.specs.Standing.{names_so_far}

-- the index has the place of each name among these names, and of no other name
abbrev pub IsIndexOf : NameTable ℕ → List (List ℕ) → Type 0
IsIndexOf index names = (name : List ℕ) → meanings_of index name ≡ position (bytes_eq name) names

IsIndexOf-prop : (index : NameTable ℕ) (names : List (List ℕ)) → IsProp (IsIndexOf index names)
IsIndexOf-prop index names = hlevel props

-- the users and the images that are known are found by these
pub record AreIndexed (indexes : Indexes) (so_far : ScriptSoFar) : Type 0 where
  pub users : IsIndexOf indexes.users so_far.script.users
  pub images : IsIndexOf indexes.images (names_so_far so_far)

pub AreIndexed-prop : (indexes : Indexes) (so_far : ScriptSoFar)
    → IsProp (AreIndexed indexes so_far)
AreIndexed-prop indexes so_far a b = λ i. record {
  users = IsIndexOf-prop indexes.users so_far.script.users a.users b.users i;
  images = IsIndexOf-prop indexes.images (names_so_far so_far) a.images b.images i;
}

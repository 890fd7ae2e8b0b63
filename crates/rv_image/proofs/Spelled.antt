-- Bytes without a fault are spelled as RKI1, and what is spelled so has no fault and its own
-- fields.
use Rattle.std.proofs.Common.{◌≡◌, ℕ, ◌+◌, ◌^◌, ◌<◌, ◌≤◌, Bool, true, false, eqb, ltb, List, [], ◌∷◌, ◌++◌, length, get_or, take, drop, Option, Some, None, Err, refl, sym, ap, ◌∙◌, subst, append_assoc, arith, inl, inr}
use Rattle.std.specs.Prelude.{not, nat_eq}
use Rattle.std.specs.List.{starts_with}
use Rattle.std.specs.Int.{w32, to_le_bytes, from_le_bytes}
use Rattle.std.proofs.lemmas.Bool.{cases_lt, ltb-false, le-ltb, le-leb, leb-true, eqb-true, eq-eqb, and_parts, and_from, not-false, not_from_true}
use Rattle.std.proofs.lemmas.Bool.Decides.{Decides-eqb}
use Rattle.std.proofs.lemmas.List.{take-append-drop, length-take, length-drop, get_or-drop, get_or-take, get_or_past, drop-drop}
use Rattle.std.proofs.lemmas.Nat.{le_bytes_4, from_le_bytes-to_le_bytes_4}
use Rattle.std.proofs.lemmas.Slice.Eq.{starts_is}
use Rattle.rv_model.specs.declared.limits.TheConstants.{IMAGE_ROOM}
use Rattle.rv_model.specs.declared.memory.NoMemory.{NoMemory}
use Rattle.rv_image.specs.declared.fault.ImageFault.{ImageFault}
use Rattle.rv_image.specs.declared.fault.ImageFault.TheVariants.{Short, Magic, TooLarge, Length, Entry, Memory}
use Rattle.rv_model.specs.Image.{ImageParts, IsImage}
use Rattle.rv_model.specs.LittleEndian.{bytes_number, number_at}
use Rattle.rv_image.specs.Fault.{first_fault, is_too_large, is_entry, named_cause}
use Rattle.rv_image.specs.declared.image.rki1.TheConstants.{MAGIC, HEADER_LEN}
use Rattle.rv_image.specs.Rki1.{spelling, IsRki1, entry_field, loaded_field, zero_field, fields_of, fault_of}

-- ---- the table of refusals

abbrev none : Option ImageFault
none = None

abbrev first_of_five : Bool → Bool → Bool → Bool → Bool → Option ImageFault
first_of_five short magic large size entry = first_fault ((short, Short) ∷ (magic, Magic) ∷ (large, TooLarge) ∷ (size, Length) ∷ (entry, Entry) ∷ [])

record ArePassed (a b c d e : Bool) : Type 0 where
  short : a ≡ false
  magic : b ≡ false
  large : c ≡ false
  size : d ≡ false
  entry : e ≡ false

passed : (short magic large size entry : Bool) → first_of_five short magic large size entry ≡ none → ArePassed short magic large size entry
passed true magic large size entry e = absurd cc
passed false true large size entry e = absurd cc
passed false false true size entry e = absurd cc
passed false false false true entry e = absurd cc
passed false false false false true e = absurd cc
passed false false false false false e = record { short = refl; magic = refl; large = refl; size = refl; entry = refl }

first_of_five-passed : (short magic large size entry : Bool) → ArePassed short magic large size entry → first_of_five short magic large size entry ≡ none
first_of_five-passed short magic large size entry p = rw (p.short, p.magic, p.large, p.size, p.entry) refl

not_memory : (short magic large size entry : Bool) (cause : NoMemory) → Some (Memory cause) ≡ first_of_five short magic large size entry → ⊥
not_memory true magic large size entry cause e = cc
not_memory false true large size entry cause e = cc
not_memory false false true size entry cause e = cc
not_memory false false false true entry cause e = cc
not_memory false false false false true cause e = cc
not_memory false false false false false cause e = cc

-- the fault of bytes is never want of memory, so an answer that says it names it
pub named_fault : (bytes : List ℕ) (fault : ImageFault) → Some fault ≡ fault_of bytes → named_cause {X = ImageParts} (Err fault) ≡ fault_of bytes
named_fault bytes Short e = e
named_fault bytes Magic e = e
named_fault bytes TooLarge e = e
named_fault bytes Length e = e
named_fault bytes Entry e = e
named_fault bytes (Memory cause) e =
    absurd (not_memory (ltb (length bytes) HEADER_LEN) (not (starts_with nat_eq bytes MAGIC)) (is_too_large (loaded_field bytes) (zero_field bytes))
    (not (eqb (length bytes) (HEADER_LEN + loaded_field bytes))) (not (is_entry (entry_field bytes) (loaded_field bytes))) cause e)

-- ---- what is spelled is read

-- the number of four bytes, as the standard library reads it
number_by : (bytes : List ℕ) → length bytes ≡ 4 → bytes_number bytes ≡ from_le_bytes w32 bytes
number_by [] l = absurd (omega arith)
number_by (a ∷ []) l = absurd (omega arith)
number_by (a ∷ b ∷ []) l = absurd (omega arith)
number_by (a ∷ b ∷ c ∷ []) l = absurd (omega arith)
number_by (a ∷ b ∷ c ∷ d ∷ []) l = omega arith
number_by (a ∷ b ∷ c ∷ d ∷ e ∷ bytes) l = absurd (omega arith)

number_again : (n : ℕ) → n < 2 ^ 32 → bytes_number (to_le_bytes w32 n) ≡ n
number_again n lt = number_by (to_le_bytes w32 n) refl ∙ from_le_bytes-to_le_bytes_4 n lt

fields-spelling : (image : ImageParts) → IsImage image → fields_of (spelling image) ≡ image
unfolding number_at
fields-spelling image valid =
    rw (number_again image.entry (omega (arith, valid.before_end, valid.fits)), number_again image.zero (omega (arith, valid.fits))) refl

entry_field-spelling : (image : ImageParts) → IsImage image → entry_field (spelling image) ≡ image.entry
unfolding number_at
entry_field-spelling image valid = number_again image.entry (omega (arith, valid.before_end, valid.fits))

loaded_field-spelling : (image : ImageParts) → IsImage image → loaded_field (spelling image) ≡ length image.loaded
unfolding number_at
loaded_field-spelling image valid = number_again (length image.loaded) (omega (arith, valid.fits))

zero_field-spelling : (image : ImageParts) → IsImage image → zero_field (spelling image) ≡ image.zero
unfolding number_at
zero_field-spelling image valid = number_again image.zero (omega (arith, valid.fits))

is_entry-valid : (image : ImageParts) → IsImage image → is_entry image.entry (length image.loaded) ≡ true
is_entry-valid image valid =
    and_from _ _ (and_from _ _ (eq-eqb _ _ valid.aligned) (le-leb _ _ valid.after_start)) (le-leb _ _ valid.before_end)

length-spelling : (image : ImageParts) → length (spelling image) ≡ HEADER_LEN + length image.loaded
length-spelling image = omega arith

fault_of-spelling : (image : ImageParts) → IsImage image → fault_of (spelling image) ≡ none
fault_of-spelling image valid =
    let large : is_too_large (loaded_field (spelling image)) (zero_field (spelling image)) ≡ false =
    rw (loaded_field-spelling image valid, zero_field-spelling image valid) (le-ltb _ _ valid.fits) in
    let other_length : not (eqb (length (spelling image)) (HEADER_LEN + loaded_field (spelling image))) ≡ false =
    not_from_true _ (eq-eqb _ _ (length-spelling image ∙ ap (λ (n : ℕ). HEADER_LEN + n) (sym (loaded_field-spelling image valid)))) in
    let no_entry : not (is_entry (entry_field (spelling image)) (loaded_field (spelling image))) ≡ false =
    not_from_true _ (rw (entry_field-spelling image valid, loaded_field-spelling image valid) (is_entry-valid image valid)) in
    first_of_five-passed (ltb (length (spelling image)) HEADER_LEN) false
    (is_too_large (loaded_field (spelling image)) (zero_field (spelling image)))
    (not (eqb (length (spelling image)) (HEADER_LEN + loaded_field (spelling image))))
    (not (is_entry (entry_field (spelling image)) (loaded_field (spelling image))))
    (record { short = le-ltb _ _ (omega (arith, length-spelling image)); magic = refl; large = large; size = other_length; entry = no_entry })

-- ---- what is read is spelled so

abbrev pub IsBytes : List ℕ → Type 0
IsBytes bytes = (i : ℕ) → get_or bytes i 0 < 256

IsBytes-piece : (place : ℕ) (bytes : List ℕ) → IsBytes bytes → IsBytes (take 4 (drop place bytes))
IsBytes-piece place bytes h i =
    elim (cases_lt i 4) [
      | inl lt ↦ rw (get_or-take 4 (drop place bytes) i 0 lt, get_or-drop) (h (place + i))
      | inr le ↦ rw (get_or_past (take 4 (drop place bytes)) i 0 (omega (arith, length-take 4 (drop place bytes)))) (omega arith)
    ]

-- a number that was read is spelled by the bytes it was read from
number_back : (place : ℕ) (bytes : List ℕ) → IsBytes bytes → place + 4 ≤ length bytes → to_le_bytes w32 (number_at bytes place 4) ≡ take 4 (drop place bytes)
unfolding number_at
number_back place bytes fits long =
    let four : length (take 4 (drop place bytes)) ≡ 4 = omega (arith, length-take 4 (drop place bytes), length-drop place bytes) in
    le_bytes_4 (take 4 (drop place bytes)) (number_at bytes place 4) four (IsBytes-piece place bytes fits) (number_by (take 4 (drop place bytes)) four)

piece : (place : ℕ) (bytes : List ℕ) → take 4 (drop place bytes) ++ drop (place + 4) bytes ≡ drop place bytes
piece place bytes = ap (λ (rest : List ℕ). take 4 (drop place bytes) ++ rest) (sym (drop-drop 4 place bytes)) ∙ take-append-drop 4 (drop place bytes)

respelled : (magic entry len zeros rest entry' len' zeros' : List ℕ) → entry' ≡ entry → len' ≡ len → zeros' ≡ zeros → magic ++ (entry ++ (len ++ (zeros ++ rest))) ≡ (((magic ++ entry') ++ len') ++ zeros') ++ rest
respelled magic entry len zeros rest entry' len' zeros' e l z = rw (e, l, z) (sym (simp append_assoc))

-- what a table of refusals without a fault says of bytes
record HasNoFault (bytes : List ℕ) : Type 0 where
  long : HEADER_LEN ≤ length bytes
  begins : bytes ≡ MAGIC ++ drop 4 bytes
  fits : loaded_field bytes + zero_field bytes ≤ IMAGE_ROOM
  whole : length bytes ≡ HEADER_LEN + loaded_field bytes
  entry : is_entry (entry_field bytes) (loaded_field bytes) ≡ true

passes_all : (bytes : List ℕ) → fault_of bytes ≡ none → HasNoFault bytes
passes_all bytes e =
    let p = passed (ltb (length bytes) HEADER_LEN) (not (starts_with nat_eq bytes MAGIC)) (is_too_large (loaded_field bytes) (zero_field bytes))
    (not (eqb (length bytes) (HEADER_LEN + loaded_field bytes))) (not (is_entry (entry_field bytes) (loaded_field bytes))) e in
    record {
      long = ltb-false _ _ p.short;
      begins = (starts_is Decides-eqb bytes MAGIC (starts_with nat_eq bytes MAGIC) refl).0 (not-false _ p.magic);
      fits = ltb-false _ _ p.large;
      whole = eqb-true _ _ (not-false _ p.size);
      entry = not-false _ p.entry;
    }

fields_spelled : (bytes : List ℕ) → IsBytes bytes → HasNoFault bytes → bytes ≡ spelling (fields_of bytes)
fields_spelled bytes fits no_fault =
    let long : HEADER_LEN ≤ length bytes = no_fault.long in
    let size : length (drop HEADER_LEN bytes) ≡ loaded_field bytes = omega (arith, length-drop HEADER_LEN bytes, no_fault.whole) in
    let pieces : bytes ≡ MAGIC ++ (take 4 (drop 4 bytes) ++ (take 4 (drop 8 bytes) ++ (take 4 (drop 12 bytes) ++ drop HEADER_LEN bytes))) =
    no_fault.begins ∙ ap (λ (rest : List ℕ). MAGIC ++ rest) (sym (rw (piece 12 bytes, piece 8 bytes) (piece 4 bytes))) in
    pieces
    ∙ respelled MAGIC (take 4 (drop 4 bytes)) (take 4 (drop 8 bytes)) (take 4 (drop 12 bytes)) (drop HEADER_LEN bytes)
    (to_le_bytes w32 (entry_field bytes)) (to_le_bytes w32 (length (drop HEADER_LEN bytes))) (to_le_bytes w32 (zero_field bytes))
    (number_back 4 bytes fits (omega arith)) (ap (to_le_bytes w32) size ∙ number_back 8 bytes fits (omega arith)) (number_back 12 bytes fits (omega arith))

is_valid : (bytes : List ℕ) → HasNoFault bytes → IsImage (fields_of bytes)
is_valid bytes no_fault =
    let size : length (drop HEADER_LEN bytes) ≡ loaded_field bytes = omega (arith, length-drop HEADER_LEN bytes, no_fault.whole) in
    let tests = and_parts _ _ no_fault.entry in
    let lower = and_parts _ _ tests.0 in
    record {
      fits = rw size no_fault.fits;
      aligned = eqb-true _ _ lower.0;
      after_start = leb-true _ _ lower.1;
      before_end = rw size (leb-true _ _ tests.1);
    }

-- bytes without a fault are RKI1, of what their fields say
pub IsRki1-fields : (bytes : List ℕ) → IsBytes bytes → fault_of bytes ≡ none → IsRki1 bytes (fields_of bytes)
IsRki1-fields bytes fits e =
    let no_fault = passes_all bytes e in
    record { valid = is_valid bytes no_fault; spelled = fields_spelled bytes fits no_fault }

-- RKI1 has no fault, and its fields are the image that it spells
pub fault_of-rki1 : (bytes : List ℕ) (image : ImageParts) → IsRki1 bytes image → fault_of bytes ≡ none
fault_of-rki1 bytes image h = ap fault_of h.spelled ∙ fault_of-spelling image h.valid

pub fields_of-rki1 : (bytes : List ℕ) (image : ImageParts) → IsRki1 bytes image → fields_of bytes ≡ image
fields_of-rki1 bytes image h = ap fields_of h.spelled ∙ fields-spelling image h.valid

-- what was found in bytes without a fault
pub found_in : (bytes : List ℕ) (found : ImageParts) → IsBytes bytes → found ≡ fields_of bytes → none ≡ fault_of bytes → IsRki1 bytes found
found_in bytes found fits same e = subst (λ (image : ImageParts). IsRki1 bytes image) (sym same) (IsRki1-fields bytes fits (sym e))

-- bytes spell one image at most
pub one_image : (bytes : List ℕ) (image other : ImageParts) → IsRki1 bytes image → IsRki1 bytes other → image ≡ other
one_image bytes image other h g = sym (fields_of-rki1 bytes image h) ∙ fields_of-rki1 bytes other g

-- an image has one spelling
pub one_spelling : (bytes other : List ℕ) (image : ImageParts) → IsRki1 bytes image → IsRki1 other image → bytes ≡ other
one_spelling bytes other image h g = h.spelled ∙ sym g.spelled

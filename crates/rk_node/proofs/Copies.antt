-- A list of places that is read, and the copies of a message for them.
use Rattle.std.proofs.Common.{◌≡◌, ℕ, zero, suc, ◌+◌, ◌-◌, ◌<◌, ◌≤◌, List, [], ◌∷◌, ◌++◌, length, take, drop, zip, slice_set, slice_index_or, Option, Some, None, IfSome, Result, Ok, Err, refl, ap, sym, ◌∙◌, arith, add-one, append_assoc, length-append}
use Rattle.std.proofs.lemmas.Bool.{lt-ltb, le-ltb}
use Rattle.std.proofs.lemmas.List.{map-append}
use Rattle.rv_model.specs.declared.stop.Stop.{Stop}
use Rattle.rv_model.specs.Word.{wrapping_sum}
use Rattle.ce_model.specs.declared.calls.TheConstants.{TOO_MANY_PLACES}
use Rattle.ce_model.specs.declared.topology.Place.{Place}
use Rattle.ce_model.specs.declared.topology.BlockId.{BlockId}
use Rattle.ce_model.specs.Limits.{greatest_targets}
use Rattle.ce_model.specs.Blocks.{Block}
use Rattle.ce_model.specs.Space.{Space, result_map, and_then, memory_place, places_at}
use Rattle.ce_model.specs.Process.{Process, argument}
use Rattle.ce_model.specs.Node as model
use Rattle.ce_model.specs.Kernel.{return_outcome, read_outcome, copies_outcome, xmsend_block}
use Rattle.rk_mail.specs.Targets.{bytes_of, targets_of, with_bytes}

-- ---- places that are read

map-map : {X Y Z : Type 0} (f : Y → Z) (g : X → Y) (h : X → Z) (r : Result X Stop) → ((x : X) → f (g x) ≡ h x)
    → result_map f (result_map g r) ≡ result_map h r
map-map f g h (Ok x) same = ap Ok (same x)
map-map f g h (Err cause) same = refl

take-set : (places : List Place) (i : ℕ) (place : Place) (rest : List Place) → i < length places
    → take (suc i) (slice_set places i place) ++ rest ≡ take i places ++ place ∷ rest
take-set [] i place rest h = absurd (omega arith)
take-set (x ∷ xs) zero place rest h = refl
take-set (x ∷ xs) (suc i) place rest h = ap (λ ys. x ∷ ys) (take-set xs i place rest (omega arith))

-- what the places read so far, in front of what the rest gives, come to
abbrev pub later_places : Space → ℕ → ℕ → ℕ → List Place → Result (List Place) Stop
later_places space at i count places = result_map (λ rest. take i places ++ rest) (places_at space at count)

pub read-place : (space : Space) (at i n : ℕ) (places : List Place) (place : Place) → i < n → length places ≡ n → memory_place space at ≡ Ok place
    → later_places space (wrapping_sum at 8) (i + 1) (n - (i + 1)) (slice_set places i place) ≡ later_places space at i (n - i) places
read-place space at i n places place h long read =
    let m = n - (i + 1) in
    let more : n - i ≡ suc m = omega arith in
    sym (
    ap (λ k. later_places space at i k places) more
    ∙ ap (λ r. result_map (λ rest. take i places ++ rest) (and_then r (λ place. result_map (λ places. place ∷ places) (places_at space (wrapping_sum at 8) m)))) read
    ∙ map-map (λ rest. take i places ++ rest) (λ rest. place ∷ rest) (λ rest. take (i + 1) (slice_set places i place) ++ rest) (places_at space (wrapping_sum at 8) m)
    (λ rest. sym (ap (λ k. take k (slice_set places i place) ++ rest) (add-one i) ∙ take-set places i place rest (omega arith)))
    )

pub read-fault : (space : Space) (at i n : ℕ) (places : List Place) (cause : Stop) → i < n → memory_place space at ≡ Err cause
    → later_places space at i (n - i) places ≡ Err cause
read-fault space at i n places cause h read =
    let m = n - (i + 1) in
    let more : n - i ≡ suc m = omega arith in
    ap (λ k. later_places space at i k places) more
    ∙ ap (λ r. result_map (λ rest. take i places ++ rest) (and_then r (λ place. result_map (λ places. place ∷ places) (places_at space (wrapping_sum at 8) m)))) read

take-all : (places : List Place) → take (length places) places ++ [] ≡ places
take-all [] = refl
take-all (x ∷ xs) = ap (λ ys. x ∷ ys) (take-all xs)

pub read-all : (space : Space) (at i n : ℕ) (places : List Place) → length places ≡ i → n ≡ i → later_places space at i (n - i) places ≡ Ok places
read-all space at i n places long same =
    let none : n - i ≡ 0 = omega arith in
    ap (λ k. later_places space at i k places) none
    ∙ ap {B = Result (List Place) Stop} (λ k. Ok (take k places ++ [])) (sym long) ∙ ap Ok (take-all places)

-- ---- copies

-- one place more, with the store's least block
zip-next : (places : List Place) (store : List BlockId) (i : ℕ) (d : Place) (id : BlockId) (rest : List BlockId)
    → i < length places → drop i store ≡ id ∷ rest
    → zip (take (suc i) places) (take (suc i) store) ≡ zip (take i places) (take i store) ++ (slice_index_or places i d, id) ∷ []
zip-next [] store i d id rest h next = absurd (omega arith)
zip-next (x ∷ xs) [] zero d id rest h next = absurd (cc)
zip-next (x ∷ xs) (y ∷ ys) zero d id rest h next = let same : y ≡ id = cc in ap (λ k. (x, k) ∷ []) same
zip-next (x ∷ xs) [] (suc i) d id rest h next = absurd (cc)
zip-next (x ∷ xs) (y ∷ ys) (suc i) d id rest h next = ap (λ zs. (x, y) ∷ zs) (zip-next xs ys i d id rest (omega arith) next)

drop-suc : (store : List BlockId) (i : ℕ) (id : BlockId) (rest : List BlockId) → drop i store ≡ id ∷ rest → drop (suc i) store ≡ rest
drop-suc [] zero id rest next = absurd (cc)
drop-suc (y ∷ ys) zero id rest next = cc
drop-suc [] (suc i) id rest next = absurd (cc)
drop-suc (y ∷ ys) (suc i) id rest next = drop-suc ys i id rest next

pub zip-more : (places : List Place) (store : List BlockId) (i : ℕ) (d : Place) (id : BlockId) (rest : List BlockId)
    → i < length places → drop i store ≡ id ∷ rest
    → zip (take (i + 1) places) (take (i + 1) store) ≡ zip (take i places) (take i store) ++ (slice_index_or places i d, id) ∷ []
zip-more places store i d id rest h next = ap (λ k. zip (take k places) (take k store)) (add-one i) ∙ zip-next places store i d id rest h next

pub drop-next : (store : List BlockId) (i : ℕ) (id : BlockId) (rest : List BlockId) → drop i store ≡ id ∷ rest → drop (i + 1) store ≡ rest
drop-next store i id rest next = ap (λ k. drop k store) (add-one i) ∙ drop-suc store i id rest next

-- a message with one place more
pub targets-more : (targets : List (Place × Block)) (to : Place) (block : Block) (before more : List (Place × BlockId)) → targets_of targets ≡ before ++ more
    → targets_of (targets ++ (to, with_bytes (bytes_of targets) block) ∷ []) ≡ before ++ (more ++ (to, block.id) ∷ [])
targets-more targets to block before more was =
    map-append (λ (target : Place × Block). (target.0, target.1.id)) targets ((to, with_bytes (bytes_of targets) block) ∷ [])
    ∙ ap (λ ts. ts ++ (to, block.id) ∷ []) was
    ∙ append_assoc before more ((to, block.id) ∷ [])

pub bytes-more : (targets : List (Place × Block)) (target : Place × Block) → 1 ≤ length targets → bytes_of (targets ++ target ∷ []) ≡ bytes_of targets
bytes-more [] target h = absurd (omega arith)
bytes-more (first ∷ targets) target h = refl

pub count-more : (targets : List (Place × Block)) (target : Place × Block) (n i : ℕ) → length targets ≡ n + i → length (targets ++ target ∷ []) ≡ n + (i + 1)
count-more targets target n i was = omega (arith, length-append targets (target ∷ []), was)

-- ---- a call that sends to several places

pub for_some : {X : Type 0} (o : Option X) (P Q : X → Type 0) → IfSome o P → ((x : X) → P x → Q x) → IfSome o Q
for_some None P Q p each = tt
for_some (Some x) P Q p each = each x p

pub for_each : {X : Type 0} (o : Option X) (P : X → Type 0) → ((x : X) → P x) → IfSome o P
for_each None P each = tt
for_each (Some x) P each = each x

pub too_many : (node : model.Node) (turn : model.Turn) (p : Process) (found : ℕ × Block) → greatest_targets < argument p 1
    → xmsend_block node turn p found ≡ return_outcome node turn p TOO_MANY_PLACES
too_many node turn p found h = rw (lt-ltb greatest_targets (argument p 1) h) refl

pub places-read : (node : model.Node) (turn : model.Turn) (p : Process) (found : ℕ × Block) (r : Result (List Place) Stop) (count at : ℕ)
    → count ≡ argument p 1 → at ≡ argument p 2 → count ≤ greatest_targets → places_at p.space at count ≡ r
    → xmsend_block node turn p found ≡ read_outcome node turn p r (copies_outcome node turn p found)
places-read node turn p found r count at same same' few read =
    rw (le-ltb greatest_targets (argument p 1) (omega arith)) (
    ap (λ r. read_outcome node turn p r (copies_outcome node turn p found))
    (ap (λ k. places_at p.space k (argument p 1)) (sym same') ∙ ap (places_at p.space at) (sym same) ∙ read)
    )

pub places-as : (space : Space) (at k n : ℕ) (r : Result (List Place) Stop) → places_at space at k ≡ r → k ≡ n → places_at space at n ≡ r
places-as space at k n r read same = ap (places_at space at) (sym same) ∙ read

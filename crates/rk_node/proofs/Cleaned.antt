-- A scrubbed box whose blocks were put home is clean.
use Rattle.std.proofs.Common.{◌≡◌, ℕ, ◌<◌, ◌≤◌, true, List, [], ◌∷◌, refl, ap, sym, ◌∙◌, subst, arith, inl, inr}
use Rattle.std.proofs.lemmas.Bool.{cases_lt}
use Rattle.ce_model.specs.declared.topology.BlockId.{BlockId}
use Rattle.ce_model.specs.Limits.{greatest_blocks}
use Rattle.ce_model.specs.Blocks.{is_lower, with_id, with_ids, blocks_of_home}
use Rattle.ce_model.specs.Kernel.{with_store}
use Rattle.ce_model.specs.Sound.{AreRisingIds}
use Rattle.ce_model.proofs.BlockOrder.{precedes-trans}
use Rattle.ce_solo.proofs.Counting.{hit, hit-self, same_from_hit, count, count-nil, count-cons, count-put_all, all-at_name, rising-put_all}
use Rattle.ce_solo.proofs.Fresh.{rising-home}
use Rattle.rk_node.specs.declared.awaited_call.AwaitedCall.TheVariants.{Nothing}
use Rattle.rk_node.specs.Boxes.{Box, IsCleanBox, scrubbed_node}
use Rattle.rk_node.specs.Laws.{box_with_all, AreBlocksOfHome}
use Rattle.rk_node.proofs.Sorted.{not_self, once-rising}

-- ---- lists that rise and have the same names are the same

hit-other : (a b : BlockId) → hit a b < 1 → hit b a < 1
hit-other a b none =
    elim (cases_lt (hit b a) 1) [
      | inl less ↦ less
      | inr same ↦ absurd (omega (arith, none, hit-self a, ap (hit a) (same_from_hit b a same)))
    ]

-- a name in a rising list that isn't its first comes behind the first
behind-first : (id x : BlockId) (xs : List BlockId) → AreRisingIds (x ∷ xs) → 1 ≤ count id (x ∷ xs) → hit id x < 1 → is_lower x id ≡ true
behind-first id x xs rising there other =
    all-at_name (λ name. is_lower x name ≡ true) xs id rising.0 (omega (arith, there, other, count-cons id x xs))

first-counts : (x : BlockId) (xs : List BlockId) → 1 ≤ count x (x ∷ xs)
first-counts x xs = omega (arith, count-cons x x xs, hit-self x)

-- the first names of both are the same
same-first : (x y : BlockId) (xs ys : List BlockId) → AreRisingIds (x ∷ xs) → AreRisingIds (y ∷ ys)
    → ((id : BlockId) → count id (x ∷ xs) ≡ count id (y ∷ ys)) → x ≡ y
same-first x y xs ys rising rising' same =
    elim (cases_lt (hit x y) 1) [
      | inl other ↦
          let x_behind = behind-first x y ys rising' (omega (arith, same x, first-counts x xs)) other in
          let y_behind = behind-first y x xs rising (omega (arith, same y, first-counts y ys)) (hit-other x y other) in
          absurd (not_self x (precedes-trans x y x y_behind x_behind))
      | inr hit ↦ same_from_hit x y hit
    ]

pub same-rising : (xs ys : List BlockId) → AreRisingIds xs → AreRisingIds ys → ((id : BlockId) → count id xs ≡ count id ys) → xs ≡ ys
same-rising [] [] rising rising' same = refl
same-rising [] (y ∷ ys) rising rising' same = absurd (omega (arith, same y, count-nil y, first-counts y ys))
same-rising (x ∷ xs) [] rising rising' same = absurd (omega (arith, same x, count-nil x, first-counts x xs))
same-rising (x ∷ xs) (y ∷ ys) rising rising' same =
    let first = same-first x y xs ys rising rising' same in
    let rest = same-rising xs ys rising.1 rising'.1
    (λ id. omega (arith, same id, count-cons id x xs, count-cons id y ys, ap (hit id) first)) in
    ap (λ z. z ∷ xs) first ∙ ap (λ zs. y ∷ zs) rest

-- ---- the box

all-put_home : (ids : List BlockId) (box : Box)
    → box_with_all ids box ≡ record box { node = with_store (with_ids ids box.node.store) box.node }
all-put_home [] box = refl
all-put_home (id ∷ ids) box = all-put_home ids (record box { node = with_store (with_id id box.node.store) box.node })

-- the store has the blocks of the home again
home-again : (home : ℕ) (ids : List BlockId) → AreBlocksOfHome home ids → with_ids ids [] ≡ blocks_of_home home
home-again home ids all =
    same-rising (with_ids ids []) (blocks_of_home home)
    (rising-put_all ids [] tt (λ id. omega (arith, all id, count-nil id, once-rising id (blocks_of_home home) (rising-home home))))
    (rising-home home) (λ id. omega (arith, all id, count-put_all id ids [], count-nil id))

pub scrubbed-clean : (box : Box) (ids : List BlockId) → box.awaited_call ≡ Nothing → greatest_blocks ≤ box.room
    → AreBlocksOfHome box.node.home ids → IsCleanBox (box_with_all ids (record box { node = scrubbed_node box.node }))
scrubbed-clean box ids idle room all =
    let empty : Box = record box { node = scrubbed_node box.node } in
    subst IsCleanBox (sym (all-put_home ids empty))
    record { node = ap (λ store. with_store store (scrubbed_node box.node)) (home-again box.node.home ids all); awaited_call = idle; room = room }

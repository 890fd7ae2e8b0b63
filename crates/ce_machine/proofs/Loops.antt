-- The nodes of a cube from one on, and how a loop over them goes on.
use Rattle.std.proofs.Common.{◌≡◌, ◌≢◌, ℕ, suc, ◌+◌, ◌-◌, ◌^◌, ◌<◌, ◌≤◌, Bool, true, false, ◌&&◌, nat_lt, if◌then◌else◌, List, [], ◌∷◌, ◌++◌, map, length, set, get_or, refl, ap, sym, ◌∙◌, subst, arith, inl, inr}
use Rattle.std.specs.List.{range_with_len}
use Rattle.std.proofs.lemmas.Bool.{cases_Bool, cases_eq, cases_lt, eq-eqb, lt-ltb, le-ltb}
use Rattle.std.proofs.lemmas.List.{get_or-set_same, get_or-set_other, get_or_read, length-set, length-append, length-map}
use Rattle.ce_model.specs.declared.topology.Subcube.{Subcube}
use Rattle.ce_model.specs.Limits.{greatest_dim}
use Rattle.ce_model.specs.Blocks.{Block}
use Rattle.ce_model.specs.Parcels.{Parcel, Item, start, mail, kill, item_parcels}
use Rattle.ce_model.specs.Trace.{NodeRecord, blank_record}
use Rattle.ce_model.specs.Subcubes.{node_of, extract, is_inside, IsSubcube}
use Rattle.ce_model.proofs.Subcubes.{extract-node_of, extract-below, node_of-extract}
use Rattle.ce_solo.proofs.Renaming.Grants.{few_nodes}
use Rattle.ce_machine.specs.Tables.{desk_at}
use Rattle.ce_machine.specs.Desks.{AreChanged, change_at_nodes}

-- the nodes of a cube from its node r on
abbrev pub nodes_from : Subcube → ℕ → ℕ → List ℕ
nodes_from sub r end = map (node_of sub) (range_with_len r (end - r))

pub rest-more : (sub : Subcube) (r end : ℕ) → r < end → nodes_from sub r end ≡ node_of sub r ∷ nodes_from sub (r + 1) end
rest-more sub r end below = let e : end - r ≡ suc (end - (r + 1)) = omega arith in rw e refl

pub rest-none : (sub : Subcube) (r end : ℕ) → end ≤ r → nodes_from sub r end ≡ []
rest-none sub r end above = let e : end - r ≡ 0 = omega arith in rw e refl

-- all of them, with their number as the code has it
pub rest-whole : (sub : Subcube) (end count : ℕ) → end ≡ count → nodes_from sub 0 end ≡ map (node_of sub) (range_with_len 0 count)
rest-whole sub end count is = let e : end - 0 ≡ count = omega (arith, is) in rw e refl

-- the desk that code reads at a number, which it has computed
pub read-at : (desks : List NodeRecord) (n at : ℕ) (desk : NodeRecord) → n < length desks → at ≡ n → desk ≡ get_or desks at desk → desk ≡ desk_at desks n
read-at desks n at desk below same is = get_or_read desks n desk below (subst (λ n. desk ≡ get_or desks n desk) same is) blank_record

-- the desks of the first nodes of a cube changed
abbrev pub change_at_first_nodes : Subcube → ℕ → (NodeRecord → NodeRecord) → ℕ → NodeRecord → NodeRecord
change_at_first_nodes sub r change node node_record = if is_inside sub node && nat_lt (extract node sub.mask) r then change node_record else node_record

and_true : (b : Bool) → (b && true) ≡ b
and_true true = refl
and_true false = refl

and_false : (b : Bool) → (b && false) ≡ false
and_false true = refl
and_false false = refl

pub first-none : (sub : Subcube) (change : NodeRecord → NodeRecord) (desks : List NodeRecord) → AreChanged desks desks (change_at_first_nodes sub 0 change)
first-none sub change desks = record {
  count = refl;
  each = λ node below. sym (ap (λ (b : Bool). if b then change (desk_at desks node) else desk_at desks node)
      (ap (λ b. is_inside sub node && b) (le-ltb (extract node sub.mask) 0 (omega arith)) ∙ and_false (is_inside sub node)));
}

pub first-all : (sub : Subcube) (d : ℕ) (change : NodeRecord → NodeRecord) (desks desks' : List NodeRecord) → IsSubcube greatest_dim d sub
    → AreChanged desks desks' (change_at_first_nodes sub (2 ^ d) change) → AreChanged desks desks' (change_at_nodes sub change)
first-all sub d change desks desks' is all = record {
  count = all.count;
  each = λ node below. all.each node below ∙ ap (λ (b : Bool). if b then change (desk_at desks node) else desk_at desks node)
      (ap (λ b. is_inside sub node && b) (lt-ltb (extract node sub.mask) (2 ^ d) (rw (← is.dimension) (extract-below node sub.mask))) ∙ and_true (is_inside sub node));
}

module _ (sub : Subcube) (d r : ℕ) (is : IsSubcube greatest_dim d sub) (below : r < 2 ^ d) where
  own : extract (node_of sub r) sub.mask ≡ r
  own = extract-node_of sub r is.apart (rw is.dimension below)

  inside : is_inside sub (node_of sub r) ≡ true
  inside = eq-eqb _ _ (ap (node_of sub) own)

  -- the next node hasn't changed
  pub first-next : (change : NodeRecord → NodeRecord) (desks desks' : List NodeRecord) → node_of sub r < length desks → AreChanged desks desks' (change_at_first_nodes sub r change)
      → desk_at desks' (node_of sub r) ≡ desk_at desks (node_of sub r)
  first-next change desks desks' has first =
      let desk = desk_at desks (node_of sub r) in
      first.each (node_of sub r) has ∙ ap (λ (b : Bool). if b then change desk else desk)
      (ap (λ b. is_inside sub (node_of sub r) && b) (le-ltb (extract (node_of sub r) sub.mask) r (omega (arith, own))) ∙ and_false _)

  pub first-read : (change : NodeRecord → NodeRecord) (desks desks' : List NodeRecord) (at : ℕ) (desk : NodeRecord) → node_of sub r < length desks
      → AreChanged desks desks' (change_at_first_nodes sub r change) → at ≡ node_of sub r → desk ≡ get_or desks' at desk → desk ≡ desk_at desks (node_of sub r)
  first-read change desks desks' at desk has first same is =
      read-at desks' (node_of sub r) at desk (omega (arith, has, first.count)) same is ∙ first-next change desks desks' has first

  -- other nodes are among the first as before
  other_test : (node : ℕ) → node ≢ node_of sub r → (is_inside sub node && nat_lt (extract node sub.mask) (r + 1)) ≡ (is_inside sub node && nat_lt (extract node sub.mask) r)
  other_test node other =
      elim (cases_Bool (is_inside sub node)) [
        | inl t ↦
            let apart : extract node sub.mask ≢ r = λ e. other (sym (node_of-extract sub node t) ∙ ap (node_of sub) e) in
            ap (λ b. is_inside sub node && b) (elim (cases_lt (extract node sub.mask) r) [
              | inl l ↦ lt-ltb _ _ (omega arith) ∙ sym (lt-ltb _ _ l)
              | inr m ↦ le-ltb _ _ (omega (arith, apart)) ∙ sym (le-ltb _ _ m)
            ])
        | inr f ↦ rw f refl
      ]

  -- then it changes too
  pub first-more : (change : NodeRecord → NodeRecord) (desks desks' : List NodeRecord) (desk : NodeRecord) → node_of sub r < length desks → AreChanged desks desks' (change_at_first_nodes sub r change)
      → desk ≡ change (desk_at desks (node_of sub r)) → AreChanged desks (set desks' (node_of sub r) desk) (change_at_first_nodes sub (r + 1) change)
  first-more change desks desks' desk has first desk_is = record {
    count = length-set desks' (node_of sub r) desk ∙ first.count;
    each = λ node node_below. elim (cases_eq node (node_of sub r)) [
      | inl same ↦
          subst (λ n. desk_at (set desks' (node_of sub r) desk) n ≡ change_at_first_nodes sub (r + 1) change n (desk_at desks n)) (sym same)
          (get_or-set_same desks' (node_of sub r) desk blank_record (omega (arith, first.count)) ∙ desk_is
          ∙ sym (ap (λ (b : Bool). if b then change (desk_at desks (node_of sub r)) else desk_at desks (node_of sub r))
          (ap (λ b. b && nat_lt (extract (node_of sub r) sub.mask) (r + 1)) inside ∙ lt-ltb _ _ (omega (arith, own)))))
      | inr other ↦
          get_or-set_other desks' (node_of sub r) node desk blank_record other ∙ first.each node node_below
          ∙ ap (λ (b : Bool). if b then change (desk_at desks node) else desk_at desks node) (sym (other_test node other))
    ];
  }

pub few-nodes : (d : ℕ) → d ≤ greatest_dim → 2 ^ d ≤ 64
few-nodes d small = few_nodes d small

-- there are no more parcels than items
pub few-among : (items : List Item) → length (item_parcels items) ≤ length items
few-among [] = omega arith
few-among (start pid image ∷ items) = omega (arith, few-among items)
few-among (mail parcel ∷ items) = omega (arith, few-among items)
few-among (kill pid ∷ items) = omega (arith, few-among items)

pub few-blocks : (none one : List Block) (items : List Item) → none ≡ [] → one ≡ none ++ map (λ (p : Parcel). p.block) (item_parcels items) → length one ≤ length items
few-blocks none one items none_is one_is =
    omega (
      arith,
      ap length one_is,
      ap length none_is,
      length-append none (map (λ (p : Parcel). p.block) (item_parcels items)),
      length-map (item_parcels items) (λ (p : Parcel). p.block),
      few-among items,
    )

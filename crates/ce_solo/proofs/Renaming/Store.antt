-- A store with other names for its blocks, where the names keep their order.
use Rattle.std.proofs.Common.{◌≡◌, Bool, if◌then◌else◌, List, [], ◌∷◌, map, refl, ap, ap₂, sym, ◌∙◌}
use Rattle.std.specs.List.{AllByRecursion}
use Rattle.ce_model.specs.declared.topology.BlockId.{BlockId}
use Rattle.ce_model.specs.Blocks.{is_lower, with_id, with_ids}
use Rattle.ce_solo.proofs.Renaming.Lists.{if_ap, if_each}

-- the names with the property stay in order when they are renamed
pub record IsOrderKept (rename : BlockId → BlockId) (P : BlockId → Type 0) : Type 0 where
  pub kept : (a b : BlockId) → P a → P b → is_lower (rename a) (rename b) ≡ is_lower a b

-- the property holds of each name
abbrev pub AreNamed : (BlockId → Type 0) → List BlockId → Type 0
AreNamed P ids = AllByRecursion P ids

pub put-named : (P : BlockId → Type 0) (id : BlockId) (ids : List BlockId) → P id → AreNamed P ids → AreNamed P (with_id id ids)
put-named P id [] new named = (new, tt)
put-named P id (other ∷ ids) new named =
    if_each (AreNamed P) (is_lower id other) _ _ (new, named) (named.0, put-named P id ids new named.1)

pub put_all-named : (P : BlockId → Type 0) (ids store : List BlockId) → AreNamed P ids → AreNamed P store → AreNamed P (with_ids ids store)
put_all-named P [] store new named = named
put_all-named P (id ∷ ids) store new named = put_all-named P ids (with_id id store) new.1 (put-named P id store new.0 named)

pub put-renamed : (rename : BlockId → BlockId) (P : BlockId → Type 0) (id : BlockId) (ids : List BlockId) → IsOrderKept rename P → P id → AreNamed P ids
    → with_id (rename id) (map rename ids) ≡ map rename (with_id id ids)
put-renamed rename P id [] order new named = refl
put-renamed rename P id (other ∷ ids) order new named =
    ap₂ (λ (first : Bool) rest. if first then rename id ∷ rename other ∷ map rename ids else rename other ∷ rest)
    (order.kept id other new named.0) (put-renamed rename P id ids order new named.1)
    ∙ sym (if_ap (map rename) (is_lower id other) _ _)

pub put_all-renamed : (rename : BlockId → BlockId) (P : BlockId → Type 0) (ids store : List BlockId) → IsOrderKept rename P → AreNamed P ids → AreNamed P store
    → with_ids (map rename ids) (map rename store) ≡ map rename (with_ids ids store)
put_all-renamed rename P [] store order new named = refl
put_all-renamed rename P (id ∷ ids) store order new named =
    ap (λ store. with_ids (map rename ids) store) (put-renamed rename P id store order new.0 named)
    ∙ put_all-renamed rename P ids (with_id id store) order new.1 (put-named P id store new.0 named)

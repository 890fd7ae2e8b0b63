-- What is left of a map without one process's blocks.
use Rattle.std.proofs.Common.{◌≡◌, ℕ, suc, ◌+◌, ◌≤◌, Bool, true, false, not, nat_lt, ◌==◌, List, [], ◌∷◌, ◌++◌, length, get_or, map, take, drop, filter, arith, refl, ap, ◌∙◌, sym, inl, inr, subst}
use Rattle.std.specs.List.{AllWithin, slice_range, remove_range}
use Rattle.std.proofs.lemmas.Bool.{cases_lt}
use Rattle.std.proofs.lemmas.Bool.Decides.{nat_tests}
use Rattle.std.proofs.lemmas.List.{get_or-take, get_or-drop, map-append, length-take, length-drop, length-append}
use Rattle.std.proofs.lemmas.List.Edits.{split_between, length-between, get_or-between}
use Rattle.std.proofs.lemmas.List.Elements.{filter-append}
use Rattle.std.proofs.lemmas.List.Kept.{AllPairs-filter}
use Rattle.ce_model.specs.Blocks.{Block}
use Rattle.ce_model.specs.Rising.{IsRising}
use Rattle.xm_owner.specs.Holdings.{Mapping, process_blocks, without_process}
use Rattle.xm_owner.specs.Tables.{is_key_before, mappings_of}
use Rattle.xm_owner.specs.Ranges.{IsDrainedRange}
use Rattle.xm_owner.specs.declared.key.Key.{Key}

nil-right : {X : Type 0} (xs : List X) → xs ++ [] ≡ xs
nil-right [] = refl
nil-right (x ∷ xs) = ap (λ rest. x ∷ rest) (nil-right xs)

module _ (pid : ℕ) where
  -- the keys of other processes
  abbrev kept : Key → Bool
  kept key = not (key.pid == pid)

  mappings-append : (ks : List Key) (bs : List Block) (ls : List Key) (cs : List Block) → length bs ≡ length ks
      → mappings_of (ks ++ ls) (bs ++ cs) ≡ mappings_of ks bs ++ mappings_of ls cs
  mappings-append [] [] ls cs h = refl
  mappings-append [] (b ∷ bs) ls cs h = absurd (omega arith)
  mappings-append (k ∷ ks) [] ls cs h = absurd (omega arith)
  mappings-append (k ∷ ks) (b ∷ bs) ls cs h = ap (λ ms. record { pid = k.pid; window = k.window; block = b } ∷ ms) (mappings-append ks bs ls cs (omega arith))

  -- of others nothing is taken out, of the process all
  keys-others : (ks : List Key) → AllWithin (λ k. k.pid == pid ≡ false) ks 0 (length ks) → filter kept ks ≡ ks
  keys-others [] all = refl
  keys-others (k ∷ ks) all =
      rw (all 0 k (omega arith) (omega arith)) (ap (λ rest. k ∷ rest) (keys-others ks (λ i d low high. all (suc i) d (omega arith) (omega arith))))

  keys-own : (ks : List Key) → AllWithin (λ k. k.pid == pid ≡ true) ks 0 (length ks) → filter kept ks ≡ []
  keys-own [] all = refl
  keys-own (k ∷ ks) all = rw (all 0 k (omega arith) (omega arith)) (keys-own ks (λ i d low high. all (suc i) d (omega arith) (omega arith)))

  mappings-others : (ks : List Key) (bs : List Block) → AllWithin (λ k. k.pid == pid ≡ false) ks 0 (length ks)
      → (without_process pid (mappings_of ks bs) ≡ mappings_of ks bs) × (process_blocks pid (mappings_of ks bs) ≡ [])
  mappings-others [] bs all = (refl, refl)
  mappings-others (k ∷ ks) [] all = (refl, refl)
  mappings-others (k ∷ ks) (b ∷ bs) all =
      let rest = mappings-others ks bs (λ i d low high. all (suc i) d (omega arith) (omega arith)) in
      let other = all 0 k (omega arith) (omega arith) in
      (rw other (ap (λ ms. record { pid = k.pid; window = k.window; block = b } ∷ ms) rest.0), rw other rest.1)

  mappings-own : (ks : List Key) (bs : List Block) → length bs ≡ length ks → AllWithin (λ k. k.pid == pid ≡ true) ks 0 (length ks)
      → (without_process pid (mappings_of ks bs) ≡ []) × (process_blocks pid (mappings_of ks bs) ≡ bs)
  mappings-own [] [] h all = (refl, refl)
  mappings-own [] (b ∷ bs) h all = absurd (omega arith)
  mappings-own (k ∷ ks) [] h all = absurd (omega arith)
  mappings-own (k ∷ ks) (b ∷ bs) h all =
      let rest = mappings-own ks bs (omega arith) (λ i d low high. all (suc i) d (omega arith) (omega arith)) in
      let own = all 0 k (omega arith) (omega arith) in
      (rw own rest.0, rw own (ap (λ blocks. b ∷ blocks) rest.1))

  blocks-append : (ms ns : List Mapping) → process_blocks pid (ms ++ ns) ≡ process_blocks pid ms ++ process_blocks pid ns
  blocks-append ms ns =
      ap (map (λ mapping. mapping.block)) (filter-append (λ mapping. mapping.pid == pid) ms ns)
      ∙ map-append (λ mapping. mapping.block) (filter (λ mapping. mapping.pid == pid) ms) (filter (λ mapping. mapping.pid == pid) ns)

  is-other : (k : Key) → nat_lt k.pid pid ≡ true → k.pid == pid ≡ false
  is-other k h = grind (arith, nat_tests)

  is-beyond : (k : Key) → nat_lt k.pid (pid + 1) ≡ false → k.pid == pid ≡ false
  is-beyond k h = grind (arith, nat_tests)

  is-own : (k : Key) → nat_lt k.pid pid ≡ false → nat_lt k.pid (pid + 1) ≡ true → k.pid == pid ≡ true
  is-own k h l = grind (arith, nat_tests)

  -- the keys of the process stand between those of the processes below and above it
  module _ (keys : List Key) (first last : ℕ) (in_front : first ≤ length keys) (behind : last ≤ length keys)
      (below : AllWithin (λ k. nat_lt k.pid pid ≡ true) keys 0 first) (not_below : AllWithin (λ k. nat_lt k.pid pid ≡ false) keys first (length keys))
      (up_to : AllWithin (λ k. nat_lt k.pid (pid + 1) ≡ true) keys 0 last) (above : AllWithin (λ k. nat_lt k.pid (pid + 1) ≡ false) keys last (length keys)) where
    between : (d : Key) → first ≤ last
    between d = elim (cases_lt last first) [
      | inr q ↦ q
      | inl q ↦ (let one = below last d (omega arith) q in
          let two = above last d (omega arith) (omega arith) in
          let bad : nat_lt (get_or keys last d).pid pid ≡ false = grind (arith, nat_tests) in absurd (cc))
    ]

    pub in_order : first ≤ last
    in_order = between (record { pid = 0; window = 0 })

    module _ (order : first ≤ last) where
      front : AllWithin (λ k. k.pid == pid ≡ false) (take first keys) 0 (length (take first keys))
      front k d low high =
          let long = length-take first keys in
          let e = get_or-take first keys k d (omega arith) in
          subst (λ (key : Key). key.pid == pid ≡ false) (sym e) (is-other (get_or keys k d) (below k d (omega arith) (omega arith)))

      middle : AllWithin (λ k. k.pid == pid ≡ true) (slice_range keys first last) 0 (length (slice_range keys first last))
      middle k d low high =
          let long = length-between keys first last behind in
          let e = get_or-between keys first last k d (omega arith) in
          subst (λ (key : Key). key.pid == pid ≡ true) (sym e)
          (is-own (get_or keys (first + k) d) (not_below (first + k) d (omega arith) (omega arith)) (up_to (first + k) d (omega arith) (omega arith)))

      back : AllWithin (λ k. k.pid == pid ≡ false) (drop last keys) 0 (length (drop last keys))
      back k d low high =
          let long = length-drop last keys in
          let e = get_or-drop last keys k d in
          subst (λ (key : Key). key.pid == pid ≡ false) (sym e) (is-beyond (get_or keys (last + k) d) (above (last + k) d (omega arith) (omega arith)))

      keys-left : filter kept keys ≡ remove_range keys first last
      keys-left =
          ap (filter kept) (split_between keys first last order)
          ∙ filter-append kept (take first keys) (slice_range keys first last ++ drop last keys)
          ∙ ap (λ ks. filter kept (take first keys) ++ ks) (filter-append kept (slice_range keys first last) (drop last keys))
          ∙ (rw (keys-others (take first keys) front, keys-own (slice_range keys first last) middle, keys-others (drop last keys) back) refl)

      pub rising-left : IsRising is_key_before keys → IsRising is_key_before (remove_range keys first last)
      rising-left rising = subst (IsRising is_key_before) keys-left (AllPairs-filter (λ a b. is_key_before a b ≡ true) kept keys rising)

      module _ (blocks : List Block) (paired : length blocks ≡ length keys) where
        split : mappings_of keys blocks ≡ mappings_of (take first keys) (take first blocks)
            ++ (mappings_of (slice_range keys first last) (slice_range blocks first last) ++ mappings_of (drop last keys) (drop last blocks))
        split =
            let front_long = length-take first keys in
            let front_longer = length-take first blocks in
            let middle_long = length-between keys first last behind in
            let middle_longer = length-between blocks first last (omega arith) in
            ap (λ ks. mappings_of ks blocks) (split_between keys first last order)
            ∙ ap (mappings_of (take first keys ++ (slice_range keys first last ++ drop last keys))) (split_between blocks first last order)
            ∙ mappings-append (take first keys) (take first blocks) _ _ (omega arith)
            ∙ ap (λ ms. mappings_of (take first keys) (take first blocks) ++ ms)
            (mappings-append (slice_range keys first last) (slice_range blocks first last) (drop last keys) (drop last blocks) (omega arith))

        abbrev front_mappings : List Mapping
        front_mappings = mappings_of (take first keys) (take first blocks)

        abbrev middle_mappings : List Mapping
        middle_mappings = mappings_of (slice_range keys first last) (slice_range blocks first last)

        abbrev back_mappings : List Mapping
        back_mappings = mappings_of (drop last keys) (drop last blocks)

        -- the process has none of the first and none of the last, and all between
        fronts : (without_process pid front_mappings ≡ front_mappings) × (process_blocks pid front_mappings ≡ [])
        fronts = mappings-others (take first keys) (take first blocks) front

        middles : (without_process pid middle_mappings ≡ []) × (process_blocks pid middle_mappings ≡ slice_range blocks first last)
        middles =
            let middle_long = length-between keys first last behind in
            let middle_longer = length-between blocks first last (omega arith) in
            mappings-own (slice_range keys first last) (slice_range blocks first last) (omega arith) middle

        backs : (without_process pid back_mappings ≡ back_mappings) × (process_blocks pid back_mappings ≡ [])
        backs = mappings-others (drop last keys) (drop last blocks) back

        mappings-left : mappings_of (remove_range keys first last) (remove_range blocks first last) ≡ without_process pid (mappings_of keys blocks)
        mappings-left =
            let front_long = length-take first keys in
            let front_longer = length-take first blocks in
            mappings-append (take first keys) (take first blocks) (drop last keys) (drop last blocks) (omega arith)
            ∙ sym (ap (without_process pid) split
            ∙ filter-append (λ mapping. not (mapping.pid == pid)) front_mappings (middle_mappings ++ back_mappings)
            ∙ ap (λ ms. without_process pid front_mappings ++ ms)
            (filter-append (λ mapping. not (mapping.pid == pid)) middle_mappings back_mappings)
            ∙ ap (λ ms. ms ++ (without_process pid middle_mappings ++ without_process pid back_mappings)) fronts.0
            ∙ ap (λ ms. front_mappings ++ (ms ++ without_process pid back_mappings)) middles.0
            ∙ ap (λ ms. front_mappings ++ ms) backs.0)

        blocks-left : slice_range blocks first last ≡ process_blocks pid (mappings_of keys blocks)
        blocks-left =
            sym (ap (process_blocks pid) split
            ∙ blocks-append front_mappings (middle_mappings ++ back_mappings)
            ∙ ap (λ bs. process_blocks pid front_mappings ++ bs) (blocks-append middle_mappings back_mappings)
            ∙ ap (λ bs. bs ++ (process_blocks pid middle_mappings ++ process_blocks pid back_mappings)) fronts.1
            ∙ ap (λ bs. bs ++ process_blocks pid back_mappings) middles.1
            ∙ ap (λ bs. slice_range blocks first last ++ bs) backs.1
            ∙ nil-right (slice_range blocks first last))

        pub drained : IsDrainedRange pid keys blocks first last
        drained =
            let taken = blocks-left in
            let front_long = length-take first keys in
            let front_longer = length-take first blocks in
            let back_long = length-drop last keys in
            let back_longer = length-drop last blocks in
            let both = length-append (take first keys) (drop last keys) in
            let both_blocks = length-append (take first blocks) (drop last blocks) in
            let middle_longer = length-between blocks first last (omega arith) in
            record {
              mappings = mappings-left;
              taken = taken;
              keys_left = omega arith;
              blocks_left = omega arith;
              count = sym middle_longer ∙ ap length taken;
            }

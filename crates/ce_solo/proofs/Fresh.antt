-- A fresh cube is sound: each block is at home.
use Rattle.std.proofs.Common.{◌≡◌, ◌⊎◌, ℕ, zero, suc, ◌+◌, ◌^◌, ◌<◌, ◌≤◌, true, false, if◌then◌else◌, List, [], ◌++◌, map, flat_map, length, replicate, refl, ap, sym, ◌∙◌, subst, arith, inl, inr, append-nil, pow_mono}
use Rattle.std.specs.List.{AllByRecursion, range_with_len}
use Rattle.std.proofs.lemmas.Bool.{cases_lt, cases_eq, both_ways, eq-eqb, ne_eqb, lt-ltb, and_from, and_left, and_right, or_right}
use Rattle.std.proofs.lemmas.List.{length-replicate, get_or-replicate, get_or_past}
use Rattle.rv_model.specs.declared.limits.TheConstants.{REGISTER_COUNT}
use Rattle.ce_model.specs.declared.topology.BlockId.{BlockId}
use Rattle.ce_model.specs.Limits.{process_count, home_blocks, host_home, host_home_lem, greatest_dim_lem}
use Rattle.ce_model.specs.Blocks.{is_lower, is_same_id, blocks_of_home}
use Rattle.ce_model.specs.Literals.{block}
use Rattle.ce_model.specs.Space.{mapped_ids}
use Rattle.ce_model.specs.Process.{Process, unborn_process}
use Rattle.ce_model.specs.Node.{opening_node, process_at, blocks_of}
use Rattle.ce_model.specs.Trace.{blank_record}
use Rattle.ce_model.specs.Cube.{Cube, IsCube, opening}
use Rattle.ce_model.specs.Owners.{IsBlockOf, holdings}
use Rattle.ce_model.specs.Sound.{is_polling, IsSoundProcess, IsSoundNode, AreRisingIds, IsSound}
use Rattle.ce_solo.proofs.Counting.{hit, count, count-nil, count-cons, sum_run, sum_run-same, sum_run-zero, sum_run-at, all-from_names}
use Rattle.ce_solo.proofs.Lists.{all-of_map}
use Rattle.ce_solo.proofs.Totals.{HeldName, names, names-total, holders-total, count_at_node, count_at_node-is, total, total-is}

-- ---- the blocks of a home

abbrev blocks_from : ℕ → ℕ → ℕ → List BlockId
blocks_from home from n = map (block home) (range_with_len from n)

precedes-next : (home i j : ℕ) → i < j → is_lower (block home i) (block home j) ≡ true
precedes-next home i j h = or_right _ _ (and_from _ _ (eq-eqb home home refl) (lt-ltb i j h))

all_later : (home i from n : ℕ) → i < from → AllByRecursion (λ other. is_lower (block home i) other ≡ true) (blocks_from home from n)
all_later home i from zero h = tt
all_later home i from (suc n) h = (precedes-next home i from h, all_later home i (from + 1) n (omega arith))

rising-from : (home from n : ℕ) → AreRisingIds (blocks_from home from n)
rising-from home from zero = tt
rising-from home from (suc n) = (all_later home from (from + 1) n (omega arith), rising-from home (from + 1) n)

pub rising-home : (home : ℕ) → AreRisingIds (blocks_of_home home)
rising-home home = rising-from home 0 home_blocks

not_hit : (id : BlockId) (home index : ℕ) → is_same_id id (block home index) ≡ false → hit id (block home index) ≡ 0
unfolding hit
not_hit id home index f = ap {B = ℕ} (λ b. if b then 1 else 0) f

is_hit : (id : BlockId) (home index : ℕ) → id.home ≡ home → id.index ≡ index → hit id (block home index) ≡ 1
unfolding hit
is_hit id home index h i = ap {B = ℕ} (λ b. if b then 1 else 0) (and_from _ _ (eq-eqb id.home home h) (eq-eqb id.index index i))

count-other_home : (id : BlockId) (home from n : ℕ) → (id.home ≡ home → ⊥) → count id (blocks_from home from n) ≡ 0
count-other_home id home from zero differ = count-nil id
count-other_home id home from (suc n) differ =
    omega (arith, count-cons id (block home from) (blocks_from home (from + 1) n), not_hit id home from (and_left _ _ (ne_eqb id.home home differ)), count-other_home id home (from + 1) n differ)

count-outside : (id : BlockId) (home from n : ℕ) → (id.index < from) ⊎ (from + n ≤ id.index) → count id (blocks_from home from n) ≡ 0
count-outside id home from zero out = count-nil id
count-outside id home from (suc n) out =
    let differ : id.index ≡ from → ⊥ = λ e. elim out [ inl low ↦ omega (arith, e, low) | inr high ↦ omega (arith, e, high) ] in
    let more : (id.index < from + 1) ⊎ (from + 1 + n ≤ id.index) = elim out [ inl low ↦ inl (omega (arith, low)) | inr high ↦ inr (omega (arith, high)) ] in
    omega (arith, count-cons id (block home from) (blocks_from home (from + 1) n), not_hit id home from (and_right _ _ (ne_eqb id.index from differ)), count-outside id home (from + 1) n more)

count-inside : (id : BlockId) (home from n : ℕ) → id.home ≡ home → from ≤ id.index → id.index < from + n → count id (blocks_from home from n) ≡ 1
count-inside id home from zero same low high = absurd (omega arith)
count-inside id home from (suc n) same low high =
    elim (cases_eq id.index from) [
      | inl here ↦
          omega (arith, count-cons id (block home from) (blocks_from home (from + 1) n), is_hit id home from same here, count-outside id home (from + 1) n (inl (omega (arith, here))))
      | inr differ ↦
          elim (cases_lt from id.index) [
            | inl later ↦
                omega (arith, count-cons id (block home from) (blocks_from home (from + 1) n), not_hit id home from (and_right _ _ (ne_eqb id.index from differ)), count-inside id home (from + 1) n same (omega (arith, later)) (omega arith))
            | inr sooner ↦ absurd (differ (omega (arith, sooner)))
          ]
    ]

-- ---- a fresh node

fresh_process : (r dim images pid : ℕ) → process_at (opening_node r dim images) pid ≡ unborn_process
fresh_process r dim images pid =
    elim (cases_lt pid process_count) [
      | inl within ↦ get_or-replicate process_count pid unborn_process unborn_process within
      | inr past ↦ get_or_past (replicate process_count unborn_process) pid unborn_process (omega (arith, past, length-replicate process_count unborn_process))
    ]

sound_unborn : (pid : ℕ) → IsSoundProcess blank_record (opening_node 0 0 0).turn pid unborn_process
sound_unborn pid = record {
  registers = length-replicate {A = ℕ} REGISTER_COUNT 0;
  windows = omega arith;
  unborn = refl;
  unborn_used = λ h. refl;
  stopped_holds = λ h. absurd (both_ways _ refl h);
  running = refl;
}

fresh_node : (cube : Cube) (r : ℕ) → IsSoundNode cube blank_record r (opening_node r cube.dim (length cube.images))
fresh_node cube r = record {
  number = refl;
  dim = refl;
  home = refl;
  images = refl;
  process_ids = length-replicate process_count unborn_process;
  processes = λ pid within. subst (IsSoundProcess blank_record (opening_node 0 0 0).turn pid) (sym (fresh_process r cube.dim (length cube.images) pid)) (sound_unborn pid);
  polling_ids = λ pid. sym (ap {B = ℕ} (λ (p : Process). if is_polling p.status then 1 else 0) (fresh_process r cube.dim (length cube.images) pid));
  turn = tt;
  store = rising-home r;
}

-- processes that were not started have no blocks mapped
pub ids-unborn : (n : ℕ) → flat_map (λ (p : Process). mapped_ids p.space) (replicate n unborn_process) ≡ []
ids-unborn zero = refl
ids-unborn (suc n) = ids-unborn n

fresh_blocks : (r dim images : ℕ) → blocks_of (opening_node r dim images) ≡ blocks_of_home r
fresh_blocks r dim images = ap (λ ids. blocks_of_home r ++ ids) (ids-unborn process_count) ∙ append-nil (blocks_of_home r)

-- ---- owners

module _ (cube : Cube) (of : IsCube cube) (id : BlockId) where
  abbrev n : ℕ
  n = 2 ^ cube.dim

  at_home : (r : ℕ) → count_at_node id (opening cube) r ≡ count id (blocks_of_home r)
  at_home r = omega (arith, count_at_node-is id (opening cube) r, ap (count id) (fresh_blocks r cube.dim (length cube.images)), count-nil id)

  opening_total : total id cube.dim (opening cube) ≡ sum_run (λ r. count id (blocks_of_home r)) 0 n + count id (blocks_of_home host_home)
  opening_total =
      omega (arith, total-is id cube.dim (opening cube), count-nil id, sum_run-same (count_at_node id (opening cube)) (λ r. count id (blocks_of_home r)) 0 n (λ r low high. at_home r))

  nodes_small : n ≤ host_home
  nodes_small =
      let small : cube.dim ≤ 6 = omega (arith, of.dim, greatest_dim_lem) in
      let nodes : 2 ^ cube.dim ≤ 64 = pow_mono small in
      omega (arith, host_home_lem)

  one_at_node : id.home < n → id.index < home_blocks → total id cube.dim (opening cube) ≡ 1
  one_at_node home index =
      omega (
        arith,
        opening_total,
        count-inside id id.home 0 home_blocks refl (omega arith) (omega (arith, index)),
        count-other_home id host_home 0 home_blocks (λ e. omega (arith, nodes_small)),
        sum_run-at (λ r. count id (blocks_of_home r)) id.home 0 n (omega arith) (omega (arith, home)) (λ k differ. count-other_home id k 0 home_blocks (λ e. differ (sym e))),
      )

  none_at_nodes : n ≤ id.home → sum_run (λ r. count id (blocks_of_home r)) 0 n ≡ 0
  none_at_nodes past = sum_run-zero (λ r. count id (blocks_of_home r)) 0 n (λ k low high. count-other_home id k 0 home_blocks (λ e. omega (arith, past)))

  one_at_host : id.home ≡ host_home → id.index < home_blocks → total id cube.dim (opening cube) ≡ 1
  one_at_host home index =
      omega (arith, opening_total, none_at_nodes (omega (arith, nodes_small)), count-inside id host_home 0 home_blocks home (omega arith) (omega (arith, index)))

  pub opening_owner : IsBlockOf cube.dim id → total id cube.dim (opening cube) ≡ 1
  opening_owner block = elim block.home [ inl node ↦ one_at_node node block.index | inr host ↦ one_at_host host block.index ]

  -- a block that is held is one of the cube
  pub opening_block : 1 ≤ total id cube.dim (opening cube) → IsBlockOf cube.dim id
  opening_block some =
      let index : id.index < home_blocks = elim (cases_lt id.index home_blocks) [
        | inl within ↦ within
        | inr past ↦
            absurd (omega (
              arith,
              some,
              opening_total,
              count-outside id host_home 0 home_blocks (inr (omega (arith, past))),
              sum_run-zero (λ r. count id (blocks_of_home r)) 0 n (λ k low high. count-outside id k 0 home_blocks (inr (omega (arith, past)))),
            ))
      ] in
      elim (cases_lt id.home n) [
        | inl within ↦ record { home = inl within; index = index }
        | inr past ↦ elim (cases_eq id.home host_home) [
          | inl same ↦ record { home = inr same; index = index }
          | inr differ ↦ absurd (omega (arith, some, opening_total, none_at_nodes past, count-other_home id host_home 0 home_blocks differ))
        ]
      ]

pub fresh_sound : (cube : Cube) → IsCube cube → IsSound cube (opening cube)
fresh_sound cube of = record {
  nodes = λ r below. fresh_node cube r;
  records = λ r below. record {
    numbered = record { rising = tt; below = tt };
    own = tt;
    one_start = λ pid. omega arith;
    one_kill = λ pid. omega arith;
    start_first = λ pid. tt;
    ids = tt;
    spawned_once = tt;
    killed = tt;
    killed_once = tt;
  };
  host = record { numbered = record { rising = tt; below = tt }; own = tt };
  hoststore = rising-home host_home;
  owners = λ id block. holders-total id cube.dim (opening cube) ∙ opening_owner cube of id block;
  blocks = all-of_map (IsBlockOf cube.dim) (λ (holding : HeldName). holding.1) (holdings cube.dim (opening cube))
      (all-from_names (IsBlockOf cube.dim) (names (holdings cube.dim (opening cube)))
      (λ id some. opening_block cube of id (omega (arith, some, names-total id cube.dim (opening cube)))));
  dispatches = omega arith;
}

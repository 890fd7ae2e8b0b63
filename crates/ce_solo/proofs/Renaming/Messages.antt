-- Each kernel call does on a node with other names for its blocks what it does on the node.
use Rattle.std.proofs.Common.{◌≡◌, ℕ, ◌+◌, ◌^◌, not, ◌||◌, nat_lt, List, [], ◌∷◌, ◌++◌, length, map, take, drop, replicate, zip, Option, Some, None, IfSome, Result, Ok, Err, refl, ap, ◌∙◌}
use Rattle.std.specs.List.{list_all, AllByRecursion}
use Rattle.std.proofs.lemmas.List.{length-map, take-map, drop-map}
use Rattle.rv_model.specs.declared.stop.Stop.{Stop}
use Rattle.rv_model.specs.declared.stop.Stop.TheVariants.{Exited, NoCall, TurnSpent}
use Rattle.ce_model.specs.declared.process.Status.TheVariants.{Asking, Polling}
use Rattle.ce_model.specs.declared.topology.Place.{Place}
use Rattle.ce_model.specs.declared.topology.BlockId.{BlockId}
use Rattle.ce_model.specs.Limits.{block_room, window_count, greatest_targets, turn_calls}
use Rattle.ce_model.specs.Blocks.{Block, with_id}
use Rattle.ce_model.specs.Space.{window_start, has_unused_window, block_named, mapped_space, result_map, places_at}
use Rattle.ce_model.specs.Process.{Process, argument, call_number}
use Rattle.ce_model.specs.Node.{Turn, Node, is_place, send_call, spawn_call, kill_call, note_call}
use Rattle.ce_model.specs.Kernel.{CallOutcome, read_outcome, with_space, process_left_behind, map_outcome, xmalloc, free_outcome, xfree, xlength, is_target, place_named, send_outcome, xsend, copies_outcome, xmsend_block, xmsend, spawn, ckill, KernelCall, kernel_calls, kernel_call, counted_outcome, call_outcome, kernel}
use Rattle.ce_solo.proofs.Instructions.{any_ok}
use Rattle.ce_solo.proofs.Calls.{call_numbered}
use Rattle.ce_solo.proofs.Renaming.Lists.{zip-map}
use Rattle.ce_solo.proofs.Renaming.Memory.{found_with, named-renamed, places-renamed, mapped-renamed, unmapped-renamed, named-named, mapped-named, unmapped-named}
use Rattle.ce_solo.proofs.Renaming.Store.{AreNamed, put-named, put-renamed}
use Rattle.ce_solo.proofs.Renaming.Calls.{Names, node_with_names, process_with_names, AreDid, AreNamedBoth, IsCallAlike, if-alike, returns-alike, answers-alike, stops-alike, says-alike, waits-alike, reading-alike}

module _ (names : Names) where
  -- ---- blocks

  map_outcome-alike : (node : Node) (turn : Turn) (p : Process) (len : ℕ) (store : List BlockId) → AreNamedBoth names node p → AreNamed names.P store
      → AreDid names (map_outcome (node_with_names names node) turn (process_with_names names p) len (map names.rename store)) (map_outcome node turn p len store)
  map_outcome-alike node turn p len [] both named = answers-alike names node turn p 0 both
  map_outcome-alike node turn p len (id ∷ store) both named =
      let block : Block = record { id = id; bytes = replicate len 0 } in
      returns-alike names _ (record node { store = store }) turn _ (with_space p (mapped_space block p.space)) _ (window_start (length p.space.windows))
      refl (ap (with_space p) (mapped-renamed names.rename block p.space)) (ap window_start (length-map p.space.windows _))
      (record {
        around = record { store = named.1; processes = both.around.processes };
        own = mapped-named names.P block p.space named.0 both.own;
      })

  xmalloc-alike : IsCallAlike names xmalloc
  xmalloc-alike = record {
    did = λ node turn p both.
        if-alike names _ (nat_lt block_room (argument p 0) || not (has_unused_window p.space)) _ _ _ _
        (ap (λ used. nat_lt block_room (argument p 0) || not (nat_lt used window_count)) (length-map p.space.windows _))
        (answers-alike names node turn p 0 both) (map_outcome-alike node turn p (argument p 0) node.store both both.around.store);
  }

  process_without-same : (k : ℕ) (p : Process) → process_left_behind k (process_with_names names p) ≡ process_with_names names (process_left_behind k p)
  process_without-same k p = ap (with_space p) (unmapped-renamed names.rename k p.space)

  -- a call that does so with the block that the process names
  named-alike : (node : Node) (turn : Turn) (p : Process) (there here : ℕ × Block → CallOutcome) → AreNamedBoth names node p
      → ((found : ℕ × Block) → names.P found.1.id → AreDid names (there (found_with names.rename found)) (here found))
      → AreDid names (read_outcome (node_with_names names node) turn (process_with_names names p) (block_named (process_with_names names p).space (argument p 0)) there) (read_outcome node turn p (block_named p.space (argument p 0)) here)
  named-alike node turn p there here both each =
      reading-alike names node turn p (found_with names.rename) (λ found. names.P found.1.id) _ (block_named p.space (argument p 0)) there here both
      (named-renamed names.rename p.space (argument p 0)) (named-named names.P p.space (argument p 0) both.own) each

  frees-alike : (node : Node) (turn : Turn) (p : Process) (found : ℕ × Block) → AreNamedBoth names node p → names.P found.1.id
      → AreDid names (free_outcome (node_with_names names node) turn (process_with_names names p) (found_with names.rename found)) (free_outcome node turn p found)
  frees-alike node turn p found both new =
      returns-alike names _ (record node { store = with_id found.1.id node.store }) turn _ (process_left_behind found.0 p) 0 0
      (ap (λ store. record (node_with_names names node) { store = store }) (put-renamed names.rename names.P found.1.id node.store names.order new both.around.store))
      (process_without-same found.0 p) refl
      (record {
        around = record { store = put-named names.P found.1.id node.store new both.around.store; processes = both.around.processes };
        own = unmapped-named names.P found.0 p.space both.own;
      })

  xfree-alike : IsCallAlike names xfree
  xfree-alike = record {
    did = λ node turn p both. named-alike node turn p _ _ both (λ found new. frees-alike node turn p found both new);
  }

  xlength-alike : IsCallAlike names xlength
  xlength-alike = record {
    did = λ node turn p both. named-alike node turn p _ _ both (λ found new. answers-alike names node turn p (length found.1.bytes) both);
  }

  -- ---- messages

  send_outcome-alike : (node : Node) (turn : Turn) (p : Process) (found : ℕ × Block) → AreNamedBoth names node p
      → AreDid names (send_outcome (node_with_names names node) turn (process_with_names names p) (found_with names.rename found)) (send_outcome node turn p found)
  send_outcome-alike node turn p found both =
      if-alike names _ (is_target node (place_named p 1)) _ _ _ _ refl
      (says-alike names (node_with_names names node) node turn _ (process_left_behind found.0 p) _ (send_call turn.pid ((place_named p 1, found.1.id) ∷ []) found.1.bytes) refl (process_without-same found.0 p) refl)
      (answers-alike names node turn p 1 both)

  xsend-alike : IsCallAlike names xsend
  xsend-alike = record {
    did = λ node turn p both. named-alike node turn p _ _ both (λ found new. send_outcome-alike node turn p found both);
  }

  copies_outcome-alike : (node : Node) (turn : Turn) (p : Process) (found : ℕ × Block) (places : List Place) → AreNamedBoth names node p → names.P found.1.id
      → AreDid names (copies_outcome (node_with_names names node) turn (process_with_names names p) (found_with names.rename found) places) (copies_outcome node turn p found places)
  copies_outcome-alike node turn p found [] both new = frees-alike node turn p found both new
  copies_outcome-alike node turn p found (to ∷ others) both new =
      if-alike names _ (not (list_all (is_target node) (to ∷ others))) _ _ _ _ refl
      (answers-alike names node turn p 1 both)
      (if-alike names _ (nat_lt (length node.store) (length others)) _ _ _ _ (ap (λ n. nat_lt n (length others)) (length-map node.store names.rename))
      (answers-alike names node turn p 2 both)
      (says-alike names _ (record node { store = drop (length others) node.store }) turn _ (process_left_behind found.0 p) _
      (send_call turn.pid (zip (to ∷ others) (found.1.id ∷ take (length others) node.store)) found.1.bytes)
      (ap (λ store. record (node_with_names names node) { store = store }) (drop-map names.rename (length others) node.store))
      (process_without-same found.0 p)
      (ap (λ ids. send_call turn.pid (zip (to ∷ others) (names.rename found.1.id ∷ ids)) found.1.bytes) (take-map names.rename (length others) node.store)
      ∙ ap (λ targets. send_call turn.pid targets found.1.bytes) (zip-map names.rename (to ∷ others) (found.1.id ∷ take (length others) node.store)))))

  map_same : {X : Type 0} (r : Result X Stop) → r ≡ result_map (λ x. x) r
  map_same (Ok x) = refl
  map_same (Err cause) = refl

  xmsend_block-alike : (node : Node) (turn : Turn) (p : Process) (found : ℕ × Block) → AreNamedBoth names node p → names.P found.1.id
      → AreDid names (xmsend_block (node_with_names names node) turn (process_with_names names p) (found_with names.rename found)) (xmsend_block node turn p found)
  xmsend_block-alike node turn p found both new =
      if-alike names _ (nat_lt greatest_targets (argument p 1)) _ _ _ _ refl
      (answers-alike names node turn p 3 both)
      (reading-alike names node turn p (λ places. places) (λ places. Unit {0}) _ (places_at p.space (argument p 2) (argument p 1)) _ _ both
      (places-renamed names.rename p.space (argument p 2) (argument p 1) ∙ map_same (places_at p.space (argument p 2) (argument p 1)))
      (any_ok (places_at p.space (argument p 2) (argument p 1)))
      (λ places is. copies_outcome-alike node turn p found places both new))

  xmsend-alike : IsCallAlike names xmsend
  xmsend-alike = record {
    did = λ node turn p both. named-alike node turn p _ _ both (λ found new. xmsend_block-alike node turn p found both new);
  }

  -- ---- processes

  spawn-alike : IsCallAlike names spawn
  spawn-alike = record {
    did = λ node turn p both.
        if-alike names _ (not (is_place node.dim (place_named p 1))) _ _ _ _ refl
        (answers-alike names node turn p 1 both)
        (if-alike names _ (nat_lt (argument p 0) node.images) _ _ _ _ refl
        (says-alike names (node_with_names names node) node turn (process_with_names names p) p _ (spawn_call turn.pid (argument p 0) (place_named p 1)) refl refl refl)
        (answers-alike names node turn p 3 both));
  }

  ckill-alike : IsCallAlike names ckill
  ckill-alike = record {
    did = λ node turn p both.
        if-alike names _ (is_place node.dim (place_named p 0)) _ _ _ _ refl
        (says-alike names (node_with_names names node) node turn (process_with_names names p) p _ (kill_call turn.pid (place_named p 0)) refl refl refl)
        (answers-alike names node turn p 1 both);
  }

  -- ---- all calls

  calls-alike : AllByRecursion (λ call. IsCallAlike names call.outcome) kernel_calls
  unfolding kernel_calls
  calls-alike = (
    xmalloc-alike,
    (
      xfree-alike,
      (
        xlength-alike,
        (
          xsend-alike,
          (
            xmsend-alike,
            (
              record { did = λ node turn p both. waits-alike names node turn p Polling (node.polling_ids ++ turn.pid ∷ []) },
              (
                record { did = λ node turn p both. waits-alike names node turn p Asking node.polling_ids },
                (
                  spawn-alike,
                  (
                    ckill-alike,
                    (
                      record { did = λ node turn p both. answers-alike names node turn p node.number both },
                      (
                        record { did = λ node turn p both. answers-alike names node turn p turn.pid both },
                        (
                          record { did = λ node turn p both. answers-alike names node turn p (2 ^ node.dim) both },
                          (
                            record { did = λ node turn p both. stops-alike names node turn p (Exited (argument p 0)) both },
                            (
                              record {
                                did = λ node turn p both. says-alike names (node_with_names names node) node turn (process_with_names names p) p _ (note_call turn.pid (argument p 0)) refl refl refl;
                              },
                              tt,
                            ),
                          ),
                        ),
                      ),
                    ),
                  ),
                ),
              ),
            ),
          ),
        ),
      ),
    ),
  )

  counted-alike : (call : KernelCall) (node : Node) (turn : Turn) (p : Process) → IsCallAlike names call.outcome → AreNamedBoth names node p
      → AreDid names (counted_outcome call (node_with_names names node) turn (process_with_names names p)) (counted_outcome call node turn p)
  counted-alike call node turn p alike both =
      if-alike names _ (nat_lt turn.calls turn_calls) _ _ _ _ refl
      (alike.did node (record turn { calls = turn.calls + 1 }) p both) (stops-alike names node turn p TurnSpent both)

  does-alike : (call : Option KernelCall) (node : Node) (turn : Turn) (p : Process) → IfSome call (λ call. IsCallAlike names call.outcome) → AreNamedBoth names node p
      → AreDid names (call_outcome call (node_with_names names node) turn (process_with_names names p)) (call_outcome call node turn p)
  does-alike None node turn p alike both = stops-alike names node turn p (NoCall (call_number p)) both
  does-alike (Some call) node turn p alike both =
      if-alike names _ call.is_counted _ _ _ _ refl (counted-alike call node turn p alike both) (alike.did node turn p both)

  pub kernel-alike : (node : Node) (turn : Turn) (p : Process) → AreNamedBoth names node p
      → AreDid names (kernel (node_with_names names node) turn (process_with_names names p)) (kernel node turn p)
  unfolding kernel
  kernel-alike node turn p both =
      does-alike (kernel_call (call_number p)) node turn p
      (call_numbered (λ call. IsCallAlike names call.outcome) (call_number p) calls-alike) both

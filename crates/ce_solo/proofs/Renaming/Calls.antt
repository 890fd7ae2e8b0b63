-- What a kernel call comes to on a node with other names for its blocks: the ways in which it comes
-- out.
use Rattle.std.proofs.Common.{◌≡◌, ℕ, Bool, if◌then◌else◌, List, Some, None, Result, Ok, Err, IfOk, refl, ap, ap₂, sym, subst, ◌∙◌}
use Rattle.rv_model.specs.declared.stop.Stop.{Stop}
use Rattle.ce_model.specs.declared.process.Status.{Status}
use Rattle.ce_model.specs.declared.topology.BlockId.{BlockId}
use Rattle.ce_model.specs.Process.{Process, with_answer}
use Rattle.ce_model.specs.Node.{Turn, Node, Call}
use Rattle.ce_model.specs.Kernel.{CallOutcome, continuation, departure, turn_conclusion, return_outcome, stop_outcome, leave_outcome, read_outcome, wait_outcome}
use Rattle.ce_model.specs.Space.{result_map}
use Rattle.ce_model.specs.Renaming.{renamed_process, renamed_call_blocks}
use Rattle.ce_solo.proofs.Renaming.Lists.{if_both}
use Rattle.ce_solo.proofs.Renaming.Memory.{IsNamedSpace}
use Rattle.ce_solo.proofs.Renaming.Store.{IsOrderKept}
use Rattle.ce_solo.proofs.Renaming.Nodes.{IsNamed, node_with, with_process-named, with_process-renamed, with_stopped-renamed}

-- other names for the blocks of a node, and for its home, which keep the order of all names with a
-- property
pub record Names : Type 1 where
  pub rename : BlockId → BlockId
  pub home : ℕ → ℕ
  pub P : BlockId → Type 0
  pub order : IsOrderKept rename P

module _ (names : Names) where
  -- the node, the process and the call with the other names
  abbrev pub node_with_names : Node → Node
  node_with_names node = node_with names.rename names.home node

  abbrev pub process_with_names : Process → Process
  process_with_names p = renamed_process names.rename p

  abbrev pub outcome_with_names : CallOutcome → CallOutcome
  outcome_with_names (continuation node turn) = continuation (node_with_names node) turn
  outcome_with_names (departure node call) = departure (node_with_names node) (renamed_call_blocks names.rename call)
  outcome_with_names (turn_conclusion node) = turn_conclusion (node_with_names node)

  -- where the turn goes on, the node's blocks have names with the property still
  abbrev pub IsNamedDid : CallOutcome → Type 0
  IsNamedDid (continuation node turn) = IsNamed names.P node
  IsNamedDid (departure node call) = Unit {0}
  IsNamedDid (turn_conclusion node) = Unit {0}

  -- the one is the other with the other names
  pub record AreDid (there here : CallOutcome) : Type 0 where
    pub same : there ≡ outcome_with_names here
    pub named : IsNamedDid here

  -- a process in its turn, and its node, have names with the property
  pub record AreNamedBoth (node : Node) (p : Process) : Type 0 where
    pub around : IsNamed names.P node
    pub own : IsNamedSpace names.P p.space

  -- a kernel call does on the node with the other names what it does on the node
  pub record IsCallAlike (does : Node → Turn → Process → CallOutcome) : Type 0 where
    pub did : (node : Node) (turn : Turn) (p : Process) → AreNamedBoth node p → AreDid (does (node_with_names node) turn (process_with_names p)) (does node turn p)

  pub if-alike : (test' test : Bool) (x y x' y' : CallOutcome) → test' ≡ test → AreDid x x' → AreDid y y'
      → AreDid (if test' then x else y) (if test then x' else y')
  if-alike test' test x y x' y' same here there =
      subst (λ t. AreDid (if t then x else y) (if test then x' else y')) (sym same) (if_both AreDid test x y x' y' here there)

  pub returns-alike : (node' node : Node) (turn : Turn) (p' p : Process) (value' value : ℕ) → node' ≡ node_with_names node → p' ≡ process_with_names p → value' ≡ value
      → AreNamedBoth node p → AreDid (return_outcome node' turn p' value') (return_outcome node turn p value)
  returns-alike node' node turn p' p value' value of_node of_process of_value named = record {
    same = ap₂ (λ node p. return_outcome node turn p value') of_node of_process
        ∙ ap (λ value. return_outcome (node_with_names node) turn (process_with_names p) value) of_value
        ∙ ap (λ node. continuation node turn) (with_process-renamed names.rename names.home node turn.pid (with_answer value p));
    named = with_process-named names.P node turn.pid (with_answer value p) named.around named.own;
  }

  -- the call returns, and changes nothing else
  pub answers-alike : (node : Node) (turn : Turn) (p : Process) (value : ℕ) → AreNamedBoth node p
      → AreDid (return_outcome (node_with_names node) turn (process_with_names p) value) (return_outcome node turn p value)
  answers-alike node turn p value named = returns-alike (node_with_names node) node turn (process_with_names p) p value value refl refl refl named

  pub stops-alike : (node : Node) (turn : Turn) (p : Process) (cause : Stop) → AreNamedBoth node p
      → AreDid (stop_outcome (node_with_names node) turn (process_with_names p) cause) (stop_outcome node turn p cause)
  stops-alike node turn p cause named = record {
    same = ap turn_conclusion (with_stopped-renamed names.rename names.home names.P node turn.pid p cause names.order named.around named.own);
    named = tt;
  }

  pub says-alike : (node' node : Node) (turn : Turn) (p' p : Process) (call' call : Call) → node' ≡ node_with_names node → p' ≡ process_with_names p → call' ≡ renamed_call_blocks names.rename call
      → AreDid (leave_outcome node' turn p' call') (leave_outcome node turn p call)
  says-alike node' node turn p' p call' call of_node of_process of_call = record {
    same = ap₂ (λ node p. leave_outcome node turn p call') of_node of_process
        ∙ ap₂ (λ node call. departure (record node { turn = Some turn }) call) (with_process-renamed names.rename names.home node turn.pid p) of_call;
    named = tt;
  }

  pub waits-alike : (node : Node) (turn : Turn) (p : Process) (status : Status) (polling : List ℕ)
      → AreDid (wait_outcome (node_with_names node) turn (process_with_names p) status polling) (wait_outcome node turn p status polling)
  waits-alike node turn p status polling = record {
    same = ap (λ node. turn_conclusion (record node { polling_ids = polling; turn = None }))
        (with_process-renamed names.rename names.home node turn.pid (record p { status = status }));
    named = tt;
  }

  pub reading-alike : {X : Type 0} (node : Node) (turn : Turn) (p : Process) (g : X → X) (Q : X → Type 0) (r' r : Result X Stop) (there here : X → CallOutcome)
      → AreNamedBoth node p → r' ≡ result_map g r → IfOk r Q → ((x : X) → Q x → AreDid (there (g x)) (here x))
      → AreDid (read_outcome (node_with_names node) turn (process_with_names p) r' there) (read_outcome node turn p r here)
  reading-alike node turn p g Q r' (Ok x) there here named same read each =
      subst (λ r. AreDid (read_outcome (node_with_names node) turn (process_with_names p) r there) (here x)) (sym same) (each x read)
  reading-alike node turn p g Q r' (Err cause) there here named same read each =
      subst (λ r. AreDid (read_outcome (node_with_names node) turn (process_with_names p) r there) (stop_outcome node turn p cause)) (sym same) (stops-alike node turn p cause named)

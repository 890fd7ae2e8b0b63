-- A call of a crew's host leaves all but the host in step.
use Rattle.std.proofs.Common.{ℕ, ◌+◌, ◌^◌, ◌<◌, List, [], ◌∷◌, ◌++◌, length, refl, ap, sym, ◌∙◌, subst, arith, length-append}
use Rattle.ce_model.specs.declared.topology.TheConstants.{HOST}
use Rattle.ce_model.specs.declared.entry.Entry.{Entry}
use Rattle.ce_model.specs.Renaming.{CubeGrant, entry_inward}
use Rattle.ce_model.specs.Views.{view}
use Rattle.ce_model.specs.Machine.{MachineParts, IsMachine, after, IsFitting, what_of_request}
use Rattle.ce_model.specs.Literals.{host_entry}
use Rattle.rk_node.specs.Boxes.{Box, home_of}
use Rattle.ce_machine.specs.Meanings.{MachineFacts}
use Rattle.ce_machine.specs.declared.call.Call.{Call}
use Rattle.ce_machine.specs.declared.call.Call.TheVariants.{Freecube}
use Rattle.ce_machine.specs.declared.call.Reply.{Reply}
use Rattle.ce_machine.specs.Requests.{HasBroughtBoxes, IsFittingCall}
use Rattle.rk_node.specs.Boxes.{IsCleanBox}
use Rattle.ce_cube.specs.Boxes.{IsNextCubeEntry, IsInStep}
use Rattle.ce_cube.specs.Crews.{IsLawfulMachine, box_at, CrewFacts}
use Rattle.ce_daemon.specs.Peeks.{cube_grant}
use Rattle.ce_cube.proofs.Adds.{calls-add}
use Rattle.ce_cube.proofs.Crewing.{view-short}
use Rattle.ce_run.specs.Asking.{HasAsked, AreNodesInStep, IsHostCall, HasHostCalled}

-- ---- a call of a cube

-- a call of a cube brings no boxes
brings-none : (history : List Entry) (user : ℕ) (call : Call Box) (parts : MachineParts) → IsHostCall parts history user call → HasBroughtBoxes home_of IsCleanBox history user call
brings-none history user (Freecube boxes) parts host = let is = host.is in absurd (cc)
brings-none history user other parts host = tt

pub host-fits : (parts : MachineParts) (history : List Entry) (user : ℕ) (call : Call Box) → IsMachine parts → IsHostCall parts history user call
    → IsFittingCall home_of IsCleanBox parts history (record { family = user; actor = HOST }) call
host-fits parts history user call machine host = record {
  machine = machine;
  fits = subst (λ request. IsFitting parts history user HOST request) (sym host.is) host.fits;
  boxes = brings-none history user call parts host;
}

module _ (before behind : MachineFacts) (crew : CrewFacts) (call : Call Box) (reply : Reply Box) (machine : IsLawfulMachine before)
    (nodes : AreNodesInStep before.parts before.history crew) (host : IsHostCall before.parts before.history crew.grant.user call)
    (asked : HasAsked before behind crew.grant.user call reply) where
  abbrev made : Entry
  made = host_entry crew.grant.user asked.what

  abbrev grant : CubeGrant
  grant = cube_grant crew.grant

  one : IsNextCubeEntry before.parts before.history crew.grant.number grant made
  one = calls-add before.parts before.history crew.grant.number grant machine.within machine.lawful nodes.held HOST host.inner made host.fits
      (record { user = refl; actor_is = refl; what = ap (what_of_request before.parts (after before.history) crew.grant.user HOST) (sym host.is) ∙ asked.answer })

  abbrev crew' : CrewFacts
  crew' = record crew { entries = crew.entries + 1 }

  nodes_behind : AreNodesInStep before.parts (before.history ++ made ∷ []) crew'
  nodes_behind = record {
    held = one.held;
    boxes = record {
      all = nodes.boxes.all;
      ready = nodes.boxes.ready;
      in_step = λ r below. subst (λ node. IsInStep grant node (box_at crew.boxes r).node) (sym (one.all refl r below)) (nodes.boxes.in_step r below);
    };
    entries = ap (λ n. n + 1) nodes.entries
        ∙ sym (ap length one.trace ∙ length-append (view before.history crew.grant.number) (entry_inward crew.grant.sub made ∷ []));
  }

  pub has-called : HasHostCalled before behind crew crew' call reply
  has-called = record {
    exchange = asked;
    crew_is = refl;
    nodes = subst (λ h. AreNodesInStep before.parts h crew') (sym asked.history) nodes_behind;
    trace = ap (λ h. view h crew.grant.number) asked.history ∙ one.trace;
  }

  pub entries-fit : crew.entries + 1 < 2 ^ 64
  entries-fit = omega (arith, nodes.entries, view-short before.history crew.grant.number, asked.few, ap length asked.history, length-append before.history (made ∷ []))

-- A node of a cube beside others: what these leave of it, and how it goes on.
use Rattle.std.proofs.Common.{◌≡◌, ℕ, ◌^◌, ◌<◌, false, List, [], ◌++◌, length, refl, ap, ap₂, sym, ◌∙◌, subst, append-nil, append_assoc}
use Rattle.std.specs.Prelude.{IsTrue, is_some}
use Rattle.ce_model.specs.declared.entry.Entry.{Entry}
use Rattle.ce_model.specs.Answers.{recorded_call}
use Rattle.ce_model.specs.Subcubes.{node_of}
use Rattle.ce_model.specs.Machine.{IsLawful}
use Rattle.ce_daemon.specs.declared.grant.Grant.{Grant}
use Rattle.rk_node.specs.Boxes.{Box}
use Rattle.ce_lock.proofs.Histories.{own_append}
use Rattle.ce_machine.specs.Meanings.{MachineFacts, whose, is_alone_entry}
use Rattle.ce_solo.proofs.Lists.{all-append}
use Rattle.ce_cube.specs.Boxes.{IsStandIn}
use Rattle.ce_cube.specs.Beside.{AreNotMadeAlone, AreEntriesBeside}
use Rattle.ce_daemon.specs.Peeks.{cube_grant}
use Rattle.ce_cube.specs.Exchanges.{HasNode, IsBoxOfNode, machine_node}
use Rattle.ce_cube.specs.Dispatches.{node_entries, HasNodeGoneOnBeside}
use Rattle.ce_cube.proofs.Beside.{beside-keeps}

module _ (before : MachineFacts) (grant : Grant) (r : ℕ) (was : HasNode before grant r) where
  pub grown-none : length before.history < 2 ^ 63 → HasNodeGoneOnBeside before before grant r [] []
  grown-none few = record {
    parts = refl;
    history = sym (append-nil before.history);
    own = refl;
    beside = tt;
    calls = tt;
    node = was;
    few = few;
  }

  module _ (more : List Entry) (lawful : IsLawful before.parts (before.history ++ more)) (beside : AreNotMadeAlone grant.user more)
      (none : node_entries grant r more ≡ []) (few : length (before.history ++ more) < 2 ^ 63) where
    -- the machine behind entries of others
    abbrev pub waited : MachineFacts
    waited = record { parts = before.parts; history = before.history ++ more }

    held : AreEntriesBeside before.parts before.history grant.number (cube_grant grant) more
    held = beside-keeps before.parts before.history grant.number (cube_grant grant) was.sound.within was.sound.lawful was.held more lawful beside

    pub grown-wait : HasNodeGoneOnBeside before waited grant r more []
    grown-wait = record {
      parts = refl;
      history = refl;
      own = none;
      beside = beside;
      calls = tt;
      node = record { sound = record { within = was.sound.within; lawful = lawful }; held = held.held; within = was.within };
      few = few;
    }

    pub node-waits : machine_node waited grant r ≡ machine_node before grant r
    node-waits = held.nodes r was.within none

    pub box-waits : (box : Box) → IsBoxOfNode before grant r box → IsBoxOfNode waited grant r box
    box-waits box is = record { ready = is.ready; stands = subst (λ node. IsStandIn (cube_grant grant) node box.node) (sym node-waits) is.stands }

pub grown-on : (before now after : MachineFacts) (grant : Grant) (r : ℕ) (more more' made made' : List Entry) → HasNodeGoneOnBeside before now grant r more made
    → HasNodeGoneOnBeside now after grant r more' made' → HasNodeGoneOnBeside before after grant r (more ++ more') (made ++ made')
grown-on before now after grant r more more' made made' first next = record {
  parts = next.parts ∙ first.parts;
  history = next.history ∙ ap (λ h. h ++ more') first.history ∙ append_assoc before.history more more';
  own = own_append whose (record { family = grant.user; actor = node_of grant.sub r }) more more' ∙ ap₂ (λ xs ys. xs ++ ys) first.own next.own;
  beside = all-append (λ (entry : Entry). entry.user ≡ grant.user → is_alone_entry entry ≡ false) more more' first.beside next.beside;
  calls = all-append (λ (entry : Entry). (entry.user ≡ grant.user) × IsTrue (is_some (recorded_call entry.what))) made made' first.calls next.calls;
  node = next.node;
  few = next.few;
}

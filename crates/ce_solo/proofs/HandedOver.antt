-- A parcel that a Take was answered with is for a process that asks, or for one that has stopped.
use Rattle.std.proofs.Common.{◌≡◌, ◌⊎◌, ℕ, zero, suc, ◌+◌, ◌*◌, ◌/◌, ◌%◌, ◌^◌, ◌<◌, Bool, true, false, ◌||◌, ◌==◌, if◌then◌else◌, List, [], ◌∷◌, find, slice_index_or, Option, Some, None, refl, ap, sym, ◌∙◌, subst, arith, inl, inr}
use Rattle.std.proofs.lemmas.Bool.{eq-eqb, eqb-true, ne_eqb, or_cases}
use Rattle.std.proofs.lemmas.Nat.Bits.{bit_at_lowest, bit_at-suc, bit_at-zero}
use Rattle.ce_model.specs.declared.process.Status.{Status}
use Rattle.ce_model.specs.declared.entry.Entry.{Entry}
use Rattle.ce_model.specs.declared.entry.What.TheVariants.{Take}
use Rattle.ce_model.specs.declared.entry.TakeResult.TheVariants.{Mail}
use Rattle.ce_model.specs.Parcels.{Parcel, Item, start, mail, kill, is_member, is_eligible}
use Rattle.ce_model.specs.Process.{Process, unborn_process, is_stopped}
use Rattle.ce_model.specs.Node.{Node, process_at, Call, take_call, send_call, spawn_call, kill_call, note_call, arm_call, look_call, mail_call, process_set, take_call_of}
use Rattle.ce_model.specs.Answers.{offer_of, is_used_up, answer}
use Rattle.ce_model.specs.Saying.{says}
use Rattle.ce_model.specs.Cube.{Cube, CubeState, IsCube, node_numbers, Wish}
use Rattle.ce_model.specs.Sound.{IsSound}
use Rattle.ce_model.proofs.Subcubes.{find-passes}
use Rattle.ce_solo.proofs.Words.{HasMadeCall}
use Rattle.ce_solo.proofs.Sending.{not_host}
use Rattle.ce_solo.proofs.Made.{IsMadeCall, by_host, by_node, made-leaves}
use Rattle.ce_solo.proofs.Stands.{IsEntryOf}

-- ---- sets of ids

-- one bit in front of others
bit_first : (b : Bool) (rest : ℕ) → ((if b then 1 else 0) + 2 * rest) % 2 == 1 ≡ b
bit_first true rest = eq-eqb _ 1 (omega arith)
bit_first false rest = ne_eqb _ 1 (λ e. omega (arith, e))

bits_behind : (b : Bool) (rest : ℕ) → ((if b then 1 else 0) + 2 * rest) / 2 ≡ rest
bits_behind true rest = omega arith
bits_behind false rest = omega arith

pub member-of : (test : Status → Bool) (ps : List Process) (pid : ℕ) → is_member pid (process_set test ps) ≡ true → test (slice_index_or ps pid unborn_process).status ≡ true
member-of test [] pid h = absurd (omega (arith, eqb-true _ 1 h, bit_at-zero pid))
member-of test (p ∷ ps) zero h =
    sym (bit_first (test p.status) (process_set test ps)) ∙ ap (λ n. n == 1) (sym (bit_at_lowest (process_set test (p ∷ ps)))) ∙ h
member-of test (p ∷ ps) (suc pid) h =
    member-of test ps pid
    (ap (λ n. is_member pid n) (sym (bits_behind (test p.status) (process_set test ps))) ∙ ap (λ n. n == 1) (sym (bit_at-suc (process_set test (p ∷ ps)) pid)) ∙ h)

-- ---- what a Take is answered

-- a Take is answered with a parcel that is the first item that can be given
pub record IsMailFound (asking dead : ℕ) (items : List Item) (pid number : ℕ) : Type 0 where
  pub parcel : Parcel
  pub found : find (is_eligible asking dead) items ≡ Some (mail parcel)
  pub receiver : parcel.to.pid ≡ pid
  pub number_is : parcel.number ≡ number

mail_found : (asking dead : ℕ) (items : List Item) (pid number : ℕ) (found : Option Item) (poller : Option ℕ) (used : Bool) → find (is_eligible asking dead) items ≡ found
    → offer_of found poller used ≡ Mail pid number → IsMailFound asking dead items pid number
mail_found asking dead items pid number (Some item) poller true f e = absurd (cc)
mail_found asking dead items pid number (Some (start p image)) poller false f e = absurd (cc)
mail_found asking dead items pid number (Some (mail parcel)) poller false f e =
    let receiver : parcel.to.pid ≡ pid = cc in let same : parcel.number ≡ number = cc in record { parcel = parcel; found = f; receiver = receiver; number_is = same }
mail_found asking dead items pid number (Some (kill p)) poller false f e = absurd (cc)
mail_found asking dead items pid number None (Some p) true f e = absurd (cc)
mail_found asking dead items pid number None (Some p) false f e = absurd (cc)
mail_found asking dead items pid number None None used f e = absurd (cc)

-- a node's entry that is a Take answered with a parcel
pub record IsMailTaken (cube : Cube) (s : CubeState) (r asking dead pid number : ℕ) : Type 0 where
  pub poller : Option ℕ
  pub said : HasMadeCall (s.node r) (says (s.node r)).node (take_call asking dead poller)
  pub mail_is : IsMailFound asking dead (s.standing.node_record r).waiting_items pid number

module _ (cube : Cube) (s : CubeState) (of : IsCube cube) (sound : IsSound cube s) (r asking dead pid number : ℕ) (poller : Option ℕ) (below : r < 2 ^ cube.dim) where
  taken-by : (call : Call) → (says (s.node r)).call ≡ call → answer (node_numbers cube.dim) s.standing r call ≡ Take asking dead poller (Mail pid number)
      → IsMailTaken cube s r asking dead pid number
  unfolding answer
  taken-by (take_call a d p) says e =
      let same_asking : a ≡ asking = cc in
      let same_dead : d ≡ dead = cc in
      let given : offer_of (find (is_eligible a d) (s.standing.node_record r).waiting_items) p (is_used_up s.standing) ≡ Mail pid number = cc in
      subst (λ a. IsMailTaken cube s r a dead pid number) same_asking
      (subst (λ d. IsMailTaken cube s r a d pid number) same_dead
      (record {
        poller = p;
        said = made-leaves cube s r (take_call a d p) of below sound says;
        mail_is = mail_found a d (s.standing.node_record r).waiting_items pid number (find (is_eligible a d) (s.standing.node_record r).waiting_items) p (is_used_up s.standing) refl given;
      }))
  taken-by (send_call p to bytes) says e = absurd (cc)
  taken-by (spawn_call p image to) says e = absurd (cc)
  taken-by (kill_call p to) says e = absurd (cc)
  taken-by (note_call p word) says e = absurd (cc)
  taken-by (arm_call count) says e = absurd (cc)
  taken-by look_call says e = absurd (cc)
  taken-by mail_call says e = absurd (cc)

  made-taken : (actor : ℕ) (wish : Option Wish) (call : Call) → actor ≡ r → IsMadeCall cube s actor wish call
      → answer (node_numbers cube.dim) s.standing r call ≡ Take asking dead poller (Mail pid number) → IsMailTaken cube s r asking dead pid number
  made-taken actor wish call same (by_host is e) what = absurd (omega (arith, not_host cube r of below))
  made-taken actor wish call same (by_node low e) what = taken-by call (ap (λ q. (says (s.node q)).call) (sym same) ∙ e) what

  pub entry-taken : (user : ℕ) → IsEntryOf cube s (record { user = user; actor = r; what = Take asking dead poller (Mail pid number) }) → IsMailTaken cube s r asking dead pid number
  entry-taken user e =
      let actor : e.actor ≡ r = ap (λ (entry : Entry). entry.actor) (sym e.is) in
      made-taken e.actor e.wish e.call actor e.by
      (ap (λ q. answer (node_numbers cube.dim) s.standing q e.call) (sym actor) ∙ ap (λ (entry : Entry). entry.what) (sym e.is))

-- the masks of a Take are of its node
pub dead-of : (node : Node) (asking dead pid : ℕ) (poller : Option ℕ) → take_call asking dead poller ≡ take_call_of node → is_member pid dead ≡ true → is_stopped (process_at node pid).status ≡ true
dead-of node asking dead pid poller same h =
    let is : dead ≡ process_set is_stopped node.processes = cc in
    member-of is_stopped node.processes pid (ap (is_member pid) (sym is) ∙ h)

-- a parcel that is taken is for a process that asks, or that has stopped by now
pub taken-for : (cube : Cube) (s : CubeState) (r asking dead pid number : ℕ) → IsMailTaken cube s r asking dead pid number
    → (is_member pid asking ≡ true) ⊎ (is_stopped (process_at (says (s.node r)).node pid).status ≡ true)
taken-for cube s r asking dead pid number taken =
    let passes = find-passes (is_eligible asking dead) (s.standing.node_record r).waiting_items (mail taken.mail_is.parcel) taken.mail_is.found in
    let can : (is_member pid asking || is_member pid dead) ≡ true = subst (λ p. (is_member p asking || is_member p dead) ≡ true) taken.mail_is.receiver passes in
    elim (or_cases (is_member pid asking) (is_member pid dead) can) [
      | inl t ↦ inl t
      | inr t ↦ inr (dead-of (says (s.node r)).node asking dead pid taken.poller taken.said.of_node.0 t)
    ]

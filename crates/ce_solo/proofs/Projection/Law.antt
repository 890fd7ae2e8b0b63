-- Of every lawful history the view of each grant is a trace that its cube gives alone.
use Rattle.std.proofs.Common.{◌≡◌, ℕ, ◌<◌, true, false, List, [], ◌∷◌, ◌++◌, Option, Some, None, IfSome, IsSomeAnd, option_map, refl, ap, sym, ◌∙◌, subst, inr}
use Rattle.std.proofs.lemmas.Bool.{eqb-true}
use Rattle.std.proofs.lemmas.List.Sums.{fold-append}
use Rattle.ce_model.specs.declared.topology.Subcube.{Subcube}
use Rattle.ce_model.specs.declared.entry.Entry.{Entry}
use Rattle.ce_model.specs.declared.entry.What.{What}
use Rattle.ce_model.specs.declared.entry.What.TheVariants.{Getcube, Peek, Drain, Freecube}
use Rattle.ce_model.specs.Node.{Call}
use Rattle.ce_model.specs.Trace.{NodeRecord}
use Rattle.ce_model.specs.Answers.{answer, recorded_call}
use Rattle.ce_model.specs.Cube.{opening, state_after_trace, IsNext, IsAlone}
use Rattle.ce_model.specs.Subcubes.{node_of, is_inside, first_free_subcube}
use Rattle.ce_model.specs.Renaming.{CubeGrant}
use Rattle.ce_model.specs.Views.{request_grant, trace_behind, history_behind_grant, view}
use Rattle.ce_model.specs.Machine.{MachineParts, IsMachine, HeldCube, MachineState, machine_opening, cube_held_by, is_free, nodes_of, cube_standing, cube_of, record_after_entry, cube_after_entry, with_cube, with_grant, with_drained_cube, without_cube, state_after_entry, state_after_call, after, Request, getcube, peek, drain, freecube, cube_request, with_places_outward, what_of_request, IsCallOf, IsFitting, IsLawfulEntry, IsLawful}
use Rattle.ce_model.proofs.Subcubes.{is_inside-node_of}
use Rattle.ce_model.proofs.Walked.{kept_by_each, each-more}
use Rattle.ce_model.proofs.AloneByEntries.{alone_by_entries}
use Rattle.ce_solo.specs.Laws.{ViewsAreAlone}
use Rattle.ce_solo.proofs.Projection.Views.{granted-same, found-more, is_over, over-more, no_drain, view-is}
use Rattle.ce_solo.proofs.Projection.Held.{held-user, held-own, held-other, record-own, record-other}
use Rattle.ce_solo.proofs.Projection.Invariant.{IsKept, IsHeld, IsByEntries, IsViewed, AreApart, IsProjected, IsNextState, projected-entry, or_false}
use Rattle.ce_solo.proofs.Projection.Own.{IsOwnEntry, own-entry, kept-behind, trace-behind}
use Rattle.ce_model.specs.Literals.{entry_of}
use Rattle.ce_solo.proofs.Projection.Kinds.{and_false, held-grant, idle-entry, grant-entry, drain-entry, free-entry}

no_grant : (user : ℕ) (what : What) (call : Call) → recorded_call what ≡ Some call → request_grant user what ≡ None
no_grant user (Getcube dim None) call e = absurd (cc)
no_grant user (Getcube dim (Some sub)) call e = absurd (cc)
no_grant user other call e = refl

some_cube : (x y : HeldCube) → Some x ≡ Some y → x ≡ y
some_cube x y e = cc

-- ---- an entry of a cube

module _ (parts : MachineParts) (machine : IsMachine parts) (state : MachineState) (h : List Entry) (before : IsProjected parts state h) (entry : Entry) (cube : HeldCube)
    (holds : cube_held_by state entry.user ≡ Some cube) (goes : cube.is_drained ≡ false) where
  abbrev was : IsHeld parts state h cube
  was = before.held entry.user cube holds

  abbrev alone : IsByEntries parts cube.grant (trace_behind cube.grant was.behind)
  alone = (before.views cube.number cube.grant was.behind was.found).alone

  abbrev change : HeldCube → HeldCube
  change cube = cube_after_entry entry cube

  abbrev change_record : HeldCube → ℕ → NodeRecord → NodeRecord
  change_record cube = record_after_entry cube.grant.sub entry

  abbrev now : MachineState
  now = with_cube entry.user change change_record state

  held_now : cube_held_by now entry.user ≡ Some (change cube)
  held_now = held-own entry.user change (λ cube. refl) change_record state cube holds

  is_now : (cube' : HeldCube) → cube_held_by now entry.user ≡ Some cube' → change cube ≡ cube'
  is_now cube' held = some_cube (change cube) cube' (sym held_now ∙ held)

  module _ (is : IsOwnEntry parts cube.grant (trace_behind cube.grant was.behind) entry) where
    trace-now : trace_behind cube.grant (was.behind ++ entry ∷ []) ≡ trace_behind cube.grant was.behind ++ is.inner ∷ []
    trace-now = trace-behind parts machine state h cube was goes alone entry is

    over-now : is_over cube.grant (was.behind ++ entry ∷ []) ≡ cube.is_drained
    over-now = over-more cube.grant was.behind entry ∙ or_false _ _ (and_false _ _ (no_drain entry.what is.call is.called)) ∙ was.over

    held-now : IsHeld parts now (h ++ entry ∷ []) (change cube)
    held-now = record {
      placed = was.placed;
      behind = was.behind ++ entry ∷ [];
      found = found-more h entry cube.number cube.grant was.behind was.found;
      over = over-now;
      kept = λ goes_on.
          subst (λ t. IsKept now.node_record (change cube) (state_after_trace (cube_of parts.images cube.grant) (opening (cube_of parts.images cube.grant)) t).standing) (sym trace-now)
          (kept-behind parts machine state h cube was goes alone entry now.node_record is
          (λ r below. record-own change_record (node_of cube.grant.sub r) (state.node_record (node_of cube.grant.sub r)) (cube_held_by state entry.user) cube holds
          (is_inside-node_of cube.grant.sub r was.placed.sub.apart (rw was.placed.sub.dimension below))));
    }

    viewed-now : IsViewed parts now cube.number cube.grant (was.behind ++ entry ∷ [])
    viewed-now = record {
      placed = was.placed;
      alone = subst (IsByEntries parts cube.grant) (sym trace-now)
          (each-more (IsNext (cube_of parts.images cube.grant) (opening (cube_of parts.images cube.grant))) (trace_behind cube.grant was.behind) is.inner alone is.next);
      last = inr (change cube, ap (cube_held_by now) (eqb-true _ _ (held-user state entry.user cube holds)) ∙ held_now, refl);
    }

    pub call-entry : IsNextState parts state h entry now
    call-entry = record {
      count = before.count ∙ sym (granted-same h entry (no_grant entry.user entry.what is.call is.called));
      others = λ other differ. held-other entry.user change (λ cube. refl) change_record state other differ;
      records = λ node outside. record-other change_record node (state.node_record node) (cube_held_by state entry.user) outside;
      own = λ cube' held. subst (IsHeld parts now (h ++ entry ∷ [])) (is_now cube' held) held-now;
      apart = λ cube' held other cube'' differ held''.
          subst (λ (c : HeldCube). AreApart c.grant.sub cube''.grant.sub) (is_now cube' held) (before.apart entry.user other cube cube'' differ holds held'');
      blank = λ cube' held node inside.
          inr (change cube, held_now, subst (λ (c : HeldCube). is_inside c.grant.sub node ≡ true) (some_cube cube' cube (sym held ∙ holds)) inside);
      view = λ number grant behind found lasts user.
          let g = held-grant parts state h before number grant behind found lasts in
          let same : g.cube ≡ cube = some_cube g.cube cube (sym g.holds ∙ ap (cube_held_by state) (sym (eqb-true _ _ user)) ∙ holds) in
          let num : cube.number ≡ number = ap (λ (c : HeldCube). c.number) (sym same) ∙ g.number_is in
          let both : Some (cube.grant, was.behind) ≡ Some (grant, behind) = sym was.found ∙ ap (history_behind_grant h) num ∙ found in
          let pair : (cube.grant, was.behind) ≡ (grant, behind) = cc in
          subst (λ (f : CubeGrant × List Entry). IsViewed parts now number f.0 (f.1 ++ entry ∷ [])) pair
          (subst (λ n. IsViewed parts now n cube.grant (was.behind ++ entry ∷ [])) num viewed-now);
      fresh = λ grant some. let none = no_grant entry.user entry.what is.call is.called in absurd (cc);
    }

-- ---- a lawful entry

pub after-more : (h : List Entry) (entry : Entry) → after (h ++ entry ∷ []) ≡ state_after_entry (after h) entry
unfolding after
after-more h entry = fold-append state_after_entry machine_opening h (entry ∷ [])

-- what holds of a history and of the state that it leaves
abbrev pub IsProjectedHistory : MachineParts → List Entry → Type 0
IsProjectedHistory parts h = IsProjected parts (after h) h

-- an entry behind a history does what it has to
abbrev pub IsNextStateBehind : MachineParts → List Entry → Entry → Type 0
IsNextStateBehind parts h entry = IsNextState parts (after h) h entry (after (h ++ entry ∷ []))

module _ (parts : MachineParts) (machine : IsMachine parts) (h : List Entry) (before : IsProjectedHistory parts h) where
  by_step : (entry : Entry) (state : MachineState) → state_after_entry (after h) entry ≡ state → IsNextState parts (after h) h entry state → IsNextStateBehind parts h entry
  by_step entry state e step = subst (IsNextState parts (after h) h entry) (sym (after-more h entry ∙ e)) step

  by_what : (entry : Entry) (what : What) → Some what ≡ Some entry.what → IsNextStateBehind parts h (entry_of entry.user entry.actor what) → IsNextStateBehind parts h entry
  by_what entry what e steps =
      let same : what ≡ entry.what = cc in subst (λ what. IsNextStateBehind parts h (entry_of entry.user entry.actor what)) same steps

  by_grant : (entry : Entry) (d : ℕ) (found : Option Subcube) → first_free_subcube (is_free (after h)) parts.dim d ≡ found → entry.user < parts.users
      → cube_held_by (after h) entry.user ≡ None → Some (Getcube d found) ≡ Some entry.what → IsNextStateBehind parts h entry
  by_grant entry d None is within none e =
      by_what entry (Getcube d None) e
      (by_step (entry_of entry.user entry.actor (Getcube d None)) (after h) refl
      (idle-entry parts (after h) h before (entry_of entry.user entry.actor (Getcube d None)) refl refl refl))
  by_grant entry d (Some sub) is within none e =
      by_what entry (Getcube d (Some sub)) e
      (by_step (entry_of entry.user entry.actor (Getcube d (Some sub))) (with_grant (record { user = entry.user; dim = d; sub = sub }) (after h)) refl
      (grant-entry parts (after h) h before machine entry.user entry.actor d sub within none is))

  by_drain : (entry : Entry) (held : Option HeldCube) → cube_held_by (after h) entry.user ≡ held → IsSomeAnd held (λ cube. cube.is_drained ≡ false)
      → Some Drain ≡ Some entry.what → IsNextStateBehind parts h entry
  by_drain entry None is some e = absurd some
  by_drain entry (Some cube) is some e =
      by_what entry Drain e
      (by_step (entry_of entry.user entry.actor Drain) (with_drained_cube entry.user (after h)) refl (drain-entry parts (after h) h before entry.user entry.actor cube is))

  by_free : (entry : Entry) (held : Option HeldCube) → cube_held_by (after h) entry.user ≡ held → IsSomeAnd held (λ cube. cube.is_drained ≡ true)
      → Some Freecube ≡ Some entry.what → IsNextStateBehind parts h entry
  by_free entry None is some e = absurd some
  by_free entry (Some cube) is some e =
      by_what entry Freecube e
      (by_step (entry_of entry.user entry.actor Freecube) (without_cube entry.user (after h)) refl (free-entry parts (after h) h before entry.user entry.actor cube is some))

  -- a call of a cube that is held makes its next entry
  pub own-called : (entry : Entry) (call : Call) (cube : HeldCube) (is : cube_held_by (after h) entry.user ≡ Some cube) → IsCallOf parts h entry.actor call cube
      → Some (answer (nodes_of cube.grant) (cube_standing (after h) cube) entry.actor (with_places_outward cube.grant call)) ≡ Some entry.what
      → IsOwnEntry parts cube.grant (trace_behind cube.grant (before.held entry.user cube is).behind) entry
  own-called entry call cube is fits e =
      let was = before.held entry.user cube is in
      let views = before.views cube.number cube.grant was.behind was.found in
      let what : answer (nodes_of cube.grant) (cube_standing (after h) cube) entry.actor (with_places_outward cube.grant call) ≡ entry.what = some_what _ _ e in
      own-entry parts machine (after h) h cube was fits.not_drained views.alone entry fits.inner (sym (eqb-true _ _ (held-user (after h) entry.user cube is))) fits.inside fits.next
      (ap (λ call. answer (nodes_of cube.grant) (cube_standing (after h) cube) entry.actor (with_places_outward cube.grant call)) fits.renamed ∙ what)
    where
      some_what : (x y : What) → Some x ≡ Some y → x ≡ y
      some_what x y e = ap (λ o. elim o [ None ↦ x | Some z ↦ z ]) e

  by_call : (entry : Entry) (call : Call) (held : Option HeldCube) → cube_held_by (after h) entry.user ≡ held → IsSomeAnd held (IsCallOf parts h entry.actor call)
      → option_map (λ cube. answer (nodes_of cube.grant) (cube_standing (after h) cube) entry.actor (with_places_outward cube.grant call)) held ≡ Some entry.what
      → IsNextStateBehind parts h entry
  by_call entry call None is some e = absurd some
  by_call entry call (Some cube) is fits e =
      let own = own-called entry call cube is fits e in
      by_step entry (with_cube entry.user (cube_after_entry entry) (λ cube. record_after_entry cube.grant.sub entry) (after h))
      (ap (λ call. state_after_call call entry (after h)) own.called)
      (call-entry parts machine (after h) h before entry cube is fits.not_drained own)

  by_request : (entry : Entry) (request : Request) → IsFitting parts h entry.user entry.actor request → what_of_request parts (after h) entry.user entry.actor request ≡ Some entry.what
      → IsNextStateBehind parts h entry
  by_request entry (getcube d) fits e = by_grant entry d (first_free_subcube (is_free (after h)) parts.dim d) refl fits.0 fits.1.2 e
  by_request entry peek fits e =
      by_what entry Peek e
      (by_step (entry_of entry.user entry.actor Peek) (after h) refl
      (idle-entry parts (after h) h before (entry_of entry.user entry.actor Peek) refl refl refl))
  by_request entry drain fits e = by_drain entry (cube_held_by (after h) entry.user) refl fits.1.1 e
  by_request entry freecube fits e = by_free entry (cube_held_by (after h) entry.user) refl fits.1.1 e
  by_request entry (cube_request call) fits e = by_call entry call (cube_held_by (after h) entry.user) refl fits.1 e

  pub lawful-entry : (entry : Entry) → IsLawfulEntry parts h entry → IsNextStateBehind parts h entry
  lawful-entry entry lawful = by_request entry lawful.request lawful.fits lawful.answer

-- ---- a whole history

projected-nil : (parts : MachineParts) → IsProjectedHistory parts []
unfolding after
projected-nil parts = record {
  count = refl;
  held = λ user cube held. absurd (cc);
  apart = λ user other cube cube' differ held held'. absurd (cc);
  blank = λ node outside. refl;
  views = λ number grant behind found. absurd (cc);
}

pub projected : (parts : MachineParts) (history : List Entry) → IsMachine parts → IsLawful parts history → IsProjectedHistory parts history
projected parts history machine lawful =
    kept_by_each (IsLawfulEntry parts) (IsProjectedHistory parts)
    (λ h entry before is. projected-entry parts (after h) (after (h ++ entry ∷ [])) h entry before (lawful-entry parts machine h before entry is)) [] history
    (projected-nil parts) lawful

pub found_alone : (parts : MachineParts) (history : List Entry) (number : ℕ) → IsProjected parts (after history) history → (found : Option (CubeGrant × List Entry))
    → history_behind_grant history number ≡ found → IfSome found (λ found. IsAlone (cube_of parts.images found.0) (view history number))
found_alone parts history number all None is = tt
found_alone parts history number all (Some found) is =
    let cube = cube_of parts.images found.0 in
    subst (IsAlone cube) (sym (view-is history number found.0 found.1 is))
    (alone_by_entries cube (opening cube) (trace_behind found.0 found.1) (all.views number found.0 found.1 is).alone)

pub projection : ViewsAreAlone
projection parts history number machine lawful =
    found_alone parts history number (projected parts history machine lawful) (history_behind_grant history number) refl

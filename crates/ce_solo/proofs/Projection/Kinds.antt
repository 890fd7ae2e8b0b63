-- Each kind of lawful entry does to the state what it has to do.
use Rattle.std.proofs.Common.{◌≡◌, ℕ, ◌+◌, ◌^◌, ◌<◌, Bool, true, false, ◌&&◌, ◌==◌, List, [], ◌∷◌, ◌++◌, Some, None, refl, ap, ap₂, sym, ◌∙◌, subst, inl, inr, arith}
use Rattle.std.specs.Prelude.{is_some}
use Rattle.std.proofs.lemmas.Bool.{both_ways, eq-eqb, eqb-true, or_right}
use Rattle.ce_model.specs.declared.topology.Subcube.{Subcube}
use Rattle.ce_model.specs.declared.entry.Entry.{Entry}
use Rattle.ce_model.specs.declared.entry.What.TheVariants.{Getcube, Drain, Freecube}
use Rattle.ce_model.specs.Trace.{NodeRecord, blank_record}
use Rattle.ce_model.specs.Answers.{recorded_call}
use Rattle.ce_model.specs.Cube.{CubeState, opening}
use Rattle.ce_model.specs.Subcubes.{node_of, is_inside, first_free_subcube}
use Rattle.ce_model.specs.Renaming.{CubeGrant}
use Rattle.ce_model.specs.Views.{entry_grant, is_drain, history_behind_grant}
use Rattle.ce_model.specs.Machine.{MachineParts, IsMachine, HeldCube, MachineState, cube_held_by, is_free, cube_of, with_grant, with_drained_cube, without_cube}
use Rattle.ce_model.specs.Literals.{entry_of}
use Rattle.ce_model.proofs.Subcubes.{all_nodes-at, all_nodes-inside, first_free-subcube, first_free-all_free}
use Rattle.ce_solo.proofs.Stands.{state_after_trace-nil}
use Rattle.ce_solo.proofs.Projection.Numbers.{IsPlaced}
use Rattle.ce_solo.proofs.Projection.Views.{granted, granted-same, granted-one, found-more, found-new, is_over, over-more, trace-stays}
use Rattle.ce_solo.proofs.Projection.Held.{held-user, held-own, held-other, record-own, record-other, granted-own, granted-other, free-outside, left-own, left-other}
use Rattle.ce_solo.proofs.Projection.Invariant.{IsKept, IsHeld, IsByEntries, IsViewed, AreApart, IsProjected, IsNextState, held-stays}

pub and_false : (b c : Bool) → c ≡ false → (b && c) ≡ false
and_false true c e = e
and_false false c e = refl

-- a cube that is drained, and what is kept for a node of it
abbrev pub drained_cube : HeldCube → HeldCube
drained_cube cube = record cube { is_drained = true; mail = [] }

abbrev pub drained_record : HeldCube → ℕ → NodeRecord → NodeRecord
drained_record cube node kept = record kept { waiting_items = [] }

module _ (parts : MachineParts) (state : MachineState) (h : List Entry) (before : IsProjected parts state h) where
  -- a grant that was not drained is the cube that its user holds
  pub record IsHeldGrant (number : ℕ) (grant : CubeGrant) (behind : List Entry) : Type 0 where
    pub cube : HeldCube
    pub holds : cube_held_by state grant.user ≡ Some cube
    pub number_is : cube.number ≡ number
    pub grant_is : cube.grant ≡ grant
    pub behind_is : (before.held grant.user cube holds).behind ≡ behind

  pub held-grant : (number : ℕ) (grant : CubeGrant) (behind : List Entry) → history_behind_grant h number ≡ Some (grant, behind) → is_over grant behind ≡ false
      → IsHeldGrant number grant behind
  held-grant number grant behind found goes =
      elim (before.views number grant behind found).last [
        | inl over ↦ absurd (both_ways _ goes over)
        | inr held ↦
            let was = before.held grant.user held.0 held.1 in
            let both : Some (held.0.grant, was.behind) ≡ Some (grant, behind) = sym was.found ∙ ap (history_behind_grant h) held.2 ∙ found in
            let same : (held.0.grant, was.behind) ≡ (grant, behind) = cc in
            record {
              cube = held.0;
              holds = held.1;
              number_is = held.2;
              grant_is = ap (λ (f : CubeGrant × List Entry). f.0) same;
              behind_is = ap (λ (f : CubeGrant × List Entry). f.1) same;
            }
      ]

  -- ---- entries that change nothing

  pub idle-entry : (entry : Entry) → entry_grant entry ≡ None → recorded_call entry.what ≡ None → is_drain entry.what ≡ false → IsNextState parts state h entry state
  idle-entry entry none no_call goes = record {
    count = before.count ∙ sym (granted-same h entry none);
    others = λ user other. refl;
    records = λ node outside. refl;
    own = λ cube held.
        held-stays parts state state h entry cube (before.held entry.user cube held) (and_false _ _ (ap is_some no_call)) (and_false _ _ goes) (λ node inside. refl);
    apart = λ cube held user other differ held'. before.apart entry.user user cube other differ held held';
    blank = λ cube held node inside. inr (cube, held, inside);
    view = λ number grant behind found lasts is.
        let was = before.views number grant behind found in
        record {
          placed = was.placed;
          alone = subst (IsByEntries parts grant) (sym (trace-stays grant behind entry (and_false _ _ (ap is_some no_call)))) was.alone;
          last = elim was.last [ inl over ↦ absurd (both_ways _ lasts over) | inr held ↦ inr held ];
        };
    fresh = λ grant some. absurd (cc);
  }

  -- ---- a cube is granted

  module _ (machine : IsMachine parts) (user actor d : ℕ) (sub : Subcube) (within : user < parts.users) (none : cube_held_by state user ≡ None)
      (free : first_free_subcube (is_free state) parts.dim d ≡ Some sub) where
    abbrev grant_now : CubeGrant
    grant_now = record { user = user; dim = d; sub = sub }

    abbrev entry_now : Entry
    entry_now = entry_of user actor (Getcube d (Some sub))

    abbrev cube_now : HeldCube
    cube_now = record { number = state.grant_count; grant = grant_now; is_drained = false; allowed_dispatches = 0; made_dispatches = 0; parcel_count = 0; mail = [] }

    placed-now : IsPlaced parts.dim grant_now
    placed-now = record { within = machine.dim; user = omega (arith, within, machine.users); sub = first_free-subcube (is_free state) parts.dim d sub free }

    found-now : history_behind_grant (h ++ entry_now ∷ []) state.grant_count ≡ Some (grant_now, [])
    found-now = ap (history_behind_grant (h ++ entry_now ∷ [])) before.count ∙ found-new h entry_now grant_now refl

    blank-now : (r : ℕ) → r < 2 ^ d → state.node_record (node_of sub r) ≡ blank_record
    blank-now r below =
        before.blank (node_of sub r)
        (λ user cube held. free-outside state (node_of sub r) user cube (all_nodes-at (is_free state) d sub r (first_free-all_free (is_free state) parts.dim d sub free) below) held)

    kept-now : IsKept state.node_record cube_now (opening (cube_of parts.images grant_now)).standing
    kept-now = record { nodes = blank-now; mail = refl; allowed_dispatches = refl; made_dispatches = refl; parcel_count = refl }

    held-now : IsHeld parts (with_grant grant_now state) (h ++ entry_now ∷ []) cube_now
    held-now = record {
      placed = placed-now;
      behind = [];
      found = found-now;
      over = refl;
      kept = λ goes.
          subst (λ (s : CubeState). IsKept state.node_record cube_now s.standing)
          (sym (state_after_trace-nil (cube_of parts.images grant_now) (opening (cube_of parts.images grant_now)))) kept-now;
    }

    is_now : (cube : HeldCube) → cube_held_by (with_grant grant_now state) user ≡ Some cube → cube_now ≡ cube
    is_now cube held = let same : Some cube_now ≡ Some cube = sym (granted-own grant_now state none) ∙ held in cc

    none_held : (cube : HeldCube) → cube_held_by state user ≡ Some cube → ⊥
    none_held cube held = cc

    pub grant-entry : IsNextState parts state h entry_now (with_grant grant_now state)
    grant-entry = record {
      count = ap (λ n. n + 1) before.count ∙ sym (granted-one h entry_now grant_now refl);
      others = λ other differ. granted-other grant_now state other differ;
      records = λ node outside. refl;
      own = λ cube held. subst (IsHeld parts (with_grant grant_now state) (h ++ entry_now ∷ [])) (is_now cube held) held-now;
      apart = λ cube held other cube' differ held' node inside.
          free-outside state node other cube'
          (all_nodes-inside (is_free state) d sub node (first_free-all_free (is_free state) parts.dim d sub free) placed-now.sub.dimension
          (subst (λ (c : HeldCube). is_inside c.grant.sub node ≡ true) (sym (is_now cube held)) inside)) held';
      blank = λ cube held node inside. absurd (none_held cube held);
      view = λ number grant behind found goes is.
          let g = held-grant number grant behind found goes in
          absurd (none_held g.cube (ap (cube_held_by state) (eqb-true _ _ is) ∙ g.holds));
      fresh = λ grant some.
          let same : grant_now ≡ grant = cc in
          subst (λ g. IsViewed parts (with_grant grant_now state) (granted h) g []) same
          (record { placed = placed-now; alone = tt; last = inr (cube_now, granted-own grant_now state none, before.count) });
    }

  -- ---- a cube is drained

  module _ (user actor : ℕ) (cube : HeldCube) (holds : cube_held_by state user ≡ Some cube) where
    abbrev drain : Entry
    drain = entry_of user actor Drain

    drained_held : cube_held_by (with_drained_cube user state) user ≡ Some (drained_cube cube)
    drained_held = held-own user drained_cube (λ cube. refl) drained_record state cube holds

    is_drained : (cube' : HeldCube) → cube_held_by (with_drained_cube user state) user ≡ Some cube' → drained_cube cube ≡ cube'
    is_drained cube' held = let same : Some (drained_cube cube) ≡ Some cube' = sym drained_held ∙ held in cc

    over-now : (grant : CubeGrant) (behind : List Entry) → (user == grant.user) ≡ true → is_over grant (behind ++ drain ∷ []) ≡ true
    over-now grant behind is = over-more grant behind drain ∙ or_right _ _ (ap (λ b. b && true) is)

    held-drained : IsHeld parts (with_drained_cube user state) (h ++ drain ∷ []) (drained_cube cube)
    held-drained =
        let was = before.held user cube holds in
        record {
          placed = was.placed;
          behind = was.behind ++ drain ∷ [];
          found = found-more h drain cube.number cube.grant was.behind was.found;
          over = over-now cube.grant was.behind (eq-eqb _ _ (sym (eqb-true _ _ (held-user state user cube holds))));
          kept = λ goes. absurd (cc);
        }

    pub drain-entry : IsNextState parts state h drain (with_drained_cube user state)
    drain-entry = record {
      count = before.count ∙ sym (granted-same h drain refl);
      others = λ other differ. held-other user drained_cube (λ cube. refl) drained_record state other differ;
      records = λ node outside. record-other drained_record node (state.node_record node) (cube_held_by state user) outside;
      own = λ cube' held. subst (IsHeld parts (with_drained_cube user state) (h ++ drain ∷ [])) (is_drained cube' held) held-drained;
      apart = λ cube' held other cube'' differ held''.
          subst (λ (c : HeldCube). AreApart c.grant.sub cube''.grant.sub) (is_drained cube' held) (before.apart user other cube cube'' differ holds held'');
      blank = λ cube' held node inside.
          let same : cube ≡ cube' = some_same cube cube' (sym holds ∙ held) in
          inr (drained_cube cube, drained_held, subst (λ (c : HeldCube). is_inside c.grant.sub node ≡ true) (sym same) inside);
      view = λ number grant behind found goes is. record {
        placed = (before.views number grant behind found).placed;
        alone = subst (IsByEntries parts grant) (sym (trace-stays grant behind drain (and_false _ _ refl))) (before.views number grant behind found).alone;
        last = inl (over-now grant behind is);
      };
      fresh = λ grant some. absurd (cc);
    }
      where
        some_same : (x y : HeldCube) → Some x ≡ Some y → x ≡ y
        some_same x y e = cc

  -- ---- a cube is given back

  module _ (user actor : ℕ) (cube : HeldCube) (holds : cube_held_by state user ≡ Some cube) (drained : cube.is_drained ≡ true) where
    abbrev freeing : Entry
    freeing = entry_of user actor Freecube

    abbrev freed_record : HeldCube → ℕ → NodeRecord → NodeRecord
    freed_record cube node kept = blank_record

    none_left : (cube' : HeldCube) → cube_held_by (without_cube user state) user ≡ Some cube' → ⊥
    none_left cube' held = let none = left-own user state in cc

    pub free-entry : IsNextState parts state h freeing (without_cube user state)
    free-entry = record {
      count = before.count ∙ sym (granted-same h freeing refl);
      others = λ other differ. left-other user other state differ;
      records = λ node outside. record-other freed_record node (state.node_record node) (cube_held_by state user) outside;
      own = λ cube' held. absurd (none_left cube' held);
      apart = λ cube' held. absurd (none_left cube' held);
      blank = λ cube' held node inside. inl (record-own freed_record node (state.node_record node) (cube_held_by state user) cube' held inside);
      view = λ number grant behind found goes is.
          let g = held-grant number grant behind found goes in
          let held : Some g.cube ≡ Some cube = sym g.holds ∙ ap (cube_held_by state) (sym (eqb-true _ _ is)) ∙ holds in
          let same : g.cube ≡ cube = cc in
          let over : is_over g.cube.grant (before.held grant.user g.cube g.holds).behind ≡ true =
          (before.held grant.user g.cube g.holds).over ∙ ap (λ (c : HeldCube). c.is_drained) same ∙ drained in
          absurd (both_ways _ goes (ap₂ (λ grant behind. is_over grant behind) (sym g.grant_is) (sym g.behind_is) ∙ over));
      fresh = λ grant some. absurd (cc);
    }

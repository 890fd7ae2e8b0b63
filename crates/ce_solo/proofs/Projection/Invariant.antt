-- What holds of a lawful history and of the state that it leaves, and what an entry has to do so
-- that it holds on.
use Rattle.std.proofs.Common.{◌≡◌, ◌⊎◌, ℕ, ◌^◌, ◌<◌, Bool, true, false, ◌&&◌, ◌||◌, ◌==◌, List, [], ◌∷◌, ◌++◌, map, Option, Some, None, refl, ap, sym, ◌∙◌, subst, inl, inr}
use Rattle.std.specs.Prelude.{is_some}
use Rattle.std.proofs.lemmas.Bool.{cases_Bool, both_ways, eq-eqb, eqb-true, ne_eqb, or_left}
use Rattle.ce_model.specs.declared.topology.TheConstants.{HOST}
use Rattle.ce_model.specs.declared.topology.Subcube.{Subcube}
use Rattle.ce_model.specs.declared.entry.Entry.{Entry}
use Rattle.ce_model.specs.Lists.{EachAfter}
use Rattle.ce_model.specs.Trace.{NodeRecord, Standing, blank_record}
use Rattle.ce_model.specs.Answers.{recorded_call}
use Rattle.ce_model.specs.Cube.{CubeState, opening, state_after_trace, IsNext}
use Rattle.ce_model.specs.Subcubes.{node_of, is_inside}
use Rattle.ce_model.specs.Renaming.{CubeGrant, block_outward, renamed_item, renamed_record}
use Rattle.ce_model.specs.Views.{entry_grant, is_drain, trace_behind, history_behind_grant}
use Rattle.ce_model.specs.Machine.{MachineParts, HeldCube, MachineState, cube_held_by, cube_of}
use Rattle.ce_solo.proofs.Projection.Numbers.{IsPlaced}
use Rattle.ce_solo.proofs.Projection.Views.{granted, found-more, old, new, found-back, is_over, over-more, trace-over, trace-stays}
use Rattle.ce_solo.proofs.Projection.Held.{held-user}
use Rattle.ce_model.proofs.Subcubes.{is_inside-node_of}

-- the one is what the machine keeps for a cube, and the other how the cube stands
pub record IsKept (node_record : ℕ → NodeRecord) (cube : HeldCube) (here : Standing) : Type 0 where
  pub nodes : (r : ℕ) → r < 2 ^ cube.grant.dim → node_record (node_of cube.grant.sub r) ≡ renamed_record (block_outward cube.grant) (here.node_record r)
  pub mail : cube.mail ≡ map (renamed_item (block_outward cube.grant)) (here.node_record HOST).waiting_items
  pub allowed_dispatches : cube.allowed_dispatches ≡ here.allowed_dispatches
  pub made_dispatches : cube.made_dispatches ≡ here.made_dispatches
  pub parcel_count : cube.parcel_count ≡ here.parcel_count

-- what a cube is after its trace in the history behind its grant
abbrev pub left : MachineParts → CubeGrant → List Entry → CubeState
left parts grant behind = state_after_trace (cube_of parts.images grant) (opening (cube_of parts.images grant)) (trace_behind grant behind)

-- a cube that is held stands in the history where its number says, and up to its drain the machine
-- keeps for it how it stands
pub record IsHeld (parts : MachineParts) (state : MachineState) (h : List Entry) (cube : HeldCube) : Type 0 where
  pub placed : IsPlaced parts.dim cube.grant
  pub behind : List Entry
  pub found : history_behind_grant h cube.number ≡ Some (cube.grant, behind)
  pub over : is_over cube.grant behind ≡ cube.is_drained
  pub kept : cube.is_drained ≡ false → IsKept state.node_record cube (left parts cube.grant behind).standing

-- a grant's cube was drained, or it is held
abbrev pub IsLast : MachineState → ℕ → CubeGrant → List Entry → Type 0
IsLast state number grant behind =
    (is_over grant behind ≡ true) ⊎ ((cube : HeldCube) × (cube_held_by state grant.user ≡ Some cube) × (cube.number ≡ number))

-- a trace that the cube of a grant gives alone, told by entries
abbrev pub IsByEntries : MachineParts → CubeGrant → List Entry → Type 0
IsByEntries parts grant t = EachAfter (IsNext (cube_of parts.images grant) (opening (cube_of parts.images grant))) [] t

-- a grant is one of the machine, and its cube gives the trace alone
pub record IsViewed (parts : MachineParts) (state : MachineState) (number : ℕ) (grant : CubeGrant) (behind : List Entry) : Type 0 where
  pub placed : IsPlaced parts.dim grant
  pub alone : IsByEntries parts grant (trace_behind grant behind)
  pub last : IsLast state number grant behind

-- two subcubes have no node in common
abbrev pub AreApart : Subcube → Subcube → Type 0
AreApart one other = (node : ℕ) → is_inside one node ≡ true → is_inside other node ≡ false

-- a history leaves this state
pub record IsProjected (parts : MachineParts) (state : MachineState) (h : List Entry) : Type 0 where
  pub count : state.grant_count ≡ granted h
  pub held : (user : ℕ) (cube : HeldCube) → cube_held_by state user ≡ Some cube → IsHeld parts state h cube
  pub apart : (user other : ℕ) (cube cube' : HeldCube) → (user == other) ≡ false → cube_held_by state user ≡ Some cube → cube_held_by state other ≡ Some cube'
      → AreApart cube.grant.sub cube'.grant.sub
  pub blank : (node : ℕ) → ((user : ℕ) (cube : HeldCube) → cube_held_by state user ≡ Some cube → is_inside cube.grant.sub node ≡ false)
      → state.node_record node ≡ blank_record
  pub views : (number : ℕ) (grant : CubeGrant) (behind : List Entry) → history_behind_grant h number ≡ Some (grant, behind) → IsViewed parts state number grant behind

-- what an entry does to the state: the cubes of other users stay, and its own user's is held as it
-- should be
pub record IsNextState (parts : MachineParts) (state : MachineState) (h : List Entry) (entry : Entry) (state' : MachineState) : Type 0 where
  pub count : state'.grant_count ≡ granted (h ++ entry ∷ [])
  pub others : (user : ℕ) → (entry.user == user) ≡ false → cube_held_by state' user ≡ cube_held_by state user
  pub records : (node : ℕ) → ((cube : HeldCube) → cube_held_by state entry.user ≡ Some cube → is_inside cube.grant.sub node ≡ false)
      → state'.node_record node ≡ state.node_record node
  pub own : (cube : HeldCube) → cube_held_by state' entry.user ≡ Some cube → IsHeld parts state' (h ++ entry ∷ []) cube
  pub apart : (cube : HeldCube) → cube_held_by state' entry.user ≡ Some cube → (user : ℕ) (other : HeldCube) → (entry.user == user) ≡ false
      → cube_held_by state user ≡ Some other → AreApart cube.grant.sub other.grant.sub
  pub blank : (cube : HeldCube) → cube_held_by state entry.user ≡ Some cube → (node : ℕ) → is_inside cube.grant.sub node ≡ true
      → (state'.node_record node ≡ blank_record) ⊎ ((now : HeldCube) × (cube_held_by state' entry.user ≡ Some now) × (is_inside now.grant.sub node ≡ true))
  pub view : (number : ℕ) (grant : CubeGrant) (behind : List Entry) → history_behind_grant h number ≡ Some (grant, behind) → is_over grant behind ≡ false
      → (entry.user == grant.user) ≡ true → IsViewed parts state' number grant (behind ++ entry ∷ [])
  pub fresh : (grant : CubeGrant) → entry_grant entry ≡ Some grant → IsViewed parts state' (granted h) grant []

pub other_way : (a b : ℕ) → (a == b) ≡ false → (b == a) ≡ false
other_way a b differ = ne_eqb b a (λ e. both_ways _ differ (eq-eqb a b (sym e)))

pub or_false : (b c : Bool) → c ≡ false → (b || c) ≡ b
or_false true c e = refl
or_false false c e = e

-- a cube that is held stays as it should be, where an entry changes nothing of it
pub held-stays : (parts : MachineParts) (state state' : MachineState) (h : List Entry) (entry : Entry) (cube : HeldCube) → IsHeld parts state h cube
    → (entry.user == cube.grant.user && is_some (recorded_call entry.what)) ≡ false → (entry.user == cube.grant.user && is_drain entry.what) ≡ false
    → ((node : ℕ) → is_inside cube.grant.sub node ≡ true → state'.node_record node ≡ state.node_record node) → IsHeld parts state' (h ++ entry ∷ []) cube
held-stays parts state state' h entry cube was none goes_on same = record {
  placed = was.placed;
  behind = was.behind ++ entry ∷ [];
  found = found-more h entry cube.number cube.grant was.behind was.found;
  over = over-more cube.grant was.behind entry ∙ or_false _ _ goes_on ∙ was.over;
  kept = λ goes.
      let kept = was.kept goes in
      subst (λ t. IsKept state'.node_record cube (state_after_trace (cube_of parts.images cube.grant) (opening (cube_of parts.images cube.grant)) t).standing)
      (sym (trace-stays cube.grant was.behind entry none)) (record {
        nodes = λ r below.
            same (node_of cube.grant.sub r) (is_inside-node_of cube.grant.sub r was.placed.sub.apart (rw was.placed.sub.dimension below)) ∙ kept.nodes r below;
        mail = kept.mail;
        allowed_dispatches = kept.allowed_dispatches;
        made_dispatches = kept.made_dispatches;
        parcel_count = kept.parcel_count;
      });
}

module _ (parts : MachineParts) (state state' : MachineState) (h : List Entry) (entry : Entry) (before : IsProjected parts state h) (step : IsNextState parts state h entry state') where
  -- the user of a cube of others
  other_user : (user : ℕ) (cube : HeldCube) → (entry.user == user) ≡ false → cube_held_by state user ≡ Some cube → (entry.user == cube.grant.user) ≡ false
  other_user user cube other held = subst (λ u. (entry.user == u) ≡ false) (sym (eqb-true _ _ (held-user state user cube held))) other

  held-others : (user : ℕ) (cube : HeldCube) → (entry.user == user) ≡ false → cube_held_by state user ≡ Some cube → IsHeld parts state' (h ++ entry ∷ []) cube
  held-others user cube other held =
      let apart = other_user user cube other held in
      held-stays parts state state' h entry cube (before.held user cube held) (ap (λ b. b && is_some (recorded_call entry.what)) apart) (ap (λ b. b && is_drain entry.what) apart)
      (λ node inside. step.records node (λ own is. before.apart user entry.user cube own (other_way _ _ other) held is node inside))

  held-now : (user : ℕ) (cube : HeldCube) → cube_held_by state' user ≡ Some cube → IsHeld parts state' (h ++ entry ∷ []) cube
  held-now user cube held =
      elim (cases_Bool (entry.user == user)) [
        | inl is ↦ step.own cube (ap (cube_held_by state') (eqb-true _ _ is) ∙ held)
        | inr other ↦ held-others user cube other (sym (step.others user other) ∙ held)
      ]

  apart_back : (one other : Subcube) → AreApart one other → AreApart other one
  apart_back one other apart node inside =
      elim (cases_Bool (is_inside one node)) [ inl is ↦ absurd (both_ways _ (apart node is) inside) | inr outside ↦ outside ]

  apart-now : (user other : ℕ) (cube cube' : HeldCube) → (user == other) ≡ false → cube_held_by state' user ≡ Some cube → cube_held_by state' other ≡ Some cube'
      → AreApart cube.grant.sub cube'.grant.sub
  apart-now user other cube cube' differ held held' =
      elim (cases_Bool (entry.user == user)) [
        | inl is ↦
            let apart : (entry.user == other) ≡ false = subst (λ u. (u == other) ≡ false) (sym (eqb-true entry.user user is)) differ in
            step.apart cube (ap (cube_held_by state') (eqb-true _ _ is) ∙ held) other cube' apart (sym (step.others other apart) ∙ held')
        | inr apart ↦
            elim (cases_Bool (entry.user == other)) [
              | inl is ↦
                  apart_back cube'.grant.sub cube.grant.sub
                  (step.apart cube' (ap (cube_held_by state') (eqb-true _ _ is) ∙ held') user cube apart (sym (step.others user apart) ∙ held))
              | inr apart' ↦
                  before.apart user other cube cube' differ (sym (step.others user apart) ∙ held) (sym (step.others other apart') ∙ held')
            ]
      ]

  blank_outside : (node : ℕ) → ((user : ℕ) (cube : HeldCube) → cube_held_by state' user ≡ Some cube → is_inside cube.grant.sub node ≡ false)
      → ((cube : HeldCube) → cube_held_by state entry.user ≡ Some cube → is_inside cube.grant.sub node ≡ false) → state'.node_record node ≡ blank_record
  blank_outside node outside own =
      step.records node own
      ∙ before.blank node (λ user cube held. elim (cases_Bool (entry.user == user)) [
        | inl is ↦ own cube (ap (cube_held_by state) (eqb-true _ _ is) ∙ held)
        | inr other ↦ outside user cube (step.others user other ∙ held)
      ])

  blank_by : (node : ℕ) (held : Option HeldCube) → cube_held_by state entry.user ≡ held
      → ((user : ℕ) (cube : HeldCube) → cube_held_by state' user ≡ Some cube → is_inside cube.grant.sub node ≡ false) → state'.node_record node ≡ blank_record
  blank_by node None is outside = blank_outside node outside (λ cube held. absurd (cc))
  blank_by node (Some own) is outside =
      elim (cases_Bool (is_inside own.grant.sub node)) [
        | inl inside ↦
            elim (step.blank own is node inside) [
              | inl blank ↦ blank
              | inr now ↦ absurd (both_ways _ (outside entry.user now.0 now.1) now.2)
            ]
        | inr past ↦
            blank_outside node outside
            (λ cube held. let same : own ≡ cube = cc in subst (λ (c : HeldCube). is_inside c.grant.sub node ≡ false) same past)
      ]

  viewed-old : (number : ℕ) (grant : CubeGrant) (behind : List Entry) → history_behind_grant h number ≡ Some (grant, behind)
      → IsViewed parts state' number grant (behind ++ entry ∷ [])
  viewed-old number grant behind found =
      let was = before.views number grant behind found in
      elim (cases_Bool (is_over grant behind)) [
        | inl over ↦
            record {
              placed = was.placed;
              alone = subst (IsByEntries parts grant) (sym (trace-over grant behind entry over)) was.alone;
              last = inl (over-more grant behind entry ∙ or_left _ _ over);
            }
        | inr goes ↦
            elim (cases_Bool (entry.user == grant.user)) [
              | inl is ↦ step.view number grant behind found goes is
              | inr other ↦
                  record {
                    placed = was.placed;
                    alone = subst (IsByEntries parts grant) (sym (trace-stays grant behind entry (ap (λ b. b && is_some (recorded_call entry.what)) other))) was.alone;
                    last = elim was.last [
                      | inl over ↦ absurd (both_ways _ goes over)
                      | inr held ↦ inr (held.0, step.others grant.user other ∙ held.1, held.2)
                    ];
                  }
            ]
      ]

  viewed-now : (number : ℕ) (grant : CubeGrant) (behind : List Entry) → history_behind_grant (h ++ entry ∷ []) number ≡ Some (grant, behind)
      → IsViewed parts state' number grant behind
  viewed-now number grant behind found =
      elim (found-back h entry number grant behind found) [
        | old less was same ↦ subst (IsViewed parts state' number grant) (sym same) (viewed-old number grant less was)
        | new num some none ↦
            subst (IsViewed parts state' number grant) (sym none)
            (subst (λ n. IsViewed parts state' n grant []) (sym num) (step.fresh grant some))
      ]

  pub projected-entry : IsProjected parts state' (h ++ entry ∷ [])
  projected-entry = record {
    count = step.count;
    held = held-now;
    apart = apart-now;
    blank = λ node outside. blank_by node (cube_held_by state entry.user) refl outside;
    views = viewed-now;
  }

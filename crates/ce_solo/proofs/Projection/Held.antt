-- The cubes that are held, once one of them changes, one is granted, or one is given back.
use Rattle.std.proofs.Common.{◌≡◌, ℕ, Bool, true, false, not, ◌==◌, if◌then◌else◌, List, [], ◌∷◌, map, filter, find, Option, Some, None, option_map, refl, ap, sym, ◌∙◌, inl, inr}
use Rattle.std.proofs.lemmas.Bool.{cases_Bool, both_ways, eq-eqb, ne_eqb, eqb-true, not-true}
use Rattle.ce_model.specs.Trace.{NodeRecord}
use Rattle.ce_model.specs.Renaming.{CubeGrant}
use Rattle.ce_model.specs.Subcubes.{is_inside}
use Rattle.ce_model.specs.Machine.{HeldCube, MachineState, is_held_by, cube_held_by, is_free, changed_record, with_cube, with_grant, without_cube}
use Rattle.ce_model.proofs.Subcubes.{find-append, find-append_found, find-passes}
use Rattle.ce_solo.proofs.Lists.{none-from_any}
use Rattle.ce_solo.proofs.Made.{find-all}

-- a cube that is held is of its user
pub held-user : (state : MachineState) (u : ℕ) (cube : HeldCube) → cube_held_by state u ≡ Some cube → (cube.grant.user == u) ≡ true
held-user state u cube held = find-passes (is_held_by u) state.cubes cube held

-- ---- one changes

abbrev changed_one : ℕ → (HeldCube → HeldCube) → HeldCube → HeldCube
changed_one user change cube = if is_held_by user cube then change cube else cube

same_holder : (user u : ℕ) (change : HeldCube → HeldCube) (cube : HeldCube) → ((cube : HeldCube) → (change cube).grant ≡ cube.grant)
    → is_held_by u (changed_one user change cube) ≡ is_held_by u cube
same_holder user u change cube keeps =
    elim (cases_Bool (is_held_by user cube)) [
      | inl holds ↦ rw holds (ap (λ (grant : CubeGrant). grant.user == u) (keeps cube))
      | inr fails ↦ rw fails refl
    ]

find-changed : (user u : ℕ) (change : HeldCube → HeldCube) (cubes : List HeldCube) → ((cube : HeldCube) → (change cube).grant ≡ cube.grant)
    → find (is_held_by u) (map (changed_one user change) cubes) ≡ option_map (changed_one user change) (find (is_held_by u) cubes)
find-changed user u change [] keeps = refl
find-changed user u change (cube ∷ cubes) keeps =
    ap (λ (b : Bool). if b then Some (changed_one user change cube) else find (is_held_by u) (map (changed_one user change) cubes)) (same_holder user u change cube keeps)
    ∙ elim (cases_Bool (is_held_by u cube)) [ inl holds ↦ rw holds refl | inr fails ↦ rw fails (find-changed user u change cubes keeps) ]

module _ (user : ℕ) (change : HeldCube → HeldCube) (keeps : (cube : HeldCube) → (change cube).grant ≡ cube.grant) (change_record : HeldCube → ℕ → NodeRecord → NodeRecord) (state : MachineState) where
  pub held-own : (cube : HeldCube) → cube_held_by state user ≡ Some cube → cube_held_by (with_cube user change change_record state) user ≡ Some (change cube)
  held-own cube held =
      find-changed user user change state.cubes keeps ∙ ap (option_map (changed_one user change)) held
      ∙ ap (λ (b : Bool). Some (if b then change cube else cube)) (held-user state user cube held)

  other_stays : (u : ℕ) (found : Option HeldCube) → (user == u) ≡ false → ((cube : HeldCube) → found ≡ Some cube → (cube.grant.user == u) ≡ true)
      → option_map (changed_one user change) found ≡ found
  other_stays u None other of = refl
  other_stays u (Some cube) other of =
      let is : cube.grant.user ≡ u = eqb-true _ _ (of cube refl) in
      let fails : is_held_by user cube ≡ false = ne_eqb _ _ (λ e. both_ways _ other (eq-eqb user u (sym e ∙ is))) in
      rw fails refl

  pub held-other : (u : ℕ) → (user == u) ≡ false → cube_held_by (with_cube user change change_record state) u ≡ cube_held_by state u
  held-other u other =
      find-changed user u change state.cubes keeps ∙ other_stays u (cube_held_by state u) other (λ cube held. held-user state u cube held)

-- what is kept for a node of the cube that changes, and for one that isn't of it
pub record-own : (change : HeldCube → ℕ → NodeRecord → NodeRecord) (node : ℕ) (kept : NodeRecord) (held : Option HeldCube) (cube : HeldCube) → held ≡ Some cube
    → is_inside cube.grant.sub node ≡ true → changed_record change node kept held ≡ change cube node kept
record-own change node kept held cube is inside = ap (changed_record change node kept) is ∙ ap (λ (b : Bool). if b then change cube node kept else kept) inside

pub record-other : (change : HeldCube → ℕ → NodeRecord → NodeRecord) (node : ℕ) (kept : NodeRecord) (held : Option HeldCube)
    → ((cube : HeldCube) → held ≡ Some cube → is_inside cube.grant.sub node ≡ false) → changed_record change node kept held ≡ kept
record-other change node kept None outside = refl
record-other change node kept (Some cube) outside = ap (λ (b : Bool). if b then change cube node kept else kept) (outside cube refl)

-- ---- one is granted

pub granted-own : (grant : CubeGrant) (state : MachineState) → cube_held_by state grant.user ≡ None
    → cube_held_by (with_grant grant state) grant.user
    ≡ Some (record { number = state.grant_count; grant = grant; is_drained = false; allowed_dispatches = 0; made_dispatches = 0; parcel_count = 0; mail = [] })
granted-own grant state none = find-append (is_held_by grant.user) state.cubes _ none ∙ rw (eq-eqb grant.user grant.user refl) refl

granted_other : (grant : CubeGrant) (state : MachineState) (u : ℕ) (found : Option HeldCube) → (grant.user == u) ≡ false → cube_held_by state u ≡ found
    → cube_held_by (with_grant grant state) u ≡ found
granted_other grant state u None other is = find-append (is_held_by u) state.cubes _ is ∙ rw other refl
granted_other grant state u (Some cube) other is = find-append_found (is_held_by u) state.cubes _ cube is

pub granted-other : (grant : CubeGrant) (state : MachineState) (u : ℕ) → (grant.user == u) ≡ false → cube_held_by (with_grant grant state) u ≡ cube_held_by state u
granted-other grant state u other = granted_other grant state u (cube_held_by state u) other refl

-- a free node is in no cube that is held
pub free-outside : (state : MachineState) (node u : ℕ) (cube : HeldCube) → is_free state node ≡ true → cube_held_by state u ≡ Some cube → is_inside cube.grant.sub node ≡ false
free-outside state node u cube free held =
    find-all (λ cube. is_inside cube.grant.sub node ≡ false) (is_held_by u) state.cubes cube
    (none-from_any (λ cube. is_inside cube.grant.sub node) state.cubes (not-true _ free)) held

-- ---- one is given back

find-none_left : (user : ℕ) (cubes : List HeldCube) → find (is_held_by user) (filter (λ cube. not (is_held_by user cube)) cubes) ≡ None
find-none_left user [] = refl
find-none_left user (cube ∷ cubes) =
    elim (cases_Bool (is_held_by user cube)) [
      | inl holds ↦ rw holds (find-none_left user cubes)
      | inr fails ↦ rw (fails, fails) (find-none_left user cubes)
    ]

find-others_left : (user u : ℕ) (cubes : List HeldCube) → (user == u) ≡ false
    → find (is_held_by u) (filter (λ cube. not (is_held_by user cube)) cubes) ≡ find (is_held_by u) cubes
find-others_left user u [] other = refl
find-others_left user u (cube ∷ cubes) other =
    elim (cases_Bool (is_held_by user cube)) [
      | inl holds ↦
          let fails : is_held_by u cube ≡ false = ne_eqb _ _ (λ e. both_ways _ other (eq-eqb user u (sym (eqb-true _ _ holds) ∙ e))) in
          rw (holds, fails) (find-others_left user u cubes other)
      | inr fails ↦ rw fails (ap (λ rest. if is_held_by u cube then Some cube else rest) (find-others_left user u cubes other))
    ]

pub left-own : (user : ℕ) (state : MachineState) → cube_held_by (without_cube user state) user ≡ None
left-own user state = find-none_left user state.cubes

pub left-other : (user u : ℕ) (state : MachineState) → (user == u) ≡ false → cube_held_by (without_cube user state) u ≡ cube_held_by state u
left-other user u state other = find-others_left user u state.cubes other

-- Calls of a cube that is held: its trace goes on, and it is held still.
use Rattle.std.proofs.Common.{◌≡◌, ℕ, false, List, [], ◌∷◌, ◌++◌, map, Option, Some, None, IsSomeAnd, IsTrue, refl, ap, sym, ◌∙◌, subst, append-nil}
use Rattle.std.specs.Prelude.{is_some}
use Rattle.std.proofs.lemmas.Bool.{eq-eqb}
use Rattle.ce_model.specs.declared.entry.Entry.{Entry}
use Rattle.ce_model.specs.Node.{Call}
use Rattle.ce_model.specs.Answers.{recorded_call}
use Rattle.ce_model.specs.Renaming.{CubeGrant, entry_inward}
use Rattle.ce_model.specs.Views.{trace_behind, history_behind_grant}
use Rattle.ce_model.specs.Machine.{HeldCube, cube_held_by, cube_after_entry, record_after_entry, state_after_call, after}
use Rattle.ce_model.proofs.Walked.{one_further}
use Rattle.ce_solo.proofs.Projection.Views.{found-more, is_over, over-more, no_drain, trace-grows, view-is}
use Rattle.ce_solo.proofs.Projection.Held.{held-own}
use Rattle.ce_solo.proofs.Projection.Invariant.{or_false}
use Rattle.ce_solo.proofs.Projection.Kinds.{and_false}
use Rattle.ce_solo.proofs.Projection.Law.{after-more, projected}
use Rattle.ce_script.specs.Moments.{AreCallsOfUser}
use Rattle.ce_record.specs.Laws.{TraceGoesOn, CubeStays}
use Rattle.ce_record.proofs.HeldCubes.{own-user}

-- what is called, where something is
the_call : (call : Option Call) → IsTrue (is_some call) → (made : Call) × (call ≡ Some made)
the_call None is = absurd (cc)
the_call (Some made) is = (made, refl)

-- ---- traces

found-all : (h made : List Entry) (number : ℕ) (grant : CubeGrant) (behind : List Entry) → history_behind_grant h number ≡ Some (grant, behind)
    → history_behind_grant (h ++ made) number ≡ Some (grant, behind ++ made)
found-all h [] number grant behind found = rw (append-nil h, append-nil behind) found
found-all h (entry ∷ made) number grant behind found =
    ap (λ h. history_behind_grant h number) (sym (one_further h entry made))
    ∙ found-all (h ++ entry ∷ []) made number grant (behind ++ entry ∷ []) (found-more h entry number grant behind found)
    ∙ ap (λ behind. Some (grant, behind)) (one_further behind entry made)

goes-on : (grant : CubeGrant) (behind made : List Entry) → is_over grant behind ≡ false → AreCallsOfUser grant.user made
    → trace_behind grant (behind ++ made) ≡ trace_behind grant behind ++ map (entry_inward grant.sub) made
goes-on grant behind [] goes all = rw (append-nil behind) (sym (append-nil (trace_behind grant behind)))
goes-on grant behind (entry ∷ made) goes all =
    let call = the_call (recorded_call entry.what) all.0.1 in
    let still : is_over grant (behind ++ entry ∷ []) ≡ false =
    over-more grant behind entry ∙ or_false _ _ (and_false _ _ (no_drain entry.what call.0 call.1)) ∙ goes in
    ap (trace_behind grant) (sym (one_further behind entry made))
    ∙ goes-on grant (behind ++ entry ∷ []) made still all.1
    ∙ ap (λ t. t ++ map (entry_inward grant.sub) made) (trace-grows grant behind entry call.0 goes (eq-eqb _ _ all.0.0) call.1)
    ∙ one_further (trace_behind grant behind) (entry_inward grant.sub entry) (map (entry_inward grant.sub) made)

pub trace_goes_on : TraceGoesOn
trace_goes_on parts history user cube holds machine lawful goes made all =
    let was = (projected parts history machine lawful).held user cube holds in
    let own = subst (λ user. AreCallsOfUser user made) (sym (own-user history user cube holds)) all in
    view-is (history ++ made) cube.number cube.grant (was.behind ++ made) (found-all history made cube.number cube.grant was.behind was.found)
    ∙ goes-on cube.grant was.behind made (was.over ∙ goes) own
    ∙ ap (λ t. t ++ map (entry_inward cube.grant.sub) made) (sym (view-is history cube.number cube.grant was.behind was.found))

-- ---- the cube

-- the user holds the cube of this number and grant, which wasn't drained
abbrev IsHeldStill : List Entry → ℕ → HeldCube → Type 0
IsHeldStill history user cube =
    IsSomeAnd (cube_held_by (after history) user) (λ now. (now.number ≡ cube.number) × (now.grant ≡ cube.grant) × (now.is_drained ≡ false))

stays : (history made : List Entry) (user : ℕ) (cube : HeldCube) → cube_held_by (after history) user ≡ Some cube → cube.is_drained ≡ false
    → AreCallsOfUser user made → IsHeldStill (history ++ made) user cube
stays history [] user cube holds goes all =
    subst (λ h. IsHeldStill h user cube) (sym (append-nil history))
    (subst (λ held. IsSomeAnd held (λ now. (now.number ≡ cube.number) × (now.grant ≡ cube.grant) × (now.is_drained ≡ false))) (sym holds) (refl, refl, goes))
stays history (entry ∷ made) user cube holds goes all =
    let call = the_call (recorded_call entry.what) all.0.1 in
    let change : HeldCube → HeldCube = cube_after_entry entry in
    let now : cube_held_by (after (history ++ entry ∷ [])) user ≡ Some (change cube) =
    ap (λ state. cube_held_by state user) (after-more history entry ∙ ap (λ call. state_after_call call entry (after history)) call.1)
    ∙ ap (λ u. cube_held_by (state_after_call (Some call.0) entry (after history)) u) (sym all.0.0)
    ∙ held-own entry.user change (λ cube. refl) (λ cube. record_after_entry cube.grant.sub entry) (after history) cube (ap (cube_held_by (after history)) all.0.0 ∙ holds) in
    subst (λ h. IsHeldStill h user cube) (one_further history entry made) (stays (history ++ entry ∷ []) made user (change cube) now goes all.1)

pub cube_stays : CubeStays
cube_stays parts history user cube holds machine lawful goes made all = stays history made user cube holds goes all

-- What fits a lawful history fits still behind an entry of another user, and behind one of another
-- actor that is not made alone.
use Rattle.std.proofs.Common.{◌≡◌, ◌⊎◌, ℕ, Bool, true, false, ◌&&◌, ◌==◌, if◌then◌else◌, List, [], ◌∷◌, ◌++◌, Option, Some, None, IsTrue, IsSomeAnd, option_map, refl, ap, sym, ◌∙◌, subst, inl, inr}
use Rattle.std.specs.Prelude.{is_some}
use Rattle.std.proofs.lemmas.Bool.{cases_Bool, both_ways, eq-eqb, eqb-true, ne_eqb}
use Rattle.ce_model.specs.declared.topology.TheConstants.{HOST}
use Rattle.ce_model.specs.declared.entry.Entry.{Entry}
use Rattle.ce_model.specs.declared.entry.What.{What}
use Rattle.ce_model.specs.declared.entry.What.TheVariants.{Peek}
use Rattle.ce_model.specs.Node.{Node, Call}
use Rattle.ce_model.specs.Answers.{answer, recorded_call}
use Rattle.ce_model.specs.Saying.{says}
use Rattle.ce_model.specs.Cube.{Cube, CubeState, opening, wish_of_call, actor_call, Wish, is_node, state, hoststore}
use Rattle.ce_model.specs.Subcubes.{is_inside, relative_number}
use Rattle.ce_model.specs.Renaming.{renamed_call_blocks, block_outward, CubeGrant, number_outward}
use Rattle.ce_model.specs.Views.{trace_behind, view}
use Rattle.ce_model.specs.Machine.{MachineParts, IsMachine, HeldCube, cube_held_by, nodes_of, cube_standing, with_places_outward, record_after_entry, cube_after_entry, with_cube, state_after_entry, state_after_call, cube_of, after, Request, getcube, peek, drain, freecube, cube_request, is_alone, what_of_request, IsCallOf, IsFittingIn, IsFitting, IsLawfulEntry}
use Rattle.ce_model.proofs.OneMore.{state-more, hoststore-more}
use Rattle.ce_solo.specs.Laws.{IsForeign, RequestsStillFit}
use Rattle.ce_solo.proofs.Projection.Views.{found-more, trace-stays, view-is}
use Rattle.ce_solo.proofs.Projection.Held.{held-user, held-own}
use Rattle.ce_solo.proofs.Projection.Invariant.{IsHeld}
use Rattle.ce_solo.proofs.Projection.Own.{IsOwnEntry, actor_back, trace-behind}
use Rattle.ce_solo.proofs.Projection.Kinds.{and_false}
use Rattle.ce_solo.proofs.Projection.Law.{IsProjectedHistory, after-more, projected, own-called, lawful-entry}

-- ---- the calls of others

-- what an actor does next doesn't hang on the last entry, which is another's
call_by-other : (cube : Cube) (o : CubeState) (t : List Entry) (actor : ℕ) (wish : Option Wish) (entry : Entry) → (entry.actor == actor) ≡ false
    → actor_call cube o (t ++ entry ∷ []) actor wish ≡ actor_call cube o t actor wish
call_by-other cube o t actor wish entry other =
    elim (cases_Bool (actor == HOST)) [
      | inl host ↦
          let apart : (entry.actor == HOST) ≡ false = subst (λ n. (entry.actor == n) ≡ false) (eqb-true actor HOST host) other in
          let store : hoststore o (t ++ entry ∷ []) ≡ hoststore o t = rw apart at (hoststore-more o t entry) in
          by_host host store
      | inr node ↦
          let same : state cube o actor (t ++ entry ∷ []) ≡ state cube o actor t = rw other at (state-more cube o actor t entry) in
          by_node node same
    ]
  where
    by_host : (actor == HOST) ≡ true → hoststore o (t ++ entry ∷ []) ≡ hoststore o t → actor_call cube o (t ++ entry ∷ []) actor wish ≡ actor_call cube o t actor wish
    by_host host store = rw (host, store) refl

    by_node : (actor == HOST) ≡ false → state cube o actor (t ++ entry ∷ []) ≡ state cube o actor t
        → actor_call cube o (t ++ entry ∷ []) actor wish ≡ actor_call cube o t actor wish
    by_node node same = rw node (ap (λ (now : Node). if is_node cube actor then Some (says now).call else None) same)

-- ---- what is asked of the history

-- what fits goes on fitting where its user holds what it held, and its cube's next call is what it
-- was
fits-on : (parts : MachineParts) (h h' : List Entry) (user actor : ℕ) (request : Request)
    → ((held : Option HeldCube) → cube_held_by (after h) user ≡ held → held ≡ None → cube_held_by (after h') user ≡ None)
    → ((drained : Bool) → IsSomeAnd (cube_held_by (after h) user) (λ cube. cube.is_drained ≡ drained) → IsSomeAnd (cube_held_by (after h') user) (λ cube. cube.is_drained ≡ drained))
    → ((call : Call) → IsSomeAnd (cube_held_by (after h) user) (IsCallOf parts h actor call) → IsSomeAnd (cube_held_by (after h') user) (IsCallOf parts h' actor call))
    → IsFittingIn parts h user actor request → IsFittingIn parts h' user actor request
fits-on parts h h' user actor (getcube d) none drained call fits = (fits.0, fits.1, none (cube_held_by (after h) user) refl fits.2)
fits-on parts h h' user actor peek none drained call fits = fits
fits-on parts h h' user actor drain none drained call fits = (fits.0, drained false fits.1)
fits-on parts h h' user actor freecube none drained call fits = (fits.0, drained true fits.1)
fits-on parts h h' user actor (cube_request wish) none drained call fits = call wish fits

call_of-kept : (parts : MachineParts) (h h' : List Entry) (actor : ℕ) (call : Call) (cube cube' : HeldCube) → cube'.grant ≡ cube.grant → cube'.is_drained ≡ cube.is_drained
    → ((wish : Option Wish) → actor_call (cube_of parts.images cube'.grant) (opening (cube_of parts.images cube'.grant)) (view h' cube'.number)
    (relative_number cube'.grant.sub actor) wish
    ≡ actor_call (cube_of parts.images cube.grant) (opening (cube_of parts.images cube.grant)) (view h cube.number) (relative_number cube.grant.sub actor) wish)
    → IsCallOf parts h actor call cube → IsCallOf parts h' actor call cube'
call_of-kept parts h h' actor call cube cube' grant drained same of = record {
  inner = of.inner;
  inside = subst (λ (g : CubeGrant). IsTrue (actor == HOST) ⊎ IsTrue (is_inside g.sub actor)) (sym grant) of.inside;
  next = same (wish_of_call of.inner) ∙ of.next;
  renamed = ap (λ g. renamed_call_blocks (block_outward g) of.inner) grant ∙ of.renamed;
  within = of.within;
  not_drained = drained ∙ of.not_drained;
}

module _ (parts : MachineParts) (machine : IsMachine parts) (h : List Entry) (before : IsProjectedHistory parts h) (entry : Entry) (user actor : ℕ) where
  abbrev h' : List Entry
  h' = h ++ entry ∷ []

  -- ---- where the entry changes nothing of the user's cube

  view-stays : (cube : HeldCube) → cube_held_by (after h) user ≡ Some cube → (entry.user == user && is_some (recorded_call entry.what)) ≡ false
      → view h' cube.number ≡ view h cube.number
  view-stays cube held quiet =
      let was = before.held user cube held in
      let none = subst (λ u. (entry.user == u && is_some (recorded_call entry.what)) ≡ false) (sym (eqb-true _ _ (held-user (after h) user cube held))) quiet in
      view-is h' cube.number cube.grant (was.behind ++ entry ∷ []) (found-more h entry cube.number cube.grant was.behind was.found)
      ∙ trace-stays cube.grant was.behind entry none ∙ sym (view-is h cube.number cube.grant was.behind was.found)

  quiet_call : (call : Call) (held : Option HeldCube) → cube_held_by (after h) user ≡ held → (entry.user == user && is_some (recorded_call entry.what)) ≡ false
      → IsSomeAnd held (IsCallOf parts h actor call) → IsSomeAnd held (IsCallOf parts h' actor call)
  quiet_call call None is quiet fits = fits
  quiet_call call (Some cube) is quiet fits =
      call_of-kept parts h h' actor call cube cube refl refl
      (λ wish. ap (λ t. actor_call (cube_of parts.images cube.grant) (opening (cube_of parts.images cube.grant)) t (relative_number cube.grant.sub actor) wish) (view-stays cube is quiet)) fits

  fits-quiet : (request : Request) → cube_held_by (after h') user ≡ cube_held_by (after h) user → (entry.user == user && is_some (recorded_call entry.what)) ≡ false
      → IsFittingIn parts h user actor request → IsFittingIn parts h' user actor request
  fits-quiet request same quiet fits =
      fits-on parts h h' user actor request (λ held is none. same ∙ is ∙ none) (λ drained some. subst (λ held. IsSomeAnd held (λ cube. cube.is_drained ≡ drained)) (sym same) some)
      (λ call some. subst (λ held. IsSomeAnd held (IsCallOf parts h' actor call)) (sym same) (quiet_call call (cube_held_by (after h) user) refl quiet some)) fits

  -- ---- where another actor of the cube makes a call

  module _ (cube : HeldCube) (holds : cube_held_by (after h) entry.user ≡ Some cube) (goes : cube.is_drained ≡ false) (is_user : entry.user ≡ user)
      (own : IsOwnEntry parts cube.grant (trace_behind cube.grant (before.held entry.user cube holds).behind) entry) (other : (entry.actor == actor) ≡ false) where
    abbrev was : IsHeld parts (after h) h cube
    was = before.held entry.user cube holds

    held_next : cube_held_by (after h') user ≡ Some (cube_after_entry entry cube)
    held_next =
        ap (λ state. cube_held_by state user) (after-more h entry ∙ ap (λ call. state_after_call call entry (after h)) own.called)
        ∙ ap (cube_held_by (with_cube entry.user (cube_after_entry entry) (λ cube. record_after_entry cube.grant.sub entry) (after h))) (sym is_user)
        ∙ held-own entry.user (cube_after_entry entry) (λ cube. refl) (λ cube. record_after_entry cube.grant.sub entry) (after h) cube holds

    view_next : view h' cube.number ≡ view h cube.number ++ own.inner ∷ []
    view_next =
        view-is h' cube.number cube.grant (was.behind ++ entry ∷ []) (found-more h entry cube.number cube.grant was.behind was.found)
        ∙ trace-behind parts machine (after h) h cube was goes (before.views cube.number cube.grant was.behind was.found).alone entry own
        ∙ ap (λ t. t ++ own.inner ∷ []) (sym (view-is h cube.number cube.grant was.behind was.found))

    inner_other : IsTrue (actor == HOST) ⊎ IsTrue (is_inside cube.grant.sub actor) → (own.inner.actor == relative_number cube.grant.sub actor) ≡ false
    inner_other inside =
        ne_eqb _ _ (λ e. both_ways _ other (eq-eqb entry.actor actor (ap (λ (e : Entry). e.actor) own.same ∙ ap (number_outward cube.grant.sub) e
        ∙ sym (actor_back parts.dim cube.grant was.placed actor inside))))

    held_is : cube_held_by (after h) user ≡ Some cube
    held_is = ap (cube_held_by (after h)) (sym is_user) ∙ holds

    call-next : (call : Call) → IsCallOf parts h actor call cube → IsCallOf parts h' actor call (cube_after_entry entry cube)
    call-next call of =
        let c = cube_of parts.images cube.grant in
        call_of-kept parts h h' actor call cube (cube_after_entry entry cube) refl refl
        (λ wish.
        ap (λ t. actor_call c (opening c) t (relative_number cube.grant.sub actor) wish) view_next
        ∙ call_by-other c (opening c) (view h cube.number) (relative_number cube.grant.sub actor) wish own.inner (inner_other of.inside)) of

    fits-beside : (request : Request) → IsFittingIn parts h user actor request → IsFittingIn parts h' user actor request
    fits-beside request fits =
        fits-on parts h h' user actor request (λ held is none. let no_cube : Some cube ≡ None = sym held_is ∙ is ∙ none in absurd (cc))
        (λ drained some. subst (λ held. IsSomeAnd held (λ cube. cube.is_drained ≡ drained)) (sym held_next) (subst (λ held. IsSomeAnd held (λ cube. cube.is_drained ≡ drained)) held_is some))
        (λ call some. subst (λ held. IsSomeAnd held (IsCallOf parts h' actor call)) (sym held_next)
        (call-next call (subst (λ held. IsSomeAnd held (IsCallOf parts h actor call)) held_is some))) fits

  -- ---- by the request of the entry

  beside_call : (request : Request) (call : Call) (held : Option HeldCube) → cube_held_by (after h) entry.user ≡ held → IsSomeAnd held (IsCallOf parts h entry.actor call)
      → option_map (λ cube. answer (nodes_of cube.grant) (cube_standing (after h) cube) entry.actor (with_places_outward cube.grant call)) held ≡ Some entry.what
      → entry.user ≡ user → (entry.actor == actor) ≡ false → IsFittingIn parts h user actor request → IsFittingIn parts h' user actor request
  beside_call request call None is some e same other fits = absurd some
  beside_call request call (Some cube) is some e same other fits =
      fits-beside cube is some.not_drained same (own-called parts machine h before entry call cube is some e) other request fits

  peeked : (request : Request) (what : What) → Peek ≡ what → entry.what ≡ what → IsFittingIn parts h user actor request → IsFittingIn parts h' user actor request
  peeked request what is same fits =
      let call : recorded_call entry.what ≡ None = ap recorded_call (same ∙ sym is) in
      fits-quiet request (ap (λ state. cube_held_by state user) (after-more h entry ∙ ap (λ what. state_after_entry (after h) (record { user = entry.user; actor = entry.actor; what = what })) (same ∙ sym is)))
      (and_false _ _ (ap is_some call)) fits

  by_asked : (request wish : Request) → IsFitting parts h entry.user entry.actor wish → what_of_request parts (after h) entry.user entry.actor wish ≡ Some entry.what
      → is_alone wish ≡ false → entry.user ≡ user → (entry.actor == actor) ≡ false → IsFittingIn parts h user actor request → IsFittingIn parts h' user actor request
  by_asked request (getcube d) of e beside same other fits = absurd (cc)
  by_asked request drain of e beside same other fits = absurd (cc)
  by_asked request freecube of e beside same other fits = absurd (cc)
  by_asked request peek of e beside same other fits = peeked request entry.what (ap (λ o. elim o [ None ↦ Peek | Some z ↦ z ]) e) refl fits
  by_asked request (cube_request call) of e beside same other fits = beside_call request call (cube_held_by (after h) entry.user) refl of.1 e same other fits

  by_user : (request : Request) (lawful : IsLawfulEntry parts h entry) → IsForeign user actor entry lawful.request → IsFittingIn parts h user actor request
      → IsFittingIn parts h' user actor request
  by_user request lawful foreign fits =
      elim (cases_Bool (entry.user == user)) [
        | inl same ↦
            elim foreign [
              | inl other ↦ absurd (both_ways _ other same)
              | inr beside ↦ by_asked request lawful.request lawful.fits lawful.answer beside.1 (eqb-true _ _ same) beside.0 fits
            ]
        | inr other ↦
            fits-quiet request ((lawful-entry parts machine h before entry lawful).others user other) (ap (λ b. b && is_some (recorded_call entry.what)) other) fits
      ]

pub still_fits : RequestsStillFit
still_fits parts history user actor request entry machine is fits lawful foreign =
    (fits.0, by_user parts machine history (projected parts history machine is) entry user actor request lawful foreign fits.1)

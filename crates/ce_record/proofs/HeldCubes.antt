-- What a user holds by its own entries is what the machine says.
use Rattle.std.proofs.Common.{◌≡◌, ◌≢◌, ℕ, true, false, ◌&&◌, ◌==◌, List, [], ◌∷◌, ◌++◌, Option, Some, None, IsSomeAnd, option_map, refl, ap, sym, ◌∙◌, subst, append-nil, inl, inr}
use Rattle.std.specs.Prelude.{is_some}
use Rattle.std.specs.List.{AllByRecursion}
use Rattle.std.proofs.lemmas.Bool.{cases_Bool, eq-eqb, ne_eqb, eqb-true}
use Rattle.std.proofs.lemmas.List.Sums.{fold-append}
use Rattle.std.proofs.lemmas.List.Elements.{filter-append}
use Rattle.ce_model.specs.declared.topology.Subcube.{Subcube}
use Rattle.ce_model.specs.declared.entry.Entry.{Entry}
use Rattle.ce_model.specs.declared.entry.What.{What}
use Rattle.ce_model.specs.declared.entry.What.TheVariants.{Getcube, Peek, Drain, Freecube}
use Rattle.ce_model.specs.Lists.{EachAfter}
use Rattle.ce_model.specs.Node.{Call}
use Rattle.ce_model.specs.Answers.{answer, recorded_call}
use Rattle.ce_model.specs.Subcubes.{first_free_subcube}
use Rattle.ce_model.specs.Renaming.{CubeGrant, entry_inward}
use Rattle.ce_model.specs.Views.{history_behind_grant, view}
use Rattle.ce_model.specs.Machine.{MachineParts, IsMachine, HeldCube, MachineState, cube_held_by, is_free, nodes_of, cube_standing, record_after_entry, cube_after_entry, with_cube, with_grant, with_drained_cube, without_cube, state_after_entry, state_after_call, after, Request, getcube, peek, drain, freecube, cube_request, with_places_outward, what_of_request, IsCallOf, IsFitting, IsLawfulEntry, IsLawful}
use Rattle.ce_model.proofs.Walked.{one_further, kept_by_each, each_of_front, each_behind}
use Rattle.ce_model.specs.Literals.{host_entry, entry_of}
use Rattle.ce_solo.proofs.Projection.Views.{found-more, found-new, trace-stays, trace-grows, view-is}
use Rattle.ce_solo.proofs.Projection.Held.{held-user, held-own, granted-own, left-own}
use Rattle.ce_solo.proofs.Projection.Invariant.{projected-entry}
use Rattle.ce_solo.proofs.Projection.Kinds.{and_false}
use Rattle.ce_solo.proofs.Projection.Law.{IsProjectedHistory, after-more, own-called, lawful-entry, projected}
use Rattle.ce_script.specs.Moments.{Holding, with_entry, next_holding, holding, moment_entries, own_entries}
use Rattle.ce_record.specs.HeldCubes.{cube_holding, history_holding}
use Rattle.ce_record.specs.Laws.{HoldingsAreTheMachines, HoldingsFollowDoings, OthersStay, CubeBegins}
use Rattle.ce_record.proofs.Moments.{map-flat, entries-own}

pub own-user : (history : List Entry) (user : ℕ) (cube : HeldCube) → cube_held_by (after history) user ≡ Some cube → cube.grant.user ≡ user
own-user history user cube holds = eqb-true _ _ (held-user (after history) user cube holds)

-- ---- the entries of a user

holding-more : (entries : List Entry) (entry : Entry) → holding (entries ++ entry ∷ []) ≡ next_holding (holding entries) entry
unfolding holding
holding-more entries entry = fold-append next_holding None entries (entry ∷ [])

own-one : (user : ℕ) (h : List Entry) (entry : Entry) → (entry.user == user) ≡ true → own_entries user (h ++ entry ∷ []) ≡ own_entries user h ++ entry ∷ []
own-one user h entry is = filter-append (λ (e : Entry). e.user == user) h (entry ∷ []) ∙ rw is refl

own-none : (user : ℕ) (h : List Entry) (entry : Entry) → (entry.user == user) ≡ false → own_entries user (h ++ entry ∷ []) ≡ own_entries user h
own-none user h entry other = filter-append (λ (e : Entry). e.user == user) h (entry ∷ []) ∙ rw other (append-nil (own_entries user h))

-- an entry of a cube makes its trace longer
extends : (held : Option Holding) (user actor : ℕ) (what : What) (call : Call) → recorded_call what ≡ Some call
    → next_holding held (entry_of user actor what) ≡ option_map (with_entry (entry_of user actor what)) held
extends held user actor (Getcube dim None) call e = absurd (cc)
extends held user actor (Getcube dim (Some sub)) call e = absurd (cc)
extends held user actor Peek call e = absurd (cc)
extends held user actor Drain call e = absurd (cc)
extends held user actor Freecube call e = absurd (cc)
extends held user actor other call e = refl

-- ---- views

module _ (parts : MachineParts) (h : List Entry) (before : IsProjectedHistory parts h) (entry : Entry) where
  -- the entry is none of this cube
  abbrev IsNoneOf : HeldCube → Type 0
  IsNoneOf cube = (entry.user == cube.grant.user && is_some (recorded_call entry.what)) ≡ false

  pub view-stays : (user : ℕ) (cube : HeldCube) → cube_held_by (after h) user ≡ Some cube → IsNoneOf cube → view (h ++ entry ∷ []) cube.number ≡ view h cube.number
  view-stays user cube is none =
      let was = before.held user cube is in
      view-is (h ++ entry ∷ []) cube.number cube.grant (was.behind ++ entry ∷ []) (found-more h entry cube.number cube.grant was.behind was.found)
      ∙ trace-stays cube.grant was.behind entry none ∙ sym (view-is h cube.number cube.grant was.behind was.found)

  pub view-grows : (user : ℕ) (cube : HeldCube) (call : Call) → cube_held_by (after h) user ≡ Some cube → entry.user ≡ user → recorded_call entry.what ≡ Some call
      → cube.is_drained ≡ false → view (h ++ entry ∷ []) cube.number ≡ view h cube.number ++ entry_inward cube.grant.sub entry ∷ []
  view-grows user cube call is of called goes =
      let was = before.held user cube is in
      let own : (entry.user == cube.grant.user) ≡ true = eq-eqb _ _ (of ∙ sym (eqb-true _ _ (held-user (after h) user cube is))) in
      view-is (h ++ entry ∷ []) cube.number cube.grant (was.behind ++ entry ∷ []) (found-more h entry cube.number cube.grant was.behind was.found)
      ∙ trace-grows cube.grant was.behind entry call (was.over ∙ goes) own called
      ∙ ap (λ t. t ++ entry_inward cube.grant.sub entry ∷ []) (sym (view-is h cube.number cube.grant was.behind was.found))

  -- a user holds the same still, where the state says so and the entry is none of its cube
  same_held : (user : ℕ) (held : Option HeldCube) → cube_held_by (after h) user ≡ held → ((cube : HeldCube) → held ≡ Some cube → IsNoneOf cube)
      → option_map (cube_holding (h ++ entry ∷ [])) held ≡ option_map (cube_holding h) held
  same_held user None is none = refl
  same_held user (Some cube) is none =
      ap (λ t. Some (record { grant = cube.grant; trace = t })) (view-stays user cube is (none cube refl))

  now-stays : (user : ℕ) → cube_held_by (after (h ++ entry ∷ [])) user ≡ cube_held_by (after h) user → ((cube : HeldCube) → cube_held_by (after h) user ≡ Some cube → IsNoneOf cube)
      → history_holding (h ++ entry ∷ []) user ≡ history_holding h user
  now-stays user same none = ap (option_map (cube_holding (h ++ entry ∷ []))) same ∙ same_held user (cube_held_by (after h) user) refl none

-- ---- an entry of the user

-- by an entry of its own a user holds what the machine then says
abbrev IsToldByHoldings : List Entry → Entry → Type 0
IsToldByHoldings h entry = next_holding (history_holding h entry.user) entry ≡ history_holding (h ++ entry ∷ []) entry.user

module _ (parts : MachineParts) (machine : IsMachine parts) (h : List Entry) (before : IsProjectedHistory parts h) where
  -- what the machine says behind an entry that leaves this state
  now-is : (entry : Entry) (state : MachineState) (held : Option HeldCube) → state_after_entry (after h) entry ≡ state → cube_held_by state entry.user ≡ held
      → history_holding (h ++ entry ∷ []) entry.user ≡ option_map (cube_holding (h ++ entry ∷ [])) held
  now-is entry state held is same =
      ap (λ state. option_map (cube_holding (h ++ entry ∷ [])) (cube_held_by state entry.user)) (after-more h entry ∙ is)
      ∙ ap (option_map (cube_holding (h ++ entry ∷ []))) same

  by_what : (entry : Entry) (what : What) → Some what ≡ Some entry.what → IsToldByHoldings h (entry_of entry.user entry.actor what) → IsToldByHoldings h entry
  by_what entry what e tells =
      let same : what ≡ entry.what = cc in subst (λ what. IsToldByHoldings h (entry_of entry.user entry.actor what)) same tells

  by_grant : (entry : Entry) (d : ℕ) (found : Option Subcube) → cube_held_by (after h) entry.user ≡ None → Some (Getcube d found) ≡ Some entry.what → IsToldByHoldings h entry
  by_grant entry d None none e =
      by_what entry (Getcube d None) e
      (ap (option_map (cube_holding h)) none ∙ sym (now-is (entry_of entry.user entry.actor (Getcube d None)) (after h) None refl none))
  by_grant entry d (Some sub) none e =
      let grant : CubeGrant = record { user = entry.user; dim = d; sub = sub } in
      let granting = entry_of entry.user entry.actor (Getcube d (Some sub)) in
      let new : view (h ++ granting ∷ []) (after h).grant_count ≡ [] =
      view-is (h ++ granting ∷ []) (after h).grant_count grant [] (ap (history_behind_grant (h ++ granting ∷ [])) before.count ∙ found-new h granting grant refl) in
      by_what entry (Getcube d (Some sub)) e
      (ap (λ t. Some (record { grant = grant; trace = t })) (sym new)
      ∙ sym (now-is granting (with_grant grant (after h)) _ refl (granted-own grant (after h) none)))

  by_peek : (entry : Entry) → Some Peek ≡ Some entry.what → IsToldByHoldings h entry
  by_peek entry e =
      let peeking = entry_of entry.user entry.actor Peek in
      by_what entry Peek e
      (sym (now-stays parts h before peeking entry.user (ap (λ state. cube_held_by state entry.user) (after-more h peeking)) (λ cube is. and_false _ _ refl)))

  by_drain : (entry : Entry) (held : Option HeldCube) → cube_held_by (after h) entry.user ≡ held → IsSomeAnd held (λ cube. cube.is_drained ≡ false)
      → Some Drain ≡ Some entry.what → IsToldByHoldings h entry
  by_drain entry None is some e = absurd some
  by_drain entry (Some cube) is some e =
      let draining = entry_of entry.user entry.actor Drain in
      by_what entry Drain e
      (ap (option_map (cube_holding h)) is
      ∙ ap (λ t. Some (record { grant = cube.grant; trace = t })) (sym (view-stays parts h before draining entry.user cube is (and_false _ _ refl)))
      ∙ sym (now-is draining (with_drained_cube entry.user (after h)) (Some (record cube { is_drained = true; mail = [] })) refl
      (held-own entry.user (λ cube. record cube { is_drained = true; mail = [] }) (λ cube. refl) (λ cube node run_record. record run_record { waiting_items = [] }) (after h) cube is)))

  by_free : (entry : Entry) → Some Freecube ≡ Some entry.what → IsToldByHoldings h entry
  by_free entry e =
      by_what entry Freecube e
      (sym (now-is (entry_of entry.user entry.actor Freecube) (without_cube entry.user (after h)) None refl (left-own entry.user (after h))))

  by_call : (entry : Entry) (call : Call) (held : Option HeldCube) → cube_held_by (after h) entry.user ≡ held → IsSomeAnd held (IsCallOf parts h entry.actor call)
      → option_map (λ cube. answer (nodes_of cube.grant) (cube_standing (after h) cube) entry.actor (with_places_outward cube.grant call)) held ≡ Some entry.what
      → IsToldByHoldings h entry
  by_call entry call None is some e = absurd some
  by_call entry call (Some cube) is fits e =
      let own = own-called parts machine h before entry call cube is fits e in
      extends (history_holding h entry.user) entry.user entry.actor entry.what own.call own.called
      ∙ ap (λ held. option_map (with_entry entry) (option_map (cube_holding h) held)) is
      ∙ ap (λ t. Some (record { grant = cube.grant; trace = t })) (sym (view-grows parts h before entry entry.user cube own.call is refl own.called fits.not_drained))
      ∙ sym (now-is entry (with_cube entry.user (cube_after_entry entry) (λ cube. record_after_entry cube.grant.sub entry) (after h)) (Some (cube_after_entry entry cube))
      (ap (λ call. state_after_call call entry (after h)) own.called)
      (held-own entry.user (cube_after_entry entry) (λ cube. refl) (λ cube. record_after_entry cube.grant.sub entry) (after h) cube is))

  by_request : (entry : Entry) (request : Request) → IsFitting parts h entry.user entry.actor request → what_of_request parts (after h) entry.user entry.actor request ≡ Some entry.what
      → IsToldByHoldings h entry
  by_request entry (getcube d) fits e = by_grant entry d (first_free_subcube (is_free (after h)) parts.dim d) fits.1.2 e
  by_request entry peek fits e = by_peek entry e
  by_request entry drain fits e = by_drain entry (cube_held_by (after h) entry.user) refl fits.1.1 e
  by_request entry freecube fits e = by_free entry e
  by_request entry (cube_request call) fits e = by_call entry call (cube_held_by (after h) entry.user) refl fits.1 e

-- ---- a whole history

-- what users hold by their own entries is what the machine says
abbrev AreTold : List Entry → Type 0
AreTold h = (user : ℕ) → holding (own_entries user h) ≡ history_holding h user

told-nil : AreTold []
unfolding holding after
told-nil user = refl

-- an entry of another user leaves what a user holds
module _ (parts : MachineParts) (machine : IsMachine parts) (h : List Entry) (entry : Entry) (before : IsProjectedHistory parts h) (is : IsLawfulEntry parts h entry) (user : ℕ)
    (other : (entry.user == user) ≡ false) where
  state-stays : cube_held_by (after (h ++ entry ∷ [])) user ≡ cube_held_by (after h) user
  state-stays = (lawful-entry parts machine h before entry is).others user other

  other-stays : history_holding (h ++ entry ∷ []) user ≡ history_holding h user
  other-stays =
      now-stays parts h before entry user state-stays
      (λ cube held. ap (λ b. b && is_some (recorded_call entry.what))
      (subst (λ u. (entry.user == u) ≡ false) (sym (eqb-true _ _ (held-user (after h) user cube held))) other))

told-entry : (parts : MachineParts) → IsMachine parts → (h : List Entry) (entry : Entry) → IsProjectedHistory parts h → AreTold h → IsLawfulEntry parts h entry
    → AreTold (h ++ entry ∷ [])
told-entry parts machine h entry before told is user =
    elim (cases_Bool (entry.user == user)) [
      | inl own ↦
          ap holding (own-one user h entry own) ∙ holding-more (own_entries user h) entry ∙ ap (λ held. next_holding held entry) (told user)
          ∙ subst (λ user. next_holding (history_holding h user) entry ≡ history_holding (h ++ entry ∷ []) user) (eqb-true _ _ own)
          (by_request parts machine h before entry is.request is.fits is.answer)
      | inr other ↦ ap holding (own-none user h entry other) ∙ told user ∙ sym (other-stays parts machine h entry before is user other)
    ]

now-holds : (parts : MachineParts) → IsMachine parts → (h : List Entry) (entry : Entry) → IsProjectedHistory parts h → IsLawfulEntry parts h entry → IsProjectedHistory parts (h ++ entry ∷ [])
now-holds parts machine h entry before is = projected-entry parts (after h) (after (h ++ entry ∷ [])) h entry before (lawful-entry parts machine h before entry is)

told : (parts : MachineParts) (history : List Entry) → IsMachine parts → IsLawful parts history → AreTold history
told parts history machine lawful =
    (kept_by_each (IsLawfulEntry parts) (λ h. IsProjectedHistory parts h × AreTold h)
    (λ h entry both is. (now-holds parts machine h entry both.0 is, told-entry parts machine h entry both.0 both.1 is)) [] history (projected parts [] machine tt, told-nil) lawful).1

pub held_is_held : HoldingsAreTheMachines
held_is_held parts history user machine lawful = ap holding (entries-own user history) ∙ told parts history machine lawful user

pub held_after_is_held : HoldingsFollowDoings
held_after_is_held parts history user doings machine lawful own =
    ap holding (map-flat (λ moment. moment.entry) (λ doing. doing.moments) doings) ∙ ap (λ moments. holding (moment_entries moments)) own
    ∙ held_is_held parts history user machine lawful

-- ---- other users

-- the same is held behind more of a history
abbrev IsHeldStill : ℕ → List Entry → List Entry → Type 0
IsHeldStill user h h' = (cube_held_by (after h') user ≡ cube_held_by (after h) user) × (history_holding h' user ≡ history_holding h user)

stay : (parts : MachineParts) → IsMachine parts → (h others : List Entry) (user : ℕ) → IsProjectedHistory parts h → EachAfter (IsLawfulEntry parts) h others
    → AllByRecursion (λ entry. entry.user ≢ user) others → IsHeldStill user h (h ++ others)
stay parts machine h [] user before each foreign = subst (IsHeldStill user h) (sym (append-nil h)) (refl, refl)
stay parts machine h (entry ∷ others) user before each foreign =
    let other : (entry.user == user) ≡ false = ne_eqb _ _ foreign.0 in
    let still = stay parts machine (h ++ entry ∷ []) others user (now-holds parts machine h entry before each.0) each.1 foreign.1 in
    subst (IsHeldStill user h) (one_further h entry others) (
      still.0 ∙ state-stays parts machine h entry before each.0 user other,
      still.1 ∙ other-stays parts machine h entry before each.0 user other,
    )

pub others_stay : OthersStay
others_stay parts history user others machine lawful =
    stay parts machine history others user (projected parts history machine (each_of_front (IsLawfulEntry parts) [] history others lawful))
    (each_behind (IsLawfulEntry parts) [] history others lawful)

-- ---- a new cube

pub cube_begins : CubeBegins
cube_begins parts history user dim sub machine lawful asked =
    let before = projected parts history machine lawful in
    let grant : CubeGrant = record { user = user; dim = dim; sub = sub } in
    let granting = host_entry user (Getcube dim (Some sub)) in (
      ap (λ state. cube_held_by state user) (after-more history granting) ∙ granted-own grant (after history) asked.fits.1.2,
      view-is (history ++ granting ∷ []) (after history).grant_count grant []
          (ap (history_behind_grant (history ++ granting ∷ [])) before.count ∙ found-new history granting grant refl),
    )

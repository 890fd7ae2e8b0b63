-- The laws by which a book keeps the machine: fronts of lawful histories are lawful, an entry tells
-- whose it is and whether its call is made alone, and what fits goes on fitting behind the entries
-- of others.
use Rattle.std.proofs.Common.{◌≡◌, ℕ, Bool, true, false, ◌==◌, if◌then◌else◌, List, [], ◌∷◌, ◌++◌, map, find, Option, Some, None, IsSomeAnd, option_map, refl, ap, sym, ◌∙◌, subst, inl, inr}
use Rattle.std.proofs.lemmas.Bool.{ne_eqb, cond_both, false≢true}
use Rattle.ce_model.specs.declared.entry.Entry.{Entry}
use Rattle.ce_model.specs.declared.entry.What.{What}
use Rattle.ce_model.specs.declared.entry.What.TheVariants.{Getcube, Peek, Drain, Freecube}
use Rattle.ce_model.specs.Node as model
use Rattle.ce_model.specs.Answers.{answer, recorded_call}
use Rattle.ce_model.specs.Trace.{Standing}
use Rattle.ce_model.specs.Renaming.{CubeGrant}
use Rattle.ce_model.specs.Machine.{MachineParts, IsMachine, HeldCube, MachineState, is_held_by, cube_held_by, held_grants, cube_after_entry, state_after_entry, state_after_call, after, Request, getcube, peek, drain, freecube, cube_request, is_alone, what_of_request, nodes_of, cube_standing, with_places_outward, IsLawfulEntry, IsLawful}
use Rattle.ce_model.proofs.Walked.{each_of_front, each_behind}
use Rattle.ce_daemon.specs.Boxes.{AreGrantBoxes}
use Rattle.ce_daemon.specs.Peeks.{numbered_grant}
use Rattle.ce_lock.specs.declared.who.Who.{Who}
use Rattle.ce_lock.specs.Entries.{IsForeignEntry}
use Rattle.ce_solo.specs.Laws as solo
use Rattle.ce_solo.proofs.Projection.StillFits as requests
use Rattle.ce_model.specs.Literals.{entry_of}
use Rattle.ce_solo.proofs.Projection.Law.{after-more, projected, lawful-entry}
use Rattle.ce_machine.specs.declared.call.Call.{Call}
use Rattle.ce_machine.specs.declared.call.Call.TheVariants as calls
use Rattle.ce_machine.specs.declared.call.Reply.{Reply}
use Rattle.ce_machine.specs.Requests.{request_of, number_and_grant, HasBroughtBoxes, IsFittingCall}
use Rattle.ce_machine.specs.Meanings.{whose, is_alone_call, is_alone_what, is_alone_entry, IsAnsweredBy}

-- ---- options

-- what holds of None alone
abbrev HasNone : {X : Type 0} → Option X → Type 0
HasNone None = Unit {0}
HasNone (Some x) = ⊥

no_some : {X : Type 0} (x : X) → None ≡ Some x → ⊥
no_some x e = subst HasNone e tt

abbrev some_or : {X : Type 0} → X → Option X → X
some_or x None = x
some_or x (Some y) = y

same_some : {X : Type 0} (x y : X) → Some x ≡ Some y → x ≡ y
same_some x y e = ap (some_or x) e

-- ---- the grants that are held

-- the grants stay where a change of cubes keeps numbers and grants
pub grants-kept : (test : HeldCube → Bool) (change : HeldCube → HeldCube) (cubes : List HeldCube)
    → ((cube : HeldCube) → number_and_grant (change cube) ≡ number_and_grant cube)
    → map number_and_grant (map (λ cube. if test cube then change cube else cube) cubes)
    ≡ map number_and_grant cubes
grants-kept test change [] keeps = refl
grants-kept test change (cube ∷ cubes) keeps =
    λ i. cond_both (test cube) (change cube) cube
    (λ now. number_and_grant now ≡ number_and_grant cube) (λ t. keeps cube) (λ f. refl) i
    ∷ grants-kept test change cubes keeps i

found_or : (found : Bool) (cube : HeldCube) (others : Option HeldCube)
    (grants : Option (ℕ × CubeGrant)) → option_map number_and_grant others ≡ grants
    → option_map number_and_grant (if found then Some cube else others)
    ≡ (if found then Some (number_and_grant cube) else grants)
found_or true cube others grants e = refl
found_or false cube others grants e = e

-- the grant of the cube that a user holds is the one among the grants that are held
pub grant-found : (user : ℕ) (cubes : List HeldCube)
    → option_map number_and_grant (find (is_held_by user) cubes)
    ≡ find (λ (grant : ℕ × CubeGrant). grant.1.user == user) (map number_and_grant cubes)
grant-found user [] = refl
grant-found user (cube ∷ cubes) =
    found_or (is_held_by user cube) cube (find (is_held_by user) cubes) _ (grant-found user cubes)

-- an entry of a call that isn't made alone leaves the grants as they are
pub grants-stay : (h : List Entry) (entry : Entry) → is_alone_what entry.what ≡ false
    → held_grants (after (h ++ entry ∷ [])) ≡ held_grants (after h)
grants-stay h entry beside = by_what entry.what refl beside
  where
    by_call : (call : model.Call) → recorded_call entry.what ≡ Some call
        → held_grants (after (h ++ entry ∷ [])) ≡ held_grants (after h)
    by_call call called =
        ap held_grants
        (after-more h entry ∙ ap (λ call. state_after_call call entry (after h)) called)
        ∙ grants-kept (is_held_by entry.user) (cube_after_entry entry) (after h).cubes
        (λ cube. refl)

    by_what : (what : What) → entry.what ≡ what → is_alone_what what ≡ false
        → held_grants (after (h ++ entry ∷ [])) ≡ held_grants (after h)
    by_what (Getcube dim sub) is e = absurd (false≢true (sym e))
    by_what Peek is e = ap held_grants
        (after-more h entry
        ∙ ap (λ what. state_after_entry (after h) (entry_of entry.user entry.actor what)) is)
    by_what Drain is e = absurd (false≢true (sym e))
    by_what Freecube is e = absurd (false≢true (sym e))
    by_what other is e = by_call _ (ap recorded_call is)

-- ---- whether an entry's call is made alone

alone_answer : (nodes : List ℕ) (standing : Standing) (actor : ℕ) (call : model.Call)
    → is_alone_what (answer nodes standing actor call) ≡ false
unfolding answer
alone_answer nodes standing actor (model.take_call asking dead poller) = refl
alone_answer nodes standing actor other = refl

-- an entry tells whether its request is made alone
abbrev is_some_alone : Bool → Option What → Bool
is_some_alone other None = other
is_some_alone other (Some what) = is_alone_what what

pub alone-answered : (parts : MachineParts) (state : MachineState) (user actor : ℕ)
    (request : Request) (what : What)
    → what_of_request parts state user actor request ≡ Some what → is_alone_what what
    ≡ is_alone request
alone-answered parts state user actor (getcube d) what e = sym (ap (is_some_alone true) e)
alone-answered parts state user actor peek what e = sym (ap (is_some_alone false) e)
alone-answered parts state user actor drain what e = sym (ap (is_some_alone true) e)
alone-answered parts state user actor freecube what e = sym (ap (is_some_alone true) e)
alone-answered parts state user actor (cube_request call) what e =
    by_held (cube_held_by state user) e
  where
    by_held : (cube_held : Option HeldCube)
        → option_map
        (λ cube. answer (nodes_of cube.grant) (cube_standing state cube) actor
        (with_places_outward cube.grant call)) cube_held ≡ Some what
        → is_alone_what what ≡ false
    by_held None e = absurd (no_some what e)
    by_held (Some cube) e =
        sym (ap (is_some_alone false) e)
        ∙ alone_answer (nodes_of cube.grant) (cube_standing state cube) actor
        (with_places_outward cube.grant call)

-- ---- lawful histories

pub empty_is_lawful : (parts : MachineParts) → IsLawful parts []
empty_is_lawful parts = tt

pub prefix_is_lawful : (parts : MachineParts) (front rest : List Entry)
    → IsLawful parts (front ++ rest) → IsLawful parts front
prefix_is_lawful parts front rest lawful = each_of_front (IsLawfulEntry parts) [] front rest lawful

-- the last entry of a lawful history is lawful
pub last-lawful : (parts : MachineParts) (earlier_entries : List Entry) (entry : Entry)
    → IsLawful parts (earlier_entries ++ entry ∷ []) → IsLawfulEntry parts earlier_entries entry
last-lawful parts earlier_entries entry lawful =
    (each_behind (IsLawfulEntry parts) [] earlier_entries (entry ∷ []) lawful).0

module _ {N : Type 0} (home : N → ℕ) (clean : N → Type 0) (parts : MachineParts) where
  pub stands_for : (earlier_entries : List Entry) (entry : Entry) (who : Who) (call : Call N)
      (reply : Reply N) → IsAnsweredBy home clean parts earlier_entries entry who call reply
      → (whose entry ≡ who) × (is_alone_entry entry ≡ is_alone_call call)
  stands_for earlier_entries entry who call reply stands = (
    stands.whose_is,
    alone-answered parts (after earlier_entries) who.family who.actor
        (request_of call) entry.what stands.answer,
  )

  -- ---- what fits goes on fitting

  still_foreign : (earlier_entries : List Entry) (entry : Entry) (who : Who)
      (lawful : IsLawfulEntry parts earlier_entries entry)
      → IsForeignEntry whose is_alone_entry who entry
      → solo.IsForeign who.family who.actor entry lawful.request
  still_foreign earlier_entries entry who lawful (inl family) = inl (ne_eqb _ _ family)
  still_foreign earlier_entries entry who lawful (inr beside) = inr (
    ne_eqb _ _ beside.0,
    sym (alone-answered parts
        (after earlier_entries) entry.user entry.actor lawful.request entry.what lawful.answer)
        ∙ beside.1,
  )

  -- the user holds the grant that it held
  grant_stays : (earlier_entries : List Entry) (entry : Entry) (who : Who) → IsMachine parts
      → IsLawful parts earlier_entries → IsLawfulEntry parts earlier_entries entry
      → IsForeignEntry whose is_alone_entry who entry
      → option_map number_and_grant
      (cube_held_by (after (earlier_entries ++ entry ∷ [])) who.family)
      ≡ option_map number_and_grant (cube_held_by (after earlier_entries) who.family)
  grant_stays earlier_entries entry who machine is lawful (inl family) =
      ap (option_map number_and_grant)
      ((lawful-entry parts machine earlier_entries
      (projected parts earlier_entries machine is) entry lawful).others who.family
      (ne_eqb _ _ family))
  grant_stays earlier_entries entry who machine is lawful (inr beside) =
      grant-found who.family (after (earlier_entries ++ entry ∷ [])).cubes
      ∙ ap (find (λ (grant : ℕ × CubeGrant). grant.1.user == who.family))
      (grants-stay earlier_entries entry beside.1)
      ∙ sym (grant-found who.family (after earlier_entries).cubes)

  boxes_held : (cube_held cube_held' : Option HeldCube) (Q : ℕ × CubeGrant → Type 0)
      → option_map number_and_grant cube_held' ≡ option_map number_and_grant cube_held
      → IsSomeAnd cube_held (λ cube. Q (number_and_grant cube))
      → IsSomeAnd cube_held' (λ cube. Q (number_and_grant cube))
  boxes_held None cube_held' Q e some = absurd some
  boxes_held (Some cube) None Q e some = absurd (no_some (number_and_grant cube) e)
  boxes_held (Some cube) (Some cube') Q e some =
      subst Q (sym (same_some (number_and_grant cube') (number_and_grant cube) e)) some

  boxes_stay : (earlier_entries later_entries : List Entry) (user : ℕ) (call : Call N)
      → option_map number_and_grant (cube_held_by (after later_entries) user)
      ≡ option_map number_and_grant (cube_held_by (after earlier_entries) user)
      → HasBroughtBoxes home clean earlier_entries user call
      → HasBroughtBoxes home clean later_entries user call
  boxes_stay earlier_entries later_entries user (calls.Freecube boxes) e some =
      boxes_held (cube_held_by (after earlier_entries) user)
      (cube_held_by (after later_entries) user)
      (λ grant. AreGrantBoxes home clean (numbered_grant grant) boxes.items) e some
  boxes_stay earlier_entries later_entries user other e some = some

  pub still_fits : (earlier_entries : List Entry) (entry : Entry) (who : Who) (call : Call N)
      → IsLawful parts (earlier_entries ++ entry ∷ [])
      → IsFittingCall home clean parts earlier_entries who call
      → IsForeignEntry whose is_alone_entry who entry
      → IsFittingCall home clean parts (earlier_entries ++ entry ∷ []) who call
  still_fits earlier_entries entry who call lawful fits foreign =
      let was = prefix_is_lawful parts earlier_entries (entry ∷ []) lawful in
      let last = last-lawful parts earlier_entries entry lawful in
      record {
        machine = fits.machine;
        fits = requests.still_fits parts earlier_entries who.family who.actor
            (request_of call) entry fits.machine was fits.fits last
            (still_foreign earlier_entries entry who last foreign);
        boxes = boxes_stay earlier_entries (earlier_entries ++ entry ∷ []) who.family call
            (grant_stays earlier_entries entry who fits.machine was last foreign) fits.boxes;
      }

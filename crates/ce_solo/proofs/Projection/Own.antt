-- An entry of a cube that is held: it is the next of the cube's trace, and the machine keeps on
-- what the cube becomes.
use Rattle.std.proofs.Common.{◌≡◌, ◌⊎◌, ℕ, ◌+◌, ◌^◌, ◌<◌, ◌≤◌, Bool, true, false, ◌==◌, if◌then◌else◌, List, [], ◌∷◌, ◌++◌, count_by, Option, Some, None, IsTrue, option_map, option_and_then, refl, ap, ap₂, sym, ◌∙◌, subst, inl, inr, arith}
use Rattle.std.specs.List.{AllByRecursion}
use Rattle.std.proofs.lemmas.Bool.{cases_Bool, eq-eqb, eqb-true}
use Rattle.ce_model.specs.declared.topology.TheConstants.{HOST}
use Rattle.ce_model.specs.declared.entry.Entry.{Entry}
use Rattle.ce_model.specs.declared.entry.TakeResult.{TakeResult}
use Rattle.ce_model.specs.declared.entry.TakeResult.TheVariants.{Start, Mail, Kill, Poll, Idle, Spent}
use Rattle.ce_model.specs.Limits.{greatest_dim}
use Rattle.ce_model.specs.Parcels.{Parcel, Item, start, mail, kill, is_named_by}
use Rattle.ce_model.specs.Node.{Call}
use Rattle.ce_model.specs.Trace.{standing, allowed_dispatches_after, made_dispatches_after, NodeRecord, Standing, items_to}
use Rattle.ce_model.specs.Answers.{answer, recorded_call}
use Rattle.ce_model.specs.Cube.{Cube, CubeState, IsCube, opening, state_after_trace, wish_of_call, entry_wish, actor_call, actor_entry, next_entry, node_numbers, Wish, IsNext}
use Rattle.ce_model.specs.Sound.{IsSound, IsHostItem, is_start_of, is_kill_of}
use Rattle.ce_model.specs.Subcubes.{relative_number, extract, node_of, is_inside}
use Rattle.ce_model.specs.Renaming.{CubeGrant, block_outward, number_outward, renamed_record, renamed_call_blocks, entry_inward}
use Rattle.ce_model.specs.Views.{trace_behind, view}
use Rattle.ce_model.specs.Machine.{waiting_items_after, MachineParts, IsMachine, HeldCube, MachineState, host_record, cube_standing, nodes_of, record_after_entry, cube_after_entry, with_places_outward, cube_of}
use Rattle.ce_model.proofs.Subcubes.{ones_of-bound, node_of-extract}
use Rattle.ce_model.proofs.AloneByEntries.{call_of-answer}
use Rattle.ce_model.proofs.OneMore.{taken_for}
use Rattle.ce_solo.proofs.Lists.{count_by-agree, count_by-none}
use Rattle.ce_solo.proofs.Items.{named-start, named-kill, named-mail}
use Rattle.ce_solo.proofs.Entries.{entry_in, standing_after}
use Rattle.ce_solo.proofs.Made.{made, taking-sends_none}
use Rattle.ce_solo.proofs.Stands.{IsSoundTrace, entry_of-next, left-made, stands-each}
use Rattle.ce_solo.proofs.Fresh.{fresh_sound}
use Rattle.ce_solo.proofs.Projection.Numbers.{IsPlaced, IsNumber, IsWhatOf, what_outward, entry_outward, entry_in_out, out_node, out_no_host, inside_below, relative_inside, relative_host}
use Rattle.ce_solo.proofs.Projection.Answers.{IsStandingOf, answer-outward}
use Rattle.ce_solo.proofs.Projection.Calls.{call-in, made-within, made-number, what-within}
use Rattle.ce_solo.proofs.Projection.Entries.{IsOneTaken, record-behind, waiting-behind, armed-outward, dispatched-outward, sent-outward}
use Rattle.ce_solo.proofs.Projection.Views.{trace-grows, view-is}
use Rattle.ce_solo.proofs.Projection.Invariant.{IsKept, IsHeld, IsByEntries}

pub own_cube : (parts : MachineParts) (grant : CubeGrant) → IsMachine parts → IsPlaced parts.dim grant → IsCube (cube_of parts.images grant)
own_cube parts grant machine placed = record {
  user = placed.user;
  dim = rw (← placed.sub.dimension) (ones_of-bound greatest_dim grant.sub.mask);
  images = machine.images;
}

-- ---- what an entry takes is one item

-- where none of the items has a name, at most one has
named_none : (given : TakeResult) (items : List Item) → AllByRecursion (λ item. is_named_by given item ≡ false) items → count_by (is_named_by given) items ≤ 1
named_none given items none = omega (arith, count_by-none (is_named_by given) items none)

all_unnamed : (given : TakeResult) (items : List Item) → ((item : Item) → is_named_by given item ≡ false) → AllByRecursion (λ item. is_named_by given item ≡ false) items
all_unnamed given [] each = tt
all_unnamed given (item ∷ items) each = (each item, all_unnamed given items each)

-- what waits for the host is mail
host_unnamed : (given : TakeResult) (items : List Item) → ((parcel : Parcel) → is_named_by given (mail parcel) ≡ false) → AllByRecursion IsHostItem items
    → AllByRecursion (λ item. is_named_by given item ≡ false) items
host_unnamed given [] each own = tt
host_unnamed given (start pid image ∷ items) each own = absurd own.0
host_unnamed given (mail parcel ∷ items) each own = (each parcel, host_unnamed given items each own.1)
host_unnamed given (kill pid ∷ items) each own = absurd own.0

-- at most one item that waits has this name
node_once : (cube : Cube) (s : CubeState) (r : ℕ) (given : TakeResult) → IsSound cube s → r < 2 ^ cube.dim
    → count_by (is_named_by given) (s.standing.node_record r).waiting_items ≤ 1
node_once cube s r (Start pid image) sound below =
    let items = (s.standing.node_record r).waiting_items in
    omega (arith, count_by-agree (is_named_by (Start pid image)) (is_start_of pid) items (named-start pid image), (sound.records r below).one_start pid)
node_once cube s r (Kill pid) sound below =
    let items = (s.standing.node_record r).waiting_items in
    omega (arith, count_by-agree (is_named_by (Kill pid)) (is_kill_of pid) items (named-kill pid), (sound.records r below).one_kill pid)
node_once cube s r (Mail pid number) sound below = named-mail pid number (s.standing.node_record r).waiting_items (sound.records r below).numbered.rising
node_once cube s r (Poll pid) sound below = named_none (Poll pid) _ (all_unnamed (Poll pid) (s.standing.node_record r).waiting_items (λ item. refl))
node_once cube s r Idle sound below = named_none Idle _ (all_unnamed Idle (s.standing.node_record r).waiting_items (λ item. refl))
node_once cube s r Spent sound below = named_none Spent _ (all_unnamed Spent (s.standing.node_record r).waiting_items (λ item. refl))

host_once : (cube : Cube) (s : CubeState) (given : TakeResult) → IsSound cube s → count_by (is_named_by given) (s.standing.node_record HOST).waiting_items ≤ 1
host_once cube s (Start pid image) sound =
    named_none (Start pid image) _ (host_unnamed (Start pid image) (s.standing.node_record HOST).waiting_items (λ parcel. refl) sound.host.own)
host_once cube s (Kill pid) sound = named_none (Kill pid) _ (host_unnamed (Kill pid) (s.standing.node_record HOST).waiting_items (λ parcel. refl) sound.host.own)
host_once cube s (Mail pid number) sound = named-mail pid number (s.standing.node_record HOST).waiting_items sound.host.numbered.rising
host_once cube s (Poll pid) sound = named_none (Poll pid) _ (all_unnamed (Poll pid) (s.standing.node_record HOST).waiting_items (λ item. refl))
host_once cube s Idle sound = named_none Idle _ (all_unnamed Idle (s.standing.node_record HOST).waiting_items (λ item. refl))
host_once cube s Spent sound = named_none Spent _ (all_unnamed Spent (s.standing.node_record HOST).waiting_items (λ item. refl))

named_once : (cube : Cube) (s : CubeState) (n : ℕ) (given : TakeResult) → IsSound cube s → IsNumber cube.dim n
    → count_by (is_named_by given) (s.standing.node_record n).waiting_items ≤ 1
named_once cube s n given sound (inl below) = node_once cube s n given sound below
named_once cube s n given sound (inr host) =
    subst (λ m. count_by (is_named_by given) (s.standing.node_record m).waiting_items ≤ 1) (sym host) (host_once cube s given sound)

-- ---- what the machine keeps

pub standing-kept : (dim : ℕ) (state : MachineState) (cube : HeldCube) (here : Standing) → IsPlaced dim cube.grant → IsKept state.node_record cube here
    → IsStandingOf cube.grant (cube_standing state cube) here
standing-kept dim state cube here placed kept = record {
  nodes = λ r below.
      ap (λ (b : Bool). if b then host_record cube else state.node_record (node_of cube.grant.sub r)) (out_no_host dim cube.grant placed r) ∙ kept.nodes r below;
  host = kept.mail;
  allowed_dispatches = kept.allowed_dispatches;
  made_dispatches = kept.made_dispatches;
  parcel_count = kept.parcel_count;
}

kept-own : (dim : ℕ) (node_record node_record' : ℕ → NodeRecord) (cube : HeldCube) (here : Standing) (entry : Entry) (placed : IsPlaced dim cube.grant)
    (number : IsNumber cube.grant.dim entry.actor) (what : IsWhatOf cube.grant.dim entry.what)
    → ((n : ℕ) → IsNumber cube.grant.dim n → IsOneTaken dim cube.grant placed entry number what n (here.node_record n).waiting_items)
    → ((r : ℕ) → r < 2 ^ cube.grant.dim → node_record' (node_of cube.grant.sub r)
    ≡ record_after_entry cube.grant.sub (entry_outward cube.grant entry) (node_of cube.grant.sub r) (node_record (node_of cube.grant.sub r)))
    → IsKept node_record cube here → IsKept node_record' (cube_after_entry (entry_outward cube.grant entry) cube) (standing_after here entry)
kept-own dim node_record node_record' cube here entry placed number what one changed kept =
    let grant = cube.grant in
    let out = entry_outward grant entry in
    record {
      nodes = λ r below.
          changed r below ∙ ap (record_after_entry grant.sub out (node_of grant.sub r)) (kept.nodes r below)
          ∙ ap (λ n. record_after_entry grant.sub out n (renamed_record (block_outward grant) (here.node_record r))) (sym (out_node dim grant placed r below))
          ∙ record-behind dim grant placed entry number what r (here.node_record r) (inl below) (one r (inl below));
      mail = ap (waiting_items_after grant.sub out HOST) kept.mail
          ∙ waiting-behind dim grant placed entry number what HOST (here.node_record HOST).waiting_items (inr refl) (one HOST (inr refl));
      allowed_dispatches = armed-outward grant cube.allowed_dispatches entry.what ∙ ap (λ n. allowed_dispatches_after n entry.what) kept.allowed_dispatches;
      made_dispatches = dispatched-outward grant cube.made_dispatches entry.what ∙ ap (λ n. made_dispatches_after n entry.what) kept.made_dispatches;
      parcel_count = ap₂ (λ a b. a + b) kept.parcel_count (sent-outward grant entry.actor (number_outward grant.sub entry.actor) entry.what);
    }

-- ---- the entry of the cube

-- the entry is, with the machine's numbers, the next one of the cube behind this trace
pub record IsOwnEntry (parts : MachineParts) (grant : CubeGrant) (t : List Entry) (entry : Entry) : Type 0 where
  pub inner : Entry
  pub next : IsNext (cube_of parts.images grant) (opening (cube_of parts.images grant)) t inner
  pub same : entry ≡ entry_outward grant inner
  pub number : IsNumber grant.dim inner.actor
  pub what : IsWhatOf grant.dim inner.what
  pub call : Call
  pub called : recorded_call entry.what ≡ Some call

asked_in_host : (cube : Cube) (o : CubeState) (t : List Entry) (actor : ℕ) (call : Call) → (actor == HOST) ≡ true
    → entry_wish (actor_entry cube o t actor call) ≡ wish_of_call call
asked_in_host cube o t actor call is =
    ap (λ (b : Bool). if b then option_and_then wish_of_call (recorded_call (actor_entry cube o t actor call).what) else None) is
    ∙ ap (option_and_then wish_of_call) (call_of-answer (node_numbers cube.dim) (standing o.standing t) actor call)

next_by_call : (cube : Cube) (o : CubeState) (t : List Entry) (actor : ℕ) (call : Call) → actor_call cube o t actor (wish_of_call call) ≡ Some call
    → IsNext cube o t (actor_entry cube o t actor call)
unfolding next_entry
next_by_call cube o t actor call e =
    elim (cases_Bool (actor == HOST)) [
      | inl is ↦
          ap (λ wish. option_map (actor_entry cube o t actor) (actor_call cube o t actor wish)) (asked_in_host cube o t actor call is)
          ∙ ap (option_map (actor_entry cube o t actor)) e
      | inr node ↦ next_of_node (entry_wish (actor_entry cube o t actor call)) (wish_of_call call) node ∙ ap (option_map (actor_entry cube o t actor)) e
    ]
  where
    next_of_node : (x y : Option Wish) → (actor == HOST) ≡ false
        → option_map (actor_entry cube o t actor) (actor_call cube o t actor x) ≡ option_map (actor_entry cube o t actor) (actor_call cube o t actor y)
    next_of_node x y node = rw node refl

-- an actor has the number that it is known by, outwards
pub actor_back : (dim : ℕ) (grant : CubeGrant) (placed : IsPlaced dim grant) (actor : ℕ) → IsTrue (actor == HOST) ⊎ IsTrue (is_inside grant.sub actor)
    → actor ≡ number_outward grant.sub (relative_number grant.sub actor)
actor_back dim grant placed actor (inl host) =
    let is = eqb-true actor HOST host in
    is ∙ sym (ap (λ n. number_outward grant.sub (relative_number grant.sub n)) is ∙ ap (number_outward grant.sub) (relative_host dim grant placed))
actor_back dim grant placed actor (inr inside) =
    sym (ap (number_outward grant.sub) (relative_inside dim grant placed actor inside)
    ∙ out_node dim grant placed (extract actor grant.sub.mask) (inside_below dim grant placed actor inside) ∙ node_of-extract grant.sub actor inside)

module _ (parts : MachineParts) (machine : IsMachine parts) (state : MachineState) (h : List Entry) (cube : HeldCube) (was : IsHeld parts state h cube) (goes : cube.is_drained ≡ false)
    (alone : IsByEntries parts cube.grant (trace_behind cube.grant was.behind)) where
  abbrev own : Cube
  own = cube_of parts.images cube.grant

  abbrev t : List Entry
  t = trace_behind cube.grant was.behind

  abbrev s : CubeState
  s = state_after_trace own (opening own) t

  pub stands : IsSoundTrace own (opening own) t
  stands = stands-each own (opening own) t (own_cube parts cube.grant machine was.placed) (fresh_sound own (own_cube parts cube.grant machine was.placed)) alone

  pub own-entry : (entry : Entry) (call : Call) → entry.user ≡ cube.grant.user → IsTrue (entry.actor == HOST) ⊎ IsTrue (is_inside cube.grant.sub entry.actor)
      → actor_call own (opening own) (view h cube.number) (relative_number cube.grant.sub entry.actor) (wish_of_call call) ≡ Some call
      → answer (nodes_of cube.grant) (cube_standing state cube) entry.actor (with_places_outward cube.grant (renamed_call_blocks (block_outward cube.grant) call)) ≡ entry.what
      → IsOwnEntry parts cube.grant t entry
  own-entry entry call user inside called answered =
      let grant = cube.grant in
      let of = own_cube parts grant machine was.placed in
      let actor = relative_number grant.sub entry.actor in
      let says = subst (λ t. actor_call own (opening own) t actor (wish_of_call call) ≡ Some call) (view-is h cube.number grant was.behind was.found) called in
      let by = made own s actor (wish_of_call call) call says in
      let number = made-number own s of stands.sound actor (wish_of_call call) call by in
      let within = made-within own s of stands.sound actor (wish_of_call call) call by in
      let back = actor_back parts.dim grant was.placed entry.actor inside in
      let inner = entry_in own s actor call in
      let what : entry.what ≡ what_outward grant inner.what =
      sym answered ∙ ap (λ n. answer (nodes_of grant) (cube_standing state cube) n (with_places_outward grant (renamed_call_blocks (block_outward grant) call))) back
      ∙ answer-outward parts.dim grant was.placed (cube_standing state cube) s.standing (standing-kept parts.dim state cube s.standing was.placed (was.kept goes)) actor call number
      (call-in grant.dim call within) in
      record {
        inner = inner;
        next = next_by_call own (opening own) t actor call says;
        same = λ i. record { user = user i; actor = back i; what = what i };
        number = number;
        what = what-within own s of stands.sound actor call within;
        call = with_places_outward grant (renamed_call_blocks (block_outward grant) call);
        called = ap recorded_call (sym answered)
            ∙ call_of-answer (nodes_of grant) (cube_standing state cube) entry.actor (with_places_outward grant (renamed_call_blocks (block_outward grant) call));
      }

  takes-one : (inner : Entry) (number : IsNumber cube.grant.dim inner.actor) (what : IsWhatOf cube.grant.dim inner.what) → IsNext own (opening own) t inner
      → (n : ℕ) → IsNumber cube.grant.dim n → IsOneTaken parts.dim cube.grant was.placed inner number what n (s.standing.node_record n).waiting_items
  takes-one inner number what next n of_n given taken =
      let e = entry_of-next own (opening own) t inner next in (
        named_once own s n given stands.sound of_n,
        ap (items_to n) e.is ∙ taking-sends_none own s e.actor n e.call given (ap (taken_for n) (sym e.is) ∙ taken),
      )

  -- the machine keeps on what the cube becomes
  pub kept-behind : (entry : Entry) (node_record' : ℕ → NodeRecord) → (is : IsOwnEntry parts cube.grant t entry)
      → ((r : ℕ) → r < 2 ^ cube.grant.dim → node_record' (node_of cube.grant.sub r)
      ≡ record_after_entry cube.grant.sub entry (node_of cube.grant.sub r) (state.node_record (node_of cube.grant.sub r)))
      → IsKept node_record' (cube_after_entry entry cube) (state_after_trace own (opening own) (t ++ is.inner ∷ [])).standing
  kept-behind entry node_record' is changed =
      let grant = cube.grant in
      let e = entry_of-next own (opening own) t is.inner is.next in
      let now = kept-own parts.dim state.node_record node_record' cube s.standing is.inner was.placed is.number is.what (takes-one is.inner is.number is.what is.next)
      (λ r below. changed r below ∙ ap (λ e. record_after_entry grant.sub e (node_of grant.sub r) (state.node_record (node_of grant.sub r))) is.same) (was.kept goes) in
      subst (λ (now : CubeState). IsKept node_record' (cube_after_entry entry cube) now.standing) (sym (left-made own (opening own) t is.inner stands e))
      (subst (λ e. IsKept node_record' (cube_after_entry e cube) (standing_after s.standing is.inner)) (sym is.same) now)

  -- the trace of the cube goes on with the entry, as the cube knows it
  pub trace-behind : (entry : Entry) → (is : IsOwnEntry parts cube.grant t entry) → trace_behind cube.grant (was.behind ++ entry ∷ []) ≡ t ++ is.inner ∷ []
  trace-behind entry is =
      trace-grows cube.grant was.behind entry is.call (was.over ∙ goes) (eq-eqb _ _ (ap (λ (e : Entry). e.user) is.same ∙ inner_user)) is.called
      ∙ ap (λ e. t ++ e ∷ []) (ap (entry_inward cube.grant.sub) is.same ∙ entry_in_out parts.dim cube.grant was.placed is.inner is.number is.what)
    where
      inner_user : is.inner.user ≡ cube.grant.user
      inner_user = ap (λ (e : Entry). e.user) (entry_of-next own (opening own) t is.inner is.next).is

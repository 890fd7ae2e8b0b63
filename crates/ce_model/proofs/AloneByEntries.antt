-- A trace is one that a cube gives alone exactly where each of its entries is the one that its
-- actor makes next.
use Rattle.std.proofs.Common.{◌≡◌, ℕ, List, [], ◌∷◌, ◌++◌, Option, Some, None, Bool, true, false, ◌&&◌, ◌==◌, if◌then◌else◌, refl, ap, sym, ◌∙◌, subst, length, nat_lt, slice_get, drop, fold, option_map, option_and_then, filter_map, append-nil}
use Rattle.ce_model.specs.declared.topology.TheConstants.{HOST}
use Rattle.ce_model.specs.declared.topology.Place.{Place}
use Rattle.ce_model.specs.declared.topology.BlockId.{BlockId}
use Rattle.ce_model.specs.declared.entry.Entry.{Entry}
use Rattle.ce_model.specs.Lists.{EachAfter}
use Rattle.ce_model.specs.Node.{Call, take_call, send_call, spawn_call, kill_call, note_call, arm_call, look_call, mail_call, is_place}
use Rattle.ce_model.specs.Trace.{Standing, standing}
use Rattle.ce_model.specs.Answers.{answer, recorded_call}
use Rattle.ce_model.specs.Cube.{Cube, CubeState, Wish, send_wish, spawn_wish, kill_wish, arm_wish, look_wish, mail_wish, call_of_wish, wish_of_call, actor_call, actor_entry, next_entry, Solo, next_solo, continued_solo, whole_trace, solo, entry_wish, host_wishes, actors, hoststore, is_node, next_call, node_numbers, IsNext, IsAloneFrom}
use Rattle.ce_model.proofs.Walked.{one_further}

-- ---- what an entry tells of its call

-- an entry is of the call that made it
pub call_of-answer : (nodes : List ℕ) (s : Standing) (actor : ℕ) (call : Call) → recorded_call (answer nodes s actor call) ≡ Some call
unfolding answer
call_of-answer nodes s actor (take_call asking dead poller) = refl
call_of-answer nodes s actor (send_call pid to bytes) = refl
call_of-answer nodes s actor (spawn_call pid image to) = refl
call_of-answer nodes s actor (kill_call pid to) = refl
call_of-answer nodes s actor (note_call pid word) = refl
call_of-answer nodes s actor (arm_call count) = refl
call_of-answer nodes s actor look_call = refl
call_of-answer nodes s actor mail_call = refl

chosen : {X : Type 0} (b : Bool) (x : Option X) (y : X) → (if b then x else None) ≡ Some y → x ≡ Some y
chosen true x y e = e
chosen false x y e = cc

sent_back : (to : Place) (bytes : List ℕ) (least : Option BlockId) (call : Call)
    → option_map (λ id. send_call 0 ((to, id) ∷ []) bytes) least ≡ Some call → wish_of_call call ≡ Some (send_wish to bytes)
sent_back to bytes None call e = cc
sent_back to bytes (Some id) call e = ap (option_and_then wish_of_call) (sym e)

-- a host's call tells what its user asked for
pub call_of_wish-wish : (cube : Cube) (store : List BlockId) (wish : Wish) (call : Call)
    → call_of_wish cube store wish ≡ Some call → wish_of_call call ≡ Some wish
call_of_wish-wish cube store (send_wish to bytes) call e =
    sent_back to bytes (slice_get store 0) call
    (chosen (is_place cube.dim to) (option_map (λ id. send_call 0 ((to, id) ∷ []) bytes) (slice_get store 0)) call e)
call_of_wish-wish cube store (spawn_wish image to) call e =
    ap (option_and_then wish_of_call) (sym (chosen (is_place cube.dim to && nat_lt image (length cube.images)) (Some (spawn_call 0 image to)) call e))
call_of_wish-wish cube store (kill_wish to) call e =
    ap (option_and_then wish_of_call) (sym (chosen (is_place cube.dim to) (Some (kill_call 0 to)) call e))
call_of_wish-wish cube store (arm_wish count) call e = ap (option_and_then wish_of_call) (sym e)
call_of_wish-wish cube store look_wish call e = ap (option_and_then wish_of_call) (sym e)
call_of_wish-wish cube store mail_wish call e = ap (option_and_then wish_of_call) (sym e)

-- ---- the next entry

-- a node's next entry doesn't hang on what is asked of the host, and a host makes none of which
-- nothing is asked
next_of_node : (cube : Cube) (o : CubeState) (t : List Entry) (actor : ℕ) (x y : Option Wish) → (actor == HOST) ≡ false
    → next_entry cube o t actor x ≡ next_entry cube o t actor y
unfolding next_entry
next_of_node cube o t actor x y a = rw a refl

none_of_host : (cube : Cube) (o : CubeState) (t : List Entry) (actor : ℕ) → (actor == HOST) ≡ true → next_entry cube o t actor None ≡ None
unfolding next_entry
none_of_host cube o t actor a = rw a refl

-- what is known of an entry that is its actor's next one: the call that made it
pub record IsMade (cube : Cube) (o : CubeState) (t : List Entry) (actor : ℕ) (wish : Option Wish) (entry : Entry) : Type 0 where
  pub call : Call
  pub made : actor_call cube o t actor wish ≡ Some call
  pub is : entry ≡ actor_entry cube o t actor call

made_by : (cube : Cube) (o : CubeState) (t : List Entry) (actor : ℕ) (wish : Option Wish) (entry : Entry) (call : Option Call)
    → actor_call cube o t actor wish ≡ call → option_map (actor_entry cube o t actor) call ≡ Some entry → IsMade cube o t actor wish entry
made_by cube o t actor wish entry None m e = cc
made_by cube o t actor wish entry (Some call) m e = record { call = call; made = m; is = ap (λ made. elim made [ None ↦ entry | Some x ↦ x ]) (sym e) }

pub is_made : (cube : Cube) (o : CubeState) (t : List Entry) (actor : ℕ) (wish : Option Wish) (entry : Entry)
    → next_entry cube o t actor wish ≡ Some entry → IsMade cube o t actor wish entry
unfolding next_entry
is_made cube o t actor wish entry e = made_by cube o t actor wish entry (actor_call cube o t actor wish) refl e

-- the call that a host makes is the one of what is asked of it
host_wish : (cube : Cube) (store : List BlockId) (wish : Option Wish) (call : Call)
    → option_and_then (call_of_wish cube store) wish ≡ Some call → wish_of_call call ≡ wish
host_wish cube store None call e = cc
host_wish cube store (Some wish) call e = call_of_wish-wish cube store wish call e

asked_in_made : (cube : Cube) (o : CubeState) (t : List Entry) (actor : ℕ) (wish : Option Wish) (call : Call)
    → (actor == HOST) ≡ true → actor_call cube o t actor wish ≡ Some call → entry_wish (actor_entry cube o t actor call) ≡ wish
asked_in_made cube o t actor wish call a m =
    rw (a, call_of-answer (node_numbers cube.dim) (standing o.standing t) actor call)
    (host_wish cube (hoststore o t) wish call (subst (λ b. (if b then option_and_then (call_of_wish cube (hoststore o t)) wish else
    (if is_node cube actor then Some (next_call cube o actor t) else None)) ≡ Some call) a m))

-- ---- from entries to the schedule

-- the trace of the end, where nothing more is asked of the host
abbrev end_trace : Solo → Option (List Entry)
end_trace end = whole_trace end.trace end.wishes_left

-- the cube with this trace, of whose host this is still asked
abbrev pub solo_at : List Entry → List Wish → Solo
solo_at t wishes = record { trace = t; wishes_left = wishes }

-- one actor more acts
abbrev pub acts_more : Cube → CubeState → Option Solo → ℕ → Option Solo
acts_more cube o now actor = option_and_then (λ solo. next_solo cube o solo actor) now

host_acts : (cube : Cube) (o : CubeState) (t : List Entry) (entry : Entry) (wish : Option Wish) (others : List Wish)
    → (entry.actor == HOST) ≡ true → next_entry cube o t entry.actor wish ≡ Some entry
    → next_solo cube o (solo_at t (filter_map (λ (x : Option Wish). x) (wish ∷ []) ++ others)) entry.actor ≡ Some (solo_at (t ++ entry ∷ []) others)
host_acts cube o t entry None others a e = let n = none_of_host cube o t entry.actor a in cc
host_acts cube o t entry (Some call) others a e = rw (e, a) refl

node_acts : (cube : Cube) (o : CubeState) (t : List Entry) (entry : Entry) (wish : Option Wish) (others : List Wish)
    → (entry.actor == HOST) ≡ false → next_entry cube o t entry.actor wish ≡ Some entry
    → next_solo cube o (solo_at t others) entry.actor ≡ Some (solo_at (t ++ entry ∷ []) others)
node_acts cube o t entry wish others a e =
    rw (next_of_node cube o t entry.actor (slice_get others 0) wish a, e, a) refl

-- what is asked of the host in the first entry stands before what is asked later
asked_first : (entry : Entry) (behind : List Entry) (more : List Wish)
    → host_wishes (entry ∷ behind) ++ more ≡ filter_map (λ (x : Option Wish). x) (entry_wish entry ∷ []) ++ (host_wishes behind ++ more)
asked_first entry behind more = first_option (entry_wish entry) (host_wishes behind) more
  where
    first_option : (x : Option Wish) (calls more : List Wish)
        → Rattle.std.specs.List.cons_option x calls ++ more ≡ filter_map (λ (y : Option Wish). y) (x ∷ []) ++ (calls ++ more)
    first_option None calls more = refl
    first_option (Some call) calls more = refl

not_asked : (entry : Entry) → (entry.actor == HOST) ≡ false → entry_wish entry ≡ None
not_asked entry a = rw a refl

one_acts : (cube : Cube) (o : CubeState) (t : List Entry) (entry : Entry) (others : List Wish) (b : Bool) → (entry.actor == HOST) ≡ b
    → IsNext cube o t entry
    → next_solo cube o (solo_at t (filter_map (λ (x : Option Wish). x) (entry_wish entry ∷ []) ++ others)) entry.actor ≡ Some (solo_at (t ++ entry ∷ []) others)
one_acts cube o t entry others true a e = host_acts cube o t entry (entry_wish entry) others a e
one_acts cube o t entry others false a e =
    ap (λ x. next_solo cube o (solo_at t (filter_map (λ (y : Option Wish). y) (x ∷ []) ++ others)) entry.actor) (not_asked entry a)
    ∙ node_acts cube o t entry (entry_wish entry) others a e

entries_act : (cube : Cube) (o : CubeState) (more : List Wish) (before behind : List Entry) → EachAfter (IsNext cube o) before behind
    → fold (acts_more cube o) (Some (solo_at before (host_wishes behind ++ more))) (actors behind) ≡ Some (solo_at (before ++ behind) more)
entries_act cube o more before [] each = ap (λ t. Some (solo_at t more)) (sym (append-nil before))
entries_act cube o more before (entry ∷ behind) each =
    ap (λ wishes. fold (acts_more cube o) (next_solo cube o (solo_at before wishes) entry.actor) (actors behind)) (asked_first entry behind more)
    ∙ ap (λ now. fold (acts_more cube o) now (actors behind))
    (one_acts cube o before entry (host_wishes behind ++ more) (entry.actor == HOST) refl each.0)
    ∙ entries_act cube o more (before ++ entry ∷ []) behind each.1
    ∙ ap (λ t. Some (solo_at t more)) (one_further before entry behind)

pub alone_by_entries : (cube : Cube) (o : CubeState) (t : List Entry) → EachAfter (IsNext cube o) [] t → IsAloneFrom cube o t
unfolding solo continued_solo
alone_by_entries cube o t each =
    ap (λ calls. option_and_then end_trace (fold (acts_more cube o) (Some (solo_at [] calls)) (actors t))) (sym (append-nil (host_wishes t)))
    ∙ ap (option_and_then end_trace) (entries_act cube o [] [] t each)

-- ---- from the schedule to entries

-- what a schedule adds to a trace: entries of its actors, each the next one, in which this is asked
-- of the host
pub record AreAdded (cube : Cube) (o : CubeState) (before : List Entry) (wishes : List Wish) (schedule : List ℕ) (end : Solo) : Type 0 where
  pub behind : List Entry
  pub whole : before ++ behind ≡ end.trace
  pub order : actors behind ≡ schedule
  pub each : EachAfter (IsNext cube o) before behind
  pub calls : host_wishes behind ++ end.wishes_left ≡ wishes

nothing_acts : (cube : Cube) (o : CubeState) (schedule : List ℕ) (end : Solo) → fold (acts_more cube o) None schedule ≡ Some end → ⊥
nothing_acts cube o [] end e = cc
nothing_acts cube o (actor ∷ schedule) end e = nothing_acts cube o schedule end e

-- what is asked of a host that acts is the first that is left, and the rest is left
asked_of_host : (cube : Cube) (o : CubeState) (t : List Entry) (actor : ℕ) (wishes : List Wish) (entry : Entry) → (actor == HOST) ≡ true
    → next_entry cube o t actor (slice_get wishes 0) ≡ Some entry
    → filter_map (λ (x : Option Wish). x) (slice_get wishes 0 ∷ []) ++ drop 1 wishes ≡ wishes
asked_of_host cube o t actor [] entry a e = let n = none_of_host cube o t actor a in cc
asked_of_host cube o t actor (call ∷ wishes) entry a e = refl

-- an entry that is an actor's next one is its own next one
pub record IsOwnNext (cube : Cube) (o : CubeState) (t : List Entry) (actor : ℕ) (wishes : List Wish) (entry : Entry) : Type 0 where
  pub actor_is : entry.actor ≡ actor
  pub next : IsNext cube o t entry
  pub calls : filter_map (λ (x : Option Wish). x) (entry_wish entry ∷ []) ++ (if actor == HOST then drop 1 wishes else wishes) ≡ wishes

own_next : (cube : Cube) (o : CubeState) (t : List Entry) (actor : ℕ) (wishes : List Wish) (call : Call) (b : Bool) → (actor == HOST) ≡ b
    → actor_call cube o t actor (slice_get wishes 0) ≡ Some call
    → next_entry cube o t actor (slice_get wishes 0) ≡ Some (actor_entry cube o t actor call)
    → IsOwnNext cube o t actor wishes (actor_entry cube o t actor call)
own_next cube o t actor wishes call true a m e = record {
  actor_is = refl;
  next = rw (asked_in_made cube o t actor (slice_get wishes 0) call a m) e;
  calls = rw (asked_in_made cube o t actor (slice_get wishes 0) call a m, a) (asked_of_host cube o t actor wishes (actor_entry cube o t actor call) a e);
}
own_next cube o t actor wishes call false a m e = record {
  actor_is = refl;
  next = next_of_node cube o t actor (entry_wish (actor_entry cube o t actor call)) (slice_get wishes 0) a ∙ e;
  calls = rw (a) refl;
}

is_own_next : (cube : Cube) (o : CubeState) (t : List Entry) (actor : ℕ) (wishes : List Wish) (entry : Entry)
    → next_entry cube o t actor (slice_get wishes 0) ≡ Some entry → IsOwnNext cube o t actor wishes entry
is_own_next cube o t actor wishes entry e =
    let m = is_made cube o t actor (slice_get wishes 0) entry e in
    subst (IsOwnNext cube o t actor wishes) (sym m.is)
    (own_next cube o t actor wishes m.call (actor == HOST) refl m.made (e ∙ ap Some m.is))

add_first : (cube : Cube) (o : CubeState) (before : List Entry) (actor : ℕ) (wishes : List Wish) (schedule : List ℕ) (end : Solo) (entry : Entry)
    → IsOwnNext cube o before actor wishes entry
    → AreAdded cube o (before ++ entry ∷ []) (if actor == HOST then drop 1 wishes else wishes) schedule end
    → AreAdded cube o before wishes (actor ∷ schedule) end
add_first cube o before actor wishes schedule end entry own added = record {
  behind = entry ∷ added.behind;
  whole = sym (one_further before entry added.behind) ∙ added.whole;
  order = rw (own.actor_is, added.order) refl;
  each = (own.next, added.each);
  calls = asked_first entry added.behind end.wishes_left
      ∙ ap (λ rest. filter_map (λ (x : Option Wish). x) (entry_wish entry ∷ []) ++ rest) added.calls ∙ own.calls;
}

-- the first actor of a schedule adds its entry, and the others add theirs
first_adds : (cube : Cube) (o : CubeState) (before : List Entry) (actor : ℕ) (wishes : List Wish) (schedule : List ℕ) (end : Solo)
    → ((entry : Entry) → fold (acts_more cube o) (Some (solo_at (before ++ entry ∷ []) (if actor == HOST then drop 1 wishes else wishes))) schedule ≡ Some end
    → AreAdded cube o (before ++ entry ∷ []) (if actor == HOST then drop 1 wishes else wishes) schedule end)
    → (next : Option Entry) → next_entry cube o before actor (slice_get wishes 0) ≡ next
    → fold (acts_more cube o) (option_map (λ entry. solo_at (before ++ entry ∷ []) (if actor == HOST then drop 1 wishes else wishes)) next) schedule ≡ Some end
    → AreAdded cube o before wishes (actor ∷ schedule) end
first_adds cube o before actor wishes schedule end others None n f = absurd (nothing_acts cube o schedule end f)
first_adds cube o before actor wishes schedule end others (Some entry) n f =
    add_first cube o before actor wishes schedule end entry (is_own_next cube o before actor wishes entry n) (others entry f)

schedule_adds : (cube : Cube) (o : CubeState) (schedule : List ℕ) (before : List Entry) (wishes : List Wish) (end : Solo)
    → fold (acts_more cube o) (Some (solo_at before wishes)) schedule ≡ Some end → AreAdded cube o before wishes schedule end
schedule_adds cube o [] before wishes end e = record {
  behind = [];
  whole = append-nil before ∙ ap (λ now. elim now [ None ↦ before | Some solo ↦ solo.trace ]) e;
  order = refl;
  each = tt;
  calls = sym (ap (λ now. elim now [ None ↦ wishes | Some solo ↦ solo.wishes_left ]) e);
}
schedule_adds cube o (actor ∷ schedule) before wishes end e =
    first_adds cube o before actor wishes schedule end
    (λ entry. schedule_adds cube o schedule (before ++ entry ∷ []) (if actor == HOST then drop 1 wishes else wishes) end)
    (next_entry cube o before actor (slice_get wishes 0)) refl e

ended_with : (cube : Cube) (o : CubeState) (wishes : List Wish) (schedule : List ℕ) (t : List Entry) (now : Option Solo)
    → fold (acts_more cube o) (Some (solo_at [] wishes)) schedule ≡ now → option_and_then end_trace now ≡ Some t
    → AreAdded cube o [] wishes schedule (solo_at t [])
ended_with cube o wishes schedule t None f e = cc
ended_with cube o wishes schedule t (Some now) f e = ended_at now.wishes_left f e
  where
    ended_at : (left : List Wish) → fold (acts_more cube o) (Some (solo_at [] wishes)) schedule ≡ Some (solo_at now.trace left)
        → option_and_then end_trace (Some (solo_at now.trace left)) ≡ Some t → AreAdded cube o [] wishes schedule (solo_at t [])
    ended_at [] f e = schedule_adds cube o schedule [] wishes (solo_at t []) (f ∙ ap (option_map (λ t. solo_at t [])) e)
    ended_at (call ∷ calls) f e = cc

pub entries_of_alone : (cube : Cube) (o : CubeState) (t : List Entry) → IsAloneFrom cube o t → EachAfter (IsNext cube o) [] t
unfolding solo continued_solo
entries_of_alone cube o t e =
    let added = ended_with cube o (host_wishes t) (actors t) t (fold (acts_more cube o) (Some (solo_at [] (host_wishes t))) (actors t)) refl e in
    subst (EachAfter (IsNext cube o) []) added.whole added.each

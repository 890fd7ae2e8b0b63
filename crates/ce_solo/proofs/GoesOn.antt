-- A trace can be cut: the cube goes on from what the first part left.
use Rattle.std.proofs.Common.{◌≡◌, ℕ, List, [], ◌∷◌, ◌++◌, Option, option_map, refl, ap, sym, ◌∙◌, subst, append_assoc, append-nil}
use Rattle.ce_model.specs.declared.entry.Entry.{Entry}
use Rattle.ce_model.specs.Lists.{EachAfter}
use Rattle.ce_model.specs.Cube.{Cube, CubeState, IsCube, Wish, state_after_trace, next_entry, entry_wish, IsNext, IsAloneFrom}
use Rattle.ce_model.specs.Sound.{IsSound}
use Rattle.ce_model.proofs.Walked.{kept_by_each, each_joined}
use Rattle.ce_model.proofs.AloneByEntries.{alone_by_entries, entries_of_alone}
use Rattle.ce_solo.proofs.Entries.{state_after, entry_in}
use Rattle.ce_solo.proofs.Made.{call_in}
use Rattle.ce_solo.proofs.Stands.{IsSoundTrace, entry_of-next, left-made, stands-made, stands-nil, stands-each, state_after_trace-nil}

-- the entry that an actor makes next in a state
abbrev next_in : Cube → CubeState → ℕ → Option Wish → Option Entry
next_in cube s actor wish = option_map (entry_in cube s actor) (call_in cube s actor wish)

next-is : (cube : Cube) (o : CubeState) (t : List Entry) (actor : ℕ) (wish : Option Wish) → next_entry cube o t actor wish ≡ next_in cube (state_after_trace cube o t) actor wish
unfolding next_entry
next-is cube o t actor wish = refl

-- the next entry hangs on what the trace leaves alone
pub next-same : (cube : Cube) (o o' : CubeState) (t t' : List Entry) (entry : Entry) → state_after_trace cube o t ≡ state_after_trace cube o' t' → IsNext cube o t entry → IsNext cube o' t' entry
next-same cube o o' t t' entry same next =
    next-is cube o' t' entry.actor (entry_wish entry) ∙ ap (λ s. next_in cube s entry.actor (entry_wish entry)) (sym same)
    ∙ sym (next-is cube o t entry.actor (entry_wish entry)) ∙ next

-- the second part so far: from what the first left, and behind the first
record IsCut (cube : Cube) (o : CubeState) (t s : List Entry) : Type 0 where
  whole : IsSoundTrace cube o (t ++ s)
  part : IsSoundTrace cube (state_after_trace cube o t) s
  same : state_after_trace cube (state_after_trace cube o t) s ≡ state_after_trace cube o (t ++ s)
  each : EachAfter (IsNext cube o) t s

cut-more : (cube : Cube) (o : CubeState) (t s : List Entry) (entry : Entry) → IsCube cube → IsCut cube o t s → IsNext cube (state_after_trace cube o t) s entry → IsCut cube o t (s ++ entry ∷ [])
cut-more cube o t s entry of cut next =
    let next' = next-same cube (state_after_trace cube o t) o s (t ++ s) entry cut.same next in
    let e = entry_of-next cube (state_after_trace cube o t) s entry next in
    let e' = entry_of-next cube o (t ++ s) entry next' in
    let joined = append_assoc t s (entry ∷ []) in
    record {
      whole = subst (IsSoundTrace cube o) joined (stands-made cube o (t ++ s) entry of cut.whole e');
      part = stands-made cube (state_after_trace cube o t) s entry of cut.part e;
      same = left-made cube (state_after_trace cube o t) s entry cut.part e ∙ ap (λ left. state_after cube left entry) cut.same
          ∙ sym (left-made cube o (t ++ s) entry cut.whole e') ∙ ap (state_after_trace cube o) joined;
      each = each_joined (IsNext cube o) t s (entry ∷ []) cut.each (next', tt);
    }

pub goes_on : (cube : Cube) (o : CubeState) (t : List Entry) → IsCube cube → IsSound cube o → IsAloneFrom cube o t → (s : List Entry)
    → IsAloneFrom cube (state_after_trace cube o t) s → IsAloneFrom cube o (t ++ s)
goes_on cube o t of sound alone s after =
    let each = entries_of_alone cube o t alone in
    let stands = stands-each cube o t of sound each in
    let at_first : IsCut cube o t [] = record {
      whole = subst (IsSoundTrace cube o) (sym (append-nil t)) stands;
      part = stands-nil cube (state_after_trace cube o t) stands.sound;
      same = state_after_trace-nil cube (state_after_trace cube o t) ∙ ap (state_after_trace cube o) (sym (append-nil t));
      each = tt;
    } in
    let cut = kept_by_each (IsNext cube (state_after_trace cube o t)) (IsCut cube o t) (λ before entry cut next. cut-more cube o t before entry of cut next) [] s at_first
    (entries_of_alone cube (state_after_trace cube o t) s after) in
    alone_by_entries cube o (t ++ s) (each_joined (IsNext cube o) [] t s each cut.each)

-- The trace of a cube, by the next entry of the history behind its grant.
use Rattle.std.proofs.Common.{◌≡◌, ℕ, ◌+◌, ◌<◌, List, [], ◌∷◌, ◌++◌, append_assoc, Bool, true, false, not, ◌&&◌, ◌==◌, is_some, refl, ap, sym, ◌∙◌, drop, get_or, length}
use Rattle.std.specs.List.{flat_map, take_while}
use Rattle.std.proofs.lemmas.Bool.{eq-eqb, ne_eqb}
use Rattle.std.proofs.lemmas.List.{at_drop_more}
use Rattle.std.proofs.lemmas.List.Sums.{take_while-cons}
use Rattle.ce_model.specs.declared.entry.Entry.{Entry}
use Rattle.ce_model.specs.declared.entry.What.{What}
use Rattle.ce_model.specs.declared.entry.What.TheVariants.{Drain}
use Rattle.ce_model.specs.Answers.{recorded_call}
use Rattle.ce_model.specs.Renaming.{CubeGrant, entry_inward}
use Rattle.ce_model.specs.Views.{is_drain, cube_entries, trace_behind}

-- before the cube's drain
abbrev is_before : CubeGrant → Entry → Bool
is_before cube entry = not (entry.user == cube.user && is_drain entry.what)

no_drain : (what : What) → is_some (recorded_call what) ≡ true → is_drain what ≡ false
no_drain Drain called = cc
no_drain other called = refl

-- at the drain the trace is at its end
pub trace-drain : (cube : CubeGrant) (entry : Entry) (behind : List Entry) → entry.user ≡ cube.user → is_drain entry.what ≡ true
    → trace_behind cube (entry ∷ behind) ≡ []
trace-drain cube entry behind own drained =
    let kept : take_while (is_before cube) (entry ∷ behind) ≡ [] =
    take_while-cons (is_before cube) entry behind ∙ rw (eq-eqb entry.user cube.user own, drained) refl in
    ap (cube_entries cube) kept

-- a call of the cube's user stands in the trace
pub trace-call : (cube : CubeGrant) (entry : Entry) (behind : List Entry) → entry.user ≡ cube.user → is_some (recorded_call entry.what) ≡ true
    → trace_behind cube (entry ∷ behind) ≡ entry_inward cube.sub entry ∷ trace_behind cube behind
trace-call cube entry behind own called =
    let kept : take_while (is_before cube) (entry ∷ behind) ≡ entry ∷ take_while (is_before cube) behind =
    take_while-cons (is_before cube) entry behind ∙ rw (eq-eqb entry.user cube.user own, no_drain entry.what called) refl in
    ap (cube_entries cube) kept ∙ rw (eq-eqb entry.user cube.user own, called) refl

-- what else the user did does not
pub trace-pass : (cube : CubeGrant) (entry : Entry) (behind : List Entry) → entry.user ≡ cube.user → is_drain entry.what ≡ false
    → is_some (recorded_call entry.what) ≡ false → trace_behind cube (entry ∷ behind) ≡ trace_behind cube behind
trace-pass cube entry behind own drained called =
    let kept : take_while (is_before cube) (entry ∷ behind) ≡ entry ∷ take_while (is_before cube) behind =
    take_while-cons (is_before cube) entry behind ∙ rw (eq-eqb entry.user cube.user own, drained) refl in
    ap (cube_entries cube) kept ∙ rw (eq-eqb entry.user cube.user own, called) refl

-- nor does what another user did
pub trace-other : (cube : CubeGrant) (entry : Entry) (behind : List Entry) → (entry.user ≡ cube.user → ⊥)
    → trace_behind cube (entry ∷ behind) ≡ trace_behind cube behind
trace-other cube entry behind other =
    let kept : take_while (is_before cube) (entry ∷ behind) ≡ entry ∷ take_while (is_before cube) behind =
    take_while-cons (is_before cube) entry behind ∙ rw (ne_eqb entry.user cube.user other) refl in
    ap (cube_entries cube) kept ∙ rw (ne_eqb entry.user cube.user other) refl

-- ---- the same at a place of the history

at_place : (cube : CubeGrant) (behind : List Entry) (i : ℕ) (entry : Entry) → i < length behind → entry ≡ get_or behind i entry
    → trace_behind cube (drop i behind) ≡ trace_behind cube (entry ∷ drop (i + 1) behind)
at_place cube behind i entry below is =
    at_drop_more (trace_behind cube) behind i entry below ∙ ap (λ e. trace_behind cube (e ∷ drop (i + 1) behind)) (sym is)

pub at_drain : (cube : CubeGrant) (behind : List Entry) (i : ℕ) (entry : Entry) → i < length behind → entry ≡ get_or behind i entry
    → entry.user ≡ cube.user → is_drain entry.what ≡ true → trace_behind cube (drop i behind) ≡ []
at_drain cube behind i entry below is own drained =
    at_place cube behind i entry below is ∙ trace-drain cube entry (drop (i + 1) behind) own drained

pub at_call : (cube : CubeGrant) (behind : List Entry) (i : ℕ) (entry : Entry) → i < length behind → entry ≡ get_or behind i entry
    → entry.user ≡ cube.user → is_some (recorded_call entry.what) ≡ true
    → trace_behind cube (drop i behind) ≡ entry_inward cube.sub entry ∷ trace_behind cube (drop (i + 1) behind)
at_call cube behind i entry below is own called =
    at_place cube behind i entry below is ∙ trace-call cube entry (drop (i + 1) behind) own called

pub at_pass : (cube : CubeGrant) (behind : List Entry) (i : ℕ) (entry : Entry) → i < length behind → entry ≡ get_or behind i entry
    → entry.user ≡ cube.user → is_drain entry.what ≡ false → is_some (recorded_call entry.what) ≡ false
    → trace_behind cube (drop i behind) ≡ trace_behind cube (drop (i + 1) behind)
at_pass cube behind i entry below is own drained called =
    at_place cube behind i entry below is ∙ trace-pass cube entry (drop (i + 1) behind) own drained called

pub at_other : (cube : CubeGrant) (behind : List Entry) (i : ℕ) (entry : Entry) → i < length behind → entry ≡ get_or behind i entry
    → (entry.user ≡ cube.user → ⊥) → trace_behind cube (drop i behind) ≡ trace_behind cube (drop (i + 1) behind)
at_other cube behind i entry below is other =
    at_place cube behind i entry below is ∙ trace-other cube entry (drop (i + 1) behind) other

-- ---- what was gathered so far, before what the rest gives

pub gathered-call : (old new whole : List Entry) (entry : Entry) (trace rest : List Entry) → old ++ trace ≡ whole → trace ≡ entry ∷ rest
    → new ≡ old ++ entry ∷ [] → new ++ rest ≡ whole
gathered-call old new whole entry trace rest so_far turn more =
    ap (λ items. items ++ rest) more ∙ append_assoc old (entry ∷ []) rest ∙ ap (λ items. old ++ items) (sym turn) ∙ so_far

pub gathered-line : (line : Entry → List ℕ) (old new whole : List ℕ) (entry : Entry) (trace rest : List Entry) → old ++ flat_map line trace ≡ whole
    → trace ≡ entry ∷ rest → new ≡ old ++ line entry → new ++ flat_map line rest ≡ whole
gathered-line line old new whole entry trace rest so_far turn more =
    ap (λ items. items ++ flat_map line rest) more ∙ append_assoc old (line entry) (flat_map line rest)
    ∙ ap (λ items. old ++ flat_map line items) (sym turn) ∙ so_far

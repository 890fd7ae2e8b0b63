-- A machine that stands in the midst of a row goes on by the row's next entry.
use Rattle.std.proofs.Common.{◌≡◌, ℕ, zero, suc, ◌+◌, List, [], ◌∷◌, ◌++◌, take, slice_get, Some, None, IsSomeAnd, refl, ap, sym, ◌∙◌, subst, arith, append-nil, Option}
use Rattle.std.proofs.lemmas.List.{map-append}
use Rattle.ce_model.specs.declared.entry.Entry.{Entry}
use Rattle.ce_model.specs.Lists.{EachAfter}
use Rattle.ce_model.specs.Machine.{MachineParts, IsMachine, after, what_of_request}
use Rattle.ce_model.proofs.Walked.{one_further}
use Rattle.ce_lock.specs.declared.who.Who.{Who}
use Rattle.ce_machine.specs.declared.call.Call.{Call}
use Rattle.ce_machine.specs.declared.call.Reply.{Reply}
use Rattle.ce_machine.specs.Requests.{request_of, HasBroughtBoxes, IsFittingCall}
use Rattle.ce_machine.specs.Replies.{IsReplyTo}
use Rattle.ce_machine.specs.Meanings.{MachineFacts, IsAnsweredBy, whose}
use Rattle.ce_rows.specs.RowEntries.{RowEntry, Row, history_of, IsRowEntry, AreRowEntries, HasMadeRowEntries, IsNextRowCall, IsNextRowReply}

-- what holds of each member behind those before it holds of the one behind the first so many
holds-at : {X : Type 0} (P : List X → X → Type 0) (before behind : List X) (count : ℕ) (x : X) → EachAfter P before behind → slice_get behind count ≡ Some x
    → P (before ++ take count behind) x
holds-at P before [] count x each e = absurd (cc)
holds-at P before (y ∷ behind) zero x each e =
    let same : y ≡ x = cc in
    subst (λ b. P b x) (sym (append-nil before)) (subst (P before) same each.0)
holds-at P before (y ∷ behind) (suc count) x each e =
    subst (λ b. P b x) (one_further before y (take count behind)) (holds-at P (before ++ y ∷ []) behind count x each.1 e)

-- one more of the first ones
one-more : {X : Type 0} (xs : List X) (count : ℕ) (x : X) → slice_get xs count ≡ Some x → take (suc count) xs ≡ take count xs ++ x ∷ []
one-more [] count x e = absurd (cc)
one-more (y ∷ xs) zero x e = let same : y ≡ x = cc in ap (λ y. y ∷ []) same
one-more (y ∷ xs) (suc count) x e = ap (λ xs. y ∷ xs) (one-more xs count x e)

-- the row's next entry, and that the call is its
pub record IsNextRowEntry {N : Type 0} (row : Row) (count : ℕ) (who : Who) (call : Call N) : Type 0 where
  pub row_entry : RowEntry
  pub there : slice_get row.entries count ≡ Some row_entry
  pub who_is : who ≡ whose row_entry.entry
  pub request_is : request_of call ≡ row_entry.request

next_by : {N : Type 0} (row : Row) (count : ℕ) (who : Who) (call : Call N) (found : Option RowEntry) → slice_get row.entries count ≡ found
    → IsSomeAnd found (λ row_entry. (who ≡ whose row_entry.entry) × (request_of call ≡ row_entry.request)) → IsNextRowEntry row count who call
next_by row count who call None e some = absurd some
next_by row count who call (Some row_entry) e some = record { row_entry = row_entry; there = e; who_is = some.0; request_is = some.1 }

module _ {N : Type 0} (home : N → ℕ) (clean : N → Type 0) (row : Row) (machine : IsMachine row.parts) (all : AreRowEntries row) (count : ℕ) (m : MachineFacts) (at : HasMadeRowEntries row count m)
    (who : Who) (call : Call N) (is : IsNextRowCall row count who call) where
  next : IsNextRowEntry row count who call
  next = next_by row count who call (slice_get row.entries count) refl is

  row_entry_is : IsRowEntry row.parts (take count row.entries) next.row_entry
  row_entry_is = holds-at (IsRowEntry row.parts) [] row.entries count next.row_entry all next.there

  -- the call fits
  pub next-fits : HasBroughtBoxes home clean m.history who.family call → IsFittingCall home clean m.parts m.history who call
  next-fits boxes =
      let there : IsFittingCall home clean row.parts (history_of (take count row.entries)) (whose next.row_entry.entry) call = record {
        machine = machine;
        fits = rw next.request_is row_entry_is.fits;
        boxes = rw (← next.who_is, ← at.history_is) boxes;
      } in
      rw (at.parts_are, at.history_is, next.who_is) there

  module _ (reply : Reply N) (m' : MachineFacts) (added : Entry) (fixed : m'.parts ≡ m.parts) (grows : m'.history ≡ m.history ++ added ∷ [])
      (stands : IsAnsweredBy home clean m.parts m.history added who call reply) where
    answers : what_of_request m.parts (after m.history) who.family who.actor (request_of call)
        ≡ what_of_request row.parts (after (history_of (take count row.entries))) next.row_entry.entry.user next.row_entry.entry.actor next.row_entry.request
    answers = λ i. what_of_request (at.parts_are i) (after (at.history_is i)) (next.who_is i).family (next.who_is i).actor (next.request_is i)

    what-is : added.what ≡ next.row_entry.entry.what
    what-is =
        let same : Some added.what ≡ Some next.row_entry.entry.what = sym stands.answer ∙ answers ∙ row_entry_is.answer in
        cc

    added-is : added ≡ next.row_entry.entry
    added-is =
        let by : whose added ≡ whose next.row_entry.entry = stands.whose_is ∙ next.who_is in
        λ i. record { user = (by i).family; actor = (by i).actor; what = what-is i }

    -- the machine stands behind one entry more
    pub next-at : HasMadeRowEntries row (count + 1) m'
    next-at = record {
      parts_are = fixed ∙ at.parts_are;
      history_is = grows ∙ (λ i. at.history_is i ++ added-is i ∷ [])
          ∙ sym (ap history_of (let e : count + 1 ≡ suc count = omega arith in ap (λ n. take n row.entries) e ∙ one-more row.entries count next.row_entry next.there)
          ∙ map-append (λ (row_entry : RowEntry). row_entry.entry) (take count row.entries) (next.row_entry ∷ []));
    }

    -- and the reply is the entry's
    pub next-reply : IsNextRowReply home clean row count reply
    next-reply =
        let here : IsReplyTo home clean row.parts (after m.history) who.family who.actor added.what reply =
        subst (λ (parts : MachineParts). IsReplyTo home clean parts (after m.history) who.family who.actor added.what reply) at.parts_are stands.reply_is in
        let behind : IsReplyTo home clean row.parts (after (history_of (take count row.entries))) who.family who.actor added.what reply =
        subst (λ h. IsReplyTo home clean row.parts (after h) who.family who.actor added.what reply) at.history_is here in
        let by : IsReplyTo home clean row.parts (after (history_of (take count row.entries))) next.row_entry.entry.user next.row_entry.entry.actor added.what reply =
        subst (λ (w : Who). IsReplyTo home clean row.parts (after (history_of (take count row.entries))) w.family w.actor added.what reply) next.who_is behind in
        let there : IsReplyTo home clean row.parts (after (history_of (take count row.entries))) next.row_entry.entry.user next.row_entry.entry.actor next.row_entry.entry.what reply =
        subst (λ what. IsReplyTo home clean row.parts (after (history_of (take count row.entries))) next.row_entry.entry.user next.row_entry.entry.actor what reply) what-is by in
        subst (λ found. IsSomeAnd found (λ (row_entry : RowEntry). IsReplyTo home clean row.parts (after (history_of (take count row.entries))) row_entry.entry.user row_entry.entry.actor row_entry.entry.what reply))
        (sym next.there) there

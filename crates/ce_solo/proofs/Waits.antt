-- What the queues of a cube's nodes can hold, after each trace.
use Rattle.std.proofs.Common.{ℕ, List, [], ◌∷◌, ◌++◌, sym, subst, arith}
use Rattle.ce_model.specs.declared.entry.Entry.{Entry}
use Rattle.ce_model.specs.declared.entry.What.TheVariants.{Take}
use Rattle.ce_model.specs.declared.entry.TakeResult.TheVariants.{Mail}
use Rattle.ce_model.specs.Lists.{EachAfter, IsFront}
use Rattle.ce_model.specs.Trace.{spawned_ids, killed_ids}
use Rattle.ce_model.specs.Answers.{is_among}
use Rattle.ce_model.specs.Cube.{Cube, CubeState, IsCube, state_after_trace, IsNext, IsAloneFrom}
use Rattle.ce_model.specs.Sound.{IsSound}
use Rattle.ce_model.proofs.Walked.{kept_by_each, each_of_front, each_behind}
use Rattle.ce_model.proofs.AloneByEntries.{entries_of_alone}
use Rattle.ce_solo.specs.Laws.{IsSentOnce, IsHandedOver}
use Rattle.ce_solo.proofs.Lists.{truth_bit-le}
use Rattle.ce_solo.proofs.Stands.{IsSoundTrace, entry_of-next, stands-made, stands-nil, stands-each}
use Rattle.ce_solo.proofs.SentOnce.{HasSentOnce, once-nil, once-more}
use Rattle.ce_solo.proofs.HandedOver.{entry-taken, taken-for}

-- a trace that stands, and what it sent to an id
record IsSoundOnce (cube : Cube) (o : CubeState) (r pid : ℕ) (t : List Entry) : Type 0 where
  stands : IsSoundTrace cube o t
  once : HasSentOnce o.standing r pid t

pub sent_once : (cube : Cube) (o : CubeState) (t : List Entry) → IsCube cube → IsSound cube o → IsAloneFrom cube o t → IsSentOnce cube o t
sent_once cube o t of sound alone r pid below =
    let all = kept_by_each (IsNext cube o) (IsSoundOnce cube o r pid)
    (λ before entry now next.
    let e = entry_of-next cube o before entry next in
    record { stands = stands-made cube o before entry of now.stands e; once = once-more cube o r pid before entry now.once e })
    [] t (record { stands = stands-nil cube o sound; once = once-nil cube o r pid below sound }) (entries_of_alone cube o t alone) in
    (omega (arith, all.once.starts, truth_bit-le (is_among pid (spawned_ids o.standing r t))), omega (arith, all.once.kills, truth_bit-le (is_among pid (killed_ids o.standing r t))))

-- the last entry of a front is the one that its actor made next
pub last_next : (cube : Cube) (o : CubeState) (t before : List Entry) (entry : Entry) → IsAloneFrom cube o t → IsFront (before ++ entry ∷ []) t
    → EachAfter (IsNext cube o) [] before × IsNext cube o before entry
last_next cube o t before entry alone is =
    let each = each_of_front (IsNext cube o) [] (before ++ entry ∷ []) is.0 (subst (EachAfter (IsNext cube o) []) (sym is.1) (entries_of_alone cube o t alone)) in
    (each_of_front (IsNext cube o) [] before (entry ∷ []) each, (each_behind (IsNext cube o) [] before (entry ∷ []) each).0)

pub handed_over : (cube : Cube) (o : CubeState) (t : List Entry) → IsCube cube → IsSound cube o → IsAloneFrom cube o t → IsHandedOver cube o t
handed_over cube o t of sound alone before r asking dead pid number user poller is below =
    let entry : Entry = record { user = user; actor = r; what = Take asking dead poller (Mail pid number) } in
    let last = last_next cube o t before entry alone is in
    let stands = stands-each cube o before of sound last.0 in
    let s = state_after_trace cube o before in
    taken-for cube s r asking dead pid number (entry-taken cube s of stands.sound r asking dead pid number poller below user (entry_of-next cube o before entry last.1))

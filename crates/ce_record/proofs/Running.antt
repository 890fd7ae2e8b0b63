-- Commands that run rounds.
use Rattle.std.proofs.Common.{◌≡◌, ℕ, true, false, List, [], ◌∷◌, ◌++◌, map, flat_map, Option, Some, None, refl, ap, ap₂, sym, ◌∙◌, subst}
use Rattle.std.specs.List.{AllByRecursion}
use Rattle.std.proofs.lemmas.List.{map-append}
use Rattle.ce_model.specs.declared.topology.TheConstants.{HOST}
use Rattle.ce_model.specs.declared.entry.Entry.{Entry}
use Rattle.ce_model.specs.declared.entry.What.TheVariants.{Arm, Look, HostTake}
use Rattle.ce_model.specs.declared.entry.LookResult.{LookResult}
use Rattle.ce_model.specs.Parcels.{Item}
use Rattle.ce_model.specs.Trace.{sent_items}
use Rattle.ce_model.specs.Cube.{Cube, CubeState, opening}
use Rattle.ce_model.specs.Renaming.{entry_inward}
use Rattle.ce_model.specs.Views.{view}
use Rattle.ce_model.specs.Machine.{MachineParts, IsMachine, IsLawful, HeldCube, after, cube_held_by}
use Rattle.ce_model.specs.Literals.{host_entry}
use Rattle.ce_solo.proofs.Lists.{all-append, all-weaker}
use Rattle.ce_host.specs.declared.command.Command.TheVariants.{Run, Recv}
use Rattle.ce_host.specs.declared.answer.Answer.{Answer}
use Rattle.ce_script.specs.Rounds.{RoundKind, IsRoundWithWork, IsRoundWithoutWork, joined_lists, AreTurnsOver}
use Rattle.ce_script.specs.Commands.{IsRun, run_reply, RecvEnd, message_next, message_behind_rest, no_message, host_take, end_entries, end_rounds, recv_reply, IsRecv}
use Rattle.ce_script.specs.Moments.{IsCallOfUser, AreCallsOfUser}
use Rattle.ce_record.specs.CubeRounds.{IsRoundOf, IsRunOf, IsRecvOf}
use Rattle.ce_record.specs.Run.{IsNextCommand}
use Rattle.ce_record.specs.HeldCubes.{granted_cube, AreTurnsOverIn}
use Rattle.ce_record.specs.Laws.{sent_to_host}
use Rattle.ce_record.proofs.Moments.{entries-behind}
use Rattle.ce_record.proofs.AtOnce.{holder-next}
use Rattle.ce_record.proofs.Requests.{inward-is}
use Rattle.ce_record.proofs.GoesOn.{trace_goes_on}
use Rattle.ce_record.proofs.Turns.{joined-map, work-inward}

calls_joined : (user : ℕ) (rounds : List (List Entry)) → AllByRecursion (AreCallsOfUser user) rounds → AreCallsOfUser user (joined_lists rounds)
calls_joined user [] all = tt
calls_joined user (round ∷ rounds) all = all-append (IsCallOfUser user) round (joined_lists rounds) all.0 (calls_joined user rounds all.1)

module _ (kind : RoundKind) (parts : MachineParts) (history : List Entry) (user : ℕ) (cube : HeldCube) (holds : cube_held_by (after history) user ≡ Some cube)
    (machine : IsMachine parts) (lawful : IsLawful parts history) (goes : cube.is_drained ≡ false) where
  abbrev own : Cube
  own = granted_cube parts cube

  abbrev o : CubeState
  o = opening own

  abbrev t : List Entry
  t = view history cube.number

  abbrev inward : Entry → Entry
  inward = entry_inward cube.grant.sub

  -- the rounds, as the cube knows them
  with_work : (rounds : List (List Entry)) → AllByRecursion (IsRoundOf kind user cube.grant true) rounds
      → AllByRecursion (IsRoundWithWork kind cube.grant.dim) (map (map inward) rounds)
  with_work [] all = tt
  with_work (round ∷ rounds) all = ((all.0.is_round, work-inward cube.grant.sub round ∙ all.0.works), with_work rounds all.1)

  without_work : (round : List Entry) → IsRoundOf kind user cube.grant false round → IsRoundWithoutWork kind cube.grant.dim (map inward round)
  without_work round is = (is.is_round, work-inward cube.grant.sub round ∙ is.works)

  round_calls : (rounds : List (List Entry)) → AllByRecursion (IsRoundOf kind user cube.grant true) rounds → AllByRecursion (AreCallsOfUser user) rounds
  round_calls rounds = all-weaker (IsRoundOf kind user cube.grant true) (AreCallsOfUser user) rounds (λ round is. is.calls)

  -- the trace behind these calls
  trace-is : (made : List Entry) → AreCallsOfUser user made → view (history ++ made) cube.number ≡ t ++ map inward made
  trace-is made calls = trace_goes_on parts history user cube holds machine lawful goes made calls

  own_all : (made : List Entry) → AreCallsOfUser user made → AllByRecursion (λ entry. entry.user ≡ user) made
  own_all made = all-weaker (IsCallOfUser user) (λ entry. entry.user ≡ user) made (λ entry call. call.0)

  over : (made : List Entry) → AreCallsOfUser user made → AreTurnsOverIn parts (history ++ made) cube → AreTurnsOver own o (t ++ map inward made)
  over made calls turns = subst (AreTurnsOver own o) (trace-is made calls) turns

  -- the host's entries, as the cube knows them
  arm_is : (count : ℕ) → inward (host_entry user (Arm count)) ≡ host_entry cube.grant.user (Arm count)
  arm_is count = inward-is kind parts history user machine lawful cube holds (Arm count) (Arm count) refl

  look_is : (found : LookResult) → inward (host_entry user (Look found)) ≡ host_entry cube.grant.user (Look found)
  look_is found = inward-is kind parts history user machine lawful cube holds (Look found) (Look found) refl

  take_is : (number : Option ℕ) → inward (host_take user number) ≡ host_take cube.grant.user number
  take_is number = inward-is kind parts history user machine lawful cube holds (HostTake number) (HostTake number) refl

  -- ---- run

  module _ (count : ℕ) (found : LookResult) (answer : Answer) (made : List Entry) (is : IsRunOf kind user cube.grant count found made) where
    run_calls : AreCallsOfUser user made
    run_calls =
        subst (AreCallsOfUser user) (sym is.entries) (
          (refl, refl),
          all-append (IsCallOfUser user) (joined_lists is.rounds) (is.last ++ host_entry user (Look found) ∷ [])
              (calls_joined user is.rounds (round_calls is.rounds is.with_work))
              (all-append (IsCallOfUser user) is.last (host_entry user (Look found) ∷ []) is.without_work.calls ((refl, refl), tt)),
        )

    run_entries : map inward made
        ≡ host_entry cube.grant.user (Arm count) ∷ (joined_lists (map (map inward) is.rounds) ++ (map inward is.last ++ host_entry cube.grant.user (Look found) ∷ []))
    run_entries =
        ap (map inward) is.entries
        ∙ ap₂ (λ first more. first ∷ more) (arm_is count)
        (map-append inward (joined_lists is.rounds) (is.last ++ host_entry user (Look found) ∷ [])
        ∙ ap₂ (λ a b. a ++ b) (joined-map inward is.rounds)
        (map-append inward is.last (host_entry user (Look found) ∷ []) ∙ ap (λ look. map inward is.last ++ look ∷ []) (look_is found)))

    run_done : run_reply found ≡ Some answer → IsRun kind own count answer (map inward made)
    run_done reply = record {
      rounds = map (map inward) is.rounds;
      last = map inward is.last;
      found = found;
      with_work = with_work is.rounds is.with_work;
      without_work = without_work is.last is.without_work;
      entries = run_entries;
      reply = reply;
    }

    pub run : run_reply found ≡ Some answer → AreTurnsOverIn parts (history ++ made) cube → IsNextCommand kind parts history user (Run count) answer made
    run reply turns =
        holder-next kind parts history user cube holds (Run count) answer made (own_all made run_calls)
        (subst (λ entries. IsRun kind own count answer (map inward entries) × AreTurnsOver own o (t ++ map inward entries)) (sym (entries-behind history made))
        (run_done reply, over made run_calls turns)) tt

  -- ---- recv

  -- an end, as the cube knows it
  end_in : RecvEnd → RecvEnd
  end_in (message_next number) = message_next number
  end_in (message_behind_rest round number) = message_behind_rest (map inward round) number
  end_in (no_message round found) = no_message (map inward round) found

  end-inward : (end : RecvEnd) → map inward (end_entries user end) ≡ end_entries cube.grant.user (end_in end)
  unfolding end_in
  end-inward (message_next number) = ap (λ take. take ∷ []) (take_is (Some number))
  end-inward (message_behind_rest round number) =
      ap₂ (λ first more. first ∷ more) (take_is None)
      (map-append inward round (host_take user (Some number) ∷ []) ∙ ap (λ last. map inward round ++ last ∷ []) (take_is (Some number)))
  end-inward (no_message round found) =
      ap₂ (λ first more. first ∷ more) (take_is None)
      (map-append inward round (host_take user None ∷ host_entry user (Look found) ∷ [])
      ∙ ap₂ (λ take look. map inward round ++ take ∷ look ∷ []) (take_is None) (look_is found))

  end_without : (end : RecvEnd) → AllByRecursion (IsRoundOf kind user cube.grant false) (end_rounds end)
      → AllByRecursion (IsRoundWithoutWork kind cube.grant.dim) (end_rounds (end_in end))
  unfolding end_in
  end_without (message_next number) all = tt
  end_without (message_behind_rest round number) all = (without_work round all.0, tt)
  end_without (no_message round found) all = (without_work round all.0, tt)

  end_reply : (items : List Item) (end : RecvEnd) → recv_reply items (end_in end) ≡ recv_reply items end
  unfolding end_in
  end_reply items (message_next number) = refl
  end_reply items (message_behind_rest round number) = refl
  end_reply items (no_message round found) = refl

  end_calls : (end : RecvEnd) → AllByRecursion (IsRoundOf kind user cube.grant false) (end_rounds end) → AreCallsOfUser user (end_entries user end)
  end_calls (message_next number) all = ((refl, refl), tt)
  end_calls (message_behind_rest round number) all =
      ((refl, refl), all-append (IsCallOfUser user) round (host_take user (Some number) ∷ []) all.0.calls ((refl, refl), tt))
  end_calls (no_message round found) all =
      ((refl, refl), all-append (IsCallOfUser user) round (host_take user None ∷ host_entry user (Look found) ∷ []) all.0.calls ((refl, refl), ((refl, refl), tt)))

  -- the looks for a message, each with the round behind it
  abbrev looks : ℕ → List (List Entry) → List Entry
  looks user rounds = flat_map (λ round. host_take user None ∷ round) rounds

  looks-inward : (rounds : List (List Entry)) → map inward (looks user rounds) ≡ looks cube.grant.user (map (map inward) rounds)
  looks-inward [] = refl
  looks-inward (round ∷ rounds) =
      ap₂ (λ first more. first ∷ more) (take_is None)
      (map-append inward round (looks user rounds) ∙ ap (λ more. map inward round ++ more) (looks-inward rounds))

  looks_calls : (rounds : List (List Entry)) → AllByRecursion (IsRoundOf kind user cube.grant true) rounds → AreCallsOfUser user (looks user rounds)
  looks_calls [] all = tt
  looks_calls (round ∷ rounds) all = ((refl, refl), all-append (IsCallOfUser user) round (looks user rounds) all.0.calls (looks_calls rounds all.1))

  module _ (count : ℕ) (end : RecvEnd) (answer : Answer) (made : List Entry) (is : IsRecvOf kind user cube.grant count end made) where
    recv_calls : AreCallsOfUser user made
    recv_calls =
        subst (AreCallsOfUser user) (sym is.entries)
        ((refl, refl), all-append (IsCallOfUser user) (looks user is.rounds) (end_entries user end) (looks_calls is.rounds is.with_work) (end_calls end is.without_work))

    recv_done : recv_reply (sent_to_host parts cube (t ++ map inward made)) end ≡ Some answer
        → IsRecv kind own (sent_items o.standing HOST (t ++ map inward made)) count answer (map inward made)
    recv_done reply = record {
      rounds = map (map inward) is.rounds;
      end = end_in end;
      with_work = with_work is.rounds is.with_work;
      without_work = end_without end is.without_work;
      entries = ap (map inward) is.entries
          ∙ ap₂ (λ first more. first ∷ more) (arm_is count)
          (map-append inward (looks user is.rounds) (end_entries user end) ∙ ap₂ (λ a b. a ++ b) (looks-inward is.rounds) (end-inward end));
      reply = end_reply (sent_items o.standing HOST (t ++ map inward made)) end ∙ reply;
    }

    pub recv : recv_reply (sent_to_host parts cube (view (history ++ made) cube.number)) end ≡ Some answer → AreTurnsOverIn parts (history ++ made) cube
        → IsNextCommand kind parts history user (Recv count) answer made
    recv reply turns =
        holder-next kind parts history user cube holds (Recv count) answer made (own_all made recv_calls)
        (subst (λ entries. IsRecv kind own (sent_items o.standing HOST (t ++ map inward entries)) count answer (map inward entries) × AreTurnsOver own o (t ++ map inward entries))
        (sym (entries-behind history made))
        (recv_done (subst (λ t. recv_reply (sent_to_host parts cube t) end ≡ Some answer) (trace-is made recv_calls) reply), over made recv_calls turns)) tt

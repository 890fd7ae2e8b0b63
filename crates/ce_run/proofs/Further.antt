-- A script's run, one command further.
use Rattle.std.proofs.Common.{◌≡◌, ◌≢◌, ℕ, zero, suc, ◌+◌, ◌<◌, List, [], ◌∷◌, ◌++◌, length, map, take, drop, get_or, slice_index_or, slice_set, set, Option, Some, None, option_map, refl, ap, ap₂, sym, ◌∙◌, subst, inl, inr, IsSomeAnd, arith, length-append, append-nil}
use Rattle.std.proofs.lemmas.List.{length-map, map-append, map-set, get_or-map, get_or-set_same, get_or-set_other, get_or_append_left}
use Rattle.std.proofs.Math.Seq.{take-suc, map-set_same, get_or-append_seam}
use Rattle.std.proofs.Math.ListN.{length-set}
use Rattle.std.specs.Prelude.{replicate}
use Rattle.std.specs.List.{AllByRecursion}
use Rattle.std.proofs.lemmas.Bool.{cases_eq}
use Rattle.rv_model.specs.Image.{ImageParts}
use Rattle.ce_model.specs.declared.entry.Entry.{Entry}
use Rattle.ce_model.specs.Views.{view}
use Rattle.ce_model.specs.Machine.{MachineParts, IsMachine, IsLawful, HeldCube, after, cube_held_by}
use Rattle.ce_machine.specs.Meanings.{MachineFacts}
use Rattle.ce_model.specs.Limits.{home_blocks, host_home, greatest_blocks}
use Rattle.ce_model.specs.Blocks.{blocks_of_home}
use Rattle.xm_block.specs.Stores.{ids_of}
use Rattle.ce_host.specs.declared.host.Host.{Host}
use Rattle.ce_host.specs.declared.command.Command.{Command}
use Rattle.ce_host.specs.declared.answer.Answer.{Answer}
use Rattle.ce_cube.specs.Crews.{IsHostAtHome}
use Rattle.xm_block.proofs.HomeBlocks.{length-blocks_of_home}
use Rattle.ce_cube.proofs.Fronts.{mix-serial}
use Rattle.ce_script.specs.declared.record.UserRecord.{UserRecord}
use Rattle.ce_script.specs.declared.record.Record.{Record}
use Rattle.ce_script.specs.declared.script.Script.{Script}
use Rattle.ce_script.specs.Bounds.{IsWithinLimits, IsCommandWithin, IsUserCommandWithin}
use Rattle.ce_script.specs.Legal.{IsLegal, machine_of}
use Rattle.ce_script.specs.Rounds.{serial}
use Rattle.ce_script.specs.Serial.{IsSerial}
use Rattle.ce_script.specs.Moments as moments
use Rattle.ce_script.specs.Doings.{Doing, user_command_of}
use Rattle.ce_record.specs.HeldCubes.{cube_holding, history_holding}
use Rattle.ce_record.specs.Run.{IsRunSoFar, AreReplies, next_doing}
use Rattle.ce_record.proofs.Moments.{foreign-to}
use Rattle.ce_record.proofs.HeldCubes.{others_stay}
use Rattle.ce_record.proofs.Legal.{script_has_machine, run_is_legal, no_user_is_legal}
use Rattle.ce_record.proofs.Run.{run_begins, run_goes_on}
use Rattle.ce_record.proofs.Replies.{replies_begin, replies_go_on}
use Rattle.ce_run.specs.declared.user_state.UserState.{UserState}
use Rattle.ce_run.specs.declared.user_state.UserState.TheVariants.{HomeHost, CubeCrew}
use Rattle.ce_run.specs.UserStates.{HasDone, IsUserStateAt, IsUserAt, UserFacts, home_host, cube_crew, user_facts}
use Rattle.ce_run.specs.Script.{IsRunBehind, HasGoneFurther, IsFreeState, AreFreeStates}
use Rattle.ce_run.proofs.StatesBehind.{crew-keeps}

-- ---- what the others have

abbrev trace_in : Option moments.Holding → List Entry
trace_in None = []
trace_in (Some held) = held.trace

-- a user that holds the same cube, by what is held now, has the same trace
same-trace : (h h' : List Entry) (user : ℕ) (cube : HeldCube) → cube_held_by (after h) user ≡ Some cube → cube_held_by (after h') user ≡ cube_held_by (after h) user
    → history_holding h' user ≡ history_holding h user → view h' cube.number ≡ view h cube.number
same-trace h h' user cube holds same now =
    ap (λ held. trace_in (option_map (cube_holding h') held)) (sym (same ∙ holds)) ∙ ap trace_in now ∙ ap (λ held. trace_in (option_map (cube_holding h) held)) holds

pub state-stays : (parts : MachineParts) (h h' : List Entry) (user : ℕ) (facts : UserFacts) → cube_held_by (after h') user ≡ cube_held_by (after h) user
    → history_holding h' user ≡ history_holding h user → IsUserAt parts h user facts → IsUserAt parts h' user facts
state-stays parts h h' user (home_host host) same now state_is = (same ∙ state_is.0, state_is.1)
state-stays parts h h' user (cube_crew crew) same now state_is =
    let held = state_is.1.held in
    let at = ap (cube_held_by (after h)) (sym state_is.0) ∙ held.held in
    let trace = same-trace h h' user held.cube at same now in (
      state_is.0,
      crew-keeps parts h h' crew (ap (cube_held_by (after h')) state_is.0 ∙ same ∙ ap (cube_held_by (after h)) (sym state_is.0))
          (subst (λ n. view h' n ≡ view h n) held.number_is trace) state_is.1,
    )

some-stays : (parts : MachineParts) (h h' : List Entry) (user : ℕ) (user_state : Option UserState) → cube_held_by (after h') user ≡ cube_held_by (after h) user
    → history_holding h' user ≡ history_holding h user → IsSomeAnd user_state (IsUserStateAt parts h user) → IsSomeAnd user_state (IsUserStateAt parts h' user)
some-stays parts h h' user None same now is = is
some-stays parts h h' user (Some user_state) same now is = state-stays parts h h' user (user_facts user_state) same now is

-- ---- one command further

-- one user has this, and the others what they had
pub record HasNewState (user : ℕ) (user_state : UserState) (user_states user_states' : List (Option UserState)) : Type 0 where
  pub all : length user_states' ≡ length user_states
  pub here : slice_index_or user_states' user None ≡ Some user_state
  pub others : (other : ℕ) → other ≢ user → slice_index_or user_states' other None ≡ slice_index_or user_states other None

-- one user's record has this command more
pub record HasRecordedCommand (user : ℕ) (command : Command) (answer : Answer) (users users' : List UserRecord) : Type 0 where
  pub names : map (λ (one : UserRecord). one.name) users' ≡ map (λ one. one.name) users
  pub replies : map (λ (one : UserRecord). one.done) users'
      ≡ slice_set (map (λ one. one.done) users) user (slice_index_or (map (λ one. one.done) users) user [] ++ (command, answer) ∷ [])

module _ (before behind : MachineFacts) (user_states user_states' : List (Option UserState)) (users users' : List UserRecord) (user : ℕ) (command : Command)
    (answer : Answer) (user_state : UserState) (machine : IsMachine before.parts) (below : user < length users) (done : HasDone serial before behind user command answer (user_facts user_state))
    (state_is : HasNewState user user_state user_states user_states') (noted : HasRecordedCommand user command answer users users') where
  abbrev doing : Doing
  doing = next_doing before.history command answer done.new_entries

  -- nothing else was added on one thread
  history-is : behind.history ≡ before.history ++ done.new_entries
  history-is = done.history ∙ ap (λ more. before.history ++ more) (mix-serial user done.all_entries done.new_entries done.mix)

  state-now : (script : Script) (all : List (ℕ × Doing)) → IsRunBehind script before user_states users all → (other : ℕ) → other < length script.users
      → IsSomeAnd (slice_index_or user_states' other None) (IsUserStateAt before.parts behind.history other)
  state-now script all run other inside =
      elim (cases_eq user other) [
        | inl same ↦
            subst (λ u. IsSomeAnd (slice_index_or user_states' u None) (IsUserStateAt before.parts behind.history u)) same
            (subst (λ place. IsSomeAnd place (IsUserStateAt before.parts behind.history user)) (sym state_is.here) done.state_is)
        | inr differ ↦
            let stay = others_stay before.parts before.history other done.new_entries machine (subst (IsLawful before.parts) history-is done.lawful)
            (foreign-to user other done.new_entries differ done.next.own) in
            subst (λ h. IsSomeAnd (slice_index_or user_states' other None) (IsUserStateAt before.parts h other)) (sym history-is)
            (subst (λ place. IsSomeAnd place (IsUserStateAt before.parts (before.history ++ done.new_entries) other)) (sym (state_is.others other (λ e. differ (sym e))))
            (some-stays before.parts before.history (before.history ++ done.new_entries) other (slice_index_or user_states other None) stay.0 stay.1 (run.state_is other inside)))
      ]

  pub further : (script : Script) (all : List (ℕ × Doing)) → IsRunBehind script before user_states users all → IsRunBehind script behind user_states' users' (all ++ (user, doing) ∷ [])
  further script all run =
      let back = sym done.parts in
      let few : user < length (map (λ (one : UserRecord). one.done) users) = omega (arith, below, length-map users (λ (one : UserRecord). one.done)) in
      record {
        parts = done.parts ∙ run.parts;
        lawful = subst (λ parts. IsLawful parts behind.history) back done.lawful;
        so_far = subst (λ parts. IsRunSoFar serial parts behind.history (all ++ (user, doing) ∷ [])) back
            (subst (λ h. IsRunSoFar serial before.parts h (all ++ (user, doing) ∷ [])) (sym history-is)
            (run_goes_on serial before.parts before.history all user command answer done.new_entries machine run.lawful run.so_far done.next));
        places = state_is.all ∙ run.places;
        state_is = λ other inside. subst (λ parts. IsSomeAnd (slice_index_or user_states' other None) (IsUserStateAt parts behind.history other)) back (state-now script all run other inside);
        names = noted.names ∙ run.names;
        replies = subst (AreReplies (all ++ (user, doing) ∷ [])) (sym noted.replies) (replies_go_on all (map (λ one. one.done) users) user doing few run.replies);
      }

  pub gone-further : HasGoneFurther before behind user_states user_states' users users' user command
  gone-further = record { doing = doing; command_is = refl; is = further }

-- ---- one command of a user

module _ (script : Script) (machine : MachineFacts) (user_states : List (Option UserState)) (users : List UserRecord) (all : List (ℕ × Doing))
    (run : IsRunBehind script machine user_states users all) where
  users-all : length users ≡ length script.users
  users-all = sym (length-map users (λ (one : UserRecord). one.name)) ∙ ap length run.names

module _ (script : Script) (machine : MachineFacts) (user_states : List (Option UserState)) (users : List UserRecord) (all : List (ℕ × Doing))
    (run : IsRunBehind script machine user_states users all) (user : ℕ) (below : user < length users) where
  every : length users ≡ length script.users
  every = users-all script machine user_states users all run

  pub has-place : user < length user_states
  has-place = omega (arith, below, every, run.places)

-- what a user had is taken, and what the user has then is put back
pub state-put_back : (user_states : List (Option UserState)) (user : ℕ) (user_state : UserState) → user < length user_states
    → HasNewState user user_state user_states (set (set user_states user None) user (Some user_state))
state-put_back user_states user user_state below = record {
  all = length-set (set user_states user None) user (Some user_state) ∙ length-set user_states user None;
  here = get_or-set_same (set user_states user None) user (Some user_state) None (omega (arith, below, length-set user_states user None));
  others = λ other differ. get_or-set_other (set user_states user None) user other (Some user_state) None differ ∙ get_or-set_other user_states user other None None differ;
}

pub noted-more : (users : List UserRecord) (user : ℕ) (one : UserRecord) (command : Command) (answer : Answer) → user < length users → one ≡ get_or users user one
    → HasRecordedCommand user command answer users (set users user (record one { done = one.done ++ (command, answer) ∷ [] }))
noted-more users user one command answer below is =
    let new = record one { done = one.done ++ (command, answer) ∷ [] } in
    let done : one.done ≡ get_or (map (λ (one : UserRecord). one.done) users) user [] =
    ap (λ (one : UserRecord). one.done) is ∙ sym (get_or-map (λ (one : UserRecord). one.done) users user one [] below) in
    record {
      names = map-set_same (λ (one : UserRecord). one.name) users user new one (ap (λ (one : UserRecord). one.name) is);
      replies = map-set (λ (one : UserRecord). one.done) users user new
          ∙ ap (λ done. set (map (λ (one : UserRecord). one.done) users) user (done ++ (command, answer) ∷ [])) done;
    }

-- the record of the user of a command, in its place
pub noted-in-place : (users : List UserRecord) (user : ℕ) (one : UserRecord) (command : Command) (answer : Answer) (done : List (Command × Answer)) → user < length users
    → one ≡ get_or users user one → done ≡ (get_or users user one).done ++ (command, answer) ∷ []
    → HasRecordedCommand user command answer users (set users user (record { name = (get_or users user one).name; done = done }))
noted-in-place users user one command answer done below is more =
    let here = get_or users user one in
    subst (λ (done : List (Command × Answer)). HasRecordedCommand user command answer users (set users user (record { name = here.name; done = done }))) (sym more)
    (noted-more users user here command answer below (ap (get_or users user) is))

-- ---- a whole run

-- the first commands of a script, so many, were carried out
pub record HasDoneCommands (script : Script) (machine : MachineFacts) (user_states : List (Option UserState)) (users : List UserRecord) (count : ℕ) : Type 0 where
  pub all : List (ℕ × Doing)
  pub commands : map user_command_of all ≡ take count script.commands
  pub behind : IsRunBehind script machine user_states users all

free-at : (parts : MachineParts) (user : ℕ) (user_state : UserState) → IsFreeState user user_state → IsUserStateAt parts [] user user_state
unfolding after
free-at parts user (HomeHost host) free = (refl, free)
free-at parts user (CubeCrew crew) free = absurd free

some-free : (parts : MachineParts) (user : ℕ) (user_state : Option UserState) → IsSomeAnd user_state (IsFreeState user) → IsSomeAnd user_state (IsUserStateAt parts [] user)
some-free parts user None is = is
some-free parts user (Some user_state) is = free-at parts user user_state is

-- a host that was just made is at home
pub at-home : (user : ℕ) (host : Host) → ids_of host.store.blocks ≡ blocks_of_home (host_home + user) → host.store.spare + home_blocks ≡ greatest_blocks
    → host.spare_batch ≡ Some [] → IsHostAtHome user host
at-home user host blocks room spare =
    let count : length host.store.blocks ≡ home_blocks =
    sym (length-map host.store.blocks (λ block. block.id)) ∙ ap length blocks ∙ length-blocks_of_home (host_home + user) in
    record { blocks = blocks; room = ap (λ n. host.store.spare + n) count ∙ room; spare = spare }

-- one user more
pub states-more : (count : ℕ) (user_states : List (Option UserState)) (user_state : UserState) → AreFreeStates count user_states → IsFreeState count user_state
    → AreFreeStates (count + 1) (user_states ++ Some user_state ∷ [])
states-more count user_states user_state opened free = (
  length-append user_states (Some user_state ∷ []) ∙ ap (λ n. n + 1) opened.0,
  λ user below. elim (cases_eq user count) [
    | inl same ↦
        let here : slice_index_or (user_states ++ Some user_state ∷ []) user None ≡ Some user_state =
        subst (λ place. slice_index_or (user_states ++ Some user_state ∷ []) place None ≡ Some user_state) (opened.0 ∙ sym same) (get_or-append_seam user_states (Some user_state) [] None) in
        subst (λ place. IsSomeAnd place (IsFreeState user)) (sym here) (subst (λ user. IsFreeState user user_state) (sym same) free)
    | inr differ ↦
        let less : user < count = omega (arith, below, differ) in
        subst (λ place. IsSomeAnd place (IsFreeState user)) (sym (get_or_append_left user_states (Some user_state ∷ []) None user (omega (arith, less, opened.0)))) (opened.1 user less)
  ],
)

-- a user who did nothing
abbrev pub blank_user_record : List ℕ → UserRecord
blank_user_record name = record { name = name; done = [] }

blank-names : (names : List (List ℕ)) → map (λ (one : UserRecord). one.name) (map blank_user_record names) ≡ names
blank-names [] = refl
blank-names (name ∷ names) = ap (λ more. name ∷ more) (blank-names names)

blank-dones : (names : List (List ℕ)) → map (λ (one : UserRecord). one.done) (map blank_user_record names) ≡ replicate (length names) []
blank-dones [] = refl
blank-dones (name ∷ names) = ap (λ more. [] ∷ more) (blank-dones names)

pub run-opens : (script : Script) (user_states : List (Option UserState)) → AreFreeStates (length script.users) user_states
    → HasDoneCommands script (record { parts = machine_of script; history = [] }) user_states (map blank_user_record script.users) 0
run-opens script user_states opened = record {
  all = [];
  commands = refl;
  behind = record {
    parts = refl;
    lawful = tt;
    so_far = run_begins serial (machine_of script);
    places = opened.0;
    state_is = λ user below. some-free (machine_of script) user (slice_index_or user_states user None) (opened.1 user below);
    names = blank-names script.users;
    replies = subst (AreReplies []) (sym (blank-dones script.users)) (replies_begin (length script.users));
  };
}

-- with what was opened
pub run-opens-by : (script : Script) (machine : MachineFacts) (user_states : List (Option UserState)) (users : List UserRecord) (count : ℕ) (names : List (List ℕ))
    → machine ≡ record { parts = machine_of script; history = [] } → count ≡ length script.users → AreFreeStates count user_states → names ≡ script.users
    → users ≡ map blank_user_record names → HasDoneCommands script machine user_states users 0
run-opens-by script machine user_states users count names machine_is count_is opened names_is users_is =
    subst (λ machine. HasDoneCommands script machine user_states users 0) (sym machine_is)
    (subst (λ users. HasDoneCommands script (record { parts = machine_of script; history = [] }) user_states users 0) (sym (users_is ∙ ap (map blank_user_record) names_is))
    (run-opens script user_states (subst (λ n. AreFreeStates n user_states) count_is opened)))

-- the run of a script without users
pub empty-run : (script : Script) (users : List UserRecord) (history : List Entry) → IsWithinLimits script → script.users ≡ [] → users ≡ [] → history ≡ []
    → IsLegal serial script (record { users = users; history = history }) × IsSerial script (record { users = users; history = history })
empty-run script users history within nobody no_users no_history =
    subst (λ (kept : Record). IsLegal serial script kept × IsSerial script kept) (λ i. record { users = sym no_users i; history = sym no_history i })
    (no_user_is_legal serial script within nobody)

pub no-dim : (dim : Option ℕ) → ((d : ℕ) → dim ≡ Some d → ⊥) → dim ≡ None
no-dim None other = refl
no-dim (Some d) other = absurd (other d refl)

take-all : {X : Type 0} (xs : List X) → take (length xs) xs ≡ xs
take-all [] = refl
take-all (x ∷ xs) = ap (λ more. x ∷ more) (take-all xs)

-- a list that was lent as a whole, and came back with as many items
pub whole-again : {X : Type 0} (n : ℕ) (old new : List X) → n ≡ length old → length new ≡ length old → take n (new ++ drop (length new) old) ≡ new
whole-again n old new all same =
    let count : n ≡ length new = all ∙ sym same in
    let rest : drop (length new) old ≡ [] = ap (λ k. drop k old) same ∙ drop-all old in
    ap₂ (λ k more. take k (new ++ more)) count rest ∙ ap (take (length new)) (append-nil new) ∙ take-all new
  where
    drop-all : {X : Type 0} (xs : List X) → drop (length xs) xs ≡ []
    drop-all [] = refl
    drop-all (x ∷ xs) = drop-all xs

all-at : {X : Type 0} (P : X → Type 0) (xs : List X) (i : ℕ) (x : X) → i < length xs → x ≡ get_or xs i x → AllByRecursion P xs → P x
all-at P [] i x below is all = absurd (omega (arith, below))
all-at P (y ∷ ys) zero x below is all = subst P (sym is) all.0
all-at P (y ∷ ys) (suc i) x below is all = all-at P ys i x (omega (arith, below)) is all.1

module _ (script : Script) (machine : MachineFacts) (user_states : List (Option UserState)) (users : List UserRecord) (count : ℕ) (part : HasDoneCommands script machine user_states users count) where
  commanders : length users ≡ length script.users
  commanders = users-all script machine user_states users part.all part.behind

  -- the next command is one of the script's users, and keeps its limits
  pub next-within : IsWithinLimits script → (user : ℕ) (command : Command) → count < length script.commands
      → (user, command) ≡ get_or script.commands count (user, command)
      → (user < length users) × IsCommandWithin (length machine.parts.images) command
  next-within within user command below is =
      let own = all-at (IsUserCommandWithin (length script.users) (length script.images)) script.commands count (user, command) below is within.commands in
      let images : length machine.parts.images ≡ length script.images =
      ap (λ (parts : MachineParts). length parts.images) part.behind.parts ∙ length-map script.images (λ named. named.image) in (
        subst (λ n. user < n) (sym commanders) own.0,
        subst (λ n. IsCommandWithin n command) (sym images) own.1,
      )

  pub part-more : (machine' : MachineFacts) (user_states' : List (Option UserState)) (users' : List UserRecord) (user : ℕ) (command : Command) → count < length script.commands
      → (user, command) ≡ get_or script.commands count (user, command) → HasGoneFurther machine machine' user_states user_states' users users' user command
      → HasDoneCommands script machine' user_states' users' (suc count)
  part-more machine' user_states' users' user command below is gone = record {
    all = part.all ++ (user, gone.doing) ∷ [];
    commands = map-append user_command_of part.all ((user, gone.doing) ∷ []) ∙ ap₂ (λ front command. front ++ (user, command) ∷ []) part.commands gone.command_is
        ∙ ap (λ own. take count script.commands ++ own ∷ []) is ∙ sym (take-suc script.commands count (user, command) below);
    behind = gone.is script part.all part.behind;
  }

  pub within-machine : IsWithinLimits script → 0 < length script.users → IsMachine machine.parts
  within-machine within some = subst IsMachine (sym part.behind.parts) (script_has_machine script within some)

  pub same-images : (images : List ImageParts) → images ≡ map (λ named. named.image) script.images → images ≡ machine.parts.images
  same-images images is = is ∙ ap (λ (parts : MachineParts). parts.images) (sym part.behind.parts)

  -- the record of the whole script
  pub whole-run : IsWithinLimits script → count ≡ length script.commands → (history : List Entry) → history ≡ machine.history
      → IsLegal serial script (record { users = users; history = history }) × IsSerial script (record { users = users; history = history })
  whole-run within end history same =
      run_is_legal script (record { users = users; history = history }) part.all within
      (subst (IsLawful (machine_of script)) (sym same) (subst (λ parts. IsLawful parts machine.history) part.behind.parts part.behind.lawful))
      (subst (λ h. IsRunSoFar serial (machine_of script) h part.all) (sym same)
      (subst (λ parts. IsRunSoFar serial parts machine.history part.all) part.behind.parts part.behind.so_far))
      (record {
        commands = part.commands ∙ ap (λ n. take n script.commands) end ∙ take-all script.commands;
        users = part.behind.names;
        replies = part.behind.replies;
      })

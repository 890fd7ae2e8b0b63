-- The record of a whole script is legal, and that of a run serial.
use Rattle.std.proofs.Common.{◌≡◌, ℕ, ◌+◌, ◌-◌, ◌<◌, ◌≤◌, false, ◌==◌, List, [], ◌∷◌, length, map, filter, flat_map, Option, Some, None, IfSome, unwrap_or, if◌then◌else◌, refl, ap, sym, ◌∙◌, subst, inl, inr, arith}
use Rattle.std.specs.List.{AllByRecursion, cons_option, enumerate_from}
use Rattle.std.proofs.lemmas.Bool.{cases_Bool, eq-eqb, ne_eqb}
use Rattle.std.proofs.lemmas.List.{length-map}
use Rattle.ce_model.specs.declared.entry.Entry.{Entry}
use Rattle.ce_model.specs.Limits.{greatest_dim}
use Rattle.ce_model.specs.Renaming.{CubeGrant}
use Rattle.ce_model.specs.Views.{entry_grant, grants_of, grant_or_later, history_behind_grant, view}
use Rattle.ce_model.specs.Cube.{Cube}
use Rattle.ce_model.specs.Machine.{MachineParts, IsLawful, cube_of}
use Rattle.ce_solo.specs.Laws.{IsLegalTrace}
use Rattle.ce_solo.proofs.Lists.{all-weaker}
use Rattle.ce_solo.proofs.Projection.Legal.{lawful_is_legal}
use Rattle.ce_host.specs.declared.command.Command.{Command}
use Rattle.ce_host.specs.declared.answer.Answer.{Answer}
use Rattle.ce_script.specs.declared.record.UserRecord.{UserRecord}
use Rattle.ce_script.specs.declared.record.Record.{Record}
use Rattle.ce_script.specs.declared.script.Script.{Script}
use Rattle.ce_script.specs.Bounds.{IsWithinLimits, IsUserCommandWithin}
use Rattle.ce_script.specs.Rounds.{RoundKind, serial}
use Rattle.ce_script.specs.Moments.{moments}
use Rattle.ce_script.specs.Doings.{Doing, command_with_answer, user_command_of, AreDoings}
use Rattle.ce_script.specs.Legal.{IsLegal, IsRecordOfScript, script_images, machine_of, EachUser, EachCube}
use Rattle.ce_script.specs.Serial.{doings_of, IsSerial}
use Rattle.ce_record.specs.Run.{IsRunSoFar, IsRecordOfRun}
use Rattle.ce_record.specs.Users.{HasDoneSoFar}
use Rattle.ce_record.specs.Laws.{ScriptHasMachine, RunIsLegal, UsersAreLegal, NoUserIsLegal}
use Rattle.ce_record.proofs.Moments.{map-none}
use Rattle.ce_record.proofs.Run.{run_begins}

-- ---- the cubes

module _ (P : ℕ → CubeGrant → Type 0) where
  -- this holds of each grant of a history, counted from so many
  abbrev EachFound : List Entry → ℕ → Type 0
  EachFound h k = (n : ℕ) (grant : CubeGrant) (behind : List Entry) → history_behind_grant h n ≡ Some (grant, behind) → P (k + n) grant

  abbrev EachGrant : ℕ → List CubeGrant → Type 0
  EachGrant k grants = AllByRecursion (λ numbered. P numbered.0 numbered.1) (enumerate_from k grants)

  by_first : (first : Option CubeGrant) (h : List Entry) (k : ℕ)
      → ((n : ℕ) (grant : CubeGrant) (behind : List Entry) → grant_or_later first h n (history_behind_grant h) ≡ Some (grant, behind) → P (k + n) grant)
      → ((k : ℕ) → EachFound h k → EachGrant k (grants_of h)) → EachGrant k (cons_option first (grants_of h))
  by_first None h k found rest = rest k found
  by_first (Some grant) h k found rest = (
    (let same : k + 0 ≡ k = omega arith in subst (λ n. P n grant) same (found 0 grant h refl)),
    rest (k + 1) (λ n grant' behind e.
        let later : (1 + n == 0) ≡ false = ne_eqb _ _ (omega arith) in
        let less : 1 + n - 1 ≡ n = omega arith in
        let same : k + (1 + n) ≡ k + 1 + n = omega arith in
        subst (λ n. P n grant') same (found (1 + n) grant' behind (rw (later, less) e))),
  )

  each_grant : (h : List Entry) (k : ℕ) → EachFound h k → EachGrant k (grants_of h)
  each_grant [] k found = tt
  each_grant (entry ∷ h) k found = by_first (entry_grant entry) h k found (each_grant h)

each_cube : (P : Cube → List Entry → Type 0) (parts : MachineParts) (history : List Entry)
    → ((n : ℕ) → IfSome (history_behind_grant history n) (λ found. P (cube_of parts.images found.0) (view history n))) → EachCube P parts.images history
each_cube P parts history each =
    each_grant (λ n grant. P (cube_of parts.images grant) (view history n)) history 0
    (λ n grant behind e.
    let same : 0 + n ≡ n = omega arith in
    subst (λ m. P (cube_of parts.images grant) (view history m)) (sym same)
    (subst (λ found. IfSome found (λ (found : CubeGrant × List Entry). P (cube_of parts.images found.0) (view history n))) e (each n)))

-- ---- the machine

dim_within : (dim : Option ℕ) → IfSome dim (λ dim. dim ≤ greatest_dim) → unwrap_or dim 0 ≤ greatest_dim
dim_within None is = omega arith
dim_within (Some dim) is = is

pub script_has_machine : ScriptHasMachine
script_has_machine script within some = record {
  dim = dim_within script.dim within.dim;
  some_user = some;
  users = within.users;
  images = omega (arith, within.images, length-map script.images (λ named. named.image));
}

-- a script without users has no commands, and its run no history
no_commands : (images : ℕ) (commands : List (ℕ × Command)) → AllByRecursion (IsUserCommandWithin 0 images) commands → commands ≡ []
no_commands images [] all = refl
no_commands images (own ∷ commands) all = absurd (omega (arith, all.0.0))

no_history : (history : List Entry) → [] ≡ moments history → history ≡ []
unfolding moments
no_history [] none = refl
no_history (entry ∷ history) none = absurd (cc)

-- the commands of what a user did are the user's of all commands
commands_done : (number : ℕ) (all : List (ℕ × Doing))
    → map (λ (done : Command × Answer). done.0) (map command_with_answer (doings_of number all))
    ≡ map (λ (own : ℕ × Command). own.1) (filter (λ (own : ℕ × Command). own.0 == number) (map user_command_of all))
commands_done number [] = refl
commands_done number (own ∷ all) =
    elim (cases_Bool (own.0 == number)) [
      | inl is ↦ rw is (ap (λ commands. own.1.command ∷ commands) (commands_done number all))
      | inr other ↦ rw other (commands_done number all)
    ]

-- ---- the users

each_user : (P Q : ℕ → UserRecord → Type 0) (run_record : Record) → ((number : ℕ) (user : UserRecord) → P number user → Q number user) → EachUser P run_record → EachUser Q run_record
each_user P Q run_record up =
    all-weaker (λ numbered. P numbered.0 numbered.1) (λ numbered. Q numbered.0 numbered.1) (enumerate_from 0 run_record.users) (λ numbered. up numbered.0 numbered.1)

-- what holds of what each user was answered
each_done : (P : ℕ → List (Command × Answer) → Type 0) (k : ℕ) (users : List UserRecord)
    → AllByRecursion (λ numbered. P numbered.0 numbered.1) (enumerate_from k (map (λ user. user.done) users))
    → AllByRecursion (λ numbered. P numbered.0 numbered.1.done) (enumerate_from k users)
each_done P k [] all = tt
each_done P k (user ∷ users) all = (all.0, each_done P (k + 1) users all.1)

-- of users that are counted from beyond a number
each_beyond : (P Q : ℕ → UserRecord → Type 0) (number k : ℕ) (users : List UserRecord) → ((n : ℕ) (user : UserRecord) → number < n → P n user → Q n user) → number < k
    → AllByRecursion (λ numbered. P numbered.0 numbered.1) (enumerate_from k users) → AllByRecursion (λ numbered. Q numbered.0 numbered.1) (enumerate_from k users)
each_beyond P Q number k [] up less all = tt
each_beyond P Q number k (user ∷ users) up less all = (up k user less all.0, each_beyond P Q number (k + 1) users up (omega (arith, less)) all.1)

-- what there is for each user is told by the user's number
by_number : (P : ℕ → UserRecord → List Doing → Type 0) (k : ℕ) (users : List UserRecord)
    → AllByRecursion (λ numbered. (doings : List Doing) × P numbered.0 numbered.1 doings) (enumerate_from k users)
    → (doings : ℕ → List Doing) × AllByRecursion (λ numbered. P numbered.0 numbered.1 (doings numbered.0)) (enumerate_from k users)
by_number P k [] all = (λ n. [], tt)
by_number P k (user ∷ users) all =
    let rest = by_number P (k + 1) users all.1 in
    let doings : ℕ → List Doing = λ n. if n == k then all.0.0 else rest.0 n in
    let first : doings k ≡ all.0.0 = rw (eq-eqb k k refl) refl in (
      doings,
      (
        subst (P k user) (sym first) all.0.1,
        each_beyond (λ n user. P n user (rest.0 n)) (λ n user. P n user (doings n)) k (k + 1) users (λ n user less is.
            let later : doings n ≡ rest.0 n = rw (ne_eqb n k (omega (arith, less))) refl in subst (P n user) (sym later) is)
            (omega arith) rest.1,
      ),
    )

-- ---- the record

module _ (kind : RoundKind) (script : Script) (run_record : Record) (within : IsWithinLimits script) (lawful : IsLawful (machine_of script) run_record.history)
    (empty : script.users ≡ [] → run_record.history ≡ []) where
  -- each cube's trace is legal
  legal_traces : (users : List (List ℕ)) → script.users ≡ users → EachCube IsLegalTrace (script_images script) run_record.history
  legal_traces [] none = subst (EachCube IsLegalTrace (script_images script)) (sym (empty none)) tt
  legal_traces (user ∷ users) some =
      let machine = script_has_machine script within (subst (λ users. 0 < length users) (sym some) (omega arith)) in
      each_cube IsLegalTrace (machine_of script) run_record.history (λ n. lawful_is_legal (machine_of script) run_record.history n machine lawful)

  traces : EachCube IsLegalTrace (script_images script) run_record.history
  traces = legal_traces script.users refl

  each_trace : (P : Cube → List Entry → Type 0) → ((cube : Cube) (t : List Entry) → IsLegalTrace cube t → P cube t) → EachCube P (script_images script) run_record.history
  each_trace P part =
      all-weaker (λ numbered. IsLegalTrace (cube_of (script_images script) numbered.1) (view run_record.history numbered.0))
      (λ numbered. P (cube_of (script_images script) numbered.1) (view run_record.history numbered.0)) (enumerate_from 0 (grants_of run_record.history)) (λ numbered is. part _ _ is) traces

  -- a user did this, and was answered what the record says
  abbrev HasDone : ℕ → UserRecord → List Doing → Type 0
  HasDone number user doings = HasDoneSoFar kind (machine_of script) number run_record.history doings × (map command_with_answer doings ≡ user.done)

  pub legal_by : IsRecordOfScript script run_record → EachUser (λ number user. (doings : List Doing) × HasDone number user doings) run_record → IsLegal kind script run_record
  legal_by keeps users =
      let did = by_number HasDone 0 run_record.users users in
      record {
        doings = did.0;
        keeps = keeps;
        lawful = lawful;
        does = each_user (λ number user. HasDone number user (did.0 number)) _ run_record (λ number user is.
            subst (λ done. AreDoings kind (machine_of script) run_record.history number done (did.0 number)) is.1 is.0.does) did.1;
        alone = each_trace _ (λ cube t is. is.0);
        owned = each_trace _ (λ cube t is. is.1);
        in_order = each_trace _ (λ cube t is. is.2);
        refused = each_user (λ number user. HasDone number user (did.0 number)) _ run_record (λ number user is. is.0.refused) did.1;
      }

pub users_are_legal : UsersAreLegal
users_are_legal kind script run_record within some lawful keeps users =
    legal_by kind script run_record within lawful (λ none. absurd (omega (arith, subst (λ users. 0 < length users) none some))) keeps
    (each_user _ _ run_record (λ number user is. (is.0, (is.1, is.2))) users)

-- ---- a run

module _ (script : Script) (run_record : Record) (all : List (ℕ × Doing)) (within : IsWithinLimits script) (lawful : IsLawful (machine_of script) run_record.history)
    (run : IsRunSoFar serial (machine_of script) run_record.history all) (keeps : IsRecordOfRun script all run_record) where
  empty : script.users ≡ [] → run_record.history ≡ []
  empty none =
      let few = subst (λ users. AllByRecursion (IsUserCommandWithin (length users) (length script.images)) script.commands) none within.commands in
      let nothing = map-none user_command_of all (keeps.commands ∙ no_commands (length script.images) script.commands few) in
      no_history run_record.history (sym (ap (flat_map (λ (own : ℕ × Doing). own.1.moments)) nothing) ∙ run.together)

  -- what a user was answered
  abbrev IsAnswered : ℕ → UserRecord → Type 0
  IsAnswered number user = map command_with_answer (doings_of number all) ≡ user.done

  each_answered : (P : ℕ → UserRecord → Type 0) → ((number : ℕ) (user : UserRecord) → IsAnswered number user → P number user) → EachUser P run_record
  each_answered P part =
      each_user IsAnswered P run_record part (each_done (λ number done. map command_with_answer (doings_of number all) ≡ done) 0 run_record.users keeps.replies)

  is_legal : IsLegal serial script run_record
  is_legal =
      legal_by serial script run_record within lawful empty (record {
        users = keeps.users;
        commands = each_answered _ (λ number user is.
            ap (map (λ (done : Command × Answer). done.0)) (sym is) ∙ commands_done number all
            ∙ ap (λ commands. map (λ (own : ℕ × Command). own.1) (filter (λ own. own.0 == number) commands)) keeps.commands);
      }) (each_answered _ (λ number user is. (doings_of number all, (run.users number, is))))

  is_serial : IsSerial script run_record
  is_serial = record {
    doings = all;
    commands = keeps.commands;
    together = run.together;
    each = each_answered _ (λ number user is.
        subst (λ done. AreDoings serial (machine_of script) run_record.history number done (doings_of number all)) is (run.users number).does);
  }

pub run_is_legal : RunIsLegal
run_is_legal script run_record all within lawful run keeps =
    (is_legal script run_record all within lawful run keeps, is_serial script run_record all within lawful run keeps)

pub no_user_is_legal : NoUserIsLegal
no_user_is_legal kind script within none =
    let few = subst (λ users. AllByRecursion (IsUserCommandWithin (length users) (length script.images)) script.commands) none within.commands in
    let run_record : Record = record { users = []; history = [] } in (
      legal_by kind script run_record within tt (λ none. refl) (record { users = sym none; commands = tt }) tt,
      record {
        doings = [];
        commands = sym (no_commands (length script.images) script.commands few);
        together = (run_begins serial (machine_of script)).together;
        each = tt;
      },
    )

-- Commands that make one entry: the machine's answer is theirs.
use Rattle.std.proofs.Common.{◌≡◌, ℕ, Bool, true, false, ◌&&◌, not, nat_lt, if◌then◌else◌, List, [], ◌∷◌, length, slice_get, Option, Some, None, IsSomeAnd, option_map, option_and_then, refl, ap, sym, ◌∙◌, subst, inl}
use Rattle.std.proofs.lemmas.Bool.{and_parts}
use Rattle.ce_model.specs.declared.topology.TheConstants.{HOST}
use Rattle.ce_model.specs.declared.topology.Place.{Place}
use Rattle.ce_model.specs.declared.topology.BlockId.{BlockId}
use Rattle.ce_model.specs.declared.topology.Subcube.{Subcube}
use Rattle.ce_model.specs.declared.entry.Entry.{Entry}
use Rattle.ce_model.specs.declared.entry.What.{What}
use Rattle.ce_model.specs.declared.entry.What.TheVariants as whats
use Rattle.ce_model.specs.declared.entry.KillResult.{KillResult}
use Rattle.ce_model.specs.Node.{Call, send_call, spawn_call, kill_call, is_place}
use Rattle.ce_model.specs.Trace.{Standing}
use Rattle.ce_model.specs.Answers.{is_among, kill_result, answer}
use Rattle.ce_model.specs.Cube.{Cube, opening, state_after_trace, hoststore, wish_of_call, actor_call, call_of_wish}
use Rattle.ce_model.specs.Owners.{IsBlockOf}
use Rattle.ce_model.specs.Subcubes.{relative_number, first_free_subcube}
use Rattle.ce_model.specs.Renaming.{place_inward, place_outward, block_outward, renamed_call_blocks, entry_inward}
use Rattle.ce_model.specs.Views.{trace_behind, view}
use Rattle.ce_model.specs.Machine.{MachineParts, IsMachine, IsLawful, HeldCube, after, cube_held_by, is_free, nodes_of, cube_standing, with_places_outward, Request, getcube, peek, drain, freecube, cube_request, IsCallOf}
use Rattle.ce_model.specs.Literals.{host_entry}
use Rattle.ce_solo.proofs.Sending.{place_parts}
use Rattle.ce_solo.proofs.Made.{made}
use Rattle.ce_solo.proofs.Projection.Numbers.{IsPlaced, relative_host, place_in_out, block_in_out}
use Rattle.ce_solo.proofs.Projection.Calls.{IsCallWithin, made-within}
use Rattle.ce_solo.proofs.Projection.Views.{view-is}
use Rattle.ce_solo.proofs.Projection.Own.{own_cube, stands}
use Rattle.ce_solo.proofs.Projection.Law.{IsProjectedHistory, projected}
use Rattle.ce_host.specs.declared.command.Command.TheVariants.{Getcube, Peek, Spawn, Kill, Send}
use Rattle.ce_host.specs.declared.command.Command.{Command}
use Rattle.ce_host.specs.declared.answer.Answer.{Answer}
use Rattle.ce_host.specs.declared.answer.Answer.TheVariants as answers
use Rattle.ce_script.specs.Rounds.{RoundKind}
use Rattle.ce_daemon.specs.Peeks.{peek_result}
use Rattle.ce_script.specs.Commands.{getcube_reply, kill_reply, IsAtPlace, IsSpawn, IsKill, IsSend}
use Rattle.ce_record.specs.Requests.{command_request, entry_reply, IsMadeByRequest}
use Rattle.ce_record.specs.HeldCubes.{cube_holding, history_holding, granted_cube}
use Rattle.ce_record.specs.Run.{IsNextCommand}
use Rattle.ce_record.specs.Laws.{RequestsAreNext}
use Rattle.ce_record.proofs.HeldCubes.{own-user}
use Rattle.ce_record.proofs.AtOnce.{next-by, holder-next, at-place}

-- ---- what is called

-- a call that is one of these but for the names of blocks
spawn_is : (rename : BlockId → BlockId) (image : ℕ) (to : Place) (call : Call) → renamed_call_blocks rename call ≡ spawn_call 0 image to → call ≡ spawn_call 0 image to
spawn_is rename image to (spawn_call pid other at) e = e
spawn_is rename image to other e = absurd (cc)

kill_is : (rename : BlockId → BlockId) (to : Place) (call : Call) → renamed_call_blocks rename call ≡ kill_call 0 to → call ≡ kill_call 0 to
kill_is rename to (kill_call pid at) e = e
kill_is rename to other e = absurd (cc)

-- a message to one place, in a block of which this is the name
record IsMessage (rename : BlockId → BlockId) (id : BlockId) (to : Place) (bytes : List ℕ) (call : Call) : Type 0 where
  block : BlockId
  is : call ≡ send_call 0 ((to, block) ∷ []) bytes
  renamed : rename block ≡ id

send_is : (rename : BlockId → BlockId) (id : BlockId) (to : Place) (bytes : List ℕ) (call : Call) → renamed_call_blocks rename call ≡ send_call 0 ((to, id) ∷ []) bytes
    → IsMessage rename id to bytes call
send_is rename id to bytes (send_call pid [] other) e = absurd (cc)
send_is rename id to bytes (send_call pid (target ∷ []) other) e =
    let number : pid ≡ 0 = cc in
    let same : other ≡ bytes = cc in
    let pair : (target.0, rename target.1) ≡ (to, id) = cc in
    record {
      block = target.1;
      is = λ i. send_call (number i) (((pair i).0, target.1) ∷ []) (same i);
      renamed = ap (λ (pair : Place × BlockId). pair.1) pair;
    }
send_is rename id to bytes (send_call pid (target ∷ second ∷ others) other) e = absurd (cc)
send_is rename id to bytes other e = absurd (cc)

if_some : (b : Bool) (x : Option Call) (call : Call) → (if b then x else None) ≡ Some call → (b ≡ true) × (x ≡ Some call)
if_some true x call e = (refl, e)
if_some false x call e = absurd (cc)

-- the least block of a store, where a message goes in it
least : (store : List BlockId) (to : Place) (block : BlockId) (bytes : List ℕ)
    → option_map (λ id. send_call 0 ((to, id) ∷ []) bytes) (slice_get store 0) ≡ Some (send_call 0 ((to, block) ∷ []) bytes) → (others : List BlockId) × (store ≡ block ∷ others)
least [] to block bytes e = absurd (cc)
least (id ∷ others) to block bytes e =
    let same : (to, id) ≡ (to, block) = cc in (others, ap (λ (target : Place × BlockId). target.1 ∷ others) same)

-- which commands ask for what is no call of a cube
asks_getcube : (command : Command) (id : BlockId) (dim : ℕ) → command_request id command ≡ Some (getcube dim) → command ≡ Getcube dim
asks_getcube (Getcube other) id dim e = let same : getcube other ≡ getcube dim = cc in ap (λ request. elim request [ getcube dim ↦ Getcube dim | other ↦ Peek ]) same
asks_getcube other id dim e = absurd (cc)

asks_peek : (command : Command) (id : BlockId) → command_request id command ≡ Some peek → command ≡ Peek
asks_peek Peek id e = refl
asks_peek other id e = absurd (cc)

asks_no_drain : (command : Command) (id : BlockId) → command_request id command ≡ Some drain → ⊥
asks_no_drain (Getcube dim) id e = absurd (cc)
asks_no_drain other id e = absurd (cc)

asks_no_freecube : (command : Command) (id : BlockId) → command_request id command ≡ Some freecube → ⊥
asks_no_freecube (Getcube dim) id e = absurd (cc)
asks_no_freecube other id e = absurd (cc)

some_what : (x y : What) → Some x ≡ Some y → x ≡ y
some_what x y e = cc

-- ---- what is answered

module _ (kind : RoundKind) (parts : MachineParts) (history : List Entry) (user : ℕ) where
  -- a command has this answer and makes this entry
  abbrev HasAnswer : Command → Answer → What → Type 0
  HasAnswer command answer what = IsNextCommand kind parts history user command answer (host_entry user what ∷ [])

  -- a command has the answer that its entry gives
  by_entry : (command : Command) (what what' : What) (answer answer' : Answer) → what ≡ what' → entry_reply parts (after history) what ≡ Some answer
      → entry_reply parts (after history) what' ≡ Some answer' → HasAnswer command answer what
      → HasAnswer command answer' what'
  by_entry command what what' answer answer' same is is' next =
      let both : Some answer ≡ Some answer' = sym is ∙ ap (entry_reply parts (after history)) same ∙ is' in
      let is_answer : answer ≡ answer' = cc in
      subst (λ answer. HasAnswer command answer what') is_answer
      (subst (λ what. HasAnswer command answer what) same next)

  granted : (dim : ℕ) (found : Option Subcube) → cube_held_by (after history) user ≡ None → first_free_subcube (is_free (after history)) parts.dim dim ≡ found
      → HasAnswer (Getcube dim) (getcube_reply found) (whats.Getcube dim found)
  granted dim None none free =
      next-by kind parts history user None (Getcube dim) (getcube_reply None) (host_entry user (whats.Getcube dim None) ∷ []) (ap (option_map (cube_holding history)) none)
      (refl, tt) (None, refl, refl)
      (record { held = (λ e. absurd (cc), λ some. absurd (cc)); none = (λ e. (refl, free), λ nothing. refl) })
  granted dim (Some sub) none free =
      next-by kind parts history user None (Getcube dim) (getcube_reply (Some sub)) (host_entry user (whats.Getcube dim (Some sub)) ∷ []) (ap (option_map (cube_holding history)) none)
      (refl, tt) (Some sub, refl, refl)
      (record { held = (λ e. absurd (cc), λ some. absurd (cc)); none = (λ e. absurd (cc), λ nothing. let no = nothing.1 in absurd (cc)) })

  looked : HasAnswer Peek (answers.Peeked (peek_result parts (after history))) whats.Peek
  looked =
      next-by kind parts history user (history_holding history user) Peek (answers.Peeked (peek_result parts (after history))) (host_entry user whats.Peek ∷ []) refl (refl, tt)
      (history, refl, refl) tt

  -- ---- in a cube

  module _ (machine : IsMachine parts) (lawful : IsLawful parts history) (cube : HeldCube) (holds : cube_held_by (after history) user ≡ Some cube) where
    before : IsProjectedHistory parts history
    before = projected parts history machine lawful

    pub placed : IsPlaced parts.dim cube.grant
    placed = (before.held user cube holds).placed

    abbrev own : Cube
    own = granted_cube parts cube

    abbrev t : List Entry
    t = view history cube.number

    -- an entry of the host, as the cube knows it
    abbrev inward : What → Entry
    inward what = entry_inward cube.grant.sub (host_entry user what)

    user_is : user ≡ cube.grant.user
    user_is = sym (own-user history user cube holds)

    to_is : (to : Place) → is_place cube.grant.dim to ≡ true → place_inward cube.grant.sub (place_outward cube.grant.sub to) ≡ to
    to_is to place = place_in_out parts.dim cube.grant placed to (inl (place_parts cube.grant.dim to place).0)

    -- as the cube knows it, the host's entry is this one
    pub inward-is : (what what' : What) → (inward what).what ≡ what' → inward what ≡ host_entry cube.grant.user what'
    inward-is what what' same = λ i. record { user = user_is i; actor = relative_host parts.dim cube.grant placed i; what = same i }

    -- a command at a place makes one entry
    at_place : (command : Command) (to : Place) (answer : Answer) (what : What) (P : List Entry → Type 0) → is_place cube.grant.dim to ≡ true
        → (IsAtPlace (is_place cube.grant.dim to) answer (inward what ∷ []) (P (inward what ∷ []))
        → HasAnswer command answer what)
        → (what' : What) → (inward what).what ≡ what' → P (host_entry cube.grant.user what' ∷ []) → HasAnswer command answer what
    at_place command to answer what P place next what' same is =
        next (at-place cube.grant.dim true to answer (inward what ∷ []) _ place
        (subst (λ entry. P (entry ∷ [])) (sym (inward-is what what' same)) is))

    spawned : (image : ℕ) (to : Place) (fresh : Bool) → is_place cube.grant.dim to ≡ true
        → HasAnswer (Spawn image to) (if fresh then answers.Ok else answers.Used) (whats.Spawn 0 image (place_outward cube.grant.sub to) fresh)
    spawned image to fresh place =
        let reply : Answer = if fresh then answers.Ok else answers.Used in
        let what = whats.Spawn 0 image (place_outward cube.grant.sub to) fresh in
        at_place (Spawn image to) to reply what (IsSpawn cube.grant.user image to reply) place
        (λ does. holder-next kind parts history user cube holds (Spawn image to) reply (host_entry user what ∷ []) (refl, tt) does tt)
        (whats.Spawn 0 image to fresh) (ap (λ to. whats.Spawn 0 image to fresh) (to_is to place)) (fresh, refl, refl)

    killed : (to : Place) (found : KillResult) → is_place cube.grant.dim to ≡ true
        → HasAnswer (Kill to) (kill_reply found) (whats.Kill 0 (place_outward cube.grant.sub to) found)
    killed to found place =
        let what = whats.Kill 0 (place_outward cube.grant.sub to) found in
        at_place (Kill to) to (kill_reply found) what (IsKill cube.grant.user to (kill_reply found)) place
        (λ does. holder-next kind parts history user cube holds (Kill to) (kill_reply found) (host_entry user what ∷ []) (refl, tt) does tt)
        (whats.Kill 0 to found) (ap (λ to. whats.Kill 0 to found) (to_is to place)) (found, refl, refl)

    sent : (to : Place) (bytes : List ℕ) (block : BlockId) (others : List BlockId) (first : ℕ) → is_place cube.grant.dim to ≡ true
        → hoststore (opening own) t ≡ block ∷ others → IsBlockOf cube.grant.dim block
        → HasAnswer (Send to bytes) answers.Ok (whats.Send 0 first ((place_outward cube.grant.sub to, block_outward cube.grant block) ∷ []) bytes)
    sent to bytes block others first place store of_cube =
        let what = whats.Send 0 first ((place_outward cube.grant.sub to, block_outward cube.grant block) ∷ []) bytes in
        at_place (Send to bytes) to answers.Ok what (IsSend cube.grant.user (hoststore (opening own) t) to bytes answers.Ok) place
        (λ does. holder-next kind parts history user cube holds (Send to bytes) answers.Ok (host_entry user what ∷ []) (refl, tt) does tt)
        (whats.Send 0 first ((to, block) ∷ []) bytes)
        (λ i. whats.Send 0 first ((to_is to place i, block_in_out parts.dim cube.grant placed block of_cube i) ∷ []) bytes)
        (subst (λ store. IsSend cube.grant.user store to bytes answers.Ok (host_entry cube.grant.user (whats.Send 0 first ((to, block) ∷ []) bytes) ∷ [])) (sym store)
        (first, refl, refl))

    -- ---- by a call that fits

    module _ (call : Call) (fits : IsCallOf parts history HOST call cube) where
      -- the host's user has it made
      by_user : option_and_then (call_of_wish own (hoststore (opening own) t)) (wish_of_call fits.inner) ≡ Some fits.inner
      by_user =
          subst (λ actor. actor_call own (opening own) t actor (wish_of_call fits.inner) ≡ Some fits.inner) (relative_host parts.dim cube.grant placed) fits.next

      within : IsCallWithin cube.grant.dim fits.inner
      within =
          let was = before.held user cube holds in
          let left = state_after_trace own (opening own) (trace_behind cube.grant was.behind) in
          let says = subst (λ t. actor_call own (opening own) t (relative_number cube.grant.sub HOST) (wish_of_call fits.inner) ≡ Some fits.inner)
          (view-is history cube.number cube.grant was.behind was.found) fits.next in
          made-within own left (own_cube parts cube.grant machine was.placed)
          (stands parts machine (after history) history cube was fits.not_drained (before.views cube.number cube.grant was.behind was.found).alone).sound
          (relative_number cube.grant.sub HOST) (wish_of_call fits.inner) fits.inner (made own left (relative_number cube.grant.sub HOST) (wish_of_call fits.inner) fits.inner says)

    spawn_fits : (image : ℕ) (to : Place) → IsCallOf parts history HOST (spawn_call 0 image to) cube → is_place cube.grant.dim to ≡ true
    spawn_fits image to fits =
        let is = spawn_is (block_outward cube.grant) image to fits.inner fits.renamed in
        let says = subst (λ made. option_and_then (call_of_wish own (hoststore (opening own) t)) (wish_of_call made) ≡ Some made) is (by_user (spawn_call 0 image to) fits) in
        (and_parts _ _ (if_some (is_place cube.grant.dim to && nat_lt image (length parts.images)) _ _ says).0).0

    kill_fits : (to : Place) → IsCallOf parts history HOST (kill_call 0 to) cube → is_place cube.grant.dim to ≡ true
    kill_fits to fits =
        let is = kill_is (block_outward cube.grant) to fits.inner fits.renamed in
        let says = subst (λ made. option_and_then (call_of_wish own (hoststore (opening own) t)) (wish_of_call made) ≡ Some made) is (by_user (kill_call 0 to) fits) in
        (if_some (is_place cube.grant.dim to) _ _ says).0

    -- a message that fits goes to a place, in the least block of the host's store
    record IsSent (id : BlockId) (to : Place) : Type 0 where
      block : BlockId
      others : List BlockId
      place : is_place cube.grant.dim to ≡ true
      store : hoststore (opening own) t ≡ block ∷ others
      of_cube : IsBlockOf cube.grant.dim block
      renamed : block_outward cube.grant block ≡ id

    send_fits : (id : BlockId) (to : Place) (bytes : List ℕ) → IsCallOf parts history HOST (send_call 0 ((to, id) ∷ []) bytes) cube → IsSent id to
    send_fits id to bytes fits =
        let call = send_call 0 ((to, id) ∷ []) bytes in
        let m = send_is (block_outward cube.grant) id to bytes fits.inner fits.renamed in
        let says = subst (λ made. option_and_then (call_of_wish own (hoststore (opening own) t)) (wish_of_call made) ≡ Some made) m.is (by_user call fits) in
        let parts = if_some (is_place cube.grant.dim to) _ _ says in
        let first = least (hoststore (opening own) t) to m.block bytes parts.1 in
        record {
          block = m.block;
          others = first.0;
          place = parts.0;
          store = first.1;
          of_cube = (subst (IsCallWithin cube.grant.dim) m.is (within call fits)).0.1;
          renamed = m.renamed;
        }

    -- ---- by what is asked

    abbrev now : Standing
    now = cube_standing (after history) cube

    -- the machine's answer to a call of the host
    abbrev answer_to : Call → What
    answer_to call = answer (nodes_of cube.grant) now HOST (with_places_outward cube.grant call)

    -- it is the command's
    abbrev IsAnswered : Command → Call → Type 0
    IsAnswered command call =
        IsCallOf parts history HOST call cube → (reply : Answer) → entry_reply parts (after history) (answer_to call) ≡ Some reply
        → HasAnswer command reply (answer_to call)

    spawn_answered : (image : ℕ) (to : Place) → IsAnswered (Spawn image to) (spawn_call 0 image to)
    unfolding answer
    spawn_answered image to fits reply is =
        by_entry (Spawn image to) _ _ _ reply refl refl is
        (spawned image to (not (is_among to.pid (now.node_record (place_outward cube.grant.sub to).node).spawned_ids)) (spawn_fits image to fits))

    kill_answered : (to : Place) → IsAnswered (Kill to) (kill_call 0 to)
    unfolding answer
    kill_answered to fits reply is =
        by_entry (Kill to) _ _ _ reply refl refl is
        (killed to (kill_result (now.node_record (place_outward cube.grant.sub to).node) to.pid) (kill_fits to fits))

    send_answered : (id : BlockId) (to : Place) (bytes : List ℕ) → IsAnswered (Send to bytes) (send_call 0 ((to, id) ∷ []) bytes)
    unfolding answer
    send_answered id to bytes fits reply is =
        let m = send_fits id to bytes fits in
        by_entry (Send to bytes) _ _ _ reply (ap (λ id. whats.Send 0 now.parcel_count ((place_outward cube.grant.sub to, id) ∷ []) bytes) m.renamed) refl is
        (sent to bytes m.block m.others now.parcel_count m.place m.store m.of_cube)

    same_call : (command : Command) (call call' : Call) → Some (cube_request call) ≡ Some (cube_request call') → IsAnswered command call → IsAnswered command call'
    same_call command call call' e is = let same : call ≡ call' = cc in subst (IsAnswered command) same is

    pub call_answered : (command : Command) (id : BlockId) (call : Call) → command_request id command ≡ Some (cube_request call) → IsAnswered command call
    call_answered (Spawn image to) id call e = same_call (Spawn image to) (spawn_call 0 image to) call e (spawn_answered image to)
    call_answered (Kill to) id call e = same_call (Kill to) (kill_call 0 to) call e (kill_answered to)
    call_answered (Send to bytes) id call e = same_call (Send to bytes) (send_call 0 ((to, id) ∷ []) bytes) call e (send_answered id to bytes)
    call_answered other id call e = absurd (cc)

  -- ---- by what is requested

  module _ (machine : IsMachine parts) (lawful : IsLawful parts history) where
    by_held : (command : Command) (id : BlockId) (call : Call) (what : What) (reply : Answer) (held : Option HeldCube) → command_request id command ≡ Some (cube_request call)
        → cube_held_by (after history) user ≡ held → IsSomeAnd held (IsCallOf parts history HOST call)
        → option_map (λ cube. answer (nodes_of cube.grant) (cube_standing (after history) cube) HOST (with_places_outward cube.grant call)) held ≡ Some what
        → entry_reply parts (after history) what ≡ Some reply → HasAnswer command reply what
    by_held command id call what reply None e is fits answered replied = absurd fits
    by_held command id call what reply (Some cube) e is fits answered replied =
        let same : answer (nodes_of cube.grant) (cube_standing (after history) cube) HOST (with_places_outward cube.grant call) ≡ what = cc in
        subst (λ what. HasAnswer command reply what) same
        (call_answered machine lawful cube is command id call e fits reply (ap (entry_reply parts (after history)) same ∙ replied))

    by_request : (command : Command) (id : BlockId) (request : Request) (what : What) (reply : Answer) → command_request id command ≡ Some request
        → IsMadeByRequest parts history user request what → entry_reply parts (after history) what ≡ Some reply
        → HasAnswer command reply what
    by_request command id (cube_request call) what reply e is replied = by_held command id call what reply (cube_held_by (after history) user) e refl is.fits.1 is.answer replied
    by_request command id (getcube dim) what reply e is replied =
        let same : whats.Getcube dim (first_free_subcube (is_free (after history)) parts.dim dim) ≡ what = some_what _ _ is.answer in
        subst (λ command. HasAnswer command reply what) (sym (asks_getcube command id dim e))
        (by_entry (Getcube dim) _ what _ reply same refl replied (granted dim (first_free_subcube (is_free (after history)) parts.dim dim) is.fits.1.2 refl))
    by_request command id peek what reply e is replied =
        subst (λ command. HasAnswer command reply what) (sym (asks_peek command id e))
        (by_entry Peek whats.Peek what _ reply (some_what _ _ is.answer) refl replied looked)
    by_request command id drain what reply e is replied = absurd (asks_no_drain command id e)
    by_request command id freecube what reply e is replied = absurd (asks_no_freecube command id e)

pub asked : RequestsAreNext
asked kind parts history user command id request what reply machine lawful = by_request kind parts history user machine lawful command id request what reply

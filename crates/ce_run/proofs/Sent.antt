-- A message that a user sends.
use Rattle.std.proofs.Common.{◌≡◌, ℕ, ◌+◌, ◌≤◌, true, List, [], ◌∷◌, ◌++◌, length, map, drop, slice_get, IsSomeAnd, Option, Some, None, refl, ap, sym, ◌∙◌, subst, arith, inr}
use Rattle.std.specs.Prelude.{◌↔◌, IsNone, IfNone}
use Rattle.ce_model.specs.declared.topology.TheConstants.{HOST}
use Rattle.ce_model.specs.declared.topology.BlockId.{BlockId}
use Rattle.ce_model.specs.declared.topology.Place.{Place}
use Rattle.ce_model.specs.declared.entry.Entry.{Entry}
use Rattle.ce_model.specs.declared.entry.What.{What}
use Rattle.ce_model.specs.declared.entry.What.TheVariants as whats
use Rattle.ce_model.specs.Limits.{block_room}
use Rattle.ce_model.specs.Blocks.{Block}
use Rattle.ce_model.specs.Parcels.{Item}
use Rattle.ce_model.specs.Node.{Call, send_call, is_place}
use Rattle.ce_model.specs.Answers.{answer}
use Rattle.ce_model.specs.Cube.{send_wish}
use Rattle.ce_model.specs.Renaming.{CubeGrant, block_outward, place_outward}
use Rattle.ce_model.specs.Machine.{IsFitting, after, what_of_request, cube_standing, cube_request}
use Rattle.ce_model.specs.Literals.{host_entry}
use Rattle.xm_block.specs.Stores.{ids_of}
use Rattle.rk_mail.specs.Targets.{targets_of, bytes_of, with_bytes}
use Rattle.rk_mail.specs.declared.talk.Hearing.{Hearing}
use Rattle.rk_mail.specs.declared.talk.Hearing.TheVariants.{Posted}
use Rattle.rk_mail.specs.declared.talk.Say.TheVariants as say
use Rattle.rk_node.specs.Boxes.{Box, IsCleanBox, home_of}
use Rattle.ce_host.specs.declared.host.Host.{Host}
use Rattle.ce_host.specs.Hosts.{message_for_place}
use Rattle.ce_host.specs.declared.command.Command.TheVariants.{Send}
use Rattle.ce_host.specs.declared.answer.Answer.TheVariants as answers
use Rattle.ce_machine.specs.Meanings.{MachineFacts}
use Rattle.ce_machine.specs.declared.call.Call.TheVariants as calls
use Rattle.ce_machine.specs.declared.call.Reply.{Reply}
use Rattle.ce_machine.specs.declared.call.Reply.TheVariants as replies
use Rattle.ce_machine.specs.Replies.{IsReplyTo, IsHearingReply, actor_items}
use Rattle.ce_cube.specs.Boxes.{trace_store}
use Rattle.ce_cube.specs.Crews.{IsLawfulMachine, IsHostInStep, IsCrewInStep, CrewFacts}
use Rattle.ce_daemon.specs.Peeks.{cube_grant}
use Rattle.ce_cube.proofs.Hosts.{hosts-fit, hosts-send}
use Rattle.ce_script.specs.Rounds.{RoundKind}
use Rattle.ce_record.specs.Requests.{entry_reply}
use Rattle.ce_record.specs.Run.{IsNextCommand}
use Rattle.ce_record.proofs.Moments.{map-none}
use Rattle.ce_record.proofs.Requests.{asked}
use Rattle.ce_record.proofs.AtOnce.{no_store}
use Rattle.ce_run.specs.UserStates.{HasDone, cube_crew}
use Rattle.ce_run.specs.Asking.{IsHostCall, HasHostCalled}
use Rattle.ce_run.proofs.StatesBehind.{answer-is, done-at-once, done-by, hearing-or}
use Rattle.ce_run.proofs.Looking.{gone-on-with}

-- the least block of a store goes out with the bytes
record IsMessage (to : Place) (bytes : List ℕ) (blocks : List Block) (batch : List (Place × Block)) : Type 0 where
  block : Block
  others : List Block
  blocks_are : blocks ≡ block ∷ others
  batch_is : batch ≡ (to, with_bytes bytes block) ∷ []

message : (to : Place) (bytes : List ℕ) (blocks : List Block) (batch : List (Place × Block)) → Some batch ≡ message_for_place to bytes blocks → IsMessage to bytes blocks batch
message to bytes [] batch e = absurd (cc)
message to bytes (block ∷ others) batch e =
    record { block = block; others = others; blocks_are = refl; batch_is = cc }

-- a store with the machine's names for its blocks has this first
record IsFirst (outward : BlockId → BlockId) (store : List BlockId) (first : BlockId) (others : List BlockId) : Type 0 where
  id : BlockId
  rest : List BlockId
  store_is : store ≡ id ∷ rest
  id_is : outward id ≡ first
  rest_is : map outward rest ≡ others

first-is : (outward : BlockId → BlockId) (store : List BlockId) (first : BlockId) (others : List BlockId) → first ∷ others ≡ map outward store
    → IsFirst outward store first others
first-is outward [] first others e = absurd (cc)
first-is outward (id ∷ rest) first others e = record {
  id = id;
  rest = rest;
  store_is = refl;
  id_is = ap {B = BlockId} (λ ids. elim ids [ [] ↦ first | x ∷ xs ↦ x ]) (sym e);
  rest_is = ap {B = List BlockId} (λ ids. elim ids [ [] ↦ others | x ∷ xs ↦ xs ]) (sym e);
}

-- where no batch comes, there is no block, and the host is what it was
pub none-left : (batch : Option (List (Place × Block))) (blocks : List Block) (host host' : Host) → ((some : List (Place × Block)) → batch ≡ Some some → ⊥)
    → IsNone batch ↔ (blocks ≡ []) → IfNone batch (host' ≡ host) → (blocks ≡ []) × (host' ≡ host)
none-left None blocks host host' not_some empty same = (empty.0 refl, same)
none-left (Some batch) blocks host host' not_some empty same = absurd (not_some batch refl)

-- ---- a send

module _ (before : MachineFacts) (crew : CrewFacts) (machine : IsLawfulMachine before) (step : IsCrewInStep before.parts before.history crew)
    (to : Place) (bytes : List ℕ) (place : is_place crew.grant.dim to ≡ true) where
  abbrev grant : CubeGrant
  grant = cube_grant crew.grant

  abbrev outward : BlockId → BlockId
  outward = block_outward grant

  abbrev store : List BlockId
  store = trace_store before.parts before.history crew.grant.number grant

  own-place : is_place step.held.cube.grant.dim to ≡ true
  own-place = ap (λ (g : CubeGrant). is_place g.dim to) step.held.grant_is ∙ place

  -- nothing is sent where the host has no block
  nothing-next : (kind : RoundKind) → crew.host.store.blocks ≡ [] → IsNextCommand kind before.parts before.history crew.grant.user (Send to bytes) answers.NoStore []
  nothing-next kind empty =
      let none : store ≡ [] = map-none outward store (sym step.host.blocks ∙ ap ids_of empty) in
      let own : trace_store before.parts before.history step.held.cube.number step.held.cube.grant ≡ store =
      λ i. trace_store before.parts before.history (step.held.number_is i) (step.held.grant_is i) in
      no_store kind before.parts before.history crew.grant.user step.held.cube step.held.held to bytes own-place (own ∙ none)

  pub nothing-done : (kind : RoundKind) (host : Host) → host ≡ crew.host → crew.host.store.blocks ≡ []
      → HasDone kind before before crew.grant.user (Send to bytes) answers.NoStore (cube_crew (record crew { host = host }))
  nothing-done kind host same empty =
      subst (λ host. HasDone kind before before crew.grant.user (Send to bytes) answers.NoStore (cube_crew (record crew { host = host }))) (sym same)
      (done-at-once kind before crew.grant.user (Send to bytes) answers.NoStore (cube_crew crew) machine (nothing-next kind empty) (refl, step))

  module _ (short : length bytes ≤ block_room) (batch : List (Place × Block)) (is : Some batch ≡ message_for_place to bytes crew.host.store.blocks) where
    abbrev goes : IsMessage to bytes crew.host.store.blocks batch
    goes = message to bytes crew.host.store.blocks batch is

    abbrev first : IsFirst outward store goes.block.id (ids_of goes.others)
    first = first-is outward store goes.block.id (ids_of goes.others) (ap ids_of (sym goes.blocks_are) ∙ step.host.blocks)

    abbrev call : Call
    call = send_call 0 ((to, goes.block.id) ∷ []) bytes

    call-is : send_call 0 (targets_of batch) (bytes_of batch) ≡ call
    call-is = ap (λ batch. send_call 0 (targets_of batch) (bytes_of batch)) goes.batch_is

    call-outward : send_call 0 ((to, outward first.id) ∷ []) bytes ≡ call
    call-outward = ap (λ id. send_call 0 ((to, id) ∷ []) bytes) first.id_is

    slot : slice_get store 0 ≡ Some first.id
    slot = ap (λ ids. slice_get ids 0) first.store_is

    fits : IsFitting before.parts before.history crew.grant.user HOST (cube_request call)
    fits =
        subst (λ call. IsFitting before.parts before.history crew.grant.user HOST (cube_request call)) call-outward
        (hosts-fit before.parts before.history crew.grant.number grant machine.within machine.lawful step.held (send_wish to bytes) (send_call 0 ((to, first.id) ∷ []) bytes)
        (rw (place, slot) refl) short)

    pub may-send : IsHostCall before.parts before.history crew.grant.user (calls.Say (say.Send 0 batch))
    may-send = record {
      inner = send_call 0 (targets_of batch) (bytes_of batch);
      is = refl;
      fits = subst (λ call. IsFitting before.parts before.history crew.grant.user HOST (cube_request call)) (sym call-is) fits;
    }

    module _ (behind : MachineFacts) (host : Host) (crew' : CrewFacts) (reply : Reply Box)
        (called : HasHostCalled before behind (record crew { host = host }) crew' (calls.Say (say.Send 0 batch)) reply) where
      answered-so : what_of_request before.parts (after before.history) crew.grant.user HOST (cube_request call) ≡ Some called.exchange.what
      answered-so = ap (λ call. what_of_request before.parts (after before.history) crew.grant.user HOST (cube_request call)) (sym call-is) ∙ called.exchange.answer

      abbrev sent : What
      sent = whats.Send 0 (cube_standing (after before.history) step.held.cube).parcel_count ((place_outward step.held.cube.grant.sub to, goes.block.id) ∷ []) bytes

      sent-is : sent ≡ called.exchange.what
      unfolding answer
      sent-is = answer-is before.parts (after before.history) crew.grant.user call called.exchange.what step.held.cube step.held.held answered-so

      abbrev items : List Item
      items = actor_items (after before.history) step.held.cube HOST

      heard-sent : IsHearingReply items sent reply
      heard-sent =
          subst (λ held. IsSomeAnd held (λ cube. IsHearingReply (actor_items (after before.history) cube HOST) sent reply)) step.held.held
          (subst (λ what. IsReplyTo home_of IsCleanBox before.parts (after before.history) crew.grant.user HOST what reply) (sym sent-is) called.exchange.reply_is)

      reply-by : (reply : Reply Box) → IsHearingReply items sent reply → reply ≡ replies.Heard (Posted [])
      reply-by (replies.Heard hearing) is = ap replies.Heard is
      reply-by other is = absurd is

      pub send-reply : reply ≡ replies.Heard (Posted [])
      send-reply = reply-by reply heard-sent

      -- its batch comes back empty
      pub heard-posted : (hearing : Hearing) → reply ≡ replies.Heard hearing → hearing ≡ Posted []
      heard-posted hearing e = ap (hearing-or hearing) (sym e ∙ send-reply)

      module _ (rest : host.store.blocks ≡ drop 1 crew.host.store.blocks) (room : host.store.spare ≡ crew.host.store.spare + 1)
          (other : Host) (regained : other ≡ record crew'.host { spare_batch = Some [] }) where
        abbrev entry : Entry
        entry = host_entry crew.grant.user sent

        history-is : behind.history ≡ before.history ++ entry ∷ []
        history-is = called.exchange.history ∙ ap (λ what. before.history ++ host_entry crew.grant.user what ∷ []) (sym sent-is)

        store-behind : trace_store before.parts behind.history crew.grant.number grant ≡ first.rest
        store-behind =
            ap (λ h. trace_store before.parts h crew.grant.number grant) history-is
            ∙ hosts-send before.parts before.history crew.grant.number grant machine.within machine.lawful step.held to first.id bytes entry slot place short
            (record {
              user = refl;
              actor_is = refl;
              what = ap (λ call. what_of_request before.parts (after before.history) crew.grant.user HOST (cube_request call)) call-outward ∙ answered-so ∙ ap Some (sym sent-is);
            })
            ∙ ap (drop 1) first.store_is

        host-is : other ≡ record host { spare_batch = Some [] }
        host-is = regained ∙ ap (λ (c : CrewFacts). record c.host { spare_batch = Some [] }) called.crew_is

        left : other.store.blocks ≡ goes.others
        left = ap (λ (h : Host). h.store.blocks) host-is ∙ rest ∙ ap (drop 1) goes.blocks_are

        stands : IsHostInStep before.parts behind.history crew.grant other
        stands = record {
          blocks = ap ids_of left ∙ sym first.rest_is ∙ ap (map outward) (sym store-behind);
          room =
              omega (
                arith,
                step.host.room,
                room,
                ap (λ (h : Host). h.store.spare) host-is,
                ap (λ (blocks : List Block). length blocks) left,
                ap (λ (blocks : List Block). length blocks) goes.blocks_are,
              );
          spare = ap (λ (h : Host). h.spare_batch) host-is;
        }

        pub sent-done : (kind : RoundKind) → HasDone kind before behind crew.grant.user (Send to bytes) answers.Ok (cube_crew (record crew' { host = other }))
        sent-done kind =
            done-by kind before behind (record crew { host = host }) (record crew' { host = other }) (host_entry crew.grant.user called.exchange.what ∷ []) (Send to bytes) answers.Ok
            (gone-on-with kind before behind (record crew { host = host }) crew' (calls.Say (say.Send 0 batch)) reply machine step.held may-send called other stands)
            (inr refl)
            (asked kind before.parts before.history crew.grant.user (Send to bytes) goes.block.id (cube_request call) called.exchange.what answers.Ok machine.within machine.lawful refl
            (record { fits = fits; answer = answered-so })
            (subst (λ what. entry_reply before.parts (after before.history) what ≡ Some answers.Ok) sent-is refl))

-- A host allows dispatches, looks, and takes messages.
use Rattle.std.proofs.Common.{◌≡◌, ℕ, ◌+◌, ◌-◌, ◌≤◌, List, [], ◌∷◌, ◌++◌, length, map, count_by, IsSomeAnd, Option, Some, None, refl, ap, sym, ◌∙◌, subst, inl, inr, arith}
use Rattle.std.proofs.lemmas.Bool.{cases_Bool}
use Rattle.std.proofs.lemmas.List.{length-map}
use Rattle.std.specs.Prelude.{Contains}
use Rattle.ce_model.specs.declared.topology.TheConstants.{HOST}
use Rattle.ce_model.specs.declared.topology.BlockId.{BlockId}
use Rattle.ce_model.specs.declared.entry.Entry.{Entry}
use Rattle.ce_model.specs.declared.entry.What.TheVariants.{Arm, Look, HostTake}
use Rattle.ce_model.specs.declared.entry.LookResult.{LookResult}
use Rattle.ce_model.specs.declared.entry.LookResult.TheVariants as look_result
use Rattle.ce_model.specs.Limits.{greatest_count, greatest_blocks}
use Rattle.ce_model.specs.Blocks.{Block, with_id, is_lower, is_same_id}
use Rattle.ce_model.specs.Parcels.{Item}
use Rattle.ce_model.specs.Node.{arm_call, look_call, mail_call}
use Rattle.ce_model.specs.Answers.{answer, is_quiet, is_used_up, look_result_where, first_number}
use Rattle.ce_model.specs.Cube.{parcel_numbered}
use Rattle.ce_model.specs.Renaming.{CubeGrant, block_outward}
use Rattle.ce_model.specs.Machine.{HasHeldCube, after, nodes_of, cube_standing}
use Rattle.ce_model.specs.Literals.{host_entry}
use Rattle.ce_solo.proofs.Counting.{count-is}
use Rattle.rk_node.proofs.Names.{not_contained}
use Rattle.xm_block.specs.Stores.{ids_of, with_block}
use Rattle.rk_node.specs.Boxes.{Box, IsCleanBox, home_of}
use Rattle.rk_mail.specs.Items.{parcel_of}
use Rattle.rk_mail.specs.declared.parcel.Parcel.{Parcel}
use Rattle.ce_host.specs.declared.host.Host.{Host}
use Rattle.ce_machine.specs.Meanings.{MachineFacts}
use Rattle.ce_machine.specs.declared.call.Call.{Call}
use Rattle.ce_machine.specs.declared.call.Call.TheVariants as calls
use Rattle.ce_machine.specs.declared.call.Reply.{Reply}
use Rattle.ce_machine.specs.declared.call.Reply.TheVariants as replies
use Rattle.ce_machine.specs.Replies.{IsReplyTo, IsMailReply, look_reply}
use Rattle.ce_cube.specs.Boxes.{IsHeldAs, IsAccepted, trace_store}
use Rattle.ce_cube.specs.Crews.{IsLawfulMachine, IsHostInStep, IsCrewInStep, HasCrewGoneOn, CrewFacts}
use Rattle.ce_daemon.specs.Peeks.{cube_grant}
use Rattle.ce_cube.proofs.Hosts.{hosts-take}
use Rattle.ce_script.specs.Rounds.{RoundKind}
use Rattle.ce_script.specs.Commands.{host_take}
use Rattle.ce_run.specs.Asking.{IsHostCall, HasHostCalled}
use Rattle.ce_run.specs.Rounds.{HasAllowed, HasLooked, HasTaken, HasTakenNone}
use Rattle.ce_run.proofs.StatesBehind.{IsKeepingStore, answer-is, gone-on, gone-on-kept, may-allow, may-look, may-take}

-- ---- with another host

-- a crew has another host, which is in step
pub gone-on-with : (kind : RoundKind) (before behind : MachineFacts) (crew crew' : CrewFacts) (call : Call Box) (reply : Reply Box) (machine : IsLawfulMachine before)
    (held : IsHeldAs before.history crew.grant.number (cube_grant crew.grant)) (host : IsHostCall before.parts before.history crew.grant.user call)
    (called : HasHostCalled before behind crew crew' call reply) (other : Host) → IsHostInStep before.parts behind.history crew.grant other
    → HasCrewGoneOn kind before behind crew (record crew' { host = other }) (host_entry crew.grant.user called.exchange.what ∷ [])
gone-on-with kind before behind crew crew' call reply machine held host called other stands =
    let goes = gone-on before behind (record crew { host = other }) (record crew' { host = other }) call reply machine held host
    (record {
      exchange = called.exchange;
      crew_is = ap (λ (c : CrewFacts). record c { host = other }) called.crew_is;
      nodes = record { held = called.nodes.held; boxes = called.nodes.boxes; entries = called.nodes.entries };
      trace = called.trace;
    })
    kind stands in
    record {
      all_entries = goes.all_entries;
      parts = goes.parts;
      history = goes.history;
      mix = goes.mix;
      lawful = goes.lawful;
      calls = goes.calls;
      grant = goes.grant;
      trace = goes.trace;
      in_step = goes.in_step;
    }

-- ---- lists of names

length-put : (id : BlockId) (ids : List BlockId) → length (with_id id ids) ≡ length ids + 1
length-put id [] = refl
length-put id (x ∷ xs) = elim (cases_Bool (is_lower id x)) [
  | inl t ↦ rw t (omega arith)
  | inr f ↦ rw f (let rest = length-put id xs in omega (arith, rest))
]

-- ---- what replies say

same-found : (a b : LookResult) → look_reply {N = Box} a ≡ look_reply b → a ≡ b
same-found a b e = sym (back a) ∙ ap found_in e ∙ back b
  where
    found_in : Reply Box → LookResult
    found_in replies.Quiet = look_result.Quiet
    found_in replies.Spent = look_result.Spent
    found_in other = look_result.Busy

    back : (a : LookResult) → found_in (look_reply a) ≡ a
    back look_result.Quiet = refl
    back look_result.Spent = refl
    back look_result.Busy = refl

one-found : (found : LookResult) (reply : Reply Box) → reply ≡ look_reply found → (reply ≡ replies.Quiet → ⊥) → (reply ≡ replies.Spent → ⊥) → (reply ≡ replies.Busy → ⊥) → ⊥
one-found look_result.Quiet reply is quiet spent busy = quiet is
one-found look_result.Spent reply is quiet spent busy = spent is
one-found look_result.Busy reply is quiet spent busy = busy is

mail-ends : (number : ℕ) (items : List Item) (reply : Reply Box) → IsMailReply number items reply → ((parcel : Parcel) → reply ≡ replies.Mail parcel → ⊥) → ⊥
mail-ends number items (replies.Mail parcel) is mail = mail parcel refl
mail-ends number items other is mail = absurd is

-- ---- it allows

module _ (before behind : MachineFacts) (crew crew' : CrewFacts) (machine : IsLawfulMachine before) (step : IsCrewInStep before.parts before.history crew) (reply : Reply Box) where
  pub allowed : (kind : RoundKind) (count : ℕ) (within : count ≤ greatest_count) → HasHostCalled before behind crew crew' (calls.Arm count) reply
      → HasAllowed kind before behind crew crew' count
  unfolding answer
  allowed kind count within called =
      let host = may-allow before.parts before.history crew machine.within machine.lawful step.held count within in
      let is : Arm count ≡ called.exchange.what = answer-is before.parts (after before.history) crew.grant.user (arm_call count) called.exchange.what step.held.cube step.held.held called.exchange.answer in
      subst (λ what. HasCrewGoneOn kind before behind crew crew' (host_entry crew.grant.user what ∷ [])) (sym is)
      (gone-on-kept before behind crew crew' (calls.Arm count) reply machine step.held host called kind step.host (subst IsKeepingStore is tt))

  -- ---- it looks

  module _ (called : HasHostCalled before behind crew crew' calls.Look reply) where
    abbrev found_now : LookResult
    found_now =
        let standing = cube_standing (after before.history) step.held.cube in
        look_result_where (is_quiet (nodes_of step.held.cube.grant) standing) (is_used_up standing)

    look-is : Look found_now ≡ called.exchange.what
    unfolding answer
    look-is = answer-is before.parts (after before.history) crew.grant.user look_call called.exchange.what step.held.cube step.held.held called.exchange.answer

    pub look-reply : reply ≡ look_reply found_now
    look-reply =
        subst (λ what. IsReplyTo home_of IsCleanBox before.parts (after before.history) crew.grant.user HOST what reply) (sym look-is) called.exchange.reply_is

    looked-now : (kind : RoundKind) → HasLooked kind before behind crew crew' found_now
    looked-now kind =
        let host = may-look before.parts before.history crew machine.within machine.lawful step.held in
        record {
          goes_on = subst (λ what. HasCrewGoneOn kind before behind crew crew' (host_entry crew.grant.user what ∷ [])) (sym look-is)
              (gone-on-kept before behind crew crew' calls.Look reply machine step.held host called kind step.host (subst IsKeepingStore look-is tt));
          made = record { user = refl; actor_is = refl; what = called.exchange.answer ∙ ap Some (sym look-is) };
        }

    pub looked : (kind : RoundKind) (found : LookResult) → reply ≡ look_reply found → HasLooked kind before behind crew crew' found
    looked kind found is = subst (HasLooked kind before behind crew crew') (same-found found_now found (sym look-reply ∙ is)) (looked-now kind)

    pub look-ends : (reply ≡ replies.Quiet → ⊥) → (reply ≡ replies.Spent → ⊥) → (reply ≡ replies.Busy → ⊥) → ⊥
    look-ends = one-found found_now reply look-reply

  -- ---- it takes a message

  module _ (called : HasHostCalled before behind crew crew' calls.HostTake reply) where
    abbrev items : List Item
    items = step.held.cube.mail

    abbrev take_host : IsHostCall before.parts before.history crew.grant.user calls.HostTake
    take_host = may-take before.parts before.history crew machine.within machine.lawful step.held

    take-is : HostTake (first_number items) ≡ called.exchange.what
    unfolding answer
    take-is = answer-is before.parts (after before.history) crew.grant.user mail_call called.exchange.what step.held.cube step.held.held called.exchange.answer

    take-reply : IsReplyTo home_of IsCleanBox before.parts (after before.history) crew.grant.user HOST (HostTake (first_number items)) reply
    take-reply = subst (λ what. IsReplyTo home_of IsCleanBox before.parts (after before.history) crew.grant.user HOST what reply) (sym take-is) called.exchange.reply_is

    -- what a take was answered, by the number of the message, if any
    abbrev IsTakeReply : Option ℕ → Type 0
    IsTakeReply None = reply ≡ replies.NoMail
    IsTakeReply (Some number) = IsMailReply number items reply

    take-reply-is : (number : Option ℕ) → IsReplyTo home_of IsCleanBox before.parts (after before.history) crew.grant.user HOST (HostTake number) reply → IsTakeReply number
    take-reply-is None is = is
    take-reply-is (Some number) is = subst (λ held. IsSomeAnd held (λ cube. IsMailReply number cube.mail reply)) step.held.held is

    taken-none : (kind : RoundKind) (number : Option ℕ) → HostTake number ≡ called.exchange.what → IsTakeReply number → reply ≡ replies.NoMail
        → HasTakenNone kind before behind crew crew'
    taken-none kind None what is none =
        subst (λ what. HasCrewGoneOn kind before behind crew crew' (host_entry crew.grant.user what ∷ [])) (sym what)
        (gone-on-kept before behind crew crew' calls.HostTake reply machine step.held take_host called kind step.host (subst IsKeepingStore what tt))
    taken-none kind (Some number) what is none = absurd (subst (IsMailReply number items) none is)

    pub no-message : (kind : RoundKind) → reply ≡ replies.NoMail → HasTakenNone kind before behind crew crew'
    no-message kind none = taken-none kind (first_number items) take-is (take-reply-is (first_number items) take-reply) none

    reply-ends : (number : Option ℕ) → IsTakeReply number → (reply ≡ replies.NoMail → ⊥) → ((parcel : Parcel) → reply ≡ replies.Mail parcel → ⊥) → ⊥
    reply-ends None is none mail = none is
    reply-ends (Some number) is none mail = mail-ends number items reply is mail

    pub take-ends : (reply ≡ replies.NoMail → ⊥) → ((parcel : Parcel) → reply ≡ replies.Mail parcel → ⊥) → ⊥
    take-ends = reply-ends (first_number items) (take-reply-is (first_number items) take-reply)

    -- ---- with a message

    -- the message of this number is the first that waited
    record HasMail (parcel : Parcel) : Type 0 where
      number : ℕ
      what : HostTake (Some number) ≡ called.exchange.what
      waits : parcel_numbered number items ≡ Some (parcel_of parcel)

    mail-by : (number : Option ℕ) → HostTake number ≡ called.exchange.what → IsTakeReply number → (parcel : Parcel) → reply ≡ replies.Mail parcel → HasMail parcel
    mail-by None what is parcel mail = let differ : replies.NoMail ≡ replies.Mail parcel = sym is ∙ mail in absurd (cc)
    mail-by (Some number) what is parcel mail = record { number = number; what = what; waits = subst (IsMailReply number items) mail is }

    module _ (parcel : Parcel) (mail : reply ≡ replies.Mail parcel) where
      abbrev has : HasMail parcel
      has = mail-by (first_number items) take-is (take-reply-is (first_number items) take-reply) parcel mail

      waited : HasHeldCube before.history crew.grant.user (λ cube. parcel_numbered has.number cube.mail ≡ Some (parcel_of parcel))
      waited = subst (λ held. IsSomeAnd held (λ cube. parcel_numbered has.number cube.mail ≡ Some (parcel_of parcel))) (sym step.held.held) has.waits

      abbrev entry : Entry
      entry = host_take crew.grant.user (Some has.number)

      accepted : IsAccepted before.parts before.history crew.grant.number (cube_grant crew.grant) entry (parcel_of parcel)
      accepted =
          hosts-take before.parts before.history crew.grant.number (cube_grant crew.grant) machine.within machine.lawful step.held has.number (parcel_of parcel) entry
          (record { user = refl; actor_is = refl; what = called.exchange.answer ∙ ap Some (sym has.what) }) refl waited

      abbrev outward : BlockId → BlockId
      outward = block_outward (cube_grant crew.grant)

      host-same : crew'.host ≡ crew.host
      host-same = ap (λ (c : CrewFacts). c.host) called.crew_is

      names : ids_of crew'.host.store.blocks ≡ map outward (trace_store before.parts before.history crew.grant.number (cube_grant crew.grant))
      names = ap (λ (host : Host). ids_of host.store.blocks) host-same ∙ step.host.blocks

      full : crew'.host.store.spare + length crew'.host.store.blocks ≡ greatest_blocks
      full = ap (λ (host : Host). host.store.spare + length host.store.blocks) host-same ∙ step.host.room

      pub accept-room : 1 ≤ crew'.host.store.spare
      accept-room =
          omega (
            arith,
            full,
            accepted.room,
            ap (λ (ids : List BlockId). length ids) names,
            length-map crew'.host.store.blocks (λ (block : Block). block.id),
            length-map (trace_store before.parts before.history crew.grant.number (cube_grant crew.grant)) outward,
          )

      pub accept-apart : Contains (ids_of crew'.host.store.blocks) parcel.block.id → ⊥
      accept-apart =
          not_contained parcel.block.id (ids_of crew'.host.store.blocks)
          (sym (count-is parcel.block.id (ids_of crew'.host.store.blocks)) ∙ ap (count_by (is_same_id parcel.block.id)) names ∙ accepted.new)

      module _ (other : Host) (stored : other ≡ record crew'.host { store = record { blocks = with_block parcel.block crew'.host.store.blocks; spare = crew'.host.store.spare - 1 } })
          (ids : ids_of other.store.blocks ≡ with_id parcel.block.id (ids_of crew'.host.store.blocks)) where
        abbrev number : ℕ
        number = has.number

        abbrev grant : CubeGrant
        grant = cube_grant crew.grant

        history-is : behind.history ≡ before.history ++ entry ∷ []
        history-is = called.exchange.history ∙ ap (λ what. before.history ++ host_entry crew.grant.user what ∷ []) (sym has.what)

        stands : IsHostInStep before.parts behind.history crew.grant other
        stands = record {
          blocks = ids ∙ ap (with_id parcel.block.id) names ∙ sym accepted.stored
              ∙ ap (λ h. map outward (trace_store before.parts h crew.grant.number grant)) (sym history-is);
          room =
              omega (
                arith,
                full,
                accept-room,
                ap (λ (host : Host). host.store.spare) stored,
                ap (λ (some : List BlockId). length some) ids,
                length-put parcel.block.id (ids_of crew'.host.store.blocks),
                length-map other.store.blocks (λ (block : Block). block.id),
                length-map crew'.host.store.blocks (λ (block : Block). block.id),
              );
          spare = ap (λ (host : Host). host.spare_batch) (stored ∙ host-spare) ∙ step.host.spare;
        }
          where
            host-spare : record crew'.host { store = record { blocks = with_block parcel.block crew'.host.store.blocks; spare = crew'.host.store.spare - 1 } }
                ≡ record crew.host { store = record { blocks = with_block parcel.block crew'.host.store.blocks; spare = crew'.host.store.spare - 1 } }
            host-spare = ap (λ (host : Host). record host { store = record { blocks = with_block parcel.block crew'.host.store.blocks; spare = crew'.host.store.spare - 1 } }) host-same

        pub message-taken : (kind : RoundKind) (bytes : List ℕ) → bytes ≡ parcel.block.bytes
            → HasTaken kind before behind crew (record crew' { host = other }) parcel.from bytes
        message-taken kind bytes is = record {
          number = number;
          parcel = parcel_of parcel;
          goes_on = subst (λ what. HasCrewGoneOn kind before behind crew (record crew' { host = other }) (host_entry crew.grant.user what ∷ [])) (sym has.what)
              (gone-on-with kind before behind crew crew' calls.HostTake reply machine step.held take_host called other stands);
          waited = waited;
          from_is = refl;
          bytes_are = sym is;
        }

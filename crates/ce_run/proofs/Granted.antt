-- A cube that a user asks for.
use Rattle.std.proofs.Common.{◌≡◌, ℕ, ◌≤◌, List, [], ◌∷◌, ◌++◌, Option, Some, None, refl, ap, sym, ◌∙◌, subst, inl}
use Rattle.std.specs.Global.{Vec}
use Rattle.ce_model.specs.declared.topology.TheConstants.{HOST}
use Rattle.ce_model.specs.declared.topology.Subcube.{Subcube}
use Rattle.ce_model.specs.declared.entry.Entry.{Entry}
use Rattle.ce_model.specs.declared.entry.What.TheVariants as whats
use Rattle.ce_model.specs.Limits.{greatest_dim}
use Rattle.ce_model.specs.Subcubes.{first_free_subcube}
use Rattle.ce_model.specs.Views.{view}
use Rattle.ce_model.specs.Machine.{MachineState, after, cube_held_by, is_free, getcube, what_of_request, IsFitting}
use Rattle.ce_model.specs.Literals.{host_entry}
use Rattle.ce_solo.proofs.Projection.Law.{after-more}
use Rattle.ce_daemon.specs.declared.grant.Grant.{Grant}
use Rattle.ce_daemon.specs.Boxes.{AreGrantBoxes}
use Rattle.rk_node.specs.Boxes.{Box, IsCleanBox, home_of}
use Rattle.ce_host.specs.declared.host.Host.{Host}
use Rattle.ce_host.specs.declared.command.Command.TheVariants.{Getcube}
use Rattle.ce_host.specs.declared.answer.Answer.{Answer}
use Rattle.ce_host.specs.declared.answer.Answer.TheVariants as answers
use Rattle.ce_machine.specs.Meanings.{MachineFacts}
use Rattle.ce_machine.specs.declared.call.Call.TheVariants as calls
use Rattle.ce_machine.specs.declared.call.Reply.{Reply}
use Rattle.ce_machine.specs.declared.call.Reply.TheVariants as replies
use Rattle.ce_machine.specs.Requests.{IsFittingCall}
use Rattle.ce_machine.specs.Replies.{IsReplyTo, IsGrantReply, IsReplyWithGrant}
use Rattle.ce_daemon.specs.Holding.{next_grant}
use Rattle.ce_cube.specs.Boxes.{IsHeldAs, IsBegun}
use Rattle.ce_cube.specs.Crews.{IsCrewInStep, IsHostAtHome, CrewFacts}
use Rattle.ce_daemon.specs.Peeks.{cube_grant}
use Rattle.ce_cube.proofs.Begun.{grants-begin}
use Rattle.ce_cube.proofs.Fronts.{mix-own}
use Rattle.ce_script.specs.Rounds.{RoundKind}
use Rattle.ce_script.specs.Commands.{getcube_reply}
use Rattle.ce_record.proofs.Requests.{asked}
use Rattle.ce_run.specs.UserStates.{HasUser, HasDone, IsUserAt, home_host, cube_crew, UserFacts}
use Rattle.ce_run.specs.Asking.{HasAsked}
use Rattle.ce_run.proofs.Peeking.{same-what}

module _ (before : MachineFacts) (user dim : ℕ) (has : HasUser before user) (free : cube_held_by (after before.history) user ≡ None) (within : dim ≤ greatest_dim) where
  abbrev state : MachineState
  state = after before.history

  fits : IsFitting before.parts before.history user HOST (getcube dim)
  fits = (has.within, (refl, within, free))

  pub getcube-fits : IsFittingCall home_of IsCleanBox before.parts before.history (record { family = user; actor = HOST }) (calls.Getcube dim)
  getcube-fits = record { machine = has.sound.within; fits = fits; boxes = tt }

  module _ (behind : MachineFacts) (reply : Reply Box) (asks : HasAsked before behind user (calls.Getcube dim) reply) where
    abbrev found_now : Option Subcube
    found_now = first_free_subcube (is_free state) before.parts.dim dim

    what-now : whats.Getcube dim found_now ≡ asks.what
    what-now = same-what (whats.Getcube dim found_now) asks.what asks.answer

    reply-now : IsGrantReply home_of IsCleanBox state user dim found_now reply
    reply-now = subst (λ what. IsReplyTo home_of IsCleanBox before.parts state user HOST what reply) (sym what-now) asks.reply_is

    -- the command is done by the entry of this subcube
    module _ (sub : Option Subcube) (what : whats.Getcube dim sub ≡ asks.what) where
      abbrev made : Entry
      made = host_entry user (whats.Getcube dim sub)

      history-is : behind.history ≡ before.history ++ made ∷ []
      history-is = asks.history ∙ ap (λ what. before.history ++ host_entry user what ∷ []) (sym what)

      answer-is : what_of_request before.parts state user HOST (getcube dim) ≡ Some (whats.Getcube dim sub)
      answer-is = asks.answer ∙ ap Some (sym what)

      done-so : (kind : RoundKind) (answer : Answer) (facts : UserFacts) → getcube_reply sub ≡ answer → IsUserAt before.parts behind.history user facts
          → HasDone kind before behind user (Getcube dim) answer facts
      done-so kind answer facts is state_is = record {
        all_entries = made ∷ [];
        new_entries = made ∷ [];
        parts = asks.parts;
        history = history-is;
        mix = mix-own kind user (made ∷ []) (refl, tt);
        whole = inl refl;
        lawful = asks.lawful;
        next = asked kind before.parts before.history user (Getcube dim) (record { home = 0; index = 0 }) (getcube dim) (whats.Getcube dim sub) answer
            has.sound.within has.sound.lawful refl (record { fits = fits; answer = answer-is }) (ap Some is);
        state_is = state_is;
      }

    -- ---- none is free

    none-by : (kind : RoundKind) (sub : Option Subcube) → whats.Getcube dim sub ≡ asks.what → IsGrantReply home_of IsCleanBox state user dim sub reply → reply ≡ replies.NoneFree
        → (host : Host) → IsHostAtHome user host → HasDone kind before behind user (Getcube dim) answers.None (home_host host)
    none-by kind None what is none host home =
        done-so None what kind answers.None (home_host host) refl (
          ap (λ h. cube_held_by (after h) user) (history-is None what)
              ∙ ap (λ (state : MachineState). cube_held_by state user) (after-more before.history (host_entry user (whats.Getcube dim None))) ∙ free,
          home,
        )
    none-by kind (Some sub) what is none host home = absurd (subst (IsReplyWithGrant home_of IsCleanBox (next_grant state.grant_count user dim sub)) none is)

    pub none-done : (kind : RoundKind) → reply ≡ replies.NoneFree → (host : Host) → IsHostAtHome user host → HasDone kind before behind user (Getcube dim) answers.None (home_host host)
    none-done kind = none-by kind found_now what-now reply-now

    granted-ends : (grant : Grant) (reply : Reply Box) → IsReplyWithGrant home_of IsCleanBox grant reply
        → ((given : Grant) (boxes : Vec Box) → reply ≡ replies.Granted given boxes → ⊥) → ⊥
    granted-ends grant (replies.Granted given boxes) is other = other given boxes refl
    granted-ends grant another is other = absurd is

    ends-by : (sub : Option Subcube) → IsGrantReply home_of IsCleanBox state user dim sub reply → (reply ≡ replies.NoneFree → ⊥)
        → ((given : Grant) (boxes : Vec Box) → reply ≡ replies.Granted given boxes → ⊥) → ⊥
    ends-by None is none other = none is
    ends-by (Some sub) is none other = granted-ends (next_grant state.grant_count user dim sub) reply is other

    pub getcube-ends : (reply ≡ replies.NoneFree → ⊥) → ((given : Grant) (boxes : Vec Box) → reply ≡ replies.Granted given boxes → ⊥) → ⊥
    getcube-ends = ends-by found_now reply-now

    -- ---- one is granted

    -- the grant is the next one of this subcube, and these are its boxes
    record IsGrantedSo (grant : Grant) (boxes : List Box) : Type 0 where
      sub : Subcube
      what : whats.Getcube dim (Some sub) ≡ asks.what
      grant_is : grant ≡ next_grant state.grant_count user dim sub
      boxes_are : AreGrantBoxes home_of IsCleanBox grant boxes

    granted-by : (sub : Option Subcube) → whats.Getcube dim sub ≡ asks.what → IsGrantReply home_of IsCleanBox state user dim sub reply
        → (grant : Grant) (boxes : Vec Box) → reply ≡ replies.Granted grant boxes → IsGrantedSo grant boxes.items
    granted-by None what is grant boxes granted = let differ : replies.NoneFree ≡ replies.Granted grant boxes = sym is ∙ granted in absurd (cc)
    granted-by (Some sub) what is grant boxes granted =
        let both = subst (IsReplyWithGrant home_of IsCleanBox (next_grant state.grant_count user dim sub)) granted is in
        record { sub = sub; what = what; grant_is = both.0; boxes_are = subst (λ g. AreGrantBoxes home_of IsCleanBox g boxes.items) (sym both.0) both.1 }

    module _ (grant : Grant) (boxes : Vec Box) (granted : reply ≡ replies.Granted grant boxes) where
      abbrev so : IsGrantedSo grant boxes.items
      so = granted-by found_now what-now reply-now grant boxes granted

      pub boxes-are : AreGrantBoxes home_of IsCleanBox grant boxes.items
      boxes-are = so.boxes_are

      pub user-is : grant.user ≡ user
      user-is = ap (λ (g : Grant). g.user) so.grant_is

      pub dim-within : grant.dim ≤ greatest_dim
      dim-within = subst (λ (g : Grant). g.dim ≤ greatest_dim) (sym so.grant_is) within

      pub host-home : (host : Host) → IsHostAtHome user host → IsHostAtHome grant.user host
      host-home host home = subst (λ user. IsHostAtHome user host) (sym user-is) home

      begun : IsBegun before.parts before.history (record { user = user; dim = dim; sub = so.sub })
      begun =
          grants-begin before.parts before.history (record { user = user; dim = dim; sub = so.sub }) has.sound.within has.sound.lawful fits
          (answer-is (Some so.sub) so.what)

      -- a crew that is in step wherever its cube has just begun is in step behind the entry
      pub granted-done : (kind : RoundKind) (crew : CrewFacts) → crew.grant ≡ grant
          → (IsHeldAs behind.history grant.number (cube_grant grant) → view behind.history grant.number ≡ [] → IsCrewInStep before.parts behind.history crew)
          → HasDone kind before behind user (Getcube dim) (answers.Granted grant.sub) (cube_crew crew)
      granted-done kind crew same in_step =
          let back = sym (history-is (Some so.sub) so.what) in
          let held : IsHeldAs behind.history grant.number (cube_grant grant) =
          subst (λ (g : Grant). IsHeldAs behind.history g.number (cube_grant g)) (sym so.grant_is)
          (subst (λ h. IsHeldAs h state.grant_count (record { user = user; dim = dim; sub = so.sub })) back begun.held) in
          let trace : view behind.history grant.number ≡ [] =
          ap (λ (g : Grant). view behind.history g.number) so.grant_is ∙ ap (λ h. view h state.grant_count) (sym back) ∙ begun.trace in
          done-so (Some so.sub) so.what kind (answers.Granted grant.sub) (cube_crew crew) (ap (λ (g : Grant). answers.Granted g.sub) (sym so.grant_is))
          (ap (λ (g : Grant). g.user) same ∙ user-is, in_step held trace)

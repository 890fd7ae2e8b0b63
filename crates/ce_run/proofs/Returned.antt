-- A cube that its user gives back.
use Rattle.std.proofs.Common.{◌≡◌, ℕ, ◌^◌, ◌<◌, true, false, List, [], ◌∷◌, ◌++◌, map, flat_map, IsSomeAnd, Option, Some, None, refl, ap, sym, ◌∙◌, subst, append_assoc, inl}
use Rattle.std.specs.Global.{Vec}
use Rattle.ce_model.specs.declared.topology.TheConstants.{HOST}
use Rattle.ce_model.specs.declared.topology.BlockId.{BlockId}
use Rattle.ce_model.specs.declared.entry.What.TheVariants as whats
use Rattle.ce_model.specs.Limits.{greatest_dim}
use Rattle.ce_model.specs.Blocks.{Block}
use Rattle.ce_model.specs.Parcels.{Parcel}
use Rattle.ce_model.specs.Node.{Node, blocks_of}
use Rattle.ce_model.specs.Saying.{says}
use Rattle.ce_model.specs.Cube.{node_numbers}
use Rattle.ce_model.specs.Subcubes.{IsSubcube, node_of}
use Rattle.ce_model.specs.Renaming.{CubeGrant, block_outward}
use Rattle.ce_model.specs.Machine.{MachineState, IsMachine, IsLawful, HeldCube, after, cube_held_by, all_parcels, IsFitting, freecube}
use Rattle.ce_model.specs.Literals.{host_entry}
use Rattle.ce_solo.proofs.Projection.Law.{after-more}
use Rattle.ce_solo.proofs.Projection.Held.{held-own, left-own}
use Rattle.ce_daemon.specs.Boxes.{AreGrantBoxes}
use Rattle.ce_daemon.specs.Peeks.{numbered_grant, cube_grant}
use Rattle.xm_block.specs.Stores.{ids_of}
use Rattle.rk_node.specs.Boxes.{Box, IsCleanBox, home_of}
use Rattle.ce_host.specs.declared.host.Host.{Host}
use Rattle.ce_host.specs.declared.command.Command.TheVariants.{Freecube}
use Rattle.ce_host.specs.declared.answer.Answer.TheVariants.{Freed}
use Rattle.ce_machine.specs.Meanings.{MachineFacts}
use Rattle.ce_machine.specs.declared.call.Call.TheVariants as calls
use Rattle.ce_machine.specs.declared.call.Reply.{Reply}
use Rattle.ce_machine.specs.declared.call.Reply.TheVariants as replies
use Rattle.ce_machine.specs.Requests.{IsFittingCall}
use Rattle.ce_machine.specs.Replies.{IsReplyTo, OfHeldCube, IsDrainReply}
use Rattle.ce_cube.specs.Boxes.{trace_node, trace_store}
use Rattle.ce_cube.specs.Crews.{IsLawfulMachine, IsCrewInStep, HasAllBlocks, AreAllHome, box_at, CrewFacts}
use Rattle.ce_cube.specs.Rehoming.{AreAllBlocks, names_in_cube}
use Rattle.ce_cube.proofs.Held.{by_seen, placed-of}
use Rattle.ce_cube.proofs.Fronts.{mix-own}
use Rattle.ce_cube.proofs.Seats.{node-said}
use Rattle.ce_cube.proofs.Hosts.{drains-fit-held}
use Rattle.ce_cube.proofs.Returns.{placed-sub}
use Rattle.ce_cube.proofs.Whole.{blocks-are-whole}
use Rattle.ce_script.specs.Rounds.{RoundKind}
use Rattle.ce_script.specs.Commands.{freecube_entries}
use Rattle.ce_record.proofs.AtOnce as at_once
use Rattle.ce_run.specs.UserStates.{HasUser, HasDone, home_host}
use Rattle.ce_run.specs.Asking.{HasAsked, HasCube, HasDrained}
use Rattle.ce_run.proofs.Peeking.{same-what}

-- ---- what waits is taken away

module _ (before : MachineFacts) (user : ℕ) (has : HasUser before user) (holds : HasCube before.history user) where
  pub drain-fits : IsFittingCall home_of IsCleanBox before.parts before.history (record { family = user; actor = HOST }) calls.Drain
  drain-fits = record { machine = has.sound.within; fits = (has.within, (refl, holds)); boxes = tt }

  module _ (behind : MachineFacts) (reply : Reply Box) (asks : HasAsked before behind user calls.Drain reply) where
    drain-is : whats.Drain ≡ asks.what
    drain-is = same-what whats.Drain asks.what asks.answer

    drain-reply : OfHeldCube (after before.history) user (λ cube. IsDrainReply (all_parcels (after before.history) cube) reply)
    drain-reply = subst (λ what. IsReplyTo home_of IsCleanBox before.parts (after before.history) user HOST what reply) (sym drain-is) asks.reply_is

    pub drained-so : (blocks : Vec Block) → reply ≡ replies.Drained blocks → HasDrained before behind user blocks.items
    drained-so blocks is = record {
      parts = asks.parts;
      history = asks.history ∙ ap (λ what. before.history ++ host_entry user what ∷ []) (sym drain-is);
      lawful = asks.lawful;
      blocks_are = subst (λ reply. OfHeldCube (after before.history) user (λ cube. IsDrainReply (all_parcels (after before.history) cube) reply)) is drain-reply;
    }

    drained-by : (parcels : List Parcel) (reply : Reply Box) → IsDrainReply parcels reply → ((blocks : Vec Block) → reply ≡ replies.Drained blocks → ⊥) → ⊥
    drained-by parcels (replies.Drained blocks) is other = other blocks refl
    drained-by parcels another is other = absurd is

    ends-by : (held : Option HeldCube) → IsSomeAnd held (λ cube. IsDrainReply (all_parcels (after before.history) cube) reply)
        → ((blocks : Vec Block) → reply ≡ replies.Drained blocks → ⊥) → ⊥
    ends-by None is other = is
    ends-by (Some cube) is other = drained-by (all_parcels (after before.history) cube) reply is other

    pub drain-ends : ((blocks : Vec Block) → reply ≡ replies.Drained blocks → ⊥) → ⊥
    drain-ends = ends-by (cube_held_by (after before.history) user) drain-reply

-- ---- all blocks are there

map-twice : {X Y Z : Type 0} (f : X → Y) (g : Y → Z) (xs : List X) → map g (map f xs) ≡ map (λ x. g (f x)) xs
map-twice f g [] = refl
map-twice f g (x ∷ xs) = ap (λ rest. g (f x) ∷ rest) (map-twice f g xs)

module _ (before : MachineFacts) (crew : CrewFacts) (has : HasUser before crew.grant.user) (step : IsCrewInStep before.parts before.history crew) where
  abbrev grant : CubeGrant
  grant = cube_grant crew.grant

  pub has-cube : HasCube before.history crew.grant.user
  has-cube = subst (λ held. IsSomeAnd held (λ cube. cube.is_drained ≡ false)) (sym step.held.held) step.held.goes_on

  sub-of : IsSubcube greatest_dim grant.dim grant.sub
  sub-of =
      placed-sub before.parts.dim grant (placed-of before.parts before.history crew.grant.number grant has.sound.within has.sound.lawful step.held)

  said-home : (r : ℕ) → r < 2 ^ grant.dim → (says (trace_node before.parts before.history crew.grant.number grant r)).node.home ≡ r
  said-home r below =
      by_seen (λ number grant. r < 2 ^ grant.dim → (says (trace_node before.parts before.history number grant r)).node.home ≡ r)
      before.parts before.history crew.grant.number grant has.sound.within has.sound.lawful
      (λ cube now below. (node-said before.parts before.history cube now r below).became.home ∙ (now.stands.sound.nodes r below).home) step.held below

  module _ (behind : MachineFacts) (drained : List Block) (is : HasDrained before behind crew.grant.user drained) where
    abbrev waiting : List Parcel
    waiting = all_parcels (after before.history) step.held.cube

    drained-is : drained ≡ map (λ parcel. parcel.block) waiting
    drained-is = subst (λ held. IsSomeAnd held (λ cube. drained ≡ map (λ parcel. parcel.block) (all_parcels (after before.history) cube))) step.held.held is.blocks_are

    whole : AreAllBlocks grant (names_in_cube grant (λ r. (box_at crew.boxes r).node) waiting
        (map (block_outward grant) (trace_store before.parts before.history crew.grant.number grant)))
    whole =
        subst
        (λ held. IsSomeAnd held (λ cube. AreAllBlocks grant (names_in_cube grant (λ r. (box_at crew.boxes r).node) (all_parcels (after before.history) cube)
        (map (block_outward grant) (trace_store before.parts before.history crew.grant.number grant))))) step.held.held
        (blocks-are-whole before.parts before.history crew.grant.number grant has.sound.within has.sound.lawful step.held
        (λ r. (box_at crew.boxes r).node) step.boxes.in_step)

    drained-names : map (λ parcel. parcel.block.id) waiting ≡ map (λ block. block.id) drained
    drained-names = sym (ap (map (λ (block : Block). block.id)) drained-is ∙ map-twice (λ (parcel : Parcel). parcel.block) (λ (block : Block). block.id) waiting)

    pub all-there : HasAllBlocks grant crew.boxes crew.host drained
    all-there = record {
      sub = sub-of;
      all = step.boxes.all;
      ready = step.boxes.ready;
      homes = λ r below. ap (λ (node : Node). node.home) (step.boxes.in_step r below).at_rest ∙ ap (node_of grant.sub) (said-home r below);
      blocks =
          let at : List BlockId = flat_map (λ r. blocks_of (box_at crew.boxes r).node) (node_numbers grant.dim) in
          subst (λ drained. AreAllBlocks grant (at ++ (drained ++ ids_of crew.host.store.blocks))) drained-names
          (subst (λ store. AreAllBlocks grant (at ++ (map (λ parcel. parcel.block.id) waiting ++ store))) (sym step.host.blocks) whole);
      room = step.host.room;
      spare = step.host.spare;
    }

    -- ---- and it is given back

    drained-held : cube_held_by (after behind.history) crew.grant.user ≡ Some (record step.held.cube { is_drained = true; mail = [] })
    drained-held =
        ap (λ h. cube_held_by (after h) crew.grant.user) is.history
        ∙ ap (λ (state : MachineState). cube_held_by state crew.grant.user) (after-more before.history (host_entry crew.grant.user whats.Drain))
        ∙ held-own crew.grant.user (λ one. record one { is_drained = true; mail = [] }) (λ one. refl) (λ one node kept. record kept { waiting_items = [] })
        (after before.history) step.held.cube step.held.held

    free-fits : IsFitting before.parts behind.history crew.grant.user HOST freecube
    free-fits =
        subst (λ h. IsFitting before.parts h crew.grant.user HOST freecube) (sym is.history)
        (drains-fit-held before.parts before.history crew.grant.number grant has.sound.within has.sound.lawful step.held).2

    pub sound-behind : IsLawfulMachine behind
    sound-behind = record {
      within = subst IsMachine (sym is.parts) has.sound.within;
      lawful = subst (λ parts. IsLawful parts behind.history) (sym is.parts) is.lawful;
    }

    module _ (boxes : Vec Box) (host : Host) (home : AreAllHome grant boxes.items host) where
      own-boxes : AreGrantBoxes home_of IsCleanBox (numbered_grant (step.held.cube.number, step.held.cube.grant)) boxes.items
      own-boxes =
          subst (λ (g : CubeGrant). AreGrantBoxes home_of IsCleanBox (numbered_grant (step.held.cube.number, g)) boxes.items) (sym step.held.grant_is) home.0

      pub freecube-fits : IsFittingCall home_of IsCleanBox behind.parts behind.history (record { family = crew.grant.user; actor = HOST }) (calls.Freecube boxes)
      freecube-fits = record {
        machine = subst IsMachine (sym is.parts) has.sound.within;
        fits = subst (λ parts. IsFitting parts behind.history crew.grant.user HOST freecube) (sym is.parts) free-fits;
        boxes = subst (λ held. IsSomeAnd held (λ cube. AreGrantBoxes home_of IsCleanBox (numbered_grant (cube.number, cube.grant)) boxes.items)) (sym drained-held) own-boxes;
      }

      module _ (end : MachineFacts) (reply : Reply Box) (asks : HasAsked behind end crew.grant.user (calls.Freecube boxes) reply) where
        free-is : whats.Freecube ≡ asks.what
        free-is = same-what whats.Freecube asks.what asks.answer

        pub free-reply : reply ≡ replies.Freed
        free-reply = subst (λ what. IsReplyTo home_of IsCleanBox behind.parts (after behind.history) crew.grant.user HOST what reply) (sym free-is) asks.reply_is

        last-is : end.history ≡ behind.history ++ host_entry crew.grant.user whats.Freecube ∷ []
        last-is = asks.history ∙ ap (λ what. behind.history ++ host_entry crew.grant.user what ∷ []) (sym free-is)

        both-are : end.history ≡ before.history ++ freecube_entries crew.grant.user
        both-are =
            last-is ∙ ap (λ h. h ++ host_entry crew.grant.user whats.Freecube ∷ []) is.history
            ∙ append_assoc before.history (host_entry crew.grant.user whats.Drain ∷ []) (host_entry crew.grant.user whats.Freecube ∷ [])

        lawful-end : IsLawful before.parts end.history
        lawful-end = subst (λ parts. IsLawful parts end.history) is.parts asks.lawful

        none-left : cube_held_by (after end.history) crew.grant.user ≡ None
        none-left =
            ap (λ h. cube_held_by (after h) crew.grant.user) last-is
            ∙ ap (λ (state : MachineState). cube_held_by state crew.grant.user) (after-more behind.history (host_entry crew.grant.user whats.Freecube))
            ∙ left-own crew.grant.user (after behind.history)

        pub freed-done : (kind : RoundKind) → HasDone kind before end crew.grant.user Freecube Freed (home_host host)
        freed-done kind = record {
          all_entries = freecube_entries crew.grant.user;
          new_entries = freecube_entries crew.grant.user;
          parts = asks.parts ∙ is.parts;
          history = both-are;
          mix = mix-own kind crew.grant.user (freecube_entries crew.grant.user) (refl, (refl, tt));
          whole = inl refl;
          lawful = lawful-end;
          next = at_once.freecube_next kind before.parts before.history crew.grant.user step.held.cube step.held.held;
          state_is = (none-left, home.1);
        }

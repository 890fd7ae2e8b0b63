-- A message is sent, answered.
use Rattle.std.proofs.Common.{◌≡◌, ℕ, suc, ◌+◌, ◌^◌, ◌<◌, ◌≤◌, Bool, true, false, ◌==◌, if◌then◌else◌, List, [], ◌∷◌, ◌++◌, length, get_or, set, Some, refl, ap, ap₂, sym, ◌∙◌, subst, arith}
use Rattle.std.specs.Prelude.{All}
use Rattle.std.specs.List.{AllByRecursion}
use Rattle.std.proofs.lemmas.Bool.{cond_both}
use Rattle.std.proofs.lemmas.List.{length-map}
use Rattle.ce_model.specs.declared.topology.TheConstants.{HOST}
use Rattle.ce_model.specs.declared.topology.Place.{Place}
use Rattle.ce_model.specs.declared.topology.BlockId.{BlockId}
use Rattle.ce_model.specs.declared.entry.Entry.{Entry}
use Rattle.ce_model.specs.declared.entry.What.{What}
use Rattle.ce_model.specs.declared.entry.What.TheVariants as whats
use Rattle.ce_model.specs.Limits.{greatest_targets, greatest_targets_lem, greatest_blocks_lem, greatest_history_lem, node_room_lem, mail_room_lem}
use Rattle.ce_model.specs.Blocks.{Block}
use Rattle.ce_model.specs.Parcels.{Item, mail}
use Rattle.ce_model.specs.Node.{send_call}
use Rattle.ce_model.specs.Trace.{NodeRecord}
use Rattle.ce_model.specs.Subcubes.{relative_number}
use Rattle.ce_model.specs.Renaming.{CubeGrant, number_outward, place_outward, renamed_targets}
use Rattle.ce_model.specs.Machine.{HeldCube, after, what_of_request, IsCallOf}
use Rattle.ce_solo.proofs.Lists.{all-weaker}
use Rattle.ce_solo.proofs.Projection.Numbers.{IsPlaced, IsNumber, place_in_out}
use Rattle.ce_model.specs.Literals.{entry_of}
use Rattle.ce_lock.specs.declared.who.Who.{Who}
use Rattle.ce_daemon.specs.declared.grant.Grant.{Grant}
use Rattle.ce_daemon.specs.Holding as daemon
use Rattle.rk_mail.specs.declared.talk.Hearing.{Hearing}
use Rattle.rk_mail.specs.declared.talk.Say.TheVariants as say
use Rattle.rk_mail.specs.declared.talk.Hearing.TheVariants as hearings
use Rattle.rk_mail.specs.Targets.{bytes_of, HasEqualBytes, targets_of}
use Rattle.ce_machine.specs.declared.call.Call.TheVariants as calls
use Rattle.ce_machine.specs.declared.call.Reply.TheVariants as replies
use Rattle.ce_machine.specs.Requests.{request_of, IsFittingCall}
use Rattle.ce_machine.specs.Replies.{IsHearingReply, actor_items}
use Rattle.ce_machine.specs.Tables.{HostRecord, cube_host}
use Rattle.ce_machine.specs.Desks.{AreChanged, change_at_node, with_busy_mark, with_items, letter, letters, IsInCube, HasMailRoom}
use Rattle.ce_machine.proofs.Changes.{next_state}
use Rattle.ce_machine.proofs.QueueRoom as room
use Rattle.ce_machine.proofs.Called.{IsTarget, target-number, target-pid, call-places}
use Rattle.ce_machine.proofs.Answered.{call-answered, send-answer}
use Rattle.ce_machine.proofs.CallEffects.{mails_at, sent-each, sent-cube, sent-room, sent-mail_room}
use Rattle.ce_machine.proofs.Holdings.{grant_held}
use Rattle.ce_machine.proofs.Entries.{SoundMachine, IsIn, is-in, if-held, host-set, host-read, host-held, user-below, node-below, placed, grant-is, desks-changed, tables-call, more-lawful, HasMadeEntry, done-with}
use Rattle.ce_machine.proofs.SayEntries.{chained}

-- a fact of every place in a list, read off its positions
from-all : {X : Type 0} (P : X → Type 0) (xs : List X) → All P xs → AllByRecursion P xs
from-all P [] all = tt
from-all P (x ∷ xs) all = (all 0 x (omega arith), from-all P xs (λ k other below. all (suc k) other (omega arith)))

-- the targets of a message name the places of its batch
in-batch : (P : Place → Type 0) (batch : List (Place × Block)) → AllByRecursion (λ target. P target.0) (targets_of batch) → AllByRecursion (λ target. P target.0) batch
in-batch P [] all = tt
in-batch P (target ∷ batch) all = (all.0, in-batch P batch all.1)

module _ (dim : ℕ) (grant : CubeGrant) (at : IsPlaced dim grant) (actor pid : ℕ) (bytes : List ℕ) (node : ℕ) where
  abbrev from : Place
  from = record { node = relative_number grant.sub actor; pid = pid }

  -- what the code posts is what the entry brings
  pub letters-are : (number : ℕ) (batch : List (Place × Block)) → AllByRecursion (λ target. IsNumber grant.dim target.0.node) batch
      → AllByRecursion (λ target. target.1.bytes ≡ bytes) batch
      → letters grant.sub (record { node = relative_number grant.sub actor; pid = pid }) number batch node
      ≡ mails_at grant.sub (record { node = actor; pid = pid }) number bytes node (targets_of batch)
  letters-are number [] numbers equal = refl
  letters-are number (target ∷ batch) numbers equal =
      let goes = number_outward grant.sub target.0.node == node in
      let rest = mails_at grant.sub (record { node = actor; pid = pid }) (number + 1) bytes node (targets_of batch) in
      ap (λ behind. (if goes then letter from number target ∷ [] else []) ++ behind) (letters-are (number + 1) batch numbers.1 equal.1)
      ∙ cond_both goes (letter from number target ∷ []) [] (λ front. front ++ rest ≡ mails_at grant.sub (record { node = actor; pid = pid }) number bytes node (targets_of (target ∷ batch)))
      (λ t. rw t (λ i. mail (record { from = from; to = sym (place_in_out dim grant at target.0 numbers.0) i; number = number; block = record { id = target.1.id; bytes = equal.0 i } }) ∷ rest))
      (λ f. rw f refl)

module _ {N : Type 0} {home : N → ℕ} {clean : N → Type 0} (m : SoundMachine) (who : Who) {pid : ℕ} {batch : List (Place × Block)}
    (fits : IsFittingCall home clean m.parts m.history who (calls.Say (say.Send pid batch))) where
  open m use {parts, history as h, table, desks, hosts, sound, few}
  open who use {family as user, actor}

  abbrev to : List (Place × BlockId)
  to = targets_of batch

  abbrev bytes : List ℕ
  bytes = bytes_of batch

  pub sending : IsIn h who.family (IsCallOf parts h who.actor (send_call pid (targets_of batch) (bytes_of batch)))
  sending = is-in h user (IsCallOf parts h actor (send_call pid to bytes)) fits.fits.1

  abbrev cube : HeldCube
  cube = sending.cube

  at : IsPlaced parts.dim sending.cube.grant
  at = placed m user cube sending.holds

  targets : AllByRecursion (λ target. IsTarget sending.cube.grant.dim target.0) batch
  targets = in-batch (IsTarget cube.grant.dim) batch (call-places parts sound.machine h sound.lawful user cube sending.holds actor (send_call pid to bytes) sending.is)

  said : what_of_request parts (after h) who.family who.actor (request_of {N = N} (calls.Say (say.Send pid batch)))
      ≡ Some (whats.Send pid sending.cube.parcel_count (renamed_targets (place_outward sending.cube.grant.sub) (λ id. id) (targets_of batch)) (bytes_of batch))
  said = call-answered (after h) cube actor parts user (send_call pid to bytes) sending.holds ∙ ap Some (send-answer (after h) cube actor pid to bytes)

  module _ (equal : HasEqualBytes batch) (some : length batch ≤ greatest_targets) where
    arrive : (node : ℕ) → letters sending.cube.grant.sub (record { node = relative_number sending.cube.grant.sub who.actor; pid = pid }) sending.cube.parcel_count batch node
        ≡ mails_at sending.cube.grant.sub (record { node = who.actor; pid = pid }) sending.cube.parcel_count (bytes_of batch) node (targets_of batch)
    arrive node =
        letters-are parts.dim cube.grant at actor pid bytes node cube.parcel_count batch
        (all-weaker (λ (target : Place × Block). IsTarget cube.grant.dim target.0) (λ target. IsNumber cube.grant.dim target.0.node) batch (λ target is. target-number cube.grant.dim target.0 is) targets)
        (from-all (λ (target : Place × Block). target.1.bytes ≡ bytes) batch equal)

    -- the number of its first parcel fits
    pub send-number : {host : HostRecord} → host ≡ get_or hosts who.family host → host.parcel_count + length batch < 2 ^ 64
    send-number {host} read =
        let was = host-read hosts user host (user-below m user fits.fits.0) read ∙ host-held m user cube fits.fits.0 sending.holds in
        omega (
          arith,
          ap (λ (host : HostRecord). host.parcel_count) was,
          room.parcels-fit (length h) cube (room.cube-limits parts h sound.machine sound.lawful user cube sending.holds) (omega (arith, few, greatest_history_lem)),
          some,
          greatest_targets_lem,
        )

    module _ {grant : Grant} (known : daemon.grant_held_by table who.family ≡ Some grant) where
      same_grant : grant ≡ grant_held sending.cube
      same_grant = grant-is m user cube grant sending.holds known

      pub send-places : AllByRecursion (λ (target : Place × Block). IsInCube grant.dim target.0) batch
      send-places =
          subst (λ (g : Grant). AllByRecursion (λ (target : Place × Block). IsInCube g.dim target.0) batch) (sym same_grant)
          (all-weaker (λ (target : Place × Block). IsTarget cube.grant.dim target.0) (λ target. IsInCube cube.grant.dim target.0) batch
          (λ target is. (target-number cube.grant.dim target.0 is, target-pid cube.grant.dim target.0 is)) targets)

      -- there is room at each desk, and for the host
      pub send-room : {host host' : HostRecord} {first sender : ℕ} → host ≡ get_or hosts who.family host → first ≡ host.parcel_count → host'.mail ≡ host.mail
          → sender ≡ relative_number grant.sub who.actor → HasMailRoom grant.sub (record { node = sender; pid = pid }) first batch desks host'
      send-room {host} {host'} {first} read first_is same_mail sender_is =
          let was = host-read hosts user host (user-below m user fits.fits.0) read ∙ host-held m user cube fits.fits.0 sending.holds in
          let count : first ≡ cube.parcel_count = first_is ∙ ap (λ (host : HostRecord). host.parcel_count) was in
          let mail_is : host'.mail ≡ cube.mail = same_mail ∙ ap (λ (host : HostRecord). host.mail) was in
          let lawful' = more-lawful m home clean who (calls.Say (say.Send pid batch)) fits
          (whats.Send pid cube.parcel_count (renamed_targets (place_outward cube.grant.sub) (λ id. id) to) bytes) said in
          let own : HasMailRoom cube.grant.sub (record { node = relative_number cube.grant.sub actor; pid = pid }) cube.parcel_count batch desks host' = record {
            nodes = λ node below.
                let inside : node < 2 ^ parts.dim = omega (arith, below, sound.tables.desk_count) in
                omega (
                  arith,
                  sent-room parts sound.machine h sound.lawful user cube sending.holds actor pid to bytes sending.is lawful' node (node-below m node inside),
                  ap length (arrive node),
                  ap (λ (node_record : NodeRecord). length node_record.waiting_items) (sound.tables.desk_is node inside),
                  room.queue_room_lem,
                  node_room_lem,
                );
            mail = omega (
              arith,
              sent-mail_room parts sound.machine h sound.lawful user cube sending.holds actor pid to bytes sending.is lawful',
              ap length (arrive HOST),
              ap length mail_is,
              greatest_blocks_lem,
              mail_room_lem,
            );
          } in
          subst (λ node. HasMailRoom grant.sub (record { node = node; pid = pid }) first batch desks host') (sym sender_is)
          (subst (λ (g : Grant). HasMailRoom g.sub (record { node = relative_number g.sub actor; pid = pid }) first batch desks host') (sym same_grant)
          (subst (λ count. HasMailRoom cube.grant.sub (record { node = relative_number cube.grant.sub actor; pid = pid }) count batch desks host') (sym count) own))

      pub sent : {h' : List Entry} {host host' host'' : HostRecord} {first long sender : ℕ} {mid desks' : List NodeRecord} {at_places : List (Place × BlockId)} {sent_bytes : List ℕ} {told : Hearing}
          → told ≡ hearings.Posted [] → host ≡ get_or hosts who.family host → first ≡ host.parcel_count → long ≡ length batch
          → host' ≡ record host { parcel_count = host.parcel_count + long } → sender ≡ relative_number grant.sub who.actor
          → AreChanged desks mid (λ node. with_items (letters grant.sub (record { node = sender; pid = pid }) first batch node))
          → host'' ≡ record host' { mail = host'.mail ++ letters grant.sub (record { node = sender; pid = pid }) first batch HOST }
          → AreChanged mid desks' (change_at_node who.actor with_busy_mark) → at_places ≡ renamed_targets (place_outward grant.sub) (λ id. id) (targets_of batch) → sent_bytes ≡ bytes_of batch
          → h' ≡ h ++ entry_of who.family who.actor (whats.Send pid first at_places sent_bytes) ∷ []
          → HasMadeEntry home clean m h' table desks' (set hosts who.family host'') who (calls.Say (say.Send pid batch)) (replies.Heard told)
      sent {h'} {host} {host'} {host''} {first} {long} {sender} {mid} {desks'} {at_places} {sent_bytes} {told} told_is read first_is long_is counted sender_is posted host_is busied places_are bytes_are is =
          let below = user-below m user fits.fits.0 in
          let posts : ℕ → List Item = λ node. letters grant.sub (record { node = sender; pid = pid }) first batch node in
          let was = host-read hosts user host below read ∙ host-held m user cube fits.fits.0 sending.holds in
          let count : first ≡ cube.parcel_count = first_is ∙ ap (λ (host : HostRecord). host.parcel_count) was in
          let arrived : ℕ → List Item = λ node. mails_at cube.grant.sub (record { node = actor; pid = pid }) cube.parcel_count bytes node to in
          let all : (node : ℕ) → posts node ≡ arrived node =
          λ node. ap (λ sender. letters grant.sub (record { node = sender; pid = pid }) first batch node) sender_is
          ∙ ap₂ (λ (g : Grant) number. letters g.sub (record { node = relative_number g.sub actor; pid = pid }) number batch node) same_grant count ∙ arrive node in
          let made : What = whats.Send pid cube.parcel_count (renamed_targets (place_outward cube.grant.sub) (λ id. id) to) bytes in
          let places : at_places ≡ renamed_targets (place_outward cube.grant.sub) (λ id. id) to =
          places_are ∙ ap (λ (g : Grant). renamed_targets (place_outward g.sub) (λ id. id) to) same_grant in
          let what_is : whats.Send pid first at_places sent_bytes ≡ made = λ i. whats.Send pid (count i) (places i) (bytes_are i) in
          let change : ℕ → NodeRecord → NodeRecord = λ node node_record. change_at_node actor with_busy_mark node (with_items (posts node) node_record) in
          let each : (node : ℕ) → (node == HOST) ≡ false → (next_state h (entry_of who.family who.actor made)).node_record node ≡ change node ((after h).node_record node) =
          λ node apart. sent-each parts sound.machine h sound.lawful user cube sending.holds actor pid to bytes sending.is node apart
          ∙ busy_with (actor == node) ((after h).node_record node) (arrived node)
          ∙ ap (λ items. change_at_node actor with_busy_mark node (with_items items ((after h).node_record node))) (sym (all node)) in
          let host_now : host'' ≡ record (cube_host (Some cube)) { parcel_count = cube.parcel_count + length to; mail = cube.mail ++ arrived HOST } =
          host_is ∙ ap (λ (host' : HostRecord). record host' { mail = host'.mail ++ posts HOST }) (counted
          ∙ ap (λ (host : HostRecord). record host { parcel_count = host.parcel_count + long }) was)
          ∙ (λ i. record (cube_host (Some cube)) {
            parcel_count = cube.parcel_count + (long_is ∙ sym (length-map {B = Place × BlockId} batch (λ (target : Place × Block). (target.0, target.1.id)))) i;
            mail = cube.mail ++ all HOST i;
          }) in
          done-with m who (replies.Heard told) made fits said
          (if-held (after h) user (λ cube. IsHearingReply {N = N} (actor_items (after h) cube actor) made (replies.Heard told)) cube sending.holds told_is)
          (is ∙ ap (λ what. h ++ entry_of who.family who.actor what ∷ []) what_is)
          (tables-call m user actor made (send_call pid (renamed_targets (place_outward cube.grant.sub) (λ id. id) to) bytes) refl desks' (set hosts user host'') _ host''
          (busied.count ∙ posted.count)
          (desks-changed m (next_state h (entry_of who.family who.actor made)) desks' change
          (chained desks mid desks' (λ node. with_items (posts node)) (change_at_node actor with_busy_mark) posted busied) each)
          (host-set hosts user host'' host'' below refl)
          (sent-cube parts sound.machine h sound.lawful user cube sending.holds actor pid to bytes sending.is) host_now)
        where
          busy_with : (own : Bool) (node_record : NodeRecord) (items : List Item)
              → record node_record { waiting_items = node_record.waiting_items ++ items; mark = if own then record node_record.mark { is_idle = false } else node_record.mark }
              ≡ (if own then with_busy_mark (with_items items node_record) else with_items items node_record)
          busy_with true node_record items = refl
          busy_with false node_record items = refl

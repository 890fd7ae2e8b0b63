-- What hosts ask, answered.
use Rattle.std.proofs.Common.{◌≡◌, ℕ, ◌^◌, ◌<◌, Bool, true, false, ◌==◌, List, [], ◌∷◌, ◌++◌, length, map, flat_map, get_or, set, count_by, Option, Some, None, IsSome, option_map, IsSomeAnd, refl, ap, ap₂, sym, ◌∙◌, subst}
use Rattle.std.specs.List.{list_all, range_with_len, AllByRecursion}
use Rattle.std.proofs.lemmas.Bool.{eq-eqb}
use Rattle.ce_model.specs.declared.topology.TheConstants.{HOST}
use Rattle.ce_model.specs.declared.topology.Subcube.{Subcube}
use Rattle.ce_model.specs.declared.entry.Entry.{Entry}
use Rattle.ce_model.specs.declared.entry.LookResult.{LookResult}
use Rattle.ce_model.specs.declared.entry.What.{What}
use Rattle.ce_model.specs.declared.entry.What.TheVariants as whats
use Rattle.ce_model.specs.Blocks.{Block}
use Rattle.ce_model.specs.Parcels as model
use Rattle.ce_model.specs.Parcels.{item_parcels}
use Rattle.ce_model.specs.Cube.{parcel_numbered}
use Rattle.ce_model.specs.Node as model_node
use Rattle.ce_model.specs.Node.{arm_call, look_call, mail_call}
use Rattle.ce_model.specs.Trace.{NodeRecord, blank_record}
use Rattle.ce_model.specs.Answers.{is_quiet_node, look_result_where, recorded_call}
use Rattle.ce_model.specs.Subcubes.{node_of, first_free_subcube}
use Rattle.ce_model.specs.Sound.{IsHostItem}
use Rattle.ce_model.specs.Machine.{MachineState, HeldCube, cube_held_by, held_grants, is_free, nodes_of, all_parcels, after, what_of_request, IsCallOf}
use Rattle.ce_model.specs.Literals.{entry_of}
use Rattle.ce_lock.specs.declared.who.Who.{Who}
use Rattle.ce_model.proofs.Subcubes.{is_inside-node_of}
use Rattle.std.specs.Global.{Vec}
use Rattle.ce_daemon.specs.declared.grant.Grant.{Grant}
use Rattle.ce_daemon.specs.declared.grant.PeekResult.{PeekResult}
use Rattle.ce_daemon.specs.Boxes.{AreGrantBoxes}
use Rattle.ce_daemon.specs.Holding.{GrantTable, next_grant}
use Rattle.ce_daemon.specs.Holding as daemon
use Rattle.ce_daemon.specs.Peeks.{numbered_grant, peek_result}
use Rattle.rk_mail.specs.declared.parcel.Parcel.{Parcel}
use Rattle.rk_mail.specs.Items.{parcel_of}
use Rattle.ce_machine.specs.declared.call.Call.{Call}
use Rattle.ce_machine.specs.declared.call.Call.TheVariants as calls
use Rattle.ce_machine.specs.declared.call.Reply.{Reply}
use Rattle.ce_machine.specs.declared.call.Reply.TheVariants as replies
use Rattle.ce_machine.specs.Requests.{request_of, IsFittingCall}
use Rattle.ce_machine.specs.Replies.{IsReplyTo, look_reply, IsMailReply, IsDrainReply}
use Rattle.ce_machine.specs.Tables.{HostRecord, blank_host, cube_host, desk_at, host_at, grant_table, AreTables}
use Rattle.ce_machine.specs.Desks.{AreChanged, change_at_nodes, without_items, IsOnDesks}
use Rattle.ce_machine.proofs.Changes.{next_state}
use Rattle.ce_machine.proofs.Effects as effects
use Rattle.ce_machine.proofs.Holdings.{grant_held, held-same, free-same, table-with-grant, table-without-user, table-stays, placed-node}
use Rattle.ce_machine.proofs.Drained.{drained-empty, all-blocks, flat_map-same, list_all-same}
use Rattle.ce_machine.proofs.QueueRoom.{cube-limits}
use Rattle.ce_machine.proofs.Answered.{call-answered, arm-answer}
use Rattle.ce_machine.proofs.Acted as acted
use Rattle.ce_machine.proofs.Entries.{SoundMachine, IsIn, is-in, if-held, IsSet, host-set, host-same, host-read, host-held, user-below, placed, grant-known, grant-is, has-grant, on-desks, agree-on, desks-same, desks-changed, tables-user, tables-call, HasMadeEntry, done-with}

module _ (m : SoundMachine) (who : Who) where
  open m use {parts, history as h, table, desks, hosts, sound, few}
  open who use {family as user, actor}

  abbrev now : What → MachineState
  now what = next_state h (entry_of who.family who.actor what)

  -- the host's table that the code has read, of a user that holds this cube
  host-was : (host : HostRecord) (cube : HeldCube) → who.family < parts.users → host ≡ get_or hosts who.family host → cube_held_by (after h) who.family ≡ Some cube → host ≡ cube_host (Some cube)
  host-was host cube below read holds =
      host-read hosts user host (user-below m user below) read ∙ host-held m user cube below holds

  first_is : (dim : ℕ) (sub : Option Subcube) → sub ≡ first_free_subcube (daemon.is_ungranted table) table.dim dim → first_free_subcube (is_free (after h)) parts.dim dim ≡ sub
  first_is dim sub e =
      sym (e ∙ ap (λ (held : GrantTable). first_free_subcube (daemon.is_ungranted held) held.dim dim) sound.tables.table_is
      ∙ ap (λ test. first_free_subcube test parts.dim dim) (free-same parts.dim (after h)))

  module _ {N : Type 0} {home : N → ℕ} {clean : N → Type 0} where
    -- a call of a cube that leaves all desks as they are
    still : {h' : List Entry} {call : Call N} (reply : Reply N) (what : What) (made : model_node.Call) → recorded_call what ≡ Some made → IsFittingCall home clean parts h who call
        → what_of_request parts (after h) who.family who.actor (request_of call) ≡ Some what → ((node : ℕ) → (node == HOST) ≡ false → (now what).node_record node ≡ (after h).node_record node)
        → {hosts' : List HostRecord} {cube' : HeldCube} {host' : HostRecord} → IsSet hosts hosts' who.family host' → cube_held_by (now what) who.family ≡ Some cube' → host' ≡ cube_host (Some cube')
        → IsReplyTo home clean parts (after h) who.family who.actor what reply → h' ≡ h ++ entry_of who.family who.actor what ∷ []
        → HasMadeEntry home clean m h' table desks hosts' who call reply
    still reply what made called fits answer each {hosts'} {cube'} {host'} set held host_is reply_is is =
        done-with m who reply what fits answer reply_is is
        (tables-call m user actor what made called desks hosts' cube' host' refl (desks-same m (now what) each) set held host_is)

    pub armed : {h' : List Entry} {count : ℕ} {host host' : HostRecord} → IsFittingCall home clean parts h who (calls.Arm count) → host ≡ get_or hosts who.family host
        → host' ≡ record host { allowed_dispatches = count; made_dispatches = 0 } → h' ≡ h ++ entry_of who.family who.actor (whats.Arm count) ∷ []
        → HasMadeEntry home clean m h' table desks (set hosts who.family host') who (calls.Arm count) replies.Armed
    armed {count = count} {host} {host'} fits read changed is =
        let what = whats.Arm count in
        let in_cube = is-in h user (IsCallOf parts h actor (arm_call count)) fits.fits.1 in
        let below = user-below m user fits.fits.0 in
        still replies.Armed what (arm_call count) refl fits
        (call-answered (after h) in_cube.cube actor parts user (arm_call count) in_cube.holds ∙ ap Some (arm-answer (after h) in_cube.cube actor count))
        (acted.armed-each parts sound.machine h sound.lawful user in_cube.cube in_cube.holds actor count in_cube.is)
        (host-set hosts user host' host' below refl)
        (acted.armed-cube parts sound.machine h sound.lawful user in_cube.cube in_cube.holds actor count in_cube.is)
        (changed ∙ ap (λ (host : HostRecord). record host { allowed_dispatches = count; made_dispatches = 0 }) (host-was host in_cube.cube fits.fits.0 read in_cube.holds)) refl is

    pub looking : IsFittingCall home clean parts h who calls.Look → IsIn h who.family (IsCallOf parts h who.actor look_call)
    looking fits = is-in h user (IsCallOf parts h actor look_call) fits.fits.1

    pub looked : {h' : List Entry} {found : LookResult} {grant : Grant} {host : HostRecord} {reply : Reply N} → IsFittingCall home clean parts h who calls.Look → daemon.grant_held_by table who.family ≡ Some grant
        → host ≡ get_or hosts who.family host
        → found ≡ look_result_where (list_all (λ node. is_quiet_node (desk_at desks node)) (map (node_of grant.sub) (range_with_len 0 (2 ^ grant.dim)))) (host.made_dispatches == host.allowed_dispatches) → reply ≡ look_reply found
        → h' ≡ h ++ entry_of who.family who.actor (whats.Look found) ∷ [] → HasMadeEntry home clean m h' table desks hosts who calls.Look reply
    looked {h'} {found} {grant} {host} {reply} fits known read found_is reply_is is =
        let in_cube = looking fits in
        let cube = in_cube.cube in
        let nodes = range_with_len 0 (2 ^ cube.grant.dim) in
        let quiet : Grant → Bool = λ g. list_all (λ node. is_quiet_node (desk_at desks node)) (map (node_of g.sub) (range_with_len 0 (2 ^ g.dim))) in
        let same : found ≡ acted.found parts sound.machine h sound.lawful user cube in_cube.holds actor in_cube.is =
        found_is ∙ ap (λ g. look_result_where (quiet g) (host.made_dispatches == host.allowed_dispatches)) (grant-is m user cube grant in_cube.holds known)
        ∙ ap₂ look_result_where
        (list_all-same (λ node. is_quiet_node (desk_at desks node)) (λ node. is_quiet_node ((after h).node_record node)) (nodes_of cube.grant)
        (agree-on m is_quiet_node cube.grant (placed m user cube in_cube.holds) nodes))
        (ap (λ (host : HostRecord). host.made_dispatches == host.allowed_dispatches) (host-was host cube fits.fits.0 read in_cube.holds)) in
        let P : LookResult → Type 0 = λ found. reply ≡ look_reply found → h' ≡ h ++ entry_of who.family who.actor (whats.Look found) ∷ [] → HasMadeEntry home clean m h' table desks hosts who calls.Look reply in
        let f = acted.found parts sound.machine h sound.lawful user cube in_cube.holds actor in_cube.is in
        let done : P f = λ replied is. still reply (whats.Look f) look_call refl fits
        (call-answered (after h) cube actor parts user look_call in_cube.holds ∙ ap Some (acted.looked parts sound.machine h sound.lawful user cube in_cube.holds actor in_cube.is))
        (acted.looked-each parts sound.machine h sound.lawful user cube in_cube.holds actor in_cube.is)
        (host-same hosts user)
        (acted.looked-cube parts sound.machine h sound.lawful user cube in_cube.holds actor in_cube.is)
        (host-held m user cube fits.fits.0 in_cube.holds) replied is in
        subst P (sym same) done reply_is is

    -- what waits for a host is a message
    pub no_start : {pid image : ℕ} {rest : List model.Item} {host : HostRecord} → IsFittingCall home clean parts h who calls.HostTake → host ≡ get_or hosts who.family host
        → host.mail ≡ model.start pid image ∷ rest → ⊥
    no_start {pid} {image} {rest} {host} fits read first =
        let in_cube = is-in h user (IsCallOf parts h actor mail_call) fits.fits.1 in
        let mail : in_cube.cube.mail ≡ model.start pid image ∷ rest = ap (λ (host : HostRecord). host.mail) (sym (host-was host in_cube.cube fits.fits.0 read in_cube.holds)) ∙ first in
        (subst (AllByRecursion IsHostItem) mail (cube-limits parts h sound.machine sound.lawful user in_cube.cube in_cube.holds).own).0

    pub no_kill : {pid : ℕ} {rest : List model.Item} {host : HostRecord} → IsFittingCall home clean parts h who calls.HostTake → host ≡ get_or hosts who.family host
        → host.mail ≡ model.kill pid ∷ rest → ⊥
    no_kill {pid} {rest} {host} fits read first =
        let in_cube = is-in h user (IsCallOf parts h actor mail_call) fits.fits.1 in
        let mail : in_cube.cube.mail ≡ model.kill pid ∷ rest = ap (λ (host : HostRecord). host.mail) (sym (host-was host in_cube.cube fits.fits.0 read in_cube.holds)) ∙ first in
        (subst (AllByRecursion IsHostItem) mail (cube-limits parts h sound.machine sound.lawful user in_cube.cube in_cube.holds).own).0

    pub mail_taken : {h' : List Entry} (parcel : Parcel) {host host' : HostRecord} → IsFittingCall home clean parts h who calls.HostTake → host ≡ get_or hosts who.family host
        → host.mail ≡ model.mail (parcel_of parcel) ∷ host'.mail → host' ≡ record host { mail = host'.mail }
        → h' ≡ h ++ entry_of who.family who.actor (whats.HostTake (Some parcel.number)) ∷ []
        → HasMadeEntry home clean m h' table desks (set hosts who.family host') who calls.HostTake (replies.Mail parcel)
    mail_taken parcel {host} {host'} fits read first changed is =
        let in_cube = is-in h user (IsCallOf parts h actor mail_call) fits.fits.1 in
        let cube = in_cube.cube in
        let below = user-below m user fits.fits.0 in
        let was = host-was host cube fits.fits.0 read in_cube.holds in
        let mail : cube.mail ≡ model.mail (parcel_of parcel) ∷ host'.mail = ap (λ (host : HostRecord). host.mail) (sym was) ∙ first in
        let at : parcel_numbered parcel.number cube.mail ≡ Some (parcel_of parcel) = ap (parcel_numbered parcel.number) mail ∙ rw (eq-eqb parcel.number parcel.number refl) refl in
        still (replies.Mail parcel) (whats.HostTake (Some parcel.number)) mail_call refl fits
        (call-answered (after h) cube actor parts user mail_call in_cube.holds
        ∙ ap Some (acted.mail_taken parts sound.machine h sound.lawful user cube in_cube.holds actor in_cube.is (parcel_of parcel) host'.mail mail))
        (acted.mail_taken-each parts sound.machine h sound.lawful user cube in_cube.holds actor in_cube.is (parcel_of parcel) host'.mail mail)
        (host-set hosts user host' host' below refl)
        (acted.mail_taken-cube parts sound.machine h sound.lawful user cube in_cube.holds actor in_cube.is (parcel_of parcel) host'.mail mail)
        (changed ∙ ap (λ (host : HostRecord). record host { mail = host'.mail }) was)
        (if-held (after h) user (λ cube. IsMailReply {N = N} parcel.number cube.mail (replies.Mail parcel)) cube in_cube.holds at) is

    pub no_mail : {h' : List Entry} {host host' : HostRecord} → IsFittingCall home clean parts h who calls.HostTake → host ≡ get_or hosts who.family host
        → host.mail ≡ [] → host.mail ≡ host'.mail → host' ≡ record host { mail = host'.mail }
        → h' ≡ h ++ entry_of who.family who.actor (whats.HostTake None) ∷ []
        → HasMadeEntry home clean m h' table desks (set hosts who.family host') who calls.HostTake replies.NoMail
    no_mail {host = host} {host'} fits read none stays changed is =
        let in_cube = is-in h user (IsCallOf parts h actor mail_call) fits.fits.1 in
        let cube = in_cube.cube in
        let below = user-below m user fits.fits.0 in
        let was = host-was host cube fits.fits.0 read in_cube.holds in
        let mail : cube.mail ≡ [] = ap (λ (host : HostRecord). host.mail) (sym was) ∙ none in
        still replies.NoMail (whats.HostTake None) mail_call refl fits
        (call-answered (after h) cube actor parts user mail_call in_cube.holds
        ∙ ap Some (acted.no_mail parts sound.machine h sound.lawful user cube in_cube.holds actor in_cube.is mail))
        (acted.no_mail-each parts sound.machine h sound.lawful user cube in_cube.holds actor in_cube.is mail)
        (host-set hosts user host' host' below refl)
        (acted.no_mail-held parts sound.machine h sound.lawful user cube in_cube.holds actor in_cube.is mail)
        (changed ∙ (λ i. record host { mail = sym stays i }) ∙ was) refl is

    -- ---- what is made alone

    pub peeked_done : {h' : List Entry} {shown : PeekResult} → IsFittingCall home clean parts h who calls.Peek
        → shown.free ≡ count_by (daemon.is_ungranted table) (range_with_len 0 (2 ^ table.dim)) → shown.grants ≡ table.grants
        → h' ≡ h ++ entry_of who.family who.actor whats.Peek ∷ [] → HasMadeEntry home clean m h' table desks hosts who calls.Peek (replies.Peeked shown)
    peeked_done {shown = shown} fits free grants is =
        let state = after h in
        let holds = sound.tables.table_is in
        let free_is : shown.free ≡ count_by (is_free state) (range_with_len 0 (2 ^ parts.dim)) =
        free ∙ ap (λ (held : GrantTable). count_by (daemon.is_ungranted held) (range_with_len 0 (2 ^ held.dim))) holds
        ∙ ap (λ test. count_by test (range_with_len 0 (2 ^ parts.dim))) (free-same parts.dim state) in
        let grants_are : shown.grants ≡ map numbered_grant (held_grants state) = grants ∙ ap (λ (held : GrantTable). held.grants) holds in
        let same : shown ≡ peek_result parts state = λ i. record { free = free_is i; grants = grants_are i } in
        done-with m who (replies.Peeked shown) whats.Peek fits refl (ap replies.Peeked same) is
        (subst (λ state. AreTables parts state table desks hosts) (sym (effects.peek-state h user actor)) sound.tables)

    pub getcube_free : {dim : ℕ} → IsFittingCall home clean parts h who (calls.Getcube dim) → daemon.grant_held_by table who.family ≡ None
    getcube_free fits =
        ap (λ held. daemon.grant_held_by held user) sound.tables.table_is ∙ held-same parts.dim (after h) user ∙ ap (option_map grant_held) fits.fits.1.2

    pub none_granted : {h' : List Entry} {dim : ℕ} {table' : GrantTable} → IsFittingCall home clean parts h who (calls.Getcube dim) → None ≡ first_free_subcube (daemon.is_ungranted table) table.dim dim → table' ≡ table
        → h' ≡ h ++ entry_of who.family who.actor (whats.Getcube dim None) ∷ [] → HasMadeEntry home clean m h' table' desks hosts who (calls.Getcube dim) replies.NoneFree
    none_granted {dim = dim} fits none same is =
        done-with m who replies.NoneFree (whats.Getcube dim None) fits
        (ap (λ found. Some (whats.Getcube dim found)) (first_is dim None none)) refl is
        (subst (λ table. AreTables parts (now (whats.Getcube dim None)) table desks hosts) (sym same)
        (subst (λ state. AreTables parts state table desks hosts) (sym (effects.none_free-state h user actor dim)) sound.tables))

    pub granted : {h' : List Entry} {dim : ℕ} {grant : Grant} (boxes : Vec N) {table' : GrantTable} → IsFittingCall home clean parts h who (calls.Getcube dim)
        → Some grant.sub ≡ first_free_subcube (daemon.is_ungranted table) table.dim dim → grant ≡ next_grant table.count who.family dim grant.sub
        → AreGrantBoxes home clean grant boxes.items → table' ≡ daemon.table_with_grant grant table
        → h' ≡ h ++ entry_of who.family who.actor (whats.Getcube dim (Some grant.sub)) ∷ []
        → HasMadeEntry home clean m h' table' desks hosts who (calls.Getcube dim) (replies.Granted grant boxes)
    granted {dim = dim} {grant} boxes {table'} fits first grant_is are after_is is =
        let state = after h in
        let sub = grant.sub in
        let what = whats.Getcube dim (Some sub) in
        let next_is : grant ≡ next_grant state.grant_count user dim sub =
        grant_is ∙ ap (λ (held : GrantTable). next_grant held.count user dim sub) sound.tables.table_is in
        let none : cube_held_by state user ≡ None = fits.fits.1.2 in
        done-with m who (replies.Granted grant boxes) what fits
        (ap (λ found. Some (whats.Getcube dim found)) (first_is dim (Some sub) first))
        (next_is, subst (λ (g : Grant). AreGrantBoxes home clean g boxes.items) next_is are) is
        (tables-user m (now what) table' desks hosts user (host_at hosts user)
        (after_is ∙ ap₂ daemon.table_with_grant next_is sound.tables.table_is
        ∙ sym (table-with-grant parts.dim state user dim sub) ∙ ap (grant_table parts.dim) (sym (effects.grant-state h user actor dim sub)))
        refl
        (desks-same m (now what) (λ node apart. ap (λ (f : ℕ → NodeRecord). f node) (effects.grant-records h user actor dim sub)))
        (host-same hosts user)
        (sound.tables.host_is user fits.fits.0 ∙ ap cube_host none ∙ sym (ap cube_host (effects.grant-own h user actor dim sub none)))
        (λ other differ. effects.grant-other h user actor dim sub other differ))

    pub draining : IsFittingCall home clean parts h who calls.Drain → IsIn h who.family (λ cube. cube.is_drained ≡ false)
    draining fits = is-in h user (λ cube. cube.is_drained ≡ false) fits.fits.1.1

    pub drained : {h' : List Entry} {grant : Grant} {host host' : HostRecord} {desks' : List NodeRecord} {reply : Reply N} → IsFittingCall home clean parts h who calls.Drain
        → daemon.grant_held_by table who.family ≡ Some grant → host ≡ get_or hosts who.family host → host' ≡ record host { is_drained = true; mail = [] }
        → AreChanged desks desks' (change_at_nodes grant.sub without_items)
        → ((parcels : List model.Parcel) → map (λ (parcel : model.Parcel). parcel.block) parcels
        ≡ map (λ (parcel : model.Parcel). parcel.block) (item_parcels (flat_map (λ node. (desk_at desks node).waiting_items) (map (node_of grant.sub) (range_with_len 0 (2 ^ grant.dim)))))
        ++ map (λ (parcel : model.Parcel). parcel.block) (item_parcels host.mail) → IsDrainReply parcels reply)
        → h' ≡ h ++ entry_of who.family who.actor whats.Drain ∷ [] → HasMadeEntry home clean m h' table desks' (set hosts who.family host') who calls.Drain reply
    drained {grant = grant} {host} {host'} {desks'} {reply} fits known read host_changed changed replied is =
        let state = after h in
        let in_cube = draining fits in
        let cube = in_cube.cube in
        let at = placed m user cube in_cube.holds in
        let grant_same = grant-is m user cube grant in_cube.holds known in
        let was = host-was host cube fits.fits.0 read in_cube.holds in
        let below = user-below m user fits.fits.0 in
        let block : model.Parcel → Block = λ parcel. parcel.block in
        let waits : Grant → List model.Item = λ g. flat_map (λ node. (desk_at desks node).waiting_items) (map (node_of g.sub) (range_with_len 0 (2 ^ g.dim))) in
        let all : map block (all_parcels state cube) ≡ map block (item_parcels (waits grant)) ++ map block (item_parcels host.mail) =
        all-blocks state cube
        ∙ ap₂ (λ items mail. map block (item_parcels items) ++ map block (item_parcels mail))
        (sym (ap waits grant_same ∙ flat_map-same (λ node. (desk_at desks node).waiting_items) (λ node. (state.node_record node).waiting_items) (nodes_of cube.grant)
        (agree-on m (λ (node_record : NodeRecord). node_record.waiting_items) cube.grant at (range_with_len 0 (2 ^ cube.grant.dim)))))
        (sym (ap (λ (host : HostRecord). host.mail) was)) in
        done-with m who reply whats.Drain fits refl
        (if-held state user (λ cube. IsDrainReply (all_parcels state cube) reply) cube in_cube.holds (replied (all_parcels state cube) all)) is
        (tables-user m (now whats.Drain) table desks' (set hosts user host') user host'
        (sound.tables.table_is ∙ sym (table-stays parts.dim state (now whats.Drain) (effects.drain-count h user actor) (effects.drain-grants h user actor)))
        changed.count
        (desks-changed m (now whats.Drain) desks' (change_at_nodes grant.sub without_items) changed
        (λ node apart. effects.drain-record h user actor cube node in_cube.holds ∙ ap (λ (g : Grant). change_at_nodes g.sub without_items node (state.node_record node)) (sym grant_same)))
        (host-set hosts user host' host' below refl)
        (host_changed ∙ ap (λ (host : HostRecord). record host { is_drained = true; mail = [] }) was ∙ sym (ap cube_host (effects.drain-own h user actor cube in_cube.holds)))
        (λ other differ. effects.drain-other h user actor other differ))

    -- ---- a cube is given back

    module _ {boxes : Vec N} (fits : IsFittingCall home clean parts h who (calls.Freecube boxes)) where
      freeing : IsIn h who.family (λ cube. cube.is_drained ≡ true)
      freeing = is-in h user (λ cube. cube.is_drained ≡ true) fits.fits.1.1

      pub free-has : IsSome (daemon.grant_held_by table who.family)
      free-has = has-grant m user freeing.cube freeing.holds

      pub free-boxes : IsSomeAnd (daemon.grant_held_by table who.family) (λ grant. AreGrantBoxes home clean grant boxes.items)
      free-boxes =
          subst (λ (held : Option Grant). IsSomeAnd held (λ grant. AreGrantBoxes home clean grant boxes.items)) (sym (grant-known m user freeing.cube freeing.holds))
          (subst (λ (held : Option HeldCube). IsSomeAnd held (λ cube. AreGrantBoxes home clean (numbered_grant (cube.number, cube.grant)) boxes.items)) freeing.holds fits.boxes)

      module _ {grant : Grant} (known : daemon.grant_held_by table who.family ≡ Some grant) where
        same_grant : grant ≡ grant_held freeing.cube
        same_grant = grant-is m user freeing.cube grant freeing.holds known

        pub free-desks : IsOnDesks (length desks) grant.dim grant.sub
        free-desks = on-desks m user freeing.cube grant freeing.holds same_grant

        pub free-nodes : (r : ℕ) → r < 2 ^ grant.dim → (desk_at desks (node_of grant.sub r)).waiting_items ≡ []
        free-nodes r below =
            let cube = freeing.cube in
            let at = placed m user cube freeing.holds in
            let below_cube : r < 2 ^ cube.grant.dim = subst (λ (g : Grant). r < 2 ^ g.dim) same_grant below in
            let inside = is_inside-node_of cube.grant.sub r at.sub.apart (rw at.sub.dimension below_cube) in
            subst (λ (g : Grant). (desk_at desks (node_of g.sub r)).waiting_items ≡ []) (sym same_grant)
            (ap (λ (node_record : NodeRecord). node_record.waiting_items) (sound.tables.desk_is (node_of cube.grant.sub r) (placed-node parts.dim cube.grant at r))
            ∙ (drained-empty parts h sound.machine sound.lawful user cube freeing.holds freeing.is).nodes (node_of cube.grant.sub r) inside)

      pub free-mail : {host : HostRecord} → host ≡ get_or hosts who.family host → host.mail ≡ []
      free-mail {host} read =
          ap (λ (host : HostRecord). host.mail) (host-was host freeing.cube fits.fits.0 read freeing.holds) ∙ (drained-empty parts h sound.machine sound.lawful user freeing.cube freeing.holds freeing.is).mail

      pub freed : {h' : List Entry} {grant : Grant} {table' : GrantTable} {host' : HostRecord} {desks' : List NodeRecord} → daemon.grant_held_by table who.family ≡ Some grant
          → table' ≡ daemon.without_user who.family table → AreChanged desks desks' (change_at_nodes grant.sub (λ node_record. blank_record)) → host' ≡ blank_host
          → h' ≡ h ++ entry_of who.family who.actor whats.Freecube ∷ []
          → HasMadeEntry home clean m h' table' desks' (set hosts who.family host') who (calls.Freecube boxes) replies.Freed
      freed {grant = grant} {table'} {host'} {desks'} known without changed blank is =
          let state = after h in
          let cube = freeing.cube in
          let below = user-below m user fits.fits.0 in
          done-with m who replies.Freed whats.Freecube fits refl refl is
          (tables-user m (now whats.Freecube) table' desks' (set hosts user host') user host'
          (without ∙ ap (daemon.without_user user) sound.tables.table_is ∙ sym (table-without-user parts.dim state user) ∙ ap (grant_table parts.dim) (sym (effects.free-state h user actor)))
          changed.count
          (desks-changed m (now whats.Freecube) desks' (change_at_nodes grant.sub (λ node_record. blank_record)) changed
          (λ node apart. effects.free-record h user actor cube node freeing.holds ∙ ap (λ (g : Grant). change_at_nodes g.sub (λ node_record. blank_record) node (state.node_record node)) (sym (same_grant known))))
          (host-set hosts user host' host' below refl)
          (blank ∙ sym (ap cube_host (effects.free-own h user actor)))
          (λ other differ. effects.free-other h user actor other differ))

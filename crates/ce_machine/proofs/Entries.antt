-- What the machine's tables show once an entry is made, and that the call is then answered.
use Rattle.std.proofs.Common.{◌≡◌, ◌≢◌, ◌⊎◌, ℕ, ◌^◌, ◌<◌, ◌≤◌, true, false, ◌==◌, List, [], ◌∷◌, ◌++◌, length, map, get_or, set, Option, Some, None, IsSome, IsSomeAnd, option_map, refl, ap, sym, ◌∙◌, subst, arith, inl, inr}
use Rattle.std.specs.List.{AllByRecursion}
use Rattle.std.proofs.lemmas.Bool.{both_ways, eq-eqb, eqb-true, ne_eqb, cases_Bool}
use Rattle.std.proofs.lemmas.List.{get_or-set_same, get_or-set_other, get_or_read, length-set, length-append}
use Rattle.ce_model.specs.declared.topology.TheConstants.{HOST}
use Rattle.ce_model.specs.declared.entry.Entry.{Entry}
use Rattle.ce_model.specs.declared.entry.What.{What}
use Rattle.ce_model.specs.Node as model
use Rattle.ce_model.specs.Trace.{NodeRecord, blank_record}
use Rattle.ce_model.specs.Answers.{recorded_call}
use Rattle.ce_model.specs.Subcubes.{extract, node_of, is_inside}
use Rattle.ce_model.proofs.Subcubes.{node_of-within, node_of-extract}
use Rattle.ce_model.specs.Machine.{MachineParts, MachineState, HeldCube, cube_held_by, held_grants, after, what_of_request, IsCallOf, HasHeldCube, IsLawful}
use Rattle.ce_model.specs.Renaming.{CubeGrant}
use Rattle.ce_solo.proofs.Renaming.Grants.{few_nodes}
use Rattle.ce_solo.proofs.Projection.Numbers.{IsPlaced}
use Rattle.ce_model.specs.Literals.{entry_of}
use Rattle.ce_solo.proofs.Projection.Law.{projected}
use Rattle.ce_lock.specs.declared.who.Who.{Who}
use Rattle.ce_daemon.specs.declared.grant.Grant.{Grant}
use Rattle.ce_daemon.specs.Holding.{GrantTable}
use Rattle.ce_daemon.specs.Holding as daemon
use Rattle.ce_daemon.specs.Peeks.{numbered_grant}
use Rattle.ce_machine.specs.declared.call.Call.{Call}
use Rattle.ce_machine.specs.declared.call.Reply.{Reply}
use Rattle.ce_model.specs.Limits.{greatest_history, greatest_history_lem}
use Rattle.ce_machine.specs.Requests.{request_of, IsFittingCall}
use Rattle.ce_machine.specs.Replies.{IsReplyTo, OfHeldCube}
use Rattle.ce_machine.specs.Meanings.{MachineFacts}
use Rattle.ce_machine.specs.Tables.{HostRecord, blank_host, cube_host, desk_at, host_at, grant_table, AreTables, IsSoundMachine}
use Rattle.ce_machine.specs.Desks.{AreChanged, IsOnDesks}
use Rattle.ce_machine.proofs.Holdings.{grant_held, held-same, placed-small, placed-wide, placed-node}
use Rattle.ce_machine.specs.Answering.{HasAnswered}
use Rattle.ce_machine.proofs.Changes.{next_state}
use Rattle.ce_machine.proofs.Effects.{call-count, call-grants, call-other}
use Rattle.ce_machine.proofs.KeptLaws.{more_is_lawful}

-- ---- reading and writing a table

-- the desk or the host that code has at hand
pub host-read : (hosts : List HostRecord) (user : ℕ) (host : HostRecord) → user < length hosts → host ≡ get_or hosts user host → host ≡ host_at hosts user
host-read hosts user host below is = get_or_read hosts user host below is blank_host

pub desk-read : (desks : List NodeRecord) (n : ℕ) (desk : NodeRecord) → n < length desks → desk ≡ get_or desks n desk → desk ≡ desk_at desks n
desk-read desks n desk below is = get_or_read desks n desk below is blank_record

pub differs : (a b : ℕ) → (a == b) ≡ false → b ≢ a
differs a b other = λ e. both_ways _ other (eq-eqb a b (sym e))

-- one host's table changes
pub record IsSet (hosts hosts' : List HostRecord) (user : ℕ) (host : HostRecord) : Type 0 where
  pub count : length hosts' ≡ length hosts
  pub own : host_at hosts' user ≡ host
  pub others : (other : ℕ) → (user == other) ≡ false → host_at hosts' other ≡ host_at hosts other

pub host-set : (hosts : List HostRecord) (user : ℕ) (host host' : HostRecord) → user < length hosts → host ≡ host' → IsSet hosts (set hosts user host) user host'
host-set hosts user host host' below is = record {
  count = length-set hosts user host;
  own = get_or-set_same hosts user host blank_host below ∙ is;
  others = λ other differ. get_or-set_other hosts user other host blank_host (differs user other differ);
}

-- none does
pub host-same : (hosts : List HostRecord) (user : ℕ) → IsSet hosts hosts user (host_at hosts user)
host-same hosts user = record { count = refl; own = refl; others = λ other differ. refl }

-- ---- a cube that is held

-- the cube that a user holds, of which this holds
pub record IsIn (h : List Entry) (user : ℕ) (P : HeldCube → Type 0) : Type 0 where
  pub cube : HeldCube
  pub holds : cube_held_by (after h) user ≡ Some cube
  pub is : P cube

is_in_by : (h : List Entry) (user : ℕ) (P : HeldCube → Type 0) (held : Option HeldCube) → cube_held_by (after h) user ≡ held → IsSomeAnd held P → IsIn h user P
is_in_by h user P None e some = absurd some
is_in_by h user P (Some cube) e some = record { cube = cube; holds = e; is = some }

pub is-in : (h : List Entry) (user : ℕ) (P : HeldCube → Type 0) → HasHeldCube h user P → IsIn h user P
is-in h user P some = is_in_by h user P (cube_held_by (after h) user) refl some

pub if-held : (state : MachineState) (user : ℕ) (P : HeldCube → Type 0) (cube : HeldCube) → cube_held_by state user ≡ Some cube → P cube → OfHeldCube state user P
if-held state user P cube holds is = subst (λ (held : Option HeldCube). IsSomeAnd held P) (sym holds) is

-- ---- a machine

-- a sound machine with room for an entry
pub record SoundMachine : Type 0 where
  pub parts : MachineParts
  pub history : List Entry
  pub table : GrantTable
  pub desks : List NodeRecord
  pub hosts : List HostRecord
  pub sound : IsSoundMachine parts history table desks hosts
  pub few : length history < greatest_history

-- as the code of a call has it at hand
abbrev pub sound_machine : {parts : MachineParts} {h : List Entry} {table : GrantTable} {desks : List NodeRecord} {hosts : List HostRecord} → IsSoundMachine parts h table desks hosts
    → length h < greatest_history → SoundMachine
sound_machine {parts} {h} {table} {desks} {hosts} sound few =
    record { parts = parts; history = h; table = table; desks = desks; hosts = hosts; sound = sound; few = few }

module _ (m : SoundMachine) where
  open m use {parts, history as h, table, desks, hosts, sound, few}

  pub node-below : (node : ℕ) → node < 2 ^ parts.dim → (node == HOST) ≡ false
  node-below node below = ne_eqb node HOST (λ e. omega (arith, few_nodes parts.dim sound.machine.dim))

  pub user-below : (user : ℕ) → user < parts.users → user < length hosts
  user-below user below = omega (arith, sound.tables.host_count)

  -- what is kept for the host of a user that holds this cube
  pub host-held : (user : ℕ) (cube : HeldCube) → user < parts.users → cube_held_by (after h) user ≡ Some cube → host_at hosts user ≡ cube_host (Some cube)
  host-held user cube below holds = sound.tables.host_is user below ∙ ap cube_host holds

  same_count : (state' : MachineState) → state'.grant_count ≡ (after h).grant_count → held_grants state' ≡ held_grants (after h) → table ≡ grant_table parts.dim state'
  same_count state' count grants =
      sound.tables.table_is ∙ sym (λ i. record { dim = parts.dim; count = count i; grants = map numbered_grant (grants i) })

  pub few-desks : length desks ≤ HOST
  few-desks = omega (arith, sound.tables.desk_count, few_nodes parts.dim sound.machine.dim)

  -- a cube that is held is one of the machine's
  pub placed : (user : ℕ) (cube : HeldCube) → cube_held_by (after h) user ≡ Some cube → IsPlaced parts.dim cube.grant
  placed user cube holds = ((projected parts h sound.machine sound.lawful).held user cube holds).placed

  -- a node of a cube has a desk
  pub inside-below : (user : ℕ) (cube : HeldCube) (node : ℕ) → cube_held_by (after h) user ≡ Some cube → is_inside cube.grant.sub node ≡ true → node < 2 ^ parts.dim
  inside-below user cube node holds inside =
      let is = (placed user cube holds).sub in
      omega (arith, node_of-within parts.dim (extract node cube.grant.sub.mask) cube.grant.sub is.base_within is.mask_within is.apart, node_of-extract cube.grant.sub node inside)

  -- who makes a call is a host, or a node that has a desk
  pub actor-known : (user actor : ℕ) (call : model.Call) (cube : HeldCube) → cube_held_by (after h) user ≡ Some cube → IsCallOf parts h actor call cube
      → (actor ≡ HOST) ⊎ (actor < length desks)
  actor-known user actor call cube holds is =
      elim is.inside [
        | inl host ↦ inl (eqb-true actor HOST host)
        | inr inside ↦ inr (omega (arith, sound.tables.desk_count, inside-below user cube actor holds inside))
      ]

  -- the grant of a cube that a user holds
  pub grant-known : (user : ℕ) (cube : HeldCube) → cube_held_by (after h) user ≡ Some cube → daemon.grant_held_by table user ≡ Some (grant_held cube)
  grant-known user cube holds =
      ap (λ held. daemon.grant_held_by held user) sound.tables.table_is ∙ held-same parts.dim (after h) user ∙ ap (option_map grant_held) holds

  pub grant-is : (user : ℕ) (cube : HeldCube) (grant : Grant) → cube_held_by (after h) user ≡ Some cube → daemon.grant_held_by table user ≡ Some grant → grant ≡ grant_held cube
  grant-is user cube grant holds found = let same : Some grant ≡ Some (grant_held cube) = sym found ∙ grant-known user cube holds in cc

  pub has-grant : (user : ℕ) (cube : HeldCube) → cube_held_by (after h) user ≡ Some cube → IsSome (daemon.grant_held_by table user)
  has-grant user cube holds = subst IsSome (sym (grant-known user cube holds)) refl

  -- its nodes have desks
  pub on-desks : (user : ℕ) (cube : HeldCube) (grant : Grant) → cube_held_by (after h) user ≡ Some cube → grant ≡ grant_held cube → IsOnDesks (length desks) grant.dim grant.sub
  on-desks user cube grant holds is =
      let at = placed user cube holds in
      subst (λ (g : Grant). IsOnDesks (length desks) g.dim g.sub) (sym is) (record {
        sub_is = placed-wide parts.dim cube.grant at;
        small = placed-small parts.dim cube.grant at;
        within = λ r below. omega (arith, sound.tables.desk_count, placed-node parts.dim cube.grant at r);
        few = few-desks;
      })

  -- at the nodes of a cube the desks show the state
  pub agree-on : {X : Type 0} (f : NodeRecord → X) (grant : CubeGrant) → IsPlaced parts.dim grant → (rs : List ℕ)
      → AllByRecursion (λ node. f (desk_at desks node) ≡ f ((after h).node_record node)) (map (node_of grant.sub) rs)
  agree-on f grant at [] = tt
  agree-on f grant at (r ∷ rs) = (ap f (sound.tables.desk_is (node_of grant.sub r) (placed-node parts.dim grant at r)), agree-on f grant at rs)

  -- the tables once the cube of one user changed
  pub tables-user : (state' : MachineState) (table' : GrantTable) (desks' : List NodeRecord) (hosts' : List HostRecord) (user : ℕ) (host' : HostRecord)
      → table' ≡ grant_table parts.dim state' → length desks' ≡ length desks
      → ((node : ℕ) → node < 2 ^ parts.dim → (node == HOST) ≡ false → desk_at desks' node ≡ state'.node_record node)
      → IsSet hosts hosts' user host' → host' ≡ cube_host (cube_held_by state' user)
      → ((other : ℕ) → (user == other) ≡ false → cube_held_by state' other ≡ cube_held_by (after h) other) → AreTables parts state' table' desks' hosts'
  tables-user state' table' desks' hosts' user host' table_now count each is host_is others = record {
    table_is = table_now;
    desk_count = count ∙ sound.tables.desk_count;
    desk_is = λ node below. each node below (node-below node below);
    host_count = is.count ∙ sound.tables.host_count;
    host_is = λ other below. elim (cases_Bool (user == other)) [
      | inl same ↦ subst (λ u. host_at hosts' u ≡ cube_host (cube_held_by state' u)) (eqb-true user other same) (is.own ∙ host_is)
      | inr differ ↦ is.others other differ ∙ sound.tables.host_is other below ∙ ap cube_host (sym (others other differ))
    ];
  }

  -- an entry of a call of a cube
  pub tables-call : (user actor : ℕ) (what : What) (call : model.Call) → recorded_call what ≡ Some call → (desks' : List NodeRecord) (hosts' : List HostRecord) (cube' : HeldCube)
      (host' : HostRecord) → length desks' ≡ length desks
      → ((node : ℕ) → node < 2 ^ parts.dim → (node == HOST) ≡ false → desk_at desks' node ≡ (next_state h (entry_of user actor what)).node_record node)
      → IsSet hosts hosts' user host' → cube_held_by (next_state h (entry_of user actor what)) user ≡ Some cube' → host' ≡ cube_host (Some cube')
      → AreTables parts (next_state h (entry_of user actor what)) table desks' hosts'
  tables-call user actor what call called desks' hosts' cube' host' count each is held host_is =
      let entry = entry_of user actor what in
      tables-user (next_state h entry) table desks' hosts' user host' (same_count (next_state h entry) (call-count h entry call called) (call-grants h entry call called)) count each is
      (host_is ∙ ap cube_host (sym held)) (λ other differ. call-other h entry call called other differ)

  -- the desks that stay show what the entry leaves, where it changes no node
  pub desks-same : (state' : MachineState) → ((node : ℕ) → (node == HOST) ≡ false → state'.node_record node ≡ (after h).node_record node)
      → (node : ℕ) → node < 2 ^ parts.dim → (node == HOST) ≡ false → desk_at desks node ≡ state'.node_record node
  desks-same state' each node below apart = sound.tables.desk_is node below ∙ sym (each node apart)

  -- the desks that changed so show it where it changes each node so
  pub desks-changed : (state' : MachineState) (desks' : List NodeRecord) (change : ℕ → NodeRecord → NodeRecord) → AreChanged desks desks' change
      → ((node : ℕ) → (node == HOST) ≡ false → state'.node_record node ≡ change node ((after h).node_record node))
      → (node : ℕ) → node < 2 ^ parts.dim → (node == HOST) ≡ false → desk_at desks' node ≡ state'.node_record node
  desks-changed state' desks' change changed each node below apart =
      changed.each node (omega (arith, sound.tables.desk_count)) ∙ ap (change node) (sound.tables.desk_is node below) ∙ sym (each node apart)

  -- ---- a call is answered

  module _ {N : Type 0} (home : N → ℕ) (clean : N → Type 0) (who : Who) (call : Call N) (fits : IsFittingCall home clean parts h who call)
      (what : What) (answer : what_of_request parts (after h) who.family who.actor (request_of call) ≡ Some what) where
    abbrev made : Entry
    made = entry_of who.family who.actor what

    pub more-lawful : IsLawful parts (h ++ entry_of who.family who.actor what ∷ [])
    more-lawful = more_is_lawful home clean parts h made who call sound.lawful fits answer refl

    module _ (h' : List Entry) (is : h' ≡ h ++ entry_of who.family who.actor what ∷ []) where
      pub sound-more : (table' : GrantTable) (desks' : List NodeRecord) (hosts' : List HostRecord) → AreTables parts (next_state h (entry_of who.family who.actor what)) table' desks' hosts'
          → IsSoundMachine parts h' table' desks' hosts'
      sound-more table' desks' hosts' tables = record {
        machine = sound.machine;
        lawful = subst (IsLawful parts) (sym is) more-lawful;
        tables = subst (λ l. AreTables parts (after l) table' desks' hosts') (sym is) tables;
      }

      pub has-answered : (reply : Reply N) → IsReplyTo home clean parts (after h) who.family who.actor what reply
          → HasAnswered home clean (record { parts = parts; history = h }) (record { parts = parts; history = h' }) who call reply
      has-answered reply reply_is = record {
        parts = refl;
        entry = made;
        grows = is;
        stands = record { whose_is = refl; answer = answer; reply_is = reply_is };
        lawful = subst (IsLawful parts) (sym is) more-lawful;
        few = omega (arith, few, greatest_history_lem, ap length is, length-append h (made ∷ []));
      }

-- the machine is sound, whose dimension is the daemon's, and has answered the call
pub record HasMadeEntry {N : Type 0} (home : N → ℕ) (clean : N → Type 0) (m : SoundMachine) (h' : List Entry) (table' : GrantTable) (desks' : List NodeRecord)
    (hosts' : List HostRecord) (who : Who) (call : Call N) (reply : Reply N) : Type 0 where
  pub sound : IsSoundMachine (record m.parts { dim = table'.dim }) h' table' desks' hosts'
  pub answered : HasAnswered home clean (record { parts = m.parts; history = m.history }) (record { parts = record m.parts { dim = table'.dim }; history = h' }) who call reply

module _ (m : SoundMachine) (who : Who) {N : Type 0} {home : N → ℕ} {clean : N → Type 0} where
  open m use {parts, history as h}

  pub done-with : {h' : List Entry} {call : Call N} (reply : Reply N) (what : What) → IsFittingCall home clean parts h who call
      → what_of_request parts (after h) who.family who.actor (request_of call) ≡ Some what → IsReplyTo home clean parts (after h) who.family who.actor what reply
      → h' ≡ h ++ entry_of who.family who.actor what ∷ [] → {table' : GrantTable} {desks' : List NodeRecord} {hosts' : List HostRecord}
      → AreTables parts (next_state h (entry_of who.family who.actor what)) table' desks' hosts' → HasMadeEntry home clean m h' table' desks' hosts' who call reply
  done-with {h'} {call} reply what fits answer reply_is is {table'} {desks'} {hosts'} tables =
      let same : parts.dim ≡ table'.dim = sym (ap (λ (held : GrantTable). held.dim) tables.table_is) in
      record {
        sound = subst (λ dim. IsSoundMachine (record parts { dim = dim }) h' table' desks' hosts') same (sound-more m home clean who call fits what answer h' is table' desks' hosts' tables);
        answered = subst (λ dim. HasAnswered home clean (record { parts = parts; history = h }) (record { parts = record parts { dim = dim }; history = h' }) who call reply) same
            (has-answered m home clean who call fits what answer h' is reply reply_is);
      }

-- ---- what the code has at hand

pub history-is : {h h1 h2 : List Entry} (e : Entry) → h2 ≡ h1 ++ e ∷ [] → h1 ≡ h → h2 ≡ h ++ e ∷ []
history-is e pushed same = pushed ∙ ap (λ l. l ++ e ∷ []) same

-- blocks behind others, of which there were none
pub blocks-joined : {X : Type 0} (none one two a b : List X) → none ≡ [] → one ≡ none ++ a → two ≡ one ++ b → two ≡ a ++ b
blocks-joined none one two a b none_is one_is two_is = two_is ∙ ap (λ l. l ++ b) (one_is ∙ ap (λ l. l ++ a) none_is)

pub joined-none : {X : Type 0} (none all a : List X) → none ≡ [] → all ≡ none ++ a → all ≡ a
joined-none none all a none_is is = is ∙ ap (λ l. l ++ a) none_is

-- a call fits inside, and is answered outside
module _ {N : Type 0} {home : N → ℕ} {clean : N → Type 0} {m m' : MachineFacts} (same : m ≡ m') {who : Who} {call : Call N} where
  pub fits-inside : IsFittingCall home clean m'.parts m'.history who call → IsFittingCall home clean m.parts m.history who call
  fits-inside fits = subst (λ (m : MachineFacts). IsFittingCall home clean m.parts m.history who call) (sym same) fits

  pub answered-outside : {new : MachineFacts} {reply : Reply N} → HasAnswered home clean m new who call reply → HasAnswered home clean m' new who call reply
  answered-outside {new} {reply} is = subst (λ (m : MachineFacts). HasAnswered home clean m new who call reply) same is

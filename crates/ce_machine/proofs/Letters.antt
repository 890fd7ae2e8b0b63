-- A message that is posted place by place.
use Rattle.std.proofs.Common.{◌≡◌, ◌⊎◌, ℕ, ◌+◌, ◌^◌, ◌<◌, Bool, true, false, inl, inr, ◌==◌, if◌then◌else◌, List, [], ◌∷◌, ◌++◌, length, refl, ap, sym, ◌∙◌, arith, append_assoc}
use Rattle.std.proofs.lemmas.Bool.{cases_Bool, both_ways, eq-eqb, ne_eqb}
use Rattle.std.proofs.lemmas.List.{length-append}
use Rattle.ce_model.specs.declared.topology.TheConstants.{HOST}
use Rattle.ce_model.specs.declared.topology.Place.{Place}
use Rattle.ce_model.specs.declared.topology.Subcube.{Subcube}
use Rattle.ce_model.specs.Blocks.{Block}
use Rattle.ce_model.specs.Parcels.{Item}
use Rattle.ce_model.specs.Trace.{NodeRecord}
use Rattle.ce_model.specs.Subcubes.{node_of}
use Rattle.ce_model.specs.Renaming.{number_outward}
use Rattle.ce_model.specs.Limits.{node_room, mail_room}
use Rattle.ce_machine.specs.Tables.{HostRecord, desk_at}
use Rattle.ce_machine.specs.Desks.{AreChanged, change_at_node, with_items, letter, letters, IsOnDesks, IsInCube, HasMailRoom}
use Rattle.ce_solo.proofs.Renaming.Grants.{few_nodes}

-- so far this was posted, and these places are left
pub record IsPosted (sub : Subcube) (from : Place) (number : ℕ) (targets : List (Place × Block)) (desks : List NodeRecord) (host : HostRecord) (number' : ℕ)
    (targets' : List (Place × Block)) (desks' : List NodeRecord) (host' : HostRecord) : Type 0 where
  pub count : length desks' ≡ length desks
  pub each : (node : ℕ) → node < length desks
      → record (desk_at desks' node) { waiting_items = (desk_at desks' node).waiting_items ++ letters sub from number' targets' node }
      ≡ record (desk_at desks node) { waiting_items = (desk_at desks node).waiting_items ++ letters sub from number targets node }
  pub mail : record host' { mail = host'.mail ++ letters sub from number' targets' HOST } ≡ record host { mail = host.mail ++ letters sub from number targets HOST }

pub posted-none : (sub : Subcube) (from : Place) (number : ℕ) (targets : List (Place × Block)) (desks : List NodeRecord) (host : HostRecord)
    → IsPosted sub from number targets desks host number targets desks host
posted-none sub from number targets desks host = record { count = refl; each = λ node below. refl; mail = refl }

module _ {sub : Subcube} {from : Place} {number : ℕ} {targets : List (Place × Block)} {desks : List NodeRecord} {host : HostRecord} where
  -- one place more
  pub posted-more : {number' : ℕ} {target : Place × Block} {rest : List (Place × Block)} {now then_is : List NodeRecord} {host' host'' : HostRecord}
      → IsPosted sub from number targets desks host number' (target ∷ rest) now host'
      → AreChanged now then_is (change_at_node (number_outward sub target.0.node) (with_items (letter from number' target ∷ [])))
      → host'' ≡ record host' { mail = host'.mail ++ (if target.0.node == HOST then letter from number' target ∷ [] else []) }
      → (number_outward sub target.0.node == HOST) ≡ (target.0.node == HOST)
      → IsPosted sub from number targets desks host (number' + 1) rest then_is host''
  posted-more {number'} {target} {rest} {now} {then_is} {host'} {host''} posted changed host_is apart = record {
    count = changed.count ∙ posted.count;
    each = λ node below.
        ap (λ (node_record : NodeRecord). with_items (letters sub from (number' + 1) rest node) node_record) (changed.each node (omega (arith, posted.count)))
        ∙ joined (number_outward sub target.0.node == node) (desk_at now node) (letters sub from (number' + 1) rest node)
        ∙ posted.each node below;
    mail =
        ap (λ (host : HostRecord). record host { mail = host.mail ++ letters sub from (number' + 1) rest HOST }) host_is
        ∙ (λ i. record host' { mail = host_joined i }) ∙ posted.mail;
  }
    where
      one : List Item
      one = letter from number' target ∷ []

      joined : (b : Bool) (node_record : NodeRecord) (behind : List Item)
          → with_items behind (if b then with_items (letter from number' target ∷ []) node_record else node_record) ≡ with_items ((if b then letter from number' target ∷ [] else []) ++ behind) node_record
      joined true node_record behind = λ i. record node_record { waiting_items = append_assoc node_record.waiting_items (letter from number' target ∷ []) behind i }
      joined false node_record behind = refl

      host_joined : (host'.mail ++ (if target.0.node == HOST then letter from number' target ∷ [] else [])) ++ letters sub from (number' + 1) rest HOST
          ≡ host'.mail ++ letters sub from number' (target ∷ rest) HOST
      host_joined =
          append_assoc host'.mail (if target.0.node == HOST then letter from number' target ∷ [] else []) (letters sub from (number' + 1) rest HOST)
          ∙ ap (λ (b : Bool). host'.mail ++ ((if b then letter from number' target ∷ [] else []) ++ letters sub from (number' + 1) rest HOST)) (sym apart)

-- the host's number is the only one that becomes it
pub out-apart : {count dim : ℕ} {sub : Subcube} (to : Place) → IsOnDesks count dim sub → IsInCube dim to → (number_outward sub to.node == HOST) ≡ (to.node == HOST)
out-apart {count} {dim} {sub} to on is =
    elim (cases_Bool (to.node == HOST)) [
      | inl t ↦ ap (λ (b : Bool). (if b then HOST else node_of sub to.node) == HOST) t ∙ eq-eqb HOST HOST refl ∙ sym t
      | inr f ↦
          ap (λ (b : Bool). (if b then HOST else node_of sub to.node) == HOST) f
          ∙ ne_eqb (node_of sub to.node) HOST (λ e. omega (arith, on.within to.node (at_node_of is.0 f), on.few, e)) ∙ sym f
    ]
  where
    at_node_of : (to.node < 2 ^ dim) ⊎ (to.node ≡ HOST) → (to.node == HOST) ≡ false → to.node < 2 ^ dim
    at_node_of (inl below) f = below
    at_node_of (inr host) f = absurd (both_ways _ f (eq-eqb to.node HOST host))

pub out-own : {count dim : ℕ} {sub : Subcube} (n : ℕ) → IsOnDesks count dim sub → n < 2 ^ dim → (number_outward sub n == node_of sub n) ≡ true
out-own {count} {dim} {sub} n on below =
    let no : (n == HOST) ≡ false = ne_eqb n HOST (λ e. omega (arith, below, few_nodes dim on.small, e)) in
    rw no (eq-eqb (node_of sub n) (node_of sub n) refl)

module _ {sub : Subcube} {from : Place} {number : ℕ} {targets : List (Place × Block)} {desks : List NodeRecord} {host : HostRecord} (room : HasMailRoom sub from number targets desks host)
    {number' : ℕ} {target : Place × Block} {rest : List (Place × Block)} {desks' : List NodeRecord} {host' : HostRecord}
    (posted : IsPosted sub from number targets desks host number' (target ∷ rest) desks' host') where
  -- there is room for the next
  pub node-left : (node : ℕ) → node < length desks → (number_outward sub target.0.node == node) ≡ true → length (desk_at desks' node).waiting_items < node_room
  node-left node below goes =
      let front : letters sub from number' (target ∷ rest) node ≡ letter from number' target ∷ letters sub from (number' + 1) rest node =
      ap (λ (b : Bool). (if b then letter from number' target ∷ [] else []) ++ letters sub from (number' + 1) rest node) goes in
      omega (
        arith,
        room.nodes node below,
        ap (λ (node_record : NodeRecord). length node_record.waiting_items) (posted.each node below),
        length-append (desk_at desks' node).waiting_items (letters sub from number' (target ∷ rest) node),
        length-append (desk_at desks node).waiting_items (letters sub from number targets node),
        ap length front,
      )

  pub host-left : (number_outward sub target.0.node == HOST) ≡ true → length host'.mail < mail_room
  host-left goes =
      let front : letters sub from number' (target ∷ rest) HOST ≡ letter from number' target ∷ letters sub from (number' + 1) rest HOST =
      ap (λ (b : Bool). (if b then letter from number' target ∷ [] else []) ++ letters sub from (number' + 1) rest HOST) goes in
      omega (
        arith,
        room.mail,
        ap (λ (host : HostRecord). length host.mail) posted.mail,
        length-append host'.mail (letters sub from number' (target ∷ rest) HOST),
        length-append host.mail (letters sub from number targets HOST),
        ap length front,
      )

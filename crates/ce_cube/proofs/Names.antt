-- What a node can hear, the box that stands for it can hear with the machine's names.
use Rattle.std.proofs.Common.{◌≡◌, ℕ, ◌<◌, Bool, true, false, List, [], ◌∷◌, ◌++◌, map, flat_map, length, count_by, if◌then◌else◌, refl, ap, ap₂, sym, ◌∙◌, subst, inl, inr, arith}
use Rattle.std.specs.List.{AllByRecursion}
use Rattle.std.proofs.lemmas.Bool.{cases_Bool, both_ways}
use Rattle.std.proofs.lemmas.List.{map-append, length-map}
use Rattle.rv_model.specs.Image.{ImageParts}
use Rattle.ce_model.specs.declared.topology.BlockId.{BlockId}
use Rattle.ce_model.specs.declared.process.Status.{Status}
use Rattle.ce_model.specs.Limits.{greatest_blocks}
use Rattle.ce_model.specs.Blocks.{is_same_id}
use Rattle.ce_model.specs.Parcels.{Parcel, mail, is_eligible}
use Rattle.ce_model.specs.Process.{Process, is_receiving, is_stopped}
use Rattle.ce_model.specs.Space.{mapped_ids}
use Rattle.ce_model.specs.Node.{Node, take_call, process_at, blocks_of, process_set}
use Rattle.ce_model.specs.Hearing.{Hearing, start_of, mail_of, kill_of, poll_of, answer_of, nothing}
use Rattle.ce_model.specs.Owners.{IsBlockOf}
use Rattle.ce_model.specs.Subcubes.{node_of}
use Rattle.ce_model.specs.Sound.{is_unborn, is_polling}
use Rattle.ce_model.specs.Renaming.{CubeGrant, block_inward, block_outward, renamed_process, renamed_hearing, node_outward}
use Rattle.ce_solo.specs.Laws.{IsNodeOf, IsHearingOfCube}
use Rattle.ce_solo.proofs.Counting.{same_id, same_id-self}
use Rattle.ce_solo.proofs.Lists.{count_by-cons}
use Rattle.ce_solo.proofs.Renaming.Memory.{ids-renamed}
use Rattle.ce_solo.proofs.Renaming.Nodes.{process-renamed, take-renamed}
use Rattle.ce_solo.proofs.Projection.Numbers.{IsPlaced, block_in_out}
use Rattle.ce_cube.specs.Hearable.{IsHearable}

-- ---- blocks

module _ (rename : BlockId → BlockId) where
  windows_renamed : (ps : List Process) → flat_map (λ p. mapped_ids p.space) (map (renamed_process rename) ps) ≡ map rename (flat_map (λ p. mapped_ids p.space) ps)
  windows_renamed [] = refl
  windows_renamed (p ∷ ps) =
      ap₂ (λ xs ys. xs ++ ys) (ids-renamed rename p.space) (windows_renamed ps)
      ∙ sym (map-append rename (mapped_ids p.space) (flat_map (λ p. mapped_ids p.space) ps))

pub blocks-outward : (grant : CubeGrant) (node : Node) → blocks_of (node_outward grant node) ≡ map (block_outward grant) (blocks_of node)
blocks-outward grant node =
    ap (λ ids. map (block_outward grant) node.store ++ ids) (windows_renamed (block_outward grant) node.processes)
    ∙ sym (map-append (block_outward grant) node.store (flat_map (λ p. mapped_ids p.space) node.processes))

module _ (dim : ℕ) (grant : CubeGrant) (placed : IsPlaced dim grant) where
  pub same-outward : (a b : BlockId) → IsBlockOf grant.dim a → IsBlockOf grant.dim b → is_same_id (block_outward grant a) (block_outward grant b) ≡ is_same_id a b
  same-outward a b of_a of_b =
      elim (cases_Bool (is_same_id a b)) [
        | inl same ↦ ap (λ c. is_same_id (block_outward grant a) (block_outward grant c)) (sym (same_id a b same)) ∙ same_id-self (block_outward grant a) ∙ sym same
        | inr other ↦
            elim (cases_Bool (is_same_id (block_outward grant a) (block_outward grant b))) [
              | inl same ↦
                  let is : a ≡ b =
                  sym (block_in_out dim grant placed a of_a) ∙ ap (block_inward grant.sub) (same_id (block_outward grant a) (block_outward grant b) same)
                  ∙ block_in_out dim grant placed b of_b in
                  absurd (both_ways _ other (ap (is_same_id a) (sym is) ∙ same_id-self a))
              | inr differ ↦ differ ∙ sym other
            ]
      ]

  pub count-outward : (id : BlockId) (ids : List BlockId) → IsBlockOf grant.dim id → AllByRecursion (IsBlockOf grant.dim) ids
      → count_by (is_same_id (block_outward grant id)) (map (block_outward grant) ids) ≡ count_by (is_same_id id) ids
  count-outward id [] of all = refl
  count-outward id (other ∷ ids) of all =
      omega (
        arith,
        count_by-cons (is_same_id (block_outward grant id)) (block_outward grant other) (map (block_outward grant) ids),
        count_by-cons (is_same_id id) other ids,
        ap {B = ℕ} (λ b. if b then 1 else 0) (same-outward id other of all.0),
        count-outward id ids of all.1,
      )

  -- ---- processes

  module _ (node : Node) (blocks : IsNodeOf grant.dim node) where
    status_same : (pid : ℕ) → (process_at (node_outward grant node) pid).status ≡ (process_at node pid).status
    status_same pid = ap (λ (p : Process). p.status) (process-renamed (block_outward grant) (node_of grant.sub) node pid)

    pub same-status : (test : Status → Bool) (pid : ℕ) (b : Bool) → test (process_at node pid).status ≡ b → test (process_at (node_outward grant node) pid).status ≡ b
    same-status test pid b is = ap test (status_same pid) ∙ is

    pub can_be_given : (parcel : Parcel)
        → is_eligible (process_set is_receiving (node_outward grant node).processes) (process_set is_stopped (node_outward grant node).processes) (mail parcel)
        ≡ is_eligible (process_set is_receiving node.processes) (process_set is_stopped node.processes) (mail parcel)
    can_be_given parcel =
        ap (λ call. elim call [ take_call asking dead poller ↦ is_eligible asking dead (mail parcel) | other ↦ false ])
        (take-renamed (block_outward grant) (node_of grant.sub) node)

    pub hearable-outward : (images : List ImageParts) (hearing : Hearing) → IsHearingOfCube grant.dim hearing → IsHearable images node hearing
        → IsHearable images (node_outward grant node) (renamed_hearing (block_outward grant) hearing)
    hearable-outward images (start_of pid image) of is = record {
      pid_within = is.pid_within;
      image_within = is.image_within;
      unborn = same-status is_unborn pid true is.unborn;
      between_turns = is.between_turns;
    }
    hearable-outward images (mail_of parcel) of is = record {
      pid_within = is.pid_within;
      receiver = elim is.receiver [
        | inl asks ↦ inl (same-status is_receiving parcel.to.pid true asks)
        | inr ended ↦ inr (same-status is_stopped parcel.to.pid true ended)
      ];
      eligible = can_be_given parcel ∙ is.eligible;
      new = ap (count_by (is_same_id (block_outward grant parcel.block.id))) (blocks-outward grant node)
          ∙ count-outward parcel.block.id (blocks_of node) of blocks ∙ is.new;
      room = subst (λ n. n < greatest_blocks) (sym (ap length (blocks-outward grant node) ∙ length-map (blocks_of node) (block_outward grant))) is.room;
      between_turns = is.between_turns;
    }
    hearable-outward images (kill_of pid) of is = record {
      pid_within = is.pid_within;
      born = same-status is_unborn pid false is.born;
      between_turns = is.between_turns;
    }
    hearable-outward images (poll_of pid) of is = record {
      pid_within = is.pid_within;
      polls = same-status is_polling pid true is.polls;
      first = is.first;
      between_turns = is.between_turns;
    }
    hearable-outward images (answer_of value) of is = record { turn = is.turn; is = is.is }
    hearable-outward images nothing of is = tt

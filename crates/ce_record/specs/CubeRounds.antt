-- Rounds of a cube that a user holds, and the commands that run them, with the machine's numbers
-- for the nodes.
use Rattle.std.specs.Prelude.{◌≡◌, ℕ, Bool, true, false, List, [], ◌∷◌, ◌++◌, None, map, flat_map}
use Rattle.std.specs.List.{AllByRecursion}
use Rattle.ce_model.specs.declared.entry.Entry.{Entry}
use Rattle.ce_model.specs.declared.entry.What.TheVariants.{Arm, Look}
use Rattle.ce_model.specs.declared.entry.LookResult.{LookResult}
use Rattle.ce_model.specs.Renaming.{CubeGrant, entry_inward}
use Rattle.ce_model.specs.Literals.{host_entry}
use Rattle.ce_script.specs.Rounds.{RoundKind, IsRound, has_work, joined_lists}
use Rattle.ce_script.specs.Commands.{RecvEnd, host_take, end_entries, end_rounds}
use Rattle.ce_script.specs.Moments.{AreCallsOfUser}

-- a round of a user's cube, by which a node is given work or none is
pub record IsRoundOf (kind : RoundKind) (user : ℕ) (grant : CubeGrant) (gives_work : Bool)
    (round : List Entry) : Type 0 where
  pub calls : AreCallsOfUser user round
  pub is_round : IsRound kind grant.dim (map (entry_inward grant.sub) round)
  pub works : has_work round ≡ gives_work

-- `run` in a user's cube: dispatches are allowed, then come rounds up to the first without work,
-- then a look that finds this
pub record IsRunOf (kind : RoundKind) (user : ℕ) (grant : CubeGrant) (count : ℕ)
    (found : LookResult) (new_entries : List Entry) : Type 0 where
  pub rounds : List (List Entry)
  pub last : List Entry
  pub with_work : AllByRecursion (IsRoundOf kind user grant true) rounds
  pub without_work : IsRoundOf kind user grant false last
  pub entries : new_entries ≡ host_entry user (Arm count)
      ∷ (joined_lists rounds ++ (last ++ host_entry user (Look found) ∷ []))

-- `recv` in a user's cube: dispatches are allowed, then the host looks for a message, with a round
-- between each two looks, up to this end
pub record IsRecvOf (kind : RoundKind) (user : ℕ) (grant : CubeGrant) (count : ℕ) (end : RecvEnd)
    (new_entries : List Entry) : Type 0 where
  pub rounds : List (List Entry)
  pub with_work : AllByRecursion (IsRoundOf kind user grant true) rounds
  pub without_work : AllByRecursion (IsRoundOf kind user grant false) (end_rounds end)
  pub entries : new_entries ≡ host_entry user (Arm count)
      ∷ (flat_map (λ round. host_take user None ∷ round) rounds ++ end_entries user end)

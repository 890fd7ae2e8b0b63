-- The blocks of a user's host: how many can come to it, and the message that it sends next.
use Rattle.std.specs.Prelude.{ℕ, List, [], ◌∷◌, fold, slice_get, Option, option_map}
use Rattle.ce_model.specs.declared.topology.Place.{Place}
use Rattle.ce_model.specs.declared.topology.BlockId.{BlockId}
use Rattle.ce_model.specs.Blocks.{Block, without_id}
use Rattle.rk_mail.specs.Targets.{with_bytes}

-- a message to one place: the least block of a store carries it there, if there is one
abbrev pub message_for_place : Place → List ℕ → List Block → Option (List (Place × Block))
message_for_place to bytes blocks =
    option_map (λ block. (to, with_bytes bytes block) ∷ []) (slice_get blocks 0)

-- the names of a store without those of a message's blocks
abbrev pub without_targets : List (Place × BlockId) → List BlockId → List BlockId
without_targets targets ids = fold (λ others target. without_id target.1 others) ids targets

-- The turn of a node is within its limits.
use Rattle.std.proofs.Common.{Option, Some, None, IfSome, option_map}
use Rattle.ce_model.specs.Sound.{IsSoundTurn}
use Rattle.rk_node.specs.declared.turn.Turn.{Turn}
use Rattle.rk_node.specs.Standing.{turn_model}

pub sound_of : (turn : Turn) → IsSoundTurn (turn_model turn)
sound_of turn = record { pid = turn.pid.within; instructions_left = turn.instructions; calls = turn.counted }

pub sound_if : (turn : Option Turn) → IfSome (option_map turn_model turn) IsSoundTurn
sound_if None = tt
sound_if (Some turn) = sound_of turn

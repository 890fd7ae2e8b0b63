-- Lists of sound statements.
use Rattle.std.proofs.Common.{List, [], ◌∷◌, ◌++◌}
use Rattle.rv_asm.specs.declared.statement.Statement.{Statement}
use Rattle.rv_asm.specs.declared.statement.PlacedStatement.{PlacedStatement}
use Rattle.rv_asm.specs.Sound.{IsSoundStatement, AreSound, ArePlacedSound}

pub sound_push : (statements : List Statement) (statement : Statement) → AreSound statements → IsSoundStatement statement → AreSound (statements ++ statement ∷ [])
sound_push [] statement h one = (one, tt)
sound_push (first ∷ others) statement h one = (h.0, sound_push others statement h.1 one)

pub placed_push : (placed : List PlacedStatement) (one : PlacedStatement) → ArePlacedSound placed → IsSoundStatement one.statement → ArePlacedSound (placed ++ one ∷ [])
placed_push [] one h sound = (sound, tt)
placed_push (first ∷ others) one h sound = (h.0, placed_push others one h.1 sound)

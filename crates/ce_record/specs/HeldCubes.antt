-- What a user holds behind a history, as the machine's state says it, and where the turns of its
-- nodes are over.
use Rattle.std.specs.Prelude.{ℕ, List, Option, option_map}
use Rattle.ce_model.specs.declared.entry.Entry.{Entry}
use Rattle.ce_model.specs.Views.{view}
use Rattle.ce_model.specs.Cube.{Cube, opening}
use Rattle.ce_model.specs.Machine.{MachineParts, HeldCube, after, cube_held_by, cube_of}
use Rattle.ce_script.specs.Rounds.{AreTurnsOver}
use Rattle.ce_script.specs.Moments.{Holding}

-- a cube that is held, with its trace in the history
abbrev pub cube_holding : List Entry → HeldCube → Holding
cube_holding history cube = record { grant = cube.grant; trace = view history cube.number }

-- the cube that a user holds behind a history
abbrev pub history_holding : List Entry → ℕ → Option Holding
history_holding history user = option_map (cube_holding history) (cube_held_by (after history) user)

-- the cube that is held
abbrev pub granted_cube : MachineParts → HeldCube → Cube
granted_cube parts cube = cube_of parts.images cube.grant

-- behind a history the turns of all its nodes are over
abbrev pub AreTurnsOverIn : MachineParts → List Entry → HeldCube → Type 0
AreTurnsOverIn parts history cube = AreTurnsOver (granted_cube parts cube)
    (opening (granted_cube parts cube)) (view history cube.number)

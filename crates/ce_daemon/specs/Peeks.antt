-- Grants and what a peek finds, as the machine's model says them.
use Rattle.std.specs.Prelude.{ℕ, map}
use Rattle.ce_model.specs.Renaming.{CubeGrant}
use Rattle.ce_model.specs.Machine.{MachineParts, MachineState, free_count, held_grants}
use Rattle.ce_daemon.specs.declared.grant.Grant.{Grant}
use Rattle.ce_daemon.specs.declared.grant.PeekResult.{PeekResult}

-- a grant with its number
abbrev pub numbered_grant : ℕ × CubeGrant → Grant
numbered_grant (number, grant) =
    record { number = number; user = grant.user; dim = grant.dim; sub = grant.sub }

-- the cube of a grant, without its number
abbrev pub cube_grant : Grant → CubeGrant
cube_grant grant = record { user = grant.user; dim = grant.dim; sub = grant.sub }

-- what a peek finds: how many nodes are free, and which cubes are held
abbrev pub peek_result : MachineParts → MachineState → PeekResult
peek_result machine state =
    record { free = free_count machine state; grants = map numbered_grant (held_grants state) }

-- What a daemon has granted, and what is free.
use Rattle.std.specs.Prelude.{◌≡◌, ℕ, ◌+◌, ◌^◌, ◌<◌, List, [], ◌∷◌, ◌++◌, Option, Result, IfOk, IfSome, Bool, not, ◌==◌, if◌then◌else◌, filter, find, count_by}
use Rattle.std.specs.List.{list_any}
use Rattle.ce_model.specs.declared.topology.NodeSet.{NodeSet}
use Rattle.ce_model.specs.declared.topology.Subcube.{Subcube}
use Rattle.ce_model.specs.Subcubes.{is_inside, has_node}
use Rattle.ce_daemon.specs.declared.grant.Grant.{Grant}

-- a machine of this dimension, of which so many subcubes were granted so far, and these are held
pub record GrantTable : Type 0 where
  pub dim : ℕ
  pub count : ℕ
  pub grants : List Grant

-- the user holds this grant
abbrev pub is_grant_of : ℕ → Grant → Bool
is_grant_of user grant = grant.user == user

-- the grant that a user holds
abbrev pub grant_held_by : GrantTable → ℕ → Option Grant
grant_held_by table user = find (is_grant_of user) table.grants

-- the node is one of the grant's
abbrev pub is_granted : ℕ → Grant → Bool
is_granted node grant = is_inside grant.sub node

-- a node is free where it is in no grant that is held
abbrev pub is_ungranted : GrantTable → ℕ → Bool
is_ungranted table node = not (list_any (is_granted node) table.grants)

-- the grant of this subcube that a user gets next, where so many subcubes were granted
abbrev pub next_grant : (count user dim : ℕ) → Subcube → Grant
next_grant count user dim sub = record { number = count; user = user; dim = dim; sub = sub }

-- one grant more
abbrev pub table_with_grant : Grant → GrantTable → GrantTable
table_with_grant grant table =
    record table { count = table.count + 1; grants = table.grants ++ grant ∷ [] }

-- without the grant of a user
abbrev pub without_user : ℕ → GrantTable → GrantTable
without_user user table =
    record table { grants = filter (λ grant. not (is_grant_of user grant)) table.grants }

-- each node of the machine is in the free set or in one of the grants, and in one of them alone
abbrev pub IsPartition : ℕ → List Grant → NodeSet → Type 0
IsPartition dim grants free =
    (node : ℕ) → node < 2 ^ dim
    → count_by (is_granted node) grants + (if has_node free node then 1 else 0) ≡ 1

-- a grant was made, with boxes, of which this holds
abbrev pub IfGranted : {N E : Type 0} → Result (Option N) E → (N → Type 0) → Type 0
IfGranted result P = IfOk result (λ answer. IfSome answer P)

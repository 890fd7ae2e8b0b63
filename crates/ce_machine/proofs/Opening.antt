-- The tables of a machine of which nothing was asked yet.
use Rattle.std.proofs.Common.{◌≡◌, ℕ, ◌^◌, List, [], length, sym, ap, subst}
use Rattle.ce_model.specs.declared.entry.Entry.{Entry}
use Rattle.ce_model.specs.Trace.{NodeRecord, blank_record}
use Rattle.ce_model.specs.Machine.{MachineParts, IsMachine, after}
use Rattle.ce_daemon.specs.Holding.{GrantTable}
use Rattle.ce_machine.specs.Tables.{HostRecord, blank_host, desk_at, host_at, AreTables, IsSoundMachine}

module _ (parts : MachineParts) (machine : IsMachine parts) (table : GrantTable) (desks : List NodeRecord) (hosts : List HostRecord)
    (nothing : table ≡ record { dim = parts.dim; count = 0; grants = [] })
    (nodes : length desks ≡ 2 ^ parts.dim) (blank : (node : ℕ) → desk_at desks node ≡ blank_record)
    (users : length hosts ≡ parts.users) (alone : (user : ℕ) → host_at hosts user ≡ blank_host) where
  tables-new : AreTables parts (after []) table desks hosts
  unfolding after
  tables-new = record {
    table_is = nothing;
    desk_count = nodes;
    desk_is = λ node below. blank node;
    host_count = users;
    host_is = λ user below. alone user;
  }

  sound_at : IsSoundMachine parts [] table desks hosts
  sound_at = record { machine = machine; lawful = tt; tables = tables-new }

  -- the machine is sound, whose dimension is the daemon's
  pub sound-new : (h : List Entry) → h ≡ [] → IsSoundMachine (record parts { dim = table.dim }) h table desks hosts
  sound-new h none =
      subst (λ dim. IsSoundMachine (record parts { dim = dim }) h table desks hosts) (sym (ap (λ (held : GrantTable). held.dim) nothing))
      (subst (λ h. IsSoundMachine parts h table desks hosts) (sym none) sound_at)

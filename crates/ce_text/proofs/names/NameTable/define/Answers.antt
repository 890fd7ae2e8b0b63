use Rattle.std.proofs.Common.{List, ℕ, Some, ap, ◌∙◌}
use Rattle.std.proofs.Math.Path.{fun_ext}
use Rattle.std.specs.Prelude.{bytes_eq}
use Rattle.std.specs.Map.{update}
use Rattle.ce_text.specs.Names.{meanings_of}
use Rattle.ce_text.proofs.NameTables.{defined}
use Rattle.ce_text.proofs.names.NameTable.define.Goals as goal

pub returns : goal.returns
returns g c = fun_ext (λ name.
    defined c.args.self.now (record { alloc = c.args.self.now.alloc; meanings = c.insert.new.self }) c.in_ok-name.name c.args.meaning c.in_ok-insert.ensures.updates name
    ∙ ap (λ (key : List ℕ). update bytes_eq (meanings_of c.args.self.now) key (Some c.args.meaning) name) c.in_ok-name.ensures.items)

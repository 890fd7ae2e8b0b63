use Rattle.std.proofs.Common.{◌≡◌, map}
use Rattle.rv_asm.specs.Faults.{judgment_of_list}
use Rattle.rv_asm.specs.Line.{pieces}
use Rattle.ce_text.specs.Names.{meanings_of}
use Rattle.rv_asm.specs.Views.{datum_value, list_judgment}
use Rattle.rv_asm.specs.Sound.{AreSound}
use Rattle.rv_asm.proofs.Gathering.{rest_bytes, rest_size, with_rest}
use Rattle.rv_asm.proofs.statement.data.Given as goal

abbrev pub invariant-loop-rest : goal.invariant-loop-rest
invariant-loop-rest l = record {
  whole : with_rest (datum_value l.datum (meanings_of l.symbols)) (list_judgment l.fault l.list.items) (rest_bytes l.rest) ≡ judgment_of_list (map (datum_value l.datum (meanings_of l.symbols)) (pieces l.fn.operands));
  sound : AreSound l.list.items;
}

abbrev pub decreases-loop-rest : goal.decreases-loop-rest
decreases-loop-rest l = rest_size l.rest

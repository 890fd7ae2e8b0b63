use Rattle.ce_script.proofs.Judging.{name_is_text}
use Rattle.ce_script.proofs.reader.state.name_of.Goals as goal

pub unreachable-requires : goal.unreachable-requires
unreachable-requires c = c.in-Err.ensures.cases.0 (name_is_text c.args.word.now c.requires)

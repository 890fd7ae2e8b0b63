use Rattle.std.proofs.Common.{refl}
use Rattle.ce_text.specs.Name as text
use Rattle.ce_script.specs.Names.{is_name, name_room}
use Rattle.ce_script.proofs.tests.a_record_keeps_replies_and_history.Goals as goal

pub from_text-name-requires : goal.from_text-name-requires
unfolding is_name name_room text.is_name
from_text-name-requires g c = rw c.in_ok-from_str.ensures.ok refl

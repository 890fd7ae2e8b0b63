-- What texts are computed with.
use Rattle.std.specs.Prelude.{ℕ, List, Option}
use Rattle.ce_model.specs.Limits.{greatest_dim, greatest_count, greatest_users, greatest_images, block_room}
use Rattle.ce_script.specs.declared.script.ScriptFault.{ScriptFault}
use Rattle.ce_text.specs.Line.{cut_parts, before_comment}
use Rattle.ce_text.specs.Name as text
use Rattle.ce_text.specs.Words.{line_words}
use Rattle.ce_text.specs.Number.{number_of_digits}
use Rattle.ce_script.specs.Names.{name_room, is_name}
use Rattle.ce_script.specs.Lines.{lines}
use Rattle.ce_script.specs.Spellings.{bounded_number, written_bytes, instruction_in, data_in}
use Rattle.ce_script.specs.Verbs.{verbs, verb_of, form_of}
use Rattle.ce_script.specs.Statements.{found_body, standing_statement, statements}
use Rattle.ce_script.specs.Bodies.{body_bytes, body_text, form_image, form_fault, body_fault}
use Rattle.ce_script.specs.Sayings.{image_names, users}
use Rattle.ce_script.specs.Faults.{operands_fault, own_line_fault, first_script_fault}

-- the first fault of a text, with all of the grammar unfolded
unfoldable pub grammar : List ℕ → Option ScriptFault
unfolding first_script_fault own_line_fault operands_fault image_names users body_fault form_fault form_image body_text body_bytes statements standing_statement found_body form_of verb_of verbs data_in instruction_in written_bytes bounded_number number_of_digits is_name name_room text.is_name line_words before_comment cut_parts lines greatest_dim greatest_count greatest_users greatest_images block_room
grammar bytes = first_script_fault bytes

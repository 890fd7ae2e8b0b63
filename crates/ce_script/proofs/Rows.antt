-- What the worked rows are written down with, and what holds of a cube of one node.
use Rattle.std.proofs.Common.{refl, ◌++◌, ◌∷◌, ℕ, zero, suc, List, [], IsTrue, take, drop, sym, append-nil, arith}
use Rattle.rv_model.specs.Image.{ImageParts}
use Rattle.ce_model.specs.declared.topology.TheConstants.{HOST}
use Rattle.ce_model.specs.declared.entry.Entry.{Entry}
use Rattle.ce_model.specs.declared.entry.What.TheVariants.{Arm, Look}
use Rattle.ce_model.specs.declared.entry.LookResult.TheVariants as look_result
pub use Rattle.ce_model.specs.Literals.{entry_of, place, block, subcube, first_bytes, second_bytes, third_bytes}
use Rattle.ce_model.specs.Cube.{Cube, opening, next_call}
use Rattle.ce_host.specs.declared.command.Command.{Command}
use Rattle.ce_host.specs.declared.answer.Answer.{Answer}
use Rattle.ce_host.specs.declared.answer.Answer.TheVariants.{Quiet}
use Rattle.ce_script.specs.Rounds.{RoundKind, IsTurn, IsSerialRound, IsRoundWithWork, IsRoundWithoutWork, AreTurnsOver, asks_for_work, joined_lists}
use Rattle.ce_script.specs.Commands.{IsRun}
use Rattle.ce_script.specs.Moments.{moments}
use Rattle.ce_script.specs.Doings.{Doing}

-- a command whose entries are so many of the history, behind so many
abbrev pub doing_in : List Entry → Command → Answer → ℕ → ℕ → Doing
doing_in history command answer first count = record { command = command; answer = answer; moments = take count (drop first (moments history)) }

-- ---- a cube of one node and one image

abbrev pub one_cube : ℕ → ImageParts → Cube
one_cube user image = record { user = user; dim = 0; images = image ∷ [] }

-- a turn of the node is a serial round
pub turn_is_round : (turn : List Entry) → IsTurn 0 turn → IsSerialRound 0 turn
turn_is_round turn own = record { turns = turn ∷ []; each = (own, tt); all = sym (append-nil turn) }

pub turns_over : (user : ℕ) (image : ImageParts) (t : List Entry) → IsTrue (asks_for_work (next_call (one_cube user image) (opening (one_cube user image)) 0 t))
    → AreTurnsOver (one_cube user image) (opening (one_cube user image)) t
turns_over user image t asks zero below = asks
turns_over user image t asks (suc r) below = absurd (omega (arith, below))

-- a run of one round with work and one without, whose look finds the cube quiet
pub two_rounds : (kind : RoundKind) (user : ℕ) (image : ImageParts) (count : ℕ) (work idle : List Entry) → IsRoundWithWork kind 0 work → IsRoundWithoutWork kind 0 idle
    → IsRun kind (one_cube user image) count Quiet (entry_of user HOST (Arm count) ∷ (joined_lists (work ∷ []) ++ (idle ++ entry_of user HOST (Look look_result.Quiet) ∷ [])))
two_rounds kind user image count work idle with_work without_work = record {
  rounds = work ∷ [];
  last = idle;
  found = look_result.Quiet;
  with_work = (with_work, tt);
  without_work = without_work;
  entries = refl;
  reply = refl;
}

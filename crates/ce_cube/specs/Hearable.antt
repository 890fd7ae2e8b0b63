-- What a node must be for what it hears, and how many calls its turn may still make.
use Rattle.std.specs.Prelude.{◌≡◌, ◌⊎◌, ℕ, ◌-◌, ◌<◌, false, IsTrue, List, length, count_by, slice_get, Option, Some, None}
use Rattle.rv_model.specs.Image.{ImageParts}
use Rattle.ce_model.specs.Limits.{process_count, turn_calls, greatest_blocks}
use Rattle.ce_model.specs.Blocks.{is_same_id}
use Rattle.ce_model.specs.Parcels.{Parcel, mail, is_eligible}
use Rattle.ce_model.specs.Process.{is_receiving, is_stopped}
use Rattle.ce_model.specs.Node.{Turn, Node, process_at, blocks_of, process_set}
use Rattle.ce_model.specs.Hearing.{Hearing, start_of, mail_of, kill_of, poll_of, answer_of, nothing}
use Rattle.ce_model.specs.Sound.{is_unborn, is_polling}
use Rattle.rk_mail.specs.declared.talk.Hearing as program
use Rattle.rk_mail.specs.Talk.{hearing_model, IsAnswerTo}
use Rattle.ce_model.specs.Saying.{Saying}

-- ---- what can be heard

-- an image of these can be started as a process that wasn't born yet
pub record IsStartable (images : List ImageParts) (node : Node) (pid image : ℕ) : Type 0 where
  pub pid_within : pid < process_count
  pub image_within : image < length images
  pub unborn : IsTrue (is_unborn (process_at node pid).status)
  pub between_turns : node.turn ≡ None

-- a parcel can come to a process that asks for a message or has stopped; its block is new to the
-- node, which has room for it
pub record IsDeliverable (node : Node) (parcel : Parcel) : Type 0 where
  pub pid_within : parcel.to.pid < process_count
  pub receiver : IsTrue (is_receiving (process_at node parcel.to.pid).status)
      ⊎ IsTrue (is_stopped (process_at node parcel.to.pid).status)
  pub eligible : IsTrue
      (is_eligible (process_set is_receiving node.processes)
      (process_set is_stopped node.processes) (mail parcel))
  pub new : count_by (is_same_id parcel.block.id) (blocks_of node) ≡ 0
  pub room : length (blocks_of node) < greatest_blocks
  pub between_turns : node.turn ≡ None

-- a process that was born can be ended
pub record IsEndable (node : Node) (pid : ℕ) : Type 0 where
  pub pid_within : pid < process_count
  pub born : is_unborn (process_at node pid).status ≡ false
  pub between_turns : node.turn ≡ None

-- the process that polls longest can be told to go on
pub record IsPoller (node : Node) (pid : ℕ) : Type 0 where
  pub pid_within : pid < process_count
  pub polls : IsTrue (is_polling (process_at node pid).status)
  pub first : slice_get node.polling_ids 0 ≡ Some pid
  pub between_turns : node.turn ≡ None

-- there is a turn, of a process whose call can be answered
pub record HasAnswerableTurn (node : Node) : Type 0 where
  pub turn : Turn
  pub is : node.turn ≡ Some turn

-- the node can hear this
abbrev pub IsHearable : List ImageParts → Node → Hearing → Type 0
IsHearable images node (start_of pid image) = IsStartable images node pid image
IsHearable images node (mail_of parcel) = IsDeliverable node parcel
IsHearable images node (kill_of pid) = IsEndable node pid
IsHearable images node (poll_of pid) = IsPoller node pid
IsHearable images node (answer_of value) = HasAnswerableTurn node
IsHearable images node nothing = Unit {0}

-- what is heard is an answer to what was said, and the node can hear it
pub record IsRightAnswer (images : List ImageParts) (saying : Saying)
    (hearing : program.Hearing) : Type 0 where
  pub answers : IsAnswerTo saying.call hearing
  pub hearable : IsHearable images saying.node (hearing_model hearing)

-- ---- how long a turn can be

-- how many counted calls a turn may still make; none where there is no turn
abbrev pub turn_calls_left : Option Turn → ℕ
turn_calls_left None = 0
turn_calls_left (Some turn) = turn_calls - turn.calls

abbrev pub calls_left : Node → ℕ
calls_left node = turn_calls_left node.turn

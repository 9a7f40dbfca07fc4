-- What the log has no room for.
use Rattle.std.specs.Prelude.{ℕ, ◌+◌, ◌-◌, List, [], ◌∷◌, length, Option, None, Some, Result, Ok, Err}
use Rattle.sx_log.specs.Room.{room_for}
use Rattle.sx_log.specs.declared.fault.RoomFault.{RoomFault}
use Rattle.sx_log.specs.declared.fault.RoomFault.TheVariants as faults
use Rattle.sx_model.specs.Commit.{Commit, replay}
use Rattle.sx_model.specs.State.{empty_document}
use Rattle.sx_run.specs.declared.reply.Said.{Said}
use Rattle.sx_run.specs.declared.reply.Said.TheVariants as said
use Rattle.sx_whole.specs.Stands.{body_size}

-- what is said where there is no room
abbrev pub said_of : Result ℕ RoomFault → Option Said
said_of (Ok bytes) = None
said_of (Err (faults.LogFull frames revisions)) = Some (said.LogFull frames revisions)
said_of (Err (faults.CommitTooLarge bytes)) = Some (said.CommitTooLarge bytes)

-- the bytes of the frame of the last of these commits
abbrev pub frame_size : List Commit → ℕ
frame_size commits = 5 + body_size (replay commits empty_document)

-- The reply to a commit that would make these commits, where there is no room for it. Each commit has one frame.
abbrev pub room : List Commit → Option Said
room commits = said_of (room_for (length commits - 1) (length commits - 1) (frame_size commits ∷ []))

-- Whether a log has room for a group more.
use Rattle.std.specs.Prelude.{ℕ, ◌+◌, ◌||◌, nat_lt, List, length, sum, Result, Ok, Err, if◌then◌else◌}
use Rattle.sx_layout.specs.FrameGroup.{group_limit, group_size}
use Rattle.sx_layout.specs.Rules.{log_limit}
use Rattle.sx_log.specs.declared.fault.RoomFault.{RoomFault}
use Rattle.sx_log.specs.declared.fault.RoomFault.TheVariants.{LogFull, CommitTooLarge}

-- Of frames of these lengths: the log would have too many frames or revisions, or the group too many bytes, or it has so many.
abbrev pub room_for : ℕ → ℕ → List ℕ → Result ℕ RoomFault
room_for frames revisions lengths =
    let bytes = group_size (length lengths) (sum lengths) in
    if nat_lt log_limit (frames + length lengths) || nat_lt log_limit (revisions + 1) then Err (LogFull frames revisions) else
    if nat_lt group_limit bytes then Err (CommitTooLarge bytes) else
    Ok bytes

use Rattle.std.proofs.Common.{◌≤◌, ◌-◌, length, take}
use Rattle.sx_json.specs.Piece.{ArePlain}
use Rattle.sx_json.proofs.strings.plain_len.Given as goal

abbrev pub invariant-loop-place : goal.invariant-loop-place
invariant-loop-place l = (l.place ≤ length l.bytes) × ArePlain (take l.place l.bytes)

abbrev pub decreases-loop-place : goal.decreases-loop-place
decreases-loop-place l = length l.bytes - l.place

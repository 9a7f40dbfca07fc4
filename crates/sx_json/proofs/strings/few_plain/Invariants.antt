use Rattle.std.proofs.Common.{take}
use Rattle.sx_json.specs.Piece.{ArePlain}
use Rattle.sx_json.proofs.strings.few_plain.Given as goal

abbrev pub invariant-loop-place : goal.invariant-loop-place
invariant-loop-place l = ArePlain (take l.place l.bytes)

use Rattle.std.proofs.Common.{◌≡◌, ◌++◌, length, take}
use Rattle.std.specs.List.{flat_map}
use Rattle.sx_model.specs.Canonical.{escaped}
use Rattle.sx_json.proofs.writer.write_string.Given as goal

abbrev pub invariant-loop-byte : goal.invariant-loop-byte
invariant-loop-byte l = record {
  written : l.out ≡ l.initial.out ++ flat_map escaped (take l.byte-index l.content);
  begins : take (length l.fn.out) l.out ≡ l.fn.out;
}

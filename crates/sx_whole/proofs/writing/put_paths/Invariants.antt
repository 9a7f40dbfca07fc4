use Rattle.std.proofs.Common.{◌≡◌, ◌++◌, length, take}
use Rattle.std.specs.Prelude.{flat_map}
use Rattle.std.specs.Int.{w32, to_be_bytes}
use Rattle.sx_whole.specs.Body.{AreRows, path_entry}
use Rattle.sx_whole.proofs.writing.put_paths.Given as goal

abbrev pub invariant-loop-before : goal.invariant-loop-before
invariant-loop-before l = record {
  out_is : l.out ≡ l.fn.out ++ (to_be_bytes w32 (length l.paths.paths) ++ flat_map path_entry (take l.before l.paths.paths));
  known : AreRows (take l.before l.paths.paths);
}

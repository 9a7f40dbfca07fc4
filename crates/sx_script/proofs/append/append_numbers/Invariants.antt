use Rattle.std.proofs.Common.{◌≡◌, ◌++◌, length, take}
use Rattle.std.specs.List.{flat_map}
use Rattle.sx_run.specs.Reply.{spaced}
use Rattle.sx_script.proofs.append.append_numbers.Given as goal

abbrev pub invariant-loop-number : goal.invariant-loop-number
invariant-loop-number l = record {
  written : l.out ≡ l.initial.out ++ flat_map spaced (take l.number-index l.numbers);
  begins : take (length l.fn.out) l.out ≡ l.fn.out;
}

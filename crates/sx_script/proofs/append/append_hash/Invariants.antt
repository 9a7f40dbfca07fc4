use Rattle.std.proofs.Common.{◌≡◌, ◌++◌, ◌/◌, ◌%◌, [], ◌∷◌, length, take}
use Rattle.std.specs.Int.{to_be_bytes, w128}
use Rattle.std.specs.List.{flat_map}
use Rattle.sx_model.specs.Canonical.{lower_hex_digit}
use Rattle.sx_script.proofs.append.append_hash.Given as goal

abbrev pub invariant-loop-byte : goal.invariant-loop-byte
invariant-loop-byte l = record {
  written : l.out ≡ l.initial.out ++ flat_map (λ byte. lower_hex_digit (byte / 16) ∷ lower_hex_digit (byte % 16) ∷ []) (take l.byte-index (to_be_bytes w128 l.hash));
  begins : take (length l.fn.out) l.out ≡ l.fn.out;
}

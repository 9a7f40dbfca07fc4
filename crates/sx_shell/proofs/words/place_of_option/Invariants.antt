use Rattle.std.proofs.Common.{◌≡◌, ◌+◌, drop, map}
use Rattle.std.specs.String.{string_bytes}
use Rattle.sx_shell.specs.Plain.{place_of_option}
use Rattle.sx_shell.proofs.words.place_of_option.Given as goal

abbrev pub invariant-loop-word : goal.invariant-loop-word
invariant-loop-word l = (l.place ≡ l.word-index) × (place_of_option (map string_bytes l.words) ≡ l.word-index + place_of_option (map string_bytes (drop l.word-index l.words)))

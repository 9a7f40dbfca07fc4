-- The words behind a command, as they are kept.
use Rattle.std.specs.Prelude.{ℕ, suc, ◌++◌, List, [], ◌∷◌, map, if◌then◌else◌}
use Rattle.std.specs.String.{string_bytes}
use Rattle.sx_shell.specs.Words.{is_option}
use Rattle.sx_shell.specs.declared.words.Plain.{Plain}

abbrev pub plain_of : Plain → List (List ℕ)
plain_of plain = map string_bytes plain.front.now ++ map string_bytes plain.back.now

-- how many words stand before the first option
abbrev pub place_of_option : List (List ℕ) → ℕ
place_of_option [] = 0
place_of_option (word ∷ words) = if is_option word then 0 else suc (place_of_option words)

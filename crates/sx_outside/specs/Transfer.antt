-- Bytes that are taken from a source or put into a sink, where it tells them.
use Rattle.std.specs.Prelude.{◌≡◌, ◌↔◌, ℕ, List, [], ◌++◌, Option, None, Some}

-- These bytes are taken from those that were left. None is taken exactly where none is left.
abbrev pub Takes : Option (List ℕ) → List ℕ → Option (List ℕ) → Type 0
Takes None piece left = Unit {0}
Takes (Some bytes) piece left = (rest : List ℕ) × (bytes ≡ piece ++ rest) × (left ≡ Some rest) × ((piece ≡ []) ↔ (bytes ≡ []))

-- these bytes come behind those that were written
abbrev pub Gains : Option (List ℕ) → List ℕ → Option (List ℕ) → Type 0
Gains None piece written = Unit {0}
Gains (Some bytes) piece written = written ≡ Some (bytes ++ piece)

-- bytes that were told are told again, and are the same
abbrev pub Stays : Option (List ℕ) → Option (List ℕ) → Type 0
Stays None now = Unit {0}
Stays (Some bytes) now = now ≡ Some bytes

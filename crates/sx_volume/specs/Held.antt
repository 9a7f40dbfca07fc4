-- The piece that a volume holds for its next append.
use Rattle.std.specs.Prelude.{◌≡◌, ◌≤◌, ◌+◌, ◌-◌, ℕ, List, [], Option, None, Some, length, take, drop}
use Rattle.std.specs.Arc.{arc_value}
use Rattle.sx_volume.specs.declared.held_piece.HeldPiece.{HeldPiece}

-- the place and the bytes of the held piece
abbrev pub place_and_bytes : Option HeldPiece → Option (ℕ × List ℕ)
place_and_bytes None = None
place_and_bytes (Some held) = Some (held.at, (arc_value held.piece).items)

-- a piece is held for this place
abbrev pub IsHeldFor : Option (ℕ × List ℕ) → ℕ → Type 0
IsHeldFor None place = ⊥
IsHeldFor (Some held) place = held.0 ≡ place

-- the bytes of the held piece
abbrev pub held_piece : Option (ℕ × List ℕ) → List ℕ
held_piece None = []
held_piece (Some held) = held.1

-- the range lies in the held piece, at the place that it is held for
abbrev pub LiesInHeld : Option (ℕ × List ℕ) → ℕ → ℕ → Type 0
LiesInHeld None at count = ⊥
LiesInHeld (Some held) at count = (held.0 ≤ at) × (at + count ≤ held.0 + length held.1)

-- the bytes of that range
abbrev pub held_range : Option (ℕ × List ℕ) → ℕ → ℕ → List ℕ
held_range None at count = []
held_range (Some held) at count = take count (drop (at - held.0) held.1)

-- where the held piece ends, at the place that it is held for
abbrev pub held_end : Option (ℕ × List ℕ) → ℕ
held_end None = 0
held_end (Some held) = held.0 + length held.1

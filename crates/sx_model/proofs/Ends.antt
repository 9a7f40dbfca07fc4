-- What may stand behind a value, and that no number goes on with it.
use Rattle.std.proofs.Common.{◌≡◌, ℕ, ◌≤◌, ◌⊎◌, inl, inr, List, ◌∷◌, arith}
use Rattle.sx_tree.proofs.NumberBytes.{IsNumberByte}
use Rattle.sx_tree.specs.Value.{Values, no_values, value_then, Fields, no_fields, field_then}
use Rattle.sx_model.specs.Grammar.{MoreElementsAt, MoreMembersAt}
use Rattle.sx_model.proofs.StringShapes.{heads}
use Rattle.sx_model.proofs.FirstBytes.{blank_small}

-- what may stand behind a value
abbrev pub IsEnd : ℕ → Type 0
IsEnd byte = (byte ≤ 32) ⊎ ((byte ≡ 44) ⊎ ((byte ≡ 93) ⊎ (byte ≡ 125)))

pub elements_end : (vs : Values) (room byte : ℕ) (rest left : List ℕ) → MoreElementsAt vs room (byte ∷ rest) left → IsEnd byte
elements_end no_values room byte rest left (inl e) = inr (inr (inl (heads byte 93 rest left e).0))
elements_end no_values room byte rest left (inr b) = inl (blank_small byte b.0)
elements_end (value_then y ys) room byte rest left (inl p) = inr (inl (heads byte 44 rest p.0 p.1).0)
elements_end (value_then y ys) room byte rest left (inr b) = inl (blank_small byte b.0)

pub members_end : (fs : Fields) (room byte : ℕ) (rest left : List ℕ) → MoreMembersAt fs room (byte ∷ rest) left → IsEnd byte
members_end no_fields room byte rest left (inl e) = inr (inr (inr (heads byte 125 rest left e).0))
members_end no_fields room byte rest left (inr b) = inl (blank_small byte b.0)
members_end (field_then n y ys) room byte rest left (inl p) = inr (inl (heads byte 44 rest p.0 p.1).0)
members_end (field_then n y ys) room byte rest left (inr b) = inl (blank_small byte b.0)

pub apart : (byte : ℕ) → IsNumberByte byte → IsEnd byte → ⊥
apart byte (inl n) (inl e) = omega (arith, n.0, n.1, e)
apart byte (inl n) (inr (inl e)) = omega (arith, n.0, n.1, e)
apart byte (inl n) (inr (inr (inl e))) = omega (arith, n.0, n.1, e)
apart byte (inl n) (inr (inr (inr e))) = omega (arith, n.0, n.1, e)
apart byte (inr (inl n)) (inl e) = omega (arith, n, e)
apart byte (inr (inl n)) (inr (inl e)) = omega (arith, n, e)
apart byte (inr (inl n)) (inr (inr (inl e))) = omega (arith, n, e)
apart byte (inr (inl n)) (inr (inr (inr e))) = omega (arith, n, e)
apart byte (inr (inr (inl n))) (inl e) = omega (arith, n, e)
apart byte (inr (inr (inl n))) (inr (inl e)) = omega (arith, n, e)
apart byte (inr (inr (inl n))) (inr (inr (inl e))) = omega (arith, n, e)
apart byte (inr (inr (inl n))) (inr (inr (inr e))) = omega (arith, n, e)
apart byte (inr (inr (inr (inl n)))) (inl e) = omega (arith, n, e)
apart byte (inr (inr (inr (inl n)))) (inr (inl e)) = omega (arith, n, e)
apart byte (inr (inr (inr (inl n)))) (inr (inr (inl e))) = omega (arith, n, e)
apart byte (inr (inr (inr (inl n)))) (inr (inr (inr e))) = omega (arith, n, e)
apart byte (inr (inr (inr (inr (inl n))))) (inl e) = omega (arith, n, e)
apart byte (inr (inr (inr (inr (inl n))))) (inr (inl e)) = omega (arith, n, e)
apart byte (inr (inr (inr (inr (inl n))))) (inr (inr (inl e))) = omega (arith, n, e)
apart byte (inr (inr (inr (inr (inl n))))) (inr (inr (inr e))) = omega (arith, n, e)
apart byte (inr (inr (inr (inr (inr n))))) (inl e) = omega (arith, n, e)
apart byte (inr (inr (inr (inr (inr n))))) (inr (inl e)) = omega (arith, n, e)
apart byte (inr (inr (inr (inr (inr n))))) (inr (inr (inl e))) = omega (arith, n, e)
apart byte (inr (inr (inr (inr (inr n))))) (inr (inr (inr e))) = omega (arith, n, e)

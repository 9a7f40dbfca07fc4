-- The field at the front of bytes, and the bytes behind it. None where there are too few bytes for it.
use Rattle.std.specs.Prelude.{◌≡◌, ◌<◌, ℕ, List, [], ◌∷◌, length, take, drop, Option, Some, None, nat_lt, slice_index, if◌then◌else◌}
use Rattle.std.specs.Int.{Width, byte_len, from_be_bytes}

-- each of the list is a byte
abbrev pub AreBytes : List ℕ → Type 0
AreBytes bytes = (i : ℕ) → slice_index bytes i < 256

-- one byte
abbrev pub front_byte : List ℕ → Option (ℕ × List ℕ)
front_byte [] = None
front_byte (byte ∷ rest) = Some (byte, rest)

-- a number of the width, its highest byte first
unfoldable pub front_number : Width → List ℕ → Option (ℕ × List ℕ)
front_number w bytes = if nat_lt (length bytes) (byte_len w) then None else Some (from_be_bytes w (take (byte_len w) bytes), drop (byte_len w) bytes)

-- n bytes
unfoldable pub front_piece : ℕ → List ℕ → Option (List ℕ × List ℕ)
front_piece n bytes = if nat_lt (length bytes) n then None else Some (take n bytes, drop n bytes)

-- What a reader answers and what it leaves is what stands at the front.
abbrev pub Gives : {X : Type 0} → Option X → List ℕ → Option (X × List ℕ) → Type 0
Gives None left front = front ≡ None
Gives (Some x) left front = front ≡ Some (x, left)

-- where a fault takes the rest of a reading with it
infixl 10 ◌>>=◌
abbrev pub ◌>>=◌ : {A B : Type 0} → Option A → (A → Option B) → Option B
(Some x) >>= f = f x
None >>= f = None

-- The calls that change a volume in memory or sync it, and what they leave to a crash.
use Rattle.std.specs.Prelude.{◌≡◌, ◌⊎◌, ℕ, ◌+◌, ◌-◌, ◌<◌, ◌≤◌, min, max, Bool, true, false, List, [], ◌∷◌, ◌++◌, length, take, slice_set, slice_index, Contains}

pub data Change : Type 0 where
  -- these bytes came behind the end
  Appended : List ℕ → Change
  -- at this place, this byte
  Put : ℕ → ℕ → Change
  -- the length that was left
  Cut : ℕ → Change
  Synced : Change

-- each number is a byte
abbrev pub AreBytes : List ℕ → Type 0
AreBytes bytes = (i : ℕ) → i < length bytes → slice_index bytes i < 256

-- a volume between two syncs
pub record Pending : Type 0 where
  -- the bytes as they are read
  pub bytes : List ℕ
  -- the least and the greatest length since the last sync
  pub least : ℕ
  pub greatest : ℕ
  -- the places where a byte was put since then
  pub places : List ℕ
  -- nothing was written since then
  pub calm : Bool

-- all of these bytes are kept through a crash
abbrev pub settled : List ℕ → Pending
settled bytes = record { bytes = bytes; least = length bytes; greatest = length bytes; places = []; calm = true }

abbrev pub after_change : Pending → Change → Pending
after_change p (Appended piece) = record p { bytes = p.bytes ++ piece; greatest = max p.greatest (length p.bytes + length piece); calm = false }
after_change p (Put at byte) = record p { bytes = slice_set p.bytes at byte; places = p.places ++ at ∷ []; calm = false }
after_change p (Cut len) = record p { bytes = take len p.bytes; least = min p.least len; calm = false }
after_change p Synced = settled p.bytes

-- after these changes, the first of them first
abbrev pub after_changes : Pending → List Change → Pending
after_changes p [] = p
after_changes p (change ∷ changes) = after_changes (after_change p change) changes

-- a crash may leave any byte at this place
abbrev pub IsFree : Pending → ℕ → Type 0
IsFree p i = (p.least ≤ i) ⊎ Contains p.places i

-- what a crash may leave: some length between, and each byte as it is read, or any byte at a free place
pub record IsImage (p : Pending) (c : List ℕ) : Type 0 where
  pub no_shorter : p.least ≤ length c
  pub no_longer : length c ≤ p.greatest
  pub bytes : (i : ℕ) → i < length c → ((i < length p.bytes) × (slice_index c i ≡ slice_index p.bytes i)) ⊎ (IsFree p i × (slice_index c i < 256))

-- this byte at each of these places
abbrev pub with_byte_at : ℕ → List ℕ → List ℕ → List ℕ
with_byte_at byte [] bytes = bytes
with_byte_at byte (at ∷ places) bytes = with_byte_at byte places (slice_set bytes at byte)

-- the image with this tail behind the least length, and this byte where one was put
abbrev pub image_of : Pending → List ℕ → ℕ → List ℕ
image_of p tail gate = with_byte_at gate p.places (take p.least p.bytes ++ take (p.greatest - p.least) tail)

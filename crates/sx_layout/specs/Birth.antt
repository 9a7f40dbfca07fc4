-- The birth part of a volume, which tells what it was made with, and which volumes are born.
use Rattle.std.specs.Prelude.{ℕ, ◌≡◌, ◌≢◌, ◌==◌, ◌-◌, ◌≤◌, ◌⊎◌, ◌&&◌, ◌||◌, Bool, not, nat_lt, List, [], ◌∷◌, ◌++◌, length, take, drop, replicate, slice_get, Some, IsUtf8}
use Rattle.std.specs.Str.{bytes_eq, is_utf8}
use Rattle.sha2.specs.Sha256.{sha256}
use Rattle.sx_frame.specs.Violation.{Violation, tell}

pub record Birth : Type 0 where
  -- how many fragments a leaf has at most
  pub window : ℕ
  -- the names of the fields that tell from when and up to when an object is valid
  pub from : List ℕ
  pub to : List ℕ

pub record IsName (name : List ℕ) : Type 0 where
  pub least : 1 ≤ length name
  pub most : length name ≤ 64
  pub utf8 : IsUtf8 name

-- a window from 1 to 8, and two names that differ
pub record IsBirth (birth : Birth) : Type 0 where
  pub least : 1 ≤ birth.window
  pub most : birth.window ≤ 8
  pub from : IsName birth.from
  pub to : IsName birth.to
  pub differ : birth.from ≢ birth.to

-- the ASCII bytes SXSNAP01
abbrev pub magic : List ℕ
magic = 83 ∷ 88 ∷ 83 ∷ 78 ∷ 65 ∷ 80 ∷ 48 ∷ 49 ∷ []

-- the fields of a birth part
pub record BirthFields : Type 0 where
  pub format : ℕ
  pub window : ℕ
  -- of each name its length, and 64 bytes
  pub from_length : ℕ
  pub from : List ℕ
  pub to_length : ℕ
  pub to : List ℕ
  pub digest : List ℕ

pub record AreFields (fields : BirthFields) : Type 0 where
  pub from : length fields.from ≡ 64
  pub to : length fields.to ≡ 64
  pub digest : length fields.digest ≡ 32

-- magic (8 bytes), format (1), window (1), and both names (65 each): places 1 to 140
abbrev pub fields_bytes : BirthFields → List ℕ
fields_bytes fields = magic ++ (fields.format ∷ fields.window ∷ fields.from_length ∷ (fields.from ++ fields.to_length ∷ fields.to))

-- these with the digest: places 1 to 172, behind the birth gate
abbrev pub part_bytes : BirthFields → List ℕ
part_bytes fields = fields_bytes fields ++ fields.digest

-- the name, and zeros up to 64 bytes
abbrev pub padded : List ℕ → List ℕ
padded name = name ++ replicate (64 - length name) 0

-- The format of the groups behind the birth part. In this one each group has one frame, which has the whole document.
abbrev pub whole_format : ℕ
whole_format = 0

-- the fields of this birth, in this format, under the digest
abbrev pub undigested : Birth → List ℕ → BirthFields
undigested birth digest = record {
  format = whole_format;
  window = birth.window;
  from_length = length birth.from;
  from = padded birth.from;
  to_length = length birth.to;
  to = padded birth.to;
  digest = digest;
}

abbrev pub fields_of : Birth → BirthFields
fields_of birth = undigested birth (sha256 (fields_bytes (undigested birth [])))

-- the birth part that is written
unfoldable pub birth_part : Birth → List ℕ
birth_part birth = part_bytes (fields_of birth)

-- ---- which volumes are born

-- The three cases of a volume that is not born: at most one byte; a closed birth gate; or all of a birth part with the closed gate of
-- the first group, behind a first byte that neither closes nor opens the birth gate.
abbrev pub IsUnborn : List ℕ → Type 0
IsUnborn image =
    (length image ≤ 1)
    ⊎ (slice_get image 0 ≡ Some 0)
    ⊎ ((first : ℕ) × (birth : Birth) × (first ≢ 0) × (first ≢ 1) × IsBirth birth × (image ≡ first ∷ (birth_part birth ++ 0 ∷ [])))

-- an open birth gate, the magic, and all of a birth part with the gate of the first group
pub record IsBorn (image : List ℕ) : Type 0 where
  pub gate : slice_get image 0 ≡ Some 1
  pub long : 174 ≤ length image
  pub magic_is : take 8 (drop 1 image) ≡ magic

-- neither of both, with this first byte
pub record IsNotOurs (image : List ℕ) (first : ℕ) : Type 0 where
  pub not_unborn : IsUnborn image → ⊥
  pub not_born : IsBorn image → ⊥
  pub first_is : slice_get image 0 ≡ Some first

-- ---- the rules that the birth part of a born volume keeps

-- a name of 1 to 64 bytes in UTF-8, with zeros behind it
abbrev pub is_name : ℕ → List ℕ → Bool
is_name count bytes = not (nat_lt count 1) && not (nat_lt 64 count) && is_utf8 (take count bytes) && bytes_eq (drop count bytes) (replicate (64 - count) 0)

-- two names that differ
abbrev pub are_names : BirthFields → Bool
are_names fields =
    is_name fields.from_length fields.from && is_name fields.to_length fields.to
    && not (bytes_eq (take fields.from_length fields.from) (take fields.to_length fields.to))

-- the rules 1 to 4
abbrev pub birth_rules : BirthFields → List (Bool × Violation)
birth_rules fields =
    (not (bytes_eq fields.digest (sha256 (fields_bytes fields))), record { rule = 1; kept = fields.digest; found = sha256 (fields_bytes fields) })
    ∷ (not (fields.format == whole_format), tell 2 whole_format fields.format)
    ∷ (nat_lt fields.window 1 || nat_lt 8 fields.window, tell 3 8 fields.window)
    ∷ (not (are_names fields), tell 4 0 fields.from_length)
    ∷ []

-- what the fields tell, where they keep the rules
abbrev pub told_birth : BirthFields → Birth
told_birth fields = record { window = fields.window; from = take fields.from_length fields.from; to = take fields.to_length fields.to }

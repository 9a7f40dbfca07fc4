-- What is found at the front of a volume.
use Rattle.std.specs.Prelude.{ℕ, ◌≡◌, ◌≢◌, List, ◌∷◌, ◌++◌, length, drop, take, Option, None, Some, slice_get}
use Rattle.sx_layout.specs.Birth.{AreFields, BirthFields, IsBorn, IsNotOurs, IsUnborn, birth_rules, magic, part_bytes}
use Rattle.sx_layout.specs.Rule.{first_broken}
use Rattle.sx_log.specs.declared.reading.Finding.{Finding}
use Rattle.sx_log.specs.declared.reading.Finding.TheVariants as finding
use Rattle.sx_log.specs.declared.reading.GivenFields.{GivenFields}

-- the fields that are meant
abbrev pub fields_in : GivenFields → BirthFields
fields_in given = record {
  format = given.format;
  window = given.window;
  from_length = given.from_length;
  from = given.from;
  to_length = given.to_length;
  to = given.to;
  digest = given.digest;
}

-- what is found at the front of the image
abbrev pub Finds : List ℕ → Finding → Type 0
Finds image finding.Unborn = IsUnborn image
Finds image (finding.Born fields) = IsBorn image × ((rest : List ℕ) × (image ≡ 1 ∷ (part_bytes (fields_in fields) ++ rest)))
Finds image (finding.NotOurs first) = IsNotOurs image first

-- a birth part was found
abbrev pub IsBornFinding : Finding → Type 0
IsBornFinding finding.Unborn = ⊥
IsBornFinding (finding.Born fields) = Unit {0}
IsBornFinding (finding.NotOurs first) = ⊥

-- its fields are as long as they are to be
abbrev pub HasFields : Finding → Type 0
HasFields finding.Unborn = Unit {0}
HasFields (finding.Born fields) = AreFields (fields_in fields)
HasFields (finding.NotOurs first) = Unit {0}

-- the first byte, and the fields behind it where they begin with the magic
abbrev pub HasFront : List ℕ → ℕ → Option GivenFields → Type 0
HasFront all first None = (slice_get all 0 ≡ Some first) × (take 8 (drop 1 all) ≢ magic)
HasFront all first (Some fields) = (rest : List ℕ) × (all ≡ first ∷ (part_bytes (fields_in fields) ++ rest))

-- the bytes end behind fields that keep the rules, with a closed gate
pub record IsWhole (all : List ℕ) (fields : BirthFields) : Type 0 where
  pub long : length all ≡ 174
  pub gate : slice_get all 173 ≡ Some 0
  pub rules : first_broken (birth_rules fields) ≡ None

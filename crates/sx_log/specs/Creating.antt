-- What making a volume leaves.
use Rattle.std.specs.Prelude.{ℕ, ◌≡◌, ◌≢◌, ◌≤◌, ◌⊎◌, List, [], ◌∷◌, ◌++◌, length, Option, Some, IfSome, Result, Ok, Err, slice_get}
use Rattle.sx_layout.specs.Birth as layout
use Rattle.sx_layout.specs.Birth.{IsBirth, IsBorn, IsNotOurs, IsUnborn, birth_part}
use Rattle.sx_layout.specs.Born.{StandsForNone}
use Rattle.sx_log.specs.Calls.{HoldsSinceSync}
use Rattle.sx_log.specs.declared.birth.Birth.{Birth}
use Rattle.sx_log.specs.declared.fault.LogFault.{LogFault}
use Rattle.sx_log.specs.declared.fault.LogFault.TheVariants.{Failed, NotOurs, Born, OutOfMemory}
use Rattle.sx_volume.specs.declared.volume.Volume.{Ghosts}

-- the birth that is meant
abbrev pub birth_of : Birth → layout.Birth
birth_of birth = record { window = birth.window; from = birth.from; to = birth.to }

-- a call failed, or memory ran out
abbrev pub IsOther : LogFault → Type 0
IsOther fault = (fault ≡ Failed) ⊎ (fault ≡ OutOfMemory)

-- a name of 1 to 64 bytes
pub record IsShort (name : List ℕ) : Type 0 where
  pub least : 1 ≤ length name
  pub most : length name ≤ 64

-- A window from 1 to 8, and two names of 1 to 64 bytes that differ. Names are texts, so that they are UTF-8.
pub record CanBeBorn (birth : layout.Birth) : Type 0 where
  pub least : 1 ≤ birth.window
  pub most : birth.window ≤ 8
  pub from : IsShort birth.from
  pub to : IsShort birth.to
  pub differ : birth.from ≢ birth.to

-- the bytes of a volume that was just born
abbrev pub newborn : layout.Birth → List ℕ
newborn birth = 1 ∷ (birth_part birth ++ 0 ∷ [])

-- The answer over this image, unless a call failed or memory ran out: it is made exactly where it is unborn.
pub record IsMade (image : List ℕ) (result : Result (Unit {0}) LogFault) : Type 0 where
  pub unborn : IsUnborn image → (result ≡ Ok tt) ⊎ ((fault : LogFault) × (result ≡ Err fault) × IsOther fault)
  pub born : IsBorn image → (fault : LogFault) × (result ≡ Err fault) × ((fault ≡ Born) ⊎ IsOther fault)
  pub not_ours : (first : ℕ) → IsNotOurs image first → (fault : LogFault) × (result ≡ Err fault) × ((fault ≡ NotOurs first) ⊎ IsOther fault)

-- From the first sync that succeeded on each image stands for no commits.
abbrev pub IsEmptySince : {V Spot End : Type 0} → Ghosts V Spot End → V → V → Type 0
IsEmptySince g old new = HoldsSinceSync g StandsForNone old new

-- the image is that of a volume which was born, or of none of this program
abbrev pub IsTaken : List ℕ → Type 0
IsTaken image = IsUnborn image → ⊥

-- the birth gate is closed
abbrev pub IsShut : Option (List ℕ) → Type 0
IsShut bytes = IfSome bytes (λ all. slice_get all 0 ≡ Some 0)

-- where the bytes were told, the birth gate is closed in each of these images
abbrev pub StayShut : Option (List ℕ) → (List ℕ → Type 0) → Type 0
StayShut bytes images = IfSome bytes (λ _. (c : List ℕ) → images c → slice_get c 0 ≡ Some 0)

-- the bytes are a closed birth gate and a birth part, with the closed gate of the first group
abbrev pub HasPart : List ℕ → Type 0
HasPart all = (birth : layout.Birth) × IsBirth birth × (all ≡ 0 ∷ (birth_part birth ++ 0 ∷ []))

-- where the bytes were told, they are now told as these
abbrev pub Tells : List ℕ → Option (List ℕ) → Option (List ℕ) → Type 0
Tells bytes old new = IfSome old (λ _. new ≡ Some bytes)

-- creating is refused
abbrev pub IsRefusal : LogFault → Type 0
IsRefusal fault = (fault ≡ Born) ⊎ ((first : ℕ) × (fault ≡ NotOurs first))

-- it answers nothing else
abbrev pub IsOfCreate : LogFault → Type 0
IsOfCreate fault = IsOther fault ⊎ IsRefusal fault

-- What a reading found: for the reader's own functions.
use Rattle.std.specs.Prelude.{ℕ, ◌≡◌, ◌≤◌, ◌⊎◌, List, length, IsUtf8}
use Rattle.sx_tree.specs.declared.json_fault.JsonFault.{JsonFault}
use Rattle.sx_tree.specs.declared.json_fault.JsonFault.TheVariants.{BadByte, TooDeep, DuplicateName, LoneSurrogate, NumberTooLong, StringTooLong, Ended, OutOfMemory}

-- What is left is in UTF-8 and no longer.
abbrev pub GoesOn : List ℕ → List ℕ → Type 0
GoesOn bytes left = IsUtf8 left × (length left ≤ length bytes)

-- The fault is this one, or want of memory.
abbrev pub UnlessMemory : (JsonFault → Type 0) → JsonFault → Type 0
UnlessMemory P f = (f ≡ OutOfMemory) ⊎ P f

-- The fact holds where the fault is not want of memory.
abbrev pub Refuses : Type 0 → JsonFault → Type 0
Refuses P (BadByte place) = P
Refuses P (TooDeep place) = P
Refuses P (DuplicateName place) = P
Refuses P (LoneSurrogate place) = P
Refuses P (NumberTooLong place) = P
Refuses P (StringTooLong place) = P
Refuses P Ended = P
Refuses P OutOfMemory = Unit {0}

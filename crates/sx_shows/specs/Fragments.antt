-- The sliding snapshot: which slots the fragments of a leaf have, and what they tell together.
use Rattle.std.specs.Prelude.{ℕ, zero, suc, ◌-◌, ◌==◌, Bool, true, false, not, if◌then◌else◌, List, [], ◌∷◌, length, take, Option, Some, None}
use Rattle.std.specs.Option.{option_eq}
use Rattle.std.specs.List.{list_any, range_with_len}

-- what a fragment has in a slot: nothing, the word that no record stands there any more, or a record
pub data Slot (Row : Type 0) : Type 0 where
  Absent : Slot Row
  Tombstone : Slot Row
  Record : Row → Slot Row

-- a fragment of a leaf, by the slots from 0 to 63
abbrev pub Fragment : Type 0 → Type 0
Fragment Row = ℕ → Slot Row

-- the slots of a leaf
abbrev pub slots : List ℕ
slots = range_with_len 0 64

-- the record, where the slot has one
abbrev pub recorded : {Row : Type 0} → Slot Row → Option Row
recorded Absent = None
recorded Tombstone = None
recorded (Record row) = Some row

-- what is there, or else what is older
abbrev pub or_older : {Row : Type 0} → Slot Row → Slot Row → Slot Row
or_older Absent older = older
or_older Tombstone older = Tombstone
or_older (Record row) older = Record row

-- of fragments, newest first, the newest that has the slot
abbrev pub newest : {Row : Type 0} → List (Fragment Row) → ℕ → Slot Row
newest [] s = Absent
newest (fragment ∷ fragments) s = or_older (fragment s) (newest fragments s)

-- what they tell of the slot together
abbrev pub merged : {Row : Type 0} → List (Fragment Row) → ℕ → Option Row
merged fragments s = recorded (newest fragments s)

-- a slot that changed has its record, or a tombstone where there is none
abbrev pub as_changed : {Row : Type 0} → Option Row → Slot Row
as_changed None = Tombstone
as_changed (Some row) = Record row

-- a record is carried on, and a tombstone is not
abbrev pub as_carried : {Row : Type 0} → Slot Row → Slot Row
as_carried Absent = Absent
as_carried Tombstone = Absent
as_carried (Record row) = Record row

-- nothing, where the younger fragments have the slot; else what the oldest carries on
abbrev pub unless_younger : {Row : Type 0} → Slot Row → Slot Row → Slot Row
unless_younger Absent oldest = as_carried oldest
unless_younger Tombstone oldest = Absent
unless_younger (Record row) oldest = Absent

abbrev pub is_record : {Row : Type 0} → Slot Row → Bool
is_record Absent = false
is_record Tombstone = false
is_record (Record row) = true

abbrev pub is_tombstone : {Row : Type 0} → Slot Row → Bool
is_tombstone Absent = false
is_tombstone Tombstone = true
is_tombstone (Record row) = false

-- over a test that two rows are equal, and the row that the leaf has at a revision in a slot
module _ {Row : Type 0} (same : Row → Row → Bool) (leaf : ℕ → ℕ → Option Row) where
  -- the row is not the one of the revision before
  abbrev pub changed : ℕ → ℕ → Bool
  changed r s = not (option_eq same (leaf r s) (leaf (r - 1) s))

  -- a slot changed at the revision
  abbrev pub touched : ℕ → Bool
  touched r = list_any (changed r) slots

-- and over the window, which is how many fragments a leaf has at most
module _ {Row : Type 0} (same : Row → Row → Bool) (leaf : ℕ → ℕ → Option Row) (w : ℕ) where
  -- What the fragment of a revision has in a slot, where these are the fragments before it: what changed, and where there are so many
  -- already that the oldest is left behind, also each record that stands in the oldest alone.
  abbrev pub new_slot : ℕ → List (Fragment Row) → ℕ → Slot Row
  new_slot r old s =
      if changed same leaf r s then as_changed (leaf r s) else
      if length old == w then unless_younger (newest (take (w - 1) old) s) (newest old s) else
      Absent

  -- the fragments of a revision, newest first: a revision that changes no slot has those of the one before
  abbrev pub fragments : ℕ → List (Fragment Row)
  fragments zero = []
  fragments (suc r) = if touched same leaf (suc r) then new_slot (suc r) (fragments r) ∷ take (w - 1) (fragments r) else fragments r

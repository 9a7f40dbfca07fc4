-- Records in slots by their numbers. A slot that is empty stands for a record that was dropped since a mark.
use Rattle.std.specs.Prelude.{◌≡◌, ℕ, Bool, true, nat_eq, is_some, reverse, List, [], ◌∷◌, Option, Some, None, if◌then◌else◌}
use Rattle.std.specs.Ordering.{nat_cmp}
use Rattle.std.specs.BTreeMap.{BTreeMap, get}
use Rattle.std.specs.FinMap.{empty, insert, remove}
use Rattle.std.specs.Global.{Vec}
use Rattle.std.specs.Option.{ForSome, option_map}
use Rattle.std.specs.Coded.{Unit-prop, Coded-set, coded_bool}
use Rattle.sx_view.specs.Records.{RecordMap}

-- the records with what is in one slot
abbrev pub with_slot : {R : Type 0} → ℕ → Option R → RecordMap R → RecordMap R
with_slot k None records = remove records k
with_slot k (Some record_there) records = insert records k record_there

-- the records in the slots
abbrev pub held : {R : Type 0} → List (ℕ × Option R) → RecordMap R
held [] = empty
held (slot ∷ slots) = with_slot slot.0 slot.1 (held slots)

-- what is in a slot that may be missing
abbrev pub inside : {R : Type 0} → Option (Option R) → Option R
inside None = None
inside (Some slot) = slot

-- the records before the changes, the newest of which comes first, each with the slot that it changed
abbrev pub rewound : {R : Type 0} → List (ℕ × Option (Option R)) → RecordMap R → RecordMap R
rewound [] records = records
rewound (change ∷ changes) records = rewound changes (with_slot change.0 (inside change.1) records)

-- Each slot that is put back for a change stands there: which numbers have slots is told by the test.
abbrev pub Rewinds : {R : Type 0} → (ℕ → Bool) → List (ℕ × Option (Option R)) → Type 0
Rewinds has [] = Unit {0}
Rewinds has (change ∷ changes) = (is_some change.1 ≡ true → has change.0 ≡ true) × Rewinds (λ q. if nat_eq q change.0 then is_some change.1 else has q) changes

-- whether the number has a slot
abbrev pub has_slot : {R : Type 0} → BTreeMap ℕ (Option R) → ℕ → Bool
has_slot slots k = is_some (get nat_cmp slots k)

-- each slot that a change since the mark is to put back stands
abbrev pub CanRewind : {R : Type 0} → BTreeMap ℕ (Option R) → Option (Vec (ℕ × Option (Option R))) → Type 0
CanRewind slots changes = ForSome changes (λ noted. Rewinds (has_slot slots) (reverse noted.items))

-- the records at the mark, where there is one
abbrev pub at_mark : {R : Type 0} → BTreeMap ℕ (Option R) → Option (Vec (ℕ × Option (Option R))) → Option (RecordMap R)
at_mark slots changes = option_map (λ noted. rewound (reverse noted.items) (held slots.entries)) changes

pub Rewinds-prop : {R : Type 0} (has : ℕ → Bool) (changes : List (ℕ × Option (Option R))) → IsProp (Rewinds has changes)
Rewinds-prop has [] = Unit-prop
Rewinds-prop has (change ∷ changes) =
    let others : IsProp (Rewinds (λ q. if nat_eq q change.0 then is_some change.1 else has q) changes) = Rewinds-prop (λ q. if nat_eq q change.0 then is_some change.1 else has q) changes in
    let tests : (a b : Bool) → IsProp (a ≡ b) = Coded-set coded_bool in
    hlevel (others, tests)

pub CanRewind-prop : {R : Type 0} (slots : BTreeMap ℕ (Option R)) (changes : Option (Vec (ℕ × Option (Option R)))) → IsProp (CanRewind slots changes)
CanRewind-prop {R = R} slots changes =
    let each : (noted : Vec (ℕ × Option (Option R))) → IsProp (Rewinds (has_slot slots) (reverse noted.items)) = λ noted. Rewinds-prop (has_slot slots) (reverse noted.items) in
    hlevel each

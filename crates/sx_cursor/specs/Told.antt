-- Records of nodes that are told, and those that tell the rows of a document.
use Rattle.std.specs.Prelude.{◌≡◌, ◌≤◌, ℕ, List, [], ◌∷◌, Option, None, Some, option_map, IfSome}
use Rattle.std.specs.Option.{option_or}
use Rattle.std.specs.Ordering.{nat_cmp}
use Rattle.std.specs.FinMap as fin
use Rattle.std.specs.FinMap.{find}
use Rattle.sx_tree.specs.declared.record.Kind.{Kind}
use Rattle.sx_tree.specs.declared.record.NodeRecord.{NodeRecord}
use Rattle.sx_tree.specs.declared.record.Step.{Step}
use Rattle.sx_view.specs.Records.{RecordMap}
use Rattle.sx_view.specs.Rows.{row_of}
use Rattle.sx_model.specs.Holes.{Frame, around_hole}
use Rattle.sx_model.specs.Records.{NodeRow, at_top, first_of, last_of, row, rows}
use Rattle.sx_model.specs.Tree.{Node, Forest, IsWellFormed, size}

-- where the records are told, this is what they tell of the node: its row, or that there is none
abbrev pub Tells : Option (RecordMap NodeRecord) → ℕ → Option NodeRow → Type 0
Tells o k found = IfSome o (λ records. found ≡ option_map row_of (fin.get records k))

-- the records are told, and show these rows and no others
abbrev pub Holds : Option (RecordMap NodeRecord) → List (ℕ × NodeRow) → Type 0
Holds None entries = ⊥
Holds (Some records) entries = (q : ℕ) → option_map row_of (fin.get records q) ≡ find nat_cmp q entries

-- The records are those of these well-formed trees, under this hash of a kind and a label and this number of a path.
pub record Shows (local : Kind → List ℕ → ℕ) (number : List Step → ℕ) (trees : Forest) (o : Option (RecordMap NodeRecord)) : Type 0 where
  pub holds : Holds o (rows local number at_top trees)
  pub well_formed : IsWellFormed trees

-- The records are those of no document of so few nodes.
unfoldable pub IsNoDocument : Option (RecordMap NodeRecord) → ℕ → Type 0
IsNoDocument o count = (local : Kind → List ℕ → ℕ) (number : List Step → ℕ) (trees : Forest) → Shows local number trees o → size trees ≤ count → ⊥

-- each of these rows is told
abbrev pub TellsAll : Option (RecordMap NodeRecord) → List (ℕ × NodeRow) → Type 0
TellsAll o [] = Unit {0}
TellsAll o (entry ∷ entries) = Tells o entry.0 (Some entry.1) × TellsAll o entries

-- the row of a node that has these trees before it, below it and behind it, in the hole
abbrev pub row_there : (Kind → List ℕ → ℕ) → (List Step → ℕ) → List Frame → Forest → Node → Forest → Forest → NodeRow
row_there local number frames before n below behind =
    row local number
    (record (around_hole frames) {
      left = option_or (last_of before) (around_hole frames).left;
      right = option_or (first_of behind) (around_hole frames).right;
    })
    n below

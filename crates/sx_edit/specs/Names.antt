-- Keys of a name among siblings.
use Rattle.std.specs.Prelude.{ℕ, ◌≡◌, ◌≤◌, ◌==◌, ◌&&◌, not, Bool, false, List, ◌++◌, find, Option, Some, None, option_map, bytes_eq}
use Rattle.sx_tree.specs.declared.record.Kind.{Kind}
use Rattle.sx_tree.specs.declared.record.Step.{Step}
use Rattle.sx_tree.specs.declared.record.NodeRecord.{NodeRecord}
use Rattle.sx_view.specs.Records.{RecordMap}
use Rattle.sx_model.specs.Tree.{Forest, count, is_key, tops}
use Rattle.sx_model.specs.Records.{NodeRow, Around, first_of, rows}
use Rattle.sx_edit.specs.Told.{Shows}

-- whether the number is the one that is left out
abbrev pub is_left_out : Option ℕ → ℕ → Bool
is_left_out None number = false
is_left_out (Some except) number = number == except

-- whether a node of this number, kind and label is a Key of the name, and not one that is left out
abbrev pub is_sought : Option ℕ → List ℕ → ℕ → Kind → List ℕ → Bool
is_sought except name number kind label = not (is_left_out except number) && (is_key kind && bytes_eq label name)

-- The answer is the first such Key among the trees that begin with this number, where they are so many at most. No
-- answer is true
-- of no trees alone.
unfoldable pub FindsKey : Option ℕ → List ℕ → Option ℕ → ℕ → Option (RecordMap NodeRecord) → Option (Option ℕ) → Type 0
FindsKey except name first limit o answer =
    (local : Kind → List ℕ → ℕ) (number : List Step → ℕ) (around : Around) (trees : Forest) (xs ys : List (ℕ × NodeRow))
    → first_of trees ≡ first → around.right ≡ None → count trees ≤ limit
    → Shows o (xs ++ (rows local number around trees ++ ys))
    → answer ≡ Some (option_map (λ n. n.number) (find (λ n. is_sought except name n.number n.kind n.label) (tops trees)))

-- Whether a document has room for what an edit brings.
use Rattle.std.specs.Prelude.{◌≡◌, ℕ, ◌+◌, ◌≤◌, List, [], ◌∷◌, length, Option, None, Some, Result, Ok, Err}
use Rattle.std.specs.Option.{option_or}
use Rattle.sx_tree.specs.declared.edit.EditRefusal.{EditRefusal}
use Rattle.sx_tree.specs.declared.record.Kind.{Kind}
use Rattle.sx_tree.specs.declared.record.Step.{Step}
use Rattle.sx_tree.specs.declared.record.NodeRecord.{NodeRecord}
use Rattle.sx_tree.specs.Value.{Value}
use Rattle.sx_view.specs.Records.{RecordMap}
use Rattle.sx_model.specs.Edit.{numbers_spent, too_deep}
use Rattle.sx_model.specs.Holes.{Frame, Shown, plug}
use Rattle.sx_model.specs.Records.{NodeRow}
use Rattle.sx_model.specs.State.{State}
use Rattle.sx_model.specs.Tree.{Node, Forest, FitBelow, levels, size}
use Rattle.sx_edit.specs.declared.fault.EditFault.{EditFault}
use Rattle.sx_edit.specs.declared.fault.EditFault.TheVariants.{Refused, Failed, Damaged, OutOfMemory}
use Rattle.sx_edit.specs.Edited.{rows_in}
use Rattle.sx_edit.specs.Holes.{AreNew, above, whole}
use Rattle.sx_edit.specs.Told.{Holds, Shows}

-- the nodes around a hole, the nearest first
abbrev pub nodes_of : List Frame → List Node
nodes_of [] = []
nodes_of (frame ∷ frames) = frame.node ∷ nodes_of frames

-- how many arrays and objects are among nodes
abbrev pub levels_in : List Node → ℕ
levels_in [] = 0
levels_in (n ∷ ns) = levels n.kind + levels_in ns

-- The answer is how many arrays and objects stand from the node up to the top, where there are so many nodes at most. No answer
-- is true of no trees alone.
unfoldable pub CountsLevels : Option ℕ → ℕ → Option (RecordMap NodeRecord) → Option ℕ → Type 0
CountsLevels node limit o answer =
    (local : Kind → List ℕ → ℕ) (number : List Step → ℕ) (frames : List Frame) (shown : Shown) (hole : List (ℕ × NodeRow))
    → AreNew frames → above frames ≡ node → length frames ≤ limit → Holds o (whole local number frames shown hole)
    → answer ≡ Some (levels_in (nodes_of frames))

-- A step of an edit goes on where this refusal does not stand, and else answers it.
abbrev pub Passes : {T : Type 0} → Option EditRefusal → Result T EditFault → Type 0
Passes refusal (Ok done) = refusal ≡ None
Passes refusal (Err (Refused told)) = refusal ≡ Some told
Passes refusal (Err Failed) = Unit {0}
Passes refusal (Err (Damaged damage)) = ⊥
Passes refusal (Err OutOfMemory) = Unit {0}

-- the records show trees of so many nodes at most, with these in a hole below a node of this number
pub record IsSite (parent limit : ℕ) (o : Option (RecordMap NodeRecord)) (frames : List Frame) (frame : Frame) (inside : Forest) : Type 0 where
  -- the numbers of paths
  pub paths : List Step → ℕ
  pub number : frame.node.number ≡ parent
  pub shows : Shows o (rows_in paths (plug (frame ∷ frames) inside))
  pub few : size (plug (frame ∷ frames) inside) ≤ limit
  pub fit : FitBelow None (plug (frame ∷ frames) inside)

-- The value, with so many new nodes, comes below the node, where it is not too deep there and the numbers are not spent.
unfoldable pub MakesRoom : {T : Type 0} → ℕ → ℕ → Value → ℕ → Option (RecordMap NodeRecord) → Result T EditFault → Type 0
MakesRoom next parent value more o result =
    (frames : List Frame) (frame : Frame) (inside : Forest) (state : State) → state.next ≡ next → IsSite parent next o frames frame inside
    → Passes (option_or (too_deep (nodes_of (frame ∷ frames)) value) (numbers_spent state more)) result

-- Where a new value comes, by the records.
use Rattle.std.specs.Prelude.{◌≡◌, ◌+◌, length, ℕ, Bool, true, false, List, ◌∷◌, Option, None, Some, Result, Err, option_and_then, option_map, find, ◌&&◌, bytes_eq, not, ◌||◌, if◌then◌else◌}
use Rattle.std.specs.Option.{option_or}
use Rattle.sx_tree.specs.declared.edit.Place.{Place}
use Rattle.sx_tree.specs.declared.edit.Place.TheVariants.{First, Last, Before, After}
use Rattle.sx_tree.specs.declared.record.Kind.{Kind}
use Rattle.sx_tree.specs.declared.record.NodeRecord.{NodeRecord}
use Rattle.sx_tree.specs.declared.record.Step.{Step}
use Rattle.sx_tree.specs.declared.record.Step.TheVariants.{Top, Item, Name}
use Rattle.sx_tree.specs.Value.{Value}
use Rattle.sx_view.specs.Records.{RecordMap}
use Rattle.sx_model.specs.Edit.{apply, insert, insert_below, inserted, document_full, name_taken}
use Rattle.sx_model.specs.Holes.{Frame, around_hole, plug}
use Rattle.sx_model.specs.Paths.{number_of}
use Rattle.sx_model.specs.Records.{PathRow, first_of, last_of}
use Rattle.sx_model.specs.State.{State}
use Rattle.sx_model.specs.Tree.{Forest, beside, is_document, is_key, is_scalar, spot, tops}
use Rattle.sx_edit.specs.Gets.{at_spot, gets_at_place, keys_among, node_of_place}
use Rattle.sx_edit.specs.declared.fault.EditFault.{EditFault}
use Rattle.sx_edit.specs.declared.trees.Target.{Target}
use Rattle.sx_edit.specs.Answers.{AreOf, AnswersEach}
use Rattle.sx_edit.specs.Pathways.{Kept, kept}
use Rattle.sx_edit.specs.Room.{nodes_of, IsSite, Passes}

-- the places below a node, and those beside it
abbrev pub place_below : Bool → ℕ → Place
place_below true k = Last k
place_below false k = First k

abbrev pub place_beside : Bool → ℕ → Place
place_beside true k = After k
place_beside false k = Before k

-- the step to the value under the name, or to an element
abbrev pub name_or_item : Option (List ℕ) → Step
name_or_item None = Item
name_or_item (Some name) = Name name

-- whether something may be inserted below nodes of the kind
abbrev pub has_places : Kind → Bool
has_places kind = not (is_key kind || is_scalar kind)

-- the step to what comes below a node of this kind, under the name where there is one
abbrev pub step_into : Kind → Option (List ℕ) → Step
step_into kind name = if is_document kind then Top else name_or_item name

-- The place is in a gap between the children of a node, which the target tells, and an insert there puts the trees between them.
pub record IsPlaceAt (place : Place) (state : State) (target : Target) : Type 0 where
  pub frames : List Frame
  pub frame : Frame
  pub left : Forest
  pub right : Forest
  pub stands : state.trees ≡ plug (frame ∷ frames) (beside left right)
  pub number : frame.node.number ≡ target.gap.parent
  pub last : last_of left ≡ target.gap.left
  pub first : first_of right ≡ target.gap.right
  pub kind : target.kind ≡ frame.node.kind
  pub children : target.first ≡ first_of (beside left right)
  pub path : target.path ≡ number_of state.paths (around_hole (frame ∷ frames)).path
  pub takes : has_places frame.node.kind ≡ true
  pub gets : at_spot (gets_at_place place) (spot (node_of_place place) state.trees) ≡ 4 + (keys_among frame.node.kind (beside left right) + length (frame ∷ frames))
  pub applied : (name : Option (List ℕ)) (value : Value) → apply (insert place name value) state
      ≡ insert_below place name value state (record { parent = frame.node; children = beside left right; above = nodes_of frames })
  pub made : (enter : Forest → Forest) → inserted place enter state.trees ≡ plug (frame ∷ frames) (beside left (enter right))

-- The target is that of the place in each state whose records these are.
unfoldable pub IsPlace : Place → ℕ → Option (RecordMap NodeRecord) → Target → Type 0
IsPlace place next o target = (state : State) → AreOf state next o → IsPlaceAt place state target

-- Each insert there is answered by this fault.
unfoldable pub IsNoPlace : Place → ℕ → Option (RecordMap NodeRecord) → EditFault → Type 0
IsNoPlace place next o fault =
    (name : Option (List ℕ)) (value : Value) (table : List PathRow) (after : Kept) → AnswersEach (insert place name value) next (kept o table) after (Err fault)

-- A value under this name comes among the children, where none has the name, and the document has no child.
unfoldable pub ChecksChildren : {T : Type 0} → ℕ → Target → Option (List ℕ) → Option (RecordMap NodeRecord) → Result T EditFault → Type 0
ChecksChildren next target name o result =
    (frames : List Frame) (frame : Frame) (inside : Forest) → IsSite target.gap.parent next o frames frame inside
    → target.kind ≡ frame.node.kind → target.first ≡ first_of inside
    → Passes (option_or (option_and_then (λ asked. name_taken asked (tops inside)) name) (document_full frame.node (tops inside))) result

-- The answer is the Key that has the name among the children there, where a name is given. No answer is true of no trees alone.
unfoldable pub FindsTaken : ℕ → Target → Option (List ℕ) → Option (RecordMap NodeRecord) → Option (Option ℕ) → Type 0
FindsTaken next target name o answer =
    (frames : List Frame) (frame : Frame) (inside : Forest) → IsSite target.gap.parent next o frames frame inside
    → target.kind ≡ frame.node.kind → target.first ≡ first_of inside
    → answer ≡ Some (option_and_then (λ asked. option_map (λ n. n.number) (find (λ n. is_key n.kind && bytes_eq n.label asked) (tops inside))) name)

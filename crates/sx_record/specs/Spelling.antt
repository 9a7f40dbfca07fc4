-- The one spelling of each record of a node and of a path.
use Rattle.std.specs.Prelude.{ℕ, List, [], ◌∷◌, ◌++◌, length, Option, Some, None}
use Rattle.std.specs.Int.{w32, w128, to_be_bytes}
use Rattle.sx_tree.specs.Text.{IsText}
use Rattle.sx_tree.specs.declared.record.Step.{Step}
use Rattle.sx_tree.specs.declared.record.Step.TheVariants.{Top, Item, Name}
use Rattle.sx_tree.specs.Record.{kind_byte}
use Rattle.sx_tree.specs.declared.record.NodeRecord.{NodeRecord}
use Rattle.sx_tree.specs.declared.record.PathRecord.{PathRecord}

-- the length in four bytes, and the bytes
abbrev pub text_bytes : List ℕ → List ℕ
text_bytes text = to_be_bytes w32 (length text) ++ text

-- ---- paths

-- the fields of a path
pub record PathFields : Type 0 where
  pub parent : ℕ
  pub step : ℕ
  pub count : ℕ
  pub name : List ℕ

unfoldable pub path_bytes : PathFields → List ℕ
path_bytes f = to_be_bytes w32 f.parent ++ ((f.step ∷ []) ++ (to_be_bytes w32 f.count ++ text_bytes f.name))

abbrev pub step_byte : Step → ℕ
step_byte Top = 0
step_byte Item = 1
step_byte (Name name) = 2

-- only a name step has a name
abbrev pub step_name : Step → List ℕ
step_name Top = []
step_name Item = []
step_name (Name name) = name

abbrev pub path_fields : PathRecord → PathFields
path_fields r = record { parent = r.parent; step = step_byte r.step; count = r.count; name = step_name r.step }

-- what is known of each record of a path beside its invariant
abbrev pub IsPath : PathRecord → Type 0
IsPath r = IsText (step_name r.step)

-- ---- nodes

-- the fields of a node
pub record NodeFields : Type 0 where
  pub kind : ℕ
  pub parent : ℕ
  pub left : ℕ
  pub right : ℕ
  pub first : ℕ
  pub last : ℕ
  pub children : ℕ
  pub descendants : ℕ
  pub hash : ℕ
  pub path : ℕ
  pub label : List ℕ

unfoldable pub node_bytes : NodeFields → List ℕ
node_bytes f =
    (f.kind ∷ [])
    ++ (to_be_bytes w32 f.parent ++ (to_be_bytes w32 f.left ++ (to_be_bytes w32 f.right ++ (to_be_bytes w32 f.first ++ (to_be_bytes w32 f.last
    ++ (to_be_bytes w32 f.children ++ (to_be_bytes w32 f.descendants ++ (to_be_bytes w128 f.hash ++ (to_be_bytes w32 f.path ++ text_bytes f.label)))))))))

-- the number of the node, or the greatest number where there is none
abbrev pub link_number : Option ℕ → ℕ
link_number None = 4_294_967_295
link_number (Some node) = node

abbrev pub node_fields : NodeRecord → NodeFields
node_fields r = record {
  kind = kind_byte r.kind;
  parent = link_number r.parent;
  left = link_number r.left;
  right = link_number r.right;
  first = link_number r.first;
  last = link_number r.last;
  children = r.children;
  descendants = r.descendants;
  hash = r.hash;
  path = r.path;
  label = r.label;
}

-- what is known of each record of a node beside its invariant
abbrev pub IsNode : NodeRecord → Type 0
IsNode r = IsText r.label

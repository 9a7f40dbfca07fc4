-- The state of a document.
use Rattle.std.specs.Prelude.{ℕ, List, []}
use Rattle.sx_tree.specs.declared.record.Step.{Step}
use Rattle.sx_model.specs.Tree.{Forest, no_trees, document_with}

pub record State : Type 0 where
  -- the Document with all below it
  pub trees : Forest
  -- the number that the next new node takes
  pub next : ℕ
  -- the paths on which values stand or once stood
  pub paths : List (List Step)

-- the Document alone, which is node 0
abbrev pub empty_document : State
empty_document = record { trees = document_with no_trees; next = 1; paths = [] }

-- What a volume's bytes stand for, where each commit has one frame, which holds its whole document.
use Rattle.std.specs.Prelude.{ℕ, ℤ, ◌≡◌, ◌+◌, ◌-◌, List, [], ◌∷◌, ◌++◌, length, map, sum, Option, None, Some, option_map, slice_set}
use Rattle.std.specs.FinMap as fin
use Rattle.sx_tree.specs.declared.record.NodeRecord.{NodeRecord}
use Rattle.sx_tree.specs.declared.record.Step.{Step}
use Rattle.sx_model.specs.Commit.{Commit, IsLegal}
use Rattle.sx_model.specs.Edit.{after}
use Rattle.sx_model.specs.Records.{node}
use Rattle.sx_model.specs.State.{State, empty_document}
use Rattle.sx_model.specs.Tree.{Forest, no_trees, tree_then, size}
use Rattle.sx_record.specs.Spelling.{step_name}
use Rattle.sx_view.specs.Records.{RecordMap}
use Rattle.sx_view.specs.Rows.{row_of}
use Rattle.sx_paths.specs.OfState.{path_rows}
use Rattle.sx_frame.specs.Frame.{frame_bytes}
use Rattle.sx_frame.specs.declared.frame.Frame.{Frame}
use Rattle.sx_root.specs.declared.root.RevisionRoot.{RevisionRoot}
use Rattle.sx_layout.specs.Birth.{Birth}
use Rattle.sx_layout.specs.Born.{HasLog, Log, Reads, StandsBy}
use Rattle.sx_layout.specs.FrameGroup.{FrameGroup, gate_behind, group_of_frames}
use Rattle.sx_whole.specs.Body.{AreWhole, body_bytes}

-- the kind of a frame that holds a whole document
abbrev pub whole_kind : ℕ
whole_kind = 5

-- The body is that of the records of the state's nodes and paths, which can stand in a body.
pub record IsBodyOf (state : State) (body : List ℕ) : Type 0 where
  pub records : RecordMap NodeRecord
  pub nodes : (k : ℕ) → option_map row_of (fin.get records k) ≡ node state k
  pub whole : AreWhole (fin.entries records) (path_rows state)
  pub body_is : body ≡ body_bytes (fin.entries records) (path_rows state)

-- the bytes of the frame with this body
abbrev pub whole_frame : List ℕ → List ℕ
whole_frame body = frame_bytes (record { kind = whole_kind; body = body })

-- The root of revision r, whose frame has so many bytes: each revision before it has one frame too.
abbrev pub root_of : ℕ → ℤ → State → ℕ → RevisionRoot
root_of r time state bytes = record {
  revision = r;
  time = time;
  first_frame = r - 1;
  frames = 1;
  node_root = r;
  path_root = 0;
  next = state.next;
  nodes = size state.trees;
  paths = length state.paths;
  body = bytes;
}

-- The group is that of revision r, which has this time and this state.
pub record ShowsState (r : ℕ) (time : ℤ) (state : State) (group : FrameGroup) : Type 0 where
  pub body : List ℕ
  pub is_body : IsBodyOf state body
  pub group_is : group ≡ group_of_frames (root_of r time state (length (whole_frame body))) (whole_frame body ∷ [])

-- The groups are those of the commits, which go on from a state. The first of them makes revision r.
abbrev pub ShowFrom : ℕ → State → List Commit → List FrameGroup → Type 0
ShowFrom r state [] [] = Unit {0}
ShowFrom r state [] (group ∷ groups) = ⊥
ShowFrom r state (commit ∷ commits) [] = ⊥
ShowFrom r state (commit ∷ commits) (group ∷ groups) =
    ShowsState r commit.time (after commit.edits state) group × ShowFrom (r + 1) (after commit.edits state) commits groups

-- The groups are those of these commits, which are legal.
abbrev pub ShowCommits : List FrameGroup → List Commit → Type 0
ShowCommits groups commits = IsLegal commits × ShowFrom 1 empty_document commits groups

-- The image stands for these commits, with or without a birth.
abbrev pub Stands : List ℕ → Option Birth → List Commit → Type 0
Stands image birth commits = StandsBy (λ (birth : Birth) (groups : List FrameGroup) (commits : List Commit). ShowCommits groups commits) image birth commits

-- The image stands for these commits and the next one, once the gate behind the groups of these is opened.
abbrev pub StandsOnceOpened : Option Birth → List Commit → Commit → List ℕ → Type 0
StandsOnceOpened birth commits next image =
    (groups : List FrameGroup) × ShowCommits groups commits × Stands (slice_set image (gate_behind groups) 1) birth (commits ++ next ∷ [])

-- The image reads as groups that keep the rules, and the later one has them all, and maybe more behind them, under the same birth.
abbrev pub KeepsAll : List ℕ → List ℕ → Type 0
KeepsAll image later =
    (birth : Birth) × (groups : List FrameGroup) × (more : List FrameGroup) × Reads image (Log birth groups) × HasLog later birth (groups ++ more)

-- ---- how many bytes a body has

-- the number and the record of each node
abbrev pub nodes_size : Forest → ℕ
nodes_size no_trees = 0
nodes_size (tree_then n below rest) = (57 + length n.label) + (nodes_size below + nodes_size rest)

-- the record of a path
abbrev pub path_size : List Step → ℕ
path_size [] = 13
path_size (step ∷ steps) = 13 + length (step_name step)

-- the bytes of the body of the state
abbrev pub body_size : State → ℕ
body_size state = 8 + (nodes_size state.trees + sum (map path_size state.paths))

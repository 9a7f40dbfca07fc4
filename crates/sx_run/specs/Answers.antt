-- What a question answers at a revision.
use Rattle.std.specs.Prelude.{ℕ, zero, suc, ◌≡◌, List, [], ◌∷◌, length, Option, None, Some, slice_get}
use Rattle.sx_model.specs.Axes.{axis}
use Rattle.sx_model.specs.Records.{NodeRow, PathRow, entry, node}
use Rattle.sx_model.specs.Selection.{selected}
use Rattle.sx_model.specs.State.{State}
use Rattle.sx_model.specs.TreeText.{text_at}
use Rattle.sx_model.specs.Valid.{valid}
use Rattle.sx_model.specs.WrittenPath.{path_text_of}
use Rattle.sx_run.specs.declared.reply.Said.{Said}
use Rattle.sx_run.specs.declared.reply.Said.TheVariants as said
use Rattle.sx_tree.specs.declared.query.Answer.TheVariants as answers
use Rattle.sx_tree.specs.declared.query.Query.{Query}
use Rattle.sx_tree.specs.declared.query.Query.TheVariants as queries
use Rattle.sx_tree.specs.declared.record.NodeRecord.{NodeRecord}
use Rattle.sx_tree.specs.declared.record.Step.{Step}
use Rattle.sx_view.specs.Rows.{row_of}

-- the names of the fields that tell from when and up to when an object is valid
pub record ValidNames : Type 0 where
  pub from : List ℕ
  pub to : List ℕ

-- the text of a node; only a document without a child has none
abbrev pub text_said : ℕ → Option (List ℕ) → Said
text_said k None = said.NoNode k
text_said k (Some []) = said.Answer answers.Empty
text_said k (Some (byte ∷ bytes)) = said.Answer (answers.Text (byte ∷ bytes))

-- the record of a node, which shows the row
abbrev pub SaysNode : ℕ → Option NodeRow → Said → Type 0
SaysNode k None reply = reply ≡ said.NoNode k
SaysNode k (Some row) reply = (record_of : NodeRecord) × (row_of record_of ≡ row) × (reply ≡ said.Answer (answers.Node record_of))

abbrev pub hash_said : ℕ → Option NodeRow → Said
hash_said k None = said.NoNode k
hash_said k (Some row) = said.Answer (answers.Hash row.hash)

abbrev pub nodes_said : ℕ → Option (List ℕ) → Said
nodes_said k None = said.NoNode k
nodes_said k (Some nodes) = said.Answer (answers.Nodes nodes)

-- how many values stand on a path, and its text
abbrev pub path_said : ℕ → Option PathRow → List ℕ → Said
path_said p None text = said.NoPath p
path_said p (Some row) text = said.Answer (answers.Path row.count text)

abbrev pub text_of : Option (List Step) → List ℕ
text_of None = []
text_of (Some path) = path_text_of path

-- the text of the path of this number, nothing where there is none
abbrev pub text_of_path : State → ℕ → List ℕ
text_of_path state zero = []
text_of_path state (suc place) = text_of (slice_get state.paths place)

-- The question about the state has this reply.
abbrev pub AnswersAt : ValidNames → State → Query → Said → Type 0
AnswersAt names state (queries.Text k) reply = reply ≡ text_said k (text_at k state.trees)
AnswersAt names state (queries.Node k) reply = SaysNode k (node state k) reply
AnswersAt names state (queries.Hash k) reply = reply ≡ hash_said k (node state k)
AnswersAt names state (queries.Axis a k) reply = reply ≡ nodes_said k (axis a k state.trees)
AnswersAt names state (queries.Path p) reply = reply ≡ path_said p (entry state p) (text_of_path state p)
AnswersAt names state queries.Paths reply = reply ≡ said.Answer (answers.Total (length state.paths))
AnswersAt names state (queries.Select path) reply = reply ≡ said.Answer (answers.Nodes (selected path.steps state.trees))
AnswersAt names state (queries.Valid t) reply = reply ≡ said.Answer (answers.Nodes (valid names.from names.to t state.trees))

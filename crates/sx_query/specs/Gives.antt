-- What a question about a revision answers, over the records of a state.
use Rattle.std.specs.Prelude.{◌≡◌, ℕ, Option, Result, Ok, Err, length}
use Rattle.sx_tree.specs.declared.query.Answer.{Answer}
use Rattle.sx_tree.specs.declared.query.Answer.TheVariants as answers
use Rattle.sx_tree.specs.declared.query.Query.{Query}
use Rattle.sx_tree.specs.declared.query.Query.TheVariants as queries
use Rattle.sx_tree.specs.declared.record.NodeRecord.{NodeRecord}
use Rattle.sx_tree.specs.declared.record.PathRecord.{PathRecord}
use Rattle.sx_view.specs.Records.{RecordMap}
use Rattle.sx_view.specs.declared.fault.QueryFault.{QueryFault}
use Rattle.sx_view.specs.declared.fault.QueryFault.TheVariants.{Missing, NoNode, NoPath, Failed, Damaged, OutOfMemory}
use Rattle.sx_model.specs.Hash.{local_hash}
use Rattle.sx_model.specs.Paths.{number_of}
use Rattle.sx_model.specs.State.{State}
use Rattle.sx_model.specs.Tree.{size}
use Rattle.sx_run.specs.Answers.{AnswersAt, ValidNames}
use Rattle.sx_run.specs.declared.reply.Said.TheVariants as said
use Rattle.sx_cursor.specs.Told.{Shows}
use Rattle.sx_paths.specs.OfState.{ShowsPaths}
use Rattle.sx_query.specs.declared.about.About.{About}

abbrev pub names_of : About → ValidNames
names_of about = record { from = about.from.now; to = about.to.now }

-- The records are those of the nodes and of the paths of the state, and there are so many of both.
pub record AreOf (state : State) (nodes : Option (RecordMap NodeRecord)) (paths : Option (RecordMap PathRecord)) (about : About) : Type 0 where
  pub shows : Shows local_hash (number_of state.paths) state.trees nodes
  pub shows_paths : ShowsPaths state paths
  pub nodes_are : about.nodes ≡ size state.trees
  pub paths_are : about.paths ≡ length state.paths

-- the answer is a text, or says that there is none
abbrev pub IsText : Answer → Type 0
IsText (answers.Text bytes) = Unit {0}
IsText answers.Empty = Unit {0}
IsText (answers.Node row) = ⊥
IsText (answers.Hash hash) = ⊥
IsText (answers.Nodes nodes) = ⊥
IsText (answers.Path count text) = ⊥
IsText (answers.Total count) = ⊥

-- The result is what the state answers to the question. Damage is told of no state.
abbrev pub Gives : ValidNames → State → Query → Result Answer QueryFault → Type 0
Gives names state query (Ok answer) = AnswersAt names state query (said.Answer answer)
Gives names state query (Err (Missing asked seen)) = ⊥
Gives names state query (Err (NoNode node)) = AnswersAt names state query (said.NoNode node)
Gives names state query (Err (NoPath path)) = AnswersAt names state query (said.NoPath path)
Gives names state query (Err Failed) = Unit {0}
Gives names state query (Err (Damaged damage)) = ⊥
Gives names state query (Err OutOfMemory) = Unit {0}

-- The same of each state whose records these are.
unfoldable pub GivesEach : Option (RecordMap NodeRecord) → Option (RecordMap PathRecord) → About → Query → Result Answer QueryFault → Type 0
GivesEach nodes paths about query result = (state : State) → AreOf state nodes paths about → Gives (names_of about) state query result

-- The same of each state of so many nodes whose records these are, whatever its paths' records are.
unfoldable pub GivesOfNodes : Option (RecordMap NodeRecord) → ℕ → ValidNames → Query → Result Answer QueryFault → Type 0
GivesOfNodes nodes count names query result =
    (state : State) → Shows local_hash (number_of state.paths) state.trees nodes → count ≡ size state.trees → Gives names state query result

-- The same of the path of this number, of each state of so many paths whose records these are.
unfoldable pub GivesOfPaths : Option (RecordMap PathRecord) → ℕ → ℕ → Result Answer QueryFault → Type 0
GivesOfPaths paths count path result =
    (names : ValidNames) (state : State) → ShowsPaths state paths → count ≡ length state.paths → Gives names state (queries.Path path) result

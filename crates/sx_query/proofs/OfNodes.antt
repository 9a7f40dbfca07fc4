-- What is answered of nodes.
use Rattle.std.proofs.Common.{◌≡◌, ◌∙◌, ◌<◌, ◌++◌, ℕ, List, [], ◌∷◌, length, Option, None, Some, refl, sym, ap, subst, arith}
use Rattle.std.specs.Prelude.{ℤ, true, false, Result, Ok, Err, IsErrAnd}
use Rattle.sx_bytes.specs.declared.damage.Damage.{Damage}
use Rattle.sx_tree.specs.declared.query.Answer.{Answer}
use Rattle.sx_tree.specs.declared.query.Answer.TheVariants as answers
use Rattle.sx_tree.specs.declared.query.Axis.{Axis}
use Rattle.sx_tree.specs.declared.query.PathExpr.{PathExpr}
use Rattle.sx_tree.specs.declared.query.Query.{Query}
use Rattle.sx_tree.specs.declared.query.Query.TheVariants as queries
use Rattle.sx_tree.specs.declared.record.NodeRecord.{NodeRecord}
use Rattle.sx_tree.specs.declared.record.PathRecord.{PathRecord}
use Rattle.sx_view.specs.QueryFault.{query_fault}
use Rattle.sx_view.specs.Records.{ExplainsFault, IsDamaged, RecordMap}
use Rattle.sx_view.specs.Rows.{row_of}
use Rattle.sx_view.specs.declared.fault.Fault.{Fault}
use Rattle.sx_view.specs.declared.fault.Fault.TheVariants.{Failed, Damaged, OutOfMemory}
use Rattle.sx_view.specs.declared.fault.QueryFault.{QueryFault}
use Rattle.sx_view.specs.declared.fault.QueryFault.TheVariants.{NoNode}
use Rattle.sx_view.specs.declared.fault.QueryFault.TheVariants as faults
use Rattle.sx_model.specs.Hash.{local_hash}
use Rattle.sx_model.specs.Paths.{number_of}
use Rattle.sx_model.specs.Records.{NodeRow, node}
use Rattle.sx_model.specs.State.{State}
use Rattle.sx_run.specs.Answers.{SaysNode, ValidNames, hash_said, nodes_said, text_said}
use Rattle.sx_run.specs.declared.reply.Said.TheVariants as said
use Rattle.sx_axes.specs.Walk.{HasNoAxis}
use Rattle.sx_cursor.specs.Told.{IsNoDocument, Shows, Tells}
use Rattle.sx_select.specs.Selected.{Selects}
use Rattle.sx_text.specs.Text.{IsText}
use Rattle.sx_valid.specs.Valid.{AreValid}
use Rattle.sx_query.specs.Causes.{Explains, IsAbsent, Nothing}
use Rattle.sx_query.specs.Gives.{Gives, GivesEach, GivesOfNodes, names_of}
use Rattle.sx_query.specs.OnAxis.{AreOnAxis}
use Rattle.sx_query.specs.declared.about.About.{About}

-- what is told of a node is what the state has
tells_node : (o : Option (RecordMap NodeRecord)) (state : State) (k : ℕ) (found : Option NodeRow) → Shows local_hash (number_of state.paths) state.trees o → Tells o k found
    → node state k ≡ found
tells_node None state k found shows tells = absurd shows.holds
tells_node (Some m) state k found shows tells = sym (shows.holds k) ∙ sym tells

-- ---- answers

pub gives_node : (o : Option (RecordMap NodeRecord)) (k : ℕ) (found : NodeRecord) → Tells o k (Some (row_of found))
    → (count : ℕ) (names : ValidNames) → GivesOfNodes o count names (queries.Node k) (Ok (answers.Node found))
unfolding GivesOfNodes
gives_node o k found there count names = λ state shows all.
    subst (λ row. SaysNode k row (said.Answer (answers.Node found))) (sym (tells_node o state k (Some (row_of found)) shows there)) (found, refl, refl)

pub gives_hash : (o : Option (RecordMap NodeRecord)) (k : ℕ) (found : NodeRecord) → Tells o k (Some (row_of found))
    → (count : ℕ) (names : ValidNames) → GivesOfNodes o count names (queries.Hash k) (Ok (answers.Hash found.hash))
unfolding GivesOfNodes
gives_hash o k found there count names = λ state shows all.
    ap (hash_said k) (sym (tells_node o state k (Some (row_of found)) shows there))

-- the text, or that it is empty
abbrev answer_of : List ℕ → Answer
answer_of [] = answers.Empty
answer_of (byte ∷ bytes) = answers.Text (byte ∷ bytes)

said_text : (k : ℕ) (text : List ℕ) → said.Answer (answer_of text) ≡ text_said k (Some text)
said_text k [] = refl
said_text k (byte ∷ bytes) = refl

gives_text : (o : Option (RecordMap NodeRecord)) (k : ℕ) (before text : List ℕ) (answer : Answer) → before ≡ [] → IsText o k before text true → answer ≡ answer_of text
    → (count : ℕ) (names : ValidNames) → GivesOfNodes o count names (queries.Text k) (Ok answer)
unfolding GivesOfNodes IsText
gives_text o k before text answer none is is_answer count names = λ state shows all.
    let at = is local_hash (number_of state.paths) state.trees shows in
    let same : text ≡ at.0 = at.1.1 ∙ ap (λ b. b ++ at.0) none in
    ap said.Answer is_answer ∙ said_text k text ∙ ap (λ t. text_said k (Some t)) same ∙ ap (text_said k) (sym at.1.0)

pub none_in : (seen : List ℕ) → length seen < 1 → seen ≡ []
none_in [] few = refl
none_in (byte ∷ bytes) few = absurd (omega (arith, few))

pub gives_empty : (o : Option (RecordMap NodeRecord)) (k : ℕ) (before text : List ℕ) → before ≡ [] → IsText o k before text true → text ≡ []
    → (count : ℕ) (names : ValidNames) → GivesOfNodes o count names (queries.Text k) (Ok answers.Empty)
gives_empty o k before text none is empty = gives_text o k before text answers.Empty none is (ap answer_of (sym empty))

pub gives_written : (o : Option (RecordMap NodeRecord)) (k : ℕ) (before text : List ℕ) → before ≡ [] → IsText o k before text true → (text ≡ [] → ⊥)
    → (count : ℕ) (names : ValidNames) → GivesOfNodes o count names (queries.Text k) (Ok (answers.Text text))
gives_written o k before text none is some = gives_text o k before text (answers.Text text) none is (by text some)
  where
    by : (text : List ℕ) → (text ≡ [] → ⊥) → answers.Text text ≡ answer_of text
    by [] some = absurd (some refl)
    by (byte ∷ bytes) some = refl

pub gives_axis : (o : Option (RecordMap NodeRecord)) (a : Axis) (k : ℕ) (found : List ℕ) → AreOnAxis o a k found
    → (count : ℕ) (names : ValidNames) → GivesOfNodes o count names (queries.Axis a k) (Ok (answers.Nodes found))
unfolding GivesOfNodes AreOnAxis
gives_axis o a k found are count names = λ state shows all. ap (nodes_said k) (sym (are local_hash (number_of state.paths) state.trees shows))

pub gives_selected : (o : Option (RecordMap NodeRecord)) (path : PathExpr) (found : List ℕ) → Selects o path.steps found
    → (count : ℕ) (names : ValidNames) → GivesOfNodes o count names (queries.Select path) (Ok (answers.Nodes found))
unfolding GivesOfNodes Selects
gives_selected o path found are count names = λ state shows all.
    ap (λ l. said.Answer (answers.Nodes l)) (are local_hash (number_of state.paths) state.trees shows)

pub gives_valid : (o : Option (RecordMap NodeRecord)) (about : About) (t : ℤ) (found : List ℕ) → AreValid o about.from.now about.to.now t found
    → GivesOfNodes o about.nodes (names_of about) (queries.Valid t) (Ok (answers.Nodes found))
unfolding GivesOfNodes AreValid
gives_valid o about t found are = λ state shows all.
    ap (λ l. said.Answer (answers.Nodes l)) (are local_hash (number_of state.paths) state.trees shows)

-- ---- nodes that are not there

pub no_record : (o : Option (RecordMap NodeRecord)) (k : ℕ) → Tells o k None → (count : ℕ) (names : ValidNames) → GivesOfNodes o count names (queries.Node k) (Err (NoNode k))
unfolding GivesOfNodes
no_record o k absent count names = λ state shows all.
    subst (λ row. SaysNode k row (said.NoNode k)) (sym (tells_node o state k None shows absent)) refl

pub no_hash : (o : Option (RecordMap NodeRecord)) (k : ℕ) → Tells o k None → (count : ℕ) (names : ValidNames) → GivesOfNodes o count names (queries.Hash k) (Err (NoNode k))
unfolding GivesOfNodes
no_hash o k absent count names = λ state shows all. ap (hash_said k) (sym (tells_node o state k None shows absent))

pub no_text : (o : Option (RecordMap NodeRecord)) (k : ℕ) (before text : List ℕ) → IsText o k before text false
    → (count : ℕ) (names : ValidNames) → GivesOfNodes o count names (queries.Text k) (Err (NoNode k))
unfolding GivesOfNodes IsText
no_text o k before text is count names = λ state shows all. ap (text_said k) (sym (is local_hash (number_of state.paths) state.trees shows).0)

pub no_axis : (o : Option (RecordMap NodeRecord)) (a : Axis) (k : ℕ) → HasNoAxis o a k
    → (count : ℕ) (names : ValidNames) → GivesOfNodes o count names (queries.Axis a k) (Err (NoNode k))
unfolding GivesOfNodes HasNoAxis
no_axis o a k none count names = λ state shows all. ap (nodes_said k) (sym (none local_hash (number_of state.paths) state.trees shows))

-- ---- faults

pub untold : (o : Option (RecordMap NodeRecord)) (count : ℕ) → o ≡ None → IsNoDocument o count
unfolding IsNoDocument
untold None count is = λ local number trees shows few. shows.holds
untold (Some m) count is = absurd cc

fault_gives : (o : Option (RecordMap NodeRecord)) (count : ℕ) (names : ValidNames) (query : Query) (fault : Fault) → (IsDamaged fault → IsNoDocument o count)
    → GivesOfNodes o count names query (Err (query_fault fault))
unfolding GivesOfNodes IsNoDocument
fault_gives o count names query Failed sound = λ state shows all. tt
fault_gives o count names query (Damaged damage) sound =
    λ state shows all. sound tt local_hash (number_of state.paths) state.trees shows (omega (arith, all))
fault_gives o count names query OutOfMemory sound = λ state shows all. tt

pub gives_fault : (r : Result Answer QueryFault) (o : Option (RecordMap NodeRecord)) (count : ℕ) (names : ValidNames) (query : Query) (fault : Fault)
    → IsErrAnd r (λ e. e ≡ query_fault fault) → (IsDamaged fault → IsNoDocument o count) → GivesOfNodes o count names query r
gives_fault (Ok x) o count names query fault is sound = absurd is
gives_fault (Err e) o count names query fault is sound = subst (λ f. GivesOfNodes o count names query (Err f)) (sym is) (fault_gives o count names query fault sound)

-- a fault of one get
pub got_sound : (o : Option (RecordMap NodeRecord)) (count : ℕ) (below : Damage → Type 0) (rose : Type 0) (fault : Fault) → ((d : Damage) → below d → o ≡ None) → ExplainsFault below rose fault
    → IsDamaged fault → IsNoDocument o count
got_sound o count below rose Failed none why is = absurd is
got_sound o count below rose (Damaged damage) none why is = untold o count (none damage why)
got_sound o count below rose OutOfMemory none why is = absurd is

-- a fault of the reading of one record
pub record_gives : (r : Result Answer QueryFault) (o : Option (RecordMap NodeRecord)) (k count : ℕ) (names : ValidNames) (query : Query) (below : Damage → Type 0) (rose : Type 0) (fault : QueryFault)
    → IsErrAnd r (λ e. e ≡ fault) → ((d : Damage) → below d → o ≡ None) → (Tells o k None → GivesOfNodes o count names query (Err (NoNode k))) → Explains (IsAbsent o k) Nothing rose below fault
    → GivesOfNodes o count names query r
record_gives (Ok x) o k count names query below rose fault is none absent why = absurd is
record_gives (Err e) o k count names query below rose fault is none absent why = by e (subst (Explains (IsAbsent o k) Nothing rose below) (sym is) why)
  where
    by : (e : QueryFault) → Explains (IsAbsent o k) Nothing rose below e → GivesOfNodes o count names query (Err e)
    by (faults.Missing asked seen) why = absurd why
    by (faults.NoNode other) why = subst (λ (n : ℕ). GivesOfNodes o count names query (Err (NoNode n))) why.0 (absent (subst (λ (n : ℕ). Tells o n None) (sym why.0) why.1))
    by (faults.NoPath path) why = absurd why
    by faults.Failed why = fault_gives o count names query Failed (λ is. absurd is)
    by (faults.Damaged damage) why = fault_gives o count names query (Damaged damage) (λ _. untold o count (none damage why))
    by faults.OutOfMemory why = fault_gives o count names query OutOfMemory (λ is. absurd is)

-- ---- over the records of nodes and paths

pub over_nodes : (nodes : Option (RecordMap NodeRecord)) (paths : Option (RecordMap PathRecord)) (about : About) (query asked : Query) (r : Result Answer QueryFault)
    → query ≡ asked → GivesOfNodes nodes about.nodes (names_of about) asked r → GivesEach nodes paths about query r
unfolding GivesOfNodes GivesEach
over_nodes nodes paths about query asked r is gives = λ state are.
    subst (λ q. Gives (names_of about) state q r) (sym is) (gives state are.shows are.nodes_are)

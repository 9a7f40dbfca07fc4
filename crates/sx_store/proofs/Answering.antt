-- What is answered of a revision that was read.
use Rattle.std.proofs.Common.{◌≡◌, ◌∙◌, ℕ, zero, suc, inl, inr, List, ap, sym, subst, refl, option_map, Option, None, Some, Result, Ok, Err}
use Rattle.std.specs.Prelude.{◌⊎◌, IsErrOf, IsErrAnd}
use Rattle.sx_bytes.specs.declared.damage.Damage.{Damage}
use Rattle.sx_model.specs.State.{State}
use Rattle.sx_query.specs.Causes.{IsCause, IsOfBelow, of_read}
use Rattle.sx_query.specs.Gives as query
use Rattle.sx_query.specs.Gives.{Gives, GivesEach}
use Rattle.sx_query.specs.declared.about.About.{About}
use Rattle.sx_reader.specs.Documents.{ExplainsAt, GivesDocument, IsDocumentAt, TellsAt, nodes_of, paths_of}
use Rattle.sx_reader.specs.declared.cell.Cell.{Cell}
use Rattle.sx_root.specs.declared.root.RevisionRoot.{RevisionRoot}
use Rattle.sx_run.specs.Answers.{ValidNames}
use Rattle.sx_store.specs.Damage.{IsAboutOf, IsDamagedAt, IsQueryDamage, Kept, KeepsAt}
use Rattle.sx_store.specs.declared.ledger.Ledger.{Ledger}
use Rattle.sx_tree.specs.declared.query.Answer.{Answer}
use Rattle.sx_tree.specs.declared.query.Query.{Query}
use Rattle.sx_tree.specs.declared.query.Query.TheVariants.{Text, Node, Hash, Axis, Path, Paths, Select, Valid}
use Rattle.sx_tree.specs.declared.record.NodeRecord.{NodeRecord}
use Rattle.sx_tree.specs.declared.record.PathRecord.{PathRecord}
use Rattle.sx_view.specs.QueryFault.{query_fault}
use Rattle.sx_view.specs.Records.{RecordMap}
use Rattle.sx_view.specs.Rows.{row_of}
use Rattle.sx_view.specs.declared.fault.Fault.{Fault}
use Rattle.sx_view.specs.declared.fault.Fault.TheVariants.{Failed, Damaged, OutOfMemory}
use Rattle.sx_view.specs.declared.fault.QueryFault.{QueryFault}
use Rattle.sx_view.specs.declared.fault.QueryFault.TheVariants as faults
use Rattle.sx_volume.specs.declared.spot.Spot.{Ghosts}
use Rattle.sx_whole.specs.declared.document.Document.{Document}

given : (names : ValidNames) (state : State) (asked : Query) (fault : Fault) → GivesDocument state (Err fault) → Gives names state asked (Err (query_fault fault))
given names state asked Failed is = tt
given names state asked (Damaged damage) is = is
given names state asked OutOfMemory is = tt

pub gives-read : (names : ValidNames) (state : State) (asked : Query) (r : Result Answer QueryFault) (fault : Fault) → IsErrAnd r (λ e. e ≡ query_fault fault) → GivesDocument state (Err fault)
    → Gives names state asked r
gives-read names state asked (Ok answer) fault is gives = absurd is
gives-read names state asked (Err e) fault is gives = subst (λ (e : QueryFault). Gives names state asked (Err e)) (sym is) (given names state asked fault gives)

told-damage : (fault : Fault) (damage : Damage) → query_fault fault ≡ faults.Damaged damage → fault ≡ Damaged damage
told-damage Failed damage is = absurd cc
told-damage (Damaged other) damage is = let same : other ≡ damage = cc in ap Damaged same
told-damage OutOfMemory damage is = absurd cc

pub at-damage : {S : Type 0} (g : Ghosts S) (tells rose : Type 0) (cells : List (Cell S)) (node_root : ℕ) (cause : Kept → Damage → Type 0) (damage : Damage)
    → ExplainsAt g tells rose cells node_root (Damaged damage) → IsDamagedAt g tells cells node_root cause damage
at-damage g tells rose cells zero cause damage explains = absurd (cc explains)
at-damage g tells rose cells (suc number) cause damage (cell, there, (bytes, read, broken)) = inl (cell, bytes, there, read, broken)

err-same : (a b : QueryFault) → IsErrOf {T = Answer} (Err a) b → a ≡ b
err-same a b is = cc is

pub damage-read : {S : Type 0} (g : Ghosts S) (tells rose : Type 0) (cells : List (Cell S)) (node_root : ℕ) (cause : Kept → Damage → Type 0) (r : Result Answer QueryFault) (fault : Fault) (damage : Damage)
    → IsErrAnd r (λ e. e ≡ query_fault fault) → ExplainsAt g tells rose cells node_root fault → IsErrOf r (faults.Damaged damage) → IsDamagedAt g tells cells node_root cause damage
damage-read g tells rose cells node_root cause (Ok answer) fault damage is explains told = absurd is
damage-read g tells rose cells node_root cause (Err e) fault damage is explains told =
    at-damage g tells rose cells node_root cause damage (subst (ExplainsAt g tells rose cells node_root) (told-damage fault damage (sym is ∙ err-same e (faults.Damaged damage) told)) explains)

pub gives-asked : (nodes : Option (RecordMap NodeRecord)) (paths : Option (RecordMap PathRecord)) (about : About) (asked : Query) (r : Result Answer QueryFault) (state : State)
    → GivesEach nodes paths about asked r → query.AreOf state nodes paths about → Gives (query.names_of about) state asked r
unfolding GivesEach
gives-asked nodes paths about asked r state gives are = gives state are

pub keeps-at : {S : Type 0} (g : Ghosts S) (tells : Type 0) (cells : List (Cell S)) (node_root : ℕ) (document : Document) → IsDocumentAt g tells cells node_root document
    → KeepsAt g tells cells node_root (record { nodes = nodes_of document; paths = paths_of document })
keeps-at g tells cells zero document (of, none) = (of.nodes, none)
keeps-at g tells cells (suc number) document (cell, bytes, there, read, is) = (cell, bytes, there, read, is.same_digest, is.bytes_are)

-- nothing stands below a document in memory
none-below : (asked : Query) → of_read asked ⊥ ⊥ → ⊥
none-below (Text k) never = never
none-below (Node k) never = never
none-below (Hash k) never = never
none-below (Axis a k) never = never
none-below (Path p) never = never
none-below Paths never = never
none-below (Select path) never = never
none-below (Valid t) never = never

pub damage-asked : {S : Type 0} (g : Ghosts S) (tells : Type 0) (ledger : Ledger S) (root : RevisionRoot) (asked : Query) (document : Document) (about : About) (damage : Damage)
    → IsDocumentAt g tells ledger.cells.items root.node_root document → IsAboutOf ledger root about
    → IsOfBelow asked (λ _. ⊥) (λ _. ⊥) damage ⊎ IsCause asked (Some (nodes_of document)) (Some (paths_of document)) about damage → IsQueryDamage g tells ledger root asked damage
damage-asked g tells ledger root asked document about damage at is (inl never) = absurd (none-below asked never)
damage-asked g tells ledger root asked document about damage at is (inr cause) =
    inr (record { nodes = nodes_of document; paths = paths_of document }, keeps-at g tells ledger.cells.items root.node_root document at, (about, is, cause))

-- no row is told where there is no record
pub unmapped : (o : Option NodeRecord) → None ≡ option_map row_of o → o ≡ None
unmapped None none = refl
unmapped (Some row) none = absurd (cc none)

-- what is read of a ledger's cells by one of its roots
pub tells-read : {S : Type 0} (g : Ghosts S) (state : State) (cells read : List (Cell S)) (root given : RevisionRoot) → read ≡ cells → given ≡ root → TellsAt g state cells root.node_root → TellsAt g state read given.node_root
tells-read g state cells read root given same is told =
    subst (λ (l : List (Cell _)). TellsAt g state l given.node_root) (sym same) (subst (λ (r : RevisionRoot). TellsAt g state cells r.node_root) (sym is) told)

pub explains-read : {S : Type 0} (g : Ghosts S) (tells rose : Type 0) (cells read : List (Cell S)) (root given : RevisionRoot) (fault : Fault) → read ≡ cells → given ≡ root
    → ExplainsAt g tells rose read given.node_root fault → ExplainsAt g tells rose cells root.node_root fault
explains-read g tells rose cells read root given fault same is explains =
    subst (λ (l : List (Cell _)). ExplainsAt g tells rose l root.node_root fault) same (subst (λ (r : RevisionRoot). ExplainsAt g tells rose read r.node_root fault) is explains)

pub document-read : {S : Type 0} (g : Ghosts S) (tells : Type 0) (cells read : List (Cell S)) (root given : RevisionRoot) (document : Document) → read ≡ cells → given ≡ root
    → IsDocumentAt g tells read given.node_root document → IsDocumentAt g tells cells root.node_root document
document-read g tells cells read root given document same is at =
    subst (λ (l : List (Cell _)). IsDocumentAt g tells l root.node_root document) same (subst (λ (r : RevisionRoot). IsDocumentAt g tells read r.node_root document) is at)

-- The document of a revision as a draft, and as records that a question is about.
use Rattle.std.proofs.Common.{◌≡◌, ◌∙◌, ℕ, zero, suc, ◌<◌, ◌≤◌, Bool, true, false, List, [], ◌∷◌, refl, ap, sym, subst, arith, Some}
use Rattle.std.specs.Prelude.{All, count_by, cond}
use Rattle.std.specs.FinMap as fin
use Rattle.std.proofs.lemmas.Bool.{false≢true}
use Rattle.sx_edit.proofs.Pathing.{count-cons}
use Rattle.sx_edit.specs.Pathways.{HasAll}
use Rattle.sx_model.specs.Paths.{paths_in, same_path}
use Rattle.sx_model.specs.Sound.{AreBelow}
use Rattle.sx_model.specs.State.{State}
use Rattle.sx_model.specs.Tree.{numbers}
use Rattle.sx_paths.specs.Listed.{has_path}
use Rattle.sx_paths.specs.OfState.{path_rows}
use Rattle.sx_paths.proofs.Listing.{same_path-same}
use Rattle.sx_view.specs.Records.{RecordMap}
use Rattle.sx_view.specs.Rows.{row_of}
use Rattle.sx_model.specs.Tree.{size}
use Rattle.std.specs.Option.{option_map}
use Rattle.sx_tree.specs.declared.record.NodeRecord.{NodeRecord}
use Rattle.sx_query.specs.Gives as query
use Rattle.sx_query.specs.declared.about.About.{About}
use Rattle.sx_reader.specs.Documents.{IsDocumentOf, nodes_of, paths_of}
use Rattle.sx_root.specs.declared.root.RevisionRoot.{RevisionRoot}
use Rattle.sx_store.specs.Drafts.{IsRootOf, ShowsDraft}
use Rattle.sx_store.specs.Shows.{records_of}
use Rattle.sx_store.specs.declared.draft.Draft.{Draft}
use Rattle.sx_tree.specs.declared.record.Step.{Step}
use Rattle.sx_whole.specs.declared.document.Document.{Document}

pub all-below : (limit : ℕ) (ks : List ℕ) → AreBelow limit ks → All (λ k. k < limit) ks
all-below limit [] below k d within = absurd (omega arith)
all-below limit (x ∷ ks) below zero d within = below.0
all-below limit (x ∷ ks) below (suc k) d within = all-below limit ks below.1 k d (omega (arith, within))

none-elsewhere : (listed paths : List (List Step)) (path : List Step) → HasAll listed paths → has_path listed path ≡ false → count_by (same_path path) paths ≡ 0
none-elsewhere listed [] path all none = refl
none-elsewhere listed (other ∷ paths) path all none =
    let rest = none-elsewhere listed paths path all.1 none in
    let here = unlike (same_path path other) refl in
    omega (arith, rest, count-cons (same_path path) other paths, ap {B = ℕ} (λ (b : Bool). cond b 1 0) here)
  where
    unlike : (b : Bool) → same_path path other ≡ b → same_path path other ≡ false
    unlike true same = absurd (false≢true (sym none ∙ subst (λ (p : List Step). has_path listed p ≡ true) (sym (same_path-same path other same)) all.0))
    unlike false other = other

pub shows-draft : (state : State) (root : RevisionRoot) (document : Document) (draft : Draft) → IsRootOf state root → IsDocumentOf state document
    → records_of draft ≡ nodes_of document → draft.next ≡ root.next → draft.paths.paths ≡ path_rows state → ShowsDraft state draft
shows-draft state root document draft is of same next table =
    let reached = is.reached in
    record {
      records = record {
        holds = λ q. ap (λ (m : RecordMap NodeRecord). option_map row_of (fin.get m q)) same ∙ of.nodes q;
        next_is = sym (next ∙ is.next);
        well_formed = reached.sound.well_formed;
        below_next = subst (λ (n : ℕ). All (λ k. k < n) (numbers state.trees)) (sym (next ∙ is.next)) (all-below state.next (numbers state.trees) reached.sound.given);
        few = subst (λ (n : ℕ). size state.trees ≤ n) (sym (next ∙ is.next)) reached.few;
      };
      table = record {
        lists = record {
          are = reached.listed;
          few = reached.sound.paths;
          elsewhere = λ path none. none-elsewhere state.paths (paths_in state.trees) path reached.all none;
          rows_are = table;
        };
        listed = reached.all;
      };
    }

pub are-of : (state : State) (root : RevisionRoot) (document : Document) (about : About) → IsRootOf state root → IsDocumentOf state document → about.nodes ≡ root.nodes → about.paths ≡ root.paths
    → query.AreOf state (Some (nodes_of document)) (Some (paths_of document)) about
are-of state root document about is of nodes paths = record {
  shows = record { holds = of.nodes; well_formed = is.reached.sound.well_formed };
  shows_paths = of.paths;
  nodes_are = nodes ∙ is.nodes;
  paths_are = paths ∙ is.paths;
}

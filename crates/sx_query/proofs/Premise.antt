-- How it is shown that records are those of a state.
use Rattle.std.proofs.Common.{◌≡◌, ◌∙◌, ◌+◌, ◌<◌, ℕ, zero, suc, List, [], ◌∷◌, length, map, Option, None, Some, refl, sym, ap, arith}
use Rattle.std.specs.List.{enumerate_from}
use Rattle.std.proofs.lemmas.Grind.{common_steps}
use Rattle.std.specs.Prelude.{option_and_then, slice_get}
use Rattle.std.specs.Option.{option_map}
use Rattle.std.specs.Ordering.{nat_cmp}
use Rattle.std.specs.FinMap as fin
use Rattle.std.specs.FinMap.{find}
use Rattle.std.proofs.lemmas.Option.{slice_get-map}
use Rattle.sx_tree.specs.declared.record.NodeRecord.{NodeRecord}
use Rattle.sx_tree.specs.declared.record.PathRecord.{PathRecord}
use Rattle.sx_tree.specs.declared.record.Step.{Step}
use Rattle.sx_view.specs.Records.{RecordMap}
use Rattle.sx_view.specs.Rows as nodes
use Rattle.sx_model.specs.Paths.{count_on, number_of}
use Rattle.sx_model.specs.Records.{PathRow, entry, path_row, rows_of}
use Rattle.sx_model.specs.State.{State}
use Rattle.sx_model.specs.Tree.{IsWellFormed, size}
use Rattle.sx_paths.specs.Listed.{AreListed, row_by}
use Rattle.sx_paths.specs.OfState.{path_rows}
use Rattle.sx_paths.specs.Table.{row_at, row_of}
use Rattle.sx_paths.proofs.StateLemmas.{entry-at}
use Rattle.sx_query.specs.Gives.{AreOf}
use Rattle.sx_query.specs.declared.about.About.{About}

-- the rows of all paths are the entries
row_entry : (state : State) (p : ℕ) → AreListed state.paths → row_at (path_rows state) p ≡ entry state p
row_entry state zero all = refl
row_entry state (suc k) all = slice_get-map shown state.paths k ∙ by (slice_get state.paths k) refl
  where
    shown : List Step → PathRow
    shown = row_by (number_of state.paths) (λ path. count_on path state.trees)

    by : (at : Option (List Step)) → slice_get state.paths k ≡ at → option_map shown (slice_get state.paths k) ≡ entry state (suc k)
    by None e = ap (option_map shown) e ∙ sym (ap (option_and_then (path_row state)) e)
    by (Some path) e = ap (option_map shown) e ∙ sym (entry-at state k path all e).0

-- ---- records of paths whose numbers are 1, 2, and so on

find_in : {R : Type 0} (records : List R) (first k p : ℕ) → p ≡ first + k → find nat_cmp p (enumerate_from first records) ≡ slice_get records k
find_in [] first k p at = refl
find_in (r ∷ records) first zero p at = grind (arith, common_steps)
find_in (r ∷ records) first (suc k) p at =
    let later : find nat_cmp p (enumerate_from (first + 1) records) ≡ slice_get records k = find_in records (first + 1) k p (omega (arith, at)) in
    grind (arith, common_steps, later)

find_before : {R : Type 0} (records : List R) (first p : ℕ) → p < first → find nat_cmp p (enumerate_from first records) ≡ None
find_before [] first p before = refl
find_before (r ∷ records) first p before =
    let later : find nat_cmp p (enumerate_from (first + 1) records) ≡ None = find_before records (first + 1) p (omega (arith, before)) in
    grind (arith, common_steps, later)

row_in : (o : Option (ℕ × PathRecord)) → option_map row_of (option_map (λ e. e.1) o) ≡ option_map (λ e. row_of e.1) o
row_in None = refl
row_in (Some e) = refl

-- Such records show their rows.
pub numbered_rows : (ps : RecordMap PathRecord) → fin.entries ps ≡ enumerate_from 1 (map (λ e. e.1) (fin.entries ps))
    → (p : ℕ) → option_map row_of (fin.get ps p) ≡ row_at (map (λ e. row_of e.1) (fin.entries ps)) p
numbered_rows ps numbered zero =
    ap (option_map row_of) (fin.get-entries ps 0) ∙ ap (λ es. option_map row_of (find nat_cmp 0 es)) numbered ∙ ap (option_map row_of) (find_before (map (λ e. e.1) (fin.entries ps)) 1 0 (omega arith))
numbered_rows ps numbered (suc k) =
    ap (option_map row_of) (fin.get-entries ps (suc k)) ∙ ap (λ es. option_map row_of (find nat_cmp (suc k) es)) numbered
    ∙ ap (option_map row_of) (find_in (map (λ e. e.1) (fin.entries ps)) 1 k (suc k) (omega arith) ∙ slice_get-map (λ e. e.1) (fin.entries ps) k)
    ∙ row_in (slice_get (fin.entries ps) k) ∙ sym (slice_get-map (λ e. row_of e.1) (fin.entries ps) k)

-- ---- all records

-- Records that show the rows of a well-formed state's nodes, and the rows of all its paths, are those of the state.
pub are_of : (state : State) (m : RecordMap NodeRecord) (ps : RecordMap PathRecord) (about : About)
    → IsWellFormed state.trees → AreListed state.paths
    → ((k : ℕ) → option_map nodes.row_of (fin.get m k) ≡ find nat_cmp k (rows_of state))
    → ((p : ℕ) → option_map row_of (fin.get ps p) ≡ row_at (path_rows state) p)
    → about.nodes ≡ size state.trees → about.paths ≡ length state.paths → AreOf state (Some m) (Some ps) about
are_of state m ps about formed all nodes_shown paths_shown nodes_are paths_are = record {
  shows = record { holds = nodes_shown; well_formed = formed };
  shows_paths = record { holds = λ p. paths_shown p ∙ row_entry state p all; listed = all };
  nodes_are = nodes_are;
  paths_are = paths_are;
}

-- The document that a cell's frame holds is that of the state which its spot tells.
use Rattle.std.proofs.Common.{◌≡◌, ◌∙◌, ℕ, suc, zero, ◌+◌, ◌-◌, ◌<◌, List, [], ◌∷◌, map, refl, ap, sym, subst, arith, IfSome, Option, None, Some, Result, Ok, Err}
use Rattle.std.specs.Prelude.{IfErr, IfOk, option_map, option_and_then, slice_get, ◌==◌, Bool, true, false, cond}
use Rattle.std.specs.FinMap as fin
use Rattle.std.specs.Cmp.{nat_cmp_total, unsigned_tied}
use Rattle.std.specs.FinMap.{find, get-empty, get-entries, get-insert, same_entries_map}
use Rattle.std.specs.Ordering.{nat_cmp, eq_by_cmp}
use Rattle.std.specs.List.{enumerate_from}
use Rattle.std.proofs.lemmas.Bool.Decides.{nat_tests}
use Rattle.sx_bytes.proofs.Fronts.{some_is}
use Rattle.sha2.specs.Sha256.{sha256}
use Rattle.sx_model.specs.Paths.{count_on, number_of}
use Rattle.sx_model.specs.Records.{NodeRow, PathRow, entry, node, path_row}
use Rattle.sx_model.specs.State.{State, empty_document}
use Rattle.sx_paths.specs.Listed.{AreListed, row_by}
use Rattle.sx_paths.specs.OfState.{ShowsPaths, path_rows}
use Rattle.sx_paths.specs.Table.{row_of}
use Rattle.sx_reader.specs.Documents.{ExplainsAt, GivesDocument, IsDocumentAt, IsDocumentIn, IsDocumentOf, TellsAt, TellsState, nodes_of, paths_of}
use Rattle.sx_reader.specs.Frames.{BreaksFrame, ExplainsRead, IsReadOf}
use Rattle.sx_reader.specs.declared.cell.Cell.{Cell}
use Rattle.sx_reader.proofs.Keeping.{same-whole, whole-keeps}
use Rattle.sx_tree.specs.declared.record.Step.{Step}
use Rattle.sx_tree.specs.declared.record.NodeRecord.{NodeRecord}
use Rattle.sx_tree.specs.declared.record.PathRecord.{PathRecord}
use Rattle.sx_view.specs.Records.{RecordMap}
use Rattle.sx_view.specs.Rows as rows
use Rattle.sx_view.specs.declared.fault.Fault.{Fault}
use Rattle.sx_view.specs.declared.fault.Fault.TheVariants.{Failed, Damaged, OutOfMemory}
use Rattle.sx_volume.specs.declared.spot.Spot.{Ghosts}
use Rattle.sx_whole.specs.Body.{AreNumbered, body_bytes, rows_of}
use Rattle.sx_whole.specs.Stands.{IsBodyOf, whole_frame}
use Rattle.sx_whole.specs.declared.document.Document.{Document}
use Rattle.sx_whole.proofs.OneBody.{one_body}
use Rattle.sx_paths.proofs.StateLemmas.{entry-at}

before-place : {A : Type 0} (xs : List A) (number : ℕ) (x : A) → slice_get xs (suc number - 1) ≡ Some x → slice_get xs number ≡ Some x
before-place xs number x is = let e : suc number - 1 ≡ number = omega arith in rw e at is

pub document-at : {S : Type 0} (g : Ghosts S) (tells : Type 0) (cells : List (Cell S)) (node_root : ℕ) (cell : Cell S) (document : Document)
    → (node_root ≡ 0 → ⊥) → slice_get cells (node_root - 1) ≡ Some cell
    → (bytes : List ℕ) × IsReadOf g tells cell bytes × IsDocumentIn cell.row.digest bytes document → IsDocumentAt g tells cells node_root document
document-at g tells cells zero cell document some there read = absurd (some refl)
document-at g tells cells (suc number) cell document some there read = (cell, read.0, before-place cells number cell there, read.1, read.2)

pub fault-at : {S : Type 0} (g : Ghosts S) (tells rose : Type 0) (cells : List (Cell S)) (node_root : ℕ) (cell : Cell S) (fault : Fault)
    → (node_root ≡ 0 → ⊥) → slice_get cells (node_root - 1) ≡ Some cell → ExplainsRead g tells rose cell BreaksFrame fault → ExplainsAt g tells rose cells node_root fault
fault-at g tells rose cells zero cell fault some there explains = absurd (some refl)
fault-at g tells rose cells (suc number) cell fault some there explains = (cell, before-place cells number cell there, explains)

-- ---- the records of paths

skip : {A : Type 0} (q n : ℕ) (x : A) (es : List (ℕ × A)) → (q ≡ n → ⊥) → find nat_cmp q ((n, x) ∷ es) ≡ find nat_cmp q es
skip q n x es other = ap (λ (b : Bool). cond b (Some x) (find nat_cmp q es)) (unsigned_tied q n ∙ unlike q n other)
  where
    unlike : (q n : ℕ) → (q ≡ n → ⊥) → (q == n) ≡ false
    unlike q n other = grind (arith, nat_tests, other)

here : {A : Type 0} (q n : ℕ) (x : A) (es : List (ℕ × A)) → q ≡ n → find nat_cmp q ((n, x) ∷ es) ≡ Some x
here q n x es same = ap (λ (b : Bool). cond b (Some x) (find nat_cmp q es)) (unsigned_tied q n ∙ alike q n same)
  where
    alike : (q n : ℕ) → q ≡ n → (q == n) ≡ true
    alike q n same = grind (arith, nat_tests, same)

found-from : {A : Type 0} (q n k : ℕ) (xs : List A) → q ≡ n + k → find nat_cmp q (enumerate_from n xs) ≡ slice_get xs k
found-from q n k [] is = refl
found-from q n zero (x ∷ xs) is = here q n x (enumerate_from (n + 1) xs) (omega (arith, is))
found-from q n (suc k) (x ∷ xs) is = skip q n x (enumerate_from (n + 1) xs) (λ same. omega (arith, is, same)) ∙ found-from q (n + 1) k xs (omega (arith, is))

none-before : {A : Type 0} (n : ℕ) (xs : List A) → 0 < n → find nat_cmp 0 (enumerate_from n xs) ≡ None
none-before n [] some = refl
none-before n (x ∷ xs) some = skip 0 n x (enumerate_from (n + 1) xs) (λ same. omega (arith, some, same)) ∙ none-before (n + 1) xs (omega arith)

get-map : {A B : Type 0} (f : A → B) (k : ℕ) (xs : List A) → option_map f (slice_get xs k) ≡ slice_get (map f xs) k
get-map f k [] = refl
get-map f zero (x ∷ xs) = refl
get-map f (suc k) (x ∷ xs) = get-map f k xs

entry-row : (state : State) (k : ℕ) → AreListed state.paths → slice_get (path_rows state) k ≡ entry state (suc k)
entry-row state k listed = by (slice_get state.paths k) refl
  where
    row : List Step → PathRow
    row = row_by (number_of state.paths) (λ path. count_on path state.trees)

    by : (o : Option (List Step)) → slice_get state.paths k ≡ o → slice_get (path_rows state) k ≡ entry state (suc k)
    by None is = sym (get-map row k state.paths) ∙ ap (option_map row) is ∙ ap (option_and_then (path_row state)) (sym is)
    by (Some path) is = sym (get-map row k state.paths) ∙ ap (option_map row) is ∙ sym (entry-at state k path listed is).0

records-values : (records : RecordMap PathRecord) → List PathRecord
records-values records = map (λ e. e.1) (fin.entries records)

values-rows : (es : List (ℕ × PathRecord)) → map row_of (map (λ e. e.1) es) ≡ map (λ e. row_of e.1) es
values-rows [] = refl
values-rows (e ∷ es) = ap (λ (rs : List PathRow). row_of e.1 ∷ rs) (values-rows es)

entry-told : (state : State) (records : RecordMap PathRecord) → AreListed state.paths → AreNumbered (Some records) → rows_of (Some records) ≡ path_rows state
    → (p : ℕ) → option_map row_of (fin.get records p) ≡ entry state p
entry-told state records listed numbered same zero =
    ap (option_map row_of) (get-entries records 0 ∙ ap (find nat_cmp 0) numbered ∙ none-before 1 (map (λ (e : ℕ × PathRecord). e.1) (fin.entries records)) (omega arith))
entry-told state records listed numbered same (suc k) =
    let values : List PathRecord = map (λ (e : ℕ × PathRecord). e.1) (fin.entries records) in
    ap (option_map row_of) (get-entries records (suc k) ∙ ap (find nat_cmp (suc k)) numbered ∙ found-from (suc k) 1 k values (omega arith))
    ∙ get-map row_of k values ∙ ap (λ (rs : List PathRow). slice_get rs k) (values-rows (fin.entries records) ∙ same) ∙ entry-row state k listed

shows-paths : (state : State) (records : RecordMap PathRecord) → AreListed state.paths → AreNumbered (Some records) → rows_of (Some records) ≡ path_rows state → ShowsPaths state (Some records)
shows-paths state records listed numbered same = record { holds = entry-told state records listed numbered same; listed = listed }

-- ---- the document without a child

pub no-paths : (records : RecordMap PathRecord) → Some records ≡ Some fin.empty → ShowsPaths empty_document (Some records)
no-paths records is = record { holds = none; listed = tt }
  where
    empty : (p : ℕ) → option_map row_of (fin.get records p) ≡ None
    empty p = ap (λ (m : RecordMap PathRecord). option_map row_of (fin.get m p)) (some_is records fin.empty is) ∙ ap (option_map row_of) (get-empty nat_cmp p)

    none : (p : ℕ) → option_map row_of (fin.get records p) ≡ entry empty_document p
    none zero = empty zero
    none (suc k) = empty (suc k)

map-cond : (b : Bool) (r : NodeRecord) → option_map rows.row_of (cond b (Some r) None) ≡ cond b (Some (rows.row_of r)) None
map-cond true r = refl
map-cond false r = refl

pub lone-nodes : (records old : RecordMap NodeRecord) (r : NodeRecord) → Some old ≡ Some fin.empty → Some records ≡ option_map (λ m. fin.insert m 0 r) (Some old)
    → Some (rows.row_of r) ≡ node empty_document 0 → (k : ℕ) → option_map rows.row_of (fin.get records k) ≡ node empty_document k
lone-nodes records old r start is row k =
    let made : records ≡ fin.insert fin.empty 0 r = some_is records (fin.insert old 0 r) is ∙ ap (λ (m : RecordMap NodeRecord). fin.insert m 0 r) (some_is old fin.empty start) in
    let got : fin.get records k ≡ cond (eq_by_cmp nat_cmp k 0) (Some r) None =
    ap (λ (m : RecordMap NodeRecord). fin.get m k) made ∙ get-insert nat_cmp_total fin.empty 0 r k
    ∙ ap (λ (o : Option NodeRecord). cond (eq_by_cmp nat_cmp k 0) (Some r) o) (get-empty nat_cmp k) in
    ap (option_map rows.row_of) got ∙ map-cond (eq_by_cmp nat_cmp k 0) r ∙ ap (λ (o : Option NodeRow). cond (eq_by_cmp nat_cmp k 0) o None) row

of-state : (state : State) (body : List ℕ) (document : Document) (digest bytes : List ℕ) → AreListed state.paths → IsBodyOf state body → bytes ≡ whole_frame body
    → IsDocumentIn digest bytes document → IsDocumentOf state document
of-state state body document digest bytes listed is same there =
    let bodies : body_bytes (fin.entries (nodes_of document)) (rows_of (Some (paths_of document))) ≡ body_bytes (fin.entries is.records) (path_rows state) =
    same-whole _ _ (sym there.bytes_are ∙ same) ∙ is.body_is in
    let parts = one_body _ _ _ _ there.whole is.whole bodies in
    record {
      nodes = λ k. ap (λ (m : RecordMap NodeRecord). option_map rows.row_of (fin.get m k)) (same_entries_map _ _ parts.0) ∙ is.nodes k;
      paths = shows-paths state (paths_of document) listed there.numbered parts.1;
    }

told-bytes : {S : Type 0} (g : Ghosts S) (tells : Type 0) (state : State) (cell : Cell S) (bytes : List ℕ) (told : TellsState g state cell) → IsReadOf g tells cell bytes → tells → bytes ≡ whole_frame told.body
told-bytes g tells state cell bytes told read now = subst (λ (o : Option (List ℕ)). IfSome o (λ all. bytes ≡ all)) told.content (read.told now)

gives : {S : Type 0} (g : Ghosts S) (tells rose : Type 0) (state : State) (cell : Cell S) (result : Result Document Fault) → TellsState g state cell → tells
    → IfOk result (λ document. (bytes : List ℕ) × IsReadOf g tells cell bytes × IsDocumentIn cell.row.digest bytes document)
    → IfErr result (ExplainsRead g tells rose cell BreaksFrame) → GivesDocument state result
gives g tells rose state cell (Ok document) told now ok err =
    of-state state told.body document cell.row.digest ok.0 told.listed told.is_body (told-bytes g tells state cell ok.0 told ok.1 now) ok.2
gives g tells rose state cell (Err Failed) told now ok err = tt
gives g tells rose state cell (Err (Damaged damage)) told now ok (bytes, read, broken) =
    let is = told-bytes g tells state cell bytes told read now in
    let body = told.is_body in
    whole-keeps cell.place cell.row.digest bytes (fin.entries body.records) (path_rows state) damage (ap sha256 is ∙ sym told.digest)
    (is ∙ ap whole_frame body.body_is) body.whole read.fits broken
gives g tells rose state cell (Err OutOfMemory) told now ok err = tt

pub gives-at : {S : Type 0} (g : Ghosts S) (tells rose : Type 0) (state : State) (cells : List (Cell S)) (node_root : ℕ) (cell : Cell S) (result : Result Document Fault)
    → (node_root ≡ 0 → ⊥) → slice_get cells (node_root - 1) ≡ Some cell → TellsAt g state cells node_root → tells
    → IfOk result (λ document. (bytes : List ℕ) × IsReadOf g tells cell bytes × IsDocumentIn cell.row.digest bytes document)
    → IfErr result (ExplainsRead g tells rose cell BreaksFrame) → GivesDocument state result
gives-at g tells rose state cells zero cell result some there told now ok err = absurd (some refl)
gives-at {S = S} g tells rose state cells (suc number) cell result some there (other, other_there, told) now ok err =
    let same : other ≡ cell = cc (other_there, before-place cells number cell there) in
    gives g tells rose state cell result (subst (TellsState g state) same told) now ok err

pub if_ok-then : {T E : Type 0} {P Q : T → Type 0} (r : Result T E) → ((x : T) → P x → Q x) → IfOk r P → IfOk r Q
if_ok-then (Ok x) step is = step x is
if_ok-then (Err e) step is = is

pub if_err-then : {T E : Type 0} {P Q : E → Type 0} (r : Result T E) → ((e : E) → P e → Q e) → IfErr r P → IfErr r Q
if_err-then (Ok x) step is = is
if_err-then (Err e) step is = step e is

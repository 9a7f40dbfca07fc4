-- The spots of a ledger that shows a book tell the states of its commits.
use Rattle.std.proofs.Common.{◌≡◌, ◌∙◌, ℕ, ℤ, zero, suc, ◌+◌, ◌*◌, ◌<◌, ◌≤◌, List, [], ◌∷◌, ◌++◌, length, map, take, refl, ap, sym, subst, arith, Option, Some}
use Rattle.std.specs.Prelude.{slice_get}
use Rattle.std.proofs.lemmas.List.{take_at}
use Rattle.std.proofs.lemmas.Option.{slice_get_within}
use Rattle.sx_frame.specs.declared.table.FrameRow.{FrameRow}
use Rattle.sx_layout.specs.FrameGroup.{FrameGroup, first_root, group_size, row_of}
use Rattle.sx_log.specs.Kept.{first_place, listed, row_at, rows_from}
use Rattle.sx_log.specs.declared.log.GroupRow.{GroupRow}
use Rattle.sx_model.specs.Commit.{Commit, replay, state_of}
use Rattle.sx_model.specs.Edit.{after}
use Rattle.sx_model.specs.State.{State, empty_document}
use Rattle.sx_reader.specs.Cells.{Placed, frames_from, frames_of, placed, placed_from, placed_in}
use Rattle.sx_reader.specs.Documents.{TellsAt, TellsState}
use Rattle.sx_reader.specs.declared.cell.Cell.{Cell}
use Rattle.sx_root.specs.declared.root.RevisionRoot.{RevisionRoot}
use Rattle.sx_run.specs.Run.{Book}
use Rattle.sx_store.specs.Damage.{root_at}
use Rattle.sx_store.specs.Drafts.{IsRootOf}
use Rattle.sx_store.specs.Shows.{Shows, count_of}
use Rattle.sx_store.specs.Sound.{IsWhole}
use Rattle.sx_store.specs.declared.ledger.Ledger.{Ledger}
use Rattle.sx_store.proofs.States.{reached}
use Rattle.sx_store.proofs.Wholes.{length-mapped, length-rows, root-taken}
use Rattle.sx_volume.specs.declared.spot.Spot.{Ghosts}
use Rattle.sx_whole.specs.Stands.{ShowFrom, ShowsState, root_of, whole_frame}

-- the group of a revision, its frame, and where it stands
pub record At (r : ℕ) (state : State) (groups : List FrameGroup) (place k : ℕ) : Type 0 where
  pub time : ℤ
  pub group : FrameGroup
  pub shows : ShowsState r time state group
  pub frame : slice_get (frames_of groups) k ≡ Some (whole_frame shows.body)
  pub at : ℕ
  pub placed_is : slice_get (placed_in (rows_from place groups)) k ≡ Some (at, row_of (whole_frame shows.body))
  pub row : GroupRow
  pub row_is : slice_get (rows_from place groups) k ≡ Some row
  pub root : row.root ≡ group.root

one-frame : (frame : List ℕ) → frames_from (row_of frame ∷ []) (frame ++ []) ≡ frame ∷ []
one-frame frame = ap (λ (f : List ℕ). f ∷ []) (take_at frame [] (length frame) refl)

head-frame : (r : ℕ) (time : ℤ) (state : State) (group : FrameGroup) (groups : List FrameGroup) (shows : ShowsState r time state group) → frames_of (group ∷ groups) ≡ whole_frame shows.body ∷ frames_of groups
head-frame r time state group groups shows =
    ap (λ (x : FrameGroup). frames_from x.table x.body ++ frames_of groups) shows.group_is ∙ ap (λ (l : List (List ℕ)). l ++ frames_of groups) (one-frame (whole_frame shows.body))

head-placed : (r place : ℕ) (time : ℤ) (state : State) (group : FrameGroup) (groups : List FrameGroup) (shows : ShowsState r time state group)
    → placed_in (rows_from place (group ∷ groups))
    ≡ (place + (80 + 36 * group.root.frames), row_of (whole_frame shows.body)) ∷ placed_in (rows_from (place + group_size group.root.frames group.root.body) groups)
head-placed r place time state group groups shows =
    let rest : List Placed = placed_in (rows_from (place + group_size group.root.frames group.root.body) groups) in
    ap (λ (x : FrameGroup). placed_from (place + (80 + 36 * group.root.frames)) x.table ++ rest) shows.group_is

show-at : (r place : ℕ) (state : State) (commits : List Commit) (groups : List FrameGroup) (k : ℕ) → ShowFrom r state commits groups → k < length commits
    → At (r + k) (replay (take (suc k) commits) state) groups place k
show-at r place state [] groups k shows within = absurd (omega arith)
show-at r place state (commit ∷ commits) [] k shows within = absurd shows
show-at r place state (commit ∷ commits) (group ∷ groups) zero shows within =
    let same : r ≡ r + 0 = omega arith in
    subst (λ (n : ℕ). At n (after commit.edits state) (group ∷ groups) place 0) same
    (record {
      time = commit.time;
      group = group;
      shows = shows.0;
      frame = ap (λ (l : List (List ℕ)). slice_get l 0) (head-frame r commit.time (after commit.edits state) group groups shows.0);
      at = place + (80 + 36 * group.root.frames);
      placed_is = ap (λ (l : List Placed). slice_get l 0) (head-placed r place commit.time (after commit.edits state) group groups shows.0);
      row = row_at place group;
      row_is = refl;
      root = refl;
    })
show-at r place state (commit ∷ commits) (group ∷ groups) (suc k) shows within =
    let next : ℕ = place + group_size group.root.frames group.root.body in
    let rest = show-at (r + 1) next (after commit.edits state) commits groups k shows.1 (omega (arith, within)) in
    let same : r + 1 + k ≡ r + suc k = omega arith in
    let found : At (r + 1 + k) (replay (take (suc k) commits) (after commit.edits state)) (group ∷ groups) place (suc k) = record {
      time = rest.time;
      group = rest.group;
      shows = rest.shows;
      frame = ap (λ (l : List (List ℕ)). slice_get l (suc k)) (head-frame r commit.time (after commit.edits state) group groups shows.0) ∙ rest.frame;
      at = rest.at;
      placed_is = ap (λ (l : List Placed). slice_get l (suc k)) (head-placed r place commit.time (after commit.edits state) group groups shows.0) ∙ rest.placed_is;
      row = rest.row;
      row_is = rest.row_is;
      root = rest.root;
    } in
    subst (λ (n : ℕ). At n (replay (take (suc k) commits) (after commit.edits state)) (group ∷ groups) place (suc k)) same found

pub shown-long : (r : ℕ) (state : State) (commits : List Commit) (groups : List FrameGroup) → ShowFrom r state commits groups → length groups ≡ length commits
shown-long r state [] [] shows = refl
shown-long r state [] (group ∷ groups) shows = absurd shows
shown-long r state (commit ∷ commits) [] shows = absurd shows
shown-long r state (commit ∷ commits) (group ∷ groups) shows = ap suc (shown-long (r + 1) (after commit.edits state) commits groups shows.1)

pub count-shown : {S : Type 0} (g : Ghosts S) (ledger : Ledger S) (book : Book) → Shows g ledger book → count_of ledger ≡ length book.commits
count-shown g ledger book shows =
    ap length shows.is_log.rows ∙ length-rows first_place shows.groups ∙ shown-long 1 empty_document book.commits shows.groups shows.commits.1

get-mapped : {A B : Type 0} (f : A → B) (xs : List A) (k : ℕ) (y : B) → slice_get (map f xs) k ≡ Some y → (x : A) × (slice_get xs k ≡ Some x) × (f x ≡ y)
get-mapped f [] k y is = absurd cc
get-mapped f (x ∷ xs) zero y is = (x, refl, cc)
get-mapped f (x ∷ xs) (suc k) y is = get-mapped f xs k y is

map-get : {A B : Type 0} (f : A → B) (xs : List A) (k : ℕ) (x : A) → slice_get xs k ≡ Some x → slice_get (map f xs) k ≡ Some (f x)
map-get f [] k x is = absurd cc
map-get f (y ∷ xs) zero x is = let same : y ≡ x = cc in ap (λ z. Some (f z)) same
map-get f (y ∷ xs) (suc k) x is = map-get f xs k x is

-- what is known of the root of a revision
pub record Revision {S : Type 0} (g : Ghosts S) (ledger : Ledger S) (state : State) (r : ℕ) : Type 0 where
  pub tells : TellsAt g state ledger.cells.items (root_at ledger r).node_root
  pub root : IsRootOf state (root_at ledger r)

-- the cell of the frame of a commit tells its state
pub cell-stored : {S : Type 0} (g : Ghosts S) (ledger : Ledger S) (book : Book) (k : ℕ) → IsWhole g ledger → Shows g ledger book → k < length book.commits
    → (cell : Cell S) × (slice_get ledger.cells.items k ≡ Some cell) × TellsState g (state_of book.commits (suc k)) cell
cell-stored g ledger book k whole shows within =
    let state : State = state_of book.commits (suc k) in
    let at = show-at 1 first_place empty_document book.commits shows.groups k shows.commits.1 within in
    let is_reached = reached book.commits (suc k) [] shows.commits.0 tt in
    let placed_are : map placed ledger.cells.items ≡ placed_in (rows_from first_place shows.groups) = whole.cells.placed_are ∙ ap placed_in shows.is_log.rows in
    let cell = get-mapped placed ledger.cells.items k (at.at, row_of (whole_frame at.shows.body)) (ap (λ (l : List Placed). slice_get l k) placed_are ∙ at.placed_is) in
    let told : slice_get (map (λ (c : Cell _). g.content c.spot) ledger.cells.items) k ≡ Some (Some (whole_frame at.shows.body)) =
    ap (λ (l : List (Option (List ℕ))). slice_get l k) shows.frames ∙ map-get Some (frames_of shows.groups) k (whole_frame at.shows.body) at.frame in
    let mine = map-get (λ (c : Cell _). g.content c.spot) ledger.cells.items k cell.0 cell.1 in
    let content : g.content cell.0.spot ≡ Some (whole_frame at.shows.body) = cc (told, mine) in
    let row : cell.0.row ≡ row_of (whole_frame at.shows.body) = ap (λ (p : Placed). p.1) cell.2 in
    let tells_state : TellsState g state cell.0 = record {
      listed = is_reached.listed;
      body = at.shows.body;
      is_body = at.shows.is_body;
      content = content;
      digest = ap (λ (r : FrameRow). r.digest) row;
    } in
    (cell.0, cell.1, tells_state)

revision-stored : {S : Type 0} (g : Ghosts S) (ledger : Ledger S) (book : Book) (k : ℕ) → IsWhole g ledger → Shows g ledger book → k < length book.commits → Revision g ledger (state_of book.commits (suc k)) (suc k)
revision-stored g ledger book k whole shows within =
    let state : State = state_of book.commits (suc k) in
    let at = show-at 1 first_place empty_document book.commits shows.groups k shows.commits.1 within in
    let is_reached = reached book.commits (suc k) [] shows.commits.0 tt in
    let cell = cell-stored g ledger book k whole shows within in
    let root_is : root_at ledger (suc k) ≡ root_of (1 + k) at.time state (length (whole_frame at.shows.body)) =
    sym (root-taken first_root (listed ledger.log.groups) k at.row (ap (λ (l : List GroupRow). slice_get l k) shows.is_log.rows ∙ at.row_is))
    ∙ at.root ∙ ap (λ (x : FrameGroup). x.root) at.shows.group_is in
    let one : 1 + k ≡ suc k = omega arith in
    let node_root : (root_at ledger (suc k)).node_root ≡ suc k = ap (λ (root : RevisionRoot). root.node_root) root_is ∙ one in
    record {
      tells = subst (TellsAt g state ledger.cells.items) (sym node_root) (cell.0, cell.1, cell.2);
      root = record {
        reached = is_reached;
        next = ap (λ (root : RevisionRoot). root.next) root_is;
        nodes = ap (λ (root : RevisionRoot). root.nodes) root_is;
        paths = ap (λ (root : RevisionRoot). root.paths) root_is;
      };
    }

pub revision : {S : Type 0} (g : Ghosts S) (ledger : Ledger S) (book : Book) (r : ℕ) → IsWhole g ledger → Shows g ledger book → r ≤ length book.commits → Revision g ledger (state_of book.commits r) r
revision g ledger book zero whole shows within = record {
  tells = refl;
  root = record { reached = reached book.commits 0 [] shows.commits.0 tt; next = refl; nodes = refl; paths = refl };
}
revision g ledger book (suc k) whole shows within = revision-stored g ledger book k whole shows (omega (arith, within))

frames-long : (r : ℕ) (state : State) (commits : List Commit) (groups : List FrameGroup) → ShowFrom r state commits groups → length (frames_of groups) ≡ length commits
frames-long r state [] [] shows = refl
frames-long r state [] (group ∷ groups) shows = absurd shows
frames-long r state (commit ∷ commits) [] shows = absurd shows
frames-long r state (commit ∷ commits) (group ∷ groups) shows =
    ap length (head-frame r commit.time (after commit.edits state) group groups shows.0) ∙ ap suc (frames-long (r + 1) (after commit.edits state) commits groups shows.1)

-- there is one cell for each commit
pub cells-shown : {S : Type 0} (g : Ghosts S) (ledger : Ledger S) (book : Book) → Shows g ledger book → length ledger.cells.items ≡ length book.commits
cells-shown g ledger book shows =
    sym (length-mapped (λ (c : Cell _). g.content c.spot) ledger.cells.items) ∙ ap length shows.frames ∙ length-mapped Some (frames_of shows.groups)
    ∙ frames-long 1 empty_document book.commits shows.groups shows.commits.1

pub cell-told : {S : Type 0} (g : Ghosts S) (ledger : Ledger S) (book : Book) → IsWhole g ledger → Shows g ledger book → (k : ℕ) (cell : Cell S) → slice_get ledger.cells.items k ≡ Some cell
    → (state : State) × TellsState g state cell
cell-told {S = S} g ledger book whole shows k cell there =
    let within = slice_get_within ledger.cells.items k cell there in
    let long = cells-shown g ledger book shows in
    let stored = cell-stored g ledger book k whole shows (omega (arith, within, long)) in
    let same : stored.0 ≡ cell = cc (stored.1, there) in
    (state_of book.commits (suc k), subst (TellsState g (state_of book.commits (suc k))) same stored.2)

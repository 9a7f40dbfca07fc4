-- A draft is made of a revision.
use Rattle.std.proofs.Common.{◌≡◌, ◌∙◌, ℕ, ◌≤◌, inl, inr, List, [], ◌∷◌, length, take, refl, ap, sym, subst, arith, Option, Some, None, Result, Ok, Err}
use Rattle.std.specs.Prelude.{IfOk, IsErrAnd, IsErrOf}
use Rattle.sx_bytes.specs.declared.damage.Damage.{Damage}
use Rattle.sx_layout.specs.FrameGroup.{first_root}
use Rattle.sx_log.specs.Kept.{listed, root_behind}
use Rattle.sx_model.specs.Commit.{Commit, replay, state_of}
use Rattle.sx_model.specs.Edit.{after}
use Rattle.sx_model.specs.Records.{PathRow}
use Rattle.sx_model.specs.State.{State, empty_document}
use Rattle.sx_paths.specs.Load.{HasBrokenPath}
use Rattle.sx_paths.specs.OfState.{AreNoPaths, AreRows, ShowsPaths, path_rows}
use Rattle.sx_reader.specs.Documents.{ExplainsAt, GivesDocument, IsDocumentAt, nodes_of, paths_of}
use Rattle.sx_reader.specs.declared.cell.Cell.{Cell}
use Rattle.sx_root.specs.declared.root.RevisionRoot.{RevisionRoot}
use Rattle.sx_run.specs.Run.{Book, current}
use Rattle.sx_store.specs.Damage.{IsDamagedAt, IsLoaded, IsMade, IsTakenDamage, Kept, KeepsAt, root_at}
use Rattle.sx_store.specs.Drafts.{GivesDraft, ShowsDraft}
use Rattle.sx_store.specs.Shows.{HasDraft, IsDraftOf, count_of, last_root_of}
use Rattle.sx_store.specs.declared.draft.Draft.{Draft}
use Rattle.sx_store.specs.declared.ledger.Ledger.{Ledger}
use Rattle.sx_store.proofs.Answering.{at-damage, keeps-at}
use Rattle.sx_tree.specs.declared.record.PathRecord.{PathRecord}
use Rattle.sx_view.specs.Records as views
use Rattle.sx_view.specs.Records.{RecordMap}
use Rattle.sx_view.specs.declared.fault.Fault.{Fault}
use Rattle.sx_view.specs.declared.fault.Fault.TheVariants.{Failed, Damaged, OutOfMemory}
use Rattle.sx_volume.specs.declared.spot.Spot.{Ghosts}
use Rattle.sx_whole.specs.declared.document.Document.{Document}

no-draft : (state : State) (fault : Fault) → GivesDocument state (Err fault) → GivesDraft state (Err fault)
no-draft state Failed is = tt
no-draft state (Damaged damage) is = is
no-draft state OutOfMemory is = tt

pub gives-no_draft : (state : State) (r : Result Draft Fault) (fault : Fault) → IsErrAnd r (λ e. e ≡ fault) → GivesDocument state (Err fault) → GivesDraft state r
gives-no_draft state (Ok draft) fault is gives = absurd is
gives-no_draft state (Err e) fault is gives = subst (λ (e : Fault). GivesDraft state (Err e)) (sym is) (no-draft state fault gives)

err-same : (a b : Fault) → IsErrOf {T = Draft} (Err a) b → a ≡ b
err-same a b is = cc is

pub frame-damage : {S : Type 0} (g : Ghosts S) (tells rose : Type 0) (cells : List (Cell S)) (node_root : ℕ) (cause : Kept → Damage → Type 0) (r : Result Draft Fault) (fault : Fault) (damage : Damage)
    → IsErrAnd r (λ e. e ≡ fault) → ExplainsAt g tells rose cells node_root fault → IsErrOf r (Damaged damage) → IsDamagedAt g tells cells node_root cause damage
frame-damage g tells rose cells node_root cause (Ok draft) fault damage is explains told = absurd is
frame-damage g tells rose cells node_root cause (Err e) fault damage is explains told =
    at-damage g tells rose cells node_root cause damage (subst (ExplainsAt g tells rose cells node_root) (sym is ∙ err-same e (Damaged damage) told) explains)

no-broken : (state : State) (paths : Option (RecordMap PathRecord)) (count : ℕ) (fault : Fault) → (views.IsDamaged fault → AreNoPaths paths count) → ShowsPaths state paths → count ≤ length state.paths → GivesDraft state (Err fault)
unfolding AreNoPaths
no-broken state paths count Failed none shows within = tt
no-broken state paths count (Damaged damage) none shows within = none tt state shows within
no-broken state paths count OutOfMemory none shows within = tt

pub gives-no_table : (state : State) (r : Result Draft Fault) (paths : Option (RecordMap PathRecord)) (count : ℕ) (fault : Fault) → IsErrAnd r (λ e. e ≡ fault)
    → (views.IsDamaged fault → AreNoPaths paths count) → ShowsPaths state paths → count ≡ length state.paths → GivesDraft state r
gives-no_table state (Ok draft) paths count fault is none shows long = absurd is
gives-no_table state (Err e) paths count fault is none shows long =
    subst (λ (e : Fault). GivesDraft state (Err e)) (sym is) (no-broken state paths count fault none shows (omega (arith, long)))

broken-at : (rose : Type 0) (broken : Damage → Type 0) (damage : Damage) → views.Explains (λ _. ⊥) rose broken (Damaged damage) → broken damage
broken-at rose broken damage (inl never) = absurd never
broken-at rose broken damage (inr is) = is

pub table-damage : {S : Type 0} (g : Ghosts S) (tells rose : Type 0) (cells : List (Cell S)) (root : RevisionRoot) (document : Document) (r : Result Draft Fault) (fault : Fault) (damage : Damage)
    → IsErrAnd r (λ e. e ≡ fault) → IsDocumentAt g tells cells root.node_root document
    → views.Explains (λ _. ⊥) rose (HasBrokenPath (Some (paths_of document)) root.paths) fault → IsErrOf r (Damaged damage)
    → IsDamagedAt g tells cells root.node_root (λ kept damage. HasBrokenPath (Some kept.paths) root.paths damage) damage
table-damage g tells rose cells root document (Ok draft) fault damage is at explains told = absurd is
table-damage g tells rose cells root document (Err e) fault damage is at explains told =
    inr (
      record { nodes = nodes_of document; paths = paths_of document },
      keeps-at g tells cells root.node_root document at,
      broken-at rose (HasBrokenPath (Some (paths_of document)) root.paths) damage
          (subst (views.Explains (λ _. ⊥) rose (HasBrokenPath (Some (paths_of document)) root.paths)) (sym is ∙ err-same e (Damaged damage) told) explains),
    )

pub rows-told : (paths : Option (RecordMap PathRecord)) (count : ℕ) (rows : List PathRow) (state : State) → AreRows paths count rows → ShowsPaths state paths → count ≡ length state.paths → rows ≡ path_rows state
unfolding AreRows
rows-told paths count rows state are shows long = are state shows long

-- ---- the last revision

pub take-all : {A : Type 0} (xs : List A) → take (length xs) xs ≡ xs
take-all [] = refl
take-all (x ∷ xs) = ap (λ l. x ∷ l) (take-all xs)

pub last-root : {S : Type 0} (ledger : Ledger S) (root : RevisionRoot) (count : ℕ) → root ≡ root_at ledger count → count ≡ count_of ledger → root ≡ last_root_of ledger
last-root ledger root count is same =
    is ∙ ap (λ (n : ℕ). root_at ledger n) same ∙ ap (root_behind first_root) (take-all (listed ledger.log.groups))

pub last-state : (book : Book) (count : ℕ) → count ≡ length book.commits → book.edits ≡ [] → state_of book.commits count ≡ current book
last-state book count same none =
    ap (λ (n : ℕ). state_of book.commits n) same ∙ ap (λ (commits : List Commit). replay commits empty_document) (take-all book.commits)
    ∙ ap (λ edits. after edits (replay book.commits empty_document)) (sym none)

pub none-open : (draft : Option Draft) (book : Book) → draft ≡ None → HasDraft draft book → book.edits ≡ []
none-open None book is has = has
none-open (Some draft) book is has = absurd (cc is)

pub drafted : (book : Book) (state : State) (r : Result Draft Fault) → state ≡ current book → GivesDraft state r → IfOk r (IsDraftOf book)
drafted book state (Ok draft) same gives = let is = subst (λ s. ShowsDraft s draft) same gives in record { records = is.records; table = is.table }
drafted book state (Err fault) same gives = tt

pub undamaged : (state : State) (r : Result Draft Fault) (damage : Damage) → GivesDraft state r → IsErrOf r (Damaged damage) → ⊥
undamaged state (Ok draft) damage gives is = cc is
undamaged state (Err e) damage gives is = subst (λ (e : Fault). GivesDraft state (Err e)) (err-same e (Damaged damage) is) gives

made-of : {S : Type 0} (g : Ghosts S) (tells : Type 0) (ledger : Ledger S) (read : List (Cell S)) (draft : Option Draft) (root : RevisionRoot) (made : Draft) → read ≡ ledger.cells.items → draft ≡ None
    → root ≡ last_root_of ledger → (kept : Kept) × KeepsAt g tells read root.node_root kept × IsLoaded kept root.paths made → IsMade g tells ledger draft made
made-of g tells ledger read None root made cells none same (kept, keeps, is) =
    let here = subst (λ (l : List (Cell _)). KeepsAt g tells l root.node_root kept) cells keeps in
    let both = subst (λ (r : RevisionRoot). KeepsAt g tells ledger.cells.items r.node_root kept × IsLoaded kept r.paths made) same (here, is) in
    (kept, both.0, both.1)
made-of g tells ledger read (Some before) root made cells none same is = absurd (cc none)

pub is-made : {S : Type 0} (g : Ghosts S) (tells : Type 0) (ledger : Ledger S) (read : List (Cell S)) (draft : Option Draft) (root : RevisionRoot) (r : Result Draft Fault) → read ≡ ledger.cells.items → draft ≡ None
    → root ≡ last_root_of ledger → IfOk r (λ draft. (kept : Kept) × KeepsAt g tells read root.node_root kept × IsLoaded kept root.paths draft) → IfOk r (IsMade g tells ledger draft)
is-made g tells ledger read draft root (Err fault) cells none same made = tt
is-made g tells ledger read draft root (Ok made) cells none same is = made-of g tells ledger read draft root made cells none same is

pub last-damage : {S : Type 0} (g : Ghosts S) (tells : Type 0) (ledger : Ledger S) (read : List (Cell S)) (draft : Option Draft) (root : RevisionRoot) (damage : Damage) → read ≡ ledger.cells.items → draft ≡ None
    → root ≡ last_root_of ledger → IsDamagedAt g tells read root.node_root (λ kept damage. HasBrokenPath (Some kept.paths) root.paths damage) damage → IsTakenDamage g tells draft ledger damage
last-damage g tells ledger read None root damage cells none same is =
    let here = subst (λ (l : List (Cell _)). IsDamagedAt g tells l root.node_root (λ kept damage. HasBrokenPath (Some kept.paths) root.paths damage) damage) cells is in
    subst (λ (r : RevisionRoot). IsDamagedAt g tells ledger.cells.items r.node_root (λ kept damage. HasBrokenPath (Some kept.paths) r.paths damage) damage) same here
last-damage g tells ledger read (Some before) root damage cells none same is = absurd (cc none)

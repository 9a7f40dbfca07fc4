-- Of which groups a ledger is, and what its volume keeps of them.
use Rattle.std.proofs.Common.{◌≡◌, ◌∙◌, ℕ, suc, ◌+◌, List, [], ◌∷◌, ◌++◌, length, take, drop, map, Option, None, Some, IfSome, refl, ap, sym, subst, arith, append-nil, length-append, length-drop}
use Rattle.std.proofs.Math.Seq.{drop-append_seam, take-append_seam}
use Rattle.std.proofs.lemmas.List.{take-append-drop}
use Rattle.std.specs.List.{AllByRecursion}
use Rattle.sx_frame.specs.declared.table.FrameRow.{FrameRow}
use Rattle.sx_layout.specs.Born.{HasLog}
use Rattle.sx_layout.specs.FrameGroup.{FrameGroup, first_root, group_of_frames, group_size, joined}
use Rattle.sx_layout.specs.Rules.{Follow, frames_size}
use Rattle.sx_log.specs.Committing.{KeepsLog}
use Rattle.sx_log.specs.Kept.{row_at, rows_from}
use Rattle.sx_log.specs.declared.log.GroupRow.{GroupRow}
use Rattle.sx_log.proofs.Finding.{all_told}
use Rattle.sx_model.specs.Commit.{Commit}
use Rattle.sx_model.specs.Edit.{after}
use Rattle.sx_model.specs.State.{State, empty_document}
use Rattle.sx_reader.specs.Cells.{frames_from, frames_of}
use Rattle.sx_root.specs.declared.root.RevisionRoot.{RevisionRoot}
use Rattle.sx_run.specs.Run.{Book}
use Rattle.sx_store.specs.Shows.{Shows, birth_in, stage_of}
use Rattle.sx_store.specs.Sound.{HasAll, IsKeptIn, IsLedgerOf, IsSound}
use Rattle.sx_store.specs.declared.ledger.Ledger.{Ledger}
use Rattle.sx_volume.specs.declared.spot.Spot as spot
use Rattle.sx_volume.specs.declared.volume.Volume as volume
use Rattle.sx_whole.specs.Stands.{ShowCommits, ShowFrom, Stands, root_of, whole_frame}

-- ---- groups by their rows and their frames

-- the body has the bytes that the table tells
abbrev Fit : FrameGroup → Type 0
Fit group = length group.body ≡ frames_size group.table

fits_of : (groups : List FrameGroup) → AllByRecursion (λ (group : FrameGroup). group.root.body ≡ frames_size group.table) groups → (last : RevisionRoot) → Follow last groups → AllByRecursion Fit groups
fits_of [] bodies last follow = tt
fits_of (group ∷ groups) bodies last follow = (follow.0.body ∙ bodies.0, fits_of groups bodies.1 group.root follow.2)

fits_shown : (r : ℕ) (state : State) (commits : List Commit) (groups : List FrameGroup) → ShowFrom r state commits groups → AllByRecursion Fit groups
fits_shown r state [] [] show = tt
fits_shown r state [] (group ∷ groups) show = absurd show
fits_shown r state (commit ∷ commits) [] show = absurd show
fits_shown r state (commit ∷ commits) (group ∷ groups) show =
    let frame = whole_frame show.0.body in
    let size = length-append frame [] in
    let fit : Fit (group_of_frames (root_of r commit.time (after commit.edits state) (length frame)) (frame ∷ [])) = omega (arith, size) in
    (subst (λ (g : FrameGroup). Fit g) (sym show.0.group_is) fit, fits_shown (r + 1) (after commit.edits state) commits groups show.1)

-- frames one behind another are the bytes that they were cut from
joined_from : (table : List FrameRow) (bytes : List ℕ) → length bytes ≡ frames_size table → joined (frames_from table bytes) ≡ bytes
joined_from [] [] fit = refl
joined_from [] (byte ∷ bytes) fit = absurd (omega (arith, fit))
joined_from (row ∷ rows) bytes fit =
    let rest : length (drop row.bytes bytes) ≡ frames_size rows = let size = length-drop row.bytes bytes in omega (arith, size, fit) in
    ap (λ (b : List ℕ). take row.bytes bytes ++ b) (joined_from rows (drop row.bytes bytes) rest) ∙ take-append-drop row.bytes bytes

frames_count : (table : List FrameRow) (bytes : List ℕ) → length (frames_from table bytes) ≡ length table
frames_count [] bytes = refl
frames_count (row ∷ rows) bytes = ap (λ (n : ℕ). suc n) (frames_count rows (drop row.bytes bytes))

same_under : (a b : List (List ℕ)) → map {B = Option (List ℕ)} Some a ≡ map Some b → a ≡ b
same_under [] [] same = refl
same_under [] (y ∷ b) same = cc same
same_under (x ∷ a) [] same = cc same
same_under (x ∷ a) (y ∷ b) same =
    let head : x ≡ y = cc same in
    let tail : map {B = Option (List ℕ)} Some a ≡ map Some b = cc same in
    ap (λ (f : List ℕ). f ∷ a) head ∙ ap (λ (l : List (List ℕ)). y ∷ l) (same_under a b tail)

same_fronts : (a b c d : List (List ℕ)) → length a ≡ length b → a ++ c ≡ b ++ d → a ≡ b
same_fronts a b c d long same = sym (take-append_seam a c) ∙ ap (λ (l : List (List ℕ)). take (length a) l) same ∙ ap (λ (n : ℕ). take n (b ++ d)) long ∙ take-append_seam b d

same_backs : (a b c d : List (List ℕ)) → length a ≡ length b → a ++ c ≡ b ++ d → c ≡ d
same_backs a b c d long same = sym (drop-append_seam a c) ∙ ap (λ (l : List (List ℕ)). drop (length a) l) same ∙ ap (λ (n : ℕ). drop n (b ++ d)) long ∙ drop-append_seam b d

group_is : (x y : FrameGroup) → x.root ≡ y.root → x.table ≡ y.table → x.body ≡ y.body → x ≡ y
group_is x y root table body =
    ap (λ (r : RevisionRoot). (record { root = r; table = x.table; body = x.body })) root
    ∙ ap (λ (t : List FrameRow). (record { root = y.root; table = t; body = x.body })) table
    ∙ ap (λ (b : List ℕ). (record { root = y.root; table = y.table; body = b })) body

same_from : (place : ℕ) (a b : List FrameGroup) → AllByRecursion Fit a → AllByRecursion Fit b → rows_from place a ≡ rows_from place b → frames_of a ≡ frames_of b → a ≡ b
same_from place [] [] one two rows frames = refl
same_from place [] (y ∷ b) one two rows frames = cc rows
same_from place (x ∷ a) [] one two rows frames = cc rows
same_from place (x ∷ a) (y ∷ b) one two rows frames =
    let head : row_at place x ≡ row_at place y = cc rows in
    let tail : rows_from (place + group_size x.root.frames x.root.body) a ≡ rows_from (place + group_size y.root.frames y.root.body) b = cc rows in
    let root : x.root ≡ y.root = ap (λ (r : GroupRow). r.root) head in
    let table : x.table ≡ y.table = ap (λ (r : GroupRow). r.table) head in
    let long : length (frames_from x.table x.body) ≡ length (frames_from y.table y.body) = frames_count x.table x.body ∙ ap (λ (t : List FrameRow). length t) table ∙ sym (frames_count y.table y.body) in
    let mine : frames_from x.table x.body ≡ frames_from y.table y.body = same_fronts (frames_from x.table x.body) (frames_from y.table y.body) (frames_of a) (frames_of b) long frames in
    let others : frames_of a ≡ frames_of b = same_backs (frames_from x.table x.body) (frames_from y.table y.body) (frames_of a) (frames_of b) long frames in
    let body : x.body ≡ y.body = sym (joined_from x.table x.body one.0) ∙ ap (λ (l : List (List ℕ)). joined l) mine ∙ joined_from y.table y.body two.0 in
    let next : rows_from (place + group_size y.root.frames y.root.body) a ≡ rows_from (place + group_size y.root.frames y.root.body) b =
    ap (λ (r : RevisionRoot). rows_from (place + group_size r.frames r.body) a) (sym root) ∙ tail in
    ap (λ (g : FrameGroup). g ∷ a) (group_is x y root table body) ∙ ap (λ (l : List FrameGroup). y ∷ l) (same_from (place + group_size y.root.frames y.root.body) a b one.1 two.1 next others)

module _ {S : Type 0} (s : spot.Ghosts S) where
  -- a ledger is of the same groups, whose frames its spots tell
  pub same_groups : (ledger : Ledger S) (a b : List FrameGroup) → IsLedgerOf s ledger a → IsLedgerOf s ledger b → a ≡ b
  same_groups ledger a b one two =
      same_from 174 a b (fits_of a one.bodies first_root one.follow) (fits_of b two.bodies first_root two.follow) (sym one.is_log.rows ∙ two.is_log.rows)
      (same_under (frames_of a) (frames_of b) (sym one.frames ∙ two.frames))

  -- these show the commits of the book that the ledger shows
  pub shown_groups : (ledger : Ledger S) (book : Book) (groups : List FrameGroup) → Shows s ledger book → IsLedgerOf s ledger groups → ShowCommits groups book.commits
  shown_groups ledger book groups shows is =
      let same : shows.groups ≡ groups =
      same_from 174 shows.groups groups (fits_shown 1 empty_document book.commits shows.groups shows.commits.1) (fits_of groups is.bodies first_root is.follow) (sym shows.is_log.rows ∙ is.is_log.rows)
      (same_under (frames_of shows.groups) (frames_of groups) (sym shows.frames ∙ is.frames)) in
      subst (λ (list : List FrameGroup). ShowCommits list book.commits) same shows.commits

module _ {V S E : Type 0} (g : volume.Ghosts V S E) (s : spot.Ghosts S) (volume : V) (ledger : Ledger S) (sound : IsSound g s volume ledger) (going : stage_of ledger ≡ None) where
  pub kept_in : (all : List ℕ) → g.bytes volume ≡ Some all → IsKeptIn g s volume ledger
  kept_in all is = subst (λ (b : Option (List ℕ)). IfSome b (λ _. IsKeptIn g s volume ledger)) is (sound.kept going)

  -- where the volume tells its bytes, it keeps the groups of which the ledger is
  pub keeps_groups : (all : List ℕ) → g.bytes volume ≡ Some all → (groups : List FrameGroup) → IsLedgerOf s ledger groups → KeepsLog g ledger.log volume groups
  keeps_groups all is groups of =
      let kept = kept_in all is in
      subst (λ (list : List FrameGroup). KeepsLog g ledger.log volume list) (same_groups s ledger kept.groups groups kept.is_of of) kept.keeps

  -- the volume keeps some groups, whether it tells its bytes or not
  pub some_groups : (groups : List FrameGroup) × KeepsLog g ledger.log volume groups
  some_groups = by (g.bytes volume) refl
    where
      by : (bytes : Option (List ℕ)) → g.bytes volume ≡ bytes → (groups : List FrameGroup) × KeepsLog g ledger.log volume groups
      by None is = (
        sound.whole.groups,
        record {
          is_log = sound.whole.is_log;
          follow = sound.whole.follow;
          gate = sound.gate going;
          bytes = subst (λ (b : Option (List ℕ)). IfSome b (λ all. HasLog all (birth_in ledger) sound.whole.groups)) (sym is) tt;
          images = subst (λ (b : Option (List ℕ)). IfSome b (λ _. (image : List ℕ) → g.is_image volume image → HasLog image (birth_in ledger) sound.whole.groups)) (sym is) tt;
        },
      )
      by (Some all) is = let kept = kept_in all is in (kept.groups, kept.keeps)

  -- each image has the groups of which the ledger is
  pub images_of : (all : List ℕ) → g.bytes volume ≡ Some all → (groups : List FrameGroup) → IsLedgerOf s ledger groups → (image : List ℕ) → g.is_image volume image → HasLog image (birth_in ledger) groups
  images_of all is groups of =
      subst (λ (b : Option (List ℕ)). IfSome b (λ _. (image : List ℕ) → g.is_image volume image → HasLog image (birth_in ledger) groups)) is (keeps_groups all is groups of).images

  -- each image has all that the ledger has
  pub images_have : IfSome (g.bytes volume) (λ _. (image : List ℕ) → g.is_image volume image → HasAll s ledger image)
  images_have = all_told (g.bytes volume) (λ _. (image : List ℕ) → g.is_image volume image → HasAll s ledger image)
      (λ all is image left groups of. ([], subst (λ (list : List FrameGroup). HasLog image (birth_in ledger) list) (sym (append-nil groups)) (images_of all is groups of image left)))

  -- each image stands for the commits of the book
  pub images_stand : (book : Book) → Shows s ledger book → IfSome (g.bytes volume) (λ _. (image : List ℕ) → g.is_image volume image → Stands image (Some (birth_in ledger)) book.commits)
  images_stand book shows = all_told (g.bytes volume) (λ _. (image : List ℕ) → g.is_image volume image → Stands image (Some (birth_in ledger)) book.commits)
      (λ all is image left.
      let kept = kept_in all is in
      (kept.groups, images_of all is kept.groups kept.is_of image left, shown_groups s ledger book kept.groups shows kept.is_of))

-- A tree that goes, among the records of a state.
use Rattle.std.proofs.Common.{◌≡◌, ℕ, suc, ◌+◌, ◌≤◌, Bool, true, false, List, [], ◌∷◌, ◌++◌, Option, Some, None, refl, sym, ap, subst, ◌∙◌, arith, append_assoc, add-zero}
use Rattle.std.specs.Prelude.{◌^◌, Ok, Err, option_map}
use Rattle.std.specs.Option.{ForSome}
use Rattle.std.specs.FinMap as fin
use Rattle.sx_tree.specs.declared.edit.EditRefusal.TheVariants.{WrongKind}
use Rattle.sx_tree.specs.declared.record.NodeRecord.{NodeRecord}
use Rattle.sx_tree.specs.declared.record.Step.{Step}
use Rattle.sx_view.specs.Records.{RecordMap}
use Rattle.sx_view.specs.Rows.{row_of}
use Rattle.sx_model.specs.Hash.{local_hash}
use Rattle.sx_model.specs.Edit.{remove, apply, if_there, unless, wrong_kind, must_stay, paths_spent, with_trees}
use Rattle.sx_model.specs.State.{State}
use Rattle.sx_model.specs.Tree.{Node, Forest, no_trees, tree_then, beside, is_key, change_at, size}
use Rattle.sx_model.specs.Paths.{number_of, paths_in}
use Rattle.sx_model.specs.Records.{NodeRow, PathRow, around_children, first_of, last_of, rows}
use Rattle.sx_model.specs.Holes.{Frame, Shown, plug, shown, around_hole, frame_row, rows_before, rows_behind}
use Rattle.sx_model.proofs.Holes.{rows-plug}
use Rattle.sx_edit.specs.declared.fault.EditFault.TheVariants.{Refused}
use Rattle.sx_edit.specs.declared.trees.Gap.{Gap}
use Rattle.sx_edit.specs.declared.trees.Rim.{Rim}
use Rattle.sx_edit.specs.declared.trees.Tree.{Tree}
use Rattle.sx_edit.specs.Seen.{CannotSurvey, IsRim}
use Rattle.sx_edit.proofs.Rimming.{around-of, survey-cannot}
use Rattle.sx_edit.specs.Told.{Shows}
use Rattle.sx_edit.specs.Mend.{IsLeftOut, IsMended, IsTakenOut, opened, shown_tree}
use Rattle.sx_edit.specs.Edited.{rows_in}
use Rattle.sx_edit.specs.Answers.{AreOf, AnswersEach, IsTableOf}
use Rattle.sx_edit.specs.Pathways.{HasAll, Kept, Lists, ListsSome, kept, more_on, own_of, own_path, paths_under}
use Rattle.sx_edit.proofs.Climbing.{some_is, holds-get}
use Rattle.sx_edit.proofs.Standing.{new-whole, rows-own}
use Rattle.sx_edit.specs.Holes.{own_row, before_own, behind_own}
use Rattle.sx_edit.proofs.Relabeling.{deep-plug, size-beside}
use Rattle.sx_edit.specs.Room.{nodes_of}
use Rattle.sx_edit.proofs.Looking.{IsSeen}
use Rattle.sx_edit.proofs.Answering.{IsNoKept, IsNoState}
use Rattle.sx_edit.proofs.Pathing.{all-back, lists-as, more-none, own-numbers}
use Rattle.sx_edit.proofs.Sited.{own-listed, paths-tree, seen-row, sited}
use Rattle.sx_edit.proofs.Swapping.{counts_around, state-paths, paths-room, table-around}
use Rattle.sx_edit.proofs.TreePaths.{paths-among, paths_left, paths_right}
use Rattle.sx_edit.proofs.SettingScalars.{seen}

-- what is read of the node above a hole
pub parent-there : (number : List Step → ℕ) (frames : List Frame) (frame : Frame) (inside : Forest) (there : Option NodeRecord) (o : Option (RecordMap NodeRecord)) → Shows o (rows_in number (plug (frame ∷ frames) inside))
    → ForSome o (λ m. fin.get m frame.node.number ≡ there) → option_map row_of there ≡ Some (frame_row local_hash number frames frame (shown local_hash inside))
parent-there number frames frame inside there o shows is =
    let hole : List (ℕ × NodeRow) = rows local_hash number (around_hole (frame ∷ frames)) inside in
    let all = subst (Shows o) (rows-plug local_hash number (frame ∷ frames) inside) shows in
    let new = new-whole local_hash number (frame ∷ frames) (shown local_hash inside) hole all.distinct in
    holds-get local_hash number o there frames frame (shown local_hash inside) hole new all.holds (λ m e. sym (is m e))

-- its record has its kind
pub parent-kind : (number : List Step → ℕ) (frames : List Frame) (frame : Frame) (inside : Forest) (p : NodeRecord) (o : Option (RecordMap NodeRecord)) → Shows o (rows_in number (plug (frame ∷ frames) inside))
    → ForSome o (λ m. fin.get m frame.node.number ≡ Some p) → p.kind ≡ frame.node.kind
parent-kind number frames frame inside p o shows there = ap (λ (w : NodeRow). w.kind) (some_is _ _ (parent-there number frames frame inside (Some p) o shows there))

-- and it is there
pub has-parent : (number : List Step → ℕ) (frames : List Frame) (before : Forest) (n : Node) (below behind : Forest) (r : NodeRecord) (parent : ℕ) (o : Option (RecordMap NodeRecord))
    → row_of r ≡ record (own_row local_hash number frames before n below behind) { path = r.path } → Shows o (rows_in number (plug frames (beside before (tree_then n below behind))))
    → r.parent ≡ Some parent → ForSome o (λ m. fin.get m parent ≡ None) → ⊥
has-parent number [] before n below behind r parent o row shows up none = let top : r.parent ≡ None = ap (λ (w : NodeRow). w.parent) row in absurd cc
has-parent number (frame ∷ frames) before n below behind r parent o row shows up none =
    let above_is : r.parent ≡ Some frame.node.number = ap (λ (w : NodeRow). w.parent) row in
    let same : parent ≡ frame.node.number = cc in
    let both = parent-there number frames frame (beside before (tree_then n below behind)) None o shows (rw same at none) in
    absurd cc

pub moved-there : (k : ℕ) (there : Option NodeRecord) (now before : Option (RecordMap NodeRecord)) → now ≡ before → ForSome now (λ m. fin.get m k ≡ there) → ForSome before (λ m. fin.get m k ≡ there)
moved-there k there now before same is = subst (λ o. ForSome o (λ m. fin.get m k ≡ there)) same is

-- whether a node must stay, by its record and its parent's
pub must_stay-top : (number : List Step → ℕ) (frames : List Frame) (before : Forest) (n : Node) (below behind : Forest) (r : NodeRecord) → row_of r ≡ record (own_row local_hash number frames before n below behind) { path = r.path }
    → r.parent ≡ None → must_stay (nodes_of frames) ≡ true
must_stay-top number [] before n below behind r row none = refl
must_stay-top number (frame ∷ frames) before n below behind r row none = absurd (let up : r.parent ≡ Some frame.node.number = ap (λ (w : NodeRow). w.parent) row in cc)

pub must_stay-below : (number : List Step → ℕ) (frames : List Frame) (before : Forest) (n : Node) (below behind : Forest) (r p : NodeRecord) (parent : ℕ) (o : Option (RecordMap NodeRecord))
    → row_of r ≡ record (own_row local_hash number frames before n below behind) { path = r.path } → Shows o (rows_in number (plug frames (beside before (tree_then n below behind))))
    → r.parent ≡ Some parent → ForSome o (λ m. fin.get m parent ≡ Some p) → must_stay (nodes_of frames) ≡ is_key p.kind
must_stay-below number [] before n below behind r p parent o row shows up there = absurd (let none : r.parent ≡ None = ap (λ (w : NodeRow). w.parent) row in cc)
must_stay-below number (frame ∷ frames) before n below behind r p parent o row shows up there =
    let above_is : r.parent ≡ Some frame.node.number = ap (λ (w : NodeRow). w.parent) row in
    let same : parent ≡ frame.node.number = cc in
    ap is_key (sym (parent-kind number frames frame (beside before (tree_then n below behind)) p o shows (rw same at there)))

regrouped : (f b h l : List (ℕ × NodeRow)) → (f ++ b) ++ (h ++ l) ≡ f ++ ((b ++ h) ++ l)
regrouped f b h l = simp append_assoc

-- the gap that a tree left
pub record IsLeft (number : List Step → ℕ) (gap : Gap) (tree : Tree) (frames : List Frame) (frame : Frame) (before : Forest) (n : Node) (below behind : Forest) (mid : Option (RecordMap NodeRecord)) : Type 0 where
  pub parent : frame.node.number ≡ gap.parent
  pub left : last_of before ≡ gap.left
  pub right : first_of behind ≡ gap.right
  pub shown_is : shown local_hash (tree_then n below no_trees) ≡ shown_tree (Some tree)
  pub shows : Shows mid (opened local_hash number frames frame before (tree_then n below no_trees) no_trees behind)

-- what is known of a node with the record, of the gap that it leaves, and of its tree
pub record IsCut (k next parent : ℕ) (r : NodeRecord) (gap : Gap) (tree : Tree) : Type 0 where
  pub up : r.parent ≡ Some parent
  pub gap_parent : gap.parent ≡ parent
  pub gap_left : gap.left ≡ r.left
  pub gap_right : gap.right ≡ r.right
  pub number : tree.number ≡ k
  pub nodes : tree.nodes ≡ r.descendants + 1
  pub hash : tree.hash ≡ r.hash
  pub fits : next ≤ 2 ^ 30

-- a tree was taken out
pub left-gap : (number : List Step → ℕ) (frames : List Frame) (frame : Frame) (before : Forest) (n : Node) (below behind : Forest) (k next parent : ℕ) (r : NodeRecord) (gap : Gap) (tree : Tree) (o mid : Option (RecordMap NodeRecord))
    → n.number ≡ k → row_of r ≡ record (own_row local_hash number (frame ∷ frames) before n below behind) { path = r.path } → size (plug (frame ∷ frames) (beside before (tree_then n below behind))) ≤ next
    → IsCut k next parent r gap tree → IsTakenOut k r.first next o mid
    → Shows o (rows_in number (plug (frame ∷ frames) (beside before (tree_then n below behind)))) → IsLeft number gap tree frames frame before n below behind mid
unfolding IsTakenOut
left-gap number frames frame before n below behind k next parent r gap tree o mid same row few cut taken shows =
    let inside : Forest = beside before (tree_then n below behind) in
    let a : Shown = shown local_hash inside in
    let own = subst (Shows o) (rows-plug local_hash number (frame ∷ frames) inside ∙ rows-own local_hash number (frame ∷ frames) a before n below behind) shows in
    let first : first_of below ≡ r.first = sym (ap (λ (w : NodeRow). w.first) row) in
    let deep = deep-plug (frame ∷ frames) inside in
    let parts = size-beside before (tree_then n below behind) in
    let own_k = subst (λ q. Shows o (before_own local_hash number (frame ∷ frames) a before n.number ++ (q, own_row local_hash number (frame ∷ frames) before n below behind)
    ∷ (rows local_hash number (around_children (around_hole (frame ∷ frames)) n) below ++ behind_own local_hash number (frame ∷ frames) a n.number behind))) same own in
    let gone = taken local_hash number (around_children (around_hole (frame ∷ frames)) n) below (own_row local_hash number (frame ∷ frames) before n below behind)
    (before_own local_hash number (frame ∷ frames) a before n.number) (behind_own local_hash number (frame ∷ frames) a n.number behind) first refl (omega arith) own_k in
    let above_is : r.parent ≡ Some frame.node.number = ap (λ (w : NodeRow). w.parent) row in
    let up = cut.up in
    let gap_parent = cut.gap_parent in
    let number_is : n.number ≡ tree.number = same ∙ sym cut.number in
    let down : r.descendants ≡ size below = ap (λ (w : NodeRow). w.descendants) row in
    let nodes_is : suc (size below) + 0 ≡ tree.nodes = omega (arith, cut.nodes) in
    let hash_at : r.hash ≡ (own_row local_hash number (frame ∷ frames) before n below behind).hash = ap (λ (w : NodeRow). w.hash) row in
    let hash_is : (own_row local_hash number (frame ∷ frames) before n below behind).hash + 0 ≡ tree.hash = add-zero _ ∙ sym hash_at ∙ sym cut.hash in
    record {
      parent = cc;
      left = sym (cut.gap_left ∙ ap (λ (w : NodeRow). w.left) row);
      right = sym (cut.gap_right ∙ ap (λ (w : NodeRow). w.right) row);
      shown_is = λ i. record { first = Some (number_is i); last = Some (number_is i); trees = 1; nodes = nodes_is i; hashes = hash_is i };
      shows = subst (Shows mid) (regrouped (rows_before local_hash number (frame ∷ frames) a) _ _ (rows_behind local_hash number (frame ∷ frames) a)) gone;
    }

-- a tree was taken out, and what stands around the gap was mended
pub spliced-out : (number : List Step → ℕ) (frames : List Frame) (before : Forest) (n : Node) (below behind : Forest) (k next parent : ℕ) (r : NodeRecord) (gap : Gap) (rim : Rim) (tree : Tree) (o mid after : Option (RecordMap NodeRecord))
    → n.number ≡ k → row_of r ≡ record (own_row local_hash number frames before n below behind) { path = r.path } → size (plug frames (beside before (tree_then n below behind))) ≤ next
    → IsCut k next parent r gap tree → IsRim o gap rim → IsTakenOut k r.first next o mid → IsMended next gap rim (Some tree) None mid after
    → Shows o (rows_in number (plug frames (beside before (tree_then n below behind)))) → Shows after (rows_in number (plug frames (beside before behind)))
unfolding IsMended
spliced-out number [] before n below behind k next parent r gap rim tree o mid after same row few cut is_rim taken mended shows =
    absurd (let none : r.parent ≡ None = ap (λ (w : NodeRow). w.parent) row in let up = cut.up in cc)
spliced-out number (frame ∷ frames) before n below behind k next parent r gap rim tree o mid after same row few cut is_rim taken mended shows =
    let there = left-gap number frames frame before n below behind k next parent r gap tree o mid same row few cut taken shows in
    let around = around-of local_hash number frames frame before (tree_then n below no_trees) behind gap o there.parent there.left there.right shows rim is_rim in
    mended local_hash number frames frame before (tree_then n below no_trees) no_trees behind there.parent there.left there.right there.shown_is refl few (omega (arith, cut.fits)) around there.shows

-- the gap is that of a node with the record
pub record IsGapOf (parent : ℕ) (r : NodeRecord) (gap : Gap) : Type 0 where
  pub up : r.parent ≡ Some parent
  pub gap_parent : gap.parent ≡ parent
  pub gap_left : gap.left ≡ r.left
  pub gap_right : gap.right ≡ r.right

-- what stands around the gap can be read
gap-there : (number : List Step → ℕ) (frames : List Frame) (before : Forest) (n : Node) (below behind : Forest) (next parent : ℕ) (r : NodeRecord) (gap : Gap) (o : Option (RecordMap NodeRecord))
    → row_of r ≡ record (own_row local_hash number frames before n below behind) { path = r.path } → size (plug frames (beside before (tree_then n below behind))) ≤ next → IsGapOf parent r gap
    → Shows o (rows_in number (plug frames (beside before (tree_then n below behind)))) → CannotSurvey next gap o → ⊥
gap-there number [] before n below behind next parent r gap o row few gap_of shows cannot = let none : r.parent ≡ None = ap (λ (w : NodeRow). w.parent) row in let up = gap_of.up in cc
gap-there number (frame ∷ frames) before n below behind next parent r gap o row few gap_of shows cannot =
    let above_is : r.parent ≡ Some frame.node.number = ap (λ (w : NodeRow). w.parent) row in
    let up = gap_of.up in
    let gap_parent = gap_of.gap_parent in
    let parent_is : frame.node.number ≡ gap.parent = cc in
    survey-cannot local_hash number frames frame before (tree_then n below no_trees) behind gap o parent_is
    (sym (gap_of.gap_left ∙ ap (λ (w : NodeRow). w.left) row)) (sym (gap_of.gap_right ∙ ap (λ (w : NodeRow). w.right) row)) shows next few cannot

pub gap-cannot : (k next parent : ℕ) (r : NodeRecord) (gap : Gap) (before now : Option (RecordMap NodeRecord)) → ForSome before (λ m. fin.get m k ≡ Some r) → now ≡ before → IsGapOf parent r gap → CannotSurvey next gap now → IsNoState next before
unfolding IsNoState
gap-cannot k next parent r gap before now there same gap_of cannot state are =
    let s = seen k state next before r are there in
    let few : size (plug s.at.around (beside s.at.left (tree_then s.at.node s.at.below s.at.right))) ≤ next = subst (λ t. size t ≤ next) s.at.stands are.few in
    gap-there (number_of state.paths) s.at.around s.at.left s.at.node s.at.below s.at.right next parent r gap before (seen-row k state before r s (number_of state.paths)) few gap_of s.shows (subst (CannotSurvey next gap) same cannot)

pub rim-there : (o now : Option (RecordMap NodeRecord)) (gap : Gap) (rim : Rim) → now ≡ o → IsRim now gap rim → IsRim o gap rim
rim-there o now gap rim same = subst (λ q. IsRim q gap rim) same

-- ---- the paths of a tree that goes

pub cut-lists : (k next : ℕ) (r : NodeRecord) (state : State) (o : Option (RecordMap NodeRecord)) (table : List PathRow) (after : Option (List PathRow)) (are : AreOf state next o) (s : IsSeen k state o r) → IsTableOf state table
    → IsLeftOut k r next (kept o table) after → ListsSome after state.paths (counts_around (paths_left s.at.around s.at.left) (paths_right s.at.around s.at.right))
unfolding IsLeftOut
cut-lists k next r state o table after are s of_state left_out =
    let frames : List Frame = s.at.around in
    let n : Node = s.at.node in
    let below : Forest = s.at.below in
    let number : List Step → ℕ = number_of state.paths in
    let inside : Forest = beside s.at.left (tree_then n below s.at.right) in
    let a : Shown = shown local_hash inside in
    let own : NodeRow = own_row local_hash number frames s.at.left n below s.at.right in
    let front : List (ℕ × NodeRow) = before_own local_hash number frames a s.at.left n.number in
    let back : List (ℕ × NodeRow) = behind_own local_hash number frames a n.number s.at.right in
    let path : List Step = own_path (around_hole frames) n in
    let site = sited state table frames s.at.left (tree_then n below no_trees) s.at.right of_state s.at.stands in
    let kind : n.kind ≡ r.kind = sym (ap (λ (w : NodeRow). w.kind) s.row) in
    let mid_is : paths_under (around_hole frames) (tree_then n below no_trees) ≡ own_of r.kind path ++ paths_under (around_children (around_hole frames) n) below =
    paths-tree (around_hole frames) n below ∙ (λ i. own_of (kind i) path ++ paths_under (around_children (around_hole frames) n) below) in
    let shows_own = subst (Shows o) (rows-plug local_hash number frames inside ∙ rows-own local_hash number frames a s.at.left n below s.at.right) s.shows in
    let few : size (plug frames inside) ≤ next = subst (λ t. size t ≤ next) s.at.stands are.few in
    let deep = deep-plug frames inside in
    let parts = size-beside s.at.left (tree_then n below s.at.right) in
    left_out state.paths (counts_around (paths_left frames s.at.left) (paths_right frames s.at.right)) path (around_children (around_hole frames) n, below)
    (record {
      local = local_hash;
      number = number;
      own = own;
      front = front;
      back = back;
      first_is = sym (ap (λ (w : NodeRow). w.first) s.row);
      last = refl;
      few = omega arith;
      shows = subst (λ q. Shows o (front ++ (q, own) ∷ (rows local_hash number (around_children (around_hole frames) n) below ++ back))) s.at.number shows_own;
      numbers_are = own-numbers table state.paths _ of_state.lists;
      listed_are = all-back state.paths (own_of r.kind path) _ (subst (HasAll state.paths) mid_is site.here);
    })
    (own-listed k state o r table s site)
    (subst (λ ps. Lists table state.paths (more_on ps (counts_around (paths_left frames s.at.left) (paths_right frames s.at.right)))) mid_is site.lists)

module _ (k next : ℕ) (r : NodeRecord) where
  -- the edit of a state with the node, but for whether it must stay
  remove-apply : (state : State) (o : Option (RecordMap NodeRecord)) (s : IsSeen k state o r) (b : Bool) → must_stay (nodes_of s.at.around) ≡ b
      → let new : State = with_trees state 0 (change_at k (λ n below rest. rest) state.trees) in
      apply (remove k) state ≡ unless (wrong_kind b s.at.node ∷ paths_spent state new ∷ []) new
  remove-apply state o s b is =
      let new : State = with_trees state 0 (change_at k (λ n below rest. rest) state.trees) in
      ap (if_there k (λ q. unless (wrong_kind (must_stay q.above) q.node ∷ paths_spent state new ∷ []) new)) s.at.spot
      ∙ ap (λ (b : Bool). unless (wrong_kind b s.at.node ∷ paths_spent state new ∷ []) new) is

  remove-stays : (before : Option (RecordMap NodeRecord)) (state : State) (s : IsSeen k state before r) → must_stay (nodes_of s.at.around) ≡ true
      → apply (remove k) state ≡ Err (WrongKind k r.kind)
  remove-stays before state s is = remove-apply state before s true is ∙ (λ i. Err (WrongKind (s.at.number i) (sym (ap (λ (w : NodeRow). w.kind) s.row) i)))

  pub remove-top : (before after : Kept) → ForSome before.told (λ m. fin.get m k ≡ Some r) → r.parent ≡ None
      → AnswersEach (remove k) next before after (Err (Refused (WrongKind k r.kind)))
  unfolding AnswersEach
  remove-top before after there none state are of_state =
      let s = seen k state next before.told r are there in
      remove-stays before.told state s (must_stay-top (number_of state.paths) s.at.around s.at.left s.at.node s.at.below s.at.right r (seen-row k state before.told r s (number_of state.paths)) none)

  pub remove-value : (before after : Kept) (p : NodeRecord) (parent : ℕ) → ForSome before.told (λ m. fin.get m k ≡ Some r) → r.parent ≡ Some parent
      → ForSome before.told (λ m. fin.get m parent ≡ Some p) → is_key p.kind ≡ true → AnswersEach (remove k) next before after (Err (Refused (WrongKind k r.kind)))
  unfolding AnswersEach
  remove-value before after p parent there up there_p key state are of_state =
      let s = seen k state next before.told r are there in
      remove-stays before.told state s (must_stay-below (number_of state.paths) s.at.around s.at.left s.at.node s.at.below s.at.right r p parent before.told (seen-row k state before.told r s (number_of state.paths)) s.shows up there_p ∙ key)

  pub remove-done : (before now mid after : Option (RecordMap NodeRecord)) (table new_table : List PathRow) (p : NodeRecord) (parent : ℕ) (gap : Gap) (rim : Rim) (tree : Tree) → ForSome before (λ m. fin.get m k ≡ Some r) → r.parent ≡ Some parent
      → ForSome before (λ m. fin.get m parent ≡ Some p) → is_key p.kind ≡ false → now ≡ before
      → IsCut k next parent r gap tree → IsRim before gap rim → IsTakenOut k r.first next now mid → IsLeftOut k r next (kept now table) (Some new_table) → IsMended next gap rim (Some tree) None mid after
      → AnswersEach (remove k) next (kept before table) (kept after new_table) (Ok (record { first = None; next = next }))
  unfolding AnswersEach
  remove-done before now mid after table new_table p parent gap rim tree there up there_p key same cut is_rim taken left_out mended state are of_state =
      let s = seen k state next before r are there in
      let frames : List Frame = s.at.around in
      let number : List Step → ℕ = number_of state.paths in
      let goes = must_stay-below number frames s.at.left s.at.node s.at.below s.at.right r p parent before (seen-row k state before r s (number_of state.paths)) s.shows up there_p ∙ key in
      let new_state : State = with_trees state 0 (change_at k (λ n below rest. rest) state.trees) in
      let xs : List (List Step) = paths_left frames s.at.left in
      let ys : List (List Step) = paths_right frames s.at.right in
      let site = sited state table frames s.at.left (tree_then s.at.node s.at.below no_trees) s.at.right of_state s.at.stands in
      let trees_are = s.at.changed (λ n below rest. rest) in
      let paths_are : paths_in new_state.trees ≡ xs ++ ([] ++ ys) = ap paths_in trees_are ∙ paths-among frames s.at.left no_trees s.at.right in
      let lists : Lists new_table state.paths (counts_around xs ys) = cut-lists k next r state before table (Some new_table) are s of_state (subst (λ o. IsLeftOut k r next (kept o table) (Some new_table)) same left_out) in
      let new_is : new_state.paths ≡ state.paths = state-paths state 0 new_state.trees xs [] ys paths_are site.before site.behind in
      let is_apply = remove-apply state before s false goes in
      let room = paths-room state 0 new_state.trees xs [] ys paths_are site.before site.behind of_state.lists.few in
      let few : size (plug frames (beside s.at.left (tree_then s.at.node s.at.below s.at.right))) ≤ next = subst (λ t. size t ≤ next) s.at.stands are.few in
      let taken_before : IsTakenOut k r.first next before mid = rw same at taken in
      let shows = spliced-out number frames s.at.left s.at.node s.at.below s.at.right k next parent r gap rim tree before mid after s.at.number (seen-row k state before r s (number_of state.paths)) few cut is_rim taken_before mended s.shows in
      let number_is : next ≡ state.next + 0 = omega (arith, are.next_is) in (
        new_state,
        is_apply ∙ room,
        (λ i. record { first = None; next = number_is i }),
        (subst (λ (l : List (List Step)). Shows after (rows_in (number_of l) new_state.trees)) (sym new_is) (subst (λ t. Shows after (rows_in number t)) (sym trees_are) shows)).holds,
        table-around state 0 new_state.trees xs [] ys paths_are site.before site.behind new_table (lists-as new_table state.paths _ _ (sym (more-none (counts_around xs ys))) lists),
      )

  -- a damage on the way
  pub remove-cannot : (before now mid : Option (RecordMap NodeRecord)) (parent : ℕ) (gap : Gap) (rim : Rim) (tree : Tree) → ForSome before (λ m. fin.get m k ≡ Some r) → now ≡ before
      → IsCut k next parent r gap tree → IsRim before gap rim → IsTakenOut k r.first next now mid → IsMended next gap rim (Some tree) None mid None → IsNoState next before
  unfolding IsNoState
  remove-cannot before now mid parent gap rim tree there same cut is_rim taken mended state are =
      let s = seen k state next before r are there in
      let few : size (plug s.at.around (beside s.at.left (tree_then s.at.node s.at.below s.at.right))) ≤ next = subst (λ t. size t ≤ next) s.at.stands are.few in
      let taken_before : IsTakenOut k r.first next before mid = rw same at taken in
      (spliced-out (number_of state.paths) s.at.around s.at.left s.at.node s.at.below s.at.right k next parent r gap rim tree before mid None s.at.number (seen-row k state before r s (number_of state.paths)) few cut is_rim taken_before mended s.shows).holds

  pub cut-cannot : (before now : Option (RecordMap NodeRecord)) (table : List PathRow) → ForSome before (λ m. fin.get m k ≡ Some r) → now ≡ before → IsLeftOut k r next (kept now table) None → IsNoKept next (kept before table)
  unfolding IsNoKept
  cut-cannot before now table there same left_out state are of_state =
      cut-lists k next r state before table None are (seen k state next before r are there) of_state (subst (λ o. IsLeftOut k r next (kept o table) None) same left_out)

  -- a node's parent is there, and its nodes can be counted
  pub parented : (before : Option (RecordMap NodeRecord)) (parent : ℕ) → ForSome before (λ m. fin.get m k ≡ Some r) → r.parent ≡ Some parent → ForSome before (λ m. fin.get m parent ≡ None) → IsNoState next before
  unfolding IsNoState
  parented before parent there up none state are =
      let s = seen k state next before r are there in
      has-parent (number_of state.paths) s.at.around s.at.left s.at.node s.at.below s.at.right r parent before (seen-row k state before r s (number_of state.paths)) s.shows up none

  pub countable : (before : Option (RecordMap NodeRecord)) → next ≤ 2 ^ 30 → ForSome before (λ m. fin.get m k ≡ Some r) → 2 ^ 32 ≤ r.descendants + 1 → IsNoState next before
  unfolding IsNoState
  countable before fits there many state are =
      let s = seen k state next before r are there in
      let few : size (plug s.at.around (beside s.at.left (tree_then s.at.node s.at.below s.at.right))) ≤ next = subst (λ t. size t ≤ next) s.at.stands are.few in
      let down : r.descendants ≡ size s.at.below = ap (λ (w : NodeRow). w.descendants) s.row in
      let deep = deep-plug s.at.around (beside s.at.left (tree_then s.at.node s.at.below s.at.right)) in
      let parts = size-beside s.at.left (tree_then s.at.node s.at.below s.at.right) in
      omega arith

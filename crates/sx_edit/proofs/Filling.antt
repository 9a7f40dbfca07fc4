-- What comes into a gap among siblings, and what is left to mend then.
use Rattle.std.specs.Prelude.{◌==◌}
use Rattle.std.proofs.Common.{◌≡◌, ℕ, suc, ◌+◌, ◌≤◌, List, [], ◌∷◌, ◌++◌, Option, Some, None, refl, sym, ap, subst, ◌∙◌, arith, append_assoc, append-nil, add-zero}
use Rattle.std.specs.Prelude.{◌^◌, Result, Ok, Err, IfErr, IsErrAnd}
use Rattle.std.specs.Option.{option_or}
use Rattle.std.proofs.lemmas.Grind.{common_steps}
use Rattle.sx_tree.specs.declared.record.NodeRecord.{NodeRecord}
use Rattle.sx_tree.specs.declared.record.Step.{Step}
use Rattle.sx_tree.specs.Value.{Value, nodes}
use Rattle.sx_view.specs.declared.fault.Fault.{Fault}
use Rattle.sx_view.specs.declared.fault.Fault.TheVariants as faults
use Rattle.sx_view.specs.Records.{RecordMap}
use Rattle.sx_view.specs.Rows.{row_of}
use Rattle.sx_tree.specs.declared.edit.Place.{Place}
use Rattle.sx_model.specs.Edit.{entering, insert}
use Rattle.sx_model.specs.Hash.{local_hash}
use Rattle.sx_model.specs.Holes.{Shown, shown, around_hole, rows_before, rows_behind}
use Rattle.sx_model.specs.Paths.{number_of, path_of, with_paths}
use Rattle.sx_model.specs.Records.{Around, NodeRow, around_children, first_of, last_of, row, rows}
use Rattle.sx_model.specs.Sound.{AreBelow}
use Rattle.sx_model.specs.Tree.{AreApart, Node, Forest, no_trees, tree_then, beside, numbers, size}
use Rattle.sx_model.proofs.Apart.{apart-with, up_from, up_from_apart, up_from_away}
use Rattle.sx_model.proofs.NumberedTrees.{numbers-numbered}
use Rattle.sx_edit.specs.declared.trees.Gap.{Gap}
use Rattle.sx_edit.specs.declared.trees.Rim.{Rim}
use Rattle.sx_edit.specs.declared.trees.Tree.{Tree}
use Rattle.sx_edit.specs.declared.fault.EditFault.{EditFault}
use Rattle.sx_edit.specs.declared.fault.EditFault.TheVariants.{OutOfMemory}
use Rattle.sx_edit.specs.Damage.{IsDamaged, coming}
use Rattle.sx_edit.specs.EditFault.{edit_fault}
use Rattle.sx_edit.specs.Fill.{Entering, IsFilled, IsGap, Opening, StandsOn, StopsFilling, entering_below, entering_nodes, entering_paths, entering_rows, entering_top, left_open}
use Rattle.sx_edit.specs.Grow.{IsAdded, IsGrown, StopsGrowing, child_rows, linked, top_row}
use Rattle.sx_edit.specs.Pathways.{Kept, Stops, kept}
use Rattle.sx_edit.specs.Mend.{IsMended, opened, shown_tree}
use Rattle.sx_edit.specs.Told.{AreDistinct, Shows, numbers_of}
use Rattle.sx_edit.proofs.Adding.{added-before, distinct-known}
use Rattle.sx_edit.proofs.Climbing.{map-append, numbers-rows}
use Rattle.sx_edit.proofs.Growing.{nodes-top, numbered-tree, size-numbered, some-nodes, top-number}
use Rattle.sx_edit.proofs.Looking.{distinct-same}
use Rattle.sx_edit.proofs.Pathing.{numbers-back, own-numbers, path-with}

-- ---- what enters

top-entering : (name : Option (List ℕ)) (v : Value) (n : ℕ) → entering name v n no_trees ≡ tree_then (entering_top name v n) (entering_below name v n) no_trees
top-entering None v n = numbered-tree v n no_trees
top-entering (Some name) v n = refl

number-entering : (name : Option (List ℕ)) (v : Value) (n : ℕ) → (entering_top name v n).number ≡ n
number-entering None v n = top-number v n
number-entering (Some name) v n = refl

nodes-entering : (name : Option (List ℕ)) (v : Value) (n : ℕ) → entering_nodes name v ≡ suc (size (entering_below name v n))
nodes-entering None v n = nodes-top v n
nodes-entering (Some name) v n = omega (arith, size-numbered v (n + 1) no_trees)

numbers-entering : (name : Option (List ℕ)) (v : Value) (n : ℕ) → numbers (entering name v n no_trees) ≡ up_from n (entering_nodes name v)
numbers-entering None v n = numbers-numbered v n no_trees ∙ append-nil (up_from n (nodes v))
numbers-entering (Some name) v n =
    let next : n + 1 ≡ suc n = omega arith in
    let more : suc (nodes v) ≡ 1 + nodes v = omega arith in
    ap (λ (ks : List ℕ). n ∷ ks) (append-nil _ ∙ numbers-numbered v (n + 1) no_trees ∙ append-nil (up_from (n + 1) (nodes v)) ∙ ap (λ (m : ℕ). up_from m (nodes v)) next)
    ∙ ap (up_from n) more

-- ---- its rows

symm : (x y : ℕ) → (x == y) ≡ (y == x)
symm x y = grind (arith, common_steps)

-- new numbers among those below the first of them
new-distinct : (next count : ℕ) (xs es ys : List (ℕ × NodeRow)) → numbers_of es ≡ up_from next count → AreBelow next (numbers_of (xs ++ ys)) → AreDistinct (numbers_of (xs ++ ys))
    → AreDistinct (numbers_of (xs ++ (es ++ ys)))
new-distinct next count xs es ys new below distinct =
    let parts = map-append _ xs ys in
    let all : numbers_of (xs ++ (es ++ ys)) ≡ numbers_of xs ++ (up_from next count ++ numbers_of ys) =
    map-append _ xs (es ++ ys) ∙ ap (λ l. numbers_of xs ++ l) (map-append _ es ys ∙ ap (λ l. l ++ numbers_of ys) new) in
    subst AreDistinct (sym all)
    (distinct-same _ (apart-with (λ k m. k == m) symm (numbers_of xs) (up_from next count) (numbers_of ys) (subst (λ l. AreApart (λ k m. k == m) l) parts (distinct-known _ distinct))
    (up_from_apart next count) (up_from_away next next count (numbers_of xs ++ numbers_of ys) (omega arith) (subst (AreBelow next) parts below))))

regroup_out : (f b h l : List (ℕ × NodeRow)) → f ++ ((b ++ ([] ++ h)) ++ l) ≡ (f ++ b) ++ (h ++ l)
regroup_out f b h l = simp append_assoc

regroup_in : (f b n h l : List (ℕ × NodeRow)) → (f ++ b) ++ (n ++ (h ++ l)) ≡ f ++ ((b ++ (n ++ h)) ++ l)
regroup_in f b n h l = simp append_assoc

-- the rows of what enters came into the gap
pub entered : (number : List Step → ℕ) (next count : ℕ) (at : Opening) (news : Forest) (o after : Option (RecordMap NodeRecord)) → numbers news ≡ up_from next count → AreBelow next (numbers_of (left_open number at))
    → IsAdded (rows local_hash number (record (around_children (around_hole at.frames) at.frame.node) { left = last_of at.left; right = first_of at.right }) news) o after
    → Shows o (left_open number at) → Shows after (opened local_hash number at.frames at.frame at.left at.olds news at.right)
unfolding IsAdded
entered number next count at news o after new below added shows =
    let around : Around = around_children (around_hole at.frames) at.frame.node in
    let was : Shown = shown local_hash (beside at.left (beside at.olds at.right)) in
    let front : List (ℕ × NodeRow) = rows_before local_hash number (at.frame ∷ at.frames) was in
    let back : List (ℕ × NodeRow) = rows_behind local_hash number (at.frame ∷ at.frames) was in
    let rows_left : List (ℕ × NodeRow) = rows local_hash number (record around { right = option_or (first_of at.olds) (first_of at.right) }) at.left in
    let rows_right : List (ℕ × NodeRow) = rows local_hash number (record around { left = option_or (last_of at.olds) (last_of at.left) }) at.right in
    let es : List (ℕ × NodeRow) = rows local_hash number (record around { left = last_of at.left; right = first_of at.right }) news in
    let out = regroup_out front rows_left rows_right back in
    let holds = subst (Shows o) out shows in
    let distinct = new-distinct next count (front ++ rows_left) es (rows_right ++ back) (numbers-rows local_hash number _ news ∙ new) (subst (λ l. AreBelow next (numbers_of l)) out below) holds.distinct in
    subst (Shows after) (regroup_in front rows_left es rows_right back)
    (record { holds = added (front ++ rows_left) (rows_right ++ back) distinct holds.holds; distinct = distinct })

-- the rows of what is below the top came, and then the top's, with its links
entering-added : (number : List Step → ℕ) (next : ℕ) (gap : Gap) (old : Option Tree) (at : Opening) (name : Option (List ℕ)) (v : Value) (path : ℕ) (steps : List Step) (w : NodeRow) (o a b : Option (RecordMap NodeRecord))
    → IsGap next gap old at → StandsOn at name v next steps → path ≡ number steps → w ≡ top_row path (entering_top name v next) (entering_below name v next)
    → IsAdded (entering_rows name v next number steps) o a → IsAdded ((next, linked gap.parent gap.left gap.right w) ∷ []) a b
    → IsAdded (rows local_hash number (record (around_children (around_hole at.frames) at.frame.node) { left = last_of at.left; right = first_of at.right }) (entering name v next no_trees)) o b
entering-added number next gap old at name v path steps w o a b is_gap stands path_is w_is below_it put =
    let n : Node = entering_top name v next in
    let below : Forest = entering_below name v next in
    let around : Around = record (around_children (around_hole at.frames) at.frame.node) { left = last_of at.left; right = first_of at.right } in
    let same = number-entering name v next in
    let path_to : path ≡ number (path_of (Some at.frame.node) around.path n.label) = path_is ∙ ap number (sym stands) in
    let own : linked gap.parent gap.left gap.right w ≡ row local_hash number around n below =
    (λ i. linked (sym is_gap.parent i) (sym is_gap.left i) (sym is_gap.right i) (w_is i)) ∙ (λ i. record (row local_hash number around n below) { path = path_to i }) in
    let here : (next, linked gap.parent gap.left gap.right w) ∷ entering_rows name v next number steps ≡ rows local_hash number around (entering name v next no_trees) =
    (λ i. (sym same i, own i) ∷ child_rows number n (sym stands i) None below) ∙ ap (λ l. (n.number, row local_hash number around n below) ∷ l) (sym (append-nil (rows local_hash number (around_children around n) below)))
    ∙ ap (rows local_hash number around) (sym (top-entering name v next)) in
    subst (λ l. IsAdded l o b) here (added-before ((next, linked gap.parent gap.left gap.right w) ∷ []) (entering_rows name v next number steps) o a b below_it put)

pub shown-tree : (n : Node) (below : Forest) (path : ℕ) (w : NodeRow) (tree : Tree) → w ≡ top_row path n below → n.number ≡ tree.number → tree.nodes ≡ w.descendants + 1 → tree.hash ≡ w.hash
    → shown local_hash (tree_then n below no_trees) ≡ shown_tree (Some tree)
shown-tree n below path w tree w_is number nodes_are hash =
    let down : w.descendants ≡ size below = ap (λ (r : NodeRow). r.descendants) w_is in
    let nodes_is : suc (size below) + 0 ≡ tree.nodes = omega arith in
    let hash_is : (top_row path n below).hash + 0 ≡ tree.hash = add-zero _ ∙ sym (ap (λ (r : NodeRow). r.hash) w_is) ∙ sym hash in
    λ i. record { first = Some (number i); last = Some (number i); trees = 1; nodes = nodes_is i; hashes = hash_is i }

-- the record of the top, and what came below it
pub record IsEntered (next : ℕ) (gap : Gap) (new : Entering) (tree : Tree) (top entry : NodeRecord) (o a : Kept) (b : Option (RecordMap NodeRecord)) : Type 0 where
  pub fits : next + entering_nodes new.name new.value ≤ 2 ^ 30
  pub top_is : row_of top ≡ top_row new.path (entering_top new.name new.value next) (entering_below new.name new.value next)
  pub grown : IsGrown (entering_paths new.name new.value next) (entering_rows new.name new.value next) new.path o a
  pub entry_is : row_of entry ≡ linked gap.parent gap.left gap.right (row_of top)
  pub put : IsAdded ((next, row_of entry) ∷ []) a.told b
  pub number : tree.number ≡ next
  pub nodes_are : tree.nodes ≡ top.descendants + 1
  pub hash : tree.hash ≡ top.hash

pub filled : (next : ℕ) (gap : Gap) (rim : Rim) (old : Option Tree) (new : Entering) (tree : Tree) (top entry : NodeRecord) (o a : Kept) (b after : Option (RecordMap NodeRecord)) → IsEntered next gap new tree top entry o a b
    → IsMended next gap rim old (Some tree) b after → IsFilled next gap rim old new o (kept after a.table)
unfolding IsFilled IsMended IsGrown
filled next gap rim old new tree top entry o a b after is mended at listed count steps is_gap lists is_at stands =
    let name : Option (List ℕ) = new.name in
    let v : Value = new.value in
    let grown = is.grown listed count steps lists is_at in (
      grown.0,
      λ number numbers below open_gap.
          let here = path-with listed (entering_paths name v next steps) steps new.path is_at in
          let there = entering-added number next gap old at name v new.path steps (row_of top) o.told a.told b is_gap stands (here.is ∙ sym (numbers.listed_are steps here.there)) is.top_is
          (grown.1 number numbers) (subst (λ w. IsAdded ((next, w) ∷ []) a.told b) is.entry_is is.put) in
          let all = entered number next (entering_nodes name v) at (entering name v next no_trees) o.told b (numbers-entering name v next) below there open_gap.shows in
          let down : top.descendants ≡ size (entering_below name v next) = ap (λ (w : NodeRow). w.descendants) is.top_is in
          let shown_is = ap (shown local_hash) (top-entering name v next)
          ∙ shown-tree (entering_top name v next) (entering_below name v next) new.path (row_of top) tree is.top_is (number-entering name v next ∙ sym is.number) is.nodes_are is.hash in
          mended local_hash number at.frames at.frame at.left at.olds (entering name v next no_trees) at.right is_gap.parent is_gap.left is_gap.right is_gap.old_is shown_is is_gap.few
          (omega (arith, is.fits, is.nodes_are, down, nodes-entering name v next)) open_gap.around all,
    )

pub down-entering : (name : Option (List ℕ)) (v : Value) (next path : ℕ) (top : NodeRecord) → row_of top ≡ top_row path (entering_top name v next) (entering_below name v next) → top.descendants + 1 ≡ entering_nodes name v
down-entering name v next path top is = omega (arith, ap (λ (w : NodeRow). w.descendants) is, nodes-entering name v next)

-- as many nodes come by an insert as enter
pub coming-entering : (place : Place) (name : Option (List ℕ)) (v : Value) → coming (insert place name v) ≡ entering_nodes name v
coming-entering place None v = refl
coming-entering place (Some name) v = refl

pub some-coming : (place : Place) (name : Option (List ℕ)) (v : Value) → 1 ≤ coming (insert place name v)
some-coming place None v = some-nodes v
some-coming place (Some name) v = omega arith

-- ---- what stops it

module _ (next : ℕ) (gap : Gap) (rim : Rim) (old : Option Tree) (new : Entering) (o : Kept) where
  pub growing-stops : (e : EditFault) → StopsGrowing (entering_paths new.name new.value next) new.path (nodes new.value) new.had o.table e → StopsFilling next gap rim old new o e
  unfolding StopsFilling StopsGrowing
  growing-stops e stops at listed count steps is_gap lists is_at stands room shows = stops listed count steps lists is_at room

  pub memory-stops_filling : {A : Type 0} (r : Result A EditFault) → IsErrAnd r (λ e. e ≡ OutOfMemory) → IfErr r (StopsFilling next gap rim old new o)
  unfolding StopsFilling
  memory-stops_filling (Ok x) is = absurd is
  memory-stops_filling (Err e) is = λ at listed count steps is_gap lists is_at stands room shows. subst (Stops new.had listed (entering_paths new.name new.value next steps)) (sym is) tt

  mend_fault : (a : Kept) (fault : Fault) → (IsDamaged fault → IsFilled next gap rim old new o (kept None a.table)) → StopsFilling next gap rim old new o (edit_fault fault)
  unfolding StopsFilling IsFilled
  mend_fault a faults.Failed cannot at listed count steps is_gap lists is_at stands room shows = tt
  mend_fault a (faults.Damaged d) cannot at listed count steps is_gap lists is_at stands room shows =
      let paths : List (List Step) = entering_paths new.name new.value next steps in
      let filled_none = cannot tt at listed count steps is_gap lists is_at stands in
      let numbers = own-numbers a.table (with_paths listed paths) _ filled_none.0 in
      let known = shows (number_of (with_paths listed paths)) (numbers-back (number_of (with_paths listed paths)) listed paths numbers) in
      absurd ((filled_none.1 (number_of (with_paths listed paths)) numbers known.0 known.1).holds)
  mend_fault a faults.OutOfMemory cannot at listed count steps is_gap lists is_at stands room shows = tt

  pub mending-stops : {A : Type 0} (a : Kept) (r : Result A EditFault) (fault : Fault) → IsErrAnd r (λ e. e ≡ edit_fault fault) → (IsDamaged fault → IsFilled next gap rim old new o (kept None a.table)) → IfErr r (StopsFilling next gap rim old new o)
  mending-stops a (Ok x) fault is cannot = absurd is
  mending-stops a (Err e) fault is cannot = subst (StopsFilling next gap rim old new o) (sym is) (mend_fault a fault cannot)

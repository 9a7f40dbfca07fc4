-- A tree in another one's place: what stands around it.
use Rattle.std.proofs.Common.{◌≡◌, ℕ, suc, ◌+◌, ◌-◌, ◌≤◌, ◌<◌, List, [], ◌∷◌, Option, Some, None, refl, sym, ap, subst, ◌∙◌, arith}
use Rattle.std.specs.Prelude.{◌%◌, ◌^◌, option_map}
use Rattle.std.specs.Option.{option_or}
use Rattle.sx_tree.specs.declared.record.Kind.{Kind}
use Rattle.sx_tree.specs.declared.record.Step.{Step}
use Rattle.sx_tree.specs.declared.record.NodeRecord.{NodeRecord}
use Rattle.sx_view.specs.Records.{RecordMap}
use Rattle.sx_view.specs.Rows.{row_of}
use Rattle.sx_model.specs.Tree.{Forest, no_trees, tree_then, beside, count, size}
use Rattle.sx_model.specs.Records.{NodeRow, at_top, around_children, first_of, last_of, rows}
use Rattle.sx_model.specs.Holes.{Frame, Shown, join, plug, shown, shown_by, around_hole, frame_row}
use Rattle.sx_model.proofs.Holes.{shown-beside}
use Rattle.sx_edit.specs.Holes.{AreNew, IsShift, IsAlike, first_entry, last_entry, rows_above, top_shown, whole}
use Rattle.sx_edit.specs.Damage.{Reach}
use Rattle.sx_edit.specs.Links.{IsRecord}
use Rattle.sx_edit.specs.Seen.{AreCounted, GoFrom, IsLeaving, IsRim, entry_of, upward}
use Rattle.sx_edit.proofs.Upward.{IsCounted, counted-above, leaving-goes}
use Rattle.sx_edit.specs.declared.trees.Rim.{Rim}
use Rattle.sx_edit.specs.declared.trees.Seen.{Seen}
use Rattle.sx_edit.specs.Told.{Holds, Shows, IsChanged, IsLifted, CannotLift}
use Rattle.sx_edit.specs.declared.trees.Gap.{Gap}
use Rattle.sx_edit.specs.declared.trees.Tree.{Tree}
use Rattle.sx_edit.specs.Mend.{IsMended, adopted, end, hash_of_tree, nodes_of_tree, number_of_tree, shown_tree, trees_of_tree, opened}
use Rattle.sx_edit.proofs.Climbing.{first_is}
use Rattle.sx_edit.proofs.Siblings.{as_left, as_right, or_some}
use Rattle.sx_edit.proofs.Standing.{top_shown-plug}
use Rattle.sx_edit.proofs.Relabeling.{deep-plug, difference_of}
use Rattle.sx_edit.proofs.Refilling.{refilled}

end-some : (e : Option ℕ) (m : ℕ) (other old : Option ℕ) → end (option_or e (Some m)) other old ≡ old
end-some None m other old = refl
end-some (Some n) m other old = refl

first-end : (before : Forest) (x other : Option ℕ) → end (last_of before) other (option_or (first_of before) x) ≡ option_or (first_of before) other
first-end no_trees x other = refl
first-end (tree_then m below rest) x other = end-some (last_of rest) m.number other (Some m.number)

last-end : (behind : Forest) (x n l : Option ℕ) → end (first_of behind) (option_or n l) (option_or (option_or (last_of behind) x) l) ≡ option_or (option_or (last_of behind) n) l
last-end no_trees x n l = refl
last-end (tree_then m below rest) x n l =
    ap (λ o. option_or o l) (or_some (last_of rest) m.number x) ∙ or_some (last_of rest) m.number l
    ∙ sym (ap (λ o. option_or o l) (or_some (last_of rest) m.number n) ∙ or_some (last_of rest) m.number l)

top_nodes : (local : Kind → List ℕ → ℕ) (frames : List Frame) (a b : Shown) → a.nodes ≡ b.nodes → (top_shown local frames a).nodes ≡ (top_shown local frames b).nodes
top_nodes local [] a b is = is
top_nodes local (frame ∷ frames) a b is = top_nodes local frames (shown_by local frame a) (shown_by local frame b) (ap (λ z. size frame.before + (suc z + size frame.behind)) is)

pub one-tree : (tree : Option Tree) → trees_of_tree tree ≤ 1
one-tree None = omega arith
one-tree (Some tree) = omega arith

module _ (local : Kind → List ℕ → ℕ) (number : List Step → ℕ) where
  abbrev three : Forest → Forest → Forest → Shown
  three before middle behind = join (shown local before) (join (shown local middle) (shown local behind))

  shown-three : (before middle behind : Forest) → shown local (beside before (beside middle behind)) ≡ three before middle behind
  shown-three before middle behind = shown-beside local before (beside middle behind) ∙ ap (join (shown local before)) (shown-beside local middle behind)

  -- what each step does, and the lift at last, for these trees
  pub mended-at : (gap : Gap) (old new : Option Tree) (frames : List Frame) (frame : Frame) (before olds news behind : Forest)
      → (o o1 o2 after : Option (RecordMap NodeRecord))
      → let a : Shown = shown local (beside before (beside olds behind)) in
      let b : Shown = shown local (beside before (beside news behind)) in
      let half : Shown = record a { first = b.first; last = b.last; trees = b.trees } in
      let hole : List (ℕ × NodeRow) = rows local number (around_children (around_hole frames) frame.node) (beside before (beside news behind)) in
      frame.node.number ≡ gap.parent → last_of before ≡ gap.left → first_of behind ≡ gap.right
      → shown local olds ≡ shown_tree old → shown local news ≡ shown_tree new
      → IsChanged (last_entry local number (record (around_children (around_hole frames) frame.node) { right = option_or (first_of olds) (first_of behind) }) before)
      (λ w. record w { right = option_or (number_of_tree new) gap.right }) o o1
      → IsChanged (first_entry local number (record (around_children (around_hole frames) frame.node) { left = option_or (last_of olds) (last_of before) }) behind)
      (λ w. record w { left = option_or (number_of_tree new) gap.left }) o1 o2
      → (AreNew (frame ∷ frames) → adopted gap old new (frame_row local number frames frame a) ≡ frame_row local number frames frame half
      → IsShift (nodes_of_tree new) (nodes_of_tree old) ((hash_of_tree new + (2 ^ 128 - hash_of_tree old)) % 2 ^ 128) half b → IsAlike half b
      → Holds o2 (whole local number (frame ∷ frames) a hole) → Holds after (whole local number (frame ∷ frames) b hole))
      → hash_of_tree old ≤ 2 ^ 128
      → Shows o (opened local number frames frame before olds news behind)
      → Shows after (rows local number at_top (plug (frame ∷ frames) (beside before (beside news behind))))
  mended-at gap old new frames frame before olds news behind o o1 o2 after parent left right old_is new_is linked_right linked_left lifts fits shows =
      let a : Shown = shown local (beside before (beside olds behind)) in
      let b : Shown = shown local (beside before (beside news behind)) in
      let half : Shown = record a { first = b.first; last = b.last; trees = b.trees } in
      let a_is = shown-three before olds behind in
      let b_is = shown-three before news behind in
      let first_new : first_of news ≡ number_of_tree new = ap (λ (s : Shown). s.first) new_is in
      let last_new : last_of news ≡ number_of_tree new = ap (λ (s : Shown). s.last) new_is in
      let trees_new = ap (λ (s : Shown). s.trees) new_is in
      let trees_old = ap (λ (s : Shown). s.trees) old_is in
      let trees_a = ap (λ (s : Shown). s.trees) a_is in
      let trees_b = ap (λ (s : Shown). s.trees) b_is in
      let nodes_new = ap (λ (s : Shown). s.nodes) new_is in
      let nodes_old = ap (λ (s : Shown). s.nodes) old_is in
      let nodes_a = ap (λ (s : Shown). s.nodes) a_is in
      let nodes_b = ap (λ (s : Shown). s.nodes) b_is in
      let hashes_new = ap (λ (s : Shown). s.hashes) new_is in
      let hashes_old = ap (λ (s : Shown). s.hashes) old_is in
      let hashes_a = ap (λ (s : Shown). s.hashes) a_is in
      let hashes_b = ap (λ (s : Shown). s.hashes) b_is in
      let a_first = ap (λ (s : Shown). s.first) a_is in
      let a_last = ap (λ (s : Shown). s.last) a_is in
      let first : end gap.left (option_or (number_of_tree new) gap.right) a.first ≡ b.first =
      (λ i. end (sym left i) (option_or (sym first_new i) (sym right i)) (a_first i))
      ∙ first-end before (option_or (first_of olds) (first_of behind)) (option_or (first_of news) (first_of behind)) ∙ sym (ap (λ (s : Shown). s.first) b_is) in
      let last : end gap.right (option_or (number_of_tree new) gap.left) a.last ≡ b.last =
      (λ i. end (sym right i) (option_or (sym last_new i) (sym left i)) (a_last i))
      ∙ last-end behind (last_of olds) (last_of news) (last_of before) ∙ sym (ap (λ (s : Shown). s.last) b_is) in
      let children : a.trees + trees_of_tree new - trees_of_tree old ≡ b.trees = omega arith in
      let changed : adopted gap old new (frame_row local number frames frame a) ≡ frame_row local number frames frame half =
      λ i. record (frame_row local number frames frame a) { first = first i; last = last i; children = children i } in
      let shift : IsShift (nodes_of_tree new) (nodes_of_tree old) ((hash_of_tree new + (2 ^ 128 - hash_of_tree old)) % 2 ^ 128) half b = record {
        nodes = omega arith;
        hashes = difference_of (hash_of_tree old) (hash_of_tree new) a.hashes b.hashes (omega arith) fits;
      } in
      refilled local number frames frame before news behind a (option_or (first_of olds) (first_of behind)) (option_or (last_of olds) (last_of before)) o o1 o2 after shows
      (as_right _ _ _ o o1 (λ i. option_or (sym first_new i) (sym right i)) linked_right)
      (as_left _ _ _ o1 o2 (λ i. option_or (sym last_new i) (sym left i)) linked_left)
      (λ fresh alike holds. lifts fresh changed shift alike holds)

pub count-size : (trees : Forest) → count trees ≤ size trees
count-size no_trees = omega arith
count-size (tree_then n below rest) = omega (arith, count-size rest)

-- the two neighbours were linked, and those above lifted, from what was read around the gap
module _ (next : ℕ) (gap : Gap) (rim : Rim) (old new : Option Tree) (o o1 o2 : Option (RecordMap NodeRecord))
    (linked_right : IsChanged (option_map entry_of rim.left) (λ w. record w { right = option_or (number_of_tree new) gap.right }) o o1)
    (linked_left : IsChanged (option_map entry_of rim.right) (λ w. record w { left = option_or (number_of_tree new) gap.left }) o1 o2)
    (fits : hash_of_tree old ≤ 2 ^ 128) where
  pub mended-lifted : (parent : Seen) (all : List (ℕ × NodeRow)) (after : Option (RecordMap NodeRecord)) → entry_of parent ≡ (rim.parent.node, adopted gap old new (row_of rim.parent.record)) → all ≡ entry_of parent ∷ upward rim.above.items
      → IsLifted all (nodes_of_tree new) (nodes_of_tree old) ((hash_of_tree new + (2 ^ 128 - hash_of_tree old)) % 2 ^ 128) o2 after → IsMended next gap rim old new o after
  unfolding IsMended IsLifted
  mended-lifted parent all after parent_is all_is lifted local number frames frame before olds news behind above_is left right old_is new_is few room around shows =
      let a : Shown = shown local (beside before (beside olds behind)) in
      let b : Shown = shown local (beside before (beside news behind)) in
      let half : Shown = record a { first = b.first; last = b.last; trees = b.trees } in
      let hole : List (ℕ × NodeRow) = rows local number (around_children (around_hole frames) frame.node) (beside before (beside news behind)) in
      let first = first_is _ _ _ _ around.above in
      mended-at local number gap old new frames frame before olds news behind o o1 o2 after above_is left right old_is new_is
      (subst (λ e. IsChanged e (λ w. record w { right = option_or (number_of_tree new) gap.right }) o o1) around.left linked_right)
      (subst (λ e. IsChanged e (λ w. record w { left = option_or (number_of_tree new) gap.left }) o1 o2) around.right linked_left)
      (λ fresh changed shift alike holds.
      let node_is : frame.node.number ≡ rim.parent.node = ap (λ (x : ℕ × NodeRow). x.0) first.0 in
      let row_is : frame_row local number frames frame half ≡ adopted gap old new (row_of rim.parent.record) = sym changed ∙ ap (λ (x : ℕ × NodeRow). adopted gap old new x.1) first.0 in
      let seen : rows_above local number (frame ∷ frames) half ≡ all = (λ i. (node_is i, row_is i) ∷ first.1 i) ∙ (λ i. sym parent_is i ∷ upward rim.above.items) ∙ sym all_is in
      lifted local number (frame ∷ frames) a half b hole fresh seen shift alike holds) fits shows

  pub mended-cannot_lift : (parent : Seen) (all : List (ℕ × NodeRow)) → entry_of parent ≡ (rim.parent.node, adopted gap old new (row_of rim.parent.record)) → all ≡ entry_of parent ∷ upward rim.above.items
      → CannotLift all (nodes_of_tree new) (nodes_of_tree old) → IsMended next gap rim old new o None
  unfolding IsMended CannotLift
  mended-cannot_lift parent all parent_is all_is cannot local number frames frame before olds news behind above_is left right old_is new_is few room around shows =
      let inside : Forest = beside before (beside olds behind) in
      let a : Shown = shown local inside in
      let b : Shown = shown local (beside before (beside news behind)) in
      let half : Shown = record a { first = b.first; last = b.last; trees = b.trees } in
      let first = first_is _ _ _ _ around.above in
      let deep = deep-plug (frame ∷ frames) inside in
      let total : (top_shown local (frame ∷ frames) half).nodes ≡ size (plug (frame ∷ frames) inside) =
      top_nodes local (frame ∷ frames) half a refl ∙ ap (λ (s : Shown). s.nodes) (top_shown-plug local (frame ∷ frames) inside) in
      let gone = ap (λ (s : Shown). s.nodes) old_is in
      let parts = ap (λ (s : Shown). s.nodes) (shown-three local number before olds behind) in
      mended-at local number gap old new frames frame before olds news behind o o1 o2 None above_is left right old_is new_is
      (subst (λ e. IsChanged e (λ w. record w { right = option_or (number_of_tree new) gap.right }) o o1) around.left linked_right)
      (subst (λ e. IsChanged e (λ w. record w { left = option_or (number_of_tree new) gap.left }) o1 o2) around.right linked_left)
      (λ fresh changed shift alike holds.
      let node_is : frame.node.number ≡ rim.parent.node = ap (λ (x : ℕ × NodeRow). x.0) first.0 in
      let row_is : frame_row local number frames frame half ≡ adopted gap old new (row_of rim.parent.record) = sym changed ∙ ap (λ (x : ℕ × NodeRow). adopted gap old new x.1) first.0 in
      let seen : rows_above local number (frame ∷ frames) half ≡ all = (λ i. (node_is i, row_is i) ∷ first.1 i) ∙ (λ i. sym parent_is i ∷ upward rim.above.items) ∙ sym all_is in
      absurd (cannot local number (frame ∷ frames) half seen (omega (arith, total, deep, few, room)) (omega (arith, gone, parts)))) fits shows

-- the count of the parent's children does not stop it
pub mended-adopts : (next : ℕ) (gap : Gap) (rim : Rim) (old new : Option Tree) (o : Option (RecordMap NodeRecord))
    → (rim.parent.record.children + trees_of_tree new < 2 ^ 32 → trees_of_tree old ≤ rim.parent.record.children + trees_of_tree new → ⊥) → IsMended next gap rim old new o None
unfolding IsMended
mended-adopts next gap rim old new o never local number frames frame before olds news behind above_is left right old_is new_is few room around shows =
    let inside : Forest = beside before (beside olds behind) in
    let first = first_is _ _ _ _ around.above in
    let children : (shown local inside).trees ≡ rim.parent.record.children = ap (λ (x : ℕ × NodeRow). x.1.children) first.0 in
    let trees = count-size inside in
    let deep = deep-plug (frame ∷ frames) inside in
    let parts = ap (λ (s : Shown). s.trees) (shown-three local number before olds behind) in
    let gone = ap (λ (s : Shown). s.trees) old_is in
    absurd (never (omega (arith, children, trees, deep, few, room, one-tree new)) (omega (arith, children, parts, gone)))

-- what is known of the nodes above the gap
pub rim-goes : (o : Option (RecordMap NodeRecord)) (reach : Reach) (gap : Gap) (rim : Rim) (old : Option Tree) → IsLeaving o reach gap.parent old → IsRim o gap rim → GoFrom o reach (nodes_of_tree old) rim.parent.node
rim-goes o reach gap rim old leaving is =
    let same : gap.parent ≡ rim.parent.node = let e : Some gap.parent ≡ Some rim.parent.node = is.above.0 in cc in
    subst (GoFrom o reach (nodes_of_tree old)) same (leaving-goes o reach gap.parent old leaving)

pub rim-leaves : (o : Option (RecordMap NodeRecord)) (reach : Reach) (gap : Gap) (rim : Rim) (old : Option Tree) → IsLeaving o reach gap.parent old → IsRim o gap rim → IsLeaving o reach rim.parent.node old
rim-leaves o reach gap rim old leaving is =
    let same : gap.parent ≡ rim.parent.node = let e : Some gap.parent ≡ Some rim.parent.node = is.above.0 in cc in
    subst (λ k. IsLeaving o reach k old) same leaving

pub rim-counted : (o : Option (RecordMap NodeRecord)) (reach : Reach) (gap : Gap) (rim : Rim) (old : Option Tree) → IsLeaving o reach gap.parent old → IsRim o gap rim → AreCounted o reach (nodes_of_tree old) rim.above.items
rim-counted o reach gap rim old leaving is = counted-above o reach (nodes_of_tree old) rim.parent.node rim.parent.record rim.above.items is.above.1 (rim-goes o reach gap rim old leaving is) is.above.2

pub parent-counted : (o : Option (RecordMap NodeRecord)) (reach : Reach) (gap : Gap) (rim : Rim) (old new : Option Tree) (parent : Seen) → entry_of parent ≡ (rim.parent.node, adopted gap old new (row_of rim.parent.record)) → IsLeaving o reach gap.parent old
    → IsRim o gap rim → IsCounted o reach (nodes_of_tree old) parent
parent-counted o reach gap rim old new parent is leaving rimmed =
    let node_is : rim.parent.node ≡ parent.node = sym (ap (λ (x : ℕ × NodeRow). x.0) is) in
    (rim.parent.record, (subst (λ k. IsRecord o k rim.parent.record) node_is rimmed.above.1, sym (ap (λ (x : ℕ × NodeRow). x.1.descendants) is), subst (GoFrom o reach (nodes_of_tree old)) node_is (rim-goes o reach gap rim old leaving rimmed)))

pub tree-fits : (tree : Option Tree) → hash_of_tree tree ≤ 2 ^ 128
tree-fits None = omega arith
tree-fits (Some tree) = omega (arith, tree.hash_fits)

-- How many gets of records an accepted edit makes.
use Rattle.std.proofs.Common.{◌≡◌, ℕ, ◌+◌, ◌≤◌, Bool, true, false, List, [], ◌∷◌, ◌++◌, length, length-append, Option, Some, None, refl, sym, ap, subst, ◌∙◌, arith}
use Rattle.std.specs.Prelude.{if◌then◌else◌, reverse, OnOk, Result}
use Rattle.std.specs.Option.{ForSome}
use Rattle.std.specs.FinMap as fin
use Rattle.std.proofs.lemmas.List.{length-reverse, reverse-append}
use Rattle.sx_tree.specs.declared.json.Scalar.{Scalar}
use Rattle.sx_tree.specs.declared.edit.Edited.{Edited}
use Rattle.sx_tree.specs.declared.record.Kind.{Kind}
use Rattle.sx_edit.specs.declared.fault.EditFault.{EditFault}
use Rattle.sx_tree.specs.declared.edit.Place.{Place}
use Rattle.sx_tree.specs.declared.edit.Place.TheVariants.{Last}
use Rattle.sx_tree.specs.declared.record.NodeRecord.{NodeRecord}
use Rattle.sx_tree.specs.declared.record.Step.{Step}
use Rattle.sx_tree.specs.Value.{Value}
use Rattle.sx_view.specs.Records.{RecordMap}
use Rattle.sx_view.specs.Rows.{row_of}
use Rattle.sx_model.specs.Edit.{Edit, insert, load, remove, rename, replace, set_scalar}
use Rattle.sx_model.specs.Hash.{local_hash}
use Rattle.sx_model.specs.Holes.{Frame, Shown, around_hole, plug, rows_before, rows_behind, shown}
use Rattle.sx_model.specs.Paths.{number_of}
use Rattle.sx_model.specs.Records.{NodeRow, around_children, rows}
use Rattle.sx_model.specs.State.{State}
use Rattle.sx_model.specs.Tree.{Node, Forest, Spot, no_trees, tree_then, beside, count, is_object, numbers, size, spot}
use Rattle.sx_model.proofs.Holes.{rows-plug}
use Rattle.sx_edit.specs.declared.trees.Gap.{Gap}
use Rattle.sx_edit.specs.declared.trees.Rim.{Rim}
use Rattle.sx_edit.specs.declared.trees.Seen.{Seen}
use Rattle.sx_edit.specs.declared.trees.Target.{Target}
use Rattle.sx_edit.specs.Answers.{AreOf}
use Rattle.sx_edit.specs.Edited.{rows_in}
use Rattle.sx_edit.specs.Gets.{GetsAtMost, GetsChildren, GetsKeys, at_spot, gets_at_place, gets_of_tree, keys_among}
use Rattle.sx_edit.specs.Links.{first_tops}
use Rattle.sx_edit.specs.Holes.{before_own, behind_own, own_row}
use Rattle.sx_edit.specs.Mend.{IsUprooted}
use Rattle.sx_edit.specs.Places.{IsPlace}
use Rattle.sx_edit.specs.Seen.{IsChain, IsRim, entries_of}
use Rattle.sx_edit.specs.Told.{IsWalked, Shows, numbers_of}
use Rattle.sx_edit.proofs.Clearing.{uprooted}
use Rattle.sx_edit.proofs.Climbing.{some_is}
use Rattle.sx_edit.proofs.Failing.{chain-rows, length-rows_above}
use Rattle.sx_edit.proofs.Inserting.{place-at, site}
use Rattle.sx_edit.proofs.Looking.{IsSeen}
use Rattle.sx_edit.proofs.Mending.{count-size}
use Rattle.sx_edit.proofs.Seeking.{IsAt, Sought, found, missing, seek}
use Rattle.sx_edit.proofs.Relabeling.{deep-plug, size-beside}
use Rattle.sx_edit.proofs.SettingScalars.{length-nodes_of, length_entries, seen, seen-length}
use Rattle.sx_edit.proofs.Splicing.{IsGapOf, parent-there}
use Rattle.sx_edit.proofs.Standing.{new-whole, rows-own}

numbers-size : (trees : Forest) → length (numbers trees) ≡ size trees
numbers-size no_trees = refl
numbers-size (tree_then n below rest) = omega (arith, length-append (numbers below) (numbers rest), numbers-size below, numbers-size rest)

-- so many nodes are above the gap as were read
rim-length : (k : ℕ) (state : State) (next parent : ℕ) (o : Option (RecordMap NodeRecord)) (r : NodeRecord) (are : AreOf state next o) (s : IsSeen k state o r) (gap : Gap) (rim : Rim) → IsGapOf parent r gap → IsRim o gap rim
    → length rim.above.items + 1 ≡ length s.at.around
rim-length k state next parent o r are s gap rim gap_of is =
    let all : List Seen = rim.above.items ++ rim.parent ∷ [] in
    let up : Some gap.parent ≡ r.parent = ap (λ k. Some k) gap_of.gap_parent ∙ sym gap_of.up in
    let chain : IsChain o r.parent (reverse all) = subst (IsChain o r.parent) (sym (reverse-append rim.above.items (rim.parent ∷ []))) (subst (λ p. IsChain o p (rim.parent ∷ reverse rim.above.items)) up is.above) in
    omega (arith, length-append rim.above.items (rim.parent ∷ []), seen-length k state next o r are s all chain)

-- the nodes of a tree, in the order of its walk
gone-length : (k : ℕ) (state : State) (next : ℕ) (o : Option (RecordMap NodeRecord)) (r : NodeRecord) (are : AreOf state next o) (s : IsSeen k state o r) (gone : List ℕ) → IsUprooted k r.first next o gone → length gone ≡ size s.at.below + 1
unfolding IsUprooted
gone-length k state next o r are s gone uproots =
    let number : List Step → ℕ = number_of state.paths in
    let frames : List Frame = s.at.around in
    let n : Node = s.at.node in
    let inside : Forest = beside s.at.left (tree_then n s.at.below s.at.right) in
    let a : Shown = shown local_hash inside in
    let own = subst (Shows o) (rows-plug local_hash number frames inside ∙ rows-own local_hash number frames a s.at.left n s.at.below s.at.right) s.shows in
    let own_k = subst (λ q. Shows o (before_own local_hash number frames a s.at.left n.number ++ (q, own_row local_hash number frames s.at.left n s.at.below s.at.right)
    ∷ (rows local_hash number (around_children (around_hole frames) n) s.at.below ++ behind_own local_hash number frames a n.number s.at.right))) s.at.number own in
    let few : size (plug frames inside) ≤ next = subst (λ t. size t ≤ next) s.at.stands are.few in
    let gone_is = uproots local_hash number (around_children (around_hole frames) n) s.at.below _ _ _ (sym (ap (λ (w : NodeRow). w.first) s.row)) refl (omega (arith, few, deep-plug frames inside, size-beside s.at.left (tree_then n s.at.below s.at.right))) own_k in
    omega (arith, ap length gone_is, length-append (numbers s.at.below) (k ∷ []), numbers-size s.at.below)

length_numbers : (seens : List Seen) → length (numbers_of (entries_of seens)) ≡ length seens
length_numbers [] = refl
length_numbers (seen ∷ seens) = omega (arith, length_numbers seens)

at-spot : (gets : Spot → ℕ) (o : Option Spot) (q : Spot) → o ≡ Some q → at_spot gets o ≡ gets q
at-spot gets o q is = ap (at_spot gets) is

module _ (k next : ℕ) (r : NodeRecord) (o : Option (RecordMap NodeRecord)) (there : ForSome o (λ m. fin.get m k ≡ Some r)) where
  -- a tree that goes, whatever comes in its place
  tree-gets : (parent : ℕ) (gap : Gap) (rim : Rim) (gone : List ℕ) (old new : ℕ) → IsGapOf parent r gap → IsRim o gap rim → IsUprooted k r.first next o gone → new ≤ old + (4 + (length rim.above.items + length gone))
      → (state : State) → AreOf state next o → new ≤ old + at_spot gets_of_tree (spot k state.trees)
  tree-gets parent gap rim gone old new gap_of is uproots within state are =
      let s = seen k state next o r are there in
      omega (arith, within, at-spot gets_of_tree _ _ s.at.spot, rim-length k state next parent o r are s gap rim gap_of is, gone-length k state next o r are s gone uproots, length-nodes_of s.at.around)

  pub remove-gets : (parent : ℕ) (gap : Gap) (rim : Rim) (gone : List ℕ) (old new : ℕ) → IsGapOf parent r gap → IsRim o gap rim → IsUprooted k r.first next o gone → new ≤ old + (4 + (length rim.above.items + length gone))
      → GetsAtMost (remove k) next o old new
  unfolding GetsAtMost
  remove-gets parent gap rim gone old new gap_of is uproots within state are = tree-gets parent gap rim gone old new gap_of is uproots within state are

  pub replace-gets : (v : Value) (parent : ℕ) (gap : Gap) (rim : Rim) (gone : List ℕ) (old new : ℕ) → IsGapOf parent r gap → IsRim o gap rim → IsUprooted k r.first next o gone → new ≤ old + (4 + (length rim.above.items + length gone))
      → GetsAtMost (replace k v) next o old new
  unfolding GetsAtMost
  replace-gets v parent gap rim gone old new gap_of is uproots within state are = tree-gets parent gap rim gone old new gap_of is uproots within state are

  pub scalar-work : (scalar : Scalar) (above : List Seen) (old new : ℕ) → IsChain o r.parent (reverse above) → new ≤ old + (1 + length above) → GetsAtMost (set_scalar k scalar) next o old new
  unfolding GetsAtMost
  scalar-work scalar above old new chain within state are =
      let s = seen k state next o r are there in
      omega (arith, within, at-spot (λ q. 1 + length q.above) _ _ s.at.spot, seen-length k state next o r are s above chain, length-nodes_of s.at.around)

-- ---- a Key that gets another name

keys-there : (number : List Step → ℕ) (frames : List Frame) (before : Forest) (n : Node) (below behind : Forest) (next parent old new : ℕ) (r p : NodeRecord) (o : Option (RecordMap NodeRecord))
    → row_of r ≡ own_row local_hash number frames before n below behind → r.parent ≡ Some parent → ForSome o (λ m. fin.get m parent ≡ Some p) → size (plug frames (beside before (tree_then n below behind))) ≤ next
    → Shows o (rows_in number (plug frames (beside before (tree_then n below behind)))) → GetsKeys p.first next o old new → new ≤ old + count (beside before (tree_then n below behind))
unfolding GetsKeys
keys-there number [] before n below behind next parent old new r p o row up there_p few shows keys = absurd (let none : r.parent ≡ None = ap (λ (w : NodeRow). w.parent) row in cc)
keys-there number (frame ∷ frames) before n below behind next parent old new r p o row up there_p few shows keys =
    let above_is : r.parent ≡ Some frame.node.number = ap (λ (w : NodeRow). w.parent) row in
    let parent_is : parent ≡ frame.node.number = cc in
    let inside : Forest = beside before (tree_then n below behind) in
    let p_row = some_is _ _ (parent-there number frames frame inside (Some p) o shows (rw parent_is at there_p)) in
    let all = subst (Shows o) (rows-plug local_hash number (frame ∷ frames) inside) shows in
    keys local_hash number (around_hole (frame ∷ frames)) inside (rows_before local_hash number (frame ∷ frames) (shown local_hash inside)) (rows_behind local_hash number (frame ∷ frames) (shown local_hash inside))
    (sym (ap (λ (w : NodeRow). w.first) p_row)) refl (omega (arith, few, deep-plug (frame ∷ frames) inside, count-size inside)) all

pub rename-gets : (k next : ℕ) (r p : NodeRecord) (o : Option (RecordMap NodeRecord)) → ForSome o (λ m. fin.get m k ≡ Some r) → (name : List ℕ) (parent : ℕ) (above moved : List Seen) (old from mid new : ℕ) → r.parent ≡ Some parent
    → ForSome o (λ m. fin.get m parent ≡ Some p) → GetsKeys p.first next o from mid → IsChain o (Some parent) (reverse above) → IsWalked (first_tops r.first) next o (numbers_of (entries_of moved))
    → from ≤ old + 2 → new ≤ mid + (length above + length moved) → GetsAtMost (rename k name) next o old new
unfolding GetsAtMost
rename-gets k next r p o there name parent above moved old from mid new up there_p keys chain walked first last state are =
    let s = seen k state next o r are there in
    let few : size (plug s.at.around (beside s.at.left (tree_then s.at.node s.at.below s.at.right))) ≤ next = subst (λ t. size t ≤ next) s.at.stands are.few in
    let keyed = keys-there (number_of state.paths) s.at.around s.at.left s.at.node s.at.below s.at.right next parent from mid r p o s.row up there_p few s.shows keys in
    let gone = gone-length k state next o r are s (numbers_of (entries_of moved) ++ k ∷ []) (uprooted k r.first next o (numbers_of (entries_of moved)) (numbers_of (entries_of moved) ++ k ∷ []) walked refl) in
    omega (
      arith,
      first,
      last,
      keyed,
      gone,
      length-append (numbers_of (entries_of moved)) (k ∷ []),
      length_numbers moved,
      at-spot (λ q. 2 + (count q.siblings + (length q.above + size q.below))) _ _ s.at.spot,
      seen-length k state next o r are s above (subst (λ q. IsChain o q (reverse above)) (sym up) chain),
      length-nodes_of s.at.around,
    )

-- ---- a value that comes

pub children-none : (next : ℕ) (target : Target) (o : Option (RecordMap NodeRecord)) (gets : ℕ) → GetsChildren next target o gets gets
unfolding GetsChildren
children-none next target o gets frames frame inside site kind first = omega arith

pub children-keys : (next : ℕ) (target : Target) (o : Option (RecordMap NodeRecord)) (old new : ℕ) → is_object target.kind ≡ true → GetsKeys target.first next o old new → GetsChildren next target o old new
unfolding GetsChildren GetsKeys
children-keys next target o old new object keys frames frame inside site kind first =
    let all = subst (Shows o) (rows-plug local_hash site.paths (frame ∷ frames) inside) site.shows in
    let within = keys local_hash site.paths (around_hole (frame ∷ frames)) inside (rows_before local_hash site.paths (frame ∷ frames) (shown local_hash inside)) (rows_behind local_hash site.paths (frame ∷ frames) (shown local_hash inside))
    (sym first) refl (omega (arith, deep-plug (frame ∷ frames) inside, count-size inside, site.few)) all in
    let all_keys : keys_among frame.node.kind inside ≡ count inside = ap (λ (b : Bool). if b then count inside else 0) (sym (ap is_object kind) ∙ object) in
    omega (arith, within, all_keys)

rim-frames : (number : List Step → ℕ) (frames : List Frame) (frame : Frame) (inside : Forest) (o : Option (RecordMap NodeRecord)) (gap : Gap) (rim : Rim) → Shows o (rows_in number (plug (frame ∷ frames) inside)) → frame.node.number ≡ gap.parent
    → IsRim o gap rim → length rim.above.items + 1 ≡ length (frame ∷ frames)
rim-frames number frames frame inside o gap rim shows parent is =
    let a : Shown = shown local_hash inside in
    let hole : List (ℕ × NodeRow) = rows local_hash number (around_hole (frame ∷ frames)) inside in
    let all = subst (Shows o) (rows-plug local_hash number (frame ∷ frames) inside) shows in
    let above_is = chain-rows local_hash number (frame ∷ frames) a hole (Some gap.parent) (rim.parent ∷ reverse rim.above.items) o (new-whole local_hash number (frame ∷ frames) a hole all.distinct) (ap (λ k. Some k) parent) all.holds is.above in
    omega (arith, ap length above_is, length-rows_above local_hash number (frame ∷ frames) a, length_entries (rim.parent ∷ reverse rim.above.items), length-reverse rim.above.items)

pub insert-gets : (place : Place) (name : Option (List ℕ)) (v : Value) (next : ℕ) (target : Target) (o : Option (RecordMap NodeRecord)) (rim : Rim) (old from mid new : ℕ) → IsPlace place next o target → IsRim o target.gap rim
    → GetsChildren next target o from mid → from ≤ old + 2 → new ≤ mid + (3 + length rim.above.items) → GetsAtMost (insert place name v) next o old new
unfolding GetsAtMost GetsChildren
insert-gets place name v next target o rim old from mid new is_place is children first last state are =
    let at = place-at place name v next target o is_place state are in
    let there = site place name v next target o is_place state are at in
    let keyed = children at.frames at.frame (beside at.left at.right) there at.kind at.children in
    omega (arith, first, last, keyed, at.gets, rim-frames there.paths at.frames at.frame (beside at.left at.right) o target.gap rim there.shows at.number is)

-- ---- a load

below-tree : (k : ℕ) (state : State) (s : IsAt k [] no_trees state.trees) → length s.around + (1 + size s.below) ≤ size state.trees
below-tree k state s =
    omega (arith, deep-plug s.around (beside s.left (tree_then s.node s.below s.right)), size-beside s.left (tree_then s.node s.below s.right), ap size s.stands)

tree-within : (k next : ℕ) (state : State) (o : Option (RecordMap NodeRecord)) → AreOf state next o → at_spot gets_of_tree (spot k state.trees) ≤ 4 + size state.trees
tree-within k next state o are = go (seek k [] no_trees state.trees are.well_formed.distinct)
  where
    go : Sought k [] no_trees state.trees → at_spot gets_of_tree (spot k state.trees) ≤ 4 + size state.trees
    go (missing none) = let gone : at_spot gets_of_tree (spot k state.trees) ≡ 0 = ap (at_spot gets_of_tree) none.no_spot in omega (arith, gone)
    go (found s) = omega (arith, at-spot gets_of_tree _ _ s.spot, below-tree k state s, length-nodes_of s.around)

keys-few : (kind : Kind) (trees : Forest) → keys_among kind trees ≤ size trees
keys-few kind trees = by (is_object kind)
  where
    by : (b : Bool) → (if b then count trees else 0) ≤ size trees
    by true = count-size trees
    by false = omega arith

place-within : (next : ℕ) (state : State) (o : Option (RecordMap NodeRecord)) → AreOf state next o → at_spot (gets_at_place (Last 0)) (spot 0 state.trees) ≤ 5 + size state.trees
place-within next state o are = go (seek 0 [] no_trees state.trees are.well_formed.distinct)
  where
    go : Sought 0 [] no_trees state.trees → at_spot (gets_at_place (Last 0)) (spot 0 state.trees) ≤ 5 + size state.trees
    go (missing none) = let gone : at_spot (gets_at_place (Last 0)) (spot 0 state.trees) ≡ 0 = ap (at_spot (gets_at_place (Last 0))) none.no_spot in omega (arith, gone)
    go (found s) = omega (arith, at-spot (gets_at_place (Last 0)) _ _ s.spot, below-tree 0 state s, length-nodes_of s.around, keys-few s.node.kind s.below)

module _ (v : Value) (next : ℕ) (o now : Option (RecordMap NodeRecord)) (same : now ≡ o) (old from new : ℕ) (first : from ≤ old + 1) where
  pub load-of_replace : (k : ℕ) → GetsAtMost (replace k v) next now from new → GetsAtMost (load v) next o old new
  unfolding GetsAtMost
  load-of_replace k gets state are = omega (arith, first, gets state (subst (AreOf state next) (sym same) are), tree-within k next state o are)

  pub load-of_insert : GetsAtMost (insert (Last 0) None v) next now from new → GetsAtMost (load v) next o old new
  unfolding GetsAtMost
  load-of_insert gets state are = omega (arith, first, gets state (subst (AreOf state next) (sym same) are), place-within next state o are)

-- ---- all of an edit

pub settled-work : (edit : Edit) (next : ℕ) (told begun : Option (RecordMap NodeRecord)) (old start done last : ℕ) (result outcome : Result Edited EditFault) → begun ≡ told → start ≡ old → last ≡ done → result ≡ outcome
    → OnOk outcome (GetsAtMost edit next begun start done) → OnOk result (GetsAtMost edit next told old last)
settled-work edit next told begun old start done last result outcome same low high is work = rw (is, high, sym low, sym same) work

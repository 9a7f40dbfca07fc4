-- Another kind and label of a node, and what is left to lift then.
use Rattle.std.proofs.Common.{◌≡◌, ℕ, ◌+◌, ◌*◌, ◌≤◌, List, [], ◌∷◌, ◌++◌, length, Option, Some, refl, sym, ap, subst, ◌∙◌, add-zero, append_assoc, arith}
use Rattle.std.specs.Prelude.{◌%◌, ◌^◌, ◌-◌, option_map, reverse}
use Rattle.std.specs.Option.{ForSome}
use Rattle.std.specs.FinMap as fin
use Rattle.std.proofs.Math.Nat.{add-mod-mod, mod-add-mod}
use Rattle.sx_tree.specs.declared.record.Kind.{Kind}
use Rattle.sx_tree.specs.declared.record.NodeRecord.{NodeRecord}
use Rattle.sx_tree.specs.declared.record.Step.{Step}
use Rattle.sx_view.specs.Records.{RecordMap}
use Rattle.sx_view.specs.Rows.{row_of}
use Rattle.sx_model.specs.Hash.{local_hash}
use Rattle.sx_model.specs.Tree.{Node, Forest, no_trees, tree_then, beside, size}
use Rattle.sx_model.specs.Records.{NodeRow, rows}
use Rattle.sx_model.specs.Holes.{Frame, Shown, plug, filled, shown, around_hole, rows_before, rows_behind}
use Rattle.sx_edit.specs.Holes.{AreNew, IsShift, IsAlike, rows_above, whole, own_row, before_own, behind_own}
use Rattle.sx_edit.specs.Seen.{IsChain, upward}
use Rattle.sx_edit.specs.Told.{AreDistinct, Shows, IsLifted}
use Rattle.sx_edit.specs.declared.trees.Seen.{Seen}
use Rattle.sx_edit.specs.Edited.{Standing, labeled, rows_with, IsRelabeled}
use Rattle.sx_edit.proofs.Climbing.{parent-around_hole, some_is}
use Rattle.sx_edit.proofs.Failing.{chain-rows}
use Rattle.sx_edit.proofs.Showing.{shows-get, shows-put}
use Rattle.sx_edit.proofs.Shifts.{hash_among}
use Rattle.sx_edit.proofs.Standing.{shown-with_node, new-whole, numbers-whole}

hash_changed : (M l k s d : ℕ) → k % M ≡ (l + d) % M → (k + 257 * s) % M ≡ ((l + 257 * s) % M + d) % M
hash_changed M l k s d is =
    let regrouped : l + d + 257 * s ≡ l + 257 * s + d = omega arith in
    sym (mod-add-mod k M (257 * s)) ∙ ap (λ z. (z + 257 * s) % M) is ∙ mod-add-mod (l + d) M (257 * s) ∙ ap (λ z. z % M) regrouped
    ∙ sym (mod-add-mod (l + 257 * s) M d)

pub size-beside : (xs ys : Forest) → size (beside xs ys) ≡ size xs + size ys
size-beside no_trees ys = omega arith
size-beside (tree_then n below rest) ys = omega (arith, size-beside rest ys)

-- each frame is one node more
pub deep-plug : (frames : List Frame) (inside : Forest) → length frames + size inside ≤ size (plug frames inside)
deep-plug [] inside = omega arith
deep-plug (frame ∷ frames) inside = omega (arith, deep-plug frames (filled frame inside), size-beside frame.before (tree_then frame.node inside frame.behind))

-- the record of a node that got another kind, label and path, and so d more as its hash
pub record IsRenewed (k : ℕ) (kind : Kind) (label : List ℕ) (path d : ℕ) (r s : NodeRecord) : Type 0 where
  pub changed : row_of s ≡ record (row_of r) { kind = kind; label = label; hash = (r.hash + d) % 2 ^ 128; path = path }
  pub more : local_hash kind label % 2 ^ 128 ≡ (local_hash r.kind r.label + d) % 2 ^ 128

-- what is left to lift
record IsHalfway (number : List Step → ℕ) (d : ℕ) (mid : Option (RecordMap NodeRecord)) (frames : List Frame) (a b : Shown) (hole : List (ℕ × NodeRow)) : Type 0 where
  new : AreNew frames
  shift : IsShift 0 0 d a b
  alike : IsAlike a b
  shows : Shows mid (whole local_hash number frames a hole)

regroup : (f b h l m : List (ℕ × NodeRow)) (e : ℕ × NodeRow) → f ++ ((b ++ e ∷ (h ++ l)) ++ m) ≡ (f ++ b) ++ e ∷ (h ++ (l ++ m))
regroup f b h l m e = simp append_assoc

-- the rows in the hole, where the node's own is this
abbrev pub hole_with : (List Step → ℕ) → Standing → NodeRow → List (ℕ × NodeRow) → List (ℕ × NodeRow)
hole_with number at own inner =
    rows local_hash number (record (around_hole at.frames) { right = Some at.node.number }) at.before
    ++ (at.node.number, own) ∷ (inner ++ rows local_hash number (record (around_hole at.frames) { left = Some at.node.number }) at.behind)

halfway : (k : ℕ) (kind : Kind) (label : List ℕ) (path d : ℕ) (r s : NodeRecord) (old mid : Option (RecordMap NodeRecord)) (number : List Step → ℕ) (at : Standing) (was : ℕ) (inner : List (ℕ × NodeRow))
    → let now : Standing = labeled at kind label in
    at.node.number ≡ k → ForSome old (λ m. fin.get m k ≡ Some r) → IsRenewed k kind label path d r s → mid ≡ option_map (λ m. fin.insert m k s) old
    → Shows old (rows_with number at was inner)
    → IsHalfway number d mid at.frames (shown local_hash (beside at.before (tree_then at.node at.below at.behind))) (shown local_hash (beside at.before (tree_then now.node at.below at.behind)))
    (hole_with number at (record (own_row local_hash number at.frames at.before now.node at.below at.behind) { path = path }) inner)
halfway k kind label path d r s old mid number at was inner same there renewed put shows =
    let n : Node = at.node in
    let relabeled : Node = record { number = n.number; kind = kind; label = label } in
    let a : Shown = shown local_hash (beside at.before (tree_then n at.below at.behind)) in
    let here : NodeRow = record (own_row local_hash number at.frames at.before n at.below at.behind) { path = was } in
    let new_row : NodeRow = record (own_row local_hash number at.frames at.before relabeled at.below at.behind) { path = path } in
    let xs : List (ℕ × NodeRow) = before_own local_hash number at.frames a at.before n.number in
    let ys : List (ℕ × NodeRow) = inner ++ behind_own local_hash number at.frames a n.number at.behind in
    let hole : List (ℕ × NodeRow) = hole_with number at new_row inner in
    let there_n : ForSome old (λ m. Some r ≡ fin.get m n.number) = rw same (λ m e. sym (there m e)) in
    let known : row_of r ≡ here = some_is _ _ (shows-get old (Some r) xs ys n.number here shows there_n) in
    let kind_is : r.kind ≡ n.kind = ap (λ (w : NodeRow). w.kind) known in
    let label_is : r.label ≡ n.label = ap (λ (w : NodeRow). w.label) known in
    let more : local_hash kind label % 2 ^ 128 ≡ (local_hash n.kind n.label + d) % 2 ^ 128 = rw (kind_is, label_is) at renewed.more in
    let hash = hash_changed (2 ^ 128) (local_hash n.kind n.label) (local_hash kind label) (shown local_hash at.below).hashes d more in
    let row_is : row_of s ≡ new_row =
    renewed.changed ∙ ap (λ (w : NodeRow). record w { kind = kind; label = label; hash = (w.hash + d) % 2 ^ 128; path = path }) known ∙ (λ i. record here { kind = kind; label = label; hash = sym hash i; path = path }) in
    let put_n : option_map (λ m. fin.insert m n.number s) old ≡ mid = rw same (sym put) in
    let shows_put : Shows mid (xs ++ (n.number, new_row) ∷ ys) =
    subst (λ o. Shows o (xs ++ (n.number, new_row) ∷ ys)) put_n (shows-put old s xs ys n.number here new_row row_is shows) in
    let shows_mid : Shows mid (whole local_hash number at.frames a hole) = subst (Shows mid) (sym (regroup (rows_before local_hash number at.frames a) _ inner _ (rows_behind local_hash number at.frames a) (n.number, new_row))) shows_put in
    let a_is = shown-with_node local_hash at.before n at.below at.behind in
    let b_is = shown-with_node local_hash at.before relabeled at.below at.behind in
    record {
      new = new-whole local_hash number at.frames a hole shows_mid.distinct;
      shift = rw (a_is, b_is) (record { nodes = refl; hashes = hash_among (2 ^ 128) _ _ _ _ d hash });
      alike = rw (a_is, b_is) (record { first = refl; last = refl; trees = refl });
      shows = shows_mid;
    }

-- the rows above a node are those that were read on the way up from it
pub standing-rows : (number : List Step → ℕ) (at : Standing) (r : NodeRecord) → r.parent ≡ option_map (λ m. m.number) (around_hole at.frames).above
    → (o : Option (RecordMap NodeRecord)) (was : ℕ) (inner : List (ℕ × NodeRow)) (seens : List Seen) → Shows o (rows_with number at was inner) → IsChain o r.parent (reverse seens)
    → rows_above local_hash number at.frames (shown local_hash (beside at.before (tree_then at.node at.below at.behind))) ≡ upward seens
standing-rows number at r up o was inner seens shows chain =
    let a : Shown = shown local_hash (beside at.before (tree_then at.node at.below at.behind)) in
    let own : NodeRow = record (own_row local_hash number at.frames at.before at.node at.below at.behind) { path = was } in
    let hole : List (ℕ × NodeRow) = hole_with number at own inner in
    let all : Shows o (whole local_hash number at.frames a hole) = subst (Shows o) (sym (regroup (rows_before local_hash number at.frames a) _ inner _ (rows_behind local_hash number at.frames a) (at.node.number, own))) shows in
    chain-rows local_hash number at.frames a hole r.parent (reverse seens) o (new-whole local_hash number at.frames a hole all.distinct) (sym (up ∙ parent-around_hole local_hash number at.frames)) all.holds chain

pub relabeled-lifted : (k : ℕ) (kind : Kind) (label : List ℕ) (path d : ℕ) (r s : NodeRecord) (seen : List (ℕ × NodeRow)) (old mid new : Option (RecordMap NodeRecord))
    → ForSome old (λ m. fin.get m k ≡ Some r) → IsRenewed k kind label path d r s → mid ≡ option_map (λ m. fin.insert m k s) old
    → IsLifted seen 0 0 d mid new → IsRelabeled k kind label path seen old new
unfolding IsLifted IsRelabeled
relabeled-lifted k kind label path d r s seen old mid new there renewed put lifted number at was inner same above_is shows =
    let now : Standing = labeled at kind label in
    let half = halfway k kind label path d r s old mid number at was inner same there renewed put shows in
    let a : Shown = shown local_hash (beside at.before (tree_then at.node at.below at.behind)) in
    let b : Shown = shown local_hash (beside at.before (tree_then now.node at.below at.behind)) in
    let own : NodeRow = record (own_row local_hash number at.frames at.before now.node at.below at.behind) { path = path } in
    let hole : List (ℕ × NodeRow) = hole_with number at own inner in
    let all : Shows new (whole local_hash number at.frames b hole) = record {
      holds = lifted local_hash number at.frames a a b hole half.new above_is half.shift half.alike half.shows.holds;
      distinct = subst AreDistinct (numbers-whole local_hash number at.frames a b hole) half.shows.distinct;
    } in
    subst (Shows new) (regroup (rows_before local_hash number at.frames b) _ inner _ (rows_behind local_hash number at.frames b) (at.node.number, own)) all

-- a sum of hashes in which one took the place of another
pub difference_of : (old new l k : ℕ) → k + old ≡ l + new → old ≤ 2 ^ 128 → k % 2 ^ 128 ≡ (l + (new + (2 ^ 128 - old)) % 2 ^ 128) % 2 ^ 128
difference_of old new l k is fits =
    let all : l + (new + (2 ^ 128 - old)) ≡ k + 2 ^ 128 = omega arith in
    sym (add-mod-mod l (new + (2 ^ 128 - old)) (2 ^ 128) ∙ ap (λ z. z % 2 ^ 128) all ∙ sym (add-mod-mod k (2 ^ 128) (2 ^ 128)) ∙ ap (λ z. z % 2 ^ 128) (add-zero k))

pub difference : (old new l k : ℕ) → old ≡ l → new ≡ k → old ≤ 2 ^ 128 → k % 2 ^ 128 ≡ (l + (new + (2 ^ 128 - old)) % 2 ^ 128) % 2 ^ 128
difference old new l k old_is new_is fits = difference_of old new l k (omega arith) fits

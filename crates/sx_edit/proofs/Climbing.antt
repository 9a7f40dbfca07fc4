-- From the hole up, one row after the other.
use Rattle.std.proofs.Common.{◌≡◌, ℕ, ◌*◌, arith, Bool, true, false, cond, List, [], ◌∷◌, ◌++◌, length, Option, Some, None, refl, sym, ap, subst, ◌∙◌, mul_comm, map, append_assoc}
use Rattle.std.specs.Prelude.{◌%◌, ◌^◌}
use Rattle.std.specs.Ordering.{nat_cmp, eq_by_cmp}
use Rattle.std.specs.List.{list_any}
use Rattle.std.specs.FinMap as fin
use Rattle.std.specs.FinMap.{find}
use Rattle.sx_tree.specs.declared.record.Kind.{Kind}
use Rattle.sx_tree.specs.declared.record.Step.{Step}
use Rattle.sx_model.specs.Tree.{Forest, no_trees, tree_then, numbers}
use Rattle.sx_model.specs.Holes.{Shown, Frame, around_hole, rows_before, rows_behind, shown_by, frame_row}
use Rattle.sx_model.specs.Records.{Around, around_children, NodeRow, rows}
use Rattle.sx_edit.specs.Holes.{numbers_before, AreNew, whole, frame_rows, shifted, above}
use Rattle.sx_view.specs.Records.{RecordMap}
use Rattle.sx_view.specs.Rows.{row_of}
use Rattle.sx_edit.specs.Told.{Holds, IsLifted}
use Rattle.sx_edit.proofs.Finding.{find-new, find-there, find-middle}
use Rattle.sx_edit.proofs.Shifts.{row-shift, shift-frame, alike-frame}
use Rattle.std.specs.Cmp.{nat_cmp_total}
use Rattle.std.specs.FinMap.{get-insert}
use Rattle.std.specs.Option.{option_map, ForSome}
use Rattle.sx_tree.specs.declared.record.NodeRecord.{NodeRecord}

pub map-append : {A B : Type 0} (f : A → B) (xs ys : List A) → map f (xs ++ ys) ≡ map f xs ++ map f ys
map-append f [] ys = refl
map-append f (x ∷ xs) ys = ap (λ l. f x ∷ l) (map-append f xs ys)

pub map_cond : {A B : Type 0} (f : A → B) (b : Bool) (x : A) (o : Option A) → option_map f (cond b (Some x) o) ≡ cond b (Some (f x)) (option_map f o)
map_cond f true x o = refl
map_cond f false x o = refl

module _ (local : Kind → List ℕ → ℕ) (number : List Step → ℕ) where
  pub numbers-rows : (around : Around) (xs : Forest) → map (λ e. e.0) (rows local number around xs) ≡ numbers xs
  numbers-rows around no_trees = refl
  numbers-rows around (tree_then n below rest) =
      simp (map-append, numbers-rows (around_children around n) below, numbers-rows (record around { left = Some n.number }) rest)

  pub numbers-rows_before : (frames : List Frame) (a : Shown) → map (λ e. e.0) (rows_before local number frames a) ≡ numbers_before frames
  numbers-rows_before [] a = refl
  numbers-rows_before (frame ∷ frames) a =
      simp (map-append, numbers-rows, numbers-rows_before frames (shown_by local frame a))

  -- the rows before that of the innermost frame's node
  abbrev pub earlier : List Frame → Frame → Shown → List (ℕ × NodeRow)
  earlier frames frame a = rows_before local number frames (shown_by local frame a) ++ rows local number (record (around_hole frames) { right = Some frame.node.number }) frame.before

  new-earlier : (frames : List Frame) (frame : Frame) (a : Shown) → AreNew (frame ∷ frames) → find nat_cmp frame.node.number (earlier frames frame a) ≡ None
  new-earlier frames frame a new =
      let keys : map (λ e. e.0) (earlier frames frame a) ≡ numbers_before frames ++ numbers frame.before = simp (map-append, numbers-rows, numbers-rows_before) in
      find-new (earlier frames frame a) frame.node.number (ap (list_any (eq_by_cmp nat_cmp frame.node.number)) keys ∙ new.0)

  -- the rows behind that of the innermost frame's node
  abbrev pub later : List Frame → Frame → Shown → List (ℕ × NodeRow) → List (ℕ × NodeRow)
  later frames frame a hole =
      hole ++ (rows local number (record (around_hole frames) { left = Some frame.node.number }) frame.behind ++ rows_behind local number frames (shown_by local frame a))

  pub whole-split : (frames : List Frame) (frame : Frame) (a : Shown) (hole : List (ℕ × NodeRow))
      → whole local number (frame ∷ frames) a hole ≡ earlier frames frame a ++ (frame.node.number, frame_row local number frames frame a) ∷ later frames frame a hole
  whole-split frames frame a hole = simp append_assoc

  pub whole-changed : (frames : List Frame) (frame : Frame) (a b : Shown) (hole : List (ℕ × NodeRow))
      → earlier frames frame a ++ (frame.node.number, frame_row local number frames frame b) ∷ later frames frame a hole
      ≡ whole local number frames (shown_by local frame a) (frame_rows local number frames frame b hole)
  whole-changed frames frame a b hole = simp append_assoc

  pub whole-frame : (frames : List Frame) (frame : Frame) (a : Shown) (hole : List (ℕ × NodeRow))
      → whole local number (frame ∷ frames) a hole ≡ whole local number frames (shown_by local frame a) (frame_rows local number frames frame a hole)
  whole-frame frames frame a hole = simp append_assoc

  pub parent-around_hole : (frames : List Frame) → option_map (λ m. m.number) (around_hole frames).above ≡ above frames
  parent-around_hole [] = refl
  parent-around_hole (frame ∷ frames) = refl

  -- what the records hold at the frame's node
  pub holds-get : (o : Option (RecordMap NodeRecord)) (found : Option NodeRecord) (frames : List Frame) (frame : Frame) (a : Shown) (hole : List (ℕ × NodeRow)) → AreNew (frame ∷ frames)
      → Holds o (whole local number (frame ∷ frames) a hole) → ForSome o (λ m. found ≡ fin.get m frame.node.number)
      → option_map row_of found ≡ Some (frame_row local number frames frame a)
  holds-get None found frames frame a hole new holds is = absurd holds
  holds-get (Some m) found frames frame a hole new holds is =
      ap (option_map row_of) (is m refl) ∙ holds frame.node.number ∙ ap (find nat_cmp frame.node.number) (whole-split frames frame a hole)
      ∙ find-there (earlier frames frame a) (later frames frame a hole) frame.node.number (frame_row local number frames frame a) (new-earlier frames frame a new)

  pub holds-put : (o : Option (RecordMap NodeRecord)) (r : NodeRecord) (frames : List Frame) (frame : Frame) (a b : Shown) (hole : List (ℕ × NodeRow)) → AreNew (frame ∷ frames)
      → Holds o (whole local number (frame ∷ frames) a hole) → row_of r ≡ frame_row local number frames frame b
      → Holds (option_map (λ m. fin.insert m frame.node.number r) o) (whole local number frames (shown_by local frame a) (frame_rows local number frames frame b hole))
  holds-put None r frames frame a b hole new holds is = holds
  holds-put (Some m) r frames frame a b hole new holds is = λ q.
      ap (option_map row_of) (get-insert nat_cmp_total m frame.node.number r q)
      ∙ map_cond row_of (eq_by_cmp nat_cmp q frame.node.number) r (fin.get m q)
      ∙ ap (λ w. cond (eq_by_cmp nat_cmp q frame.node.number) (Some w) (option_map row_of (fin.get m q))) is
      ∙ ap (cond (eq_by_cmp nat_cmp q frame.node.number) (Some (frame_row local number frames frame b))) (holds q ∙ ap (find nat_cmp q) (whole-split frames frame a hole))
      ∙ find-middle (earlier frames frame a) (later frames frame a hole) frame.node.number (frame_row local number frames frame a) (frame_row local number frames frame b) q (new-earlier frames frame a new)
      ∙ ap (find nat_cmp q) (whole-changed frames frame a b hole)

pub some_is : (x y : NodeRow) → Some x ≡ Some y → x ≡ y
some_is x y is = cc

pub lifted-none : (plus minus d : ℕ) (now : Option (RecordMap NodeRecord)) → IsLifted [] plus minus d now now
unfolding IsLifted
lifted-none plus minus d now local number [] was a b hole new seen shift alike holds = holds
lifted-none plus minus d now local number (frame ∷ frames) was a b hole new seen shift alike holds = absurd (let n = ap length seen in omega arith)

pub turned_there : (o : Option (RecordMap NodeRecord)) (n : ℕ) (r : NodeRecord) → ForSome o (λ m. fin.get m n ≡ Some r) → ForSome o (λ m. Some r ≡ fin.get m n)
turned_there o n r there = λ m e. sym (there m e)

pub first_is : (e x : ℕ × NodeRow) (es xs : List (ℕ × NodeRow)) → e ∷ es ≡ x ∷ xs → (e ≡ x) × (es ≡ xs)
first_is e x es xs is = (cc, cc)

-- a node got its record changed, and then those above it
pub lifted-more : (all rest : List (ℕ × NodeRow)) (n : ℕ) (w : NodeRow) (plus minus d e : ℕ) (s : NodeRecord) (before after last : Option (RecordMap NodeRecord)) → all ≡ (n, w) ∷ rest → e ≡ d * 257 % 2 ^ 128
    → row_of s ≡ shifted plus minus e w → after ≡ option_map (λ m. fin.insert m n s) before → IsLifted rest plus minus e after last → IsLifted all plus minus d before last
unfolding IsLifted
lifted-more all rest n w plus minus d e s before after last all_is e_is changed put more local number [] was a b hole new seen shift alike holds = absurd (let m = ap length (seen ∙ all_is) in omega arith)
lifted-more all rest n w plus minus d e s before after last all_is e_is changed put more local number (frame ∷ frames) was a b hole new seen shift alike holds =
    let parts = first_is _ _ _ _ (seen ∙ all_is) in
    let number_is : frame.node.number ≡ n = ap (λ (x : ℕ × NodeRow). x.0) parts.0 in
    let row_is : frame_row local number frames frame a ≡ w = ap (λ (x : ℕ × NodeRow). x.1) parts.0 in
    let swap : e ≡ 257 * d % 2 ^ 128 = e_is ∙ ap (λ z. z % 2 ^ 128) (mul_comm d 257) in
    let put_n : option_map (λ m. fin.insert m frame.node.number s) before ≡ after = (λ i. option_map (λ m. fin.insert m (number_is i) s) before) ∙ sym put in
    let row_s = changed ∙ ap (shifted plus minus e) (sym row_is) ∙ row-shift local number plus minus d e frames frame a b shift alike swap in
    subst (Holds last) (sym (whole-frame local number frames frame b hole))
    (more local number frames (shown_by local frame was) (shown_by local frame a) (shown_by local frame b) (frame_rows local number frames frame b hole) new.1 parts.1
    (shift-frame local number plus minus d e frame a b shift swap) (alike-frame local number frame a b)
    (subst (λ x. Holds x (whole local number frames (shown_by local frame was) (frame_rows local number frames frame b hole))) put_n (holds-put local number before s frames frame was b hole new holds row_s)))

-- Other trees in a hole between siblings: what is left to do once their rows are there.
use Rattle.std.proofs.Common.{◌≡◌, ℕ, List, ◌∷◌, ◌++◌, Option, refl, sym, ap, subst, ◌∙◌, append_assoc}
use Rattle.sx_tree.specs.declared.record.Kind.{Kind}
use Rattle.sx_tree.specs.declared.record.Step.{Step}
use Rattle.sx_tree.specs.declared.record.NodeRecord.{NodeRecord}
use Rattle.sx_model.specs.Tree.{Forest, beside}
use Rattle.sx_model.specs.Holes.{Shown, shown, Frame, plug, around_hole, rows_before, rows_behind}
use Rattle.sx_model.specs.Records.{Around, NodeRow, at_top, around_children, first_of, last_of, rows}
use Rattle.std.specs.Option.{option_or}
use Rattle.sx_edit.specs.Holes.{first_entry, last_entry, whole, IsAlike, AreNew}
use Rattle.sx_view.specs.Records.{RecordMap}
use Rattle.sx_edit.specs.Told.{Holds, Shows, AreDistinct, IsChanged}
use Rattle.sx_model.proofs.Holes.{first_of-beside, or_none, rows-beside, rows-plug}
use Rattle.sx_edit.proofs.Siblings.{right-changed, left-changed}
use Rattle.sx_edit.proofs.Standing.{new-whole, numbers-whole}

regroup_1 : (f b n h l : List (ℕ × NodeRow)) → f ++ ((b ++ (n ++ h)) ++ l) ≡ f ++ (b ++ ((n ++ h) ++ l))
regroup_1 f b n h l = simp append_assoc

regroup_2 : (f b n h l : List (ℕ × NodeRow)) → f ++ (b ++ ((n ++ h) ++ l)) ≡ (f ++ (b ++ n)) ++ (h ++ l)
regroup_2 f b n h l = simp append_assoc

regroup_3 : (f b n h l : List (ℕ × NodeRow)) → (f ++ (b ++ n)) ++ (h ++ l) ≡ f ++ ((b ++ (n ++ h)) ++ l)
regroup_3 f b n h l = simp append_assoc

module _ (local : Kind → List ℕ → ℕ) (number : List Step → ℕ) where
  pub refilled : (frames : List Frame) (frame : Frame) (before new behind : Forest) (a : Shown) (x y : Option ℕ)
      → (o o1 o2 after : Option (RecordMap NodeRecord))
      → let b : Shown = shown local (beside before (beside new behind)) in
      let half : Shown = record a { first = b.first; last = b.last; trees = b.trees } in
      let around : Around = around_children (around_hole frames) frame.node in
      let hole : List (ℕ × NodeRow) = rows local number around (beside before (beside new behind)) in
      Shows o (rows_before local number (frame ∷ frames) a
      ++ ((rows local number (record around { right = x }) before
      ++ (rows local number (record around { left = last_of before; right = first_of behind }) new
      ++ rows local number (record around { left = y }) behind))
      ++ rows_behind local number (frame ∷ frames) a))
      → IsChanged (last_entry local number (record around { right = x }) before) (λ w. record w { right = option_or (first_of new) (first_of behind) }) o o1
      → IsChanged (first_entry local number (record around { left = y }) behind) (λ w. record w { left = option_or (last_of new) (last_of before) }) o1 o2
      → (AreNew (frame ∷ frames) → IsAlike half b → Holds o2 (whole local number (frame ∷ frames) a hole) → Holds after (whole local number (frame ∷ frames) b hole))
      → Shows after (rows local number at_top (plug (frame ∷ frames) (beside before (beside new behind))))
  refilled frames frame before new behind a x y o o1 o2 after shows relink_left relink_right lifts =
      let b : Shown = shown local (beside before (beside new behind)) in
      let half : Shown = record a { first = b.first; last = b.last; trees = b.trees } in
      let around : Around = around_children (around_hole frames) frame.node in
      let first_rows : List (ℕ × NodeRow) = rows_before local number (frame ∷ frames) a in
      let last_rows : List (ℕ × NodeRow) = rows_behind local number (frame ∷ frames) a in
      let inside : List (ℕ × NodeRow) = rows local number (record around { left = last_of before; right = first_of behind }) new in
      let now_before : List (ℕ × NodeRow) = rows local number (record around { right = option_or (first_of new) (first_of behind) }) before in
      let now_behind : List (ℕ × NodeRow) = rows local number (record around { left = option_or (last_of new) (last_of before) }) behind in
      let shows_1 = right-changed local number (record around { right = x }) before _ o o1 first_rows _ relink_left (subst (Shows o) (regroup_1 first_rows _ inside _ last_rows) shows) in
      let shows_2 = left-changed local number (record around { left = y }) behind _ o1 o2 (first_rows ++ (now_before ++ inside)) last_rows relink_right
      (subst (Shows o1) (regroup_2 first_rows now_before inside _ last_rows) shows_1) in
      let hole : List (ℕ × NodeRow) = rows local number around (beside before (beside new behind)) in
      let hole_is : now_before ++ (inside ++ now_behind) ≡ hole = simp (first_of-beside, rows-beside, or_none) in
      let shows_hole : Shows o2 (whole local number (frame ∷ frames) a hole) =
      subst (Shows o2) (regroup_3 first_rows now_before inside now_behind last_rows ∙ ap (λ h. first_rows ++ (h ++ last_rows)) hole_is) shows_2 in
      let fresh = new-whole local number (frame ∷ frames) a hole shows_hole.distinct in
      let alike : IsAlike half b = record { first = refl; last = refl; trees = refl } in
      let all : Shows after (whole local number (frame ∷ frames) b hole) = record {
        holds = lifts fresh alike shows_hole.holds;
        distinct = subst AreDistinct (numbers-whole local number (frame ∷ frames) a b hole) shows_hole.distinct;
      } in
      subst (Shows after) (sym (rows-plug local number (frame ∷ frames) (beside before (beside new behind)))) all

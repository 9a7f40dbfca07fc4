-- What was read around a gap is what stands there.
use Rattle.std.proofs.Common.{◌≡◌, ℕ, ◌≤◌, List, ◌∷◌, ◌++◌, Option, Some, inl, inr, sym, ap, subst, arith, append_assoc}
use Rattle.std.specs.Prelude.{reverse}
use Rattle.std.specs.Option.{option_or}
use Rattle.sx_tree.specs.declared.record.Kind.{Kind}
use Rattle.sx_tree.specs.declared.record.Step.{Step}
use Rattle.sx_tree.specs.declared.record.NodeRecord.{NodeRecord}
use Rattle.sx_view.specs.Records.{RecordMap}
use Rattle.sx_model.specs.Tree.{Forest, beside, size}
use Rattle.sx_model.specs.Holes.{Frame, plug, shown, around_hole, rows_before, rows_behind}
use Rattle.sx_model.specs.Records.{Around, NodeRow, at_top, around_children, first_of, last_of, rows}
use Rattle.sx_model.proofs.Holes.{first_of-beside, or_none, rows-beside, rows-plug}
use Rattle.sx_edit.specs.declared.trees.Gap.{Gap}
use Rattle.sx_edit.specs.declared.trees.Rim.{Rim}
use Rattle.sx_edit.specs.Mend.{IsAround}
use Rattle.sx_edit.specs.Room.{CountsLevels}
use Rattle.sx_edit.specs.Seen.{CannotSurvey, IsNoSight, IsRim, IsSight}
use Rattle.sx_edit.specs.Told.{Shows}
use Rattle.sx_edit.proofs.Failing.{chain-rows}
use Rattle.sx_edit.proofs.Relabeling.{deep-plug}
use Rattle.sx_edit.proofs.Siblings.{first-there, first-told, last-there, last-told}
use Rattle.sx_edit.proofs.Standing.{new-whole}

group_left : (f b n h l : List (ℕ × NodeRow)) → f ++ ((b ++ (n ++ h)) ++ l) ≡ f ++ (b ++ ((n ++ h) ++ l))
group_left f b n h l = simp append_assoc

group_right : (f b n h l : List (ℕ × NodeRow)) → f ++ ((b ++ (n ++ h)) ++ l) ≡ (f ++ (b ++ n)) ++ (h ++ l)
group_right f b n h l = simp append_assoc

module _ (local : Kind → List ℕ → ℕ) (number : List Step → ℕ) (frames : List Frame) (frame : Frame) (before olds behind : Forest) (gap : Gap) (o : Option (RecordMap NodeRecord))
    (parent : frame.node.number ≡ gap.parent) (left : last_of before ≡ gap.left) (right : first_of behind ≡ gap.right)
    (shows : Shows o (rows local number at_top (plug (frame ∷ frames) (beside before (beside olds behind))))) where
  abbrev within : Forest
  within = beside before (beside olds behind)

  abbrev around_here : Around
  around_here = around_children (around_hole frames) frame.node

  abbrev front : List (ℕ × NodeRow)
  front = rows_before local number (frame ∷ frames) (shown local within)

  abbrev back : List (ℕ × NodeRow)
  back = rows_behind local number (frame ∷ frames) (shown local within)

  abbrev rows_left : List (ℕ × NodeRow)
  rows_left = rows local number (record around_here { right = option_or (first_of olds) (first_of behind) }) before

  abbrev rows_mid : List (ℕ × NodeRow)
  rows_mid = rows local number (record around_here { left = last_of before; right = first_of behind }) olds

  abbrev rows_right : List (ℕ × NodeRow)
  rows_right = rows local number (record around_here { left = option_or (last_of olds) (last_of before) }) behind

  all : Shows o (front ++ (rows local number (around_hole (frame ∷ frames)) within ++ back))
  all = subst (Shows o) (rows-plug local number (frame ∷ frames) within) shows

  parts : Shows o (front ++ ((rows_left ++ (rows_mid ++ rows_right)) ++ back))
  parts =
      let hole_is : rows_left ++ (rows_mid ++ rows_right) ≡ rows local number around_here within = simp (first_of-beside, rows-beside, or_none) in
      subst (λ h. Shows o (front ++ (h ++ back))) (sym hole_is) all

  shows_left : Shows o (front ++ (rows_left ++ ((rows_mid ++ rows_right) ++ back)))
  shows_left = subst (Shows o) (group_left front rows_left rows_mid rows_right back) parts

  shows_right : Shows o ((front ++ (rows_left ++ rows_mid)) ++ (rows_right ++ back))
  shows_right = subst (Shows o) (group_right front rows_left rows_mid rows_right back) parts

  pub around-of : (rim : Rim) → IsRim o gap rim → IsAround local number frames frame before olds behind rim
  around-of rim is = record {
    left = last-told local number (record around_here { right = option_or (first_of olds) (first_of behind) }) before rim.left o front ((rows_mid ++ rows_right) ++ back) shows_left (subst (λ k. IsSight o k rim.left) (sym left) is.left);
    right = first-told local number (record around_here { left = option_or (last_of olds) (last_of before) }) behind rim.right o (front ++ (rows_left ++ rows_mid)) back shows_right (subst (λ k. IsSight o k rim.right) (sym right) is.right);
    above = chain-rows local number (frame ∷ frames) (shown local within) (rows local number (around_hole (frame ∷ frames)) within) (Some gap.parent) (rim.parent ∷ reverse rim.above.items) o
        (new-whole local number (frame ∷ frames) (shown local within) (rows local number (around_hole (frame ∷ frames)) within) all.distinct) (ap (λ k. Some k) parent) all.holds is.above;
  }

  pub survey-cannot : (next : ℕ) → size (plug (frame ∷ frames) within) ≤ next → CannotSurvey next gap o → ⊥
  unfolding CountsLevels
  survey-cannot next few (inl none) = last-there local number (record around_here { right = option_or (first_of olds) (first_of behind) }) before o front ((rows_mid ++ rows_right) ++ back) shows_left (subst (IsNoSight o) (sym left) none)
  survey-cannot next few (inr (inl none)) = first-there local number (record around_here { left = option_or (last_of olds) (last_of before) }) behind o (front ++ (rows_left ++ rows_mid)) back shows_right (subst (IsNoSight o) (sym right) none)
  survey-cannot next few (inr (inr counts)) =
      let deep = deep-plug (frame ∷ frames) within in
      let none = counts local number (frame ∷ frames) (shown local within) (rows local number (around_hole (frame ∷ frames)) within)
      (new-whole local number (frame ∷ frames) (shown local within) (rows local number (around_hole (frame ∷ frames)) within) all.distinct) (ap (λ k. Some k) parent) (omega (arith, deep, few)) all.holds in
      cc

-- Over the rows of trees nothing is damaged.
use Rattle.std.proofs.Common.{◌≡◌, ℕ, ◌+◌, ◌<◌, ◌≤◌, length, List, [], ◌∷◌, Option, Some, None, refl, sym, ap, subst, ◌∙◌, arith}
use Rattle.std.specs.Prelude.{◌^◌}
use Rattle.sx_model.specs.Holes.{Shown, Frame, shown_by, frame_row}
use Rattle.sx_model.specs.Records.{NodeRow}
use Rattle.sx_edit.specs.Holes.{AreNew, above, top_shown, frame_rows, rows_above, whole}
use Rattle.sx_edit.specs.Seen.{IsChain, entries_of}
use Rattle.sx_edit.specs.declared.trees.Seen.{Seen}
use Rattle.sx_view.specs.Records.{RecordMap}
use Rattle.sx_view.specs.Rows.{row_of}
use Rattle.sx_edit.specs.Told.{Holds, CannotLift}
use Rattle.sx_edit.proofs.Climbing.{first_is, holds-get, parent-around_hole, some_is, whole-frame}
use Rattle.std.specs.Option.{option_map, ForSome}
use Rattle.std.specs.FinMap as fin
use Rattle.sx_tree.specs.declared.record.Kind.{Kind}
use Rattle.sx_tree.specs.declared.record.Step.{Step}
use Rattle.sx_tree.specs.declared.record.NodeRecord.{NodeRecord}

big_top : (local : Kind → List ℕ → ℕ) (frames : List Frame) (a : Shown) → a.nodes ≤ (top_shown local frames a).nodes
big_top local [] a = omega arith
big_top local (frame ∷ frames) a = omega (arith, big_top local frames (shown_by local frame a))

-- what the record of the node above the hole is
pub known : (n : ℕ) (o : Option (RecordMap NodeRecord)) (found : Option NodeRecord) (local : Kind → List ℕ → ℕ) (number : List Step → ℕ) (frames : List Frame) (frame : Frame) (a : Shown) (hole : List (ℕ × NodeRow))
    → ForSome o (λ m. fin.get m n ≡ found) → AreNew (frame ∷ frames) → frame.node.number ≡ n → Holds o (whole local number (frame ∷ frames) a hole)
    → option_map row_of found ≡ Some (frame_row local number frames frame a)
known n o found local number frames frame a hole there new same holds =
    let at_frame : ForSome o (λ m. found ≡ fin.get m frame.node.number) = rw same (λ m e. sym (there m e)) in
    holds-get local number o found frames frame a hole new holds at_frame

pub cannot-count : (all rest : List (ℕ × NodeRow)) (n : ℕ) (w : NodeRow) (plus minus : ℕ) → all ≡ (n, w) ∷ rest → (minus ≤ w.descendants + plus → w.descendants + plus < 2 ^ 32 → ⊥) → CannotLift all plus minus
unfolding CannotLift
cannot-count all rest n w plus minus all_is wrong local number [] a seen room enough = absurd (let m = ap length (seen ∙ all_is) in omega arith)
cannot-count all rest n w plus minus all_is wrong local number (frame ∷ frames) a seen room enough =
    let parts = first_is _ _ _ _ (seen ∙ all_is) in
    let count : w.descendants ≡ a.nodes = sym (ap (λ (x : ℕ × NodeRow). x.1.descendants) parts.0) in
    let top = big_top local (frame ∷ frames) a in
    wrong (omega (arith, count)) (omega (arith, count, top))

pub cannot-above : (all rest : List (ℕ × NodeRow)) (n : ℕ) (w : NodeRow) (plus minus : ℕ) → all ≡ (n, w) ∷ rest → CannotLift rest plus minus → CannotLift all plus minus
unfolding CannotLift
cannot-above all rest n w plus minus all_is more local number [] a seen room enough = absurd (let m = ap length (seen ∙ all_is) in omega arith)
cannot-above all rest n w plus minus all_is more local number (frame ∷ frames) a seen room enough =
    let parts = first_is _ _ _ _ (seen ∙ all_is) in
    more local number frames (shown_by local frame a) parts.1 room (omega arith)

-- the rows of the nodes above a hole, as they were read
pub chain-rows : (local : Kind → List ℕ → ℕ) (number : List Step → ℕ) (frames : List Frame) (a : Shown) (hole : List (ℕ × NodeRow)) (node : Option ℕ) (seens : List Seen) (o : Option (RecordMap NodeRecord))
    → AreNew frames → above frames ≡ node → Holds o (whole local number frames a hole) → IsChain o node seens → rows_above local number frames a ≡ entries_of seens
chain-rows local number [] a hole node [] o new up holds chain = refl
chain-rows local number [] a hole node (seen ∷ seens) o new up holds chain = absurd (let e : Some seen.node ≡ None = sym chain.0 ∙ sym up in cc)
chain-rows local number (frame ∷ frames) a hole node [] o new up holds chain = absurd (let e : Some frame.node.number ≡ None = up ∙ chain in cc)
chain-rows local number (frame ∷ frames) a hole node (seen ∷ seens) o new up holds chain =
    let e : Some frame.node.number ≡ Some seen.node = up ∙ chain.0 in
    let same : frame.node.number ≡ seen.node = cc in
    let row = some_is _ _ (known seen.node o (Some seen.record) local number frames frame a hole chain.1 new same holds) in
    let parent : above frames ≡ seen.record.parent = sym (ap (λ (w : NodeRow). w.parent) row ∙ parent-around_hole local number frames) in
    let others = chain-rows local number frames (shown_by local frame a) (frame_rows local number frames frame a hole) seen.record.parent seens o new.1 parent (subst (Holds o) (whole-frame local number frames frame a hole) holds) chain.2 in
    λ i. (same i, sym row i) ∷ others i

pub length-rows_above : (local : Kind → List ℕ → ℕ) (number : List Step → ℕ) (frames : List Frame) (a : Shown) → length (rows_above local number frames a) ≡ length frames
length-rows_above local number [] a = refl
length-rows_above local number (frame ∷ frames) a = omega (arith, length-rows_above local number frames (shown_by local frame a))

-- Nodes that are read one behind another.
use Rattle.std.proofs.Common.{◌≡◌, ℕ, ◌+◌, ◌<◌, ◌≤◌, List, [], ◌∷◌, ◌++◌, length, Some, refl, sym, ap, ◌∙◌, arith, subst}
use Rattle.std.specs.Prelude.{flat_map}
use Rattle.std.specs.List.{AllByRecursion}
use Rattle.std.specs.FinMap as fin
use Rattle.std.proofs.lemmas.List.{length-append}
use Rattle.sx_tree.specs.declared.record.NodeRecord.{NodeRecord}
use Rattle.sx_record.specs.Spelling.{IsNode}
use Rattle.sx_view.specs.Records.{RecordMap}
use Rattle.sx_whole.specs.Body.{AscendFrom, after_last, node_entry}
use Rattle.sx_whole.proofs.Lists.{read_more, entries-put, entries-none}

pub ascend-le : (least : ℕ) (es : List (ℕ × NodeRecord)) → AscendFrom least es → least ≤ after_last least es
ascend-le least [] up = omega arith
ascend-le least (e ∷ es) up = let rest = ascend-le (e.0 + 1) es up.3 in let here = up.0 in omega arith

ascend-more : (least : ℕ) (es : List (ℕ × NodeRecord)) (e : ℕ × NodeRecord) → AscendFrom least es → after_last least es ≤ e.0 → e.0 < 1_073_741_824 → IsNode e.1
    → AscendFrom least (es ++ e ∷ [])
ascend-more least [] e up above small is = (above, small, is, tt)
ascend-more least (d ∷ es) e up above small is = (up.0, up.1, up.2, ascend-more (d.0 + 1) es e up.3 above small is)

after-more : (least : ℕ) (es : List (ℕ × NodeRecord)) (e : ℕ × NodeRecord) → after_last least (es ++ e ∷ []) ≡ e.0 + 1
after-more least [] e = refl
after-more least (d ∷ es) e = after-more (d.0 + 1) es e

ascend-below : (least n : ℕ) (es : List (ℕ × NodeRecord)) → AscendFrom least es → after_last least es ≤ n → AllByRecursion (λ e. e.0 < n) es
ascend-below least n [] up above = tt
ascend-below least n (e ∷ es) up above = let rest = ascend-le (e.0 + 1) es up.3 in (omega arith, ascend-below (e.0 + 1) n es up.3 above)

-- These nodes were read from the bytes, and these bytes are left: the least number that may follow, and how many there are.
pub record NodesRead (bytes left : List ℕ) (nodes : List (ℕ × NodeRecord)) (least count : ℕ) : Type 0 where
  pub bytes_are : bytes ≡ flat_map node_entry nodes ++ left
  pub ascend : AscendFrom 0 nodes
  pub least_is : after_last 0 nodes ≡ least
  pub count_is : length nodes ≡ count

pub nodes-start : (bytes : List ℕ) (new : RecordMap NodeRecord) → Some new ≡ Some fin.empty → NodesRead bytes bytes (fin.entries new) 0 0
nodes-start bytes new told =
    let P : List (ℕ × NodeRecord) → Type 0 = λ nodes. NodesRead bytes bytes nodes 0 0 in
    subst P (sym (entries-none new told)) (record { bytes_are = refl; ascend = tt; least_is = refl; count_is = refl })

pub nodes-more : (bytes left rest : List ℕ) (old new : RecordMap NodeRecord) (e : ℕ × NodeRecord) (least count : ℕ) → NodesRead bytes left (fin.entries old) least count
    → left ≡ node_entry e ++ rest → (least ≤ e.0) × (e.0 < 1_073_741_824) → IsNode e.1 → Some new ≡ Some (fin.insert old e.0 e.1)
    → NodesRead bytes rest (fin.entries new) (e.0 + 1) (count + 1)
nodes-more bytes left rest old new e least count before next fits is told =
    let P : List (ℕ × NodeRecord) → Type 0 = λ nodes. NodesRead bytes rest nodes (e.0 + 1) (count + 1) in
    let above : after_last 0 (fin.entries old) ≤ e.0 = let at_least = fits.0 in let is_least = before.least_is in omega arith in
    let counted : length (fin.entries old ++ e ∷ []) ≡ count + 1 = length-append (fin.entries old) (e ∷ []) ∙ ap (λ (n : ℕ). n + 1) before.count_is in
    subst P (sym (entries-put old new e.0 e.1 told (ascend-below 0 e.0 (fin.entries old) before.ascend above)))
    (record {
      bytes_are = read_more node_entry (fin.entries old) e bytes left rest before.bytes_are next;
      ascend = ascend-more 0 (fin.entries old) e before.ascend above fits.1 is;
      least_is = after-more 0 (fin.entries old) e;
      count_is = counted;
    })

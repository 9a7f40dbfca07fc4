-- Cells are placed one behind another.
use Rattle.std.proofs.Common.{◌≡◌, ◌∙◌, ℕ, ◌+◌, ◌*◌, ◌≤◌, List, [], ◌∷◌, ◌++◌, map, drop, refl, ap, sym, subst, arith, append_assoc, Option, None, Some, IfSome}
use Rattle.std.specs.Prelude.{slice_get}
use Rattle.std.specs.List.{AllByRecursion}
use Rattle.sx_frame.specs.declared.table.FrameRow.{FrameRow}
use Rattle.sx_log.specs.declared.log.GroupRow.{GroupRow}
use Rattle.sx_reader.specs.Cells.{IsCell, LieBelow, Placed, StartBelow, TellPieces, TellsPiece, placed, placed_from, placed_in}
use Rattle.sx_reader.specs.declared.cell.Cell.{Cell}
use Rattle.sx_reader.proofs.Checking.{all-back, all-front, all-push, drop-next}
use Rattle.sx_volume.specs.Held.{LiesInHeld}
use Rattle.sx_volume.specs.declared.spot.Spot.{Ghosts}

pub map-append : {A B : Type 0} (f : A → B) (xs ys : List A) → map f (xs ++ ys) ≡ map f xs ++ map f ys
map-append f [] ys = refl
map-append f (x ∷ xs) ys = ap (λ l. f x ∷ l) (map-append f xs ys)

pub placed-next : {S : Type 0} (old new : List (Cell S)) (cell : Cell S) (row : FrameRow) (place : ℕ) (table : List FrameRow) (i : ℕ) (all : List Placed) → slice_get table i ≡ Some row
    → new ≡ old ++ cell ∷ [] → cell.place ≡ place → cell.row ≡ row → map placed old ++ placed_from place (drop i table) ≡ all
    → map placed new ++ placed_from (place + row.bytes) (drop (i + 1) table) ≡ all
placed-next old new cell row place table i all there is at own before =
    let rest : List Placed = placed_from (place + row.bytes) (drop (i + 1) table) in
    let here : placed cell ≡ (place, row) = cc (at, own) in
    ap (λ (l : List (Cell _)). map placed l ++ rest) is
    ∙ ap (λ (l : List Placed). l ++ rest) (map-append placed old (cell ∷ []))
    ∙ append_assoc (map placed old) (placed cell ∷ []) rest
    ∙ ap (λ (p : Placed). map placed old ++ p ∷ rest) here
    ∙ ap (λ (t : List FrameRow). map placed old ++ placed_from place t) (sym (drop-next table i row there))
    ∙ before

pub below-next : (end place i : ℕ) (row : FrameRow) (table : List FrameRow) → slice_get table i ≡ Some row → LieBelow end (placed_from place (drop i table))
    → (place + row.bytes ≤ end) × (5 ≤ row.bytes) × LieBelow end (placed_from (place + row.bytes) (drop (i + 1) table))
below-next end place i row table there below =
    let parts = subst (λ (t : List FrameRow). LieBelow end (placed_from place t)) (drop-next table i row there) below in
    (parts.0.0, parts.0.1, parts.1)

pub cell-next : {S : Type 0} (g : Ghosts S) (old new : List (Cell S)) (cell : Cell S) (row : FrameRow) → new ≡ old ++ cell ∷ [] → cell.row ≡ row → g.count cell.spot ≡ row.bytes → 5 ≤ row.bytes
    → AllByRecursion (IsCell g) old → AllByRecursion (IsCell g) new
cell-next g old new cell row is own count least each =
    let bytes : cell.row.bytes ≡ row.bytes = ap (λ (r : FrameRow). r.bytes) own in
    subst (λ (l : List (Cell _)). AllByRecursion (IsCell g) l) (sym is) (all-push (IsCell g) old cell each (record { count = count ∙ sym bytes; least = subst (λ (n : ℕ). 5 ≤ n) (sym bytes) least }))

pub told-next : {S : Type 0} (g : Ghosts S) (bytes : Option (List ℕ)) (old new : List (Cell S)) (cell : Cell S) → new ≡ old ++ cell ∷ [] → IfSome bytes (λ all. TellsPiece g all cell)
    → TellPieces g bytes old → TellPieces g bytes new
told-next g None old new cell is here told = told
told-next g (Some all) old new cell is here told =
    subst (λ (l : List (Cell _)). AllByRecursion (TellsPiece g all) l) (sym is) (all-push (TellsPiece g all) old cell told here)

pub placed-group : (rows : List GroupRow) (i : ℕ) (row : GroupRow) (old new all : List Placed) → slice_get rows i ≡ Some row
    → new ≡ old ++ placed_from (row.place + (80 + 36 * row.root.frames)) row.table → old ++ placed_in (drop i rows) ≡ all → new ++ placed_in (drop (i + 1) rows) ≡ all
placed-group rows i row old new all there is before =
    let rest : List Placed = placed_in (drop (i + 1) rows) in
    let own : List Placed = placed_from (row.place + (80 + 36 * row.root.frames)) row.table in
    ap (λ (l : List Placed). l ++ rest) is ∙ append_assoc old own rest
    ∙ ap (λ (l : List GroupRow). old ++ placed_in l) (sym (drop-next rows i row there)) ∙ before

pub below-group : (end i : ℕ) (row : GroupRow) (rows : List GroupRow) → slice_get rows i ≡ Some row → LieBelow end (placed_in (drop i rows))
    → LieBelow end (placed_from (row.place + (80 + 36 * row.root.frames)) row.table) × LieBelow end (placed_in (drop (i + 1) rows))
below-group end i row rows there below =
    let own : List Placed = placed_from (row.place + (80 + 36 * row.root.frames)) row.table in
    let rest : List Placed = placed_in (drop (i + 1) rows) in
    let parts = subst (λ (l : List GroupRow). LieBelow end (placed_in l)) (drop-next rows i row there) below in
    (all-front _ own rest parts, all-back _ own rest parts)

-- a frame does not lie in a piece of no bytes
pub told-outside : {S : Type 0} (g : Ghosts S) (bytes : Option (List ℕ)) (held : Option (ℕ × List ℕ)) (place count : ℕ) (cell : Cell S) → held ≡ Some (0, []) → 5 ≤ count
    → IfSome bytes (λ all. (LiesInHeld held place count → ⊥) → TellsPiece g all cell) → IfSome bytes (λ all. TellsPiece g all cell)
told-outside g None held place count cell is long told = told
told-outside g (Some all) held place count cell is long told = told (λ lies. outside (subst (λ (h : Option (ℕ × List ℕ)). LiesInHeld h place count) is lies))
  where
    outside : LiesInHeld (Some (0, [])) place count → ⊥
    outside (from, to) = omega (arith, to, long)

pub starts-group : (end i : ℕ) (row : GroupRow) (rows : List GroupRow) → slice_get rows i ≡ Some row → StartBelow end (drop i rows)
    → (row.place + (80 + 36 * row.root.frames) ≤ end) × StartBelow end (drop (i + 1) rows)
starts-group end i row rows there starts = subst (StartBelow end) (drop-next rows i row there) starts

-- What records tell of the nodes of trees that they show.
use Rattle.std.proofs.Common.{◌≡◌, ℕ, Bool, true, false, List, [], ◌∷◌, ◌++◌, map, Option, Some, None, refl, sym, ap, subst, ◌∙◌, append_assoc, arith}
use Rattle.std.specs.Ordering.{nat_cmp}
use Rattle.std.specs.FinMap.{find}
use Rattle.std.proofs.lemmas.Bool.{false≢true}
use Rattle.std.proofs.lemmas.Grind.{common_steps}
use Rattle.sx_tree.specs.declared.record.Kind.{Kind}
use Rattle.sx_tree.specs.declared.record.NodeRecord.{NodeRecord}
use Rattle.sx_tree.specs.declared.record.Step.{Step}
use Rattle.sx_view.specs.Records.{RecordMap}
use Rattle.sx_model.specs.Holes.{Frame, plug, shown, around_hole, rows_before, rows_behind}
use Rattle.sx_model.specs.Records.{NodeRow, Around, at_top, around_children, rows}
use Rattle.sx_model.specs.Tree.{Node, Forest, no_trees, tree_then, beside, numbers, AreDistinctNumbers, Spot, spot}
use Rattle.sx_model.proofs.Holes.{rows-beside, rows-plug}
use Rattle.sx_model.proofs.Spots.{has, distinct_apart, spot_stands, no_spot}
use Rattle.sx_cursor.specs.Told.{Tells, Holds, Shows, TellsAll, row_there}

-- ---- entries of lists

abbrev keys : List (ℕ × NodeRow) → List ℕ
keys entries = map (λ e. e.0) entries

find-new : (es : List (ℕ × NodeRow)) (k : ℕ) → has (keys es) k ≡ false → find nat_cmp k es ≡ None
find-new [] k new = refl
find-new (e ∷ es) k new = grind (arith, common_steps, find-new es k)

find-absent : (es : List (ℕ × NodeRow)) (k : ℕ) → find nat_cmp k es ≡ None → has (keys es) k ≡ false
find-absent [] k none = refl
find-absent (e ∷ es) k none = grind (arith, common_steps, find-absent es k)

find-there : (xs ys : List (ℕ × NodeRow)) (k : ℕ) (w : NodeRow) → find nat_cmp k xs ≡ None → find nat_cmp k (xs ++ (k, w) ∷ ys) ≡ Some w
find-there [] ys k w none = grind (arith, common_steps)
find-there (x ∷ xs) ys k w none = grind (arith, common_steps, find-there xs ys k w)

keys-append : (xs ys : List (ℕ × NodeRow)) → keys (xs ++ ys) ≡ keys xs ++ keys ys
keys-append [] ys = refl
keys-append (x ∷ xs) ys = ap (λ l. x.0 ∷ l) (keys-append xs ys)

-- a number among distinct ones is not before itself
not_before : (xs ys : List ℕ) (k : ℕ) → AreDistinctNumbers (xs ++ k ∷ ys) → has xs k ≡ false
not_before xs ys k distinct = by (has xs k) refl
  where
    by : (b : Bool) → has xs k ≡ b → b ≡ false
    by false is = refl
    by true is =
        let apart = distinct_apart xs (k ∷ ys) k distinct is in
        absurd (false≢true (sym apart ∙ grind (arith, common_steps)))

pub numbers-rows : (local : Kind → List ℕ → ℕ) (number : List Step → ℕ) (around : Around) (trees : Forest) → keys (rows local number around trees) ≡ numbers trees
numbers-rows local number around no_trees = refl
numbers-rows local number around (tree_then n below rest) =
    ap (λ l. n.number ∷ l)
    (keys-append (rows local number (around_children around n) below) _
    ∙ λ i. numbers-rows local number (around_children around n) below i ++ numbers-rows local number (record around { left = Some n.number }) rest i)

-- ---- rows that are told

pub tells-parts : (o : Option (RecordMap NodeRecord)) (xs ys : List (ℕ × NodeRow)) → TellsAll o (xs ++ ys) → TellsAll o xs × TellsAll o ys
tells-parts o [] ys tells = (tt, tells)
tells-parts o (x ∷ xs) ys tells =
    let parts = tells-parts o xs ys tells.1 in
    ((tells.0, parts.0), parts.1)

holds-tells : (m : RecordMap NodeRecord) (xs ys : List (ℕ × NodeRow)) → Holds (Some m) (xs ++ ys) → AreDistinctNumbers (keys (xs ++ ys)) → TellsAll (Some m) ys
holds-tells m xs [] holds distinct = tt
holds-tells m xs (e ∷ ys) holds distinct =
    let new = find-new xs e.0 (not_before (keys xs) (keys ys) e.0 (subst AreDistinctNumbers (keys-append xs (e ∷ ys)) distinct)) in
    let moved : (xs ++ e ∷ []) ++ ys ≡ xs ++ e ∷ ys = append_assoc xs (e ∷ []) ys in (
      sym (holds e.0 ∙ find-there xs ys e.0 e.1 new),
      holds-tells m (xs ++ e ∷ []) ys (subst (Holds (Some m)) (sym moved) holds) (subst (λ l. AreDistinctNumbers (keys l)) (sym moved) distinct),
    )

-- what is told twice is the same
pub tells-once : (m : RecordMap NodeRecord) (k : ℕ) (v w : Option NodeRow) → Tells (Some m) k v → Tells (Some m) k w → v ≡ w
tells-once m k v w one other = one ∙ sym other

pub some_number : (m k : ℕ) → Some m ≡ Some k → m ≡ k
some_number m k is = cc

pub some_is : (v w : NodeRow) → Some v ≡ Some w → v ≡ w
some_is v w is = cc

module _ (local : Kind → List ℕ → ℕ) (number : List Step → ℕ) where
  pub shows-tells : (trees : Forest) (o : Option (RecordMap NodeRecord)) → Shows local number trees o → TellsAll o (rows local number at_top trees)
  shows-tells trees None shows = absurd shows.holds
  shows-tells trees (Some m) shows =
      holds-tells m [] (rows local number at_top trees) shows.holds (subst AreDistinctNumbers (sym (numbers-rows local number at_top trees)) shows.well_formed.distinct)

  -- the rows of trees in a hole with a node among them
  rows-there : (frames : List Frame) (before : Forest) (n : Node) (below behind : Forest) → rows local number at_top (plug frames (beside before (tree_then n below behind)))
      ≡ (rows_before local number frames (shown local (beside before (tree_then n below behind))) ++ rows local number (record (around_hole frames) { right = Some n.number }) before)
      ++ (n.number, row_there local number frames before n below behind)
      ∷ (rows local number (around_children (around_hole frames) n) below
      ++ (rows local number (record (around_hole frames) { left = Some n.number }) behind
      ++ rows_behind local number frames (shown local (beside before (tree_then n below behind)))))
  rows-there frames before n below behind = rows-plug local number frames (beside before (tree_then n below behind)) ∙ simp (rows-beside, append_assoc)

  -- What is told of a node by where it stands, of those before it, below it and behind it.
  pub record IsTold (o : Option (RecordMap NodeRecord)) (frames : List Frame) (before : Forest) (n : Node) (below behind : Forest) : Type 0 where
    pub here : Tells o n.number (Some (row_there local number frames before n below behind))
    pub aside : TellsAll o (rows local number (record (around_hole frames) { right = Some n.number }) before)
    pub under : TellsAll o (rows local number (around_children (around_hole frames) n) below)
    pub beyond : TellsAll o (rows local number (record (around_hole frames) { left = Some n.number }) behind)

  pub told : (o : Option (RecordMap NodeRecord)) (frames : List Frame) (before : Forest) (n : Node) (below behind : Forest)
      → TellsAll o (rows local number at_top (plug frames (beside before (tree_then n below behind)))) → IsTold o frames before n below behind
  told o frames before n below behind tells =
      let front_rows : List (ℕ × NodeRow) = rows_before local number frames (shown local (beside before (tree_then n below behind))) in
      let two = tells-parts o (front_rows ++ rows local number (record (around_hole frames) { right = Some n.number }) before) _ (subst (TellsAll o) (rows-there frames before n below behind) tells) in
      let front = tells-parts o front_rows _ two.0 in
      let back = tells-parts o (rows local number (around_children (around_hole frames) n) below) _ two.1.1 in
      let far = tells-parts o (rows local number (record (around_hole frames) { left = Some n.number }) behind) _ back.1 in
      record { here = two.1.0; aside = front.1; under = back.0; beyond = far.0 }

  -- where the node of this number and row stands in trees that the records show
  pub record IsAt (trees : Forest) (o : Option (RecordMap NodeRecord)) (k : ℕ) (w : NodeRow) : Type 0 where
    pub spot_of : Spot
    pub spot_is : spot k trees ≡ Some spot_of
    pub frames : List Frame
    pub before : Forest
    pub behind : Forest
    pub trees_are : trees ≡ plug frames (beside before (tree_then spot_of.node spot_of.below behind))
    pub number_is : spot_of.node.number ≡ k
    pub row_is : row_there local number frames before spot_of.node spot_of.below behind ≡ w
    pub tells : TellsAll o (rows local number at_top (plug frames (beside before (tree_then spot_of.node spot_of.below behind))))

  absent : (trees : Forest) (m : RecordMap NodeRecord) (k : ℕ) (found : Option NodeRow) → Shows local number trees (Some m) → Tells (Some m) k found → has (numbers trees) k ≡ false → found ≡ None
  absent trees m k found shows is new =
      is ∙ shows.holds k ∙ find-new (rows local number at_top trees) k (ap (λ l. has l k) (numbers-rows local number at_top trees) ∙ new)

  -- a node of which no record is told is not in the trees
  pub not_there : (trees : Forest) (o : Option (RecordMap NodeRecord)) (k : ℕ) → Shows local number trees o → Tells o k None → has (numbers trees) k ≡ false
  not_there trees None k shows is = absurd shows.holds
  not_there trees (Some m) k shows is =
      ap (λ l. has l k) (sym (numbers-rows local number at_top trees)) ∙ find-absent (rows local number at_top trees) k (sym (shows.holds k) ∙ sym is)

  pub is_at : (trees : Forest) (o : Option (RecordMap NodeRecord)) (k : ℕ) (w : NodeRow) → Shows local number trees o → Tells o k (Some w) → IsAt trees o k w
  is_at trees None k w shows is = absurd shows.holds
  is_at trees (Some m) k w shows is = by (spot k trees) refl
    where
      by : (s : Option Spot) → spot k trees ≡ s → IsAt trees (Some m) k w
      by None none = absurd (cc (absent trees m k (Some w) shows is (no_spot k trees shows.well_formed.distinct none)))
      by (Some s) some =
          let found = spot_stands k trees s shows.well_formed.distinct some in
          let tells = subst (λ t. TellsAll (Some m) (rows local number at_top t)) found.trees_are (shows-tells trees (Some m) shows) in
          let own = (told (Some m) found.frames found.before s.node s.below found.behind tells).here in
          record {
            spot_of = s;
            spot_is = some;
            frames = found.frames;
            before = found.before;
            behind = found.behind;
            trees_are = found.trees_are;
            number_is = found.number_is;
            row_is = some_is _ _ (tells-once m k _ _ (subst (λ q. Tells (Some m) q (Some (row_there local number found.frames found.before s.node s.below found.behind))) found.number_is own) is);
            tells = tells;
          }

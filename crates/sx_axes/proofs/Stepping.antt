-- One read on through trees in preorder.
use Rattle.std.proofs.Common.{◌≡◌, ℕ, suc, ◌+◌, ◌-◌, ◌<◌, ◌≤◌, Bool, true, false, List, [], ◌∷◌, ◌++◌, length, Option, Some, None, refl, sym, ap, subst, ◌∙◌, append_assoc, add-one, arith}
use Rattle.std.specs.Option.{option_or}
use Rattle.sx_tree.specs.declared.record.Kind.{Kind}
use Rattle.sx_tree.specs.declared.record.NodeRecord.{NodeRecord}
use Rattle.sx_tree.specs.declared.record.Step.{Step}
use Rattle.sx_view.specs.Records.{RecordMap}
use Rattle.sx_model.specs.Holes.{Frame, plug}
use Rattle.sx_model.specs.Records.{NodeRow, at_top, first_of, last_of, rows}
use Rattle.sx_model.specs.Tree.{Node, Forest, no_trees, tree_then, beside, numbers}
use Rattle.sx_model.proofs.Holes.{or_none}
use Rattle.sx_model.proofs.Spots.{beside_assoc}
use Rattle.sx_cursor.specs.Told.{Tells, TellsAll, row_there}
use Rattle.sx_cursor.proofs.Leading.{around-left, around-right}
use Rattle.sx_cursor.proofs.Telling.{told, tells-once, some_is, some_number}
use Rattle.sx_axes.specs.Course.{Onward, IsAhead, Takes, above_hole, behind_hole}

-- the rest of a list behind these numbers, and the visits that it takes
pub record IsRest (Is : Onward → List ℕ → ℕ → Type 0) (these listed : List ℕ) (visits taken : ℕ) (on : Onward) : Type 0 where
  pub rest : List ℕ
  pub more : ℕ
  pub lists : listed ≡ these ++ rest
  pub left : Is on rest more
  pub takes : more + taken ≡ visits

-- ---- what is told of a node in a hole

-- the links of a node by where it stands
pub record AreLinks (frames : List Frame) (before below behind : Forest) (w : NodeRow) : Type 0 where
  pub parent : w.parent ≡ above_hole frames
  pub left : w.left ≡ last_of before
  pub right : w.right ≡ first_of behind
  pub first : w.first ≡ first_of below
  pub last : w.last ≡ last_of below

module _ (local : Kind → List ℕ → ℕ) (number : List Step → ℕ) (m : RecordMap NodeRecord) where
  abbrev pub IsTold : List Frame → Forest → Type 0
  IsTold frames inside = TellsAll (Some m) (rows local number at_top (plug frames inside))

  pub told_there : (frames : List Frame) (before : Forest) (n : Node) (below behind : Forest) (k : ℕ)
      → IsTold frames (beside before (tree_then n below behind)) → n.number ≡ k → Tells (Some m) k (Some (row_there local number frames before n below behind))
  told_there frames before n below behind k tells same =
      subst (λ q. Tells (Some m) q (Some (row_there local number frames before n below behind))) same (told local number (Some m) frames before n below behind tells).here

  pub not_absent : (frames : List Frame) (before : Forest) (n : Node) (below behind : Forest) (k : ℕ)
      → IsTold frames (beside before (tree_then n below behind)) → n.number ≡ k → Tells (Some m) k None → ⊥
  not_absent frames before n below behind k tells same absent =
      absurd (cc (tells-once m k (Some (row_there local number frames before n below behind)) None (told_there frames before n below behind k tells same) absent))

  pub links : (frames : List Frame) (before : Forest) (n : Node) (below behind : Forest) (k : ℕ) (w : NodeRow)
      → IsTold frames (beside before (tree_then n below behind)) → n.number ≡ k → Tells (Some m) k (Some w) → AreLinks frames before below behind w
  links frames before n below behind k w tells same there =
      let is : w ≡ row_there local number frames before n below behind = some_is _ _ (tells-once m k _ _ there (told_there frames before n below behind k tells same)) in
      record {
        parent = ap (λ x. x.parent) is;
        left = ap (λ x. x.left) is ∙ ap (option_or (last_of before)) (around-left frames) ∙ or_none (last_of before);
        right = ap (λ x. x.right) is ∙ ap (option_or (first_of behind)) (around-right frames) ∙ or_none (first_of behind);
        first = ap (λ x. x.first) is;
        last = ap (λ x. x.last) is;
      }

  pub moved : (frames : List Frame) (before : Forest) (n : Node) (below behind : Forest)
      → IsTold frames (beside before (tree_then n below behind)) → IsTold frames (beside (beside before (tree_then n below no_trees)) behind)
  moved frames before n below behind tells = subst (IsTold frames) (sym (beside_assoc before (tree_then n below no_trees) behind)) tells

no_first : (trees : Forest) → first_of trees ≡ None → trees ≡ no_trees
no_first no_trees none = refl
no_first (tree_then n below rest) none = absurd cc

pub some_above : (frames : List Frame) (p : ℕ) → above_hole frames ≡ Some p → frames ≡ [] → ⊥
some_above [] p is none = absurd cc
some_above (frame ∷ frames) p is none = absurd cc

pub no_above : (frames : List Frame) → above_hole frames ≡ None → frames ≡ []
no_above [] none = refl
no_above (frame ∷ frames) none = absurd cc

-- ---- the numbers behind a hole

behind-free : (to_end : Bool) (less : ℕ) (frame : Frame) (frames : List Frame)
    → behind_hole to_end (suc less) (frame ∷ frames) ≡ numbers frame.behind ++ behind_hole to_end less frames
behind-free false less frame frames = refl
behind-free true less frame frames = refl

behind-low : (frames : List Frame) → behind_hole false 0 frames ≡ []
behind-low [] = refl
behind-low (frame ∷ frames) = refl

behind-top : (to_end : Bool) (levels : ℕ) → behind_hole to_end levels [] ≡ []
behind-top false levels = refl
behind-top true levels = refl

-- ---- visits

takes-enter : (to_end : Bool) (levels : ℕ) (listed rest : List ℕ) (k : ℕ) (frames : List Frame) (deeper : ℕ) (inner : List Frame) (visits : ℕ)
    → listed ≡ k ∷ rest → levels ≤ length frames → deeper + length frames ≡ levels + length inner
    → Takes to_end levels listed frames visits → Takes to_end deeper rest inner (visits - 1) × (visits - 1 + 1 ≡ visits)
takes-enter false levels listed rest k frames deeper inner visits is within same takes =
    (omega (arith, ap length is), omega (arith, ap length is))
takes-enter true levels listed rest k frames deeper inner visits is within same takes =
    (omega (arith, ap length is), omega (arith, ap length is))

takes-free : (to_end : Bool) (levels less : ℕ) (listed rest : List ℕ) (frame : Frame) (frames : List Frame) (visits : ℕ)
    → listed ≡ rest → levels ≡ suc less → Takes to_end levels listed (frame ∷ frames) visits → Takes to_end less rest frames visits
takes-free false levels less listed rest frame frames visits is level takes = takes ∙ ap length is
takes-free true levels less listed rest frame frames visits is level takes = omega (arith, ap length is)

takes_some : (to_end : Bool) (k : ℕ) (listed rest : List ℕ) (levels : ℕ) (frames : List Frame) (visits : ℕ)
    → listed ≡ k ∷ rest → levels ≤ length frames → Takes to_end levels listed frames visits → 0 < visits
takes_some false k listed rest levels frames visits is within takes = omega (arith, ap length is)
takes_some true k listed rest levels frames visits is within takes = omega (arith, ap length is)

-- ---- to a node on the level

module _ (to_end : Bool) (m : RecordMap NodeRecord) (on : Onward) (k : ℕ) (listed : List ℕ) (visits : ℕ) where
  -- the first of the trees that are left
  record IsFirst (at : IsAhead to_end m on listed visits) : Type 0 where
    node : Node
    below : Forest
    rest : Forest
    number_is : node.number ≡ k
    tells : IsTold at.local at.number m at.frames (beside at.before (tree_then node below rest))
    lists : listed ≡ k ∷ (numbers below ++ (numbers rest ++ behind_hole to_end on.levels at.frames))

  first_tree : on.next ≡ Some k → (at : IsAhead to_end m on listed visits) → IsFirst at
  first_tree some at = by at.trees refl
    where
      by : (trees : Forest) → at.trees ≡ trees → IsFirst at
      by no_trees are = absurd (cc (sym (ap first_of are) ∙ at.starts ∙ some))
      by (tree_then n below rest) are =
          let same = some_number n.number k (sym (ap first_of are) ∙ at.starts ∙ some) in
          record {
            node = n;
            below = below;
            rest = rest;
            number_is = same;
            tells = subst (λ t. IsTold at.local at.number m at.frames (beside at.before t)) are at.tells;
            lists = at.lists ∙ (λ i. numbers (are i) ++ behind_hole to_end on.levels at.frames)
                ∙ (λ i. same i ∷ append_assoc (numbers below) (numbers rest) (behind_hole to_end on.levels at.frames) i);
          }

  pub ahead-on : on.next ≡ Some k → IsAhead to_end m on listed visits → 0 < visits
  ahead-on some at = takes_some to_end k listed _ on.levels at.frames visits (first_tree some at).lists at.within at.takes

  pub ahead-absent : on.next ≡ Some k → Tells (Some m) k None → IsAhead to_end m on listed visits → ⊥
  ahead-absent some absent at =
      let tree = first_tree some at in
      not_absent at.local at.number m at.frames at.before tree.node tree.below tree.rest k tree.tells tree.number_is absent

  module _ (w : NodeRow) where
    -- from a node to its first child
    pub ahead-down : (up : Option ℕ) → on.next ≡ Some k → Tells (Some m) k (Some w) → (w.first ≡ None → ⊥) → IsAhead to_end m on listed visits
        → IsRest (IsAhead to_end m) (k ∷ []) listed visits 1 (record { next = w.first; up = up; levels = on.levels + 1 })
    ahead-down up some there inner at =
        let tree = first_tree some at in
        let is = links at.local at.number m at.frames at.before tree.node tree.below tree.rest k w tree.tells tree.number_is there in
        let frame : Frame = record { before = at.before; node = tree.node; behind = tree.rest } in
        let takes = takes-enter to_end on.levels listed _ k at.frames (on.levels + 1) (frame ∷ at.frames) visits tree.lists at.within (omega arith) at.takes in
        record {
          rest = numbers tree.below ++ (numbers tree.rest ++ behind_hole to_end on.levels at.frames);
          more = visits - 1;
          lists = tree.lists;
          left = record {
            local = at.local;
            number = at.number;
            frames = frame ∷ at.frames;
            before = no_trees;
            trees = tree.below;
            tells = tree.tells;
            starts = sym is.first;
            up = λ none. absurd (inner none);
            within = omega (arith, at.within);
            lists = rw add-one (ap (λ l. numbers tree.below ++ l) (sym (behind-free to_end on.levels frame at.frames)));
            takes = takes.0;
          };
          takes = takes.1;
        }

    -- from a node without a child to the sibling behind it
    pub ahead-across : on.next ≡ Some k → Tells (Some m) k (Some w) → w.first ≡ None → IsAhead to_end m on listed visits
        → IsRest (IsAhead to_end m) (k ∷ []) listed visits 1 (record { next = w.right; up = w.parent; levels = on.levels })
    ahead-across some there leaf at =
        let tree = first_tree some at in
        let is = links at.local at.number m at.frames at.before tree.node tree.below tree.rest k w tree.tells tree.number_is there in
        let empty = no_first tree.below (sym is.first ∙ leaf) in
        let lists : listed ≡ k ∷ (numbers tree.rest ++ behind_hole to_end on.levels at.frames)
        = tree.lists ∙ (λ i. k ∷ (numbers (empty i) ++ (numbers tree.rest ++ behind_hole to_end on.levels at.frames))) in
        let takes = takes-enter to_end on.levels listed _ k at.frames on.levels at.frames visits lists at.within refl at.takes in
        record {
          rest = numbers tree.rest ++ behind_hole to_end on.levels at.frames;
          more = visits - 1;
          lists = lists;
          left = record {
            local = at.local;
            number = at.number;
            frames = at.frames;
            before = beside at.before (tree_then tree.node tree.below no_trees);
            trees = tree.rest;
            tells = moved at.local at.number m at.frames at.before tree.node tree.below tree.rest tree.tells;
            starts = sym is.right;
            up = λ none over. sym is.parent;
            within = at.within;
            lists = refl;
            takes = takes.0;
          };
          takes = takes.1;
        }

-- ---- behind the node above

module _ (to_end : Bool) (m : RecordMap NodeRecord) (on : Onward) (p : ℕ) (listed : List ℕ) (visits : ℕ) where
  -- the node above the level
  record IsUp (at : IsAhead to_end m on listed visits) : Type 0 where
    frame : Frame
    frames : List Frame
    inside : Forest
    are : at.frames ≡ frame ∷ frames
    number_is : frame.node.number ≡ p
    tells : IsTold at.local at.number m frames (beside frame.before (tree_then frame.node inside frame.behind))
    lists : listed ≡ behind_hole to_end on.levels (frame ∷ frames)

  above_tree : on.next ≡ None → (on.levels ≡ 0 → to_end ≡ true) → on.up ≡ Some p → (at : IsAhead to_end m on listed visits) → IsUp at
  above_tree none over some at = by at.frames refl
    where
      by : (frames : List Frame) → at.frames ≡ frames → IsUp at
      by [] are = absurd (some_above at.frames p (at.up none over ∙ some) are)
      by (frame ∷ frames) are =
          let empty = no_first at.trees (at.starts ∙ none) in
          record {
            frame = frame;
            frames = frames;
            inside = beside at.before at.trees;
            are = are;
            number_is = some_number frame.node.number p (sym (ap above_hole are) ∙ at.up none over ∙ some);
            tells = subst (λ fs. IsTold at.local at.number m fs (beside at.before at.trees)) are at.tells;
            lists = at.lists ∙ (λ i. numbers (empty i) ++ behind_hole to_end on.levels (are i));
          }

  pub ahead-up_absent : on.next ≡ None → (on.levels ≡ 0 → to_end ≡ true) → on.up ≡ Some p → Tells (Some m) p None → IsAhead to_end m on listed visits → ⊥
  ahead-up_absent none over some absent at =
      let above = above_tree none over some at in
      not_absent at.local at.number m above.frames above.frame.before above.frame.node above.inside above.frame.behind p above.tells above.number_is absent

  -- to what is behind the node above, which was visited on the way down
  pub ahead-free : (w : NodeRow) (less : ℕ) → on.next ≡ None → (on.levels ≡ 0 → to_end ≡ true) → on.up ≡ Some p → Tells (Some m) p (Some w) → on.levels ≡ suc less
      → IsAhead to_end m on listed visits → IsRest (IsAhead to_end m) [] listed visits 0 (record { next = w.right; up = w.parent; levels = less })
  ahead-free w less none over some there level at =
      let above = above_tree none over some at in
      let is = links at.local at.number m above.frames above.frame.before above.frame.node above.inside above.frame.behind p w above.tells above.number_is there in
      let lists : listed ≡ numbers above.frame.behind ++ behind_hole to_end less above.frames
      = above.lists ∙ (λ i. behind_hole to_end (level i) (above.frame ∷ above.frames)) ∙ behind-free to_end less above.frame above.frames in
      record {
        rest = numbers above.frame.behind ++ behind_hole to_end less above.frames;
        more = visits;
        lists = lists;
        left = record {
          local = at.local;
          number = at.number;
          frames = above.frames;
          before = beside above.frame.before (tree_then above.frame.node above.inside no_trees);
          trees = above.frame.behind;
          tells = moved at.local at.number m above.frames above.frame.before above.frame.node above.inside above.frame.behind above.tells;
          starts = sym is.right;
          up = λ none over. sym is.parent;
          within = omega (arith, at.within, level, ap length above.are);
          lists = refl;
          takes = takes-free to_end on.levels less listed _ above.frame above.frames visits lists level
              (subst (λ fs. Takes to_end on.levels listed fs visits) above.are at.takes);
        };
        takes = omega arith;
      }

module _ (m : RecordMap NodeRecord) (on : Onward) (listed : List ℕ) (visits : ℕ) where
  pub ahead-up : (p : ℕ) → on.next ≡ None → on.up ≡ Some p → on.levels ≡ 0 → IsAhead true m on listed visits → 0 < visits
  ahead-up p none some level at =
      let above = above_tree true m on p listed visits none (λ _. refl) some at in
      let takes : visits + on.levels ≡ length listed + length at.frames = at.takes in
      omega (arith, takes, level, ap length above.are)

  -- to what is behind the node above, which was not visited before
  pub ahead-above : (p : ℕ) (w : NodeRow) → on.next ≡ None → on.up ≡ Some p → Tells (Some m) p (Some w) → on.levels ≡ 0 → IsAhead true m on listed visits
      → IsRest (IsAhead true m) [] listed visits 1 (record { next = w.right; up = w.parent; levels = 0 })
  ahead-above p w none some there level at =
      let above = above_tree true m on p listed visits none (λ _. refl) some at in
      let is = links at.local at.number m above.frames above.frame.before above.frame.node above.inside above.frame.behind p w above.tells above.number_is there in
      let lists : listed ≡ numbers above.frame.behind ++ behind_hole true 0 above.frames
      = above.lists ∙ (λ i. behind_hole true (level i) (above.frame ∷ above.frames)) in
      let takes : visits + on.levels ≡ length listed + length at.frames = at.takes in
      record {
        rest = numbers above.frame.behind ++ behind_hole true 0 above.frames;
        more = visits - 1;
        lists = lists;
        left = record {
          local = at.local;
          number = at.number;
          frames = above.frames;
          before = beside above.frame.before (tree_then above.frame.node above.inside no_trees);
          trees = above.frame.behind;
          tells = moved at.local at.number m above.frames above.frame.before above.frame.node above.inside above.frame.behind above.tells;
          starts = sym is.right;
          up = λ none over. sym is.parent;
          within = omega arith;
          lists = refl;
          takes = omega (arith, takes, level, ap length lists, ap length above.are);
        };
        takes = omega (arith, takes, level, ap length above.are);
      }

  -- below the node where the walk began nothing is left
  pub ahead-low : on.next ≡ None → on.levels ≡ 0 → IsAhead false m on listed visits → listed ≡ []
  ahead-low none level at =
      let empty = no_first at.trees (at.starts ∙ none) in
      at.lists ∙ (λ i. numbers (empty i) ++ behind_hole false (level i) at.frames) ∙ behind-low at.frames

  pub ahead-top : (to_end : Bool) → on.next ≡ None → (on.levels ≡ 0 → to_end ≡ true) → on.up ≡ None → IsAhead to_end m on listed visits → listed ≡ []
  ahead-top to_end none over top at =
      let empty = no_first at.trees (at.starts ∙ none) in
      let frames = no_above at.frames (at.up none over ∙ top) in
      at.lists ∙ (λ i. numbers (empty i) ++ behind_hole to_end on.levels (frames i)) ∙ behind-top to_end on.levels

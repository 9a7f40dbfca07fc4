-- Where a new value comes, in the trees of a state.
use Rattle.std.specs.Prelude.{◌==◌}
use Rattle.std.proofs.Common.{◌≡◌, ℕ, suc, ◌+◌, ◌≤◌, length, Bool, true, false, ◌||◌, List, [], ◌∷◌, Option, Some, None, Result, Ok, Err, inl, inr, refl, sym, ap, subst, ◌∙◌, arith, if◌then◌else◌}
use Rattle.std.specs.Prelude.{IfErr, IfSome, IsErrAnd, IsTrue, not}
use Rattle.std.specs.List.{list_any}
use Rattle.std.specs.Option.{ForSome}
use Rattle.std.specs.FinMap as fin
use Rattle.std.proofs.lemmas.Bool.{false≢true}
use Rattle.std.proofs.lemmas.Grind.{common_steps}
use Rattle.sx_tree.specs.declared.edit.EditRefusal.{EditRefusal}
use Rattle.sx_tree.specs.declared.edit.Place.{Place}
use Rattle.sx_tree.specs.declared.edit.Place.TheVariants.{Before, After}
use Rattle.sx_tree.specs.declared.edit.EditRefusal.TheVariants.{NoNode, WrongKind}
use Rattle.sx_tree.specs.declared.record.Kind.{Kind}
use Rattle.sx_tree.specs.declared.record.Kind.TheVariants.{Document, Object, Array, Key, Str, Number, Bool as Truth, Null}
use Rattle.sx_tree.specs.declared.record.NodeRecord.{NodeRecord}
use Rattle.sx_tree.specs.Value.{Value}
use Rattle.sx_view.specs.Records.{RecordMap}
use Rattle.sx_view.specs.Rows.{row_of}
use Rattle.sx_model.specs.Edit.{Target, apply, if_place, if_there, insert, insert_below, must_stay, target_below, target_beside}
use Rattle.sx_model.specs.Hash.{local_hash}
use Rattle.sx_model.specs.Holes.{Frame, Shown, plug}
use Rattle.sx_model.specs.Records.{NodeRow, first_of, last_of}
use Rattle.sx_model.specs.Sound.{AreBelow}
use Rattle.sx_model.specs.State.{State}
use Rattle.sx_model.specs.Tree.{Node, Forest, no_trees, tree_then, beside, change_at, is_key, is_scalar, may_stand_below, numbers, FitBelow, Spot, spot}
use Rattle.sx_model.proofs.Holes.{shown-beside}
use Rattle.sx_view.specs.declared.fault.Fault.{Fault}
use Rattle.sx_edit.specs.declared.fault.EditFault.{EditFault}
use Rattle.sx_edit.specs.declared.fault.EditFault.TheVariants.{Refused}
use Rattle.sx_edit.specs.Damage.{IsDamaged}
use Rattle.sx_edit.specs.Links.{IsReached, IsRecord}
use Rattle.sx_edit.specs.Seen.{AreReached}
use Rattle.sx_edit.specs.declared.trees.Gap.{Gap}
use Rattle.sx_edit.proofs.Going.{leads-first, leads-last, leads-left, leads-one, leads-parent, leads-reached, leads-right}
use Rattle.sx_edit.specs.EditFault.{edit_fault}
use Rattle.sx_edit.specs.declared.trees.Target as code
use Rattle.sx_edit.specs.Answers.{AreOf, AnswersEach}
use Rattle.sx_edit.specs.Edited.{rows_in}
use Rattle.sx_edit.proofs.Sited.{fit_inside, seen-row}
use Rattle.sx_model.proofs.Plugging.{above, fit_back}
use Rattle.sx_model.specs.Paths.{number_of}
use Rattle.sx_edit.specs.Pathways.{kept}
use Rattle.sx_edit.specs.Places.{place_below, place_beside, IsNoPlace, IsPlace, IsPlaceAt}
use Rattle.sx_edit.specs.Room.{nodes_of}
use Rattle.sx_edit.specs.Told.{Shows}
use Rattle.sx_edit.proofs.Answering.{IsNoState, err-answers, no-node}
use Rattle.sx_edit.proofs.Climbing.{some_is}
use Rattle.sx_edit.proofs.Looking.{IsSeen}
use Rattle.sx_edit.proofs.Replacing.{are-below}
use Rattle.sx_edit.proofs.Seeking.{Sought, missing, found, seek}
use Rattle.sx_edit.proofs.SettingScalars.{length-nodes_of, seen}
use Rattle.sx_edit.specs.Gets.{at_spot, gets_at_place, keys_among}
use Rattle.sx_edit.proofs.Splicing.{must_stay-below, must_stay-top, parent-kind, parent-there}
use Rattle.sx_edit.proofs.Standing.{beside_assoc}
use Rattle.sx_edit.specs.Holes.{own_row}

gets-below : (keys a b : ℕ) → a ≡ b → 5 + (keys + a) ≡ 4 + (keys + suc b)
gets-below keys a b is = omega (arith, is)

gets-beside : (keys a b : ℕ) → a ≡ b → 4 + (keys + suc a) ≡ 4 + (keys + suc b)
gets-beside keys a b is = omega (arith, is)

beside_nothing : (xs : Forest) → beside xs no_trees ≡ xs
beside_nothing no_trees = refl
beside_nothing (tree_then n below rest) = ap (tree_then n below) (beside_nothing rest)

-- ---- no node

unlisted : (k limit : ℕ) (ks : List ℕ) → limit ≤ k → AreBelow limit ks → list_any (λ m. k == m) ks ≡ false
unlisted k limit [] beyond below = refl
unlisted k limit (m ∷ ks) beyond below = grind (arith, common_steps, unlisted k limit ks beyond below.1, below.0)

-- a node of a number that is still to be given is not there
not-given : (k next : ℕ) (state : State) (o : Option (RecordMap NodeRecord)) → next ≤ k → AreOf state next o → spot k state.trees ≡ None
not-given k next state o beyond are = go (seek k [] no_trees state.trees are.well_formed.distinct)
  where
    go : Sought k [] no_trees state.trees → spot k state.trees ≡ None
    go (missing none) = none.no_spot
    go (found s) = absurd (false≢true (sym (unlisted k next (numbers state.trees) beyond (are-below next (numbers state.trees) are.below_next)) ∙ s.among))

module _ (k next : ℕ) (o : Option (RecordMap NodeRecord)) where
  pub below-beyond : (last : Bool) → next ≤ k → IsNoPlace (place_below last k) next o (Refused (NoNode k))
  unfolding IsNoPlace AnswersEach
  below-beyond true beyond name value table after state are of_state = ap (if_there k _) (not-given k next state o beyond are)
  below-beyond false beyond name value table after state are of_state = ap (if_there k _) (not-given k next state o beyond are)

  pub beside-beyond : (behind : Bool) → next ≤ k → IsNoPlace (place_beside behind k) next o (Refused (NoNode k))
  unfolding IsNoPlace AnswersEach
  beside-beyond true beyond name value table after state are of_state = ap (if_there k _) (not-given k next state o beyond are)
  beside-beyond false beyond name value table after state are of_state = ap (if_there k _) (not-given k next state o beyond are)

  pub below-absent : (last : Bool) (there : Option NodeRecord) → ForSome o (λ m. there ≡ fin.get m k) → there ≡ None → IsNoPlace (place_below last k) next o (Refused (NoNode k))
  unfolding IsNoPlace AnswersEach
  below-absent true there is none name value table after state are of_state = no-node k _ state next o there is none are
  below-absent false there is none name value table after state are of_state = no-node k _ state next o there is none are

  pub beside-absent : (behind : Bool) (there : Option NodeRecord) → ForSome o (λ m. there ≡ fin.get m k) → there ≡ None → IsNoPlace (place_beside behind k) next o (Refused (NoNode k))
  unfolding IsNoPlace AnswersEach
  beside-absent true there is none name value table after state are of_state = no-node k _ state next o there is none are
  beside-absent false there is none name value table after state are of_state = no-node k _ state next o there is none are

takes-children : (kind child : Kind) → IsTrue (may_stand_below kind child) → is_key kind ≡ false → not (is_key kind || is_scalar kind) ≡ true
takes-children Document child stands free = refl
takes-children Object child stands free = refl
takes-children Array child stands free = refl
takes-children Key child stands free = absurd cc
takes-children Str child stands free = absurd cc
takes-children Number child stands free = absurd cc
takes-children Truth child stands free = absurd cc
takes-children Null child stands free = absurd cc

-- ---- below a node

-- a target, unless the node above it is a Key or a scalar
abbrev unless_closed : Bool → Bool → Target → Option Target
unless_closed key scalar target = if key then None else if scalar then None else Some target

no-target : (key scalar : Bool) (target : Target) → (key || scalar) ≡ true → unless_closed key scalar target ≡ None
no-target true scalar target is = refl
no-target false true target is = refl
no-target false false target is = absurd (false≢true is)

one-target : (key scalar : Bool) (target : Target) → (key || scalar) ≡ false → unless_closed key scalar target ≡ Some target
one-target true scalar target is = absurd (false≢true (sym is))
one-target false true target is = absurd (false≢true (sym is))
one-target false false target is = refl

module _ (k next : ℕ) (r : NodeRecord) (o : Option (RecordMap NodeRecord)) (there : ForSome o (λ m. fin.get m k ≡ Some r)) where
  abbrev spot_of : (state : State) (s : IsSeen k state o r) → Spot
  spot_of state s = record { above = nodes_of s.at.around; siblings = beside s.at.left (tree_then s.at.node s.at.below s.at.right); node = s.at.node; below = s.at.below }

  below-none : (state : State) (s : IsSeen k state o r) (make : Target → Result State EditRefusal) → (is_key r.kind || is_scalar r.kind) ≡ true
      → if_place s.at.node make (target_below (spot_of state s)) ≡ Err (WrongKind k r.kind)
  below-none state s make wrong =
      let kind : r.kind ≡ s.at.node.kind = ap (λ (w : NodeRow). w.kind) s.row in
      ap (if_place s.at.node make) (no-target (is_key s.at.node.kind) (is_scalar s.at.node.kind) (record { parent = s.at.node; children = s.at.below; above = nodes_of s.at.around }) (subst (λ kind. (is_key kind || is_scalar kind) ≡ true) kind wrong))
      ∙ (λ i. Err (WrongKind (s.at.number i) (sym kind i)))

  pub below-wrong : (last : Bool) → (is_key r.kind || is_scalar r.kind) ≡ true → IsNoPlace (place_below last k) next o (Refused (WrongKind k r.kind))
  unfolding IsNoPlace AnswersEach
  below-wrong true wrong name value table after state are of_state =
      let s = seen k state next o r are there in ap (if_there k (λ q. if_place q.node _ (target_below q))) s.at.spot ∙ below-none state s _ wrong
  below-wrong false wrong name value table after state are of_state =
      let s = seen k state next o r are there in ap (if_there k (λ q. if_place q.node _ (target_below q))) s.at.spot ∙ below-none state s _ wrong

  -- what the target tells of the node
  pub record IsBelow (last : Bool) (target : code.Target) : Type 0 where
    pub parent : target.gap.parent ≡ k
    pub left : target.gap.left ≡ (if last then r.last else None)
    pub right : target.gap.right ≡ (if last then None else r.first)
    pub kind : target.kind ≡ r.kind
    pub first : target.first ≡ r.first
    pub path : target.path ≡ r.path

  below-one : (state : State) (s : IsSeen k state o r) (make : Target → Result State EditRefusal) → (is_key r.kind || is_scalar r.kind) ≡ false
      → if_place s.at.node make (target_below (spot_of state s)) ≡ make (record { parent = s.at.node; children = s.at.below; above = nodes_of s.at.around })
  below-one state s make free =
      let kind : r.kind ≡ s.at.node.kind = ap (λ (w : NodeRow). w.kind) s.row in
      ap (if_place s.at.node make) (one-target (is_key s.at.node.kind) (is_scalar s.at.node.kind) (record { parent = s.at.node; children = s.at.below; above = nodes_of s.at.around }) (subst (λ kind. (is_key kind || is_scalar kind) ≡ false) kind free))

  pub below-place : (last : Bool) (target : code.Target) → (is_key r.kind || is_scalar r.kind) ≡ false → IsBelow last target → IsPlace (place_below last k) next o target
  unfolding IsPlace
  below-place true target free is state are =
      let s = seen k state next o r are there in
      let nothing = beside_nothing s.at.below in
      record {
        frames = s.at.around;
        frame = record { before = s.at.left; node = s.at.node; behind = s.at.right };
        left = s.at.below;
        right = no_trees;
        stands = s.at.stands ∙ ap (λ t. plug s.at.around (beside s.at.left (tree_then s.at.node t s.at.right))) (sym nothing);
        number = s.at.number ∙ sym is.parent;
        last = sym (is.left ∙ ap (λ (w : NodeRow). w.last) s.row);
        first = sym is.right;
        kind = is.kind ∙ ap (λ (w : NodeRow). w.kind) s.row;
        path = is.path ∙ ap (λ (w : NodeRow). w.path) s.row;
        takes = ap not (subst (λ kind. (is_key kind || is_scalar kind) ≡ false) (ap (λ (w : NodeRow). w.kind) s.row) free);
        children = is.first ∙ ap (λ (w : NodeRow). w.first) s.row ∙ ap first_of (sym nothing);
        gets = ap (at_spot (gets_at_place (place_below true k))) s.at.spot ∙ gets-below _ _ _ (length-nodes_of s.at.around)
            ∙ ap (λ t. 4 + (keys_among s.at.node.kind t + suc (length s.at.around))) (sym nothing);
        applied = λ name value. ap (if_there k (λ q. if_place q.node (insert_below (place_below true k) name value state) (target_below q))) s.at.spot
            ∙ below-one state s (insert_below (place_below true k) name value state) free
            ∙ ap (λ t. insert_below (place_below true k) name value state (record { parent = s.at.node; children = t; above = nodes_of s.at.around })) (sym nothing);
        made = λ enter. s.at.changed (λ n below rest. tree_then n (beside below (enter no_trees)) rest);
      }
  below-place false target free is state are =
      let s = seen k state next o r are there in
      record {
        frames = s.at.around;
        frame = record { before = s.at.left; node = s.at.node; behind = s.at.right };
        left = no_trees;
        right = s.at.below;
        stands = s.at.stands;
        number = s.at.number ∙ sym is.parent;
        last = sym is.left;
        first = sym (is.right ∙ ap (λ (w : NodeRow). w.first) s.row);
        kind = is.kind ∙ ap (λ (w : NodeRow). w.kind) s.row;
        path = is.path ∙ ap (λ (w : NodeRow). w.path) s.row;
        takes = ap not (subst (λ kind. (is_key kind || is_scalar kind) ≡ false) (ap (λ (w : NodeRow). w.kind) s.row) free);
        children = is.first ∙ ap (λ (w : NodeRow). w.first) s.row;
        gets = ap (at_spot (gets_at_place (place_below false k))) s.at.spot ∙ gets-below _ _ _ (length-nodes_of s.at.around);
        applied = λ name value. ap (if_there k (λ q. if_place q.node (insert_below (place_below false k) name value state) (target_below q))) s.at.spot
            ∙ below-one state s (insert_below (place_below false k) name value state) free;
        made = λ enter. s.at.changed (λ n below rest. tree_then n (enter below) rest);
      }

  -- ---- beside a node

  beside-none : (ns : List Node) (siblings : Forest) → must_stay ns ≡ true → target_beside ns siblings ≡ None
  beside-none [] siblings stays = refl
  beside-none (parent ∷ ns) siblings stays = ap (λ (b : Bool). if b then None else Some (record { parent = parent; children = siblings; above = ns })) stays

  beside-stays : (behind : Bool) (name : Option (List ℕ)) (value : Value) (state : State) (s : IsSeen k state o r) → must_stay (nodes_of s.at.around) ≡ true
      → apply (insert (place_beside behind k) name value) state ≡ Err (WrongKind k r.kind)
  beside-stays true name value state s stays =
      ap (if_there k (λ q. if_place q.node (insert_below (place_beside true k) name value state) (target_beside q.above q.siblings))) s.at.spot
      ∙ ap (if_place s.at.node (insert_below (place_beside true k) name value state)) (beside-none (nodes_of s.at.around) _ stays)
      ∙ (λ i. Err (WrongKind (s.at.number i) (sym (ap (λ (w : NodeRow). w.kind) s.row) i)))
  beside-stays false name value state s stays =
      ap (if_there k (λ q. if_place q.node (insert_below (place_beside false k) name value state) (target_beside q.above q.siblings))) s.at.spot
      ∙ ap (if_place s.at.node (insert_below (place_beside false k) name value state)) (beside-none (nodes_of s.at.around) _ stays)
      ∙ (λ i. Err (WrongKind (s.at.number i) (sym (ap (λ (w : NodeRow). w.kind) s.row) i)))

  pub beside-top : (behind : Bool) → r.parent ≡ None → IsNoPlace (place_beside behind k) next o (Refused (WrongKind k r.kind))
  unfolding IsNoPlace AnswersEach
  beside-top behind none name value table after state are of_state =
      let s = seen k state next o r are there in
      beside-stays behind name value state s (must_stay-top (number_of state.paths) s.at.around s.at.left s.at.node s.at.below s.at.right r (seen-row k state o r s (number_of state.paths)) none)

  pub beside-value : (behind : Bool) (p : NodeRecord) (parent : ℕ) → r.parent ≡ Some parent → ForSome o (λ m. fin.get m parent ≡ Some p) → is_key p.kind ≡ true
      → IsNoPlace (place_beside behind k) next o (Refused (WrongKind k r.kind))
  unfolding IsNoPlace AnswersEach
  beside-value behind p parent up there_p key name value table after state are of_state =
      let s = seen k state next o r are there in
      beside-stays behind name value state s (must_stay-below (number_of state.paths) s.at.around s.at.left s.at.node s.at.below s.at.right r p parent o (seen-row k state o r s (number_of state.paths)) s.shows up there_p ∙ key)

  -- what the target tells of the node and of the one above it
  pub record IsBeside (behind : Bool) (parent : ℕ) (p : NodeRecord) (target : code.Target) : Type 0 where
    pub parent_is : target.gap.parent ≡ parent
    pub left : target.gap.left ≡ (if behind then Some k else r.left)
    pub right : target.gap.right ≡ (if behind then r.right else Some k)
    pub kind : target.kind ≡ p.kind
    pub first : target.first ≡ p.first
    pub path : target.path ≡ p.path

  one-beside : (name : Option (List ℕ)) (value : Value) (place : Place) (state : State) (n parent : Node) (ns : List Node) (siblings : Forest) → is_key parent.kind ≡ false
      → if_place n (insert_below place name value state) (target_beside (parent ∷ ns) siblings) ≡ insert_below place name value state (record { parent = parent; children = siblings; above = ns })
  one-beside name value place state n parent ns siblings free =
      ap (λ (b : Bool). if_place n (insert_below place name value state) (if b then None else Some (record { parent = parent; children = siblings; above = ns }))) free

  beside-at : (behind : Bool) (state : State) (parent : ℕ) (p : NodeRecord) (target : code.Target) (frames : List Frame) (before : Forest) (n : Node) (below after : Forest)
      → state.trees ≡ plug frames (beside before (tree_then n below after)) → n.number ≡ k → row_of r ≡ own_row local_hash (number_of state.paths) frames before n below after
      → Shows o (rows_in (number_of state.paths) (plug frames (beside before (tree_then n below after))))
      → FitBelow None (plug frames (beside before (tree_then n below after)))
      → spot k state.trees ≡ Some (record { above = nodes_of frames; siblings = beside before (tree_then n below after); node = n; below = below })
      → ((change : Node → Forest → Forest → Forest) → change_at k change state.trees ≡ plug frames (beside before (change n below after)))
      → r.parent ≡ Some parent → ForSome o (λ m. fin.get m parent ≡ Some p) → is_key p.kind ≡ false → IsBeside behind parent p target → IsPlaceAt (place_beside behind k) state target
  beside-at behind state parent p target [] before n below after stands same row shows fit spot_is changed up there_p free is = absurd (let none : r.parent ≡ None = ap (λ (w : NodeRow). w.parent) row in cc)
  beside-at true state parent p target (frame ∷ frames) before n below after stands same row shows fit spot_is changed up there_p free is =
      let above_is : r.parent ≡ Some frame.node.number = ap (λ (w : NodeRow). w.parent) row in
      let parent_is : parent ≡ frame.node.number = cc in
      let inside : Forest = beside before (tree_then n below after) in
      let there_f : ForSome o (λ m. fin.get m frame.node.number ≡ Some p) = rw parent_is at there_p in
      let kind = parent-kind (number_of state.paths) frames frame inside p o shows there_f in
      let p_row = some_is _ _ (parent-there (number_of state.paths) frames frame inside (Some p) o shows there_f) in
      let joined : beside (beside before (tree_then n below no_trees)) after ≡ inside = beside_assoc before (tree_then n below no_trees) after in
      let last_is : last_of (beside before (tree_then n below no_trees)) ≡ Some n.number = ap (λ (s : Shown). s.last) (shown-beside local_hash before (tree_then n below no_trees)) in
      record {
        frames = frames;
        frame = frame;
        left = beside before (tree_then n below no_trees);
        right = after;
        stands = stands ∙ ap (plug (frame ∷ frames)) (sym joined);
        number = sym parent_is ∙ sym is.parent_is;
        last = last_is ∙ ap (λ m. Some m) same ∙ sym is.left;
        first = sym (is.right ∙ ap (λ (w : NodeRow). w.right) row);
        kind = is.kind ∙ kind;
        path = is.path ∙ ap (λ (w : NodeRow). w.path) p_row;
        takes = takes-children frame.node.kind n.kind (fit_back (above (frame ∷ frames)) before (tree_then n below after) (fit_inside (frame ∷ frames) inside fit)).0 (sym (ap is_key kind) ∙ free);
        children = is.first ∙ ap (λ (w : NodeRow). w.first) p_row ∙ ap first_of (sym joined);
        gets = ap (at_spot (gets_at_place (After k))) spot_is ∙ gets-beside (keys_among frame.node.kind inside) _ _ (length-nodes_of frames)
            ∙ ap (λ t. 4 + (keys_among frame.node.kind t + suc (length frames))) (sym joined);
        applied = λ name value. ap (if_there k (λ q. if_place q.node (insert_below (After k) name value state) (target_beside q.above q.siblings))) spot_is
            ∙ one-beside name value (After k) state n frame.node (nodes_of frames) inside (sym (ap is_key kind) ∙ free)
            ∙ ap (λ t. insert_below (After k) name value state (record { parent = frame.node; children = t; above = nodes_of frames })) (sym joined);
        made = λ enter. changed (λ n below rest. tree_then n below (enter rest)) ∙ ap (plug (frame ∷ frames)) (sym (beside_assoc before (tree_then n below no_trees) (enter after)));
      }
  beside-at false state parent p target (frame ∷ frames) before n below after stands same row shows fit spot_is changed up there_p free is =
      let above_is : r.parent ≡ Some frame.node.number = ap (λ (w : NodeRow). w.parent) row in
      let parent_is : parent ≡ frame.node.number = cc in
      let inside : Forest = beside before (tree_then n below after) in
      let there_f : ForSome o (λ m. fin.get m frame.node.number ≡ Some p) = rw parent_is at there_p in
      let kind = parent-kind (number_of state.paths) frames frame inside p o shows there_f in
      let p_row = some_is _ _ (parent-there (number_of state.paths) frames frame inside (Some p) o shows there_f) in
      record {
        frames = frames;
        frame = frame;
        left = before;
        right = tree_then n below after;
        stands = stands;
        number = sym parent_is ∙ sym is.parent_is;
        last = sym (is.left ∙ ap (λ (w : NodeRow). w.left) row);
        first = ap (λ m. Some m) same ∙ sym is.right;
        kind = is.kind ∙ kind;
        path = is.path ∙ ap (λ (w : NodeRow). w.path) p_row;
        takes = takes-children frame.node.kind n.kind (fit_back (above (frame ∷ frames)) before (tree_then n below after) (fit_inside (frame ∷ frames) inside fit)).0 (sym (ap is_key kind) ∙ free);
        children = is.first ∙ ap (λ (w : NodeRow). w.first) p_row;
        gets = ap (at_spot (gets_at_place (Before k))) spot_is ∙ gets-beside (keys_among frame.node.kind inside) _ _ (length-nodes_of frames);
        applied = λ name value. ap (if_there k (λ q. if_place q.node (insert_below (Before k) name value state) (target_beside q.above q.siblings))) spot_is
            ∙ one-beside name value (Before k) state n frame.node (nodes_of frames) inside (sym (ap is_key kind) ∙ free);
        made = λ enter. changed (λ n below rest. enter (tree_then n below rest));
      }

  pub beside-place : (behind : Bool) (parent : ℕ) (p : NodeRecord) (target : code.Target) → r.parent ≡ Some parent → ForSome o (λ m. fin.get m parent ≡ Some p) → is_key p.kind ≡ false
      → IsBeside behind parent p target → IsPlace (place_beside behind k) next o target
  unfolding IsPlace
  beside-place behind parent p target up there_p free is state are =
      let s = seen k state next o r are there in
      beside-at behind state parent p target s.at.around s.at.left s.at.node s.at.below s.at.right s.at.stands s.at.number s.row s.shows (subst (FitBelow None) s.at.stands are.well_formed.fit) s.at.spot s.at.changed up there_p free is

-- a damage on the way, or a fault that goes on
pub fault-no_place : (place : Place) (next : ℕ) (o : Option (RecordMap NodeRecord)) (fault : Fault) (r : Result code.Target EditFault) → IsErrAnd r (λ e. e ≡ edit_fault fault) → (IsDamaged fault → IsNoState next o)
    → IfErr r (IsNoPlace place next o)
unfolding IsNoPlace
fault-no_place place next o fault (Ok x) is damaged = absurd is
fault-no_place place next o fault (Err e) is damaged = λ name value table after. err-answers (insert place name value) next (kept o table) after (Err e) fault is damaged

-- ---- the links around a place

reached-as : (o : Option (RecordMap NodeRecord)) (near k : ℕ) (x y : Option ℕ) → near ≡ k → x ≡ y → IfSome y (λ to. IsReached o k to) → IfSome x (λ to. IsReached o near to)
reached-as o near k x y near_is is = rw (near_is, is) (λ (z : IfSome y (λ to. IsReached o k to)). z)

pub reached-below : (o : Option (RecordMap NodeRecord)) (k : ℕ) (r : NodeRecord) (gap : Gap) (last : Bool) → gap.near ≡ k → gap.parent ≡ k → gap.left ≡ (if last then r.last else None) → gap.right ≡ (if last then None else r.first)
    → IsRecord o k r → AreReached o gap
reached-below o k r gap true near parent left right there = record {
  left = reached-as o gap.near k gap.left r.last near left (leads-reached o k r.last (leads-last o k r there r.last refl));
  right = reached-as o gap.near k gap.right None near right tt;
  parent = rw (near, parent) (inr (r, there));
}
reached-below o k r gap false near parent left right there = record {
  left = reached-as o gap.near k gap.left None near left tt;
  right = reached-as o gap.near k gap.right r.first near right (leads-reached o k r.first (leads-first o k r there r.first refl));
  parent = rw (near, parent) (inr (r, there));
}

pub reached-beside : (o : Option (RecordMap NodeRecord)) (k parent : ℕ) (r : NodeRecord) (gap : Gap) (after : Bool) → gap.near ≡ k → gap.parent ≡ parent → gap.left ≡ (if after then Some k else r.left) → gap.right ≡ (if after then r.right else Some k)
    → IsRecord o k r → r.parent ≡ Some parent → AreReached o gap
reached-beside o k parent r gap true near parent_is left right there up = record {
  left = reached-as o gap.near k gap.left (Some k) near left (inr (r, there));
  right = reached-as o gap.near k gap.right r.right near right (leads-reached o k r.right (leads-right o k r there r.right refl));
  parent = rw (near, parent_is) (inl (leads-one o k parent r.parent up (leads-parent o k r there r.parent refl)));
}
reached-beside o k parent r gap false near parent_is left right there up = record {
  left = reached-as o gap.near k gap.left r.left near left (leads-reached o k r.left (leads-left o k r there r.left refl));
  right = reached-as o gap.near k gap.right (Some k) near right (inr (r, there));
  parent = rw (near, parent_is) (inl (leads-one o k parent r.parent up (leads-parent o k r there r.parent refl)));
}

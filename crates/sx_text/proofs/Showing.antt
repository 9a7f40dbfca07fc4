-- The text of a node of a document whose records are told.
use Rattle.std.proofs.Common.{◌≡◌, ℕ, ◌+◌, ◌-◌, ◌<◌, ◌≤◌, true, false, List, [], ◌∷◌, ◌++◌, length, reverse, Option, Some, None, refl, sym, ap, subst, ◌∙◌, append_assoc, append-nil, inl, inr, arith}
use Rattle.std.specs.Global.{Vec}
use Rattle.std.specs.Prelude.{Result, Ok, Err, IfErr, IsErrAnd, MatchResult, option_map}
use Rattle.sx_bytes.specs.declared.damage.Damage.{Damage}
use Rattle.sx_tree.specs.declared.record.Kind.{Kind}
use Rattle.sx_tree.specs.declared.record.NodeRecord.{NodeRecord}
use Rattle.sx_tree.specs.declared.record.Step.{Step}
use Rattle.sx_view.specs.declared.fault.Fault.{Fault}
use Rattle.sx_view.specs.declared.fault.Fault.TheVariants.{Failed, Damaged, OutOfMemory}
use Rattle.sx_view.specs.Records.{ExplainsFault, IsDamaged, RecordMap}
use Rattle.sx_model.specs.Holes.{Frame, filled, plug, around_hole}
use Rattle.sx_model.specs.Records.{NodeRow, around_children}
use Rattle.sx_model.specs.Tree.{Node, Forest, no_trees, tree_then, beside, FitBelow, HasChildren, IsWellFormed, Spot, size, spot, tops}
use Rattle.sx_model.specs.TreeText.{closing, opening, texts, text_at}
use Rattle.sx_model.proofs.Plugging.{above, fit_back, stand_inside}
use Rattle.sx_model.proofs.Spots.{spot_in-absent}
use Rattle.sx_cursor.specs.Told.{Tells, Shows, IsNoDocument}
use Rattle.sx_cursor.proofs.Telling.{IsAt, is_at, not_there, told}
use Rattle.sx_text.specs.Pen.{IsLevel, Rest, wrote, damaged, IsOutcome, Writes}
use Rattle.sx_text.specs.Text.{Answers, IsText, VisitsOnce}
use Rattle.sx_text.specs.declared.pen.Open.{Open}
use Rattle.sx_text.specs.declared.pen.Pen.{Pen}
use Rattle.sx_text.proofs.Writing.{never_bare}

size-beside : (xs ys : Forest) → size (beside xs ys) ≡ size xs + size ys
size-beside no_trees ys = omega arith
size-beside (tree_then n below rest) ys = omega (arith, size-beside rest ys)

size_inside : (frames : List Frame) (inside : Forest) → size inside ≤ size (plug frames inside)
size_inside [] inside = omega arith
size_inside (frame ∷ frames) inside =
    omega (arith, size_inside frames (filled frame inside), size-beside frame.before (tree_then frame.node inside frame.behind))

-- where the pen stands once the node's text has begun
abbrev pub begun_at : ℕ → NodeRow → Vec Open → ℕ → Pen
begun_at k w outer left = record { outer = outer; above = record { number = k; kind = w.kind; right = w.right }; from = k; next = w.first; begun = false; left = left }

module _ (local : Kind → List ℕ → ℕ) (number : List Step → ℕ) (trees : Forest) (m : RecordMap NodeRecord) (k : ℕ) (w : NodeRow)
    (shows : Shows local number trees (Some m)) (at : IsAt local number trees (Some m) k w) where
  abbrev pub node : Node
  node = at.spot_of.node

  abbrev pub below : Forest
  below = at.spot_of.below

  kind : node.kind ≡ w.kind
  kind = ap (λ x. x.kind) at.row_is

  well : IsWellFormed (plug at.frames (beside at.before (tree_then node below at.behind)))
  well = subst IsWellFormed at.trees_are shows.well_formed

  fit : FitBelow (above at.frames) (tree_then node below at.behind)
  fit = fit_back (above at.frames) at.before (tree_then node below at.behind) (stand_inside at.frames (beside at.before (tree_then node below at.behind)) (well.one, well.fit)).1

  level : IsLevel m (record { number = k; kind = w.kind; right = w.right }) false w.first below
  level = record {
    local = local;
    number = number;
    around = around_children (around_hole at.frames) node;
    starts = ap (λ x. x.first) at.row_is;
    ends = refl;
    tells = (told local number (Some m) at.frames at.before node below at.behind at.tells).under;
    fits = subst (λ x. FitBelow (Some x) below) kind fit.3;
    filled = λ key begins none. never_bare node.kind below fit.2 (kind ∙ key) none;
  }

  pub outcome_at : (outer : Vec Open) (left : ℕ) (before : List ℕ) (outcome : _) → outer.items ≡ [] → Writes (Some m) (begun_at k w outer left) before outcome
      → IsOutcome before left outcome (texts false below ++ closing w.kind) (size below + 0)
  unfolding Writes
  outcome_at outer left before outcome none come =
      let last : Rest m (record { number = k; kind = w.kind; right = w.right }) (reverse outer.items) (closing w.kind) 0
      = subst (λ s. Rest m (record { number = k; kind = w.kind; right = w.right }) (reverse s) (closing w.kind) 0) (sym none) (refl, refl) in
      come m refl below (closing w.kind) 0 level last

  pub small : size below < size trees
  small =
      omega (
        arith,
        ap size at.trees_are,
        size_inside at.frames (beside at.before (tree_then node below at.behind)),
        size-beside at.before (tree_then node below at.behind),
      )

pub text_damaged : (o : Option (RecordMap NodeRecord)) (k : ℕ) (w : NodeRow) (outer : Vec Open) (count : ℕ) (before : List ℕ) → Tells o k (Some w) → outer.items ≡ []
    → Writes o (begun_at k w outer (count - 1)) before damaged → IsNoDocument o count
unfolding IsNoDocument
text_damaged None k w outer count before is none come = λ local number trees shows few. absurd shows.holds
text_damaged (Some m) k w outer count before is none come = λ local number trees shows few.
    let at = is_at local number trees (Some m) k w shows is in
    outcome_at local number trees m k w shows at outer (count - 1) before damaged none come (omega (arith, small local number trees m k w shows at))

pub text_whole : (o : Option (RecordMap NodeRecord)) (k : ℕ) (w : NodeRow) (outer : Vec Open) (left rest : ℕ) (before opened after : List ℕ) → Tells o k (Some w) → outer.items ≡ []
    → opened ≡ before ++ opening w.kind w.label → Writes o (begun_at k w outer left) opened (wrote after rest) → IsText o k before after true
unfolding IsText
text_whole None k w outer left rest before opened after is none begins come = λ local number trees shows. absurd shows.holds
text_whole (Some m) k w outer left rest before opened after is none begins come = λ local number trees shows.
    let at = is_at local number trees (Some m) k w shows is in
    let all = outcome_at local number trees m k w shows at outer left opened (wrote after rest) none come in
    let grouped : (before ++ opening w.kind w.label) ++ (texts false at.spot_of.below ++ closing w.kind)
    ≡ before ++ (opening w.kind w.label ++ (texts false at.spot_of.below ++ (closing w.kind ++ [])))
    = simp (append_assoc, append-nil) in
    let is_text : after ≡ before ++ (opening w.kind w.label ++ (texts false at.spot_of.below ++ (closing w.kind ++ [])))
    = all.0 ∙ ap (λ l. l ++ (texts false at.spot_of.below ++ closing w.kind)) begins ∙ grouped in (
      texts false (tree_then at.spot_of.node at.spot_of.below no_trees),
      (
        ap (option_map (λ s. texts false (tree_then s.node s.below no_trees))) at.spot_is,
        is_text
            ∙ (λ i. before ++ (opening (ap (λ x. x.kind) (sym at.row_is) i) (ap (λ x. x.label) (sym at.row_is) i) ++ (texts false at.spot_of.below ++ (closing (ap (λ x. x.kind) (sym at.row_is) i) ++ [])))),
      ),
    )

same_spot : (a b : Spot) (o : Option Spot) → o ≡ Some a → o ≡ Some b → a ≡ b
same_spot a b o one other = cc

pub visits_once : (o : Option (RecordMap NodeRecord)) (k : ℕ) (w : NodeRow) (outer : Vec Open) (left rest : ℕ) (opened after : List ℕ) (start old new : ℕ) → Tells o k (Some w) → outer.items ≡ []
    → Writes o (begun_at k w outer left) opened (wrote after rest) → new + rest ≤ old + left → old ≤ start + 1 → VisitsOnce o k start new
unfolding VisitsOnce
visits_once None k w outer left rest opened after start old new is none come gets first = λ local number trees shows s there. absurd shows.holds
visits_once (Some m) k w outer left rest opened after start old new is none come gets first = λ local number trees shows s there.
    let at = is_at local number trees (Some m) k w shows is in
    let all = outcome_at local number trees m k w shows at outer left opened (wrote after rest) none come in
    let same = same_spot at.spot_of s (spot k trees) at.spot_is there in
    omega (arith, all.1, gets, first, ap (λ q. size q.below) same)

-- ---- no such node, or no document

pub no_document-untold : (o : Option (RecordMap NodeRecord)) (count : ℕ) → o ≡ None → IsNoDocument o count
unfolding IsNoDocument
no_document-untold o count untold = λ local number trees shows few. absurd (subst (λ x. Shows local number trees x) untold shows).holds

never_empty : (trees : Forest) (count : ℕ) → length (tops trees) ≡ 1 → size trees ≤ count → count ≡ 0 → ⊥
never_empty no_trees count one few none = absurd (omega (arith, one))
never_empty (tree_then n below rest) count one few none = absurd (omega (arith, few, none))

pub no_document-empty : (o : Option (RecordMap NodeRecord)) (count : ℕ) → count ≡ 0 → IsNoDocument o count
unfolding IsNoDocument
no_document-empty o count none = λ local number trees shows few. never_empty trees count shows.well_formed.one few none

no_spot_there : (local : Kind → List ℕ → ℕ) (number : List Step → ℕ) (trees : Forest) (o : Option (RecordMap NodeRecord)) (k : ℕ) → Shows local number trees o → Tells o k None → spot k trees ≡ None
no_spot_there local number trees o k shows is = spot_in-absent k [] trees trees (not_there local number trees o k shows is)

pub text_absent : (o : Option (RecordMap NodeRecord)) (k : ℕ) (before : List ℕ) → Tells o k None → IsText o k before before false
unfolding IsText
text_absent o k before is = λ local number trees shows.
    (ap (option_map (λ s. texts false (tree_then s.node s.below no_trees))) (no_spot_there local number trees o k shows is), refl)

pub visits_none : (o : Option (RecordMap NodeRecord)) (k old new : ℕ) → Tells o k None → VisitsOnce o k old new
unfolding VisitsOnce
visits_none o k old new is = λ local number trees shows s there. absurd (cc (sym (no_spot_there local number trees o k shows is) ∙ there))

read_damaged : (o : Option (RecordMap NodeRecord)) (count : ℕ) (below : Damage → Type 0) (rose : Type 0) (fault : Fault) → ((d : Damage) → below d → o ≡ None) → ExplainsFault below rose fault
    → IsDamaged fault → IsNoDocument o count
read_damaged o count below rose Failed untold why is = absurd is
read_damaged o count below rose OutOfMemory untold why is = absurd is
read_damaged o count below rose (Damaged damage) untold why is = no_document-untold o count (untold damage why)

pub read_sound : {T : Type 0} (r : Result T Fault) (o : Option (RecordMap NodeRecord)) (count : ℕ) (below : Damage → Type 0) (rose : Type 0) (fault : Fault) → IsErrAnd r (λ e. e ≡ fault)
    → ((d : Damage) → below d → o ≡ None) → ExplainsFault below rose fault → IfErr r (λ e. IsDamaged e → IsNoDocument o count)
read_sound (Ok x) o count below rose fault is untold why = absurd is
read_sound (Err e) o count below rose fault is untold why = read_damaged o count below rose e untold (subst (ExplainsFault below rose) (sym is) why)

pub finish_damaged : {T : Type 0} (r : Result T Fault) (P : T → Type 0) (o : Option (RecordMap NodeRecord)) (k : ℕ) (w : NodeRow) (outer : Vec Open) (count : ℕ) (before : List ℕ) (fault : Fault)
    → IsErrAnd r (λ e. e ≡ fault) → Tells o k (Some w) → outer.items ≡ []
    → (IsDamaged fault → Writes o (begun_at k w outer (count - 1)) before damaged) → MatchResult r P (λ e. IsDamaged e → IsNoDocument o count)
finish_damaged (Ok x) P o k w outer count before fault is there none come = absurd is
finish_damaged (Err e) P o k w outer count before fault is there none come = λ damage. text_damaged o k w outer count before there none (come (subst IsDamaged is damage))

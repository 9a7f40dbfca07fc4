-- A search over the records of a document.
use Rattle.std.proofs.Common.{◌≡◌, ℕ, ◌+◌, ◌-◌, ◌≤◌, false, List, [], ◌∷◌, ◌++◌, length, reverse, Option, Some, None, refl, sym, ap, subst, ◌∙◌, arith}
use Rattle.std.specs.Prelude.{slice_get, Result, Ok, Err, IfErr, IsErrAnd}
use Rattle.std.specs.Option.{option_or}
use Rattle.sx_tree.specs.declared.record.Kind.{Kind}
use Rattle.sx_tree.specs.declared.record.NodeRecord.{NodeRecord}
use Rattle.sx_tree.specs.declared.record.Step.{Step}
use Rattle.sx_tree.specs.declared.steps.PathStep.{PathStep}
use Rattle.sx_view.specs.declared.fault.Fault.{Fault}
use Rattle.sx_view.specs.Records.{IsDamaged, RecordMap}
use Rattle.sx_model.specs.Records.{NodeRow, around_children, at_top, first_of, row, rows}
use Rattle.sx_model.specs.Tree.{Node, Forest, no_trees, tree_then, is_document, numbers, size, tops}
use Rattle.sx_model.proofs.Spots.{has}
use Rattle.sx_cursor.specs.Told.{Tells, Shows, IsNoDocument}
use Rattle.sx_cursor.proofs.Telling.{not_there, shows-tells, some_is, some_number, tells-once, tells-parts}
use Rattle.sx_select.specs.Marks.{last_below, marks_below, no_marks, picked}
use Rattle.sx_select.specs.Search.{IsLevel, IsOutcome, Finds, Rest, Outcome, damaged, found, picked_on}
use Rattle.sx_select.specs.Selected.{Selects, VisitsEachOnce}
use Rattle.sx_select.specs.declared.mark.Mark.{Mark}
use Rattle.sx_select.specs.declared.pending.Search.{Search}
use Rattle.sx_select.proofs.Selecting.{picked-selected}

-- the Document of the trees, with the level below it
record IsTop (m : RecordMap NodeRecord) (trees : Forest) (w : NodeRow) : Type 0 where
  node : Node
  below : Forest
  trees_are : trees ≡ tree_then node below no_trees
  kind : w.kind ≡ node.kind
  label : w.label ≡ node.label
  level : IsLevel m w.first below

none_left : (trees : Forest) → length (tops trees) ≡ 0 → trees ≡ no_trees
none_left no_trees none = refl
none_left (tree_then n below rest) none = absurd (omega (arith, none))

module _ (local : Kind → List ℕ → ℕ) (number : List Step → ℕ) (m : RecordMap NodeRecord) where
  top_of : (trees : Forest) (w : NodeRow) → Shows local number trees (Some m) → Tells (Some m) 0 (Some w) → IsTop m trees w
  top_of no_trees w shows there = absurd (omega (arith, shows.well_formed.one))
  top_of (tree_then n below rest) w shows there =
      let same : n.number ≡ 0 = some_number n.number 0 shows.well_formed.zero in
      let tells = shows-tells local number (tree_then n below rest) (Some m) shows in
      let parts = tells-parts (Some m) (rows local number (around_children at_top n) below) _ tells.1 in
      let own = subst (λ q. Tells (Some m) q (Some (row local number (record at_top { right = option_or (first_of rest) None }) n below))) same tells.0 in
      let is = some_is _ _ (tells-once m 0 _ _ there own) in
      record {
        node = n;
        below = below;
        trees_are = ap (tree_then n below) (none_left rest (omega (arith, shows.well_formed.one)));
        kind = ap (λ x. x.kind) is;
        label = ap (λ x. x.label) is;
        level = record {
          local = local;
          number = number;
          around = around_children at_top n;
          starts = sym (ap (λ x. x.first) is);
          ends = refl;
          tells = parts.0;
          kind = n.kind;
          fits = shows.well_formed.fit.3;
        };
      }

-- the search begins below the Document
pub record Begins (steps : List PathStep) (w : NodeRow) (search : Search) : Type 0 where
  pub outer : search.outer.items ≡ []
  pub next : search.next ≡ w.first
  pub marks : search.level.marks.items ≡ marks_below steps (no_marks steps) w.kind w.label (is_document w.kind)
  pub last : search.level.last ≡ last_below steps (no_marks steps) w.kind w.label (is_document w.kind)

outcome_of : (steps : List PathStep) (m : RecordMap NodeRecord) (trees : Forest) (w : NodeRow) (search : Search) (outcome : Outcome) → IsTop m trees w → Begins steps w search
    → Finds steps (Some m) search [] outcome → IsOutcome [] search.left outcome (picked steps (no_marks steps) false trees) (size trees - 1)
unfolding Finds
outcome_of steps m trees w search outcome top begins come =
    let all = come m refl top.below [] 0 (subst (λ x. IsLevel m x top.below) (sym begins.next) top.level)
    (subst (λ l. Rest steps m (reverse l) [] 0) (sym begins.outer) (refl, refl)) in
    let inner : picked_on steps search.level top.below
    ≡ picked steps (marks_below steps (no_marks steps) top.node.kind top.node.label (is_document top.node.kind))
    (last_below steps (no_marks steps) top.node.kind top.node.label (is_document top.node.kind)) top.below
    = (λ i. picked steps (begins.marks i) (begins.last i) top.below)
    ∙ (λ i. picked steps (marks_below steps (no_marks steps) (top.kind i) (top.label i) (is_document (top.kind i)))
    (last_below steps (no_marks steps) (top.kind i) (top.label i) (is_document (top.kind i))) top.below) in
    let visits : size top.below + 0 ≡ size (tree_then top.node top.below no_trees) - 1 = omega arith in
    subst (λ t. IsOutcome [] search.left outcome (picked steps (no_marks steps) false t) (size t - 1)) (sym top.trees_are)
    (subst (λ v. IsOutcome [] search.left outcome (picked steps (no_marks steps) false (tree_then top.node top.below no_trees)) v) visits
    (subst (λ l. IsOutcome [] search.left outcome (l ++ []) (size top.below + 0)) inner all))

-- a search over records that stayed the same, with nothing listed before it
pub from_start : (steps : List PathStep) (o mid : Option (RecordMap NodeRecord)) (search : Search) (out : List ℕ) (outcome : Outcome) → mid ≡ o → out ≡ []
    → Finds steps mid search out outcome → Finds steps o search [] outcome
from_start steps o mid search out outcome same none come =
    subst (λ x. Finds steps x search [] outcome) same (subst (λ l. Finds steps mid search l outcome) none come)

pub begins : (steps : List PathStep) (w : NodeRow) (search : Search) (top : List Mark) → search.outer.items ≡ [] → search.next ≡ w.first → top ≡ no_marks steps
    → search.level.marks.items ≡ marks_below steps top w.kind w.label (is_document w.kind)
    → search.level.last ≡ last_below steps top w.kind w.label (is_document w.kind) → Begins steps w search
begins steps w search top outer next none marks last = record {
  outer = outer;
  next = next;
  marks = marks ∙ ap (λ l. marks_below steps l w.kind w.label (is_document w.kind)) none;
  last = last ∙ ap (λ l. last_below steps l w.kind w.label (is_document w.kind)) none;
}

pub err_sound : {T : Type 0} (r : Result T Fault) (fault : Fault) (P : Type 0) → IsErrAnd r (λ e. e ≡ fault) → (IsDamaged fault → P) → IfErr r (λ e. IsDamaged e → P)
err_sound (Ok x) fault P is come = absurd is
err_sound (Err e) fault P is come = λ damage. come (subst IsDamaged is damage)

pub selects_found : (steps : List PathStep) (o : Option (RecordMap NodeRecord)) (w : NodeRow) (search : Search) (listed : List ℕ) (rest : ℕ) → Tells o 0 (Some w) → Begins steps w search
    → Finds steps o search [] (found listed rest) → Selects o steps listed
unfolding Selects
selects_found steps None w search listed rest there begins come = λ local number trees shows. absurd shows.holds
selects_found steps (Some m) w search listed rest there begins come = λ local number trees shows.
    (outcome_of steps m trees w search (found listed rest) (top_of local number m trees w shows there) begins come).0 ∙ picked-selected steps trees shows.well_formed.distinct

pub visits_once : (steps : List PathStep) (o : Option (RecordMap NodeRecord)) (w : NodeRow) (search : Search) (listed : List ℕ) (rest start mid new : ℕ) → Tells o 0 (Some w) → Begins steps w search
    → Finds steps o search [] (found listed rest) → new + rest ≤ mid + search.left → mid ≤ start + 1 → VisitsEachOnce o start new
unfolding VisitsEachOnce
visits_once steps None w search listed rest start mid new there begins come gets first = λ local number trees shows. absurd shows.holds
visits_once steps (Some m) w search listed rest start mid new there begins come gets first = λ local number trees shows.
    let top = top_of local number m trees w shows there in
    let all = outcome_of steps m trees w search (found listed rest) top begins come in
    omega (arith, all.1, gets, first, ap size top.trees_are)

pub document_damaged : (steps : List PathStep) (o : Option (RecordMap NodeRecord)) (w : NodeRow) (search : Search) (count : ℕ) → Tells o 0 (Some w) → Begins steps w search
    → search.left ≡ count - 1 → Finds steps o search [] damaged → IsNoDocument o count
unfolding IsNoDocument
document_damaged steps None w search count there begins left come = λ local number trees shows few. absurd shows.holds
document_damaged steps (Some m) w search count there begins left come = λ local number trees shows few.
    outcome_of steps m trees w search damaged (top_of local number m trees w shows there) begins come (omega (arith, left, few))

-- ---- no document

first_there : (ks : List ℕ) → slice_get ks 0 ≡ Some 0 → has ks 0 ≡ false → ⊥
first_there [] zero new = absurd cc
first_there (k ∷ ks) zero new =
    let same : k ≡ 0 = some_number k 0 zero in
    absurd (cc (sym (subst (λ q. has (q ∷ ks) 0 ≡ false) same new)))

pub selects_nothing : (steps : List PathStep) (o : Option (RecordMap NodeRecord)) (listed : List ℕ) → listed ≡ [] → Tells o 0 None → Selects o steps listed
unfolding Selects
selects_nothing steps o listed none absent = λ local number trees shows. absurd (first_there (numbers trees) shows.well_formed.zero (not_there local number trees o 0 shows absent))

pub visits_nothing : (o : Option (RecordMap NodeRecord)) (old new : ℕ) → Tells o 0 None → VisitsEachOnce o old new
unfolding VisitsEachOnce
visits_nothing o old new absent = λ local number trees shows. absurd (first_there (numbers trees) shows.well_formed.zero (not_there local number trees o 0 shows absent))

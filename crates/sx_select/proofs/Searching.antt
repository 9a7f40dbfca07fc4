-- A search for selected nodes, step by step.
use Rattle.std.proofs.Common.{◌≡◌, ℕ, ◌+◌, ◌-◌, ◌<◌, Bool, List, [], ◌∷◌, ◌++◌, reverse, take, Option, Some, None, refl, sym, ap, subst, ◌∙◌, append_assoc, append-nil, zero-add, inl, inr, arith}
use Rattle.std.specs.Global.{Vec}
use Rattle.std.specs.Option.{option_or}
use Rattle.std.specs.Prelude.{Result, Ok, Err, IsErrAnd, MatchResult}
use Rattle.std.proofs.lemmas.List.{reverse-append}
use Rattle.sx_bytes.specs.declared.damage.Damage.{Damage}
use Rattle.sx_tree.specs.declared.record.Kind.TheVariants.{Key}
use Rattle.sx_tree.specs.declared.record.NodeRecord.{NodeRecord}
use Rattle.sx_tree.specs.declared.steps.PathStep.{PathStep}
use Rattle.sx_view.specs.Records.{Explains, IsDamaged, RecordMap}
use Rattle.sx_view.proofs.Failing.{undamaged}
use Rattle.sx_view.specs.declared.fault.Fault.{Fault}
use Rattle.sx_view.specs.declared.fault.Fault.TheVariants.{Failed, Damaged, OutOfMemory}
use Rattle.sx_model.specs.Records.{NodeRow, around_children, first_of, row, rows}
use Rattle.sx_model.specs.Tree.{Node, Forest, no_trees, tree_then, is_document, size}
use Rattle.sx_model.proofs.Holes.{or_none}
use Rattle.sx_cursor.specs.Damage.{IsBrokenLink}
use Rattle.sx_cursor.specs.Told.{Tells}
use Rattle.sx_cursor.proofs.Telling.{tells-parts, tells-once, some_is, some_number}
use Rattle.sx_text.proofs.Writing.{never_bare}
use Rattle.sx_select.specs.Marks.{last_below, listed_one, marks_below, picked}
use Rattle.sx_select.specs.Search.{AreUp, IsRead, IsLevel, Rest, Outcome, found, damaged, IsOutcome, Finds, picked_on}
use Rattle.sx_select.specs.declared.level.Level.{Level}
use Rattle.sx_select.specs.declared.mark.Mark.{Mark}
use Rattle.sx_select.specs.declared.pending.Search.{Search}
use Rattle.sx_select.specs.declared.pending.Up.{Up}

-- ---- a node that comes next

-- the node's trees, its row, and the levels below it and beside it
record IsNext (m : RecordMap NodeRecord) (trees : Forest) (k : ℕ) (w : NodeRow) : Type 0 where
  node : Node
  below : Forest
  rest : Forest
  trees_are : trees ≡ tree_then node below rest
  number_is : node.number ≡ k
  kind : w.kind ≡ node.kind
  label : w.label ≡ node.label
  first : w.first ≡ first_of below
  under : IsLevel m w.first below
  beyond : IsLevel m w.right rest
  filled : w.kind ≡ Key → below ≡ no_trees → ⊥

next_node : (m : RecordMap NodeRecord) (next : Option ℕ) (trees : Forest) (k : ℕ) (w : NodeRow) → next ≡ Some k → Tells (Some m) k (Some w)
    → IsLevel m next trees → IsNext m trees k w
next_node m next no_trees k w some is level =
    let none = level.starts in
    absurd (cc (none ∙ some))
next_node m next (tree_then n below rest) k w some is level =
    let same : n.number ≡ k = some_number n.number k (level.starts ∙ some) in
    let told : Tells (Some m) n.number (Some (row level.local level.number (record level.around { right = option_or (first_of rest) level.around.right }) n below)) = level.tells.0 in
    let row_is = some_is _ _ (tells-once m k _ _ is (subst (λ q. Tells (Some m) q (Some (row level.local level.number (record level.around { right = option_or (first_of rest) level.around.right }) n below))) same told)) in
    let parts = tells-parts (Some m) (rows level.local level.number (around_children level.around n) below) _ level.tells.1 in
    let right : w.right ≡ first_of rest = ap (λ x. x.right) row_is ∙ ap (option_or (first_of rest)) level.ends ∙ or_none (first_of rest) in
    record {
      node = n;
      below = below;
      rest = rest;
      trees_are = refl;
      number_is = same;
      kind = ap (λ x. x.kind) row_is;
      label = ap (λ x. x.label) row_is;
      first = ap (λ x. x.first) row_is;
      under = record {
        local = level.local;
        number = level.number;
        around = around_children level.around n;
        starts = sym (ap (λ x. x.first) row_is);
        ends = refl;
        tells = parts.0;
        kind = n.kind;
        fits = level.fits.3;
      };
      beyond = record {
        local = level.local;
        number = level.number;
        around = record level.around { left = Some n.number };
        starts = sym right;
        ends = level.ends;
        tells = parts.1;
        kind = level.kind;
        fits = level.fits.4;
      };
      filled = λ key empty. never_bare n.kind below level.fits.2 (sym (ap (λ x. x.kind) row_is) ∙ key) empty;
    }

-- what is listed of a node, of those below it and of those behind it
turned : (outcome : Outcome) (one inner outer more before after : List ℕ) (left visits : ℕ) (n : Node) (below rest : Forest) → 0 < left → after ≡ before ++ one
    → IsOutcome after (left - 1) outcome (inner ++ (outer ++ more)) (size below + (size rest + visits))
    → IsOutcome before left outcome ((one ++ (inner ++ outer)) ++ more) (size (tree_then n below rest) + visits)
turned (found listed rest_left) one inner outer more before after left visits n below rest room is come =
    let grouped : (before ++ one) ++ (inner ++ (outer ++ more)) ≡ before ++ ((one ++ (inner ++ outer)) ++ more) = simp append_assoc in
    (come.0 ∙ ap (λ l. l ++ (inner ++ (outer ++ more))) is ∙ grouped, omega (arith, come.1))
turned damaged one inner outer more before after left visits n below rest room is come = λ few. come (omega arith)

no_first : (next : Option ℕ) (trees : Forest) → next ≡ None → first_of trees ≡ next → trees ≡ no_trees
no_first next no_trees none starts = refl
no_first next (tree_then n below rest) none starts = absurd (cc (starts ∙ none))

told_some : (o : Option (RecordMap NodeRecord)) (m : RecordMap NodeRecord) (k : ℕ) (row : Option NodeRow) → o ≡ Some m → Tells o k row → Tells (Some m) k row
told_some o m k row told there = subst (λ x. Tells x k row) told there

module _ (steps : List PathStep) (o : Option (RecordMap NodeRecord)) (old : Search) (k : ℕ) (w : NodeRow) (before after : List ℕ) (outcome : Outcome)
    (some : old.next ≡ Some k) (room : 0 < old.left) (there : Tells o k (Some w)) (lists : after ≡ before ++ listed_one old.level.last k) where
  pub finds-enter : (outer : Vec Up) (level : Level) → outer.items ≡ old.outer.items ++ record { number = k; right = w.right; level = old.level } ∷ []
      → level.marks.items ≡ marks_below steps old.level.marks.items w.kind w.label (is_document w.kind)
      → level.last ≡ last_below steps old.level.marks.items w.kind w.label (is_document w.kind)
      → Finds steps o (record { outer = outer; level = level; from = k; next = w.first; left = old.left - 1 }) after outcome → Finds steps o old before outcome
  unfolding Finds
  finds-enter outer level pushed marks last come = λ m told trees more visits here rest.
      let next = next_node m old.next trees k w some (told_some o m k (Some w) told there) here in
      let up : Up = record { number = k; right = w.right; level = old.level } in
      let stack : reverse outer.items ≡ up ∷ reverse old.outer.items = ap reverse pushed ∙ reverse-append old.outer.items (up ∷ []) in
      let waits : Rest steps m (up ∷ reverse old.outer.items) (picked_on steps old.level next.rest ++ more) (size next.rest + visits)
      = (next.rest, (more, (visits, (next.beyond, refl, refl, rest)))) in
      let below = come m told next.below _ _ next.under (subst (λ s. Rest steps m s (picked_on steps old.level next.rest ++ more) (size next.rest + visits)) (sym stack) waits) in
      let inner : picked_on steps level next.below
      ≡ picked steps (marks_below steps old.level.marks.items next.node.kind next.node.label (is_document next.node.kind))
      (last_below steps old.level.marks.items next.node.kind next.node.label (is_document next.node.kind)) next.below
      = (λ i. picked steps (marks i) (last i) next.below)
      ∙ (λ i. picked steps (marks_below steps old.level.marks.items (next.kind i) (next.label i) (is_document (next.kind i)))
      (last_below steps old.level.marks.items (next.kind i) (next.label i) (is_document (next.kind i))) next.below) in
      let one : after ≡ before ++ listed_one old.level.last next.node.number = lists ∙ (λ i. before ++ listed_one old.level.last (sym next.number_is i)) in
      subst (λ t. IsOutcome before old.left outcome (picked_on steps old.level t ++ more) (size t + visits)) (sym next.trees_are)
      (turned outcome (listed_one old.level.last next.node.number) _ (picked_on steps old.level next.rest) more before after old.left visits next.node next.below next.rest room one
      (subst (λ l. IsOutcome after (old.left - 1) outcome (l ++ (picked_on steps old.level next.rest ++ more)) (size next.below + (size next.rest + visits))) inner below))

  pub finds-leaf : w.first ≡ None
      → Finds steps o (record { outer = old.outer; level = old.level; from = k; next = w.right; left = old.left - 1 }) after outcome → Finds steps o old before outcome
  unfolding Finds
  finds-leaf leaf come = λ m told trees more visits here rest.
      let next = next_node m old.next trees k w some (told_some o m k (Some w) told there) here in
      let empty = no_first w.first next.below leaf (sym next.first) in
      let beyond = come m told next.rest more visits next.beyond rest in
      let one : after ≡ before ++ listed_one old.level.last next.node.number = lists ∙ (λ i. before ++ listed_one old.level.last (sym next.number_is i)) in
      subst (λ t. IsOutcome before old.left outcome (picked_on steps old.level t ++ more) (size t + visits)) (sym (next.trees_are ∙ (λ i. tree_then next.node (empty i) next.rest)))
      (turned outcome (listed_one old.level.last next.node.number) [] (picked_on steps old.level next.rest) more before after old.left visits next.node no_trees next.rest room one
      (subst (λ v. IsOutcome after (old.left - 1) outcome (picked_on steps old.level next.rest ++ more) v) (sym (zero-add (size next.rest + visits))) beyond))

module _ (steps : List PathStep) (o : Option (RecordMap NodeRecord)) (old : Search) (before : List ℕ) (outcome : Outcome) where
  pub finds-bare : (k : ℕ) (w : NodeRow) → old.next ≡ Some k → Tells o k (Some w) → w.kind ≡ Key → w.first ≡ None → Finds steps o old before outcome
  unfolding Finds
  finds-bare k w some there key leaf = λ m told trees more visits here rest.
      let next = next_node m old.next trees k w some (told_some o m k (Some w) told there) here in
      absurd (next.filled key (no_first w.first next.below leaf (sym next.first)))

  absent_node : (m : RecordMap NodeRecord) (next : Option ℕ) (trees : Forest) (k : ℕ) → next ≡ Some k → Tells (Some m) k None → IsLevel m next trees → ⊥
  absent_node m next no_trees k some is level = absurd (cc (level.starts ∙ some))
  absent_node m next (tree_then n below rest) k some is level =
      let same : n.number ≡ k = some_number n.number k (level.starts ∙ some) in
      absurd (cc (tells-once m n.number _ None level.tells.0 (subst (λ q. Tells (Some m) q None) (sym same) is)))

  pub finds-absent : (k : ℕ) → old.next ≡ Some k → Tells o k None → Finds steps o old before outcome
  unfolding Finds
  finds-absent k some there = λ m told trees more visits here rest. absurd (absent_node m old.next trees k some (told_some o m k None told there) here)

  pub finds-untold : o ≡ None → Finds steps o old before outcome
  unfolding Finds
  finds-untold untold = λ m told trees more visits here rest. absurd (cc (sym untold ∙ told))

  -- ---- the end of a level

  pub finds-leave : (outer : Vec Up) (up : Up) → old.next ≡ None → old.outer.items ≡ outer.items ++ up ∷ []
      → Finds steps o (record { outer = outer; level = up.level; from = up.number; next = up.right; left = old.left }) before outcome → Finds steps o old before outcome
  unfolding Finds
  finds-leave outer up none popped come = λ m told trees more visits here rest.
      let stack : reverse old.outer.items ≡ up ∷ reverse outer.items = ap reverse popped ∙ reverse-append outer.items (up ∷ []) in
      let waits = subst (λ s. Rest steps m s more visits) stack rest in
      let parts = waits.1.1.1 in
      let beyond = come m told waits.0 waits.1.0 waits.1.1.0 parts.0 parts.3 in
      let empty = no_first old.next trees none here.starts in
      subst (λ t. IsOutcome before old.left outcome (picked_on steps old.level t ++ more) (size t + visits)) (sym empty)
      (subst (λ x. IsOutcome before old.left outcome x (0 + visits)) (sym parts.1)
      (subst (λ v. IsOutcome before old.left outcome (picked_on steps up.level waits.0 ++ waits.1.0) v) (sym (zero-add visits ∙ parts.2)) beyond))

some_trees : (next : Option ℕ) (trees : Forest) (k : ℕ) → next ≡ Some k → first_of trees ≡ next → 0 < size trees
some_trees next no_trees k some starts = absurd (cc (starts ∙ some))
some_trees next (tree_then n below rest) k some starts = omega arith

module _ (steps : List PathStep) (o : Option (RecordMap NodeRecord)) (old : Search) (before : List ℕ) where
  pub finds-out : (k : ℕ) → old.next ≡ Some k → old.left ≡ 0 → Finds steps o old before damaged
  unfolding Finds
  finds-out k some out = λ m told trees more visits here rest few.
      let long = some_trees old.next trees k some here.starts in
      absurd (omega arith)

  pub finds-end : old.next ≡ None → old.outer.items ≡ [] → Finds steps o old before (found before old.left)
  unfolding Finds
  finds-end none last = λ m told trees more visits here rest.
      let waits = subst (λ s. Rest steps m s more visits) (ap reverse last) rest in
      let empty = no_first old.next trees none here.starts in
      subst (λ t. IsOutcome before old.left (found before old.left) (picked_on steps old.level t ++ more) (size t + visits)) (sym empty)
      (sym (append-nil before) ∙ ap (λ l. before ++ l) (sym waits.0), omega (arith, waits.1))

-- ---- what has been read

all_more : (o : Option (RecordMap NodeRecord)) (xs : List Up) (x : Up) → AreUp o xs → AreUp o (x ∷ []) → AreUp o (xs ++ x ∷ [])
all_more o [] x all is = is
all_more o (y ∷ ys) x all is = (all.0, all_more o ys x all.1 is)

all_front : (o : Option (RecordMap NodeRecord)) (xs : List Up) (x : Up) → AreUp o (xs ++ x ∷ []) → AreUp o xs × AreUp o (x ∷ [])
all_front o [] x is = (tt, is)
all_front o (y ∷ ys) x is =
    let rest = all_front o ys x is.1 in
    ((is.0, rest.0), rest.1)

pub read-enter : (o : Option (RecordMap NodeRecord)) (old : Search) (k : ℕ) (w : NodeRow) (outer : Vec Up) (level : Level) → IsRead o old → Tells o k (Some w)
    → outer.items ≡ old.outer.items ++ record { number = k; right = w.right; level = old.level } ∷ []
    → IsRead o (record { outer = outer; level = level; from = k; next = w.first; left = old.left - 1 })
read-enter o old k w outer level read there pushed = record {
  outer = subst (AreUp o) (sym pushed) (all_more o old.outer.items _ read.outer ((w, (there, refl)), tt));
  linked = λ to is. (w, (there, inl is));
}

pub read-leave : (o : Option (RecordMap NodeRecord)) (old : Search) (outer : Vec Up) (up : Up) → IsRead o old → old.outer.items ≡ outer.items ++ up ∷ []
    → IsRead o (record { outer = outer; level = up.level; from = up.number; next = up.right; left = old.left })
read-leave o old outer up read popped =
    let parts = all_front o outer.items up (subst (AreUp o) popped read.outer) in
    record {
      outer = parts.0;
      linked = λ to is. (parts.1.0.0, (parts.1.0.1.0, inr (parts.1.0.1.1 ∙ is)));
    }

pub none_up : (old new : List Up) (len : ℕ) → len ≡ 0 → new ≡ take (len - 1) old → old ≡ new ++ [] → old ≡ []
none_up old new len none rest is =
    let gone : len - 1 ≡ 0 = omega arith in
    is ∙ append-nil new ∙ rest ∙ ap (λ k. take k old) gone

-- ---- faults

pub absent_finds : {T : Type 0} (steps : List PathStep) (o : Option (RecordMap NodeRecord)) (old : Search) (from to : ℕ) (before : List ℕ) (below : Damage → Type 0) (rose : Type 0) (r : Result T Fault) (fault : Fault) (P : T → Type 0)
    → old.next ≡ Some to → IsErrAnd r (λ e. e ≡ fault) → ((d : Damage) → below d → o ≡ None) → Explains below rose (IsBrokenLink o from to) fault → MatchResult r P (λ e. IsDamaged e → Finds steps o old before damaged)
absent_finds steps o old from to before below rose (Ok x) fault P some is untold why = absurd is
absent_finds steps o old from to before below rose (Err e) fault P some is untold why = λ damage.
    undamaged below (IsBrokenLink o from to) rose (Finds steps o old before damaged) fault (λ d told. finds-untold steps o old before damaged (untold d told))
    (λ d broken. finds-absent steps o old before damaged to some broken.0) why (subst IsDamaged is damage)

pub pushed_level : (outer old : List Up) (k : ℕ) (right : Option ℕ) (a b : Level) → outer ≡ old ++ record { number = k; right = right; level = a } ∷ [] → a ≡ b
    → outer ≡ old ++ record { number = k; right = right; level = b } ∷ []
pushed_level outer old k right a b is same = is ∙ (λ i. old ++ record { number = k; right = right; level = same i } ∷ [])

pub marks_of : (a b : Level) (marks : List Mark) → a ≡ b → b.marks.items ≡ marks → a.marks.items ≡ marks
marks_of a b marks same is = ap (λ x. x.marks.items) same ∙ is

pub last_of_level : (a b : Level) (last : Bool) → a ≡ b → b.last ≡ last → a.last ≡ last
last_of_level a b last same is = ap (λ x. x.last) same ∙ is

-- The text of a node, step by step.
use Rattle.std.proofs.Common.{◌≡◌, ℕ, ◌+◌, ◌-◌, ◌<◌, ◌≤◌, Bool, true, false, List, [], ◌∷◌, ◌++◌, length, reverse, take, Option, Some, None, refl, sym, ap, subst, ◌∙◌, append_assoc, append-nil, zero-add, inl, inr, arith}
use Rattle.std.specs.Global.{Vec}
use Rattle.std.specs.Option.{option_or}
use Rattle.std.proofs.lemmas.List.{reverse-append}
use Rattle.sx_tree.specs.declared.record.Kind.{Kind}
use Rattle.sx_tree.specs.declared.record.Kind.TheVariants.{Key}
use Rattle.sx_tree.specs.declared.record.NodeRecord.{NodeRecord}
use Rattle.sx_tree.specs.declared.record.Step.{Step}
use Rattle.sx_view.specs.Records.{RecordMap}
use Rattle.sx_model.specs.Records.{NodeRow, Around, around_children, first_of, row, rows}
use Rattle.sx_model.specs.Tree.{Node, Forest, no_trees, tree_then, FitBelow, HasChildren, may_stand_below, size, tops}
use Rattle.sx_model.specs.TreeText.{closing, comma, opening, texts}
use Rattle.sx_model.proofs.Holes.{or_none}
use Rattle.sx_cursor.specs.Told.{Tells, TellsAll}
use Rattle.sx_cursor.proofs.Telling.{tells-parts, tells-once, some_is, some_number}
use Rattle.sx_text.specs.Pen.{IsOpen, AreOpen, IsRead, IsLevel, Rest, Outcome, wrote, damaged, IsOutcome, Writes}
use Rattle.sx_text.specs.declared.pen.Open.{Open}
use Rattle.sx_text.specs.declared.pen.Pen.{Pen}

-- ---- a node that comes next

-- the node's trees, its row, and the levels below it and beside it
record IsNext (m : RecordMap NodeRecord) (above : Open) (begun : Bool) (trees : Forest) (k : ℕ) (w : NodeRow) : Type 0 where
  node : Node
  below : Forest
  rest : Forest
  trees_are : trees ≡ tree_then node below rest
  kind : w.kind ≡ node.kind
  label : w.label ≡ node.label
  stands : may_stand_below above.kind w.kind ≡ true
  under : IsLevel m (record { number = k; kind = w.kind; right = w.right }) false w.first below
  beyond : IsLevel m above true w.right rest

pub never_bare : (kind : Kind) (below : Forest) → HasChildren (Some kind) (tops below) → kind ≡ Key → below ≡ no_trees → ⊥
never_bare kind below has is none =
    let one : length (tops below) ≡ 1 = subst (λ x. HasChildren (Some x) (tops below)) is has in
    absurd (omega (arith, sym (ap (λ t. length (tops t)) none) ∙ one))

pub true_false : true ≡ false → ⊥
true_false is = absurd cc

next_node : (m : RecordMap NodeRecord) (above : Open) (begun : Bool) (next : Option ℕ) (trees : Forest) (k : ℕ) (w : NodeRow) → next ≡ Some k → Tells (Some m) k (Some w)
    → IsLevel m above begun next trees → IsNext m above begun trees k w
next_node m above begun next no_trees k w some is level =
    let none = level.starts in
    absurd (cc (none ∙ some))
next_node m above begun next (tree_then n below rest) k w some is level =
    let same : n.number ≡ k = some_number n.number k (level.starts ∙ some) in
    let told : Tells (Some m) n.number (Some (row level.local level.number (record level.around { right = option_or (first_of rest) level.around.right }) n below)) = level.tells.0 in
    let row_is = some_is _ _ (tells-once m k _ _ is (subst (λ q. Tells (Some m) q (Some (row level.local level.number (record level.around { right = option_or (first_of rest) level.around.right }) n below))) same told)) in
    let parts = tells-parts (Some m) (rows level.local level.number (around_children level.around n) below) _ level.tells.1 in
    let kind : w.kind ≡ n.kind = ap (λ x. x.kind) row_is in
    let right : w.right ≡ first_of rest = ap (λ x. x.right) row_is ∙ ap (option_or (first_of rest)) level.ends ∙ or_none (first_of rest) in
    let under : IsLevel m (record { number = k; kind = w.kind; right = w.right }) false w.first below = record {
      local = level.local;
      number = level.number;
      around = around_children level.around n;
      starts = sym (ap (λ x. x.first) row_is);
      ends = refl;
      tells = parts.0;
      fits = subst (λ x. FitBelow (Some x) below) (sym kind) level.fits.3;
      filled = λ key begins none. never_bare n.kind below level.fits.2 (sym kind ∙ key) none;
    } in
    let beyond : IsLevel m above true w.right rest = record {
      local = level.local;
      number = level.number;
      around = record level.around { left = Some n.number };
      starts = sym right;
      ends = level.ends;
      tells = parts.1;
      fits = level.fits.4;
      filled = λ key begins none. true_false begins;
    } in
    record {
      node = n;
      below = below;
      rest = rest;
      trees_are = refl;
      kind = kind;
      label = ap (λ x. x.label) row_is;
      stands = subst (λ x. may_stand_below above.kind x ≡ true) (sym kind) level.fits.0;
      under = under;
      beyond = beyond;
    }

-- the text of the node and of those behind it, once its beginning is written
turned : (outcome : Outcome) (begun : Bool) (n : Node) (below rest : Forest) (more before after : List ℕ) (left visits : ℕ) → 0 < left
    → after ≡ (before ++ comma begun) ++ opening n.kind n.label
    → IsOutcome after (left - 1) outcome (texts false below ++ (closing n.kind ++ (texts true rest ++ more))) (size below + (size rest + visits))
    → IsOutcome before left outcome (texts begun (tree_then n below rest) ++ more) (size (tree_then n below rest) + visits)
turned (wrote text rest_left) begun n below rest more before after left visits room is come =
    let grouped : ((before ++ comma begun) ++ opening n.kind n.label) ++ (texts false below ++ (closing n.kind ++ (texts true rest ++ more)))
    ≡ before ++ ((comma begun ++ (opening n.kind n.label ++ (texts false below ++ (closing n.kind ++ texts true rest)))) ++ more)
    = simp append_assoc in
    (come.0 ∙ ap (λ l. l ++ (texts false below ++ (closing n.kind ++ (texts true rest ++ more)))) is ∙ grouped, omega (arith, come.1))
turned damaged begun n below rest more before after left visits room is come = λ few. come (omega arith)

pub writes-enter : (o : Option (RecordMap NodeRecord)) (old : Pen) (k : ℕ) (w : NodeRow) (outer : Vec Open) (before after : List ℕ) (outcome : Outcome)
    → old.next ≡ Some k → 0 < old.left → Tells o k (Some w) → outer.items ≡ old.outer.items ++ old.above ∷ [] → after ≡ (before ++ comma old.begun) ++ opening w.kind w.label
    → Writes o (record { outer = outer; above = record { number = k; kind = w.kind; right = w.right }; from = k; next = w.first; begun = false; left = old.left - 1 }) after outcome
    → Writes o old before outcome
unfolding Writes
writes-enter o old k w outer before after outcome some room there pushed written come = λ m told trees more visits level rest.
    let next = next_node m old.above old.begun old.next trees k w some (subst (λ x. Tells x k (Some w)) told there) level in
    let stack : reverse outer.items ≡ old.above ∷ reverse old.outer.items = ap reverse pushed ∙ reverse-append old.outer.items (old.above ∷ []) in
    let inner : Open = record { number = k; kind = w.kind; right = w.right } in
    let waits : Rest m inner (old.above ∷ reverse old.outer.items) (closing w.kind ++ (texts true next.rest ++ more)) (size next.rest + visits)
    = (next.rest, (more, (visits, (next.beyond, refl, refl, rest)))) in
    let below = come m told next.below _ _ next.under (subst (λ s. Rest m inner s (closing w.kind ++ (texts true next.rest ++ more)) (size next.rest + visits)) (sym stack) waits) in
    let kinds : after ≡ (before ++ comma old.begun) ++ opening next.node.kind next.node.label = written ∙ (λ i. (before ++ comma old.begun) ++ opening (next.kind i) (next.label i)) in
    subst (λ t. IsOutcome before old.left outcome (texts old.begun t ++ more) (size t + visits)) (sym next.trees_are)
    (turned outcome old.begun next.node next.below next.rest more before after old.left visits room kinds
    (subst (λ x. IsOutcome after (old.left - 1) outcome (texts false next.below ++ (closing x ++ (texts true next.rest ++ more))) (size next.below + (size next.rest + visits))) next.kind below))

pub writes-misplaced : (o : Option (RecordMap NodeRecord)) (old : Pen) (k : ℕ) (w : NodeRow) (before : List ℕ) (outcome : Outcome)
    → old.next ≡ Some k → Tells o k (Some w) → may_stand_below old.above.kind w.kind ≡ false → Writes o old before outcome
unfolding Writes
writes-misplaced o old k w before outcome some there wrong = λ m told trees more visits level rest.
    let next = next_node m old.above old.begun old.next trees k w some (subst (λ x. Tells x k (Some w)) told there) level in
    absurd (true_false (sym next.stands ∙ wrong))

absent_node : (m : RecordMap NodeRecord) (above : Open) (begun : Bool) (next : Option ℕ) (trees : Forest) (k : ℕ) → next ≡ Some k → Tells (Some m) k None → IsLevel m above begun next trees → ⊥
absent_node m above begun next no_trees k some is level = absurd (cc (level.starts ∙ some))
absent_node m above begun next (tree_then n below rest) k some is level =
    let same : n.number ≡ k = some_number n.number k (level.starts ∙ some) in
    absurd (cc (tells-once m n.number _ None level.tells.0 (subst (λ q. Tells (Some m) q None) (sym same) is)))

pub writes-absent : (o : Option (RecordMap NodeRecord)) (old : Pen) (k : ℕ) (before : List ℕ) (outcome : Outcome) → old.next ≡ Some k → Tells o k None → Writes o old before outcome
unfolding Writes
writes-absent o old k before outcome some there = λ m told trees more visits level rest.
    absurd (absent_node m old.above old.begun old.next trees k some (subst (λ x. Tells x k None) told there) level)

pub writes-untold : (o : Option (RecordMap NodeRecord)) (old : Pen) (before : List ℕ) (outcome : Outcome) → o ≡ None → Writes o old before outcome
unfolding Writes
writes-untold o old before outcome untold = λ m told trees more visits level rest. absurd (cc (sym untold ∙ told))

some_trees : (next : Option ℕ) (trees : Forest) (k : ℕ) → next ≡ Some k → first_of trees ≡ next → 0 < size trees
some_trees next no_trees k some starts = absurd (cc (starts ∙ some))
some_trees next (tree_then n below rest) k some starts = omega arith

pub writes-out : (o : Option (RecordMap NodeRecord)) (old : Pen) (k : ℕ) (before : List ℕ) → old.next ≡ Some k → old.left ≡ 0 → Writes o old before damaged
unfolding Writes
writes-out o old k before some out = λ m told trees more visits level rest few.
    let long = some_trees old.next trees k some level.starts in
    absurd (omega arith)

-- ---- the end of a node

no_first : (next : Option ℕ) (trees : Forest) → next ≡ None → first_of trees ≡ next → trees ≡ no_trees
no_first next no_trees none starts = refl
no_first next (tree_then n below rest) none starts = absurd (cc (starts ∙ none))

pub writes-bare : (o : Option (RecordMap NodeRecord)) (old : Pen) (before : List ℕ) (outcome : Outcome) → old.next ≡ None → old.begun ≡ false → old.above.kind ≡ Key → Writes o old before outcome
unfolding Writes
writes-bare o old before outcome none begins key = λ m told trees more visits level rest.
    absurd (level.filled key begins (no_first old.next trees none level.starts))

ended : (outcome : Outcome) (more before after close : List ℕ) (left visits : ℕ) → after ≡ before ++ close → IsOutcome after left outcome more visits → IsOutcome before left outcome (close ++ more) visits
ended (wrote text rest) more before after close left visits is come = (come.0 ∙ ap (λ l. l ++ more) is ∙ append_assoc before close more, come.1)
ended damaged more before after close left visits is come = come

pub writes-leave : (o : Option (RecordMap NodeRecord)) (old : Pen) (outer : Vec Open) (inner : Open) (from : ℕ) (before after : List ℕ) (outcome : Outcome)
    → old.next ≡ None → old.outer.items ≡ outer.items ++ inner ∷ [] → after ≡ before ++ closing old.above.kind
    → Writes o (record { outer = outer; above = inner; from = from; next = old.above.right; begun = true; left = old.left }) after outcome → Writes o old before outcome
unfolding Writes
writes-leave o old outer inner from before after outcome none popped written come = λ m told trees more visits level rest.
    let stack : reverse old.outer.items ≡ inner ∷ reverse outer.items = ap reverse popped ∙ reverse-append outer.items (inner ∷ []) in
    let waits = subst (λ s. Rest m old.above s more visits) stack rest in
    let parts = waits.1.1.1 in
    let beyond = come m told waits.0 waits.1.0 waits.1.1.0 parts.0 parts.3 in
    let text : more ≡ closing old.above.kind ++ (texts true waits.0 ++ waits.1.0) = parts.1 in
    let empty = no_first old.next trees none level.starts in
    let whole = ended outcome (texts true waits.0 ++ waits.1.0) before after (closing old.above.kind) old.left _ written beyond in
    subst (λ t. IsOutcome before old.left outcome (texts old.begun t ++ more) (size t + visits)) (sym empty)
    (subst (λ x. IsOutcome before old.left outcome x (0 + visits)) (sym text)
    (subst (λ v. IsOutcome before old.left outcome (closing old.above.kind ++ (texts true waits.0 ++ waits.1.0)) v) (sym (zero-add visits ∙ parts.2)) whole))

pub none_left : (old new : List Open) (len : ℕ) → len ≡ 0 → new ≡ take (len - 1) old → old ≡ new ++ [] → old ≡ []
none_left old new len none rest is =
    let gone : len - 1 ≡ 0 = omega arith in
    is ∙ append-nil new ∙ rest ∙ ap (λ k. take k old) gone

pub writes-end : (o : Option (RecordMap NodeRecord)) (old : Pen) (before after : List ℕ) → old.next ≡ None → old.outer.items ≡ [] → after ≡ before ++ closing old.above.kind
    → Writes o old before (wrote after old.left)
unfolding Writes
writes-end o old before after none last written = λ m told trees more visits level rest.
    let waits = subst (λ s. Rest m old.above s more visits) (ap reverse last) rest in
    let empty = no_first old.next trees none level.starts in
    let text : after ≡ before ++ more = written ∙ ap (λ l. before ++ l) (sym waits.0) in
    subst (λ t. IsOutcome before old.left (wrote after old.left) (texts old.begun t ++ more) (size t + visits)) (sym empty) (text, omega (arith, waits.1))

-- ---- what has been read

all_more : (o : Option (RecordMap NodeRecord)) (xs : List Open) (x : Open) → AreOpen o xs → IsOpen o x → AreOpen o (xs ++ x ∷ [])
all_more o [] x all is = (is, tt)
all_more o (y ∷ ys) x all is = (all.0, all_more o ys x all.1 is)

pub read-enter : (o : Option (RecordMap NodeRecord)) (old : Pen) (k : ℕ) (w : NodeRow) (outer : Vec Open) → IsRead o old → Tells o k (Some w) → outer.items ≡ old.outer.items ++ old.above ∷ []
    → IsRead o (record { outer = outer; above = record { number = k; kind = w.kind; right = w.right }; from = k; next = w.first; begun = false; left = old.left - 1 })
read-enter o old k w outer read there pushed = record {
  above = (w, (there, refl, refl));
  outer = subst (AreOpen o) (sym pushed) (all_more o old.outer.items old.above read.outer read.above);
  linked = λ to is. (w, (there, inl is));
  first = λ begins. (w, (there, refl, refl));
}

all_front : (o : Option (RecordMap NodeRecord)) (xs : List Open) (x : Open) → AreOpen o (xs ++ x ∷ []) → AreOpen o xs × IsOpen o x
all_front o [] x is = (tt, is.0)
all_front o (y ∷ ys) x is =
    let rest = all_front o ys x is.1 in
    ((is.0, rest.0), rest.1)

pub read-leave : (o : Option (RecordMap NodeRecord)) (old : Pen) (outer : Vec Open) (inner : Open) → IsRead o old → old.outer.items ≡ outer.items ++ inner ∷ []
    → IsRead o (record { outer = outer; above = inner; from = old.above.number; next = old.above.right; begun = true; left = old.left })
read-leave o old outer inner read popped =
    let parts = all_front o outer.items inner (subst (AreOpen o) popped read.outer) in
    record {
      above = parts.1;
      outer = parts.0;
      linked = λ to is. (read.above.0, (read.above.1.0, inr (read.above.1.2 ∙ is)));
      first = λ begins. absurd (true_false begins);
    }

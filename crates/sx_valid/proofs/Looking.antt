-- The children of an object are looked through, one after the other.
use Rattle.std.proofs.Common.{◌≡◌, ◌+◌, ◌-◌, ◌<◌, ◌≤◌, ◌&&◌, ◌||◌, ◌⊎◌, ℕ, ℤ, Bool, true, false, not, if◌then◌else◌, List, Option, None, Some, option_map, refl, sym, ap, subst, ◌∙◌, inl, inr, arith}
use Rattle.std.specs.Prelude.{Result, Ok, Err, IfErr, IsErrAnd, MatchResult, bytes_eq}
use Rattle.std.specs.Option.{is_some, option_or, unwrap_or}
use Rattle.sx_tree.specs.declared.record.Kind.{Kind}
use Rattle.sx_tree.specs.declared.record.NodeRecord.{NodeRecord}
use Rattle.sx_view.specs.declared.fault.Fault.{Fault}
use Rattle.sx_view.specs.Records.{IsDamaged, RecordMap}
use Rattle.sx_view.specs.Rows.{row_of}
use Rattle.sx_model.specs.Records.{Around, NodeRow, around_children, first_of, row, rows}
use Rattle.sx_model.specs.Tree.{Forest, HasChildren, Node, count, is_key, is_object, no_trees, tops, tree_then}
use Rattle.sx_model.specs.Valid.{field, has_begun, has_not_ended, value_of_key}
use Rattle.sx_cursor.specs.Told.{Tells}
use Rattle.sx_cursor.proofs.Telling.{some_is, some_number, tells-once, tells-parts}
use Rattle.sx_valid.specs.Fields.{IsOutcome, IsRow, LacksValue, Looks, LooksOn, Outcome, begins, found_or, judged, lasts_on, overrun, reach, value_seen}
use Rattle.sx_valid.specs.Survey.{AreTooFew, IsJudged}
use Rattle.sx_valid.specs.declared.asked.Asked.{Asked}
use Rattle.sx_valid.specs.declared.fields.Look.{Look}

or_none : {T : Type 0} (x : Option T) → option_or x None ≡ x
or_none None = refl
or_none (Some t) = refl

-- What is told of the first of trees side by side: its row, and the rows below it and behind it.
pub record IsHead (m : RecordMap NodeRecord) (above : Option Kind) (w : NodeRow) (n : Node) (below rest : Forest) : Type 0 where
  pub kind : w.kind ≡ n.kind
  pub label : w.label ≡ n.label
  pub under : IsRow m (Some n.kind) w.first below
  pub behind : IsRow m above w.right rest
  pub children : HasChildren (Some n.kind) (tops below)

pub head : (m : RecordMap NodeRecord) (above : Option Kind) (k : ℕ) (w : NodeRow) (n : Node) (below rest : Forest)
    → IsRow m above (Some k) (tree_then n below rest) → Tells (Some m) k (Some w) → IsHead m above w n below rest
head m above k w n below rest trees is =
    let around : Around = trees.around in
    let own : NodeRow = row trees.local trees.number (record around { right = option_or (first_of rest) around.right }) n below in
    let same : own ≡ w = some_is own w (tells-once m k (Some own) (Some w) (subst (λ q. Tells (Some m) q (Some own)) (some_number n.number k trees.starts) trees.tells.0) is) in
    let parts = tells-parts (Some m) (rows trees.local trees.number (around_children around n) below) _ trees.tells.1 in
    record {
      kind = ap (λ x. x.kind) (sym same);
      label = ap (λ x. x.label) (sym same);
      under = record {
        local = trees.local;
        number = trees.number;
        around = around_children around n;
        starts = ap (λ x. x.first) same;
        ends = refl;
        tells = parts.0;
        fits = trees.fits.3;
      };
      behind = record {
        local = trees.local;
        number = trees.number;
        around = record around { left = Some n.number };
        starts = sym (or_none (first_of rest)) ∙ (ap (option_or (first_of rest)) (sym trees.ends) ∙ ap (λ x. x.right) same);
        ends = trees.ends;
        tells = parts.1;
        fits = trees.fits.4;
      };
      children = trees.fits.2;
    }

never_first : (trees : Forest) → first_of trees ≡ None → trees ≡ no_trees
never_first no_trees none = refl
never_first (tree_then n below rest) none = absurd cc

-- ---- the end

pub looked_through : (o : Option (RecordMap NodeRecord)) (asked : Asked) (old : Look) → old.next ≡ None → Looks o asked old (judged old.begun old.lasts old.left)
unfolding Looks
looked_through o asked old none = λ m told above keys trees.
    let no_more = never_first keys (trees.starts ∙ none) in
    subst (IsOutcome asked old (judged old.begun old.lasts old.left)) (sym no_more)
    (sym (or_none old.begun), sym (or_none old.lasts), omega arith)

-- ---- a look that fails

-- the first of trees side by side is told
pub never_absent : (m : RecordMap NodeRecord) (above : Option Kind) (next : Option ℕ) (k : ℕ) (n : Node) (below rest : Forest) → IsRow m above next (tree_then n below rest) → n.number ≡ k → Tells (Some m) k None → ⊥
never_absent m above next k n below rest trees is absent =
    let own : NodeRow = row trees.local trees.number (record trees.around { right = option_or (first_of rest) trees.around.right }) n below in
    absurd (cc (tells-once m k (Some own) None (subst (λ q. Tells (Some m) q (Some own)) is trees.tells.0) absent))

fails_at : (m : RecordMap NodeRecord) (above : Option Kind) (k left : ℕ) (keys : Forest) → IsRow m above (Some k) keys → (left ≡ 0) ⊎ Tells (Some m) k None → left < reach keys
fails_at m above k left no_trees trees why = absurd (cc trees.starts)
fails_at m above k left (tree_then n below rest) trees (inl none) = omega (arith, none)
fails_at m above k left (tree_then n below rest) trees (inr absent) = absurd (never_absent m above (Some k) k n below rest trees (some_number n.number k trees.starts) absent)

pub look_fails : (o : Option (RecordMap NodeRecord)) (asked : Asked) (old : Look) (k : ℕ) → old.next ≡ Some k → (old.left ≡ 0) ⊎ Tells o k None → Looks o asked old overrun
unfolding Looks
look_fails o asked old k next (inl none) = λ m told above keys trees. fails_at m above k old.left keys (subst (λ x. IsRow m above x keys) next trees) (inl none)
look_fails o asked old k next (inr absent) = λ m told above keys trees.
    fails_at m above k old.left keys (subst (λ x. IsRow m above x keys) next trees) (inr (subst (λ x. Tells x k None) told absent))

pub look_fails-err : {T : Type 0} (r : Result T Fault) (P : T → Type 0) (o : Option (RecordMap NodeRecord)) (asked : Asked) (old : Look) (k : ℕ) (fault : Fault) → IsErrAnd r (λ e. e ≡ fault)
    → old.next ≡ Some k → (IsDamaged fault → (old.left ≡ 0) ⊎ Tells o k None) → MatchResult r P (λ e. IsDamaged e → Looks o asked old overrun)
look_fails-err (Ok x) P o asked old k fault is next why = absurd is
look_fails-err (Err e) P o asked old k fault is next why = λ damaged. look_fails o asked old k next (why (subst IsDamaged is damaged))

-- a Key has a child
key_filled : (kind : Kind) (below : Forest) → is_key kind ≡ true → HasChildren (Some kind) (tops below) → 1 ≤ count below
key_filled kind (tree_then n under rest) key one = omega arith
key_filled kind no_trees key one = absurd (grind (arith, key, one))

never_there : (m : RecordMap NodeRecord) (above : Option Kind) (first : Option ℕ) (trees : Forest) → IsRow m above first trees → 1 ≤ count trees → LacksValue (Some m) first → ⊥
never_there m above first no_trees row filled lacks = absurd (omega (arith, filled))
never_there m above first (tree_then n below rest) row filled lacks = never_absent m above first n.number n below rest row refl (lacks n.number (sym row.starts))

value_fails-at : (m : RecordMap NodeRecord) (above : Option Kind) (k left : ℕ) (w : NodeRow) (keys : Forest) → IsRow m above (Some k) keys → Tells (Some m) k (Some w) → is_key w.kind ≡ true
    → (left - 1 ≡ 0) ⊎ LacksValue (Some m) w.first → left < reach keys
value_fails-at m above k left w no_trees trees is key why = absurd (cc trees.starts)
value_fails-at m above k left w (tree_then n below rest) trees is key why =
    let top = head m above k w n below rest trees is in
    let own : is_key n.kind ≡ true = ap is_key (sym top.kind) ∙ key in
    let filled = key_filled n.kind below own top.children in
    let cost : (if is_key n.kind then count below else 0) ≡ count below = ap (λ b. if b then count below else 0) own in
    by why filled cost top.under
  where
    by : (left - 1 ≡ 0) ⊎ LacksValue (Some m) w.first → 1 ≤ count below → (if is_key n.kind then count below else 0) ≡ count below → IsRow m (Some n.kind) w.first below
        → left < reach (tree_then n below rest)
    by (inl none) filled cost under = omega (arith, none, filled, cost)
    by (inr lacks) filled cost under = absurd (never_there m (Some n.kind) w.first below under filled lacks)

pub value_fails : (o : Option (RecordMap NodeRecord)) (asked : Asked) (old : Look) (k : ℕ) (w : NodeRow) → old.next ≡ Some k → Tells o k (Some w) → is_key w.kind ≡ true
    → (old.left - 1 ≡ 0) ⊎ LacksValue o w.first → Looks o asked old overrun
unfolding Looks
value_fails o asked old k w next is key why = λ m told above keys trees.
    value_fails-at m above k old.left w keys (subst (λ x. IsRow m above x keys) next trees) (subst (λ x. Tells x k (Some w)) told is) key
    (subst (λ x. (old.left - 1 ≡ 0) ⊎ LacksValue x w.first) told why)

-- ---- a child that is looked at

either_key : (x y b l : Bool) (kind : Bool) (f t : Bool) → b ≡ (x && (kind && f)) → l ≡ (y && (kind && t)) → (b || l) ≡ true → kind ≡ true
either_key x y b l true f t one other found = refl
either_key x y b l false f t one other found = absurd (grind (arith, one, other, found))

pub value_fails-err : {T : Type 0} (r : Result T Fault) (P : T → Type 0) (o : Option (RecordMap NodeRecord)) (asked : Asked) (old : Look) (k : ℕ) (w : NodeRow) (b l f t : Bool) (fault : Fault)
    → IsErrAnd r (λ e. e ≡ fault) → old.next ≡ Some k → Tells o k (Some w)
    → b ≡ (not (is_some old.begun) && (is_key w.kind && f)) → l ≡ (not (is_some old.lasts) && (is_key w.kind && t)) → (b || l) ≡ true
    → (IsDamaged fault → (old.left - 1 ≡ 0) ⊎ LacksValue o w.first) → MatchResult r P (λ e. IsDamaged e → Looks o asked old overrun)
value_fails-err (Ok x) P o asked old k w b l f t fault is next there one other found why = absurd is
value_fails-err (Err e) P o asked old k w b l f t fault is next there one other found why = λ damaged.
    value_fails o asked old k w next there (either_key _ _ b l (is_key w.kind) f t one other found) (why (subst IsDamaged is damaged))

found_step : (judge : Node → Bool) (name : List ℕ) (n : Node) (below rest : Forest) (before : Option Bool) (here value : Bool)
    → here ≡ (not (is_some before) && (is_key n.kind && bytes_eq n.label name)) → (here ≡ true → option_map judge (value_of_key below) ≡ Some value)
    → found_or (if here then Some value else before) judge name rest ≡ found_or before judge name (tree_then n below rest)
found_step judge name n below rest (Some b) here value is seen = ap (λ h. found_or (if h then Some value else Some b) judge name rest) is
found_step judge name n below rest None here value is seen = by (is_key n.kind && bytes_eq n.label name) refl
  where
    by : (named : Bool) → (is_key n.kind && bytes_eq n.label name) ≡ named → found_or (if here then Some value else None) judge name rest ≡ found_or None judge name (tree_then n below rest)
    by true named =
        ap (λ h. found_or (if h then Some value else None) judge name rest) (is ∙ named) ∙ sym (seen (is ∙ named))
        ∙ ap (λ h. option_map judge (if h then value_of_key below else field name rest)) (sym named)
    by false named =
        ap (λ h. found_or (if h then Some value else None) judge name rest) (is ∙ named)
        ∙ ap (λ h. option_map judge (if h then value_of_key below else field name rest)) (sym named)

step_on : (asked : Asked) (old new : Look) (n : Node) (below rest : Forest) (outcome : Outcome)
    → found_or new.begun (begins asked.time) asked.from.now rest ≡ found_or old.begun (begins asked.time) asked.from.now (tree_then n below rest)
    → found_or new.lasts (lasts_on asked.time) asked.to.now rest ≡ found_or old.lasts (lasts_on asked.time) asked.to.now (tree_then n below rest)
    → old.left ≤ new.left + (1 + (if is_key n.kind then count below else 0)) → IsOutcome asked new outcome rest → IsOutcome asked old outcome (tree_then n below rest)
step_on asked old new n below rest (judged b l left) from to few come = (come.0 ∙ from, come.1 ∙ to, omega (arith, few, come.2))
step_on asked old new n below rest overrun from to few come = omega (arith, few, come)

neither : (b l : Bool) → (b || l) ≡ false → (b ≡ false) × (l ≡ false)
neither true l none = absurd (cc none)
neither false l none = (refl, none)

passed-at : (m : RecordMap NodeRecord) (asked : Asked) (old : Look) (above : Option Kind) (k : ℕ) (w : NodeRow) (keys : Forest) → IsRow m above (Some k) keys → Tells (Some m) k (Some w)
    → false ≡ (not (is_some old.begun) && (is_key w.kind && bytes_eq w.label asked.from.now)) → false ≡ (not (is_some old.lasts) && (is_key w.kind && bytes_eq w.label asked.to.now))
    → (outcome : Outcome) → Looks (Some m) asked (record { from = k; next = w.right; left = old.left - 1; begun = old.begun; lasts = old.lasts }) outcome → IsOutcome asked old outcome keys
unfolding Looks
passed-at m asked old above k w no_trees trees is one other outcome come = absurd (cc trees.starts)
passed-at m asked old above k w (tree_then n below rest) trees is one other outcome come =
    let top = head m above k w n below rest trees is in
    step_on asked old (record { from = k; next = w.right; left = old.left - 1; begun = old.begun; lasts = old.lasts }) n below rest outcome
    (found_step (begins asked.time) asked.from.now n below rest old.begun false false
    (one ∙ λ i. not (is_some old.begun) && (is_key (top.kind i) && bytes_eq (top.label i) asked.from.now)) (λ no. absurd (cc no)))
    (found_step (lasts_on asked.time) asked.to.now n below rest old.lasts false false
    (other ∙ λ i. not (is_some old.lasts) && (is_key (top.kind i) && bytes_eq (top.label i) asked.to.now)) (λ no. absurd (cc no)))
    (omega arith) (come m refl above rest top.behind)

pub passed : (o : Option (RecordMap NodeRecord)) (asked : Asked) (old : Look) (k : ℕ) (w : NodeRow) (b l : Bool) → old.next ≡ Some k → Tells o k (Some w)
    → b ≡ (not (is_some old.begun) && (is_key w.kind && bytes_eq w.label asked.from.now)) → l ≡ (not (is_some old.lasts) && (is_key w.kind && bytes_eq w.label asked.to.now))
    → (b || l) ≡ false → LooksOn o asked old (record { from = k; next = w.right; left = old.left - 1; begun = old.begun; lasts = old.lasts }) true
unfolding Looks
passed o asked old k w b l next is one other none = λ outcome come m told above keys trees.
    let no = neither b l none in
    passed-at m asked old above k w keys (subst (λ x. IsRow m above x keys) next trees) (subst (λ x. Tells x k (Some w)) told is) (sym no.0 ∙ one) (sym no.1 ∙ other) outcome
    (subst (λ x. Looks x asked (record { from = k; next = w.right; left = old.left - 1; begun = old.begun; lasts = old.lasts }) outcome) told come)

-- the value below a Key, by the record that was read
value_there : (m : RecordMap NodeRecord) (judge : Node → Bool) (above : Option Kind) (to : ℕ) (v : NodeRecord) (below : Forest)
    → ((n : Node) → judge n ≡ judge (record { number = 0; kind = n.kind; label = n.label })) → IsRow m above (Some to) below → Tells (Some m) to (Some (row_of v))
    → option_map judge (value_of_key below) ≡ Some (judge (value_seen v))
value_there m judge above to v no_trees plain row is = absurd (cc row.starts)
value_there m judge above to v (tree_then n below rest) plain row is =
    let top = head m above to (row_of v) n below rest row is in
    ap Some (plain n ∙ λ i. judge (record { number = 0; kind = sym top.kind i; label = sym top.label i }))

filled_by : (m : RecordMap NodeRecord) (above : Option Kind) (to : ℕ) (below : Forest) → IsRow m above (Some to) below → 1 ≤ count below
filled_by m above to no_trees row = absurd (cc row.starts)
filled_by m above to (tree_then n below rest) row = omega arith

settled-at : (m : RecordMap NodeRecord) (asked : Asked) (old new : Look) (above : Option Kind) (k to : ℕ) (w : NodeRow) (v : NodeRecord) (b l : Bool) (keys : Forest)
    → IsRow m above (Some k) keys → Tells (Some m) k (Some w) → w.first ≡ Some to → Tells (Some m) to (Some (row_of v)) → is_key w.kind ≡ true
    → b ≡ (not (is_some old.begun) && (is_key w.kind && bytes_eq w.label asked.from.now)) → l ≡ (not (is_some old.lasts) && (is_key w.kind && bytes_eq w.label asked.to.now))
    → new.next ≡ w.right → new.left ≡ old.left - 2
    → new.begun ≡ (if b then Some (begins asked.time (value_seen v)) else old.begun) → new.lasts ≡ (if l then Some (lasts_on asked.time (value_seen v)) else old.lasts)
    → (outcome : Outcome) → Looks (Some m) asked new outcome → IsOutcome asked old outcome keys
unfolding Looks
settled-at m asked old new above k to w v b l no_trees trees is first there key one other next left begun lasts outcome come = absurd (cc trees.starts)
settled-at m asked old new above k to w v b l (tree_then n below rest) trees is first there key one other next left begun lasts outcome come =
    let top = head m above k w n below rest trees is in
    let under = subst (λ x. IsRow m (Some n.kind) x below) first top.under in
    let cost : (if is_key n.kind then count below else 0) ≡ count below = ap (λ x. if x then count below else 0) (ap is_key (sym top.kind) ∙ key) in
    step_on asked old new n below rest outcome
    (ap (λ x. found_or x (begins asked.time) asked.from.now rest) begun
    ∙ found_step (begins asked.time) asked.from.now n below rest old.begun b (begins asked.time (value_seen v))
    (one ∙ λ i. not (is_some old.begun) && (is_key (top.kind i) && bytes_eq (top.label i) asked.from.now)) (λ _. value_there m (begins asked.time) (Some n.kind) to v below (λ x. refl) under there))
    (ap (λ x. found_or x (lasts_on asked.time) asked.to.now rest) lasts
    ∙ found_step (lasts_on asked.time) asked.to.now n below rest old.lasts l (lasts_on asked.time (value_seen v))
    (other ∙ λ i. not (is_some old.lasts) && (is_key (top.kind i) && bytes_eq (top.label i) asked.to.now)) (λ _. value_there m (lasts_on asked.time) (Some n.kind) to v below (λ x. refl) under there))
    (omega (arith, left, cost, filled_by m (Some n.kind) to below under))
    (come m refl above rest (subst (λ x. IsRow m above x rest) (sym next) top.behind))

-- a value that was read and judged
pub record IsSettled (o : Option (RecordMap NodeRecord)) (asked : Asked) (old new : Look) (w : NodeRow) (v : NodeRecord) : Type 0 where
  pub here : Bool
  pub there : Bool
  pub one : here ≡ (not (is_some old.begun) && (is_key w.kind && bytes_eq w.label asked.from.now))
  pub other : there ≡ (not (is_some old.lasts) && (is_key w.kind && bytes_eq w.label asked.to.now))
  pub found : (here || there) ≡ true
  pub value : (to : ℕ) × (w.first ≡ Some to) × Tells o to (Some (row_of v))
  pub next : new.next ≡ w.right
  pub left : new.left ≡ old.left - 2
  pub begun : new.begun ≡ (if here then Some (begins asked.time (value_seen v)) else old.begun)
  pub lasts : new.lasts ≡ (if there then Some (lasts_on asked.time (value_seen v)) else old.lasts)

pub settled : (o : Option (RecordMap NodeRecord)) (asked : Asked) (old new : Look) (k : ℕ) (w : NodeRow) (v : NodeRecord) → old.next ≡ Some k → Tells o k (Some w)
    → IsSettled o asked old new w v → LooksOn o asked old new true
unfolding Looks
settled o asked old new k w v next is by = λ outcome come m told above keys trees.
    settled-at m asked old new above k by.value.0 w v by.here by.there keys (subst (λ x. IsRow m above x keys) next trees) (subst (λ x. Tells x k (Some w)) told is) by.value.1
    (subst (λ x. Tells x by.value.0 (Some (row_of v))) told by.value.2) (either_key _ _ by.here by.there (is_key w.kind) _ _ by.one by.other by.found)
    by.one by.other by.next by.left by.begun by.lasts outcome (subst (λ x. Looks x asked new outcome) told come)

-- ---- one object

unwrap_begun : (time : ℤ) (value : Option Node) → unwrap_or (option_map (begins time) value) false ≡ has_begun time value
unwrap_begun time None = refl
unwrap_begun time (Some n) = refl

unwrap_lasts : (time : ℤ) (value : Option Node) → unwrap_or (option_map (lasts_on time) value) true ≡ has_not_ended time value
unwrap_lasts time None = refl
unwrap_lasts time (Some n) = refl

pub judged_object : (o : Option (RecordMap NodeRecord)) (asked : Asked) (look : Look) (kind : Kind) (end : Look) (b l : Bool) → look.begun ≡ None → look.lasts ≡ None → is_object kind ≡ true
    → Looks o asked look (judged end.begun end.lasts end.left) → b ≡ unwrap_or end.begun false → l ≡ unwrap_or end.lasts true → IsJudged o asked kind look.next look.left (b && l, end.left)
unfolding Looks IsJudged
judged_object o asked look kind end b l none nothing object come one other = λ m told above keys row.
    let all = come m told above keys row in
    let first : b ≡ has_begun asked.time (field asked.from.now keys)
    = one ∙ (ap (λ x. unwrap_or x false) (all.0 ∙ ap (λ x. found_or x (begins asked.time) asked.from.now keys) none) ∙ unwrap_begun asked.time (field asked.from.now keys)) in
    let second : l ≡ has_not_ended asked.time (field asked.to.now keys)
    = other ∙ (ap (λ x. unwrap_or x true) (all.1 ∙ ap (λ x. found_or x (lasts_on asked.time) asked.to.now keys) nothing) ∙ unwrap_lasts asked.time (field asked.to.now keys)) in (
      (λ i. first i && second i) ∙ ap (λ x. x && (has_begun asked.time (field asked.from.now keys) && has_not_ended asked.time (field asked.to.now keys))) (sym object),
      omega (arith, all.2, ap (λ x. if x then reach keys else 0) object),
    )

pub judged_too_few : {T : Type 0} (r : Result T Fault) (o : Option (RecordMap NodeRecord)) (asked : Asked) (look : Look) (kind : Kind) (fault : Fault) → IsErrAnd r (λ e. e ≡ fault) → is_object kind ≡ true
    → (IsDamaged fault → Looks o asked look overrun) → IfErr r (λ e. IsDamaged e → AreTooFew o kind look.next look.left)
unfolding Looks AreTooFew
judged_too_few (Ok x) o asked look kind fault is object why = absurd is
judged_too_few (Err e) o asked look kind fault is object why = λ damaged m told above keys row.
    omega (arith, why (subst IsDamaged is damaged) m told above keys row, ap (λ x. if x then reach keys else 0) object)

-- What a change in a hole leaves of a sound state.
use Rattle.std.proofs.Common.{◌≡◌, ◌≤◌, ◌+◌, ℕ, suc, Bool, true, false, cond, not, ◌&&◌, ◌||◌, List, [], ◌∷◌, ◌++◌, map, length, max, slice_get, Option, Some, None, refl, ap, sym, subst, ◌∙◌, arith, append_assoc, append-nil, nat_lt, length-append}
use Rattle.std.specs.Prelude.{IsTrue, bytes_eq, find, filter, is_none, is_some, option_map, option_and_then, sum_by, ◌==◌}
use Rattle.std.specs.List.{list_any}
use Rattle.std.proofs.lemmas.Bool.{false≢true}
use Rattle.std.proofs.lemmas.Bool.Decides.{nat_tests}
use Rattle.std.proofs.lemmas.Cmp.{nat_list_eq_equiv}
use Rattle.std.proofs.lemmas.List.{map-append}
use Rattle.std.proofs.lemmas.List.Elements.{filter-append}
use Rattle.sx_tree.specs.declared.edit.EditRefusal.TheVariants.{NameTaken, DocumentFull}
use Rattle.std.proofs.lemmas.Grind.{common_steps}
use Rattle.sx_tree.specs.declared.edit.EditRefusal.{EditRefusal}
use Rattle.sx_tree.specs.declared.record.Kind.{Kind}
use Rattle.sx_tree.specs.declared.record.Kind.TheVariants.{Document, Object, Array, Key, Str, Number, Bool as Truth, Null}
use Rattle.sx_tree.specs.declared.json.Scalar.{Scalar}
use Rattle.sx_tree.specs.declared.json.Scalar.TheVariants as scalars
use Rattle.sx_tree.specs.Text.{IsText}
use Rattle.sx_tree.specs.Value.{Value, depth, nodes}
use Rattle.sx_model.specs.Edit.{number_limit, path_limit, nesting_limit, with_trees, entering, IsName, name_taken, document_full, too_deep}
use Rattle.sx_model.specs.Holes.{Frame, plug}
use Rattle.sx_model.specs.Limits.{KeepsLimits, ScalarKeepsLimits}
use Rattle.sx_model.specs.Numbered.{numbered, scalar_node}
use Rattle.sx_model.specs.Sound.{AreBelow, IsSound}
use Rattle.sx_model.specs.State.{State}
use Rattle.sx_model.specs.Tree.{Node, Forest, no_trees, tree_then, beside, numbers, tops, nesting, AreApart, AreDistinctNumbers, HasChildren, FitBelow, IsLabelOf, IsWellFormed, is_key, is_scalar, is_object, is_document, is_value, may_stand, may_stand_below, levels}
use Rattle.sx_model.proofs.Accepted.{when_none}
use Rattle.sx_model.proofs.Apart.{apart-without, apart-with, below_front, below_back, below_join, below_more, up_from, up_from_below, up_from_apart, up_from_away}
use Rattle.sx_model.proofs.NumberedTrees.{scalar_number, scalar_fits, numbers-numbered, nesting-numbered, fit-numbered, tops-numbered, top_of, TakesValues}
use Rattle.sx_model.proofs.Spots.{has, has-append, distinct_apart, distinct_back}
use Rattle.sx_model.proofs.Plugging.{fit_front, fit_back, fit_join, tops-beside, numbers-beside, nesting-beside, Stand, above, stand_inside, stand_outside, numbers_before, numbers_behind, numbers-plug, levels_above, nesting-plug}

-- ---- some numbers go, and the next ones come

symm : (x y : ℕ) → (x == y) ≡ (y == x)
symm x y = grind (arith, common_steps)

numbers_change : (next count : ℕ) (xs out ys : List ℕ) → AreDistinctNumbers (xs ++ (out ++ ys)) → AreBelow next (xs ++ (out ++ ys))
    → AreDistinctNumbers (xs ++ (up_from next count ++ ys)) × AreBelow (next + count) (xs ++ (up_from next count ++ ys))
numbers_change next count xs out ys distinct below =
    let same = λ (k m : ℕ). k == m in
    let kept = apart-without same xs out ys distinct in
    let front = below_front next xs (out ++ ys) below in
    let back = below_back next out ys (below_back next xs (out ++ ys) below) in (
      apart-with same symm xs (up_from next count) ys kept (up_from_apart next count) (up_from_away next next count (xs ++ ys) (omega arith) (below_join next xs ys front back)),
      below_join (next + count) xs (up_from next count ++ ys) (below_more next count xs front)
          (below_join (next + count) (up_from next count) ys (up_from_below next count) (below_more next count ys back)),
    )

same_first : (xs ys zs : List ℕ) → (xs ≡ [] → ⊥) → slice_get (xs ++ ys) 0 ≡ slice_get (xs ++ zs) 0
same_first [] ys zs some = absurd (some refl)
same_first (x ∷ xs) ys zs some = refl

-- ---- a change in a hole

pub record IsChange (state : State) (frames : List Frame) (old new : Forest) (count : ℕ) : Type 0 where
  pub trees : state.trees ≡ plug frames old
  pub stand : Stand (above frames) new
  pub nested : levels_above frames + nesting new ≤ nesting_limit
  pub before : List ℕ
  pub out : List ℕ
  pub behind : List ℕ
  pub some : before ≡ [] → ⊥
  pub numbers_old : numbers (plug frames old) ≡ before ++ (out ++ behind)
  pub numbers_new : numbers (plug frames new) ≡ before ++ (up_from state.next count ++ behind)

pub sound-change : (state : State) (frames : List Frame) (old new : Forest) (count : ℕ) → IsSound state → IsChange state frames old new count
    → state.next + count ≤ number_limit → length (with_trees state count (plug frames new)).paths ≤ path_limit
    → IsSound (with_trees state count (plug frames new))
sound-change state frames old new count sound change room paths =
    let well = subst IsWellFormed change.trees sound.well_formed in
    let stood = stand_outside frames old new (well.one, well.fit) change.stand in
    let numbered = numbers_change state.next count change.before change.out change.behind
    (subst AreDistinctNumbers change.numbers_old well.distinct)
    (subst (AreBelow state.next) change.numbers_old (subst (λ (t : Forest). AreBelow state.next (numbers t)) change.trees sound.given)) in
    let nested_old : nesting (plug frames old) ≤ nesting_limit = subst (λ (t : Forest). nesting t ≤ nesting_limit) change.trees sound.nested in
    record {
      well_formed = record {
        one = stood.0;
        fit = stood.1;
        zero =
            ap (λ (ks : List ℕ). slice_get ks 0) change.numbers_new ∙ same_first change.before (up_from state.next count ++ change.behind) (change.out ++ change.behind) change.some
            ∙ ap (λ (ks : List ℕ). slice_get ks 0) (sym change.numbers_old) ∙ well.zero;
        distinct = subst AreDistinctNumbers (sym change.numbers_new) numbered.0;
      };
      given = subst (AreBelow (state.next + count)) (sym change.numbers_new) numbered.1;
      next = room;
      nested = omega (arith, nesting-plug frames old, nesting-plug frames new, nested_old, change.nested);
      paths = paths;
    }

-- ---- a value comes in

abbrev pub entering_nodes : Option (List ℕ) → Value → ℕ
entering_nodes None v = nodes v
entering_nodes (Some name) v = suc (nodes v)

numbers-entering : (name : Option (List ℕ)) (v : Value) (n : ℕ) (rest : Forest) → numbers (entering name v n rest) ≡ up_from n (entering_nodes name v) ++ numbers rest
numbers-entering None v n rest = numbers-numbered v n rest
numbers-entering (Some name) v n rest =
    let next : n + 1 ≡ suc n = omega arith in
    ap (λ (ks : List ℕ). n ∷ (ks ++ numbers rest)) (numbers-numbered v (n + 1) no_trees ∙ append-nil (up_from (n + 1) (nodes v)) ∙ ap (λ (m : ℕ). up_from m (nodes v)) next)

nesting-entering : (name : Option (List ℕ)) (v : Value) (n : ℕ) (rest : Forest) → nesting (entering name v n rest) ≡ max (depth v) (nesting rest)
nesting-entering None v n rest = nesting-numbered v n rest
nesting-entering (Some name) v n rest = omega (arith, nesting-numbered v (n + 1) no_trees)

-- Keys
abbrev AreKeys : List Node → Type 0
AreKeys [] = Unit {0}
AreKeys (n ∷ ns) = IsTrue (is_key n.kind) × AreKeys ns

keys_of : (trees : Forest) → FitBelow (Some Object) trees → AreKeys (tops trees)
keys_of no_trees fit = tt
keys_of (tree_then n below rest) fit = (fit.0, keys_of rest fit.4)

-- a name that is not taken is no Key's
untaken : (name : List ℕ) (ns : List Node) → AreKeys ns → name_taken name ns ≡ None → list_any (bytes_eq name) (map (λ n. n.label) ns) ≡ false
untaken name [] keys free = refl
untaken name (n ∷ ns) keys free =
    let key : is_key n.kind ≡ true = keys.0 in
    by (untaken name ns keys.1) (bytes_eq n.label name) (nat_list_eq_equiv.symm name n.label) (subst (λ (k : Bool). found k (bytes_eq n.label name) ≡ None) key free)
  where
    -- what is told of the first one, from whether it is a Key and has the name
    found : Bool → Bool → Option EditRefusal
    found k same = option_map (λ (m : Node). NameTaken m.number) (cond (k && same) (Some n) (find (λ m. is_key m.kind && bytes_eq m.label name) ns))

    by : (name_taken name ns ≡ None → list_any (bytes_eq name) (map (λ n. n.label) ns) ≡ false) → (same : Bool) → bytes_eq name n.label ≡ same → found true same ≡ None
        → (bytes_eq name n.label || list_any (bytes_eq name) (map (λ n. n.label) ns)) ≡ false
    by rest true is none = absurd (cc none)
    by rest false is none = rw is (rest none)

-- trees of which none stands at the top are none
no_tops : (xs ys : Forest) → (parent : Node) → is_document parent.kind ≡ true → document_full parent (tops (beside xs ys)) ≡ None → (xs ≡ no_trees) × (ys ≡ no_trees)
no_tops no_trees no_trees parent is full = (refl, refl)
no_tops no_trees (tree_then n below rest) parent is full = absurd (false≢true (sym (when_none (is_document parent.kind) (DocumentFull parent.number) full) ∙ is))
no_tops (tree_then n below rest) ys parent is full = absurd (false≢true (sym (when_none (is_document parent.kind) (DocumentFull parent.number) full) ∙ is))

-- the names of trees side by side
abbrev labels : Forest → List (List ℕ)
labels trees = map (λ n. n.label) (tops trees)

labels-beside : (xs ys : Forest) → labels (beside xs ys) ≡ labels xs ++ labels ys
labels-beside xs ys = ap (map (λ (n : Node). n.label)) (tops-beside xs ys) ∙ map-append (λ (n : Node). n.label) (tops xs) (tops ys)

document_takes : TakesValues (Some Document)
document_takes child is = is

array_takes : TakesValues (Some Array)
array_takes child is = is

key_takes : TakesValues (Some Key)
key_takes child is = is

-- a value, with a Key of this name in an Object, comes among children where no refusal stands
insert_stand : (kind : Kind) (number : ℕ) (label : List ℕ) (name : Option (List ℕ)) (v : Value) (n : ℕ) (xs ys : Forest)
    → is_key kind ≡ false → is_scalar kind ≡ false → (is_object kind && is_none name) ≡ false → (not (is_object kind) && is_some name) ≡ false
    → option_and_then (λ asked. name_taken asked (tops (beside xs ys))) name ≡ None → document_full (record { number = number; kind = kind; label = label }) (tops (beside xs ys)) ≡ None
    → IsName name → KeepsLimits v → Stand (Some kind) (beside xs ys) → Stand (Some kind) (beside xs (entering name v n ys))
insert_stand Document number label None v n xs ys no_key no_scalar missing unasked taken full is_name keeps stand =
    let none = no_tops xs ys (record { number = number; kind = Document; label = label }) refl full in
    let one : tops (beside no_trees (numbered v n no_trees)) ≡ top_of v n ∷ [] = tops-numbered v n no_trees in
    let there : Stand (Some Document) (beside no_trees (numbered v n no_trees)) =
    (subst (λ (ns : List Node). length ns ≤ 1) (sym one) (omega arith), fit-numbered v n (Some Document) no_trees document_takes keeps tt) in
    rw (none.0, none.1) there
insert_stand Document number label (Some name) v n xs ys no_key no_scalar missing unasked taken full is_name keeps stand = absurd (false≢true (sym unasked))
insert_stand Object number label None v n xs ys no_key no_scalar missing unasked taken full is_name keeps stand = absurd (false≢true (sym missing))
insert_stand Object number label (Some name) v n xs ys no_key no_scalar missing unasked taken full is_name keeps stand =
    let free = untaken name (tops (beside xs ys)) (keys_of (beside xs ys) stand.1) taken in
    let apart = apart-with bytes_eq nat_list_eq_equiv.symm (labels xs) (name ∷ []) (labels ys) (subst (AreApart bytes_eq) (labels-beside xs ys) stand.0) (refl, tt)
    (subst (λ (names : List (List ℕ)). list_any (bytes_eq name) names ≡ false) (labels-beside xs ys) free, tt) in (
      subst (AreApart bytes_eq) (sym (labels-beside xs (entering (Some name) v n ys))) apart,
      fit_join (Some Object) xs (entering (Some name) v n ys) (fit_front (Some Object) xs ys stand.1)
          (refl, is_name, ap (λ (ns : List Node). length ns) (tops-numbered v (n + 1) no_trees), fit-numbered v (n + 1) (Some Key) no_trees key_takes keeps tt, fit_back (Some Object) xs ys stand.1),
    )
insert_stand Array number label None v n xs ys no_key no_scalar missing unasked taken full is_name keeps stand = (
  tt,
  fit_join (Some Array) xs (numbered v n ys) (fit_front (Some Array) xs ys stand.1) (fit-numbered v n (Some Array) ys array_takes keeps (fit_back (Some Array) xs ys stand.1)),
)
insert_stand Array number label (Some name) v n xs ys no_key no_scalar missing unasked taken full is_name keeps stand = absurd (false≢true (sym unasked))
insert_stand Key number label name v n xs ys no_key no_scalar missing unasked taken full is_name keeps stand = absurd (false≢true (sym no_key))
insert_stand Str number label name v n xs ys no_key no_scalar missing unasked taken full is_name keeps stand = absurd (false≢true (sym no_scalar))
insert_stand Number number label name v n xs ys no_key no_scalar missing unasked taken full is_name keeps stand = absurd (false≢true (sym no_scalar))
insert_stand Truth number label name v n xs ys no_key no_scalar missing unasked taken full is_name keeps stand = absurd (false≢true (sym no_scalar))
insert_stand Null number label name v n xs ys no_key no_scalar missing unasked taken full is_name keeps stand = absurd (false≢true (sym no_scalar))

-- ---- a hole that is not at the top

ends_some : (xs : List ℕ) (k : ℕ) → xs ++ k ∷ [] ≡ [] → ⊥
ends_some [] k none = cc none
ends_some (x ∷ xs) k none = cc none

front_none : (xs ys : List ℕ) → xs ++ ys ≡ [] → xs ≡ []
front_none [] ys none = refl
front_none (x ∷ xs) ys none = cc none

-- there is a node before it
pub some_before : (frames : List Frame) (kind : Kind) (xs : List ℕ) → above frames ≡ Some kind → numbers_before frames ++ xs ≡ [] → ⊥
some_before [] kind xs is none = cc is
some_before (frame ∷ frames) kind xs is none =
    ends_some (numbers_before frames ++ numbers frame.before) frame.node.number
    (append_assoc (numbers_before frames) (numbers frame.before) (frame.node.number ∷ []) ∙ front_none (numbers_before frames ++ (numbers frame.before ++ frame.node.number ∷ [])) xs none)

nested_with : (xs ys : Forest) (name : Option (List ℕ)) (v : Value) (n up : ℕ) → up + nesting (beside xs ys) ≤ nesting_limit → up + depth v ≤ nesting_limit
    → up + nesting (beside xs (entering name v n ys)) ≤ nesting_limit
nested_with xs ys name v n up around fits =
    omega (arith, nesting-beside xs ys, nesting-beside xs (entering name v n ys), nesting-entering name v n ys)

pub insert_change : (state : State) (frames : List Frame) (xs ys : Forest) (parent : Node) (up : List Node) (name : Option (List ℕ)) (v : Value)
    → IsSound state → state.trees ≡ plug frames (beside xs ys) → above frames ≡ Some parent.kind → map (λ f. f.node) frames ≡ parent ∷ up
    → is_key parent.kind ≡ false → is_scalar parent.kind ≡ false → (is_object parent.kind && is_none name) ≡ false → (not (is_object parent.kind) && is_some name) ≡ false
    → option_and_then (λ asked. name_taken asked (tops (beside xs ys))) name ≡ None → document_full parent (tops (beside xs ys)) ≡ None → too_deep (parent ∷ up) v ≡ None
    → IsName name → KeepsLimits v → IsChange state frames (beside xs ys) (beside xs (entering name v state.next ys)) (entering_nodes name v)
insert_change state frames xs ys parent up name v sound trees kind nodes_are no_key no_scalar missing unasked taken full deep is_name keeps =
    let n = state.next in
    let well = subst IsWellFormed trees sound.well_formed in
    let stand = subst (λ (k : Option Kind). Stand k (beside xs ys)) kind (stand_inside frames (beside xs ys) (well.one, well.fit)) in
    let stood = insert_stand parent.kind parent.number parent.label name v n xs ys no_key no_scalar missing unasked taken full is_name keeps stand in
    let levels_are : levels_above frames ≡ sum_by (λ m. levels m.kind) (parent ∷ up) = ap (sum_by (λ (m : Node). levels m.kind)) nodes_are in
    let shallow : nat_lt nesting_limit (sum_by (λ m. levels m.kind) (parent ∷ up) + depth v) ≡ false = when_none _ _ deep in
    let nested_old : nesting (plug frames (beside xs ys)) ≤ nesting_limit = subst (λ (t : Forest). nesting t ≤ nesting_limit) trees sound.nested in
    let around : levels_above frames + nesting (beside xs ys) ≤ nesting_limit = omega (arith, nesting-plug frames (beside xs ys), nested_old) in
    let fits : levels_above frames + depth v ≤ nesting_limit = grind (arith, nat_tests, levels_are, shallow) in
    record {
      trees = trees;
      stand = subst (λ (k : Option Kind). Stand k (beside xs (entering name v n ys))) (sym kind) stood;
      nested = nested_with xs ys name v n (levels_above frames) around fits;
      before = numbers_before frames ++ numbers xs;
      out = [];
      behind = numbers ys ++ numbers_behind frames;
      some = some_before frames parent.kind (numbers xs) kind;
      numbers_old = simp (numbers-plug frames (beside xs ys), numbers-beside, append_assoc);
      numbers_new = simp (numbers-plug frames (beside xs (entering name v n ys)), numbers-beside, numbers-entering name v n ys, append_assoc);
    }

-- ---- a node where it stands, and what stands there instead

-- a kind below which a value stands takes values
takes_from : (kind : Option Kind) (child : Kind) → is_value child ≡ true → may_stand kind child ≡ true → TakesValues kind
takes_from None child value stands = absurd (by child value stands)
  where
    by : (child : Kind) → is_value child ≡ true → is_document child ≡ true → ⊥
    by Document value stands = false≢true value
    by Object value stands = false≢true stands
    by Array value stands = false≢true stands
    by Key value stands = false≢true value
    by Str value stands = false≢true stands
    by Number value stands = false≢true stands
    by Truth value stands = false≢true stands
    by Null value stands = false≢true stands
takes_from (Some Document) child value stands = document_takes
takes_from (Some Object) child value stands = absurd (by child value stands)
  where
    by : (child : Kind) → is_value child ≡ true → is_key child ≡ true → ⊥
    by Document value stands = false≢true value
    by Object value stands = false≢true stands
    by Array value stands = false≢true stands
    by Key value stands = false≢true value
    by Str value stands = false≢true stands
    by Number value stands = false≢true stands
    by Truth value stands = false≢true stands
    by Null value stands = false≢true stands
takes_from (Some Array) child value stands = array_takes
takes_from (Some Key) child value stands = key_takes
takes_from (Some Str) child value stands = absurd (false≢true stands)
takes_from (Some Number) child value stands = absurd (false≢true stands)
takes_from (Some Truth) child value stands = absurd (false≢true stands)
takes_from (Some Null) child value stands = absurd (false≢true stands)

same_length : (xs ys : List Node) (m n : Node) → length (xs ++ m ∷ ys) ≡ length (xs ++ n ∷ ys)
same_length [] ys m n = refl
same_length (x ∷ xs) ys m n = ap (λ (l : ℕ). suc l) (same_length xs ys m n)

-- one value among the children for another
children_replaced : (kind : Option Kind) (xs ys : List Node) (m n : Node) → TakesValues kind → HasChildren kind (xs ++ n ∷ ys) → HasChildren kind (xs ++ m ∷ ys)
children_replaced None xs ys m n takes has = absurd (false≢true (takes Str refl))
children_replaced (Some Document) xs ys m n takes has = subst (λ (l : ℕ). l ≤ 1) (same_length xs ys n m) has
children_replaced (Some Object) xs ys m n takes has = absurd (false≢true (takes Str refl))
children_replaced (Some Array) xs ys m n takes has = tt
children_replaced (Some Key) xs ys m n takes has = same_length xs ys m n ∙ has
children_replaced (Some Str) xs ys m n takes has = absurd (false≢true (takes Str refl))
children_replaced (Some Number) xs ys m n takes has = absurd (false≢true (takes Str refl))
children_replaced (Some Truth) xs ys m n takes has = absurd (false≢true (takes Str refl))
children_replaced (Some Null) xs ys m n takes has = absurd (false≢true (takes Str refl))

-- one child fewer
children_without : (kind : Kind) (xs ys : List Node) (n : Node) → is_key kind ≡ false → HasChildren (Some kind) (xs ++ n ∷ ys) → HasChildren (Some kind) (xs ++ ys)
children_without Document xs ys n no_key has = omega (arith, has, length-append xs (n ∷ ys), length-append xs ys)
children_without Object xs ys n no_key has =
    let label = λ (m : Node). m.label in
    subst (AreApart bytes_eq) (sym (map-append label xs ys)) (apart-without bytes_eq (map label xs) (n.label ∷ []) (map label ys) (subst (AreApart bytes_eq) (map-append label xs (n ∷ ys)) has))
children_without Array xs ys n no_key has = tt
children_without Key xs ys n no_key has = absurd (false≢true (sym no_key))
children_without Str xs ys n no_key has = tt
children_without Number xs ys n no_key has = tt
children_without Truth xs ys n no_key has = tt
children_without Null xs ys n no_key has = tt

-- a hole whose kind takes values is below a node
kind_of_hole : (frames : List Frame) → TakesValues (above frames) → (kind : Kind) × (above frames ≡ Some kind)
kind_of_hole [] takes = absurd (false≢true (takes Str refl))
kind_of_hole (frame ∷ frames) takes = (frame.node.kind, refl)

scalar_levels : (s : Scalar) (n : ℕ) → levels (scalar_node n s).kind ≡ 0
scalar_levels (scalars.Str content) n = refl
scalar_levels (scalars.Number literal) n = refl
scalar_levels (scalars.Bool true) n = refl
scalar_levels (scalars.Bool false) n = refl
scalar_levels scalars.Null n = refl

scalar_is_value : (kind : Kind) → is_scalar kind ≡ true → is_value kind ≡ true
scalar_is_value Document is = absurd (false≢true is)
scalar_is_value Object is = absurd (false≢true is)
scalar_is_value Array is = absurd (false≢true is)
scalar_is_value Key is = absurd (false≢true is)
scalar_is_value Str is = refl
scalar_is_value Number is = refl
scalar_is_value Truth is = refl
scalar_is_value Null is = refl

pub scalar_takes_none : (kind child : Kind) → is_scalar kind ≡ true → may_stand_below kind child ≡ true → ⊥
scalar_takes_none Document child is stands = false≢true is
scalar_takes_none Object child is stands = false≢true is
scalar_takes_none Array child is stands = false≢true is
scalar_takes_none Key child is stands = false≢true is
scalar_takes_none Str child is stands = false≢true stands
scalar_takes_none Number child is stands = false≢true stands
scalar_takes_none Truth child is stands = false≢true stands
scalar_takes_none Null child is stands = false≢true stands

none_below : (kind : Kind) (below : Forest) → is_scalar kind ≡ true → FitBelow (Some kind) below → below ≡ no_trees
none_below kind no_trees is fit = refl
none_below kind (tree_then n below rest) is fit = absurd (scalar_takes_none kind n.kind is fit.0)

-- only an Object has Keys
key_below : (kind : Option Kind) (child : Kind) → is_key child ≡ true → may_stand kind child ≡ true → kind ≡ Some Object
key_below None Key key stands = absurd (false≢true stands)
key_below (Some Document) Key key stands = absurd (false≢true stands)
key_below (Some Object) child key stands = refl
key_below (Some Array) Key key stands = absurd (false≢true stands)
key_below (Some Key) Key key stands = absurd (false≢true stands)
key_below (Some Str) child key stands = absurd (false≢true stands)
key_below (Some Number) child key stands = absurd (false≢true stands)
key_below (Some Truth) child key stands = absurd (false≢true stands)
key_below (Some Null) child key stands = absurd (false≢true stands)
key_below kind Document key stands = absurd (false≢true key)
key_below kind Object key stands = absurd (false≢true key)
key_below kind Array key stands = absurd (false≢true key)
key_below kind Str key stands = absurd (false≢true key)
key_below kind Number key stands = absurd (false≢true key)
key_below kind Truth key stands = absurd (false≢true key)
key_below kind Null key stands = absurd (false≢true key)

-- the trees of which none has the number are all other ones
others : (k : ℕ) (trees : Forest) → has (numbers trees) k ≡ false → filter (λ m. not (m.number == k)) (tops trees) ≡ tops trees
others k no_trees absent = refl
others k (tree_then n below rest) absent =
    grind (arith, common_steps, has-append (numbers below) (numbers rest) k, others k rest)

itself_out : (n : Node) (ns : List Node) → filter (λ m. not (m.number == n.number)) (n ∷ ns) ≡ filter (λ m. not (m.number == n.number)) ns
itself_out n ns = grind (arith, common_steps)

key_label : (kind : Kind) (name : List ℕ) → is_key kind ≡ true → IsText name → IsLabelOf kind name
key_label Document name key text = absurd (false≢true key)
key_label Object name key text = absurd (false≢true key)
key_label Array name key text = absurd (false≢true key)
key_label Key name key text = text
key_label Str name key text = absurd (false≢true key)
key_label Number name key text = absurd (false≢true key)
key_label Truth name key text = absurd (false≢true key)
key_label Null name key text = absurd (false≢true key)

-- the name of one of them is another one
renamed_apart : (xs ys : List (List ℕ)) (old new : List ℕ) → AreApart bytes_eq (xs ++ old ∷ ys) → list_any (bytes_eq new) (xs ++ ys) ≡ false → AreApart bytes_eq (xs ++ new ∷ ys)
renamed_apart xs ys old new apart free =
    apart-with bytes_eq nat_list_eq_equiv.symm xs (new ∷ []) ys (apart-without bytes_eq xs (old ∷ []) ys apart) (refl, tt) (free, tt)

module _ (state : State) (sound : IsSound state) (frames : List Frame) (before : Forest) (n : Node) (below behind : Forest)
    (trees : state.trees ≡ plug frames (beside before (tree_then n below behind))) where
  abbrev pub here : Forest
  here = beside before (tree_then n below behind)

  well : IsWellFormed (plug frames here)
  well = subst IsWellFormed trees sound.well_formed

  pub stand : Stand (above frames) here
  stand = stand_inside frames here (well.one, well.fit)

  -- what is known of the node and of all from it on to the right
  pub fit_here : FitBelow (above frames) (tree_then n below behind)
  fit_here = fit_back (above frames) before (tree_then n below behind) stand.1

  fit_before : FitBelow (above frames) before
  fit_before = fit_front (above frames) before (tree_then n below behind) stand.1

  around : levels_above frames + nesting here ≤ nesting_limit
  around =
      let nested : nesting (plug frames here) ≤ nesting_limit = subst (λ (t : Forest). nesting t ≤ nesting_limit) trees sound.nested in
      omega (arith, nesting-plug frames here, nested)

  tops_here : tops here ≡ tops before ++ n ∷ tops behind
  tops_here = tops-beside before (tree_then n below behind)

  numbers_here : numbers (plug frames here) ≡ (numbers_before frames ++ numbers before) ++ ((n.number ∷ numbers below) ++ (numbers behind ++ numbers_behind frames))
  numbers_here = simp (numbers-plug frames here, numbers-beside, append_assoc)

  pub replace_change : (v : Value) → is_value n.kind ≡ true → levels_above frames + depth v ≤ nesting_limit → KeepsLimits v
      → IsChange state frames here (beside before (numbered v state.next behind)) (nodes v)
  replace_change v value fits keeps =
      let takes = takes_from (above frames) n.kind value fit_here.0 in
      let kind = kind_of_hole frames takes in
      let new = beside before (numbered v state.next behind) in
      let tops_new : tops new ≡ tops before ++ top_of v state.next ∷ tops behind =
      tops-beside before (numbered v state.next behind) ∙ ap (λ (ns : List Node). tops before ++ ns) (tops-numbered v state.next behind) in
      record {
        trees = trees;
        stand = (
          subst (HasChildren (above frames)) (sym tops_new) (children_replaced (above frames) (tops before) (tops behind) (top_of v state.next) n takes (subst (HasChildren (above frames)) tops_here stand.0)),
          fit_join (above frames) before (numbered v state.next behind) fit_before (fit-numbered v state.next (above frames) behind takes keeps fit_here.4),
        );
        nested = omega (arith, around, fits, nesting-beside before (tree_then n below behind), nesting-beside before (numbered v state.next behind), nesting-numbered v state.next behind);
        before = numbers_before frames ++ numbers before;
        out = n.number ∷ numbers below;
        behind = numbers behind ++ numbers_behind frames;
        some = some_before frames kind.0 (numbers before) kind.1;
        numbers_old = numbers_here;
        numbers_new = simp (numbers-plug frames new, numbers-beside, numbers-numbered v state.next behind, append_assoc);
      }

  pub remove_change : (kind : Kind) → above frames ≡ Some kind → is_key kind ≡ false → IsChange state frames here (beside before behind) 0
  remove_change kind is no_key = record {
    trees = trees;
    stand = (
      subst (λ (k : Option Kind). HasChildren k (tops (beside before behind))) (sym is) (
          subst (HasChildren (Some kind)) (sym (tops-beside before behind))
          (children_without kind (tops before) (tops behind) n no_key (subst (HasChildren (Some kind)) tops_here (subst (λ (k : Option Kind). HasChildren k (tops here)) is stand.0)))
          ),
      fit_join (above frames) before behind fit_before fit_here.4,
    );
    nested = omega (arith, around, nesting-beside before (tree_then n below behind), nesting-beside before behind);
    before = numbers_before frames ++ numbers before;
    out = n.number ∷ numbers below;
    behind = numbers behind ++ numbers_behind frames;
    some = some_before frames kind (numbers before) is;
    numbers_old = numbers_here;
    numbers_new = simp (numbers-plug frames (beside before behind), numbers-beside, append_assoc);
  }

  -- the numbers stay
  same_change : (new : Forest) → Stand (above frames) new → nesting new ≤ nesting here → numbers new ≡ numbers here → IsChange state frames here new 0
  same_change new stands nested same = record {
    trees = trees;
    stand = stands;
    nested = omega (arith, around, nested);
    before = numbers (plug frames here);
    out = [];
    behind = [];
    some = λ none. cc (well.zero, ap (λ (ks : List ℕ). slice_get ks 0) none);
    numbers_old = simp append-nil;
    numbers_new = numbers-plug frames new ∙ ap (λ (ks : List ℕ). numbers_before frames ++ (ks ++ numbers_behind frames)) same ∙ sym (numbers-plug frames here) ∙ simp append-nil;
  }

  -- nothing stands below a scalar
  pub set_change : (s : Scalar) → is_scalar n.kind ≡ true → ScalarKeepsLimits s → IsChange state frames here (beside before (tree_then (scalar_node n.number s) below behind)) 0
  set_change s scalar keeps =
      let none = none_below n.kind below scalar fit_here.3 in
      let takes = takes_from (above frames) n.kind (scalar_is_value n.kind scalar) fit_here.0 in
      let new = beside before (tree_then (scalar_node n.number s) below behind) in
      let fits : FitBelow (above frames) (tree_then (scalar_node n.number s) below behind) = rw none (scalar_fits s n.number (above frames) behind takes keeps fit_here.4) in
      same_change new (
        subst (HasChildren (above frames)) (sym (tops-beside before (tree_then (scalar_node n.number s) below behind)))
            (children_replaced (above frames) (tops before) (tops behind) (scalar_node n.number s) n takes (subst (HasChildren (above frames)) tops_here stand.0)),
        fit_join (above frames) before (tree_then (scalar_node n.number s) below behind) fit_before fits,
      )
      (omega (arith, nesting-beside before (tree_then n below behind), nesting-beside before (tree_then (scalar_node n.number s) below behind), scalar_levels s n.number))
      (numbers-beside before (tree_then (scalar_node n.number s) below behind) ∙ ap (λ (k : ℕ). numbers before ++ k ∷ (numbers below ++ numbers behind)) (scalar_number s n.number)
      ∙ sym (numbers-beside before (tree_then n below behind)))

  -- the node's number is none of those beside it
  alone : (has (numbers before) n.number ≡ false) × (has (numbers behind) n.number ≡ false)
  alone =
      let k = n.number in
      let front = numbers_before frames ++ numbers before in
      let rest = numbers behind ++ numbers_behind frames in
      let apart = subst AreDistinctNumbers numbers_here well.distinct in
      let back = distinct_back front ((k ∷ numbers below) ++ rest) apart in (
        grind (arith, common_steps, has-append (numbers_before frames) (numbers before) k, distinct_apart front ((k ∷ numbers below) ++ rest) k apart),
        grind (arith, common_steps, has-append (numbers below) rest k, has-append (numbers behind) (numbers_behind frames) k, back.0),
      )

  pub rename_change : (name : List ℕ) → is_key n.kind ≡ true → name_taken name (filter (λ m. not (m.number == n.number)) (tops here)) ≡ None → IsText name
      → IsChange state frames here (beside before (tree_then (record n { label = name }) below behind)) 0
  rename_change name key free text =
      let object = key_below (above frames) n.kind key fit_here.0 in
      let new = beside before (tree_then (record n { label = name }) below behind) in
      let stand_object : Stand (Some Object) here = subst (λ (k : Option Kind). Stand k here) object stand in
      let k = n.number in
      let other_tops : filter (λ m. not (m.number == k)) (tops here) ≡ tops (beside before behind) =
      ap (filter (λ (m : Node). not (m.number == k))) tops_here ∙ filter-append (λ (m : Node). not (m.number == k)) (tops before) (n ∷ tops behind)
      ∙ ap (λ (ns : List Node). ns ++ filter (λ (m : Node). not (m.number == k)) (n ∷ tops behind)) (others k before alone.0)
      ∙ ap (λ (ns : List Node). tops before ++ ns) (itself_out n (tops behind) ∙ others k behind alone.1) ∙ sym (tops-beside before behind) in
      let fit_object = fit_back (Some Object) before (tree_then n below behind) stand_object.1 in
      let keys = keys_of (beside before behind) (fit_join (Some Object) before behind (fit_front (Some Object) before (tree_then n below behind) stand_object.1) fit_object.4) in
      let free_names = untaken name (tops (beside before behind)) keys (subst (λ (ns : List Node). name_taken name ns ≡ None) other_tops free) in
      let apart = renamed_apart (labels before) (labels behind) n.label name (subst (AreApart bytes_eq) (labels-beside before (tree_then n below behind)) stand_object.0)
      (subst (λ (names : List (List ℕ)). list_any (bytes_eq name) names ≡ false) (labels-beside before behind) free_names) in
      same_change new (
        subst (λ (kind : Option Kind). HasChildren kind (tops new)) (sym object) (subst (AreApart bytes_eq) (sym (labels-beside before (tree_then (record n { label = name }) below behind))) apart),
        fit_join (above frames) before (tree_then (record n { label = name }) below behind) fit_before (fit_here.0, key_label n.kind name key text, fit_here.2, fit_here.3, fit_here.4),
      )
      (omega (arith, nesting-beside before (tree_then n below behind), nesting-beside before (tree_then (record n { label = name }) below behind)))
      (numbers-beside before (tree_then (record n { label = name }) below behind) ∙ sym (numbers-beside before (tree_then n below behind)))

-- No two records have one spelling, and no spelling begins another's.
use Rattle.std.specs.Prelude.{ℕ, zero, suc, ◌≡◌, ◌<◌, ◌^◌, List, [], ◌∷◌, ◌++◌, length, Option, Some, None, refl}
use Rattle.std.proofs.Common.{sym, ap, ◌∙◌, arith, lit<}
use Rattle.std.specs.Int.{w32, w128, to_be_bytes}
use Rattle.std.specs.Coded.{le_prop}
use mathlib.Core.HLevel.{Σ_prop_path}
use Rattle.sx_bytes.proofs.Fronts.{some_is, front_number_again, front_piece_again}
use Rattle.sx_tree.specs.declared.record.Step.{Step}
use Rattle.sx_tree.specs.declared.record.Step.TheVariants.{Top, Item, Name}
use Rattle.sx_tree.specs.declared.record.PathRecord.{PathRecord}
use Rattle.sx_tree.specs.declared.record.NodeRecord.{NodeRecord}
use Rattle.sx_tree.specs.declared.record.Kind.{Kind}
use Rattle.sx_tree.specs.declared.record.Kind.TheVariants.{Document, Object, Array, Key, Str, Number, Bool, Null}
use Rattle.sx_tree.specs.Record.{IsLink, IsLabel, kind_byte}
use Rattle.sx_record.specs.Same.{HaveSameLinks, HaveSameRest}
use Rattle.sx_record.specs.Spelling.{text_bytes, PathFields, path_bytes, path_fields, step_byte, step_name, IsPath, NodeFields, node_bytes, node_fields, link_number, IsNode}
use Rattle.sx_record.specs.Reading.{front_text, front_path, front_node}

abbrev some : {A : Type 0} → A → Option A
some x = Some x

-- ---- what was written is read again

front_text-again : (text rest : List ℕ) → length text < 2 ^ 32 → front_text (text_bytes text ++ rest) ≡ Some (text, rest)
unfolding front_text
front_text-again text rest short =
    rw (front_number_again w32 (length text) (text ++ rest) (lit< tt) short) (front_piece_again text rest)

pub record Fit (f : PathFields) : Type 0 where
  pub fit_parent : f.parent < 2 ^ 32
  pub fit_count : f.count < 2 ^ 32
  pub fit_name : length f.name < 2 ^ 32

pub front_path-again : (f : PathFields) (rest : List ℕ) → Fit f → front_path (path_bytes f ++ rest) ≡ Some (f, rest)
unfolding front_path path_bytes
front_path-again f rest fit =
    let behind_count = text_bytes f.name ++ rest in
    let behind_parent = f.step ∷ (to_be_bytes w32 f.count ++ behind_count) in
    let regrouped : (to_be_bytes w32 f.parent ++ ((f.step ∷ []) ++ (to_be_bytes w32 f.count ++ text_bytes f.name))) ++ rest ≡ to_be_bytes w32 f.parent ++ behind_parent = refl in
    ap front_path regrouped
    ∙ rw (front_number_again w32 f.parent behind_parent (lit< tt) fit.fit_parent, front_number_again w32 f.count behind_count (lit< tt) fit.fit_count, front_text-again f.name rest fit.fit_name) refl

-- ---- paths with the same fields are equal

step-same : (a b : Step) → step_byte a ≡ step_byte b → step_name a ≡ step_name b → a ≡ b
step-same Top Top p q = refl
step-same Top Item p q = absurd (omega arith)
step-same Top (Name n) p q = absurd (omega arith)
step-same Item Top p q = absurd (omega arith)
step-same Item Item p q = refl
step-same Item (Name n) p q = absurd (omega arith)
step-same (Name m) Top p q = absurd (omega arith)
step-same (Name m) Item p q = absurd (omega arith)
step-same (Name m) (Name n) p q = ap Name q

pub path_equal : (a b : PathRecord) → a.parent ≡ b.parent → a.step ≡ b.step → a.count ≡ b.count → a ≡ b
path_equal a b p s c =
    let fits : ◌≡◌ {A = (n : ℕ) × (n < 1_073_741_824)} (a.parent, a.parent_fits) (b.parent, b.parent_fits) = Σ_prop_path (λ n. le_prop) p in
    let counts : ◌≡◌ {A = (n : ℕ) × (n < 4_294_967_296)} (a.count, a.count_fits) (b.count, b.count_fits) = Σ_prop_path (λ n. le_prop) c in
    λ i. record { parent = (fits i).0; step = s i; count = (counts i).0; parent_fits = (fits i).1; count_fits = (counts i).1 }

path-same : (a b : PathRecord) → path_fields a ≡ path_fields b → a ≡ b
path-same a b e =
    path_equal a b (ap (λ (f : PathFields). f.parent) e) (step-same a.step b.step (ap (λ (f : PathFields). f.step) e) (ap (λ (f : PathFields). f.name) e)) (ap (λ (f : PathFields). f.count) e)

pub path-fits : (r : PathRecord) → IsPath r → Fit (path_fields r)
path-fits r is =
    let parent : r.parent < 1_073_741_824 = r.parent_fits in
    record { fit_parent = omega arith; fit_count = r.count_fits; fit_name = omega (arith, is.1) }

pub path-one_spelling : (a b : PathRecord) (x y : List ℕ) → IsPath a → IsPath b → path_bytes (path_fields a) ++ x ≡ path_bytes (path_fields b) ++ y → (a ≡ b) × (x ≡ y)
path-one_spelling a b x y a_is b_is e =
    let read : some (path_fields a, x) ≡ some (path_fields b, y) =
    sym (front_path-again (path_fields a) x (path-fits a a_is)) ∙ ap front_path e ∙ front_path-again (path_fields b) y (path-fits b b_is) in
    let both = some_is (path_fields a, x) (path_fields b, y) read in
    (path-same a b (ap (λ (f : PathFields × List ℕ). f.0) both), ap (λ (f : PathFields × List ℕ). f.1) both)

-- ---- where no front is a spelling

pub path_none : (bytes : List ℕ) → front_path bytes ≡ None → (r : PathRecord) (rest : List ℕ) → IsPath r → bytes ≡ path_bytes (path_fields r) ++ rest → ⊥
path_none bytes none r rest is e =
    let read = front_path-again (path_fields r) rest (path-fits r is) in
    let same = ap front_path e in
    cc

pub path_other : (bytes : List ℕ) (f : PathFields) (left : List ℕ) → front_path bytes ≡ Some (f, left) → ((r : PathRecord) → IsPath r → path_fields r ≡ f → ⊥)
    → (r : PathRecord) (rest : List ℕ) → IsPath r → bytes ≡ path_bytes (path_fields r) ++ rest → ⊥
path_other bytes f left found other r rest is e =
    let read : some (path_fields r, rest) ≡ some (f, left) = sym (front_path-again (path_fields r) rest (path-fits r is)) ∙ sym (ap front_path e) ∙ found in
    other r is (ap (λ (f : PathFields × List ℕ). f.0) (some_is (path_fields r, rest) (f, left) read))

-- ---- nodes

kind_back : ℕ → Option Kind
kind_back zero = Some Document
kind_back (suc zero) = Some Object
kind_back (suc (suc zero)) = Some Array
kind_back (suc (suc (suc zero))) = Some Key
kind_back (suc (suc (suc (suc zero)))) = Some Str
kind_back (suc (suc (suc (suc (suc zero))))) = Some Number
kind_back (suc (suc (suc (suc (suc (suc zero)))))) = Some Bool
kind_back (suc (suc (suc (suc (suc (suc (suc n))))))) = Some Null

kind_back-kind_byte : (k : Kind) → kind_back (kind_byte k) ≡ Some k
unfolding kind_back
kind_back-kind_byte Document = refl
kind_back-kind_byte Object = refl
kind_back-kind_byte Array = refl
kind_back-kind_byte Key = refl
kind_back-kind_byte Str = refl
kind_back-kind_byte Number = refl
kind_back-kind_byte Bool = refl
kind_back-kind_byte Null = refl

kind-same : (a b : Kind) → kind_byte a ≡ kind_byte b → a ≡ b
kind-same a b e = some_is a b (sym (kind_back-kind_byte a) ∙ ap kind_back e ∙ kind_back-kind_byte b)

link-same : (a b : Option ℕ) → IsLink a → IsLink b → link_number a ≡ link_number b → a ≡ b
link-same None None p q e = refl
link-same None (Some n) p q e = let small : n < 1_073_741_824 = q n refl in absurd (omega arith)
link-same (Some m) None p q e = let small : m < 1_073_741_824 = p m refl in absurd (omega arith)
link-same (Some m) (Some n) p q e = ap Some e

link-fits : (a : Option ℕ) → IsLink a → link_number a < 2 ^ 32
link-fits None p = lit< tt
link-fits (Some n) p = let small : n < 1_073_741_824 = p n refl in omega arith

IsLink-prop : (link : Option ℕ) → IsProp (IsLink link)
IsLink-prop link = hlevel le_prop

lt-prop : (limit n : ℕ) → IsProp (n < limit)
lt-prop limit n = le_prop

-- a link with what holds of it
link_path : (a b : Option ℕ) (p : IsLink a) (q : IsLink b) → a ≡ b → ◌≡◌ {A = (link : Option ℕ) × IsLink link} (a, p) (b, q)
link_path a b p q e = Σ_prop_path IsLink-prop e

number_path : (limit m n : ℕ) (p : m < limit) (q : n < limit) → m ≡ n → ◌≡◌ {A = (number : ℕ) × (number < limit)} (m, p) (n, q)
number_path limit m n p q e = Σ_prop_path (lt-prop limit) e

label_path : (j k : Kind) (x y : List ℕ) (p : ∥ IsLabel j x ∥₁) (q : ∥ IsLabel k y ∥₁) → j ≡ k → x ≡ y
    → ◌≡◌ {A = (both : Kind × List ℕ) × ∥ IsLabel both.0 both.1 ∥₁} ((j, x), p) ((k, y), q)
label_path j k x y p q kinds labels = Σ_prop_path (λ both. hlevel) (λ i. (kinds i, labels i))

pub node_equal : (a b : NodeRecord) → HaveSameLinks a b → HaveSameRest a b → a.label ≡ b.label → a ≡ b
node_equal a b links rest labels =
    let parents = link_path a.parent b.parent a.parent_fits b.parent_fits links.same_parent in
    let lefts = link_path a.left b.left a.left_fits b.left_fits links.same_left in
    let rights = link_path a.right b.right a.right_fits b.right_fits links.same_right in
    let firsts = link_path a.first b.first a.first_fits b.first_fits links.same_first in
    let lasts = link_path a.last b.last a.last_fits b.last_fits links.same_last in
    let children = number_path 4_294_967_296 a.children b.children a.children_fits b.children_fits rest.same_children in
    let descendants = number_path 4_294_967_296 a.descendants b.descendants a.descendants_fits b.descendants_fits rest.same_descendants in
    let hashes = number_path (2 ^ 128) a.hash b.hash a.hash_fits b.hash_fits rest.same_hash in
    let paths = number_path 1_073_741_824 a.path b.path a.path_fits b.path_fits rest.same_path in
    let ends = label_path a.kind b.kind a.label b.label a.label_fits b.label_fits rest.same_kind labels in
    λ i. record {
      kind = (ends i).0.0;
      parent = (parents i).0;
      left = (lefts i).0;
      right = (rights i).0;
      first = (firsts i).0;
      last = (lasts i).0;
      children = (children i).0;
      descendants = (descendants i).0;
      hash = (hashes i).0;
      path = (paths i).0;
      label = (ends i).0.1;
      parent_fits = (parents i).1;
      left_fits = (lefts i).1;
      right_fits = (rights i).1;
      first_fits = (firsts i).1;
      last_fits = (lasts i).1;
      children_fits = (children i).1;
      descendants_fits = (descendants i).1;
      hash_fits = (hashes i).1;
      path_fits = (paths i).1;
      label_fits = (ends i).1;
    }

node-same : (a b : NodeRecord) → node_fields a ≡ node_fields b → a ≡ b
node-same a b e =
    node_equal a b
    (record {
      same_parent = link-same a.parent b.parent a.parent_fits b.parent_fits (ap (λ (f : NodeFields). f.parent) e);
      same_left = link-same a.left b.left a.left_fits b.left_fits (ap (λ (f : NodeFields). f.left) e);
      same_right = link-same a.right b.right a.right_fits b.right_fits (ap (λ (f : NodeFields). f.right) e);
      same_first = link-same a.first b.first a.first_fits b.first_fits (ap (λ (f : NodeFields). f.first) e);
      same_last = link-same a.last b.last a.last_fits b.last_fits (ap (λ (f : NodeFields). f.last) e);
    })
    (record {
      same_kind = kind-same a.kind b.kind (ap (λ (f : NodeFields). f.kind) e);
      same_children = ap (λ (f : NodeFields). f.children) e;
      same_descendants = ap (λ (f : NodeFields). f.descendants) e;
      same_hash = ap (λ (f : NodeFields). f.hash) e;
      same_path = ap (λ (f : NodeFields). f.path) e;
    })
    (ap (λ (f : NodeFields). f.label) e)

record FitNode (f : NodeFields) : Type 0 where
  fit_parent : f.parent < 2 ^ 32
  fit_left : f.left < 2 ^ 32
  fit_right : f.right < 2 ^ 32
  fit_first : f.first < 2 ^ 32
  fit_last : f.last < 2 ^ 32
  fit_children : f.children < 2 ^ 32
  fit_descendants : f.descendants < 2 ^ 32
  fit_hash : f.hash < 2 ^ 128
  fit_path : f.path < 2 ^ 32
  fit_label : length f.label < 2 ^ 32

node-fits : (r : NodeRecord) → IsNode r → FitNode (node_fields r)
node-fits r is =
    let path : r.path < 1_073_741_824 = r.path_fits in
    record {
      fit_parent = link-fits r.parent r.parent_fits;
      fit_left = link-fits r.left r.left_fits;
      fit_right = link-fits r.right r.right_fits;
      fit_first = link-fits r.first r.first_fits;
      fit_last = link-fits r.last r.last_fits;
      fit_children = r.children_fits;
      fit_descendants = r.descendants_fits;
      fit_hash = r.hash_fits;
      fit_path = omega arith;
      fit_label = omega (arith, is.1);
    }

front_node-again : (f : NodeFields) (rest : List ℕ) → FitNode f → front_node (node_bytes f ++ rest) ≡ Some (f, rest)
unfolding front_node node_bytes
front_node-again f rest fit =
    let b10 = text_bytes f.label ++ rest in
    let b9 = to_be_bytes w32 f.path ++ b10 in
    let b8 = to_be_bytes w128 f.hash ++ b9 in
    let b7 = to_be_bytes w32 f.descendants ++ b8 in
    let b6 = to_be_bytes w32 f.children ++ b7 in
    let b5 = to_be_bytes w32 f.last ++ b6 in
    let b4 = to_be_bytes w32 f.first ++ b5 in
    let b3 = to_be_bytes w32 f.right ++ b4 in
    let b2 = to_be_bytes w32 f.left ++ b3 in
    let b1 = to_be_bytes w32 f.parent ++ b2 in
    let regrouped : node_bytes f ++ rest ≡ f.kind ∷ b1 = refl in
    ap front_node regrouped
    ∙ rw (
      front_number_again w32 f.parent b2 (lit< tt) fit.fit_parent,
      front_number_again w32 f.left b3 (lit< tt) fit.fit_left,
      front_number_again w32 f.right b4 (lit< tt) fit.fit_right,
      front_number_again w32 f.first b5 (lit< tt) fit.fit_first,
      front_number_again w32 f.last b6 (lit< tt) fit.fit_last,
      front_number_again w32 f.children b7 (lit< tt) fit.fit_children,
      front_number_again w32 f.descendants b8 (lit< tt) fit.fit_descendants,
      front_number_again w128 f.hash b9 (lit< tt) fit.fit_hash,
      front_number_again w32 f.path b10 (lit< tt) fit.fit_path,
      front_text-again f.label rest fit.fit_label,
    ) refl

pub node-one_spelling : (a b : NodeRecord) (x y : List ℕ) → IsNode a → IsNode b → node_bytes (node_fields a) ++ x ≡ node_bytes (node_fields b) ++ y → (a ≡ b) × (x ≡ y)
node-one_spelling a b x y a_is b_is e =
    let read : some (node_fields a, x) ≡ some (node_fields b, y) =
    sym (front_node-again (node_fields a) x (node-fits a a_is)) ∙ ap front_node e ∙ front_node-again (node_fields b) y (node-fits b b_is) in
    let both = some_is (node_fields a, x) (node_fields b, y) read in
    (node-same a b (ap (λ (f : NodeFields × List ℕ). f.0) both), ap (λ (f : NodeFields × List ℕ). f.1) both)

pub node_none : (bytes : List ℕ) → front_node bytes ≡ None → (r : NodeRecord) (rest : List ℕ) → IsNode r → bytes ≡ node_bytes (node_fields r) ++ rest → ⊥
node_none bytes none r rest is e =
    let read = front_node-again (node_fields r) rest (node-fits r is) in
    let same = ap front_node e in
    cc

pub node_other : (bytes : List ℕ) (f : NodeFields) (left : List ℕ) → front_node bytes ≡ Some (f, left) → ((r : NodeRecord) → IsNode r → node_fields r ≡ f → ⊥)
    → (r : NodeRecord) (rest : List ℕ) → IsNode r → bytes ≡ node_bytes (node_fields r) ++ rest → ⊥
node_other bytes f left found other r rest is e =
    let read : some (node_fields r, rest) ≡ some (f, left) = sym (front_node-again (node_fields r) rest (node-fits r is)) ∙ sym (ap front_node e) ∙ found in
    other r is (ap (λ (f : NodeFields × List ℕ). f.0) (some_is (node_fields r, rest) (f, left) read))

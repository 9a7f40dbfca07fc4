-- Walks along links, step by step, and the paths of the values on them.
use Rattle.std.proofs.Common.{◌≡◌, ℕ, suc, ◌+◌, ◌≤◌, Bool, true, false, List, [], ◌∷◌, ◌++◌, length, Option, Some, None, append_assoc, append-nil, length-append, inl, inr, refl, sym, ap, subst, ◌∙◌, arith, cond}
use Rattle.sx_bytes.specs.declared.damage.Damage.{Damage}
use Rattle.sx_tree.specs.declared.record.NodeRecord.{NodeRecord}
use Rattle.sx_model.specs.Tree.{is_value}
use Rattle.sx_view.specs.Records.{RecordMap}
use Rattle.sx_edit.specs.Damage.{IsEndless, endless}
use Rattle.sx_edit.specs.Links.{ComesTo, IsRecord, Walks, first_tops, path_left, paths_left, preorder, with_top}

pub left-value : (r : NodeRecord) → is_value r.kind ≡ true → r.path ∷ [] ≡ path_left r
left-value r value = sym (ap (λ b. cond b (r.path ∷ []) []) value)

pub left-more : (visited : List NodeRecord) (r : NodeRecord) → paths_left (visited ++ r ∷ []) ≡ paths_left visited ++ path_left r
left-more [] r = append-nil (path_left r)
left-more (v ∷ visited) r = ap (λ l. path_left v ++ l) (left-more visited r) ∙ sym (append_assoc (path_left v) (paths_left visited) (path_left r))

left_few : (r : NodeRecord) → length (path_left r) ≤ 1
left_few r = by (is_value r.kind)
  where
    by : (b : Bool) → length (cond b (r.path ∷ []) []) ≤ 1
    by true = omega arith
    by false = omega arith

-- at most one path a node
pub left-most : (visited : List NodeRecord) → length (paths_left visited) ≤ length visited
left-most [] = omega arith
left-most (r ∷ visited) = omega (arith, length-append (path_left r) (paths_left visited), left_few r, left-most visited)

module _ (ahead : NodeRecord → List ℕ → List ℕ) (o : Option (RecordMap NodeRecord)) where
  -- one node more
  pub walks-on : (tops : List ℕ) (visited : List NodeRecord) (k : ℕ) (left : List ℕ) (r : NodeRecord) → Walks ahead o tops visited (k ∷ left) → IsRecord o k r → Walks ahead o tops (visited ++ r ∷ []) (ahead r left)
  walks-on tops [] k left r walks there = subst (λ t. Walks ahead o t (r ∷ []) (ahead r left)) (sym walks) (there, refl)
  walks-on [] (v ∷ visited) k left r walks there = absurd walks
  walks-on (top ∷ tops) (v ∷ visited) k left r walks there = (walks.0, walks-on (ahead v tops) visited k left r walks.1 there)

  -- a walk that began with this node has more to visit than there may be
  pub walks-endless : (next : ℕ) (first : Option ℕ) (visited : List NodeRecord) (k : ℕ) (rest : List ℕ) → Walks ahead o (first_tops first) visited (k ∷ rest) → length visited ≡ next → IsEndless ahead o next
  walks-endless next (Some top) visited k rest walks many = (top, (visited, (k, (rest, (walks, many)))))
  walks-endless next None [] k rest walks many = let e : [] ≡ k ∷ rest = walks in absurd (cc)
  walks-endless next None (v ∷ visited) k rest walks many = absurd walks

pub long-on : (visited : List NodeRecord) (r : NodeRecord) (turn : ℕ) → length visited ≡ turn → length (visited ++ r ∷ []) ≡ turn + 1
long-on visited r turn is = omega (arith, length-append visited (r ∷ []), is)

-- below a node the walk comes to what is left first
pub comes-to : (o : Option (RecordMap NodeRecord)) (top : ℕ) (own : NodeRecord) (first : Option ℕ) (visited : List NodeRecord) (node : ℕ) (left rest : List ℕ) → IsRecord o top own → own.first ≡ first
    → Walks preorder o (first_tops first) visited left → left ≡ node ∷ rest → ComesTo o top visited node
comes-to o top own first visited node left rest there first_is walks left_is =
    (own, (there, (left, (rest ++ top ∷ [], (subst (λ f. Walks preorder o (first_tops f) visited left) (sym first_is) walks, ap (λ l. l ++ top ∷ []) left_is)))))

-- and to the node itself at the end
pub comes-last : (o : Option (RecordMap NodeRecord)) (top : ℕ) (own : NodeRecord) (visited : List NodeRecord) → IsRecord o top own → Walks preorder o (first_tops own.first) visited [] → ComesTo o top visited top
comes-last o top own visited there walks = (own, (there, ([], ([], (walks, refl)))))

-- Keys of a name, one sibling after the other.
use Rattle.std.proofs.Common.{◌≡◌, ℕ, ◌+◌, ◌-◌, ◌≤◌, Bool, true, false, cond, List, ◌∷◌, ◌++◌, Option, Some, None, refl, sym, ap, subst, ◌∙◌, arith, append_assoc}
use Rattle.std.specs.Prelude.{option_map, find}
use Rattle.std.specs.Option.{option_or, ForSome}
use Rattle.std.specs.FinMap as fin
use Rattle.sx_tree.specs.declared.record.Kind.{Kind}
use Rattle.sx_tree.specs.declared.record.Step.{Step}
use Rattle.sx_tree.specs.declared.record.NodeRecord.{NodeRecord}
use Rattle.sx_view.specs.Records.{RecordMap}
use Rattle.sx_view.specs.Rows.{row_of}
use Rattle.sx_model.specs.Tree.{Node, Forest, no_trees, tree_then, tops}
use Rattle.sx_model.specs.Records.{Around, NodeRow, around_children, first_of, row, rows}
use Rattle.sx_model.proofs.Holes.{or_none}
use Rattle.sx_edit.specs.Told.{Shows}
use Rattle.sx_edit.specs.Gets.{GetsKeys}
use Rattle.sx_edit.specs.Names.{is_sought, FindsKey}
use Rattle.sx_edit.proofs.Climbing.{some_is}
use Rattle.sx_edit.proofs.Showing.{shows-get}

pub finds-none : (except : Option ℕ) (name : List ℕ) (first : Option ℕ) (limit : ℕ) (o : Option (RecordMap NodeRecord)) → first ≡ None → FindsKey except name first limit o (Some None)
unfolding FindsKey
finds-none except name first limit o is local number around no_trees xs ys begin last few shows = refl
finds-none except name first limit o is local number around (tree_then n below rest) xs ys begin last few shows = absurd cc

pub finds-endless : (except : Option ℕ) (name : List ℕ) (first : Option ℕ) (k limit : ℕ) (o : Option (RecordMap NodeRecord)) → first ≡ Some k → limit ≡ 0 → FindsKey except name first limit o None
unfolding FindsKey
finds-endless except name first k limit o is none local number around no_trees xs ys begin last few shows = absurd cc
finds-endless except name first k limit o is none local number around (tree_then n below rest) xs ys begin last few shows = absurd (omega arith)

-- what is read of the first of the trees
first-there : (first : Option ℕ) (k : ℕ) (there : Option NodeRecord) (o : Option (RecordMap NodeRecord)) (local : Kind → List ℕ → ℕ) (number : List Step → ℕ) (around : Around) (n : Node) (below rest : Forest) (xs ys : List (ℕ × NodeRow))
    → first ≡ Some k → ForSome o (λ m. fin.get m k ≡ there) → Some n.number ≡ first → Shows o (xs ++ (rows local number around (tree_then n below rest) ++ ys))
    → option_map row_of there ≡ Some (row local number (record around { right = option_or (first_of rest) around.right }) n below)
first-there first k there o local number around n below rest xs ys is found begin shows =
    let same : k ≡ n.number = cc in
    let there_n : ForSome o (λ m. there ≡ fin.get m n.number) = rw same at (λ (m : RecordMap NodeRecord) (e : o ≡ Some m). sym (found m e)) in
    shows-get o there xs _ n.number _ shows there_n

pub finds-absent : (except : Option ℕ) (name : List ℕ) (first : Option ℕ) (k limit : ℕ) (o : Option (RecordMap NodeRecord)) → first ≡ Some k → ForSome o (λ m. fin.get m k ≡ None) → FindsKey except name first limit o None
unfolding FindsKey
finds-absent except name first k limit o is found local number around no_trees xs ys begin last few shows = absurd cc
finds-absent except name first k limit o is found local number around (tree_then n below rest) xs ys begin last few shows =
    let both = first-there first k None o local number around n below rest xs ys is found begin shows in
    absurd cc

find-first : (p : Node → Bool) (n : Node) (ns : List Node) (b : Bool) → p n ≡ b → find p (n ∷ ns) ≡ cond b (Some n) (find p ns)
find-first p n ns b is = ap (λ (b : Bool). cond b (Some n) (find p ns)) is

pub finds-here : (except : Option ℕ) (name : List ℕ) (first : Option ℕ) (k limit : ℕ) (r : NodeRecord) (o : Option (RecordMap NodeRecord)) → first ≡ Some k → ForSome o (λ m. fin.get m k ≡ Some r)
    → is_sought except name k r.kind r.label ≡ true → FindsKey except name first limit o (Some (Some k))
unfolding FindsKey
finds-here except name first k limit r o is found sought local number around no_trees xs ys begin last few shows = absurd cc
finds-here except name first k limit r o is found sought local number around (tree_then n below rest) xs ys begin last few shows =
    let known = some_is _ _ (first-there first k (Some r) o local number around n below rest xs ys is found begin shows) in
    let kind : r.kind ≡ n.kind = ap (λ (w : NodeRow). w.kind) known in
    let label : r.label ≡ n.label = ap (λ (w : NodeRow). w.label) known in
    let same : k ≡ n.number = cc in
    let here : is_sought except name n.number n.kind n.label ≡ true = (λ i. is_sought except name (sym same i) (sym kind i) (sym label i)) ∙ sought in
    let first_is = find-first (λ m. is_sought except name m.number m.kind m.label) n (tops rest) true here in
    ap (λ q. Some (Some q)) same ∙ sym (ap (λ q. Some (option_map (λ (m : Node). m.number) q)) first_is)

pub finds-next : (except : Option ℕ) (name : List ℕ) (first : Option ℕ) (k limit fewer : ℕ) (r : NodeRecord) (o : Option (RecordMap NodeRecord)) (answer : Option (Option ℕ)) → first ≡ Some k
    → ForSome o (λ m. fin.get m k ≡ Some r) → is_sought except name k r.kind r.label ≡ false → limit - 1 ≡ fewer → FindsKey except name r.right fewer o answer
    → FindsKey except name first limit o answer
unfolding FindsKey
finds-next except name first k limit fewer r o answer is found other one_less more local number around no_trees xs ys begin last few shows = absurd cc
finds-next except name first k limit fewer r o answer is found other one_less more local number around (tree_then n below rest) xs ys begin last few shows =
    let known = some_is _ _ (first-there first k (Some r) o local number around n below rest xs ys is found begin shows) in
    let kind : r.kind ≡ n.kind = ap (λ (w : NodeRow). w.kind) known in
    let label : r.label ≡ n.label = ap (λ (w : NodeRow). w.label) known in
    let same : k ≡ n.number = cc in
    let here : is_sought except name n.number n.kind n.label ≡ false = (λ i. is_sought except name (sym same i) (sym kind i) (sym label i)) ∙ other in
    let beyond : Around = record around { left = Some n.number } in
    let right : first_of rest ≡ r.right = sym (ap (λ (w : NodeRow). w.right) known ∙ ap (option_or (first_of rest)) last ∙ or_none _) in
    let head : List (ℕ × NodeRow) = (n.number, row local number (record around { right = option_or (first_of rest) around.right }) n below) ∷ rows local number (around_children around n) below in
    let regrouped : xs ++ (rows local number around (tree_then n below rest) ++ ys) ≡ (xs ++ head) ++ (rows local number beyond rest ++ ys) = simp append_assoc in
    let first_is = find-first (λ m. is_sought except name m.number m.kind m.label) n (tops rest) false here in
    more local number beyond rest (xs ++ head) ys right last (omega arith) (subst (Shows o) regrouped shows)
    ∙ sym (ap (λ q. Some (option_map (λ (m : Node). m.number) q)) first_is)

-- ---- gets

pub keys-none : (first : Option ℕ) (limit : ℕ) (o : Option (RecordMap NodeRecord)) (gets : ℕ) → GetsKeys first limit o gets gets
unfolding GetsKeys
keys-none first limit o gets local number around trees xs ys begin last few shows = omega arith

pub keys-here : (first : Option ℕ) (k limit : ℕ) (o : Option (RecordMap NodeRecord)) (old new : ℕ) → first ≡ Some k → new ≤ old + 1 → GetsKeys first limit o old new
unfolding GetsKeys
keys-here first k limit o old new is once local number around no_trees xs ys begin last few shows = absurd cc
keys-here first k limit o old new is once local number around (tree_then n below rest) xs ys begin last few shows = omega arith

pub keys-next : (first : Option ℕ) (k limit fewer : ℕ) (r : NodeRecord) (o : Option (RecordMap NodeRecord)) (old mid new : ℕ) → first ≡ Some k → ForSome o (λ m. fin.get m k ≡ Some r) → limit - 1 ≡ fewer → mid ≤ old + 1
    → GetsKeys r.right fewer o mid new → GetsKeys first limit o old new
unfolding GetsKeys
keys-next first k limit fewer r o old mid new is found one_less once more local number around no_trees xs ys begin last few shows = absurd cc
keys-next first k limit fewer r o old mid new is found one_less once more local number around (tree_then n below rest) xs ys begin last few shows =
    let known = some_is _ _ (first-there first k (Some r) o local number around n below rest xs ys is found begin shows) in
    let beyond : Around = record around { left = Some n.number } in
    let right : first_of rest ≡ r.right = sym (ap (λ (w : NodeRow). w.right) known ∙ ap (option_or (first_of rest)) last ∙ or_none _) in
    let head : List (ℕ × NodeRow) = (n.number, row local number (record around { right = option_or (first_of rest) around.right }) n below) ∷ rows local number (around_children around n) below in
    let regrouped : xs ++ (rows local number around (tree_then n below rest) ++ ys) ≡ (xs ++ head) ++ (rows local number beyond rest ++ ys) = simp append_assoc in
    let others = more local number beyond rest (xs ++ head) ys right last (omega arith) (subst (Shows o) regrouped shows) in
    omega (arith, others, once)

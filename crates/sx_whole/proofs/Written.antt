-- Entries that are written one behind another.
use Rattle.std.proofs.Common.{◌≡◌, ℕ, zero, suc, ◌+◌, ◌^◌, ◌<◌, ◌≤◌, Bool, true, false, cond, List, [], ◌∷◌, ◌++◌, length, take, map, get_or, Option, Some, refl, sym, ap, ◌∙◌, arith, append_assoc, append-nil, subst}
use Rattle.std.specs.Prelude.{flat_map, slice_get, T, ◌&&◌, IfSome, IsSome}
use Rattle.std.specs.Int.{w32, to_be_bytes}
use Rattle.std.proofs.lemmas.List.{length-map}
use Rattle.std.specs.Ordering.{nat_cmp, is_lt, is_eq}
use Rattle.std.specs.Cmp.{nat_cmp_is, ranked}
use Rattle.std.specs.List.{AllByRecursion}
use Rattle.std.specs.FinMap as fin
use Rattle.sx_record.specs.Spelling.{IsNode}
use Rattle.std.specs.FinMap.{find, is_sorted, get-entries, entries_sorted}
use Rattle.std.specs.FinMap.Entries.{below_all}
use Rattle.std.specs.declared.cmp.Ordering.{Ordering}
use Rattle.std.specs.declared.cmp.Ordering.TheVariants.{Less, Equal, Greater}
use Rattle.sx_tree.specs.declared.record.NodeRecord.{NodeRecord}
use Rattle.sx_model.specs.Records.{PathRow}
use Rattle.sx_view.specs.Records.{RecordMap}
use Rattle.sx_paths.specs.Table.{row_at}
use Rattle.sx_whole.specs.Body.{AreBelow, AreNodes, AreRows, AreWhole, AscendFrom, body_bytes, node_entry, path_entry}

first : (a b : Bool) → T (a && b) → T a
first true b both = tt
first false b both = both

second : (a b : Bool) → T (a && b) → T b
second true b both = both
second false b both = absurd both

less : (m n : ℕ) (o : Ordering) → o ≡ nat_cmp m n → T (is_lt o) → m < n
less m n Less is lt = ranked m n Less is
less m n Equal is lt = absurd lt
less m n Greater is lt = absurd lt

pub take_one : {X : Type 0} (f : X → List ℕ) (xs : List X) (i : ℕ) (x : X) → slice_get xs i ≡ Some x → flat_map f (take (i + 1) xs) ≡ flat_map f (take i xs) ++ f x
take_one f [] i x there = absurd (cc)
take_one f (y ∷ xs) zero x there = let same : y ≡ x = cc in append-nil (f y) ∙ ap f same
take_one f (y ∷ xs) (suc i) x there =
    let n : suc i + 1 ≡ suc (i + 1) = omega arith in
    ap (λ (m : ℕ). flat_map f (take m (y ∷ xs))) n ∙ ap (λ (t : List ℕ). f y ++ t) (take_one f xs i x there) ∙ sym (append_assoc (f y) (flat_map f (take i xs)) (f x))

-- one more of a list is written behind a head
pub put_more : {X : Type 0} (f : X → List ℕ) (start head out new : List ℕ) (xs : List X) (i : ℕ) (x : X) → slice_get xs i ≡ Some x
    → out ≡ start ++ (head ++ flat_map f (take i xs)) → new ≡ out ++ f x → new ≡ start ++ (head ++ flat_map f (take (i + 1) xs))
put_more f start head out new xs i x there before last =
    last ∙ ap (λ (t : List ℕ). t ++ f x) before ∙ append_assoc start (head ++ flat_map f (take i xs)) (f x)
    ∙ ap (λ (t : List ℕ). start ++ t) (append_assoc head (flat_map f (take i xs)) (f x) ∙ ap (λ (t : List ℕ). head ++ t) (sym (take_one f xs i x there)))

pub row_there : (rows : List PathRow) (before : ℕ) (row : PathRow) → Some row ≡ row_at rows (before + 1) → slice_get rows before ≡ Some row
row_there rows before row is = let n : before + 1 ≡ suc before = omega arith in sym (is ∙ ap (row_at rows) n)

-- the entry at a place, and what a look-up by its number finds
pub record EntryAt {R : Type 0} (es : List (ℕ × R)) (i number : ℕ) : Type 0 where
  pub value : R
  pub there : slice_get es i ≡ Some (number, value)
  pub got : find nat_cmp number es ≡ Some value

key_above : {R : Type 0} (k : ℕ) (es : List (ℕ × R)) (i : ℕ) → T (below_all nat_cmp k es) → i < length es → k < get_or (map (λ e. e.0) es) i 0
key_above k [] i below lt = absurd (omega arith)
key_above k (e ∷ es) zero below lt = less k e.0 (nat_cmp k e.0) refl (first _ _ below)
key_above k (e ∷ es) (suc i) below lt = key_above k es i (second _ _ below) (omega arith)

entry_in : {R : Type 0} (es : List (ℕ × R)) (i : ℕ) → T (is_sorted nat_cmp es) → i < length es → EntryAt es i (get_or (map (λ e. e.0) es) i 0)
entry_in [] i sorted lt = absurd (omega arith)
entry_in (e ∷ es) zero sorted lt =
    record { value = e.1; there = refl; got = ap (λ (o : Ordering). cond (is_eq o) (Some e.1) (find nat_cmp e.0 es)) (sym (nat_cmp_is e.0 e.0 Equal refl)) }
entry_in (e ∷ es) (suc i) sorted lt =
    let few : i < length es = omega arith in
    let rest = entry_in es i (second _ _ sorted) few in
    let number : ℕ = get_or (map (λ e. e.0) es) i 0 in
    let above : e.0 < number = key_above e.0 es i (first _ _ sorted) few in
    record {
      value = rest.value;
      there = rest.there;
      got = ap (λ (o : Ordering). cond (is_eq o) (Some e.1) (find nat_cmp number es)) (sym (nat_cmp_is number e.0 Greater above)) ∙ rest.got;
    }

pub entry_at : {R : Type 0} (records : RecordMap R) (i : ℕ) → i < length (fin.entries records) → EntryAt (fin.entries records) i (get_or (fin.keys records) i 0)
entry_at records i lt = entry_in (fin.entries records) i (entries_sorted records) lt

-- a number that is listed has a record
pub key_there : {R : Type 0} (records start : RecordMap R) (items : List ℕ) (i : ℕ) → records ≡ start → items ≡ fin.keys start → i < length items
    → EntryAt (fin.entries start) i (get_or items i 0) × IsSome (fin.get records (get_or items i 0))
key_there {R = R} records start items i same numbers lt =
    let len : length items ≡ length (fin.entries start) = ap length numbers ∙ length-map (fin.entries start) (λ (e : ℕ × R). e.0) in
    let P : List ℕ → Type 0 = λ l. EntryAt (fin.entries start) i (get_or l i 0) in
    let at : EntryAt (fin.entries start) i (get_or items i 0) = subst P (sym numbers) (entry_at start i (omega arith)) in
    let got : fin.get records (get_or items i 0) ≡ Some at.value = ap (λ (m : RecordMap R). fin.get m (get_or items i 0)) same ∙ get-entries start (get_or items i 0) ∙ at.got in
    (at, subst IsSome (sym got) refl)

-- one node more is written
pub node_more : (records start : RecordMap NodeRecord) (items : List ℕ) (i : ℕ) (before head out new : List ℕ) → records ≡ start → items ≡ fin.keys start → i < length items
    → out ≡ before ++ (head ++ flat_map node_entry (take i (fin.entries start)))
    → IfSome (fin.get records (get_or items i 0)) (λ node. new ≡ out ++ node_entry (get_or items i 0, node))
    → new ≡ before ++ (head ++ flat_map node_entry (take (i + 1) (fin.entries start)))
node_more records start items i before head out new same numbers lt written put =
    let at = (key_there records start items i same numbers lt).0 in
    let number : ℕ = get_or items i 0 in
    let got : fin.get records number ≡ Some at.value = ap (λ (m : RecordMap NodeRecord). fin.get m number) same ∙ get-entries start number ∙ at.got in
    let P : Option NodeRecord → Type 0 = λ o. IfSome o (λ node. new ≡ out ++ node_entry (number, node)) in
    put_more node_entry before head out new (fin.entries start) i (number, at.value) at.there written (subst P got put)

pub body_put : (start middle new : List ℕ) (nodes : List (ℕ × NodeRecord)) (rows : List PathRow) → middle ≡ start ++ (to_be_bytes w32 (length nodes) ++ flat_map node_entry nodes)
    → new ≡ middle ++ (to_be_bytes w32 (length rows) ++ flat_map path_entry rows) → new ≡ start ++ body_bytes nodes rows
unfolding body_bytes
body_put start middle new nodes rows first second =
    let head = to_be_bytes w32 (length nodes) in
    let behind = to_be_bytes w32 (length rows) ++ flat_map path_entry rows in
    second ∙ ap (λ (t : List ℕ). t ++ behind) first ∙ append_assoc start (head ++ flat_map node_entry nodes) behind
    ∙ ap (λ (t : List ℕ). start ++ t) (append_assoc head (flat_map node_entry nodes) behind)

-- ---- what is known of what was written

pub all_more : {X : Type 0} (P : X → Type 0) (xs : List X) (i : ℕ) (x : X) → slice_get xs i ≡ Some x → AllByRecursion P (take i xs) → P x → AllByRecursion P (take (i + 1) xs)
all_more P [] i x there known is = absurd (cc)
all_more P (y ∷ xs) zero x there known is = let same : x ≡ y = cc in (subst P same is, tt)
all_more P (y ∷ xs) (suc i) x there known is =
    let n : suc (i + 1) ≡ suc i + 1 = omega arith in
    let Q : ℕ → Type 0 = λ m. AllByRecursion P (take m (y ∷ xs)) in
    subst Q n (known.0, all_more P xs i x there known.1 is)

pub node_known : (records start : RecordMap NodeRecord) (items : List ℕ) (i : ℕ) → records ≡ start → items ≡ fin.keys start → i < length items
    → AreNodes (take i (fin.entries start)) → IfSome (fin.get records (get_or items i 0)) IsNode → AreNodes (take (i + 1) (fin.entries start))
node_known records start items i same numbers lt known is =
    let at = (key_there records start items i same numbers lt).0 in
    let number : ℕ = get_or items i 0 in
    let got : fin.get records number ≡ Some at.value = ap (λ (m : RecordMap NodeRecord). fin.get m number) same ∙ get-entries start number ∙ at.got in
    let P : Option NodeRecord → Type 0 = λ o. IfSome o IsNode in
    all_more (λ (e : ℕ × NodeRecord). IsNode e.1) (fin.entries start) i (number, at.value) at.there known (subst P got is)

numbers_above : (k : ℕ) (es : List (ℕ × NodeRecord)) → T (below_all nat_cmp k es) → AllByRecursion (λ e. k + 1 ≤ e.0) es
numbers_above k [] below = tt
numbers_above k (e ∷ es) below = let above = less k e.0 (nat_cmp k e.0) refl (first _ _ below) in (omega arith, numbers_above k es (second _ _ below))

ascend_of : (least : ℕ) (es : List (ℕ × NodeRecord)) → T (is_sorted nat_cmp es) → AllByRecursion (λ e. least ≤ e.0) es → AreBelow es → AreNodes es → AscendFrom least es
ascend_of least [] sorted above below are = tt
ascend_of least (e ∷ es) sorted above below are =
    (above.0, below.0, are.0, ascend_of (e.0 + 1) es (second _ _ sorted) (numbers_above e.0 es (first _ _ sorted)) below.1 are.1)

above_none : (es : List (ℕ × NodeRecord)) → AllByRecursion (λ e. 0 ≤ e.0) es
above_none [] = tt
above_none (e ∷ es) = (omega arith, above_none es)

pub whole_of : (records : RecordMap NodeRecord) (rows : List PathRow) → AreNodes (fin.entries records) → AreRows rows → length rows < 2 ^ 32 → AreBelow (fin.entries records)
    → AreWhole (fin.entries records) rows
whole_of records rows are are_rows few below =
    record { ascend = ascend_of 0 (fin.entries records) (entries_sorted records) (above_none (fin.entries records)) below are; are_rows = are_rows; fit = few }

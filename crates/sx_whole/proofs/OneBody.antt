-- No two documents have one body, and no body is told to be broken.
use Rattle.std.proofs.Common.{◌≡◌, ◌≢◌, ℕ, ◌+◌, ◌<◌, ◌≤◌, ◌^◌, List, [], ◌∷◌, ◌++◌, length, refl, sym, ap, ◌∙◌, arith, lit<, lit≤, Result, Ok, Err, IfOk, IfErr, subst, inl, inr, append_assoc, append-nil}
use Rattle.std.specs.Prelude.{flat_map, MatchResult}
use Rattle.std.specs.Int.{w32, to_be_bytes}
use Rattle.std.specs.List.{AllByRecursion}
use Rattle.std.proofs.lemmas.List.{length-append}
use Rattle.sx_bytes.specs.Front.{front_number}
use Rattle.sx_bytes.specs.declared.damage.Damage.{Damage}
use Rattle.sx_bytes.proofs.Fronts.{some_is, front_number_again}
use Rattle.sx_bytes.proofs.Worth.{length-high_first}
use Rattle.sx_tree.specs.declared.record.NodeRecord.{NodeRecord}
use Rattle.sx_tree.specs.declared.record.PathRecord.{PathRecord}
use Rattle.sx_model.specs.Records.{PathRow}
use Rattle.sx_record.specs.Spelling.{IsNode, node_bytes, node_fields}
use Rattle.sx_record.specs.Laws.{node-one_spelling, path-one_spelling}
use Rattle.sx_paths.specs.Table.{row_of}
use Rattle.sx_whole.specs.declared.fault.WholeFault.{WholeFault}
use Rattle.sx_whole.specs.declared.fault.WholeFault.TheVariants.{Damaged, OutOfMemory}
use Rattle.sx_whole.specs.Body.{AscendFrom, AreRows, AreWhole, IsRow, after_last, body_bytes, node_entry, path_entry}
use Rattle.sx_whole.specs.Broken.{Breaks, BreaksFirst, BreaksNode, BreaksNodes, BreaksNumber, BreaksPaths, BreaksSecond, Explains, IsNoEntry, broken_length}

-- ---- single things

numbers_one : (a b : ℕ) (x y : List ℕ) → a < 2 ^ 32 → b < 2 ^ 32 → to_be_bytes w32 a ++ x ≡ to_be_bytes w32 b ++ y → (a ≡ b) × (x ≡ y)
numbers_one a b x y a_fits b_fits e =
    let both = some_is (a, x) (b, y) (sym (front_number_again w32 a x (lit< tt) a_fits) ∙ ap (front_number w32) e ∙ front_number_again w32 b y (lit< tt) b_fits) in
    (ap (λ (f : ℕ × List ℕ). f.0) both, ap (λ (f : ℕ × List ℕ). f.1) both)

abbrev IsEntry : ℕ × NodeRecord → Type 0
IsEntry e = (e.0 < 1_073_741_824) × IsNode e.1

parts_of : (e : ℕ × NodeRecord) (x : List ℕ) → node_entry e ++ x ≡ to_be_bytes w32 e.0 ++ (node_bytes (node_fields e.1) ++ x)
parts_of e x = append_assoc (to_be_bytes w32 e.0) (node_bytes (node_fields e.1)) x

node_one : (a b : ℕ × NodeRecord) (x y : List ℕ) → IsEntry a → IsEntry b → node_entry a ++ x ≡ node_entry b ++ y → (a ≡ b) × (x ≡ y)
node_one a b x y a_is b_is e =
    let a_fits : a.0 < 2 ^ 32 = omega (arith, a_is.0) in
    let b_fits : b.0 < 2 ^ 32 = omega (arith, b_is.0) in
    let numbers = numbers_one a.0 b.0 _ _ a_fits b_fits (sym (parts_of a x) ∙ e ∙ parts_of b y) in
    let records = node-one_spelling a.1 b.1 x y a_is.1 b_is.1 numbers.1 in
    (λ i. (numbers.0 i, records.0 i), records.1)

path_one : (a b : PathRow) (x y : List ℕ) → IsRow a → IsRow b → path_entry a ++ x ≡ path_entry b ++ y → (a ≡ b) × (x ≡ y)
path_one a b x y a_is b_is e =
    let r : PathRecord = record { parent = a.parent; step = a.step; count = a.count; parent_fits = a_is.0; count_fits = a_is.1 } in
    let s : PathRecord = record { parent = b.parent; step = b.step; count = b.count; parent_fits = b_is.0; count_fits = b_is.1 } in
    let both = path-one_spelling r s x y a_is.2 b_is.2 e in
    (ap row_of both.0, both.1)

-- ---- lists of things that each have one spelling

abbrev HaveOne : {X : Type 0} → (X → List ℕ) → (X → Type 0) → Type 0
HaveOne {X} f Is = (a b : X) (x y : List ℕ) → Is a → Is b → f a ++ x ≡ f b ++ y → (a ≡ b) × (x ≡ y)

list_one : {X : Type 0} (f : X → List ℕ) (Is : X → Type 0) → HaveOne f Is → (xs ys : List X) (s t : List ℕ) → length xs ≡ length ys → AllByRecursion Is xs → AllByRecursion Is ys
    → flat_map f xs ++ s ≡ flat_map f ys ++ t → (xs ≡ ys) × (s ≡ t)
list_one f Is one [] [] s t len a b e = (refl, e)
list_one f Is one [] (y ∷ ys) s t len a b e = absurd (omega arith)
list_one f Is one (x ∷ xs) [] s t len a b e = absurd (omega arith)
list_one f Is one (x ∷ xs) (y ∷ ys) s t len a b e =
    let split = one x y (flat_map f xs ++ s) (flat_map f ys ++ t) a.0 b.0 (sym (append_assoc (f x) (flat_map f xs) s) ∙ e ∙ append_assoc (f y) (flat_map f ys) t) in
    let rest = list_one f Is one xs ys s t (omega arith) a.1 b.1 split.1 in
    (λ i. split.0 i ∷ rest.0 i, rest.1)

-- what stands behind the first ones of a list
record Next {X : Type 0} (f : X → List ℕ) (Is : X → Type 0) (xs ys : List X) (left : List ℕ) : Type 0 where
  next : X
  others : List X
  behind : List ℕ
  list_is : ys ≡ xs ++ (next ∷ others)
  left_is : left ≡ f next ++ behind
  fits : Is next

list_next : {X : Type 0} (f : X → List ℕ) (Is : X → Type 0) → HaveOne f Is → (xs ys : List X) (left t : List ℕ) → length xs < length ys → AllByRecursion Is xs → AllByRecursion Is ys
    → flat_map f xs ++ left ≡ flat_map f ys ++ t → Next f Is xs ys left
list_next f Is one [] [] left t few a b e = absurd (omega arith)
list_next f Is one [] (y ∷ ys) left t few a b e =
    record { next = y; others = ys; behind = flat_map f ys ++ t; list_is = refl; left_is = e ∙ append_assoc (f y) (flat_map f ys) t; fits = b.0 }
list_next f Is one (x ∷ xs) [] left t few a b e = absurd (omega arith)
list_next f Is one (x ∷ xs) (y ∷ ys) left t few a b e =
    let split = one x y (flat_map f xs ++ left) (flat_map f ys ++ t) a.0 b.0 (sym (append_assoc (f x) (flat_map f xs) left) ∙ e ∙ append_assoc (f y) (flat_map f ys) t) in
    let rest = list_next f Is one xs ys left t (omega arith) a.1 b.1 split.1 in
    record {
      next = rest.next;
      others = rest.others;
      behind = rest.behind;
      list_is = λ i. sym split.0 i ∷ rest.list_is i;
      left_is = rest.left_is;
      fits = rest.fits;
    }

-- ---- nodes whose numbers ascend

ascend-all : (least : ℕ) (es : List (ℕ × NodeRecord)) → AscendFrom least es → AllByRecursion IsEntry es
ascend-all least [] up = tt
ascend-all least (e ∷ es) up = ((up.1, up.2), ascend-all (e.0 + 1) es up.3)

ascend-few : (least : ℕ) (es : List (ℕ × NodeRecord)) → least ≤ 1_073_741_824 → AscendFrom least es → least + length es ≤ 1_073_741_824
ascend-few least [] small up = omega arith
ascend-few least (e ∷ es) small up =
    let above = up.0 in
    let fits = up.1 in
    let rest = ascend-few (e.0 + 1) es (omega arith) up.3 in
    omega arith

ascend-next : (least : ℕ) (xs : List (ℕ × NodeRecord)) (e : ℕ × NodeRecord) (es : List (ℕ × NodeRecord)) → AscendFrom least (xs ++ (e ∷ es)) → after_last least xs ≤ e.0
ascend-next least [] e es up = up.0
ascend-next least (x ∷ xs) e es up = ascend-next (x.0 + 1) xs e es up.3

-- so many nodes have a number of four bytes
few_nodes : (es : List (ℕ × NodeRecord)) → AscendFrom 0 es → length es < 2 ^ 32
few_nodes es up = let few = ascend-few 0 es (lit≤ tt) up in omega arith

-- ---- whole bodies

-- the bytes behind the nodes
abbrev second_part : List PathRow → List ℕ → List ℕ
second_part rows t = to_be_bytes w32 (length rows) ++ (flat_map path_entry rows ++ t)

body_parts : (nodes : List (ℕ × NodeRecord)) (rows : List PathRow) (t : List ℕ)
    → body_bytes nodes rows ++ t ≡ to_be_bytes w32 (length nodes) ++ (flat_map node_entry nodes ++ second_part rows t)
unfolding body_bytes
body_parts nodes rows t =
    append_assoc (to_be_bytes w32 (length nodes)) _ t
    ∙ ap (λ (l : List ℕ). to_be_bytes w32 (length nodes) ++ l)
    (append_assoc (flat_map node_entry nodes) _ t ∙ ap (λ (l : List ℕ). flat_map node_entry nodes ++ l) (append_assoc (to_be_bytes w32 (length rows)) (flat_map path_entry rows) t))

first_one : (nodes others : List (ℕ × NodeRecord)) (s t : List ℕ) → AscendFrom 0 nodes → AscendFrom 0 others
    → to_be_bytes w32 (length nodes) ++ (flat_map node_entry nodes ++ s) ≡ to_be_bytes w32 (length others) ++ (flat_map node_entry others ++ t) → (nodes ≡ others) × (s ≡ t)
first_one nodes others s t up others_up e =
    let numbers = numbers_one (length nodes) (length others) _ _ (few_nodes nodes up) (few_nodes others others_up) e in
    list_one node_entry IsEntry node_one nodes others s t numbers.0 (ascend-all 0 nodes up) (ascend-all 0 others others_up) numbers.1

pub whole_one : (nodes others : List (ℕ × NodeRecord)) (rows other_rows : List PathRow) (s t : List ℕ) → AreWhole nodes rows → AreWhole others other_rows
    → body_bytes nodes rows ++ s ≡ body_bytes others other_rows ++ t → (nodes ≡ others) × (rows ≡ other_rows) × (s ≡ t)
whole_one nodes others rows other_rows s t whole other_whole e =
    let first = first_one nodes others (second_part rows s) (second_part other_rows t) whole.ascend other_whole.ascend (sym (body_parts nodes rows s) ∙ e ∙ body_parts others other_rows t) in
    let numbers = numbers_one (length rows) (length other_rows) _ _ whole.fit other_whole.fit first.1 in
    let second = list_one path_entry IsRow path_one rows other_rows s t numbers.0 whole.are_rows other_whole.are_rows numbers.1 in
    (first.0, second.0, second.1)

pub one_body : (nodes others : List (ℕ × NodeRecord)) (rows other_rows : List PathRow) → AreWhole nodes rows → AreWhole others other_rows
    → body_bytes nodes rows ≡ body_bytes others other_rows → (nodes ≡ others) × (rows ≡ other_rows)
one_body nodes others rows other_rows whole other_whole e =
    let all = whole_one nodes others rows other_rows [] [] whole other_whole (ap (λ (b : List ℕ). b ++ []) e) in (all.0, all.1)

-- ---- no body is broken

no_number : (place : ℕ) (left : List ℕ) (damage : Damage) (n : ℕ) (x : List ℕ) → BreaksNumber place left damage → left ≡ to_be_bytes w32 n ++ x → ⊥
no_number place left damage n x breaks e =
    let short = breaks.0 in
    let len : length (to_be_bytes w32 n) ≡ 4 = length-high_first 4 n in
    let all : length left ≡ length (to_be_bytes w32 n) + length x = ap length e ∙ length-append (to_be_bytes w32 n) x in
    omega arith

no_entry : (least number : ℕ) (behind rest : List ℕ) (r : NodeRecord) → least ≤ number → number < 1_073_741_824 → IsNode r → behind ≡ node_bytes (node_fields r) ++ rest → IsNoEntry least number behind → ⊥
no_entry least number behind rest r above small is e (inl low) = omega arith
no_entry least number behind rest r above small is e (inr (inl high)) = omega arith
no_entry least number behind rest r above small is e (inr (inr none)) = none r rest is e

no_node : (place least : ℕ) (left : List ℕ) (damage : Damage) (e : ℕ × NodeRecord) (rest : List ℕ) → least ≤ e.0 → IsEntry e → left ≡ node_entry e ++ rest → BreaksNode place least left damage → ⊥
no_node place least left damage e rest above is same (inl short) = no_number place left damage e.0 (node_bytes (node_fields e.1) ++ rest) short (same ∙ parts_of e rest)
no_node place least left damage e rest above is same (inr broken) =
    let fits : e.0 < 2 ^ 32 = omega (arith, is.0) in
    let numbers = numbers_one broken.0 e.0 broken.1.0 (node_bytes (node_fields e.1) ++ rest) broken.1.1.0 fits (sym broken.1.1.1 ∙ same ∙ parts_of e rest) in
    let P : ℕ → Type 0 = λ n. IsNoEntry least n broken.1.0 in
    no_entry least e.0 broken.1.0 rest e.1 above is.0 is.1 numbers.1 (subst P numbers.0 broken.1.1.2)

no_first : (place : ℕ) (body : List ℕ) (damage : Damage) (nodes : List (ℕ × NodeRecord)) (t : List ℕ) → AscendFrom 0 nodes
    → body ≡ to_be_bytes w32 (length nodes) ++ (flat_map node_entry nodes ++ t) → BreaksFirst place body damage → ⊥
no_first place body damage nodes t up e (inl short) = no_number place body damage (length nodes) (flat_map node_entry nodes ++ t) short e
no_first place body damage nodes t up e (inr broken) =
    let b : BreaksNodes place broken.0 broken.1.0 damage = broken.1.1.2 in
    let numbers = numbers_one broken.0 (length nodes) broken.1.0 (flat_map node_entry nodes ++ t) broken.1.1.0 (few_nodes nodes up) (sym broken.1.1.1 ∙ e) in
    let few : length b.nodes < length nodes = let n = b.few in let m = numbers.0 in omega arith in
    let n = list_next node_entry IsEntry node_one b.nodes nodes b.left t few (ascend-all 0 b.nodes b.ascend) (ascend-all 0 nodes up) (sym b.bytes_are ∙ numbers.1) in
    let ascends : AscendFrom 0 (b.nodes ++ (n.next ∷ n.others)) = subst (AscendFrom 0) {y = b.nodes ++ (n.next ∷ n.others)} n.list_is up in
    no_node place (after_last 0 b.nodes) b.left damage n.next n.behind (ascend-next 0 b.nodes n.next n.others ascends) n.fits n.left_is b.next

no_second : (place : ℕ) (left : List ℕ) (damage : Damage) (rows : List PathRow) → AreRows rows → length rows < 2 ^ 32 → left ≡ second_part rows [] → BreaksSecond place left damage → ⊥
no_second place left damage rows are fit e (inl short) = no_number place left damage (length rows) (flat_map path_entry rows ++ []) short e
no_second place left damage rows are fit e (inr broken) =
    let b : BreaksPaths place broken.0 broken.1.0 damage = broken.1.1.2 in
    let numbers = numbers_one broken.0 (length rows) broken.1.0 (flat_map path_entry rows ++ []) broken.1.1.0 fit (sym broken.1.1.1 ∙ e) in
    let few : length b.rows < length rows = let n = b.few in let m = numbers.0 in omega arith in
    let n = list_next path_entry IsRow path_one b.rows rows b.left [] few b.are_rows are (sym b.bytes_are ∙ numbers.1) in
    b.next n.next n.behind n.fits n.left_is

pub no_break : (place : ℕ) (body : List ℕ) (damage : Damage) (nodes : List (ℕ × NodeRecord)) (rows : List PathRow) → AreWhole nodes rows → body ≡ body_bytes nodes rows → Breaks place body damage → ⊥
no_break place body damage nodes rows whole e (inl first) =
    no_first place body damage nodes (second_part rows []) whole.ascend (e ∙ sym (append-nil (body_bytes nodes rows)) ∙ body_parts nodes rows []) first
no_break place body damage nodes rows whole e (inr (inl b)) =
    let same = first_one b.nodes nodes b.left (second_part rows []) b.ascend whole.ascend (sym b.bytes_are ∙ e ∙ sym (append-nil (body_bytes nodes rows)) ∙ body_parts nodes rows []) in
    no_second place b.left damage rows whole.are_rows whole.fit same.1 b.next
no_break place body damage nodes rows whole e (inr (inr b)) =
    b.some_left (whole_one b.nodes nodes b.rows rows b.left [] b.whole whole (sym b.bytes_are ∙ e ∙ sym (append-nil (body_bytes nodes rows)))).2

-- ---- what is read

pub read_parts : (body first second : List ℕ) (nodes : List (ℕ × NodeRecord)) (rows : List PathRow) → body ≡ to_be_bytes w32 (length nodes) ++ (flat_map node_entry nodes ++ first)
    → first ≡ to_be_bytes w32 (length rows) ++ (flat_map path_entry rows ++ second) → body ≡ body_bytes nodes rows ++ second
read_parts body first second nodes rows begins goes_on =
    begins ∙ ap (λ (l : List ℕ). to_be_bytes w32 (length nodes) ++ (flat_map node_entry nodes ++ l)) goes_on ∙ sym (body_parts nodes rows second)

-- bytes are left behind the last record
pub end_broken : (place : ℕ) (body first left : List ℕ) (nodes : List (ℕ × NodeRecord)) (rows : List PathRow) → AreWhole nodes rows
    → body ≡ to_be_bytes w32 (length nodes) ++ (flat_map node_entry nodes ++ first) → first ≡ to_be_bytes w32 (length rows) ++ (flat_map path_entry rows ++ left) → left ≢ []
    → Breaks place body (broken_length place left)
end_broken place body first left nodes rows whole begins goes_on some_left =
    inr (inr (record { nodes = nodes; rows = rows; left = left; bytes_are = read_parts body first left nodes rows begins goes_on; whole = whole; some_left = some_left; told = refl }))

memory_only : (place : ℕ) (body : List ℕ) (nodes : List (ℕ × NodeRecord)) (rows : List PathRow) → AreWhole nodes rows → body ≡ body_bytes nodes rows
    → (fault : WholeFault) → Explains (Breaks place body) fault → fault ≡ OutOfMemory
memory_only place body nodes rows whole is (Damaged damage) breaks = absurd (no_break place body damage nodes rows whole is breaks)
memory_only place body nodes rows whole is OutOfMemory breaks = refl

-- what is read of the body of a document is this document
pub read_again : {D : Type 0} (nodes_in : D → List (ℕ × NodeRecord)) (rows_in : D → List PathRow) (place : ℕ) (body : List ℕ) (result : Result D WholeFault)
    → IfOk result (λ d. body ≡ body_bytes (nodes_in d) (rows_in d)) → IfOk result (λ d. AreWhole (nodes_in d) (rows_in d)) → IfErr result (Explains (Breaks place body))
    → (nodes : List (ℕ × NodeRecord)) (rows : List PathRow) → AreWhole nodes rows → body ≡ body_bytes nodes rows
    → MatchResult result (λ d. (nodes_in d ≡ nodes) × (rows_in d ≡ rows)) (λ fault. fault ≡ OutOfMemory)
read_again nodes_in rows_in place body (Ok d) found is fault nodes rows whole same = one_body (nodes_in d) nodes (rows_in d) rows is whole (sym found ∙ same)
read_again nodes_in rows_in place body (Err e) found is fault nodes rows whole same = memory_only place body nodes rows whole same e fault

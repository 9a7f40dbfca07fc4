-- Cells are checked one by one.
use Rattle.std.proofs.Common.{◌≡◌, ◌∙◌, ℕ, suc, zero, ◌+◌, ◌*◌, ◌<◌, ◌≤◌, ◌⊎◌, inl, inr, Bool, List, [], ◌∷◌, ◌++◌, length, take, drop, refl, ap, sym, subst, arith, nat_eq, Some, Result, Ok, Err, add-one, get_or, length-append, length-drop}
use Rattle.std.proofs.lemmas.List.{length-take}
use Rattle.std.proofs.lemmas.Option.{slice_get-get_or, slice_get_read}
use Rattle.std.specs.Prelude.{slice_get, IfErr, IsErrAnd}
use Rattle.std.specs.List.{AllByRecursion}
use Rattle.sx_bytes.proofs.Fronts.{some_is}
use Rattle.sx_bytes.specs.declared.damage.Damage.{Damage}
use Rattle.sx_frame.specs.declared.table.FrameRow.{FrameRow}
use Rattle.sx_log.specs.declared.log.GroupRow.{GroupRow}
use Rattle.sx_outside.specs.Faults.{Rose}
use Rattle.sx_reader.specs.Asked.{BreaksAsking, ExplainsEach, KeepEach, KeepsAsking, asked_from, asked_in}
use Rattle.sx_reader.specs.Cells.{placed_from, placed_in}
use Rattle.sx_reader.specs.Frames.{ExplainsRead, IsReadOf}
use Rattle.sx_reader.specs.declared.cell.Cell.{Cell}
use Rattle.sx_view.specs.declared.fault.Fault.{Fault}
use Rattle.sx_view.specs.declared.fault.Fault.TheVariants.{Failed, Damaged, OutOfMemory}
use Rattle.sx_volume.specs.declared.spot.Spot.{Ghosts}

pub drop-here : {A : Type 0} (xs : List A) (i : ℕ) (x : A) → slice_get xs i ≡ Some x → drop i xs ≡ x ∷ drop (suc i) xs
drop-here [] i x is = absurd cc
drop-here (y ∷ ys) zero x is = ap (λ z. z ∷ ys) (some_is y x is)
drop-here (y ∷ ys) (suc i) x is = drop-here ys i x is

pub drop-next : {A : Type 0} (xs : List A) (i : ℕ) (x : A) → slice_get xs i ≡ Some x → drop i xs ≡ x ∷ drop (i + 1) xs
drop-next xs i x is = rw add-one (drop-here xs i x is)

pub drop-past : {A : Type 0} (xs : List A) (i : ℕ) → length xs ≤ i → drop i xs ≡ []
drop-past [] zero long = refl
drop-past [] (suc i) long = refl
drop-past (x ∷ xs) zero long = absurd (omega arith)
drop-past (x ∷ xs) (suc i) long = drop-past xs i (omega arith)

pub rose-sooner : (a b n : ℕ) → a ≤ b → Rose b n → Rose a n
rose-sooner a b n le rose = omega arith

pub read-sooner : {S : Type 0} (g : Ghosts S) (now later : Type 0) (cell : Cell S) (bytes : List ℕ) → (now → later) → IsReadOf g later cell bytes → IsReadOf g now cell bytes
read-sooner g now later cell bytes on read = record { long = read.long; fits = read.fits; told = λ is. read.told (on is) }

pub explains-sooner : {S : Type 0} (g : Ghosts S) (now later rose risen : Type 0) (cell : Cell S) (breaks : ℕ → List ℕ → List ℕ → Damage → Type 0) (fault : Fault) → (now → later) → (rose → risen)
    → ExplainsRead g later rose cell breaks fault → ExplainsRead g now risen cell breaks fault
explains-sooner g now later rose risen cell breaks Failed on up is = up is
explains-sooner g now later rose risen cell breaks (Damaged damage) on up (bytes, read, broken) = (bytes, read-sooner g now later cell bytes on read, broken)
explains-sooner g now later rose risen cell breaks OutOfMemory on up is = tt

pub each-sooner : {S : Type 0} (g : Ghosts S) (now later rose risen : Type 0) (asked : List Bool) (cells : List (Cell S)) (fault : Fault) → (now → later) → (rose → risen)
    → ExplainsEach g later rose asked cells fault → ExplainsEach g now risen asked cells fault
each-sooner g now later rose risen [] cells fault on up is = is
each-sooner g now later rose risen (whole ∷ asked) [] fault on up is = is
each-sooner g now later rose risen (whole ∷ asked) (cell ∷ cells) fault on up (inl is) = inl (explains-sooner g now later rose risen cell (BreaksAsking whole) fault on up is)
each-sooner g now later rose risen (whole ∷ asked) (cell ∷ cells) fault on up (inr is) = inr (each-sooner g now later rose risen asked cells fault on up is)

-- ---- one cell more

asked-next : {A : Type 0} (root number next : ℕ) (xs rest : List A) (x : A) (b : Bool) → next ≡ number + 1 → b ≡ nat_eq next root → xs ≡ x ∷ rest
    → asked_from root number xs ≡ b ∷ asked_from root next rest
asked-next root number next xs rest x b is same parts =
    ap (asked_from root number) parts ∙ ap (λ (n : ℕ). nat_eq n root ∷ asked_from root n rest) (sym is) ∙ ap (λ (t : Bool). t ∷ asked_from root next rest) (sym same)

pub keep-next : {S : Type 0} (g : Ghosts S) (root number next : ℕ) (xs rest : List (Cell S)) (x : Cell S) (b : Bool) → next ≡ number + 1 → b ≡ nat_eq next root → xs ≡ x ∷ rest
    → KeepsAsking g b x → KeepEach g (asked_from root next rest) rest → KeepEach g (asked_from root number xs) xs
keep-next g root number next xs rest x b is same parts here others =
    subst (λ (asked : List Bool). KeepEach g asked xs) (sym (asked-next root number next xs rest x b is same parts))
    (subst (λ (cells : List (Cell _)). KeepEach g (b ∷ asked_from root next rest) cells) (sym parts) (here, others))

pub explain-here : {S : Type 0} (g : Ghosts S) (tells rose : Type 0) (root number next : ℕ) (xs rest : List (Cell S)) (x : Cell S) (b : Bool) (fault : Fault)
    → next ≡ number + 1 → b ≡ nat_eq next root → xs ≡ x ∷ rest
    → ExplainsRead g tells rose x (BreaksAsking b) fault ⊎ ExplainsEach g tells rose (asked_from root next rest) rest fault
    → ExplainsEach g tells rose (asked_from root number xs) xs fault
explain-here g tells rose root number next xs rest x b fault is same parts explains =
    subst (λ (asked : List Bool). ExplainsEach g tells rose asked xs fault) (sym (asked-next root number next xs rest x b is same parts))
    (subst (λ (cells : List (Cell _)). ExplainsEach g tells rose (b ∷ asked_from root next rest) cells fault) (sym parts) explains)

-- ---- one group more

pub asked-same : {A B : Type 0} (root number : ℕ) (xs : List A) (ys : List B) → length xs ≡ length ys → asked_from root number xs ≡ asked_from root number ys
asked-same root number [] [] long = refl
asked-same root number [] (y ∷ ys) long = absurd (omega (arith, long))
asked-same root number (x ∷ xs) [] long = absurd (omega (arith, long))
asked-same root number (x ∷ xs) (y ∷ ys) long = ap (λ (bs : List Bool). nat_eq (number + 1) root ∷ bs) (asked-same root (number + 1) xs ys (omega (arith, long)))

pub length-asked : {A : Type 0} (root number : ℕ) (xs : List A) → length (asked_from root number xs) ≡ length xs
length-asked root number [] = refl
length-asked root number (x ∷ xs) = ap suc (length-asked root (number + 1) xs)

pub keep-join : {S : Type 0} (g : Ghosts S) (a b : List Bool) (cells : List (Cell S)) → KeepEach g a (take (length a) cells) → KeepEach g b (drop (length a) cells) → KeepEach g (a ++ b) cells
keep-join g [] b cells first rest = rest
keep-join g (x ∷ a) b [] first rest = tt
keep-join g (x ∷ a) b (cell ∷ cells) first rest = (first.0, keep-join g a b cells first.1 rest)

pub explain-front : {S : Type 0} (g : Ghosts S) (tells rose : Type 0) (a b : List Bool) (cells : List (Cell S)) (fault : Fault) → ExplainsEach g tells rose a (take (length a) cells) fault
    → ExplainsEach g tells rose (a ++ b) cells fault
explain-front g tells rose [] b cells fault is = absurd is
explain-front g tells rose (x ∷ a) b [] fault is = is
explain-front g tells rose (x ∷ a) b (cell ∷ cells) fault (inl is) = inl is
explain-front g tells rose (x ∷ a) b (cell ∷ cells) fault (inr is) = inr (explain-front g tells rose a b cells fault is)

pub explain-back : {S : Type 0} (g : Ghosts S) (tells rose : Type 0) (a b : List Bool) (cells : List (Cell S)) (fault : Fault) → length a ≤ length cells → ExplainsEach g tells rose b (drop (length a) cells) fault
    → ExplainsEach g tells rose (a ++ b) cells fault
explain-back g tells rose [] b cells fault long is = is
explain-back g tells rose (x ∷ a) b [] fault long is = absurd (omega arith)
explain-back g tells rose (x ∷ a) b (cell ∷ cells) fault long is = inr (explain-back g tells rose a b cells fault (omega arith) is)

pub all-front : {A : Type 0} (P : A → Type 0) (xs ys : List A) → AllByRecursion P (xs ++ ys) → AllByRecursion P xs
all-front P [] ys all = tt
all-front P (x ∷ xs) ys all = (all.0, all-front P xs ys all.1)

pub all-back : {A : Type 0} (P : A → Type 0) (xs ys : List A) → AllByRecursion P (xs ++ ys) → AllByRecursion P ys
all-back P [] ys all = all
all-back P (x ∷ xs) ys all = all-back P xs ys all.1

pub all-take : {A : Type 0} (P : A → Type 0) (n : ℕ) (xs : List A) → AllByRecursion P xs → AllByRecursion P (take n xs)
all-take P zero xs all = tt
all-take P (suc n) [] all = tt
all-take P (suc n) (x ∷ xs) all = (all.0, all-take P n xs all.1)

pub all-drop : {A : Type 0} (P : A → Type 0) (n : ℕ) (xs : List A) → AllByRecursion P xs → AllByRecursion P (drop n xs)
all-drop P zero xs all = all
all-drop P (suc n) [] all = tt
all-drop P (suc n) (x ∷ xs) all = all-drop P n xs all.1

pub all-get : {A : Type 0} (P : A → Type 0) (xs : List A) (i : ℕ) (x : A) → AllByRecursion P xs → slice_get xs i ≡ Some x → P x
all-get P [] i x all is = absurd cc
all-get P (y ∷ ys) zero x all is = subst P (some_is y x is) all.0
all-get P (y ∷ ys) (suc i) x all is = all-get P ys i x all.1 is

pub all-push : {A : Type 0} (P : A → Type 0) (xs : List A) (x : A) → AllByRecursion P xs → P x → AllByRecursion P (xs ++ x ∷ [])
all-push P [] x all here = (here, tt)
all-push P (y ∷ ys) x all here = (all.0, all-push P ys x all.1 here)

pub drop-drop : {A : Type 0} (a b : ℕ) (xs : List A) → drop a (drop b xs) ≡ drop (b + a) xs
drop-drop a zero xs = let e : 0 + a ≡ a = omega arith in rw e refl
drop-drop zero (suc b) [] = let e : suc b + 0 ≡ suc b = omega arith in rw e refl
drop-drop (suc a) (suc b) [] = let e : suc b + suc a ≡ suc (b + suc a) = omega arith in rw e refl
drop-drop a (suc b) (x ∷ xs) = let e : suc b + a ≡ suc (b + a) = omega arith in rw e (drop-drop a b xs)

-- an item that was read of a list
pub there-in : {A : Type 0} (items xs : List A) (i : ℕ) (x : A) → items ≡ xs → i < length items → x ≡ get_or items i x → slice_get xs i ≡ Some x
there-in items xs i x same within is = ap (λ l. slice_get l i) (sym same) ∙ slice_get_read items (length items) i x refl within is

pub copied-in : {A : Type 0} (items xs : List A) (i : ℕ) (d : A) → items ≡ xs → i < length items → slice_get xs i ≡ Some (get_or items i d)
copied-in items xs i d same within = ap (λ l. slice_get l i) (sym same) ∙ slice_get-get_or items i d within

-- ---- groups

length-placed : (place : ℕ) (rows : List FrameRow) → length (placed_from place rows) ≡ length rows
length-placed place [] = refl
length-placed place (row ∷ rows) = ap suc (length-placed (place + row.bytes) rows)

pub group-long : (rows : List GroupRow) (i : ℕ) (row : GroupRow) → slice_get rows i ≡ Some row
    → length (placed_in (drop i rows)) ≡ length row.table + length (placed_in (drop (i + 1) rows))
group-long rows i row is =
    let place : ℕ = row.place + (80 + 36 * row.root.frames) in
    ap (λ (l : List GroupRow). length (placed_in l)) (drop-next rows i row is)
    ∙ length-append (placed_from place row.table) (placed_in (drop (i + 1) rows))
    ∙ ap (λ (n : ℕ). n + length (placed_in (drop (i + 1) rows))) (length-placed place row.table)

pub keep-group : {S : Type 0} (g : Ghosts S) (rows : List GroupRow) (i before : ℕ) (row : GroupRow) (cells : List (Cell S)) → slice_get rows i ≡ Some row
    → before + length row.table ≤ length cells
    → KeepEach g (asked_from row.root.node_root before (take (length row.table) (drop before cells))) (take (length row.table) (drop before cells))
    → KeepEach g (asked_in (before + length row.table) (drop (i + 1) rows)) (drop (before + length row.table) cells)
    → KeepEach g (asked_in before (drop i rows)) (drop before cells)
keep-group g rows i before row cells is fits here rest =
    let own : List (Cell _) = take (length row.table) (drop before cells) in
    let a : List Bool = asked_from row.root.node_root before row.table in
    let long : length a ≡ length row.table = length-asked row.root.node_root before row.table in
    let size : length own ≡ length row.table = simp (length-take, length-drop) (omega arith) in
    let asked : asked_from row.root.node_root before own ≡ a = asked-same row.root.node_root before own row.table size in
    subst (λ (l : List GroupRow). KeepEach g (asked_in before l) (drop before cells)) (sym (drop-next rows i row is))
    (keep-join g a (asked_in (before + length row.table) (drop (i + 1) rows)) (drop before cells)
    (subst (λ (n : ℕ). KeepEach g a (take n (drop before cells))) (sym long) (subst (λ (bs : List Bool). KeepEach g bs own) asked here))
    (subst (λ (n : ℕ). KeepEach g (asked_in (before + length row.table) (drop (i + 1) rows)) (drop n (drop before cells))) (sym long)
    (subst (λ (l : List (Cell _)). KeepEach g (asked_in (before + length row.table) (drop (i + 1) rows)) l) (sym (drop-drop (length row.table) before cells)) rest)))

pub explain-group : {S : Type 0} (g : Ghosts S) (tells rose : Type 0) (rows : List GroupRow) (i before : ℕ) (row : GroupRow) (cells : List (Cell S)) (fault : Fault) → slice_get rows i ≡ Some row
    → before + length row.table ≤ length cells
    → ExplainsEach g tells rose (asked_from row.root.node_root before (take (length row.table) (drop before cells))) (take (length row.table) (drop before cells)) fault
    → ExplainsEach g tells rose (asked_in before (drop i rows)) (drop before cells) fault
explain-group g tells rose rows i before row cells fault is fits here =
    let own : List (Cell _) = take (length row.table) (drop before cells) in
    let a : List Bool = asked_from row.root.node_root before row.table in
    let long : length a ≡ length row.table = length-asked row.root.node_root before row.table in
    let size : length own ≡ length row.table = simp (length-take, length-drop) (omega arith) in
    let asked : asked_from row.root.node_root before own ≡ a = asked-same row.root.node_root before own row.table size in
    subst (λ (l : List GroupRow). ExplainsEach g tells rose (asked_in before l) (drop before cells) fault) (sym (drop-next rows i row is))
    (explain-front g tells rose a (asked_in (before + length row.table) (drop (i + 1) rows)) (drop before cells) fault
    (subst (λ (n : ℕ). ExplainsEach g tells rose a (take n (drop before cells)) fault) (sym long) (subst (λ (bs : List Bool). ExplainsEach g tells rose bs own fault) asked here)))

pub explain-later : {S : Type 0} (g : Ghosts S) (tells rose : Type 0) (rows : List GroupRow) (i before : ℕ) (row : GroupRow) (cells : List (Cell S)) (fault : Fault) → slice_get rows i ≡ Some row
    → before + length row.table ≤ length cells
    → ExplainsEach g tells rose (asked_in (before + length row.table) (drop (i + 1) rows)) (drop (before + length row.table) cells) fault
    → ExplainsEach g tells rose (asked_in before (drop i rows)) (drop before cells) fault
explain-later g tells rose rows i before row cells fault is fits rest =
    let a : List Bool = asked_from row.root.node_root before row.table in
    let long : length a ≡ length row.table = length-asked row.root.node_root before row.table in
    let within : length a ≤ length (drop before cells) = simp length-drop (omega arith) in
    subst (λ (l : List GroupRow). ExplainsEach g tells rose (asked_in before l) (drop before cells) fault) (sym (drop-next rows i row is))
    (explain-back g tells rose a (asked_in (before + length row.table) (drop (i + 1) rows)) (drop before cells) fault within
    (subst (λ (n : ℕ). ExplainsEach g tells rose (asked_in (before + length row.table) (drop (i + 1) rows)) (drop n (drop before cells)) fault) (sym long)
    (subst (λ (l : List (Cell _)). ExplainsEach g tells rose (asked_in (before + length row.table) (drop (i + 1) rows)) l fault) (sym (drop-drop (length row.table) before cells)) rest)))

pub err-again : {T E : Type 0} (r : Result T E) (y : E) (P : E → Type 0) → IsErrAnd r (λ e. e ≡ y) → P y → IfErr r P
err-again (Ok x) y P is p = tt
err-again (Err e) y P is p = subst P (sym is) p

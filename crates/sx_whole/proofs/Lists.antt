-- Entries that are appended at the end, one by one.
use Rattle.std.proofs.Common.{◌≡◌, ℕ, ◌+◌, ◌<◌, ◌≤◌, List, [], ◌∷◌, ◌++◌, length, Some, refl, sym, ap, ◌∙◌, arith, append_assoc}
use Rattle.std.specs.Prelude.{flat_map}
use Rattle.std.specs.Ordering.{nat_cmp}
use Rattle.std.specs.Cmp.{nat_cmp_is, nat_cmp_total}
use Rattle.std.specs.List.{AllByRecursion, enumerate_from}
use Rattle.std.specs.FinMap as fin
use Rattle.std.specs.FinMap.{put, entries-insert, len-entries, len-empty}
use Rattle.std.specs.FinMap.Entries.{by_order}
use Rattle.std.specs.declared.cmp.Ordering.{Ordering}
use Rattle.std.specs.declared.cmp.Ordering.TheVariants.{Greater}
use Rattle.std.proofs.lemmas.List.{flat_map_more}
use Rattle.sx_bytes.proofs.Fronts.{some_is}
use Rattle.sx_view.specs.Records.{RecordMap}

-- ---- bytes that are read one behind another

pub read_more : {X : Type 0} (f : X → List ℕ) (xs : List X) (x : X) (bytes left rest : List ℕ)
    → bytes ≡ flat_map f xs ++ left → left ≡ f x ++ rest → bytes ≡ flat_map f (xs ++ x ∷ []) ++ rest
read_more f xs x bytes left rest before next =
    before ∙ ap (λ (t : List ℕ). flat_map f xs ++ t) next ∙ sym (append_assoc (flat_map f xs) (f x) rest) ∙ ap (λ (t : List ℕ). t ++ rest) (flat_map_more f [] xs x)

-- ---- maps whose last entry is new

pub put_last : {R : Type 0} (n : ℕ) (r : R) (es : List (ℕ × R)) → AllByRecursion (λ e. e.0 < n) es → put nat_cmp n r es ≡ es ++ (n, r) ∷ []
put_last n r [] below = refl
put_last n r (e ∷ es) below =
    ap (λ (o : Ordering). by_order o ((n, r) ∷ e ∷ es) ((e.0, r) ∷ es) (e ∷ put nat_cmp n r es)) (sym (nat_cmp_is n e.0 Greater below.0))
    ∙ ap (λ (l : List _). e ∷ l) (put_last n r es below.1)

pub entries-put : {R : Type 0} (old new : RecordMap R) (n : ℕ) (r : R) → Some new ≡ Some (fin.insert old n r) → AllByRecursion (λ e. e.0 < n) (fin.entries old)
    → fin.entries new ≡ fin.entries old ++ (n, r) ∷ []
entries-put old new n r told below =
    ap fin.entries (some_is new (fin.insert old n r) told) ∙ entries-insert nat_cmp_total old n r ∙ put_last n r (fin.entries old) below

no_entries : {X : Type 0} (es : List X) → length es ≡ 0 → es ≡ []
no_entries [] is = refl
no_entries (e ∷ es) is = absurd (omega arith)

pub entries-none : {R : Type 0} (new : RecordMap R) → Some new ≡ Some fin.empty → fin.entries new ≡ []
entries-none {R = R} new told =
    ap fin.entries (some_is new fin.empty told) ∙ no_entries _ (sym (len-entries (fin.empty {X = R} {R = nat_cmp})) ∙ len-empty nat_cmp R)

-- ---- numbers 1, 2, and so on

pub enumerate_more : {X : Type 0} (n : ℕ) (xs : List X) (x : X) → enumerate_from n (xs ++ x ∷ []) ≡ enumerate_from n xs ++ (n + length xs, x) ∷ []
enumerate_more n [] x = let same : n ≡ n + 0 = omega arith in ap (λ (k : ℕ). (k, x) ∷ []) same
enumerate_more n (y ∷ xs) x =
    let last : n + 1 + length xs ≡ n + length (y ∷ xs) = omega arith in
    ap (λ (l : List _). (n, y) ∷ l) (enumerate_more (n + 1) xs x ∙ ap (λ (k : ℕ). enumerate_from (n + 1) xs ++ (k, x) ∷ []) last)

below_more : {X : Type 0} (a b : ℕ) → a ≤ b → (es : List (ℕ × X)) → AllByRecursion (λ e. e.0 < a) es → AllByRecursion (λ e. e.0 < b) es
below_more a b le [] below = tt
below_more a b le (e ∷ es) below = let here = below.0 in (omega arith, below_more a b le es below.1)

pub enumerate_below : {X : Type 0} (n : ℕ) (xs : List X) → AllByRecursion (λ e. e.0 < n + length xs) (enumerate_from n xs)
enumerate_below n [] = tt
enumerate_below n (x ∷ xs) = (omega arith, below_more (n + 1 + length xs) (n + length (x ∷ xs)) (omega arith) _ (enumerate_below (n + 1) xs))

-- A leaf has a new seat exactly where it is touched.
use Rattle.std.proofs.Common.{◌≡◌, ◌∙◌, ◌⊎◌, ℕ, zero, suc, ◌+◌, ◌*◌, ◌-◌, ◌<◌, ◌≤◌, Bool, true, false, not, List, [], ◌∷◌, ◌++◌, length, Option, Some, None, inl, inr, refl, ap, arith}
use Rattle.std.specs.Prelude.{◌==◌, cond, filter, map}
use Rattle.std.specs.List.{list_any, range_with_len}
use Rattle.std.specs.Option.{option_eq}
use Rattle.std.proofs.lemmas.Bool.Decides.{Decides-eqb}
use Rattle.sx_model.specs.Commit.{Commit, IsLegal, state_of}
use Rattle.sx_model.specs.Records.{entry, node}
use Rattle.sx_model.proofs.Revisions.{entry_beyond, node_beyond, revision-sound, revision_grows}
use Rattle.sx_shows.specs.Fragments.{changed, touched}
use Rattle.sx_shows.specs.Leaves.{node_leaf, path_leaf}
use Rattle.sx_shows.specs.Rows.{same_node, same_path_row}
use Rattle.sx_shows.specs.Seats.{Nodes, Paths, Seat, Side, all_seats, is_new, seats_over, up}
use Rattle.sx_shows.specs.Shows.{leaf_count, new_seats, node_leaves, path_leaves}
use Rattle.sx_shows.proofs.Above.{from_level, has, has_seat, left_has, level_has, or_cases, or_left, or_right, right_has, same_test, split_has}

-- ---- seats of leaves

over_level : (more : ℕ) (side : Side) (base : ℕ) (is : List ℕ) (seat : Seat) → has_seat (seats_over more side base is) seat ≡ true → (base ≤ seat.level) × (seat.side ≡ side)
over_level zero side base is seat there = cc there
over_level (suc more) side base is seat there =
    by (split_has (map (λ i. record { side = side; level = base; index = i }) is) (seats_over more side (suc base) (up is)) seat there) (over_level more side (suc base) (up is) seat)
  where
    by : (has_seat (map (λ i. record { side = side; level = base; index = i }) is) seat ≡ true) ⊎ (has_seat (seats_over more side (suc base) (up is)) seat ≡ true)
        → (has_seat (seats_over more side (suc base) (up is)) seat ≡ true → (suc base ≤ seat.level) × (seat.side ≡ side)) → (base ≤ seat.level) × (seat.side ≡ side)
    by (inl here) below = let at = from_level side base is seat here in let level = at.1 in (omega arith, at.0)
    by (inr above) below = let rest = below above in let le = rest.0 in (omega arith, rest.1)

leaf_in : (side : Side) (leaves : List ℕ) (l : ℕ) → has_seat (all_seats side leaves) (record { side = side; level = 0; index = l }) ≡ true → has leaves l ≡ true
leaf_in side leaves l there =
    by (split_has (map (λ i. record { side = side; level = 0; index = i }) leaves) (seats_over 4 side 1 (up leaves)) (record { side = side; level = 0; index = l }) there)
  where
    by : (has_seat (map (λ i. record { side = side; level = 0; index = i }) leaves) (record { side = side; level = 0; index = l }) ≡ true)
        ⊎ (has_seat (seats_over 4 side 1 (up leaves)) (record { side = side; level = 0; index = l }) ≡ true) → has leaves l ≡ true
    by (inl here) = (from_level side 0 leaves (record { side = side; level = 0; index = l }) here).2
    by (inr above) = let le = (over_level 4 side 1 (up leaves) (record { side = side; level = 0; index = l }) above).0 in absurd (omega arith)

leaf_there : (side : Side) (leaves : List ℕ) (l : ℕ) → has leaves l ≡ true → has_seat (all_seats side leaves) (record { side = side; level = 0; index = l }) ≡ true
leaf_there side leaves l there =
    left_has (map (λ i. record { side = side; level = 0; index = i }) leaves) (seats_over 4 side 1 (up leaves)) (record { side = side; level = 0; index = l }) (level_has side 0 l leaves there)

abbrev node_leaf_seat : ℕ → Seat
node_leaf_seat l = record { side = Nodes; level = 0; index = l }

abbrev path_leaf_seat : ℕ → Seat
path_leaf_seat l = record { side = Paths; level = 0; index = l }

node_seat : (nodes paths : List ℕ) (l : ℕ) → has_seat (all_seats Nodes nodes ++ all_seats Paths paths) (record { side = Nodes; level = 0; index = l }) ≡ has nodes l
node_seat nodes paths l = same_test _ (has nodes l) (λ there. by (split_has (all_seats Nodes nodes) (all_seats Paths paths) (node_leaf_seat l) there)) (λ is. left_has (all_seats Nodes nodes) (all_seats Paths paths) (node_leaf_seat l) (leaf_there Nodes nodes l is))
  where
    by : (has_seat (all_seats Nodes nodes) (node_leaf_seat l) ≡ true) ⊎ (has_seat (all_seats Paths paths) (node_leaf_seat l) ≡ true) → has nodes l ≡ true
    by (inl node) = leaf_in Nodes nodes l node
    by (inr path) = cc (over_level 5 Paths 0 paths (node_leaf_seat l) path).1

path_seat : (nodes paths : List ℕ) (l : ℕ) → has_seat (all_seats Nodes nodes ++ all_seats Paths paths) (record { side = Paths; level = 0; index = l }) ≡ has paths l
path_seat nodes paths l = same_test _ (has paths l) (λ there. by (split_has (all_seats Nodes nodes) (all_seats Paths paths) (path_leaf_seat l) there)) (λ is. right_has (all_seats Nodes nodes) (all_seats Paths paths) (path_leaf_seat l) (leaf_there Paths paths l is))
  where
    by : (has_seat (all_seats Nodes nodes) (path_leaf_seat l) ≡ true) ⊎ (has_seat (all_seats Paths paths) (path_leaf_seat l) ≡ true) → has paths l ≡ true
    by (inl node) = cc (over_level 5 Nodes 0 nodes (path_leaf_seat l) node).1
    by (inr path) = leaf_in Paths paths l path

-- ---- lists of leaves

kept : (p : ℕ → Bool) (l : ℕ) (xs : List ℕ) → has (filter p xs) l ≡ true → p l ≡ true
kept p l [] there = cc there
kept p l (x ∷ xs) there = by (p x) refl there (kept p l xs)
  where
    by : (b : Bool) → p x ≡ b → has (cond b (x ∷ filter p xs) (filter p xs)) l ≡ true → (has (filter p xs) l ≡ true → p l ≡ true) → p l ≡ true
    by false is there below = below there
    by true is there below = here (or_cases (l == x) (has (filter p xs) l) there)
      where
        here : ((l == x) ≡ true) ⊎ (has (filter p xs) l ≡ true) → p l ≡ true
        here (inl same) = ap p ((Decides-eqb l x).0 same) ∙ is
        here (inr more) = below more

keeps : (p : ℕ → Bool) (l : ℕ) (xs : List ℕ) → p l ≡ true → has xs l ≡ true → has (filter p xs) l ≡ true
keeps p l [] test there = cc there
keeps p l (x ∷ xs) test there = by (p x) refl (or_cases (l == x) (has xs l) there) (keeps p l xs test)
  where
    by : (b : Bool) → p x ≡ b → ((l == x) ≡ true) ⊎ (has xs l ≡ true) → (has xs l ≡ true → has (filter p xs) l ≡ true) → has (cond b (x ∷ filter p xs) (filter p xs)) l ≡ true
    by true is (inl same) below = or_left (l == x) (has (filter p xs) l) same
    by true is (inr more) below = or_right (l == x) (has (filter p xs) l) (below more)
    by false is (inl same) below = let at = ap p ((Decides-eqb l x).0 same) in cc
    by false is (inr more) below = below more

range_has : (a n l : ℕ) → a ≤ l → l < a + n → has (range_with_len a n) l ≡ true
range_has a zero l low high = absurd (omega arith)
range_has a (suc n) l low high = by (cases a l low) (λ more. range_has (a + 1) n l more (omega arith))
  where
    cases : (a l : ℕ) → a ≤ l → (l ≡ a) ⊎ (a + 1 ≤ l)
    cases a l low = grind arith

    by : (l ≡ a) ⊎ (a + 1 ≤ l) → (a + 1 ≤ l → has (range_with_len (a + 1) n) l ≡ true) → has (range_with_len a (suc n)) l ≡ true
    by (inl is) rest = or_left (l == a) (has (range_with_len (a + 1) n) l) ((Decides-eqb l a).1 is)
    by (inr more) rest = or_right (l == a) (has (range_with_len (a + 1) n) l) (rest more)

any_of : (p : ℕ → Bool) (a n : ℕ) → list_any p (range_with_len a n) ≡ true → (s : ℕ) × (a ≤ s) × (s < a + n) × (p s ≡ true)
any_of p a zero there = cc there
any_of p a (suc n) there = by (or_cases (p a) (list_any p (range_with_len (a + 1) n)) there) (any_of p (a + 1) n)
  where
    by : (p a ≡ true) ⊎ (list_any p (range_with_len (a + 1) n) ≡ true) → (list_any p (range_with_len (a + 1) n) ≡ true → (s : ℕ) × (a + 1 ≤ s) × (s < a + 1 + n) × (p s ≡ true))
        → (s : ℕ) × (a ≤ s) × (s < a + suc n) × (p s ≡ true)
    by (inl is) below = (a, omega arith, omega arith, is)
    by (inr more) below = let rest = below more in let low = rest.1 in let high = rest.2 in (rest.0, omega arith, omega arith, rest.3)

-- ---- leaves past the last number

no_change : {Row : Type 0} (same : Row → Row → Bool) (now before : Option Row) → now ≡ None → before ≡ None → not (option_eq same now before) ≡ false
no_change same None None is was = refl
no_change same None (Some row) is was = cc was
no_change same (Some row) before is was = cc is

untouched : {Row : Type 0} (same : Row → Row → Bool) (leaf : ℕ → ℕ → Option Row) (r : ℕ) → ((s : ℕ) → (leaf r s ≡ None) × (leaf (r - 1) s ≡ None)) → touched same leaf r ≡ false
untouched same leaf r none = by (touched same leaf r) refl
  where
    by : (b : Bool) → touched same leaf r ≡ b → b ≡ false
    by false is = refl
    by true is =
        let at = any_of (changed same leaf r) 0 64 is in
        let still = no_change same (leaf r at.0) (leaf (r - 1) at.0) (none at.0).0 (none at.0).1 in
        cc (at.3, still)

in_count : (n l s : ℕ) → leaf_count n ≤ l → n ≤ 64 * l + s
in_count n l s le = omega arith

-- where a leaf that is touched has a number below the count, it is listed exactly where it is touched
listed : (p : ℕ → Bool) (count l : ℕ) → (count ≤ l → p l ≡ false) → has (filter p (range_with_len 0 count)) l ≡ p l
listed p count l beyond = same_test (has (filter p (range_with_len 0 count)) l) (p l) (kept p l (range_with_len 0 count)) (λ is. by is (cases l count))
  where
    cases : (l count : ℕ) → (count ≤ l) ⊎ (l < count)
    cases l count = grind arith

    by : p l ≡ true → (count ≤ l) ⊎ (l < count) → has (filter p (range_with_len 0 count)) l ≡ true
    by is (inl past) = let none = beyond past in cc
    by is (inr low) = keeps p l (range_with_len 0 count) is (range_has 0 count l (omega arith) (omega arith))

suc_less : (r : ℕ) → suc r - 1 ≡ r
suc_less r = omega arith

pub node_is_new : (commits : List Commit) (r l : ℕ) → IsLegal commits
    → is_new (new_seats commits) (suc r) (record { side = Nodes; level = 0; index = l }) ≡ touched same_node (node_leaf commits l) (suc r)
node_is_new commits r l legal =
    node_seat (node_leaves commits (suc r)) (path_leaves commits (suc r)) l
    ∙ listed (λ l. touched same_node (node_leaf commits l) (suc r)) (leaf_count (state_of commits (suc r)).next) l
    (λ past. untouched same_node (node_leaf commits l) (suc r) (λ s. (
      node_beyond (state_of commits (suc r)) (64 * l + s) (revision-sound commits (suc r) legal) (in_count (state_of commits (suc r)).next l s past),
      ap (λ (q : ℕ). node (state_of commits q) (64 * l + s)) (suc_less r) ∙ before s past,
    )))
  where
    before : (s : ℕ) → leaf_count (state_of commits (suc r)).next ≤ l → node (state_of commits r) (64 * l + s) ≡ None
    before s past =
        let grows = (revision_grows commits r).next in
        let most = in_count (state_of commits (suc r)).next l s past in
        node_beyond (state_of commits r) (64 * l + s) (revision-sound commits r legal) (omega arith)

pub path_is_new : (commits : List Commit) (r l : ℕ)
    → is_new (new_seats commits) (suc r) (record { side = Paths; level = 0; index = l }) ≡ touched same_path_row (path_leaf commits l) (suc r)
path_is_new commits r l =
    path_seat (node_leaves commits (suc r)) (path_leaves commits (suc r)) l
    ∙ listed (λ l. touched same_path_row (path_leaf commits l) (suc r)) (leaf_count (length (state_of commits (suc r)).paths + 1)) l
    (λ past. untouched same_path_row (path_leaf commits l) (suc r) (λ s. (
      (let most = in_count (length (state_of commits (suc r)).paths + 1) l s past in entry_beyond (state_of commits (suc r)) (64 * l + s) (omega arith)),
      ap (λ (q : ℕ). entry (state_of commits q) (64 * l + s)) (suc_less r) ∙ before s past,
    )))
  where
    before : (s : ℕ) → leaf_count (length (state_of commits (suc r)).paths + 1) ≤ l → entry (state_of commits r) (64 * l + s) ≡ None
    before s past =
        let grows = (revision_grows commits r).paths in
        let most = in_count (length (state_of commits (suc r)).paths + 1) l s past in
        entry_beyond (state_of commits r) (64 * l + s) (omega arith)

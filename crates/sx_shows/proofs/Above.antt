-- The pages above what is new are new.
use Rattle.std.proofs.Common.{◌≡◌, ◌∙◌, ◌⊎◌, ℕ, zero, suc, ◌+◌, ◌*◌, ◌/◌, ◌<◌, ◌≤◌, Bool, true, false, if◌then◌else◌, List, [], ◌∷◌, ◌++◌, inl, inr, refl, ap, sym, arith}
use Rattle.std.specs.Prelude.{◌&&◌, ◌||◌, ◌==◌, map}
use Rattle.std.specs.List.{list_any}
use Rattle.std.proofs.lemmas.Bool.Decides.{Decides-eqb}
use Rattle.std.proofs.lemmas.List.Folds.{list_any-append}
use Rattle.sx_shows.specs.Seats.{Nodes, Paths, Seat, Side, all_seats, same_seat, same_side, seat_below, seats_over, unless_first, up}
use Rattle.sx_shows.proofs.Numbers.{seat_is}

-- ---- tests

pub or_cases : (a b : Bool) → (a || b) ≡ true → (a ≡ true) ⊎ (b ≡ true)
or_cases true b is = inl refl
or_cases false b is = inr is

pub or_left : (a b : Bool) → a ≡ true → (a || b) ≡ true
or_left true b is = refl
or_left false b is = cc is

pub or_right : (a b : Bool) → b ≡ true → (a || b) ≡ true
or_right true b is = refl
or_right false b is = is

pub eqb_same : (n : ℕ) → (n == n) ≡ true
eqb_same n = (Decides-eqb n n).1 refl

pub not_true : (a b : Bool) → (a ≡ true → b ≡ true) → b ≡ false → a ≡ false
not_true false b implies none = refl
not_true true b implies none = let is = implies refl in cc

pub same_test : (a b : Bool) → (a ≡ true → b ≡ true) → (b ≡ true → a ≡ true) → a ≡ b
same_test false false to from = refl
same_test true true to from = refl
same_test true false to from = sym (to refl)
same_test false true to from = from refl

-- the number is in the list
abbrev pub has : List ℕ → ℕ → Bool
has xs k = list_any (λ x. k == x) xs

-- ---- lists of indices

first_has : (b : Bool) (i j : ℕ) (js : List ℕ) → (b ≡ true → i ≡ j) → has (if b then j ∷ js else i ∷ j ∷ js) i ≡ true
first_has true i j js is = or_left (i == j) (has js i) ((Decides-eqb i j).1 (is refl))
first_has false i j js is = or_left (i == i) (has (j ∷ js) i) (eqb_same i)

unless_has : (i : ℕ) (js : List ℕ) → has (unless_first i js) i ≡ true
unless_has i [] = or_left (i == i) false (eqb_same i)
unless_has i (j ∷ js) = first_has (i == j) i j js (Decides-eqb i j).0

rest_has : (b : Bool) (k i j : ℕ) (js : List ℕ) → has (j ∷ js) k ≡ true → has (if b then j ∷ js else i ∷ j ∷ js) k ≡ true
rest_has true k i j js there = there
rest_has false k i j js there = or_right (k == i) (has (j ∷ js) k) there

unless_keeps : (k i : ℕ) (js : List ℕ) → has js k ≡ true → has (unless_first i js) k ≡ true
unless_keeps k i [] there = cc there
unless_keeps k i (j ∷ js) there = rest_has (i == j) k i j js there

pub up_has : (k : ℕ) (is : List ℕ) → has is k ≡ true → has (up is) (k / 64) ≡ true
up_has k [] there = cc there
up_has k (i ∷ is) there = by (or_cases (k == i) (has is k) there) (up_has k is)
  where
    by : ((k == i) ≡ true) ⊎ (has is k ≡ true) → (has is k ≡ true → has (up is) (k / 64) ≡ true) → has (up (i ∷ is)) (k / 64) ≡ true
    by (inl here) below = ap (λ (n : ℕ). has (unless_first (i / 64) (up is)) (n / 64)) ((Decides-eqb k i).0 here) ∙ unless_has (i / 64) (up is)
    by (inr more) below = unless_keeps (k / 64) (i / 64) (up is) (below more)

-- ---- lists of seats

abbrev pub has_seat : List Seat → Seat → Bool
has_seat seats seat = list_any (same_seat seat) seats

side_same : (side : Side) → same_side side side ≡ true
side_same Nodes = refl
side_same Paths = refl

and_true : (a b : Bool) → a ≡ true → b ≡ true → (a && b) ≡ true
and_true true b first second = second
and_true false b first second = cc first

pub seat_same : (a b : Seat) → a ≡ b → same_seat a b ≡ true
seat_same a b is =
    ap (same_seat a) (sym is)
    ∙ and_true (same_side a.side a.side && a.level == a.level) (a.index == a.index) (and_true (same_side a.side a.side) (a.level == a.level) (side_same a.side) (eqb_same a.level)) (eqb_same a.index)

pub level_has : (side : Side) (level i : ℕ) (is : List ℕ) → has is i ≡ true
    → has_seat (map (λ j. record { side = side; level = level; index = j }) is) (record { side = side; level = level; index = i }) ≡ true
level_has side level i [] there = cc there
level_has side level i (j ∷ is) there = by (or_cases (i == j) (has is i) there) (level_has side level i is)
  where
    by : ((i == j) ≡ true) ⊎ (has is i ≡ true) → (has is i ≡ true → has_seat (map (λ j. record { side = side; level = level; index = j }) is) (record { side = side; level = level; index = i }) ≡ true)
        → has_seat (map (λ j. record { side = side; level = level; index = j }) (j ∷ is)) (record { side = side; level = level; index = i }) ≡ true
    by (inl here) below =
        or_left (same_seat (record { side = side; level = level; index = i }) (record { side = side; level = level; index = j })) _
        (seat_same (record { side = side; level = level; index = i }) (record { side = side; level = level; index = j }) (ap (λ (n : ℕ). record { side = side; level = level; index = n }) ((Decides-eqb i j).0 here)))
    by (inr more) below = or_right (same_seat (record { side = side; level = level; index = i }) (record { side = side; level = level; index = j })) _ (below more)

-- a seat of this side and level, whose index is in the list
abbrev pub IsOfLevel : Side → ℕ → List ℕ → Seat → Type 0
IsOfLevel side level is seat = (seat.side ≡ side) × (seat.level ≡ level) × (has is seat.index ≡ true)

pub from_level : (side : Side) (level : ℕ) (is : List ℕ) (seat : Seat) → has_seat (map (λ j. record { side = side; level = level; index = j }) is) seat ≡ true → IsOfLevel side level is seat
from_level side level [] seat there = cc there
from_level side level (j ∷ is) seat there =
    by (or_cases (same_seat seat (record { side = side; level = level; index = j })) (has_seat (map (λ j. record { side = side; level = level; index = j }) is) seat) there) (from_level side level is seat)
  where
    by : (same_seat seat (record { side = side; level = level; index = j }) ≡ true) ⊎ (has_seat (map (λ j. record { side = side; level = level; index = j }) is) seat ≡ true)
        → (has_seat (map (λ j. record { side = side; level = level; index = j }) is) seat ≡ true → IsOfLevel side level is seat) → IsOfLevel side level (j ∷ is) seat
    by (inl here) below =
        let same = seat_is seat (record { side = side; level = level; index = j }) here in
        (ap (λ (s : Seat). s.side) same, ap (λ (s : Seat). s.level) same, or_left (seat.index == j) (has is seat.index) ((Decides-eqb seat.index j).1 (ap (λ (s : Seat). s.index) same)))
    by (inr more) below = let all = below more in (all.0, all.1, or_right (seat.index == j) (has is seat.index) all.2)

-- the parts of the seats over leaves: those of the first level, and those above
pub split_has : (xs ys : List Seat) (seat : Seat) → has_seat (xs ++ ys) seat ≡ true → (has_seat xs seat ≡ true) ⊎ (has_seat ys seat ≡ true)
split_has xs ys seat there = or_cases (has_seat xs seat) (has_seat ys seat) (sym (list_any-append (same_seat seat) xs ys) ∙ there)

pub left_has : (xs ys : List Seat) (seat : Seat) → has_seat xs seat ≡ true → has_seat (xs ++ ys) seat ≡ true
left_has xs ys seat there = list_any-append (same_seat seat) xs ys ∙ or_left (has_seat xs seat) (has_seat ys seat) there

pub right_has : (xs ys : List Seat) (seat : Seat) → has_seat ys seat ≡ true → has_seat (xs ++ ys) seat ≡ true
right_has xs ys seat there = list_any-append (same_seat seat) xs ys ∙ or_right (has_seat xs seat) (has_seat ys seat) there

-- the page above a seat
abbrev pub parent : Seat → Seat
parent seat = record { side = seat.side; level = suc seat.level; index = seat.index / 64 }

next_level : (more : ℕ) (side : Side) (base : ℕ) (is : List ℕ) (seat : Seat) → 1 ≤ more → IsOfLevel side base is seat → has_seat (seats_over more side (suc base) (up is)) (parent seat) ≡ true
next_level zero side base is seat some at = absurd (omega arith)
next_level (suc more) side base is seat some at =
    let page : parent seat ≡ record { side = side; level = suc base; index = seat.index / 64 } = λ i. record { side = at.0 i; level = suc (at.1 i); index = seat.index / 64 } in
    ap (has_seat (seats_over (suc more) side (suc base) (up is))) page
    ∙ left_has (map (λ j. record { side = side; level = suc base; index = j }) (up is)) (seats_over more side (suc (suc base)) (up (up is))) (record { side = side; level = suc base; index = seat.index / 64 })
    (level_has side (suc base) (seat.index / 64) (up is) (up_has seat.index is at.2))

pub over_has : (more : ℕ) (side : Side) (base : ℕ) (is : List ℕ) (seat : Seat) → suc seat.level < base + more → has_seat (seats_over more side base is) seat ≡ true
    → has_seat (seats_over more side base is) (parent seat) ≡ true
over_has zero side base is seat low there = cc there
over_has (suc more) side base is seat low there =
    by (split_has (map (λ i. record { side = side; level = base; index = i }) is) (seats_over more side (suc base) (up is)) seat there) (over_has more side (suc base) (up is) seat (omega arith))
  where
    by : (has_seat (map (λ i. record { side = side; level = base; index = i }) is) seat ≡ true) ⊎ (has_seat (seats_over more side (suc base) (up is)) seat ≡ true)
        → (has_seat (seats_over more side (suc base) (up is)) seat ≡ true → has_seat (seats_over more side (suc base) (up is)) (parent seat) ≡ true)
        → has_seat (seats_over (suc more) side base is) (parent seat) ≡ true
    by (inl here) below =
        let at = from_level side base is seat here in
        let level = at.1 in
        right_has (map (λ i. record { side = side; level = base; index = i }) is) (seats_over more side (suc base) (up is)) (parent seat) (next_level more side base is seat (omega arith) at)
    by (inr above) below = right_has (map (λ i. record { side = side; level = base; index = i }) is) (seats_over more side (suc base) (up is)) (parent seat) (below above)

-- where a seat below the top is new, the page above it is
pub page_is_new : (nodes paths : List ℕ) (side : Side) (level index s : ℕ) → level < 4 → s < 64 → has_seat (all_seats Nodes nodes ++ all_seats Paths paths) (seat_below side level index s) ≡ true
    → has_seat (all_seats Nodes nodes ++ all_seats Paths paths) (record { side = side; level = suc level; index = index }) ≡ true
page_is_new nodes paths side level index s low below there =
    let page : record { side = side; level = suc level; index = index } ≡ parent (seat_below side level index s) =
    ap (λ (i : ℕ). record { side = side; level = suc level; index = i }) (quotient index s below) in
    ap (has_seat (all_seats Nodes nodes ++ all_seats Paths paths)) page ∙ by (split_has (all_seats Nodes nodes) (all_seats Paths paths) (seat_below side level index s) there)
  where
    quotient : (index s : ℕ) → s < 64 → index ≡ (64 * index + s) / 64
    quotient index s below = omega arith

    by : (has_seat (all_seats Nodes nodes) (seat_below side level index s) ≡ true) ⊎ (has_seat (all_seats Paths paths) (seat_below side level index s) ≡ true)
        → has_seat (all_seats Nodes nodes ++ all_seats Paths paths) (parent (seat_below side level index s)) ≡ true
    by (inl node) = left_has (all_seats Nodes nodes) (all_seats Paths paths) (parent (seat_below side level index s)) (over_has 5 Nodes 0 nodes (seat_below side level index s) (omega arith) node)
    by (inr path) = right_has (all_seats Nodes nodes) (all_seats Paths paths) (parent (seat_below side level index s)) (over_has 5 Paths 0 paths (seat_below side level index s) (omega arith) path)

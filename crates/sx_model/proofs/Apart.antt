-- Lists of which no two elements are the same, and numbers below a limit.
use Rattle.std.proofs.Common.{◌≡◌, ◌<◌, ◌≤◌, ◌+◌, ℕ, zero, suc, Bool, false, List, [], ◌∷◌, ◌++◌, refl, ap, subst, arith, zero-add, add-zero}
use Rattle.std.specs.Prelude.{◌==◌}
use Rattle.std.specs.List.{list_any}
use Rattle.std.proofs.lemmas.Grind.{common_steps}
use Rattle.std.proofs.lemmas.List.Folds.{list_any-append}
use Rattle.sx_model.specs.Sound.{AreBelow}
use Rattle.sx_model.specs.Tree.{AreApart, AreDistinctNumbers}

module _ {X : Type 0} (same : X → X → Bool) where
  -- none of these is the same as one of the others
  abbrev pub AreAway : List X → List X → Type 0
  AreAway others [] = Unit {0}
  AreAway others (x ∷ xs) = (list_any (same x) others ≡ false) × AreAway others xs

  pub apart_front : (xs ys : List X) → AreApart same (xs ++ ys) → AreApart same xs
  apart_front [] ys is = tt
  apart_front (x ∷ xs) ys is = (grind (arith, common_steps, list_any-append (same x) xs ys, is.0), apart_front xs ys is.1)

  pub apart_back : (xs ys : List X) → AreApart same (xs ++ ys) → AreApart same ys
  apart_back [] ys is = is
  apart_back (x ∷ xs) ys is = apart_back xs ys is.1

  -- some are taken out of the middle
  pub apart-without : (xs mid ys : List X) → AreApart same (xs ++ (mid ++ ys)) → AreApart same (xs ++ ys)
  apart-without [] mid ys is = apart_back mid ys is
  apart-without (x ∷ xs) mid ys is =
      (grind (arith, common_steps, list_any-append (same x) xs (mid ++ ys), list_any-append (same x) mid ys, list_any-append (same x) xs ys, is.0), apart-without xs mid ys is.1)

  apart-join : (xs ys : List X) → AreApart same xs → AreApart same ys → AreAway ys xs → AreApart same (xs ++ ys)
  apart-join [] ys one other away = other
  apart-join (x ∷ xs) ys one other away = (grind (arith, common_steps, list_any-append (same x) xs ys, one.0, away.0), apart-join xs ys one.1 other away.1)

  module _ (symm : (x y : X) → same x y ≡ same y x) where
    away_from : (x : X) (others mid : List X) → AreAway (x ∷ others) mid → list_any (same x) mid ≡ false
    away_from x others [] away = refl
    away_from x others (m ∷ mid) away = grind (arith, common_steps, symm x m, away.0, away_from x others mid away.1)

    away_tail : (x : X) (others mid : List X) → AreAway (x ∷ others) mid → AreAway others mid
    away_tail x others [] away = tt
    away_tail x others (m ∷ mid) away = (grind (arith, common_steps, away.0), away_tail x others mid away.1)

    -- some come into the middle
    pub apart-with : (xs mid ys : List X) → AreApart same (xs ++ ys) → AreApart same mid → AreAway (xs ++ ys) mid → AreApart same (xs ++ (mid ++ ys))
    apart-with [] mid ys is new away = apart-join mid ys new is away
    apart-with (x ∷ xs) mid ys is new away = (
      grind (arith, common_steps, list_any-append (same x) xs (mid ++ ys), list_any-append (same x) mid ys, list_any-append (same x) xs ys, is.0, away_from x (xs ++ ys) mid away),
      apart-with xs mid ys is.1 new (away_tail x (xs ++ ys) mid away),
    )

-- ---- numbers below a limit

pub below_front : (limit : ℕ) (xs ys : List ℕ) → AreBelow limit (xs ++ ys) → AreBelow limit xs
below_front limit [] ys is = tt
below_front limit (x ∷ xs) ys is = (is.0, below_front limit xs ys is.1)

pub below_back : (limit : ℕ) (xs ys : List ℕ) → AreBelow limit (xs ++ ys) → AreBelow limit ys
below_back limit [] ys is = is
below_back limit (x ∷ xs) ys is = below_back limit xs ys is.1

pub below_join : (limit : ℕ) (xs ys : List ℕ) → AreBelow limit xs → AreBelow limit ys → AreBelow limit (xs ++ ys)
below_join limit [] ys one other = other
below_join limit (x ∷ xs) ys one other = (one.0, below_join limit xs ys one.1 other)

pub below_more : (limit more : ℕ) (xs : List ℕ) → AreBelow limit xs → AreBelow (limit + more) xs
below_more limit more [] is = tt
below_more limit more (x ∷ xs) is = (omega (arith, is.0), below_more limit more xs is.1)

-- ---- numbers in a row

abbrev pub up_from : ℕ → ℕ → List ℕ
up_from n zero = []
up_from n (suc count) = n ∷ up_from (suc n) count

pub up_from-add : (n a b : ℕ) → up_from n (a + b) ≡ up_from n a ++ up_from (n + a) b
up_from-add n zero b = simp (zero-add, add-zero)
up_from-add n (suc a) b =
    let count : suc a + b ≡ suc (a + b) = omega arith in
    let start : n + suc a ≡ suc n + a = omega arith in
    rw (count, start) (ap (λ (ks : List ℕ). n ∷ ks) (up_from-add (suc n) a b))

pub up_from_below : (n count : ℕ) → AreBelow (n + count) (up_from n count)
up_from_below n zero = tt
up_from_below n (suc count) =
    let limit : suc n + count ≡ n + suc count = omega arith in
    (omega arith, subst (λ (l : ℕ). AreBelow l (up_from (suc n) count)) limit (up_from_below (suc n) count))

-- a number that is less is not among them
less_than_all : (k n count : ℕ) → k < n → list_any (λ m. k == m) (up_from n count) ≡ false
less_than_all k n zero less = refl
less_than_all k n (suc count) less = grind (arith, common_steps, less_than_all k (suc n) count)

pub up_from_apart : (n count : ℕ) → AreDistinctNumbers (up_from n count)
up_from_apart n zero = tt
up_from_apart n (suc count) = (less_than_all n (suc n) count (omega arith), up_from_apart (suc n) count)

more_than_all : (k n : ℕ) (others : List ℕ) → n ≤ k → AreBelow n others → list_any (λ m. k == m) others ≡ false
more_than_all k n [] le below = refl
more_than_all k n (x ∷ xs) le below = grind (arith, common_steps, more_than_all k n xs le below.1, below.0)

-- numbers from n on are none of those below n
pub up_from_away : (m n count : ℕ) (others : List ℕ) → m ≤ n → AreBelow m others → AreAway (λ k m. k == m) others (up_from n count)
up_from_away m n zero others le below = tt
up_from_away m n (suc count) others le below = (more_than_all n m others le below, up_from_away m (suc n) count others (omega (arith, le)) below)

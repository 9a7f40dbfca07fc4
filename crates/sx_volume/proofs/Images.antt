-- How a run of calls goes on, for whoever knows the tests and laws of a volume alone.
use Rattle.std.proofs.Common.{inl, inr, ⊎_elim, ℕ, ◌≤◌, List, length, refl, arith}
use Rattle.std.proofs.lemmas.List.{take_all}
use Rattle.sx_volume.specs.Images.{Appends, Puts, Cuts, Elapses}

-- each step may be none at all
pub appends_same : (end : ℕ) (c : List ℕ) → Appends end c c
appends_same end c = record { front = take_all (length c) c (omega arith); no_longer = omega arith }

pub puts_same : (at : ℕ) (c : List ℕ) → Puts at c c
puts_same at c = inl refl

pub cuts_same : (len : ℕ) (c : List ℕ) → Cuts len c c
cuts_same len c = record { front = refl; no_longer = omega arith }

-- no call was made
pub elapses_same : (now : ℕ) (was : ℕ → List ℕ → Type 0) (has : ℕ → Type 0) (image : List ℕ → Type 0) → ((t : ℕ) (c : List ℕ) → t ≤ now → image c → was t c) → ((c : List ℕ) → was now c → image c)
    → Elapses now now was was has has
elapses_same now was has image counts_now only_now = record {
  later = omega arith;
  nothing_else = λ t c le left. inl left;
  keeps = λ t c le left. left;
  counts = λ t c le left. counts_now t c le (only_now c left);
  syncs = λ t sync. sync;
  no_sync_before = λ t le sync. sync;
}

-- one stretch of time, and then another
pub elapses_then : (a b c : ℕ) (first second third : ℕ → List ℕ → Type 0) (x y z : ℕ → Type 0) → Elapses a b first second x y → Elapses b c second third y z → Elapses a c first third x z
elapses_then a b c first second third x y z early late = record {
  later = omega (arith, early.later, late.later);
  nothing_else = λ t i le left. ⊎_elim
      (λ (earlier : second t i). ⊎_elim (λ (before : first t i). inl before) (λ (during : second a i). inr (late.keeps a i early.later during)) (early.nothing_else t i le earlier))
      (λ (now : third b i). inr (late.counts a i early.later now))
      (late.nothing_else t i (omega (arith, le, early.later)) left);
  keeps = λ t i le left. late.keeps t i (omega (arith, le, early.later)) (early.keeps t i le left);
  counts = λ t i le left. ⊎_elim
      (λ (earlier : second a i). late.keeps t i (omega (arith, le, early.later)) (early.counts t i le earlier))
      (λ (now : third b i). late.counts t i (omega (arith, le, early.later)) now)
      (late.nothing_else a i early.later left);
  syncs = λ t sync. late.syncs t (early.syncs t sync);
  no_sync_before = λ t le sync. early.no_sync_before t le (late.no_sync_before t (omega (arith, le, early.later)) sync);
}

use Rattle.std.proofs.Common.{rules, Bool, true, refl, ap, not, ◌∙◌, sym, subst, false, ℤ, FitsSigned, ◌≡◌, ◌+◌, ◌-◌, ◌/◌, arith, ◌≤ℤ◌, ◌<ℤ◌, to_z, of_z, w64}
use Rattle.std.proofs.lemmas.Int.{ints}
use lib.Signed.{le_z, lt_z, lt_z_yes, lt_z_no}
use Rattle.std.proofs.lemmas.Int.{to_z-of_z}
use Rattle.std.specs.Prelude.{T}
use Rattle.sx_root.specs.Times.{time_of}
use Rattle.sx_root.proofs.roots.at_time.Goals as goal

not_both : (t : Bool) → T t → t ≡ false → ⊥
not_both true holds fails = cc fails
not_both false holds fails = holds

not_le : (a b : ℤ) → le_z a b ≡ false → b <ℤ a
not_le a b test = by (lt_z b a) refl
  where
    by : (t : Bool) → lt_z b a ≡ t → b <ℤ a
    by true is = lt_z_yes {a = b} {b = a} (subst T (sym is) tt)
    by false is = let le = lt_z_no {a = b} {b = a} (subst T (sym (ap not is)) tt) in absurd (not_both (le_z a b) le.le test)

-- the time that was asked for is before a later one
before : (time here later : ℤ) → FitsSigned w64 time → FitsSigned w64 here → le_z (to_z w64 (of_z w64 here)) (to_z w64 (of_z w64 time)) ≡ false → here ≤ℤ later → to_z w64 (of_z w64 time) <ℤ later
before time here later fits also test falls =
    let below = not_le here time (ap (λ t. le_z here t) (sym (to_z-of_z w64 time fits)) ∙ ap (λ h. le_z h (to_z w64 (of_z w64 time))) (sym (to_z-of_z w64 here also)) ∙ test) in
    subst (λ t. t <ℤ later) (sym (to_z-of_z w64 time fits)) (omega (arith, ints, below, falls))

pub loop-left-preserved : goal.loop-left-preserved
loop-left-preserved g c =
    let half = c.loop-left.left - c.loop-left.left / 2 in
    let is : c.time.result ≡ time_of (g.L.Roots.times c.args.list.now) (c.loop-left.found + half) = c.time.ensures in
    record {
      within = omega (arith, c.loop-left.invariant.within);
      by_then = c.loop-left.invariant.by_then;
      later = λ r more most.
          let falls = c.requires (c.loop-left.found + half) r (omega arith) (omega arith) most in
          before c.args.time c.time.result (time_of (g.L.Roots.times c.args.list.now) r) (search rules) (search rules) c.if-time.false (subst (λ t. t ≤ℤ time_of (g.L.Roots.times c.args.list.now) r) (sym is) falls);
    }

-- What a test of two lists of bytes tells.
use Rattle.std.proofs.Common.{◌≡◌, ◌≢◌, ◌∙◌, ℕ, Bool, true, false, not, List, sym}
use Rattle.std.specs.Str.{bytes_eq}
use Rattle.std.proofs.lemmas.Slice.Eq.{bytes_eq-Decides}

not_true : (t : Bool) → not t ≡ true → t ≡ true → ⊥
not_true true is holds = cc
not_true false is holds = cc

not_false : (t : Bool) → not t ≡ false → t ≡ true
not_false true is = cc
not_false false is = absurd (cc)

-- `a != b` is true
pub differ : (a b : List ℕ) (test : Bool) → test ≡ not (bytes_eq a b) → test ≡ true → a ≢ b
differ a b test is holds same = not_true (bytes_eq a b) (sym is ∙ holds) ((bytes_eq-Decides a b).1 same)

-- `a != b` is false
pub same : (a b : List ℕ) (test : Bool) → test ≡ not (bytes_eq a b) → test ≡ false → a ≡ b
same a b test is fails = (bytes_eq-Decides a b).0 (not_false (bytes_eq a b) (sym is ∙ fails))

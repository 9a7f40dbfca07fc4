-- Which rule is the first that is broken.
use Rattle.std.proofs.Common.{◌≡◌, Bool, true, false, List, [], ◌∷◌, ◌++◌, Option, None, Some, if◌then◌else◌, refl}
use Rattle.sx_frame.specs.Violation.{Violation}
use Rattle.sx_layout.specs.Rule.{first_broken}

abbrev Rules : Type 0
Rules = List (Bool × Violation)

there : (test : Bool) (here violation : Violation) (first all : Option Violation) → (first ≡ Some violation → all ≡ Some violation) → (if test then Some here else first) ≡ Some violation
    → (if test then Some here else all) ≡ Some violation
there true here violation first all more is = is
there false here violation first all more is = more is

-- one of the first rules is
pub broken_there : (rules more : Rules) (violation : Violation) → first_broken rules ≡ Some violation → first_broken (rules ++ more) ≡ Some violation
broken_there [] more violation is = cc
broken_there (rule ∷ rules) more violation is = there rule.0 rule.1 violation (first_broken rules) (first_broken (rules ++ more)) (broken_there rules more violation) is

behind : (test : Bool) (here : Violation) (first all rest : Option Violation) → (first ≡ None → all ≡ rest) → (if test then Some here else first) ≡ None → (if test then Some here else all) ≡ rest
behind true here first all rest more none = cc
behind false here first all rest more none = more none

-- none of the first is
pub broken_behind : (rules more : Rules) → first_broken rules ≡ None → first_broken (rules ++ more) ≡ first_broken more
broken_behind [] more none = refl
broken_behind (rule ∷ rules) more none = behind rule.0 rule.1 (first_broken rules) (first_broken (rules ++ more)) (first_broken more) (broken_behind rules more) none

-- a rule is not broken, and then the others
pub unbroken : (test : Bool) (here : Violation) (rules : Rules) → test ≡ false → first_broken ((test, here) ∷ rules) ≡ first_broken rules
unbroken true here rules is = cc
unbroken false here rules is = refl

pub broken_here : (test : Bool) (here : Violation) (rules : Rules) → test ≡ true → first_broken ((test, here) ∷ rules) ≡ Some here
broken_here true here rules is = refl
broken_here false here rules is = cc

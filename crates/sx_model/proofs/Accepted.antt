-- What is known of an edit that is accepted.
use Rattle.std.proofs.Common.{◌≡◌, ℕ, Bool, true, false, List, [], ◌∷◌, Option, Some, None, Result, Ok, refl}
use Rattle.sx_tree.specs.declared.edit.EditRefusal.{EditRefusal}
use Rattle.sx_model.specs.Edit.{when, unless, if_there, if_place, Target}
use Rattle.sx_model.specs.State.{State}
use Rattle.sx_model.specs.Tree.{Node, Spot}

-- none of the refusals stands
abbrev pub NoneStands : List (Option EditRefusal) → Type 0
NoneStands [] = Unit {0}
NoneStands (refusal ∷ refusals) = (refusal ≡ None) × NoneStands refusals

pub unless_ok : (refusals : List (Option EditRefusal)) (new state : State) → unless refusals new ≡ Ok state → (new ≡ state) × NoneStands refusals
unless_ok [] new state is = (cc, tt)
unless_ok (None ∷ refusals) new state is = let rest = unless_ok refusals new state is in (rest.0, (refl, rest.1))
unless_ok (Some refusal ∷ refusals) new state is = cc is

pub when_none : (holds : Bool) (refusal : EditRefusal) → when holds refusal ≡ None → holds ≡ false
when_none true refusal is = cc is
when_none false refusal is = refl

-- the node is there
pub there_ok : (k : ℕ) (make : Spot → Result State EditRefusal) (o : Option Spot) (state : State) → if_there k make o ≡ Ok state → (s : Spot) × (o ≡ Some s) × (make s ≡ Ok state)
there_ok k make None state is = cc is
there_ok k make (Some s) state is = (s, refl, is)

-- and so is the place
pub place_ok : (n : Node) (make : Target → Result State EditRefusal) (o : Option Target) (state : State) → if_place n make o ≡ Ok state → (into : Target) × (o ≡ Some into) × (make into ≡ Ok state)
place_ok n make None state is = cc is
place_ok n make (Some into) state is = (into, refl, is)

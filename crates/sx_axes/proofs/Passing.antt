-- One read on along an axis.
use Rattle.std.proofs.Common.{◌≡◌, ℕ, suc, ◌+◌, ◌-◌, ◌<◌, ◌≤◌, ◌⊎◌, inl, inr, Bool, true, false, List, [], ◌∷◌, length, Option, Some, None, refl, sym, ap, subst, ◌∙◌, arith}
use Rattle.std.specs.Option.{is_some}
use Rattle.std.specs.Prelude.{Result, Ok, Err, IfErr, IsErrAnd}
use Rattle.sx_bytes.specs.declared.damage.Damage.{Damage}
use Rattle.sx_outside.specs.Faults.{Rose}
use Rattle.sx_tree.specs.declared.query.Axis.{Axis}
use Rattle.sx_tree.specs.declared.query.Axis.TheVariants.{Child, Descendant, Ancestor, Following, Preceding, FollowingSibling, PrecedingSibling}
use Rattle.sx_tree.specs.declared.record.NodeRecord.{NodeRecord}
use Rattle.sx_view.specs.Records.{Explains, IsDamaged, RecordMap}
use Rattle.sx_view.proofs.Failing.{err-later}
use Rattle.sx_view.specs.declared.fault.Fault.{Fault}
use Rattle.sx_model.specs.Records.{NodeRow}
use Rattle.sx_cursor.specs.Told.{Tells}
use Rattle.sx_cursor.proofs.Telling.{tells-once, some_is, some_number}
use Rattle.sx_axes.specs.Broken.{IsBroken}
use Rattle.sx_axes.specs.Course.{Onward, IsChain, IsAlong, IsAhead, IsBack, IsLeftOf, IsLeft, GoesAlong, GoesAhead, goes_to_end, link_of, onward_of}
use Rattle.sx_axes.specs.Gives.{Passes, Ends, TakesMore}
use Rattle.sx_axes.specs.declared.course.Course.{Course}
use Rattle.sx_axes.proofs.Stepping.{IsRest, ahead-on, ahead-absent, ahead-down, ahead-across, ahead-up, ahead-up_absent, ahead-free, ahead-above, ahead-low, ahead-top}
use Rattle.sx_axes.proofs.Backward.{back-on, back-absent, back-down, back-leaf, back-up, back-up_absent, back-own, back-above, back-top}

-- what a test for a link says
pub no_link : (b : Bool) (link : Option ℕ) → b ≡ is_some link → b ≡ false → link ≡ None
no_link b None test is = refl
no_link b (Some n) test is = absurd cc

pub some_link : (b : Bool) (link : Option ℕ) → b ≡ is_some link → b ≡ true → link ≡ None → ⊥
some_link b link test is none = absurd (cc (ap is_some none))

-- ---- along one link

module _ (link : NodeRow → Option ℕ) (m : RecordMap NodeRecord) (on : Onward) (k : ℕ) where
  chain-rest : (w : NodeRow) (listed : List ℕ) (visits : ℕ) (next : Onward) → on.next ≡ Some k → Tells (Some m) k (Some w) → next.next ≡ link w
      → IsAlong link m on listed visits → IsRest (IsAlong link m) (k ∷ []) listed visits 1 next
  chain-rest w [] visits next some there leads is = absurd (cc (sym is.0 ∙ some))
  chain-rest w (n ∷ ns) visits next some there leads is =
      let same = some_number n k (sym is.0.1.0 ∙ some) in
      let row = some_is _ _ (tells-once m k _ _ (subst (λ q. Tells (Some m) q (Some is.0.0)) same is.0.1.1) there) in
      record {
        rest = ns;
        more = length ns;
        lists = λ i. same i ∷ ns;
        left = (subst (λ x. IsChain link m x ns) (ap link row ∙ sym leads) is.0.1.2, refl);
        takes = omega (arith, is.1);
      }

  chain-on : (listed : List ℕ) (visits : ℕ) → on.next ≡ Some k → IsAlong link m on listed visits → 0 < visits
  chain-on [] visits some is = absurd (cc (sym is.0 ∙ some))
  chain-on (n ∷ ns) visits some is = omega (arith, is.1)

  chain-absent : (listed : List ℕ) (visits : ℕ) → on.next ≡ Some k → Tells (Some m) k None → IsAlong link m on listed visits → ⊥
  chain-absent [] visits some absent is = absurd (cc (sym is.0 ∙ some))
  chain-absent (n ∷ ns) visits some absent is =
      let same = some_number n k (sym is.0.1.0 ∙ some) in
      absurd (cc (tells-once m k _ None (subst (λ q. Tells (Some m) q (Some is.0.0)) same is.0.1.1) absent))

chain-end : (link : NodeRow → Option ℕ) (m : RecordMap NodeRecord) (on : Onward) (listed : List ℕ) (visits : ℕ) → on.next ≡ None → IsAlong link m on listed visits → listed ≡ []
chain-end link m on [] visits none is = refl
chain-end link m on (n ∷ ns) visits none is = absurd (cc (sym is.0.1.0 ∙ none))

-- ---- by the axis

same_along : (a : Axis) → GoesAlong a → IsLeftOf a ≡ IsAlong (link_of a)
same_along Child along = refl
same_along Descendant along = absurd along
same_along Ancestor along = refl
same_along Following along = absurd along
same_along Preceding along = absurd along
same_along FollowingSibling along = refl
same_along PrecedingSibling along = refl

same_ahead : (a : Axis) → GoesAhead a → IsLeftOf a ≡ IsAhead (goes_to_end a)
same_ahead Child ahead = absurd ahead
same_ahead Descendant ahead = refl
same_ahead Ancestor ahead = absurd ahead
same_ahead Following ahead = refl
same_ahead Preceding ahead = absurd ahead
same_ahead FollowingSibling ahead = absurd ahead
same_ahead PrecedingSibling ahead = absurd ahead

same_back : (a : Axis) → a ≡ Preceding → IsLeftOf a ≡ IsBack
same_back a is = ap IsLeftOf is

abbrev Left : Type 1
Left = RecordMap NodeRecord → Onward → List ℕ → ℕ → Type 0

module _ (o : Option (RecordMap NodeRecord)) (old : Course) (Is : Left) (same : IsLeftOf old.axis ≡ Is) where
  passes : (new : Course) (these : List ℕ) (taken : ℕ) → new.axis ≡ old.axis → new.left + taken ≡ old.left
      → ((m : RecordMap NodeRecord) → o ≡ Some m → (listed : List ℕ) (visits : ℕ) → Is m (onward_of old) listed visits → IsRest (Is m) these listed visits taken (onward_of new))
      → Passes o old these new
  unfolding Passes IsLeft
  passes new these taken axis left goes = λ m told listed visits is.
      let on = goes m told listed visits (subst (λ (L : Left). L m (onward_of old) listed visits) same is) in
      let kept = subst (λ (L : Left). L m (onward_of new) on.rest on.more) (sym same ∙ ap IsLeftOf (sym axis)) on.left in
      (on.rest, (on.more, (on.lists, kept, omega (arith, on.takes))))

  ends : ((m : RecordMap NodeRecord) → o ≡ Some m → (listed : List ℕ) (visits : ℕ) → Is m (onward_of old) listed visits → listed ≡ []) → Ends o old
  unfolding Ends IsLeft
  ends goes = λ m told listed visits is. goes m told listed visits (subst (λ (L : Left). L m (onward_of old) listed visits) same is)

  takes_more : ((m : RecordMap NodeRecord) → o ≡ Some m → (listed : List ℕ) (visits : ℕ) → Is m (onward_of old) listed visits → old.left < visits) → TakesMore o old
  unfolding TakesMore IsLeft
  takes_more goes = λ m told listed visits is. goes m told listed visits (subst (λ (L : Left). L m (onward_of old) listed visits) same is)

told_some : (o : Option (RecordMap NodeRecord)) (m : RecordMap NodeRecord) (k : ℕ) (found : Option NodeRow) → o ≡ Some m → Tells o k found → Tells (Some m) k found
told_some o m k found is tells = subst (λ x. Tells x k found) is tells

-- no visit is left, or there is no such node
out : (left visits : ℕ) → left ≡ 0 → 0 < visits → left < visits
out left visits none some = omega (arith, none)

module _ (o : Option (RecordMap NodeRecord)) (old : Course) (k : ℕ) where
  pub along-passes : (new : Course) (w : NodeRow) → GoesAlong old.axis → old.next ≡ Some k → Tells o k (Some w) → new.axis ≡ old.axis → new.left + 1 ≡ old.left
      → new.next ≡ link_of old.axis w → Passes o old (k ∷ []) new
  along-passes new w along some there axis left leads =
      passes o old (IsAlong (link_of old.axis)) (same_along old.axis along) new (k ∷ []) 1 axis left
      (λ m told listed visits is. chain-rest (link_of old.axis) m (onward_of old) k w listed visits (onward_of new) some (told_some o m k (Some w) told there) leads is)

  pub along-more : GoesAlong old.axis → old.next ≡ Some k → (old.left ≡ 0) ⊎ Tells o k None → TakesMore o old
  along-more along some (inl none) =
      takes_more o old (IsAlong (link_of old.axis)) (same_along old.axis along)
      (λ m told listed visits is. out old.left visits none (chain-on (link_of old.axis) m (onward_of old) k listed visits some is))
  along-more along some (inr absent) =
      takes_more o old (IsAlong (link_of old.axis)) (same_along old.axis along)
      (λ m told listed visits is. absurd (chain-absent (link_of old.axis) m (onward_of old) k listed visits some (told_some o m k None told absent) is))

pub along-ends : (o : Option (RecordMap NodeRecord)) (old : Course) → GoesAlong old.axis → old.next ≡ None → Ends o old
along-ends o old along none =
    ends o old (IsAlong (link_of old.axis)) (same_along old.axis along) (λ m told listed visits is. chain-end (link_of old.axis) m (onward_of old) listed visits none is)

-- a fault that is damage
pub more_damaged : {T : Type 0} (r : Result T Fault) (fault : Fault) (P : Type 0) → IsErrAnd r (λ e. e ≡ fault) → (IsDamaged fault → P) → IfErr r (λ e. IsDamaged e → P)
more_damaged (Ok x) fault P is come = absurd is
more_damaged (Err e) fault P is come = λ damage. come (subst IsDamaged is damage)

-- ---- in preorder

module _ (o : Option (RecordMap NodeRecord)) (old : Course) (k : ℕ) (ahead : GoesAhead old.axis) where
  pub down-passes : (new : Course) (w : NodeRow) (up : Option ℕ) → old.next ≡ Some k → Tells o k (Some w) → (w.first ≡ None → ⊥) → new.axis ≡ old.axis → new.left + 1 ≡ old.left
      → onward_of new ≡ record { next = w.first; up = up; levels = old.levels + 1 } → Passes o old (k ∷ []) new
  down-passes new w up some there inner axis left is_on =
      passes o old (IsAhead (goes_to_end old.axis)) (same_ahead old.axis ahead) new (k ∷ []) 1 axis left
      (λ m told listed visits is. subst (IsRest (IsAhead (goes_to_end old.axis) m) (k ∷ []) listed visits 1) (sym is_on)
      (ahead-down (goes_to_end old.axis) m (onward_of old) k listed visits w up some (told_some o m k (Some w) told there) inner is))

  pub across-passes : (new : Course) (w : NodeRow) → old.next ≡ Some k → Tells o k (Some w) → w.first ≡ None → new.axis ≡ old.axis → new.left + 1 ≡ old.left
      → onward_of new ≡ record { next = w.right; up = w.parent; levels = old.levels } → Passes o old (k ∷ []) new
  across-passes new w some there leaf axis left is_on =
      passes o old (IsAhead (goes_to_end old.axis)) (same_ahead old.axis ahead) new (k ∷ []) 1 axis left
      (λ m told listed visits is. subst (IsRest (IsAhead (goes_to_end old.axis) m) (k ∷ []) listed visits 1) (sym is_on)
      (ahead-across (goes_to_end old.axis) m (onward_of old) k listed visits w some (told_some o m k (Some w) told there) leaf is))

  pub ahead-more : old.next ≡ Some k → (old.left ≡ 0) ⊎ Tells o k None → TakesMore o old
  ahead-more some (inl none) =
      takes_more o old (IsAhead (goes_to_end old.axis)) (same_ahead old.axis ahead)
      (λ m told listed visits is. out old.left visits none (ahead-on (goes_to_end old.axis) m (onward_of old) k listed visits some is))
  ahead-more some (inr absent) =
      takes_more o old (IsAhead (goes_to_end old.axis)) (same_ahead old.axis ahead)
      (λ m told listed visits is. absurd (ahead-absent (goes_to_end old.axis) m (onward_of old) k listed visits some (told_some o m k None told absent) is))

  module _ (none : old.next ≡ None) (over : old.levels ≡ 0 → goes_to_end old.axis ≡ true) (some : old.up ≡ Some k) where
    pub free-passes : (new : Course) (w : NodeRow) → Tells o k (Some w) → 0 < old.levels → new.axis ≡ old.axis → new.left ≡ old.left
        → onward_of new ≡ record { next = w.right; up = w.parent; levels = old.levels - 1 } → Passes o old [] new
    free-passes new w there inner axis left is_on =
        let level : old.levels ≡ suc (old.levels - 1) = omega arith in
        passes o old (IsAhead (goes_to_end old.axis)) (same_ahead old.axis ahead) new [] 0 axis (omega (arith, left))
        (λ m told listed visits is. subst (IsRest (IsAhead (goes_to_end old.axis) m) [] listed visits 0) (sym is_on)
        (ahead-free (goes_to_end old.axis) m (onward_of old) k listed visits w (old.levels - 1) none over some (told_some o m k (Some w) told there) level is))

    pub above-passes : (new : Course) (w : NodeRow) → Tells o k (Some w) → old.levels ≡ 0 → new.axis ≡ old.axis → new.left + 1 ≡ old.left
        → onward_of new ≡ record { next = w.right; up = w.parent; levels = 0 } → Passes o old [] new
    above-passes new w there level axis left is_on =
        passes o old (IsAhead true) (same_ahead old.axis ahead ∙ ap IsAhead (over level)) new [] 1 axis left
        (λ m told listed visits is. subst (IsRest (IsAhead true m) [] listed visits 1) (sym is_on)
        (ahead-above m (onward_of old) listed visits k w none some (told_some o m k (Some w) told there) level is))

    pub above-more : (old.levels + old.left ≡ 0) ⊎ Tells o k None → TakesMore o old
    above-more (inl spent) =
        let level : old.levels ≡ 0 = omega arith in
        takes_more o old (IsAhead true) (same_ahead old.axis ahead ∙ ap IsAhead (over level))
        (λ m told listed visits is. out old.left visits (omega arith) (ahead-up m (onward_of old) listed visits k none some level is))
    above-more (inr absent) =
        takes_more o old (IsAhead (goes_to_end old.axis)) (same_ahead old.axis ahead)
        (λ m told listed visits is. absurd (ahead-up_absent (goes_to_end old.axis) m (onward_of old) k listed visits none over some (told_some o m k None told absent) is))

module _ (o : Option (RecordMap NodeRecord)) (old : Course) (ahead : GoesAhead old.axis) (none : old.next ≡ None) where
  pub low-ends : old.levels ≡ 0 → goes_to_end old.axis ≡ false → Ends o old
  low-ends level stays =
      ends o old (IsAhead false) (same_ahead old.axis ahead ∙ ap IsAhead stays) (λ m told listed visits is. ahead-low m (onward_of old) listed visits none level is)

  pub top-ends : (old.levels ≡ 0 → goes_to_end old.axis ≡ true) → old.up ≡ None → Ends o old
  top-ends over top =
      ends o old (IsAhead (goes_to_end old.axis)) (same_ahead old.axis ahead)
      (λ m told listed visits is. ahead-top m (onward_of old) listed visits (goes_to_end old.axis) none over top is)

-- ---- back

module _ (o : Option (RecordMap NodeRecord)) (old : Course) (k : ℕ) (back : old.axis ≡ Preceding) where
  pub deeper-passes : (new : Course) (w : NodeRow) (up : Option ℕ) → old.next ≡ Some k → Tells o k (Some w) → (w.last ≡ None → ⊥) → new.axis ≡ old.axis → new.left + 1 ≡ old.left
      → onward_of new ≡ record { next = w.last; up = up; levels = old.levels + 1 } → Passes o old [] new
  deeper-passes new w up some there inner axis left is_on =
      passes o old IsBack (same_back old.axis back) new [] 1 axis left
      (λ m told listed visits is. subst (IsRest (IsBack m) [] listed visits 1) (sym is_on)
      (back-down m (onward_of old) k listed visits w up some (told_some o m k (Some w) told there) inner is))

  pub leaf-passes : (new : Course) (w : NodeRow) → old.next ≡ Some k → Tells o k (Some w) → w.last ≡ None → new.axis ≡ old.axis → new.left + 1 ≡ old.left
      → onward_of new ≡ record { next = w.left; up = w.parent; levels = old.levels } → Passes o old (k ∷ []) new
  leaf-passes new w some there leaf axis left is_on =
      passes o old IsBack (same_back old.axis back) new (k ∷ []) 1 axis left
      (λ m told listed visits is. subst (IsRest (IsBack m) (k ∷ []) listed visits 1) (sym is_on)
      (back-leaf m (onward_of old) k listed visits w some (told_some o m k (Some w) told there) leaf is))

  pub back-more : old.next ≡ Some k → (old.left ≡ 0) ⊎ Tells o k None → TakesMore o old
  back-more some (inl none) =
      takes_more o old IsBack (same_back old.axis back)
      (λ m told listed visits is. out old.left visits none (back-on m (onward_of old) k listed visits some is))
  back-more some (inr absent) =
      takes_more o old IsBack (same_back old.axis back)
      (λ m told listed visits is. absurd (back-absent m (onward_of old) k listed visits some (told_some o m k None told absent) is))

  module _ (none : old.next ≡ None) (some : old.up ≡ Some k) where
    pub own-passes : (new : Course) (w : NodeRow) → Tells o k (Some w) → 0 < old.levels → new.axis ≡ old.axis → new.left ≡ old.left
        → onward_of new ≡ record { next = w.left; up = w.parent; levels = old.levels - 1 } → Passes o old (k ∷ []) new
    own-passes new w there inner axis left is_on =
        let level : old.levels ≡ suc (old.levels - 1) = omega arith in
        passes o old IsBack (same_back old.axis back) new (k ∷ []) 0 axis (omega (arith, left))
        (λ m told listed visits is. subst (IsRest (IsBack m) (k ∷ []) listed visits 0) (sym is_on)
        (back-own m (onward_of old) k listed visits w (old.levels - 1) none some (told_some o m k (Some w) told there) level is))

    pub before-passes : (new : Course) (w : NodeRow) → Tells o k (Some w) → old.levels ≡ 0 → new.axis ≡ old.axis → new.left + 1 ≡ old.left
        → onward_of new ≡ record { next = w.left; up = w.parent; levels = 0 } → Passes o old [] new
    before-passes new w there level axis left is_on =
        passes o old IsBack (same_back old.axis back) new [] 1 axis left
        (λ m told listed visits is. subst (IsRest (IsBack m) [] listed visits 1) (sym is_on)
        (back-above m (onward_of old) k listed visits w none some (told_some o m k (Some w) told there) level is))

    pub before-more : (old.levels + old.left ≡ 0) ⊎ Tells o k None → TakesMore o old
    before-more (inl spent) =
        takes_more o old IsBack (same_back old.axis back)
        (λ m told listed visits is. out old.left visits (omega arith) (back-up m (onward_of old) k listed visits none some (omega arith) is))
    before-more (inr absent) =
        takes_more o old IsBack (same_back old.axis back)
        (λ m told listed visits is. absurd (back-up_absent m (onward_of old) k listed visits none some (told_some o m k None told absent) is))

pub back-ends : (o : Option (RecordMap NodeRecord)) (old : Course) → old.axis ≡ Preceding → old.next ≡ None → old.up ≡ None → Ends o old
back-ends o old back none top =
    ends o old IsBack (same_back old.axis back) (λ m told listed visits is. back-top m (onward_of old) listed visits none top is)

-- ---- one read after the other

pub passes-none : (o : Option (RecordMap NodeRecord)) (a : Course) → Passes o a [] a
unfolding Passes
passes-none o a = λ m told listed visits is. (listed, (visits, (refl, is, refl)))

module _ (o mid : Option (RecordMap NodeRecord)) (a b : Course) (same : mid ≡ o) (on : Passes o a [] b) where
  pub passes-on : (these : List ℕ) (c : Course) → Passes mid b these c → Passes o a these c
  unfolding Passes
  passes-on these c more = λ m told listed visits is.
      let one = on m told listed visits is in
      let two = more m (same ∙ told) one.0 one.1.0 one.1.1.1 in
      (two.0, (two.1.0, (one.1.1.0 ∙ two.1.1.0, two.1.1.1, omega (arith, one.1.1.2, two.1.1.2))))

  pub ends-on : Ends mid b → Ends o a
  unfolding Passes Ends
  ends-on more = λ m told listed visits is.
      let one = on m told listed visits is in
      one.1.1.0 ∙ more m (same ∙ told) one.0 one.1.0 one.1.1.1

  pub more-on : TakesMore mid b → TakesMore o a
  unfolding Passes TakesMore
  more-on more = λ m told listed visits is.
      let one = on m told listed visits is in
      let two = more m (same ∙ told) one.0 one.1.0 one.1.1.1 in
      omega (arith, one.1.1.2, two)

-- a fault that comes after other reads
pub fault_after : {T : Type 0} (r : Result T Fault) (fault : Fault) (below mid : Damage → Type 0) (o now : Option (RecordMap NodeRecord)) (a b c count same_count : ℕ) → IsErrAnd r (λ e. e ≡ fault)
    → ((d : Damage) → mid d → below d) → now ≡ o → same_count ≡ count → a ≤ b → Explains mid (Rose b c) (IsBroken now same_count) fault → IfErr r (Explains below (Rose a c) (IsBroken o count))
fault_after r fault below mid o now a b c count same_count is damages same counts less why =
    err-later r (λ x. IsBroken x count) below mid o now a b c fault is damages same less (subst (λ (n : ℕ). Explains mid (Rose b c) (IsBroken now n) fault) counts why)

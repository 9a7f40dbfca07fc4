-- One step of an edit after another.
use Rattle.std.proofs.Common.{◌≡◌, ℕ, Bool, List, Option, Some, None, inl, inr, refl, sym, subst, ◌∙◌, arith}
use Rattle.std.specs.Prelude.{◌⊎◌, Result, IfErr, IfSome, IsErrAnd}
use Rattle.sx_bytes.specs.declared.damage.Damage.{Damage}
use Rattle.sx_tree.specs.declared.record.NodeRecord.{NodeRecord}
use Rattle.sx_model.specs.Edit.{Edit}
use Rattle.sx_model.specs.Records.{PathRow}
use Rattle.sx_view.specs.Records.{RecordMap}
use Rattle.sx_view.specs.declared.fault.Fault.{Fault}
use Rattle.sx_view.specs.declared.fault.Fault.TheVariants.{Failed, Damaged, OutOfMemory}
use Rattle.sx_outside.specs.Faults.{Rose}
use Rattle.sx_edit.specs.Damage.{Explains, ExplainsBoth, IsBreach, IsBreachFault, IsBroken, IsBrokenFault, IsDamage, IsDamageOver, IsEndless, IsMiscounted, IsNodeDamage, IsUntold, Reach, broken_link, endless, reach_of, to_parent, to_right}
use Rattle.sx_edit.specs.Links.{IsAbsent, IsReached, IsRecord, LeadsTo, preorder}
use Rattle.sx_edit.specs.Seen.{AreReached}
use Rattle.sx_edit.specs.Steps.{GoesOn}
use Rattle.sx_edit.specs.declared.trees.Gap.{Gap}
use Rattle.sx_edit.proofs.Results.{err_again}

module _ {V T : Type 0} (told : V → Option T) (faults : V → ℕ) (damages : V → Damage → Type 0) (has_mark : V → Bool) (marks : V → V → Type 0) where
  pub goes_itself : (a : V) → GoesOn told faults damages has_mark marks a a
  goes_itself a = record { same_mark = λ i. has_mark a; same_marked = λ m is. is; never_falls = omega arith; same_damages = λ d is. is; still_told = λ is. is }

  pub goes_then : (a b c : V) → GoesOn told faults damages has_mark marks a b → GoesOn told faults damages has_mark marks b c → GoesOn told faults damages has_mark marks a c
  goes_then a b c first second = record {
    same_mark = second.same_mark ∙ first.same_mark;
    same_marked = λ m is. second.same_marked m (first.same_marked m is);
    never_falls = omega arith;
    same_damages = λ d is. first.same_damages d (second.same_damages d is);
    still_told = λ is. first.still_told (second.still_told is);
  }

-- what is not told before some steps is not told after them, and the object below has no other damage
untold-before : (next : ℕ) (now told : Option (RecordMap NodeRecord)) (later below : Damage → Type 0) (d : Damage) → now ≡ told → (later d → below d) → IsUntold next now later d → IsUntold next told below d
untold-before next now told later below d same damages (inl is) = inl (damages is)
untold-before next now told later below d same damages (inr own) = inr (sym same ∙ own.0, own.1)

pub node-damage_before : (next : ℕ) (now told : Option (RecordMap NodeRecord)) (later below : Damage → Type 0) (d : Damage) → now ≡ told → (later d → below d)
    → IsNodeDamage next now later d → IsNodeDamage next told below d
node-damage_before next now told later below d same damages (inl is) = inl (untold-before next now told later below d same damages is)
node-damage_before next now told later below d same damages (inr broken) = inr (subst (λ o. IsBroken o next d) same broken)

pub damage_before : (edit : Edit) (next : ℕ) (now told : Option (RecordMap NodeRecord)) (table : List PathRow) (later below : Damage → Type 0) (d : Damage) → now ≡ told → (later d → below d)
    → IsDamage edit next now table later d → IsDamage edit next told table below d
damage_before edit next now told table later below d same damages (inl is) = inl (untold-before next now told later below d same damages is)
damage_before edit next now told table later below d same damages (inr broken) =
    inr (subst (λ o. IsBroken o next d ⊎ (IsMiscounted o (reach_of edit next o) d ⊎ IsBreach o table (reach_of edit next o) d)) same broken)

module _ {V : Type 0} (told : V → Option (RecordMap NodeRecord)) (faults : V → ℕ) (damages : V → Damage → Type 0) (has_mark : V → Bool) (marks : V → V → Type 0) where
  -- a fault after steps that went on, and changed no record
  pub explains_later : (next : ℕ) (a b c : V) (fault : Fault) → GoesOn told faults damages has_mark marks a b → told b ≡ told a
      → Explains next (told b) (damages b) (Rose (faults b) (faults c)) fault → Explains next (told a) (damages a) (Rose (faults a) (faults c)) fault
  explains_later next a b c Failed first same is = omega (arith, first.never_falls)
  explains_later next a b c (Damaged d) first same is = node-damage_before next (told b) (told a) (damages b) (damages a) d same (first.same_damages d) is
  explains_later next a b c OutOfMemory first same is = tt

  pub err-explains : {A : Type 0} (next : ℕ) (a b c : V) (r : Result A Fault) (fault : Fault) → IsErrAnd r (λ e. e ≡ fault) → GoesOn told faults damages has_mark marks a b → told b ≡ told a
      → Explains next (told b) (damages b) (Rose (faults b) (faults c)) fault → IfErr r (Explains next (told a) (damages a) (Rose (faults a) (faults c)))
  err-explains next a b c r fault is first same holds = err_again r fault _ is (explains_later next a b c fault first same holds)

-- damage of nodes is damage of either
pub node-damage : (reach : Reach) (next : ℕ) (told : Option (RecordMap NodeRecord)) (table : List PathRow) (below : Damage → Type 0) (damage : Damage) → reach.next ≡ next
    → IsNodeDamage next told below damage → IsDamageOver reach told table below damage
node-damage reach next told table below damage same (inl none) = inl (subst (λ n. IsUntold n told below damage) (sym same) none)
node-damage reach next told table below damage same (inr broken) = inr (inl (subst (λ n. IsBroken told n damage) (sym same) broken))

pub nodes-explain : (reach : Reach) (next : ℕ) (told : Option (RecordMap NodeRecord)) (table : List PathRow) (below : Damage → Type 0) (rose : Type 0) (fault : Fault) → reach.next ≡ next → Explains next told below rose fault → ExplainsBoth reach told table below rose fault
nodes-explain reach next told table below rose Failed same is = is
nodes-explain reach next told table below rose (Damaged d) same is = node-damage reach next told table below d same is
nodes-explain reach next told table below rose OutOfMemory same is = tt

pub breach_explains : (reach : Reach) (told : Option (RecordMap NodeRecord)) (table : List PathRow) (below : Damage → Type 0) (rose : Type 0) (fault : Fault) → IsBreachFault told table reach fault → ExplainsBoth reach told table below rose fault
breach_explains reach told table below rose Failed is = absurd is
breach_explains reach told table below rose (Damaged d) is = inr (inr (inr is))
breach_explains reach told table below rose OutOfMemory is = absurd is

pub broken_explains : (next : ℕ) (told : Option (RecordMap NodeRecord)) (below : Damage → Type 0) (rose : Type 0) (fault : Fault) → IsBrokenFault told next fault → Explains next told below rose fault
broken_explains next told below rose Failed is = absurd is
broken_explains next told below rose (Damaged d) is = inr is
broken_explains next told below rose OutOfMemory is = absurd is

-- links lead on
pub endless_explains : (next : ℕ) (told : Option (RecordMap NodeRecord)) (below : Damage → Type 0) (damage : Damage) → IsEndless preorder told next ⊎ (IsEndless to_right told next ⊎ IsEndless to_parent told next) → damage ≡ endless next → IsNodeDamage next told below damage
endless_explains next told below damage walk is = inr (inr (inl (walk, is)))

-- a link leads to no record
pub lost_link : (next : ℕ) (o : Option (RecordMap NodeRecord)) (below : Damage → Type 0) (from to : ℕ) (damage : Damage) → IsReached o from to → IsAbsent o to → damage ≡ broken_link from to → IsNodeDamage next o below damage
lost_link next None below from to damage reached none is = inl (inr (refl, (from, (to, inl is))))
lost_link next (Some m) below from to damage (inl leads) none is = inr (inl (from, (to, (leads, none, is))))
lost_link next (Some m) below from to damage (inr there) none is = absurd (let e : Some there.0 ≡ None = sym (there.1 m refl) ∙ none m refl in cc)

-- what is reached in the same records
pub reached-there : (o now : Option (RecordMap NodeRecord)) (from : ℕ) (node : Option ℕ) → now ≡ o → IfSome node (λ to. IsReached o from to) → IfSome node (λ to. IsReached now from to)
reached-there o now from node same = subst (λ q. IfSome node (λ to. IsReached q from to)) (sym same)

pub leads-there : (o now : Option (RecordMap NodeRecord)) (from : ℕ) (node : Option ℕ) → now ≡ o → IfSome node (λ to. LeadsTo o from to) → IfSome node (λ to. LeadsTo now from to)
leads-there o now from node same = subst (λ q. IfSome node (λ to. LeadsTo q from to)) (sym same)

pub leads-one : (o : Option (RecordMap NodeRecord)) (from to : ℕ) (node : Option ℕ) → node ≡ Some to → IfSome node (λ to. LeadsTo o from to) → LeadsTo o from to
leads-one o from to node is = subst (λ n. IfSome n (λ to. LeadsTo o from to)) is

pub reached-one : (o : Option (RecordMap NodeRecord)) (from to : ℕ) (node : Option ℕ) → node ≡ Some to → IfSome node (λ to. IsReached o from to) → IsReached o from to
reached-one o from to node is = subst (λ n. IfSome n (λ to. IsReached o from to)) is

-- the links of a record that was read
module _ (o : Option (RecordMap NodeRecord)) (k : ℕ) (r : NodeRecord) (there : IsRecord o k r) where
  pub leads-parent : (to : Option ℕ) → r.parent ≡ to → IfSome to (λ to. LeadsTo o k to)
  leads-parent None is = tt
  leads-parent (Some to) is = (r, (there, inl is))

  pub leads-left : (to : Option ℕ) → r.left ≡ to → IfSome to (λ to. LeadsTo o k to)
  leads-left None is = tt
  leads-left (Some to) is = (r, (there, inr (inl is)))

  pub leads-right : (to : Option ℕ) → r.right ≡ to → IfSome to (λ to. LeadsTo o k to)
  leads-right None is = tt
  leads-right (Some to) is = (r, (there, inr (inr (inl is))))

  pub leads-first : (to : Option ℕ) → r.first ≡ to → IfSome to (λ to. LeadsTo o k to)
  leads-first None is = tt
  leads-first (Some to) is = (r, (there, inr (inr (inr (inl is)))))

  pub leads-last : (to : Option ℕ) → r.last ≡ to → IfSome to (λ to. LeadsTo o k to)
  leads-last None is = tt
  leads-last (Some to) is = (r, (there, inr (inr (inr (inr is)))))

pub leads-reached : (o : Option (RecordMap NodeRecord)) (k : ℕ) (node : Option ℕ) → IfSome node (λ to. LeadsTo o k to) → IfSome node (λ to. IsReached o k to)
leads-reached o k None leads = tt
leads-reached o k (Some to) leads = inl leads

pub record-there : (o now : Option (RecordMap NodeRecord)) (k : ℕ) (r : NodeRecord) → now ≡ o → IsRecord o k r → IsRecord now k r
record-there o now k r same = subst (λ q. IsRecord q k r) (sym same)

pub reached-parent : (o now : Option (RecordMap NodeRecord)) (from to : ℕ) → now ≡ o → IsReached o from to → IsReached now from to
reached-parent o now from to same = subst (λ q. IsReached q from to) (sym same)

pub leads-same : (o : Option (RecordMap NodeRecord)) (from at : ℕ) (node : Option ℕ) → from ≡ at → IfSome node (λ to. LeadsTo o from to) → IfSome node (λ to. LeadsTo o at to)
leads-same o from at node is = subst (λ k. IfSome node (λ to. LeadsTo o k to)) is

pub gap-there : (o now : Option (RecordMap NodeRecord)) (gap : Gap) → now ≡ o → AreReached o gap → AreReached now gap
gap-there o now gap same = subst (λ q. AreReached q gap) (sym same)

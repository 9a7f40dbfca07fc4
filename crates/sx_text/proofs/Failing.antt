-- Faults of a reading on the way.
use Rattle.std.proofs.Common.{◌≡◌, ◌∙◌, ◌≤◌, ℕ, List, Option, Some, None, false, ap, sym, subst, inl, inr, arith}
use Rattle.std.specs.Prelude.{Result, Ok, Err, IfErr, IsErrAnd, MatchResult}
use Rattle.sx_bytes.specs.declared.damage.Damage.{Damage}
use Rattle.sx_tree.specs.declared.record.NodeRecord.{NodeRecord}
use Rattle.sx_view.specs.declared.fault.Fault.{Fault}
use Rattle.sx_view.specs.declared.fault.Fault.TheVariants.{Failed, Damaged, OutOfMemory}
use Rattle.sx_view.specs.Records.{Explains, IsDamaged, RecordMap}
use Rattle.sx_view.proofs.Failing.{err-wider, undamaged}
use Rattle.sx_tree.specs.Record.{kind_byte}
use Rattle.sx_tree.specs.declared.record.Kind.{Kind}
use Rattle.sx_model.specs.Records.{NodeRow}
use Rattle.sx_model.specs.Tree.{may_stand_below}
use Rattle.sx_cursor.specs.Damage.{IsBrokenLink, misplaced, IsLinked}
use Rattle.sx_cursor.specs.Told.{Tells}
use Rattle.sx_text.specs.Pen.{damaged, IsRead, Writes}
use Rattle.sx_text.specs.Text.{IsBroken}
use Rattle.sx_text.specs.declared.pen.Pen.{Pen}
use Rattle.sx_text.proofs.Writing.{writes-absent, writes-untold}

pub absent_writes : {T : Type 0} (o : Option (RecordMap NodeRecord)) (old : Pen) (from to : ℕ) (before : List ℕ) (below : Damage → Type 0) (rose : Type 0) (r : Result T Fault) (fault : Fault) (P : T → Type 0)
    → old.next ≡ Some to → IsErrAnd r (λ e. e ≡ fault) → ((d : Damage) → below d → o ≡ None) → Explains below rose (IsBrokenLink o from to) fault
    → MatchResult r P (λ e. IsDamaged e → Writes o old before damaged)
absent_writes o old from to before below rose (Ok x) fault P some is untold why = absurd is
absent_writes o old from to before below rose (Err e) fault P some is untold why = λ damage.
    undamaged below (IsBrokenLink o from to) rose (Writes o old before damaged) fault (λ d told. writes-untold o old before damaged (untold d told))
    (λ d broken. writes-absent o old to before damaged some broken.0) why (subst IsDamaged is damage)

-- a node that cannot stand below an open one
pub misplaced_fault : (o : Option (RecordMap NodeRecord)) (pen : Pen) (k count : ℕ) (child : NodeRow) (damage : Damage) → IsRead o pen → pen.next ≡ Some k
    → Tells o k (Some child) → may_stand_below pen.above.kind child.kind ≡ false → damage ≡ misplaced k (kind_byte child.kind) → IsBroken o count damage
misplaced_fault o pen k count child damage read next there wrong is =
    let open' = read.above in
    let apart = ap (λ (kind : Kind). may_stand_below kind child.kind) open'.1.1 ∙ wrong in
    inr (inr (inl (k, (child, (pen.above.number, (open'.0, ((pen.from, read.linked k next), (there, (open'.1.0, apart, is)))))))))

pub broken_link_fault : {T : Type 0} (o : Option (RecordMap NodeRecord)) (from to count : ℕ) (below : Damage → Type 0) (rose : Type 0) (r : Result T Fault) (fault : Fault) → IsLinked o from to
    → IsErrAnd r (λ e. e ≡ fault) → Explains below rose (IsBrokenLink o from to) fault → IfErr r (Explains below rose (IsBroken o count))
broken_link_fault o from to count below rose r fault linked is why =
    err-wider r below (IsBroken o count) (IsBrokenLink o from to) rose fault is (λ d broken. inl (from, (to, (linked, broken)))) why

-- what nothing below is asked for
pub fault_later : {T : Type 0} (below : Damage → Type 0) (rose : Type 0) (broken : Damage → Type 0) (r : Result T Fault) → IfErr r (Explains (λ _. ⊥) ⊥ broken) → IfErr r (Explains below rose broken)
fault_later below rose broken (Ok x) why = why
fault_later below rose broken (Err Failed) why = absurd why
fault_later below rose broken (Err OutOfMemory) why = why
fault_later below rose broken (Err (Damaged damage)) (inl never) = absurd never
fault_later below rose broken (Err (Damaged damage)) (inr is) = inr is

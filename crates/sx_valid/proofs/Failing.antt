-- Faults of a reading on the way.
use Rattle.std.proofs.Common.{◌≡◌, ℕ, Option, subst, inl}
use Rattle.std.specs.Prelude.{Result, Ok, Err, IfErr, IsErrAnd, MatchResult}
use Rattle.sx_bytes.specs.declared.damage.Damage.{Damage}
use Rattle.sx_tree.specs.declared.record.NodeRecord.{NodeRecord}
use Rattle.sx_view.specs.declared.fault.Fault.{Fault}
use Rattle.sx_view.specs.Records.{Explains, IsDamaged, RecordMap}
use Rattle.sx_view.proofs.Failing.{err-wider}
use Rattle.sx_cursor.specs.Damage.{IsBrokenLink, IsLinked}
use Rattle.sx_valid.specs.Valid.{IsBroken}

pub broken_link_fault : {T : Type 0} (o : Option (RecordMap NodeRecord)) (from to count : ℕ) (below : Damage → Type 0) (rose : Type 0) (r : Result T Fault) (fault : Fault) → IsLinked o from to
    → IsErrAnd r (λ e. e ≡ fault) → Explains below rose (IsBrokenLink o from to) fault → IfErr r (Explains below rose (IsBroken o count))
broken_link_fault o from to count below rose r fault linked is why =
    err-wider r below (IsBroken o count) (IsBrokenLink o from to) rose fault is (λ d broken. inl (from, (to, (linked, broken)))) why

-- what damage means, of the fault that is handed on
pub damaged_on : {T : Type 0} (r : Result T Fault) (P : T → Type 0) (Q : Type 0) (fault : Fault) → IsErrAnd r (λ e. e ≡ fault) → (IsDamaged fault → Q) → MatchResult r P (λ e. IsDamaged e → Q)
damaged_on (Ok x) P Q fault is why = absurd is
damaged_on (Err e) P Q fault is why = λ damaged. why (subst IsDamaged is damaged)

use Rattle.std.proofs.Common.{◌≡◌, ◌∙◌, ◌-◌, ◌⊎◌, ℕ, Some, ap, refl, subst, if◌then◌else◌, FitsSigned, w64}
use Rattle.std.proofs.lemmas.Int.{to_z-of_z}
use Rattle.sx_view.specs.Rows.{row_of}
use Rattle.sx_cursor.specs.Told.{Tells}
use Rattle.sx_model.specs.Valid.{has_begun, has_not_ended}
use Rattle.sx_valid.specs.Fields.{LacksValue, value_seen}
use Rattle.sx_view.proofs.Failing.{err-later}
use Rattle.sx_valid.specs.Valid.{IsBroken}
use Rattle.sx_valid.proofs.Looking.{look_fails-err, looked_through, passed, settled, value_fails-err}
use Rattle.sx_valid.proofs.fields.Look.advance.Goals as goal

pub returns-in_default-clause-looks : goal.returns-in_default-clause-looks
returns-in_default-clause-looks g c = looked_through _ _ _ c.in_default.is

pub returns-in_err-key-clause-looks : goal.returns-in_err-key-clause-looks
returns-in_err-key-clause-looks g c = look_fails-err _ _ _ _ _ c.in-Some.number _ c.from_residual.ensures.1 c.in-Some.is c.in_err-key.ensures.none

pub returns-then-not-begins-lasts-clause-looks : goal.returns-then-not-begins-lasts-clause-looks
returns-then-not-begins-lasts-clause-looks g c = passed _ _ _ c.in-Some.number (row_of c.in_ok-key.key) _ _ c.in-Some.is c.in_ok-key.ensures.found
    c.finds-begins.ensures c.finds-lasts.ensures c.if-not-begins-lasts.true

pub returns-in_err-value-clause-looks : goal.returns-in_err-value-clause-looks
returns-in_err-value-clause-looks g c = value_fails-err _ _ _ _ _ c.in-Some.number (row_of c.in_ok-key.key) _ _ _ _ _ c.from_residual-in_err-value.ensures.1 c.in-Some.is c.in_ok-key.ensures.found
    c.finds-begins.ensures c.finds-lasts.ensures c.if-not-begins-lasts.false
    (λ damaged. subst (λ x. (c.args.self.now.left - 1 ≡ 0) ⊎ LacksValue x c.in_ok-key.key.first) c.look_at.ensures.same (c.in_err-value.ensures.none damaged))

pub returns-in_err-value-clause-fault : goal.returns-in_err-value-clause-fault
returns-in_err-value-clause-fault g c =
    err-later _ (λ x. IsBroken x c.args.count) _ _ _ _ _ _ _ _ c.from_residual-in_err-value.ensures.1 (g.met.N.Records.keeps_damages _ _ c.look_at.ensures.keeps)
    c.look_at.ensures.same c.look_at.ensures.never_falls c.in_err-value.ensures.fault

pub returns-clause-looks : goal.returns-clause-looks
returns-clause-looks g c =
    let fits : FitsSigned w64 c.args.asked.time = c.args.asked.time_fits in
    let begun : c.has_begun.result ≡ has_begun c.args.asked.time (Some (value_seen c.in_ok-value.value)) = simp to_z-of_z at c.has_begun.ensures in
    let lasts : c.has_not_ended.result ≡ has_not_ended c.args.asked.time (Some (value_seen c.in_ok-value.value)) = simp to_z-of_z at c.has_not_ended.ensures in
    settled _ _ _ _ c.in-Some.number (row_of c.in_ok-key.key) c.in_ok-value.value c.in-Some.is c.in_ok-key.ensures.found (record {
      here = c.finds-begins.result;
      there = c.finds-lasts.result;
      one = c.finds-begins.ensures;
      other = c.finds-lasts.ensures;
      found = c.if-not-begins-lasts.false;
      value = subst (λ x. (to : ℕ) × (c.in_ok-key.key.first ≡ Some to) × Tells x to (Some (row_of c.in_ok-value.value))) c.look_at.ensures.same c.in_ok-value.ensures.found;
      next = refl;
      left = refl;
      begun = c.first_of.ensures ∙ ap (λ x. if c.finds-begins.result then Some x else c.args.self.now.begun) begun;
      lasts = c.first_of-2.ensures ∙ ap (λ x. if c.finds-lasts.result then Some x else c.args.self.now.lasts) lasts;
    })

use Rattle.std.proofs.Common.{◌∷◌, [], inl, refl, sym, subst, arith}
use Rattle.sx_model.specs.StringFaults.{PieceAt}
use Rattle.sx_model.specs.Strings.{IsPlain}
use Rattle.sx_json.proofs.strings.piece_at.Goals as goal

pub returns-in_ok-push-in_default-byte-clause-ok : goal.returns-in_ok-push-in_default-byte-clause-ok
returns-in_ok-push-in_default-byte-clause-ok c =
    let byte = c.in-Some.byte.now in
    let plain : IsPlain byte = (omega arith, λ e. omega (arith, e), λ e. omega (arith, e)) in
    let is = c.in-Some.ensures.cases.0 in
    (byte ∷ [], c.in_ok-push-in_default-byte.ensures.ok, subst (λ b. PieceAt b (byte ∷ []) c.in-Some.after.now) (sym is) (inl (plain, refl, refl)), omega (arith, c.in-Some.ensures.cases.1))

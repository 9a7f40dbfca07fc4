use Rattle.std.proofs.Common.{◌≡◌, ◌∙◌, ℤ, Ok, Option, IfNone, ap, subst, sym}
use Rattle.std.specs.Prelude.{FitsSigned}
use Rattle.std.specs.Fmt.{signed_decimal}
use Rattle.std.specs.Int.{w64}
use Rattle.std.proofs.lemmas.Bool.{false≢true}
use Rattle.std.proofs.lemmas.Fmt.{parse-signed_decimal}
use Rattle.std.proofs.lemmas.Int.{to_z-of_z}
use Rattle.std.proofs.lemmas.Slice.Eq.{bytes_eq-Decides}
use Rattle.sx_script.proofs.Numbers.{IsUtf8-signed}
use Rattle.sx_script.proofs.words.moment.Goals as goal
use Rattle.sx_script.proofs.words.moment.Goals.{then-eq, else-eq}

pub returns-in_default-clause-none : goal.returns-in_default-clause-none
returns-in_default-clause-none c = λ t fits is. c.in_default.ensures.cases.0 (IsUtf8-signed t c.args.digits.now fits is)

pub returns-in_default-parse-clause-none : goal.returns-in_default-parse-clause-none
returns-in_default-parse-clause-none c = λ t fits is.
    c.in_default-parse.not-Ok t (parse-signed_decimal w64 t c.in-Ok.text.now c.parse.result fits fits.sfits (c.in-Ok.ensures.cases.0 ∙ is) c.parse.ensures.value.0)

pub returns-clause-none : goal.returns-clause-none
returns-clause-none c =
    elim c.if-eq.branch [
      | then-eq w ↦ subst (λ (r : Option ℤ). IfNone r ((t : ℤ) → FitsSigned w64 t → c.args.digits.now ≡ signed_decimal t → ⊥)) (sym w.result-is) tt
      | else-eq w ↦ subst (λ (r : Option ℤ). IfNone r ((t : ℤ) → FitsSigned w64 t → c.args.digits.now ≡ signed_decimal t → ⊥)) (sym w.result-is) (λ t fits is.
          let read : c.parse.result ≡ Ok t = parse-signed_decimal w64 t c.in-Ok.text.now c.parse.result fits fits.sfits (c.in-Ok.ensures.cases.0 ∙ is) c.parse.ensures.value.0 in
          let was : c.parse.result ≡ Ok c.in-Ok-parse.t = c.in-Ok-parse.is in
          let same : c.in-Ok-parse.t ≡ t = cc in
          let fit : FitsSigned w64 c.in-Ok-parse.t = subst (λ (z : ℤ). FitsSigned w64 z) (sym same) fits in
          let text : c.as_bytes.result.now ≡ signed_decimal c.in-Ok-parse.t
          = c.as_bytes.ensures.value ∙ c.in_ok-canonical.ensures.ok ∙ ap (λ (z : ℤ). signed_decimal z) (to_z-of_z w64 c.in-Ok-parse.t fit) in
          let bytes : c.args.digits.now ≡ c.as_bytes.result.now = is ∙ sym (text ∙ ap (λ (k : ℤ). signed_decimal k) same) in
          let equal = (bytes_eq-Decides c.args.digits.now c.as_bytes.result.now).1 bytes in
          false≢true (sym w.if-eq.false ∙ c.eq.ensures ∙ equal))
    ]

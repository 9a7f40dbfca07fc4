use Rattle.std.proofs.Common.{◌≡◌, ◌∙◌, ℕ, ◌<◌, ◌^◌, Ok, Option, IfNone, ap, sym, subst, arith}
use Rattle.std.specs.Fmt.{decimal}
use Rattle.std.proofs.lemmas.Bool.{false≢true}
use Rattle.std.proofs.lemmas.Fmt.{parse-decimal}
use Rattle.std.proofs.lemmas.Slice.Eq.{bytes_eq-Decides}
use Rattle.sx_script.proofs.Numbers.{IsUtf8-decimal}
use Rattle.sx_script.proofs.words.decimal_number.Goals as goal
use Rattle.sx_script.proofs.words.decimal_number.Goals.{then-eq, else-eq}

pub returns-in_default-clause-none : goal.returns-in_default-clause-none
returns-in_default-clause-none c = λ n below is. c.in_default.ensures.cases.0 (IsUtf8-decimal n c.args.digits.now below is)

pub returns-in_default-parse-clause-none : goal.returns-in_default-parse-clause-none
returns-in_default-parse-clause-none c = λ n below is.
    c.in_default-parse.not-Ok n (parse-decimal 32 n c.in-Ok.text.now c.parse.result below (omega arith) (c.in-Ok.ensures.cases.0 ∙ is) c.parse.ensures.value.0)

pub returns-clause-none : goal.returns-clause-none
returns-clause-none c =
    elim c.if-eq.branch [
      | then-eq w ↦ subst (λ (r : Option ℕ). IfNone r ((n : ℕ) → n < 2 ^ 32 → c.args.digits.now ≡ decimal n → ⊥)) (sym w.result-is) tt
      | else-eq w ↦ subst (λ (r : Option ℕ). IfNone r ((n : ℕ) → n < 2 ^ 32 → c.args.digits.now ≡ decimal n → ⊥)) (sym w.result-is) (λ n below is.
          let read : c.parse.result ≡ Ok n = parse-decimal 32 n c.in-Ok.text.now c.parse.result below (omega arith) (c.in-Ok.ensures.cases.0 ∙ is) c.parse.ensures.value.0 in
          let was : c.parse.result ≡ Ok c.in-Ok-parse.n = c.in-Ok-parse.is in
          let same : c.in-Ok-parse.n ≡ n = cc in
          let text : c.as_bytes.result.now ≡ decimal c.in-Ok-parse.n = c.as_bytes.ensures.value ∙ c.in_ok-canonical.ensures.ok in
          let bytes : c.as_bytes.result.now ≡ c.args.digits.now = text ∙ ap (λ (k : ℕ). decimal k) same ∙ sym is in
          let equal = (bytes_eq-Decides c.as_bytes.result.now c.args.digits.now).1 bytes in
          false≢true (sym w.if-eq.false ∙ c.eq.ensures ∙ equal))
    ]

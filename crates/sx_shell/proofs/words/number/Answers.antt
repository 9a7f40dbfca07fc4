use Rattle.std.proofs.Common.{◌≡◌, ◌∙◌, ℕ, ◌<◌, ◌^◌, Ok, ap, sym, arith, rules}
use Rattle.std.specs.Fmt.{decimal}
use Rattle.std.proofs.lemmas.Bool.{false≢true}
use Rattle.std.proofs.lemmas.Fmt.{parse-decimal}
use Rattle.std.proofs.lemmas.Slice.Eq.{bytes_eq-Decides}
use Rattle.sx_shell.proofs.Commands.{number_is, number_none}
use Rattle.sx_shell.proofs.words.number.Goals as goal
use Rattle.sx_shell.proofs.words.number.Goals.{then-eq, else-eq}

pub returns-in_default : goal.returns-in_default
returns-in_default c =
    sym (number_none c.args.digits.now (λ n below is. c.in_default.not-Ok n (parse-decimal 32 n c.args.digits.now c.parse.result below (omega arith) is c.parse.ensures.value.0)))

pub returns : goal.returns
returns c =
    elim c.if-eq.branch [
      | then-eq w ↦
          let equal = (bytes_eq-Decides c.as_str.result.now c.args.digits.now).0 (sym c.eq.ensures ∙ w.if-eq.true) in
          let below : c.in-Ok.number < 2 ^ 32 = search rules in
          w.result-is ∙ sym (number_is c.in-Ok.number c.args.digits.now below (sym equal ∙ c.as_str.ensures.value ∙ c.in_ok-canonical.ensures.ok))
      | else-eq w ↦
          w.result-is ∙ sym (number_none c.args.digits.now (λ n below is.
          let read : c.parse.result ≡ Ok n = parse-decimal 32 n c.args.digits.now c.parse.result below (omega arith) is c.parse.ensures.value.0 in
          let was : c.parse.result ≡ Ok c.in-Ok.number = c.in-Ok.is in
          let same : c.in-Ok.number ≡ n = cc in
          let text : c.as_str.result.now ≡ decimal c.in-Ok.number = c.as_str.ensures.value ∙ c.in_ok-canonical.ensures.ok in
          let bytes = text ∙ ap (λ (k : ℕ). decimal k) same ∙ sym is in
          let equal = (bytes_eq-Decides c.as_str.result.now c.args.digits.now).1 bytes in
          false≢true (sym w.if-eq.false ∙ c.eq.ensures ∙ equal)))
    ]

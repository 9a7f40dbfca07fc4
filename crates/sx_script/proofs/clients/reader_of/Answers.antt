use Rattle.std.proofs.Common.{◌≡◌, ◌∙◌, ℕ, ◌<◌, ◌^◌, [], ◌∷◌, Option, Some, None, IfSome, suc, length, drop, slice_range, subst, sym, arith}
use Rattle.std.specs.Fmt.{decimal}
use Rattle.std.proofs.lemmas.Bool.Decides.{Decides-eqb}
use Rattle.std.proofs.lemmas.Slice.Eq.{strip_prefix_is}
use Rattle.sx_script.proofs.Found.{at_none}
use Rattle.sx_script.proofs.Readers.{named_by, name_parts, rest_range, same_reader}
use Rattle.sx_script.proofs.clients.reader_of.Goals as goal
use Rattle.sx_script.proofs.clients.reader_of.Goals.{in_default-2-via-in-Some-2+then-reader-gt0+else-reader-lt-CLIENTS, in_default-2-via-in-Some-2+else-reader-gt0, in_default-2-via-in_default-2}

pub returns-in_default-strip_prefix-clause-none : goal.returns-in_default-strip_prefix-clause-none
returns-in_default-strip_prefix-clause-none c = λ i text names.
    let named = c.in-Some.named.now in
    let digits = c.front-digits.result.now in
    let begins : c.args.line.now ≡ 114 ∷ named = strip_prefix_is Decides-eqb c.args.line.now (114 ∷ []) (Some c.in-Some.named) c.in-Some.ensures.cases in
    let parts = name_parts c.args.line.now named digits i text begins c.front-digits.ensures.front names in
    strip_prefix_is Decides-eqb (slice_range named (length digits) (length named)) (58 ∷ 32 ∷ []) None c.in_default-strip_prefix.ensures.cases text
    (rest_range named (length digits) ∙ parts.1)

pub returns-in-Some-2-clause-found : goal.returns-in-Some-2-clause-found
returns-in-Some-2-clause-found c =
    let named = c.in-Some.named.now in
    let digits = c.front-digits.result.now in
    let begins : c.args.line.now ≡ 114 ∷ named = strip_prefix_is Decides-eqb c.args.line.now (114 ∷ []) (Some c.in-Some.named) c.in-Some.ensures.cases in
    let behind : drop (length digits) named ≡ 58 ∷ 32 ∷ c.in-Some-strip_prefix.text.now =
    sym (rest_range named (length digits))
    ∙ strip_prefix_is Decides-eqb (slice_range named (length digits) (length named)) (58 ∷ 32 ∷ []) (Some c.in-Some-strip_prefix.text) c.in-Some-strip_prefix.ensures.cases in
    let found : (c.in-Some-2.reader < 2 ^ 32) × (digits ≡ decimal c.in-Some-2.reader) =
    subst (λ (found : Option ℕ). IfSome found (λ n. (n < 2 ^ 32) × (digits ≡ decimal n))) c.in-Some-2.is c.in_ok-reader.ensures.found in
    named_by c.args.line.now named digits c.in-Some-strip_prefix.text.now c.in-Some-2.reader begins c.front-digits.ensures.begins behind found.1 (omega arith) (omega arith)

pub returns-in_default-2-clause-none : goal.returns-in_default-2-clause-none
returns-in_default-2-clause-none c = λ i text names.
    let named = c.in-Some.named.now in
    let digits = c.front-digits.result.now in
    let begins : c.args.line.now ≡ 114 ∷ named = strip_prefix_is Decides-eqb c.args.line.now (114 ∷ []) (Some c.in-Some.named) c.in-Some.ensures.cases in
    let parts = name_parts c.args.line.now named digits i text begins c.front-digits.ensures.front names in
    let known : suc i < 32 = names.known in
    elim c.in_default-2.branch [
      | in_default-2-via-in-Some-2+then-reader-gt0+else-reader-lt-CLIENTS w ↦
          let found : (w.in-Some-2.reader < 2 ^ 32) × (digits ≡ decimal w.in-Some-2.reader) =
          subst (λ (found : Option ℕ). IfSome found (λ n. (n < 2 ^ 32) × (digits ≡ decimal n))) w.in-Some-2.is c.in_ok-reader.ensures.found in
          let same = same_reader digits w.in-Some-2.reader i found.1 found.0 parts.0 known in
          absurd (omega (arith, same, known))
      | in_default-2-via-in-Some-2+else-reader-gt0 w ↦
          let found : (w.in-Some-2.reader < 2 ^ 32) × (digits ≡ decimal w.in-Some-2.reader) =
          subst (λ (found : Option ℕ). IfSome found (λ n. (n < 2 ^ 32) × (digits ≡ decimal n))) w.in-Some-2.is c.in_ok-reader.ensures.found in
          let same = same_reader digits w.in-Some-2.reader i found.1 found.0 parts.0 known in
          absurd (omega (arith, same))
      | in_default-2-via-in_default-2 w ↦
          at_none c.in_ok-reader.field-0 ((n : ℕ) → n < 2 ^ 32 → digits ≡ decimal n → ⊥) w.in_default-2.not-Some c.in_ok-reader.ensures.none (suc i) (omega (arith, known)) parts.0
    ]

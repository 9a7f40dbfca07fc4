use Rattle.std.proofs.Common.{◌≡◌, ◌∙◌, sym, ap, true, ◌&&◌, Bool, List, ℕ, take, drop, replicate, rules, arith}
use Rattle.std.specs.Str.{bytes_eq}
use Rattle.sx_log.proofs.Parts.{name_tested}
use Rattle.sx_log.proofs.reading.is_name.Goals as goal

pub returns-then-is_text-clause-value : goal.returns-then-is_text-clause-value
returns-then-is_text-clause-value c =
    let count : ℕ = c.args.count in
    let bytes : List ℕ = c.args.bytes.now in
    let name : c.split_at.result.0.now ≡ take count bytes = c.split_at.ensures.front ∙ ap (λ n. take n bytes) c.from.ensures in
    let behind : c.split_at.result.1.now ≡ drop count bytes = c.split_at.ensures.back ∙ ap (λ n. drop n bytes) c.from.ensures in
    let zeros : c.split_at-2.result.1.now ≡ drop count (replicate 64 0) = c.split_at-2.ensures.back ∙ ap (λ n. drop n (replicate 64 0)) c.from-2.ensures in
    let tested = name_tested count bytes c.split_at.result.0.now c.split_at.result.1.now c.is_text.result c.eq.result (omega arith) (omega arith) name behind c.is_text.ensures
    (c.eq.ensures ∙ ap (λ (z : List ℕ). bytes_eq c.split_at.result.1.now z) zeros) in
    let text : c.is_text.result ≡ true = search rules in
    sym (tested ∙ ap (λ (t : Bool). t && c.eq.result) text)

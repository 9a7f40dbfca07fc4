use Rattle.std.proofs.Common.{rules, arith, ◌∙◌, ap, sym, Some, Option}
use Rattle.std.specs.Option.{option_map}
use Rattle.sx_frame.specs.Violation.{Violation, damage_at, tell}
use Rattle.sx_log.proofs.Parts.{names_broken, none_broken}
use Rattle.sx_log.specs.Finding.{fields_in}
use Rattle.sx_log.proofs.reading.birth_damage.Goals as goal

pub returns-then-not-are_names : goal.returns-then-not-are_names
returns-then-not-are_names c =
    let broken = names_broken (fields_in c.args.given.now) c.digest_of-found.result c.ne.result c.are_names.result c.digest_of-found.ensures c.ne.ensures c.if-ne.false c.if-given-ne-FORMAT.false (omega arith) (omega arith) c.are_names.ensures (search rules) in
    ap Some c.number_damage-then-not-are_names.ensures ∙ ap (λ n. Some (damage_at 1 (tell 4 0 n))) c.from-then-not-are_names.ensures ∙ ap (λ (v : Option Violation). option_map (damage_at 1) v) (sym broken)

pub returns : goal.returns
returns c =
    let none = none_broken (fields_in c.args.given.now) c.digest_of-found.result c.ne.result c.are_names.result c.digest_of-found.ensures c.ne.ensures c.if-ne.false c.if-given-ne-FORMAT.false (omega arith) (omega arith) c.are_names.ensures (search rules) in
    ap (λ (v : Option Violation). option_map (damage_at 1) v) (sym none)

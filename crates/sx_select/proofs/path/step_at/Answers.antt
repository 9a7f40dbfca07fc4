use Rattle.std.proofs.Common.{[], ◌∷◌}
use Rattle.sx_select.proofs.Names.{none_told}
use Rattle.sx_select.proofs.Steps.{stripped, unstripped, no_step_behind_two, no_step_behind_one}
use Rattle.sx_select.proofs.path.step_at.Goals as goal

pub returns-in-None-clause-none : goal.returns-in-None-clause-none
returns-in-None-clause-none c =
    let bytes = c.args.bytes.now in
    let rest = c.in-Some-strip_prefix.rest.now in
    let cases = c.in-Some-strip_prefix.ensures.cases in
    no_step_behind_two bytes rest (stripped bytes (47 ∷ 47 ∷ []) rest cases.0 cases.1) (none_told c.in_ok-name.field-0 _ c.in-None.is c.in_ok-name.ensures.none)

pub returns-in-None-2-clause-none : goal.returns-in-None-2-clause-none
returns-in-None-2-clause-none c =
    let bytes = c.args.bytes.now in
    let rest = c.in-Some-strip_prefix-2.rest.now in
    let cases = c.in-Some-strip_prefix-2.ensures.cases in
    no_step_behind_one bytes rest (stripped bytes (47 ∷ []) rest cases.0 cases.1) (λ more is. unstripped bytes (47 ∷ 47 ∷ []) more c.in_default-strip_prefix.ensures.cases is) (none_told c.in_ok-name-2.field-0 _ c.in-None-2.is c.in_ok-name-2.ensures.none)

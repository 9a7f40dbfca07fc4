use Rattle.std.proofs.Common.{◌≤◌, ◌+◌, arith, inr, rules}
use Rattle.sx_view.specs.declared.fault.Fault.TheVariants.{Damaged}
use Rattle.sx_select.proofs.Climbing.{broken-here, get-sound, none-above, once-none, once-steps, steps-sound, text-of-absent, text-of-steps, text-of-zero}
use Rattle.sx_select.proofs.text_of_path.path_text.Goals as goal

pub returns-then-p-eq0-clause-text : goal.returns-then-p-eq0-clause-text
returns-then-p-eq0-clause-text g c = text-of-zero _ _ _ c.if-p-eq0.true

pub returns-in_err-found-clause-sound : goal.returns-in_err-found-clause-sound
returns-in_err-found-clause-sound g c = get-sound _ _ _ _ _ c.from_residual.ensures.1 (g.met.P.Records.untold _) c.in_err-found.ensures.fault

pub returns-in_default-clause-text : goal.returns-in_default-clause-text
returns-in_default-clause-text g c = text-of-absent _ _ _ _ c.in_default.is c.in_ok-found.ensures.found

pub returns-then-found-p-clause-fault : goal.returns-then-found-p-clause-fault
returns-then-found-p-clause-fault g c =
    let some : 1 ≤ c.args.p = omega (arith, c.if-p-eq0.false) in
    inr (broken-here _ _ c.in-Some.found _ _ some c.in-Some.is c.in_ok-found.ensures.found c.if-found-p.true c.broken_path.ensures)

pub returns-then-found-p-clause-sound : goal.returns-then-found-p-clause-sound
returns-then-found-p-clause-sound g c =
    let some : 1 ≤ c.args.p = omega (arith, c.if-p-eq0.false) in
    λ _. none-above _ (λ _. ⊥) ⊥ c.args.p (Damaged c.broken_path.result) (λ d never. absurd never)
    (inr (broken-here _ _ c.in-Some.found _ _ some c.in-Some.is c.in_ok-found.ensures.found c.if-found-p.true c.broken_path.ensures)) tt

pub returns-in_err-steps-clause-sound : goal.returns-in_err-steps-clause-sound
returns-in_err-steps-clause-sound g c =
    steps-sound _ _ _ _ _ _ _ c.from_residual-in_err-steps.ensures.1 (g.met.P.Records.keeps_told _ _ c.get.ensures.keeps) (g.met.P.Records.untold _) c.in_err-steps.ensures.fault

pub returns-clause-text : goal.returns-clause-text
returns-clause-text g c =
    let some : 1 ≤ c.args.p = omega (arith, c.if-p-eq0.false) in
    text-of-steps _ _ _ _ _ _ (g.met.P.Records.keeps_told _ _ c.get.ensures.keeps) some c.in_ok-steps.ensures.steps c.in_ok-append_path.ensures.ok

pub returns-in_default-clause-once : goal.returns-in_default-clause-once
returns-in_default-clause-once g c =
    once-none _ c.args.p c.args.out.now _ _ (text-of-absent _ _ c.args.out.now _ c.in_default.is c.in_ok-found.ensures.found)

pub returns-then-p-eq0-clause-once : goal.returns-then-p-eq0-clause-once
returns-then-p-eq0-clause-once g c = once-none _ c.args.p c.args.out.now _ _ (text-of-zero _ _ c.args.out.now c.if-p-eq0.true)

pub returns-clause-once : goal.returns-clause-once
returns-clause-once g c =
    let some : 1 ≤ c.args.p = omega (arith, c.if-p-eq0.false) in
    let first : g.P.Records.gets c.get.new.self ≤ g.P.Records.gets c.args.records.now + 1 = search rules in
    once-steps _ _ c.args.p c.in_ok-steps.steps.items _ _ _ (g.met.P.Records.keeps_told _ _ c.get.ensures.keeps) some c.in_ok-steps.ensures.steps first c.in_ok-steps.ensures.once

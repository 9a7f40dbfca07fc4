use Rattle.std.proofs.Common.{◌≡◌, ◌<◌, ◌≤◌, ℕ, List, [], Option, Some, false, length, ap, sym, subst, arith, rules, IfErr}
use Rattle.std.proofs.lemmas.Result.{IfErr-weaker}
use Rattle.sx_script.specs.Waiting.{Waiting, GoesOn, IsCut, IsUnpulled, Keeps}
use Rattle.sx_script.specs.declared.line_reader.PullFault.{PullFault}
use Rattle.sx_script.specs.declared.line_reader.PullFault.TheVariants.{OutOfMemory}
use Rattle.sx_script.specs.declared.line_reader.Pulled.{Pulled}
use Rattle.sx_script.proofs.Pulling.{cut_none, gone_on, keeps_all, moved_nothing, pulled_filled}
use Rattle.sx_script.proofs.line_reader.LineReader.pull.Goals as goal

pub returns-in-Some-2-clause-pulled : goal.returns-in-Some-2-clause-pulled
returns-in-Some-2-clause-pulled g c =
    let old : Waiting = c.args.self.now in
    let mid : Waiting = c.cut.new.self in
    let filled : Waiting = record { line = c.self-2.inside.line; rest = c.fill.new.self; ended = c.self-2.inside.ended } in
    let on : old.ended ≡ false = search rules in
    let first : GoesOn old old.rest mid = cut_none old c.in_ok-line.field-0 mid c.in_default.not-Some c.in_ok-line.ensures.ok in
    let cut : IsCut filled (Some c.in-Some-2.line) c.cut-2.new.self =
    subst (λ (found : Option Pulled). IsCut filled found c.cut-2.new.self) c.in-Some-2.is c.in_ok-line-2.ensures.ok in (
      c.fill.new.self,
      c.fill.ensures.within,
      c.in_ok-fill.ensures.moved,
      pulled_filled old mid filled _ c.in-Some-2.line c.cut-2.new.self first on (ap (λ (w : Waiting). w.line) c.self-2.view_is) cut,
    )

pub returns-in-None-clause-pulled : goal.returns-in-None-clause-pulled
returns-in-None-clause-pulled g c =
    let old : Waiting = c.args.self.now in
    let mid : Waiting = c.cut.new.self in
    let filled : Waiting = record { line = c.self-2.inside.line; rest = c.fill.new.self; ended = c.self-2.inside.ended } in
    let on : old.ended ≡ false = search rules in
    let first : GoesOn old old.rest mid = cut_none old c.in_ok-line.field-0 mid c.in_default.not-Some c.in_ok-line.ensures.ok in
    let again : GoesOn filled filled.rest c.cut-2.new.self =
    subst (λ (found : Option Pulled). IsCut filled found c.cut-2.new.self) c.in-None.is c.in_ok-line-2.ensures.ok in
    let some : 0 < length c.fill.new.self = search rules in (
      c.fill.new.self,
      c.fill.ensures.within,
      c.in_ok-fill.ensures.moved,
      (on, some, gone_on old mid filled c.cut-2.new.self first (ap (λ (w : Waiting). w.line) c.self-2.view_is) again),
    )

pub returns-in_err-line-clause-unpulled : goal.returns-in_err-line-clause-unpulled
returns-in_err-line-clause-unpulled g c =
    let old : Waiting = c.args.self.now in
    let memory : IfErr c.from_residual.result (λ (fault : PullFault). fault ≡ OutOfMemory) = search rules in
    let line : c.self.inside.line ≡ old.line = ap (λ (w : Waiting). w.line) c.self.view_is in
    let within : length old.line ≤ 8388609 = subst (λ (l : List ℕ). length l ≤ 8388609) line c.self.invariant.0 in
    let on : old.ended ≡ false = search rules in
    let same : c.cut.new.self ≡ old = c.in_err-line.ensures.err in
    let keeps : Keeps old [] c.cut.new.self = subst (λ (new : Waiting). Keeps old [] new) (sym same) (keeps_all old within on) in
    IfErr-weaker c.from_residual.result (λ (fault : PullFault). fault ≡ OutOfMemory) _
    (λ fault is. ([], omega arith, moved_nothing _, subst (λ (f : PullFault). IsUnpulled old [] f c.cut.new.self) (sym is) (on, keeps))) memory

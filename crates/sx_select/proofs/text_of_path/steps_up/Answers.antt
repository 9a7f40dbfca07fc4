use Rattle.std.proofs.Common.{◌≡◌, ◌++◌, ◌∷◌, [], List, length, length-append, arith, rules, ap, sym, subst, ◌∙◌}
use Rattle.sx_tree.specs.declared.record.Step.{Step}
use Rattle.sx_select.specs.Climb.{ClimbsFrom}
use Rattle.sx_select.proofs.Climbing.{climbs-on}
use Rattle.sx_select.proofs.text_of_path.steps_up.Goals as goal

pub loop-at-preserved : goal.loop-at-preserved
loop-at-preserved g c =
    let inv = c.loop-at.invariant in
    let path = c.in_ok-path.path in
    let items : c.push-in-loop-at.new.self.items ≡ c.loop-at.steps.items ++ path.step ∷ [] = search rules in
    record {
      climbs = subst (λ (steps : List Step). ClimbsFrom (g.P.Records.told c.args.records.now) c.args.p steps path.parent) (sym items)
          (climbs-on _ _ _ _ _ path inv.same inv.climbs c.in_ok-path.ensures.found);
      gets = search rules;
      once = let longer = ap (λ (steps : List Step). length steps) items in omega (arith, longer, length-append c.loop-at.steps.items (path.step ∷ []), inv.once, c.read_path.ensures.gets);
      never_falls = search rules;
      keeps = g.met.P.Records.keeps_then _ _ _ inv.keeps c.read_path.ensures.keeps;
      same = c.read_path.ensures.same ∙ inv.same;
    }

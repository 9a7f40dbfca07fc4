use Rattle.std.proofs.Common.{◌≡◌, ◌∙◌, [], ap, refl, rules, sym}
use Rattle.std.specs.Prelude.{option_map}
use Rattle.sx_edit.specs.Seen.{without}
use Rattle.sx_edit.proofs.Going.{goes_itself, goes_then}
use Rattle.sx_edit.proofs.Batching.{without-last, without-none}
use Rattle.sx_edit.proofs.reads.erase_all.Goals as goal

pub loop-node-init : goal.loop-node-init
loop-node-init g c = record { erases = refl; same_gets = refl; goes_on = goes_itself g.N.Records.told g.N.Records.faults g.N.Records.damages g.N.RecordsMut.has_mark g.N.RecordsMut.marks c.args.nodes.now }

pub loop-node-preserved : goal.loop-node-preserved
loop-node-preserved g c =
    let inv = c.loop-node.invariant in
    record {
      erases = ap (option_map (without c.pop.new.self.items)) c.in_ok-erase.ensures.ok ∙ without-last c.pop.new.self.items c.in-Some.node (g.N.Records.told c.loop-node.nodes)
          ∙ ap (λ l. option_map (without l) (g.N.Records.told c.loop-node.nodes)) (sym c.in-Some.ensures.items) ∙ inv.erases;
      same_gets = c.in_ok-erase.ensures.same_gets ∙ inv.same_gets;
      goes_on = goes_then g.N.Records.told g.N.Records.faults g.N.Records.damages g.N.RecordsMut.has_mark g.N.RecordsMut.marks _ _ _ inv.goes_on c.in_ok-erase.ensures.goes_on;
    }

pub returns-clause-ok : goal.returns-clause-ok
returns-clause-ok g c =
    let none : c.loop-node.left.items ≡ [] = search rules in
    without-none _ _ none ∙ c.loop-node.invariant.erases

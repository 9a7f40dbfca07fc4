use Rattle.std.proofs.Common.{◌≡◌, ◌++◌, length}
use Rattle.sx_model.specs.Tree.{is_document, is_object}
use Rattle.sx_select.specs.Marks.{last_below, marks_below}
use Rattle.sx_select.proofs.level.Level.below.Given as goal

-- what the steps that are left make of the marks that are left stands behind the marks that are made
abbrev pub invariant-loop-rest : goal.invariant-loop-rest
invariant-loop-rest l =
    let kind = l.node.kind in
    let label = l.node.label in
    let first = is_document kind in
    record {
      object : l.object ≡ is_object kind;
      marks : l.marks.items ++ marks_below l.rest l.above kind label l.comes ≡ marks_below l.steps l.self.marks.items kind label first;
      last : last_below l.rest l.above kind label l.comes ≡ last_below l.steps l.self.marks.items kind label first;
    }

abbrev pub decreases-loop-rest : goal.decreases-loop-rest
decreases-loop-rest l = length l.rest

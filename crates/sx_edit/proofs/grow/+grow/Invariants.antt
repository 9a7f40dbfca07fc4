use Rattle.std.proofs.Common.{◌≡◌, ◌+◌, [], suc, length, nat_lt, take}
use Rattle.sx_tree.specs.Value.{values_of, fields_of}
use Rattle.sx_model.specs.Numbered.{numbered_values, numbered_fields}
use Rattle.sx_edit.specs.Drift.{Drifts}
use Rattle.sx_edit.specs.Grow.{array_node, object_node, only_if}
use Rattle.sx_edit.specs.Pathways.{kept}
use Rattle.sx_edit.specs.Steps.{GoesOn}
use Rattle.sx_edit.proofs.Growing.{IsHung}
use Rattle.sx_edit.proofs.grow.+grow.Given as goal

-- the trees of the values so far are there
abbrev pub invariant-grow_items-loop-place : goal.invariant-grow_items-loop-place
invariant-grow_items-loop-place g l =
    let told = g.N.Records.told in
    record {
      hung : IsHung (array_node l.parent) l.path (only_if (nat_lt l.place (length l.values)) (l.parent + 1 + l.children.nodes)) l.children
          (numbered_values (values_of (take l.place l.values)) (suc l.parent)) (kept (told l.initial.nodes) l.initial.paths.paths) (kept (told l.nodes) l.paths.paths);
      drifts : Drifts l.children.nodes [] l.initial.paths.paths l.paths.paths;
      same_mark : l.paths.marked ≡ l.initial.paths.marked;
      same_gets : g.N.Records.gets l.nodes ≡ g.N.Records.gets l.initial.nodes;
      goes_on : GoesOn told g.N.Records.faults g.N.Records.damages g.N.RecordsMut.has_mark g.N.RecordsMut.marks l.initial.nodes l.nodes;
    }

abbrev pub invariant-grow_members-loop-place : goal.invariant-grow_members-loop-place
invariant-grow_members-loop-place g l =
    let told = g.N.Records.told in
    record {
      hung : IsHung (object_node l.parent) l.path (only_if (nat_lt l.place (length l.members)) (l.parent + 1 + l.children.nodes)) l.children
          (numbered_fields (fields_of (take l.place l.members)) (suc l.parent)) (kept (told l.initial.nodes) l.initial.paths.paths) (kept (told l.nodes) l.paths.paths);
      drifts : Drifts l.children.nodes [] l.initial.paths.paths l.paths.paths;
      same_mark : l.paths.marked ≡ l.initial.paths.marked;
      same_gets : g.N.Records.gets l.nodes ≡ g.N.Records.gets l.initial.nodes;
      goes_on : GoesOn told g.N.Records.faults g.N.Records.damages g.N.RecordsMut.has_mark g.N.RecordsMut.marks l.initial.nodes l.nodes;
    }

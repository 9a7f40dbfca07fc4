use Rattle.std.proofs.Common.{◌≡◌, ℕ, ◌+◌, ◌-◌, ◌≤◌, ◌++◌, List, Option, length}
use Rattle.sx_tree.specs.declared.record.NodeRecord.{NodeRecord}
use Rattle.sx_edit.specs.Clear.{AllLead, tops_of}
use Rattle.sx_edit.specs.Drift.{Drifts}
use Rattle.sx_edit.specs.Links.{Walks, first_tops, paths_left, preorder}
use Rattle.sx_edit.specs.Steps.{GoesOn}
use Rattle.sx_model.specs.Records.{PathRow}
use Rattle.sx_edit.specs.Pathways.{kept}
use Rattle.sx_edit.specs.Told.{IsDiscounted, IsWalked}
use Rattle.sx_edit.proofs.clear.clear.Given as goal

-- what is left to visit is all that is left to show
abbrev pub invariant-loop-turn : goal.invariant-loop-turn
invariant-loop-turn g l =
    let told = g.N.Records.told in
    record {
      walks : (rest : List ℕ) → IsWalked (tops_of l.left.items) (l.fn.next - l._turn) (told l.nodes) rest → IsWalked (first_tops l.fn.first) l.fn.next (told l.fn.nodes) (l.gone.items ++ rest);
      discounts : (last : Option (List PathRow)) → IsDiscounted (tops_of l.left.items) (l.fn.next - l._turn) (kept (told l.nodes) l.paths.paths) last
          → IsDiscounted (first_tops l.fn.first) l.fn.next (kept (told l.fn.nodes) l.fn.paths.paths) last;
      lead : AllLead (told l.fn.nodes) l.left.items;
      met : (visited : List NodeRecord) × (Walks preorder (told l.fn.nodes) (first_tops l.fn.first) visited (tops_of l.left.items) × (length visited ≡ l._turn) × Drifts 0 (paths_left visited) l.fn.paths.paths l.paths.paths);
      gets : g.N.Records.gets l.nodes ≤ g.N.Records.gets l.fn.nodes + length l.gone.items;
      same : told l.nodes ≡ told l.fn.nodes;
      same_mark : l.paths.marked ≡ l.fn.paths.marked;
      goes_on : GoesOn told g.N.Records.faults g.N.Records.damages g.N.RecordsMut.has_mark g.N.RecordsMut.marks l.fn.nodes l.nodes;
    }

use Rattle.std.proofs.Common.{◌≡◌, ℕ, ◌+◌, ◌-◌, ◌≤◌, ◌++◌, List, length}
use Rattle.sx_model.specs.Records.{NodeRow, PathRow}
use Rattle.sx_edit.specs.declared.fault.EditFault.{EditFault}
use Rattle.sx_edit.specs.Pathways.{kept}
use Rattle.sx_edit.specs.Drift.{Drifts, IsThere}
use Rattle.sx_edit.specs.Repath.{AllLead, AllThere, IsRepathed, StopsRepathing, first_goals, goals_of}
use Rattle.sx_edit.specs.Seen.{entries_of}
use Rattle.sx_tree.specs.declared.record.NodeRecord.{NodeRecord}
use Rattle.sx_edit.specs.Links.{Walks, first_tops, paths_left, preorder}
use Rattle.sx_edit.specs.Told.{IsWalked, numbers_of}
use Rattle.sx_edit.proofs.Repathing.{goal_tops}
use Rattle.sx_edit.specs.Steps.{GoesOn}
use Rattle.sx_edit.proofs.repath.repath.Given as goal

-- what is left to move is all that is left to show
abbrev pub invariant-loop-turn : goal.invariant-loop-turn
invariant-loop-turn g l =
    let told = g.N.Records.told in
    record {
      moves : (last : List PathRow) (rest : List (ℕ × NodeRow)) → IsRepathed (goals_of l.left.items) (l.fn.next - l._turn) (kept (told l.nodes) l.paths.paths) last rest
          → IsRepathed (first_goals l.fn.over.kind l.fn.over.path l.fn.first) l.fn.next (kept (told l.fn.nodes) l.fn.paths.paths) last (entries_of l.moved.items ++ rest);
      stops : (e : EditFault) → StopsRepathing (goals_of l.left.items) (l.fn.next - l._turn) l.fn.had (kept (told l.nodes) l.paths.paths) e
          → StopsRepathing (first_goals l.fn.over.kind l.fn.over.path l.fn.first) l.fn.next l.fn.had (kept (told l.fn.nodes) l.fn.paths.paths) e;
      walks : (rest : List ℕ) → IsWalked (goal_tops (goals_of l.left.items)) (l.fn.next - l._turn) (told l.nodes) rest → IsWalked (first_tops l.fn.first) l.fn.next (told l.fn.nodes) (numbers_of (entries_of l.moved.items) ++ rest);
      lead : AllLead (told l.fn.nodes) l.left.items;
      met : (visited : List NodeRecord) × (Walks preorder (told l.fn.nodes) (first_tops l.fn.first) visited (goal_tops (goals_of l.left.items)) × (length visited ≡ l._turn)
          × Drifts (length (paths_left visited)) (paths_left visited) l.fn.paths.paths l.paths.paths);
      there : IsThere l.fn.paths.paths l.fn.over.path → AllThere l.paths.paths l.left.items;
      gets : g.N.Records.gets l.nodes ≤ g.N.Records.gets l.fn.nodes + length l.moved.items;
      same : told l.nodes ≡ told l.fn.nodes;
      same_mark : l.paths.marked ≡ l.fn.paths.marked;
      goes_on : GoesOn told g.N.Records.faults g.N.Records.damages g.N.RecordsMut.has_mark g.N.RecordsMut.marks l.fn.nodes l.nodes;
    }

use Rattle.std.proofs.Common.{◌≡◌, ℕ, ◌+◌, ◌-◌, ◌≤◌, ◌++◌, List, Option, length}
use Rattle.std.specs.Prelude.{option_map, IfSome}
use Rattle.sx_tree.specs.declared.record.NodeRecord.{NodeRecord}
use Rattle.sx_edit.specs.Damage.{to_parent}
use Rattle.sx_edit.specs.Links.{IsReached, Walks, first_tops}
use Rattle.sx_edit.specs.Room.{CountsLevels}
use Rattle.sx_edit.specs.Seen.{IsChain}
use Rattle.sx_edit.specs.Steps.{GoesOn}
use Rattle.sx_edit.specs.declared.trees.Seen.{Seen}
use Rattle.sx_edit.proofs.climb.ascend.Given as goal

-- what is left to climb is all that is left to show
abbrev pub invariant-loop-turn : goal.invariant-loop-turn
invariant-loop-turn g l =
    let told = g.N.Records.told in
    record {
      chains : (rest : List Seen) → IsChain (told l.fn.nodes) l.at rest → IsChain (told l.fn.nodes) l.fn.node (l.seen.items ++ rest);
      counts : (rest : Option ℕ) → CountsLevels l.at (l.fn.next - l._turn) (told l.nodes) rest → CountsLevels l.fn.node l.fn.next (told l.fn.nodes) (option_map (λ n. l.count + n) rest);
      few : l.count ≤ l._turn;
      met : (visited : List NodeRecord) × (Walks to_parent (told l.fn.nodes) (first_tops l.fn.node) visited (first_tops l.at) × (length visited ≡ l._turn));
      reached : IfSome l.at (λ to. IsReached (told l.fn.nodes) l.child to);
      gets : g.N.Records.gets l.nodes ≤ g.N.Records.gets l.fn.nodes + length l.seen.items;
      same : told l.nodes ≡ told l.fn.nodes;
      goes_on : GoesOn told g.N.Records.faults g.N.Records.damages g.N.RecordsMut.has_mark g.N.RecordsMut.marks l.fn.nodes l.nodes;
    }

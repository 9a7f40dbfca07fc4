use Rattle.std.proofs.Common.{◌≡◌, ℕ, ◌-◌, List, Option, length}
use Rattle.std.specs.Prelude.{IfSome}
use Rattle.sx_tree.specs.declared.record.NodeRecord.{NodeRecord}
use Rattle.sx_edit.specs.Damage.{to_right}
use Rattle.sx_edit.specs.Links.{LeadsTo, Walks, first_tops}
use Rattle.sx_edit.specs.Gets.{GetsKeys}
use Rattle.sx_edit.specs.Names.{FindsKey}
use Rattle.sx_edit.specs.Steps.{GoesOn}
use Rattle.sx_edit.proofs.names.find_key.Given as goal

-- what is left to find is all that is left to show
abbrev pub invariant-loop-turn : goal.invariant-loop-turn
invariant-loop-turn g l =
    let told = g.N.Records.told in
    record {
      finds : (answer : Option (Option ℕ)) → FindsKey l.fn.except l.fn.name l.at (l.fn.next - l._turn) (told l.nodes) answer
          → FindsKey l.fn.except l.fn.name l.fn.first l.fn.next (told l.fn.nodes) answer;
      work : (last : ℕ) → GetsKeys l.at (l.fn.next - l._turn) (told l.nodes) (g.N.Records.gets l.nodes) last → GetsKeys l.fn.first l.fn.next (told l.fn.nodes) (g.N.Records.gets l.fn.nodes) last;
      met : (visited : List NodeRecord) × (Walks to_right (told l.fn.nodes) (first_tops l.fn.first) visited (first_tops l.at) × (length visited ≡ l._turn));
      lead : IfSome l.at (λ to. LeadsTo (told l.fn.nodes) l.from to);
      same : told l.nodes ≡ told l.fn.nodes;
      goes_on : GoesOn told g.N.Records.faults g.N.Records.damages g.N.RecordsMut.has_mark g.N.RecordsMut.marks l.fn.nodes l.nodes;
    }

use Rattle.std.proofs.Common.{◌≤◌, ◌++◌, List, ℕ, length, IsUtf8}
use Rattle.sx_model.specs.Strings.{StringAt}
use Rattle.sx_model.specs.StringFaults.{StringFault}
use Rattle.sx_tree.specs.declared.json_fault.JsonFault.{JsonFault}
use Rattle.sx_json.proofs.strings.escaped_at.Given as goal

abbrev pub invariant-loop-content : goal.invariant-loop-content
invariant-loop-content l = record {
  leads : (more left : List ℕ) → StringAt l.left more left → StringAt l.bytes (l.content ++ more) left;
  no_longer : length l.left ≤ length l.bytes;
  short : length l.content ≤ 1_048_576;
  utf8 : IsUtf8 l.bytes → IsUtf8 (l.content ++ l.left);
  fault : (f : JsonFault) → StringFault l.end l.start (length l.content) l.left f → StringFault l.end l.start 0 l.bytes f;
}

abbrev pub decreases-loop-content : goal.decreases-loop-content
decreases-loop-content l = length l.left

use Rattle.std.proofs.Common.{inr, refl}
use Rattle.sx_tree.specs.Value.{value_of}
use Rattle.sx_json.proofs.Nested.{cut_fault}
use Rattle.sx_json.proofs.reader.fault_before.Goals as goal
use Rattle.sx_json.proofs.reader.fault_before.Goals.{in-Err, in-Ok}

pub returns : goal.returns
returns c =
    elim c.match-read_front.branch [
      | in-Err w ↦ rw (w.result-is, w.at_cut.ensures) (cut_fault c.args.text.now c.args.valid w.in-Err.fault c.requires.utf8 c.requires.valid w.in-Err.ensures.fault)
      | in-Ok w ↦
          rw w.result-is (inr (inr (c.requires.utf8, c.args.valid, c.requires.valid, inr (value_of w.in-Ok.field-0, w.in-Ok.ensures.ok, refl))))
    ]

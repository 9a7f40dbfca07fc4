use Rattle.std.proofs.Common.{◌≡◌, ◌++◌, take}
use Rattle.sx_tree.specs.Value.{values_of, fields_of}
use Rattle.sx_model.specs.Canonical.{elements_text, members_text}
use Rattle.sx_model.specs.Limits.{ElementsKeepLimits, MembersKeepLimits}
use Rattle.sx_json.proofs.writer.+write.Given as goal

abbrev pub invariant-write_elements-loop-place : goal.invariant-write_elements-loop-place
invariant-write_elements-loop-place l = record {
  written : l.out ≡ l.initial.out ++ elements_text (values_of (take l.place l.values));
  limits : ElementsKeepLimits (values_of (take l.place l.values));
}

abbrev pub invariant-write_members-loop-place : goal.invariant-write_members-loop-place
invariant-write_members-loop-place l = record {
  written : l.out ≡ l.initial.out ++ members_text (fields_of (take l.place l.members));
  limits : MembersKeepLimits (fields_of (take l.place l.members));
}

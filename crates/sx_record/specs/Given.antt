-- The fields that stand in the code.
use Rattle.sx_record.specs.declared.node.GivenNode.{GivenNode}
use Rattle.sx_record.specs.declared.path.GivenPath.{GivenPath}
use Rattle.sx_record.specs.Spelling.{NodeFields, PathFields}

abbrev pub given_path : GivenPath → PathFields
given_path f = record { parent = f.parent; step = f.step; count = f.count; name = f.name.now }

abbrev pub given_node : GivenNode → NodeFields
given_node f = record {
  kind = f.kind;
  parent = f.parent;
  left = f.left;
  right = f.right;
  first = f.first;
  last = f.last;
  children = f.children;
  descendants = f.descendants;
  hash = f.hash;
  path = f.path;
  label = f.label.now;
}

-- Records of nodes, and the definition's plain rows.
use Rattle.std.specs.Prelude.{◌≡◌}
use Rattle.std.proofs.Common.{ap}
use Rattle.sx_tree.specs.declared.record.NodeRecord.{NodeRecord}
use Rattle.sx_record.specs.Laws.{node_equal}
use Rattle.sx_model.specs.Records.{NodeRow}

-- the row that a record shows
abbrev pub row_of : NodeRecord → NodeRow
row_of r = record {
  kind = r.kind;
  label = r.label;
  parent = r.parent;
  left = r.left;
  right = r.right;
  first = r.first;
  last = r.last;
  children = r.children;
  descendants = r.descendants;
  hash = r.hash;
  path = r.path;
}

-- A record is known by its row.
pub row_of-same : (a b : NodeRecord) → row_of a ≡ row_of b → a ≡ b
row_of-same a b e =
    node_equal a b
    (record {
      same_parent = ap (λ (w : NodeRow). w.parent) e;
      same_left = ap (λ (w : NodeRow). w.left) e;
      same_right = ap (λ (w : NodeRow). w.right) e;
      same_first = ap (λ (w : NodeRow). w.first) e;
      same_last = ap (λ (w : NodeRow). w.last) e;
    })
    (record {
      same_kind = ap (λ (w : NodeRow). w.kind) e;
      same_children = ap (λ (w : NodeRow). w.children) e;
      same_descendants = ap (λ (w : NodeRow). w.descendants) e;
      same_hash = ap (λ (w : NodeRow). w.hash) e;
      same_path = ap (λ (w : NodeRow). w.path) e;
    })
    (ap (λ (w : NodeRow). w.label) e)

-- What two nodes have in common.
use Rattle.std.specs.Prelude.{◌≡◌}
use Rattle.sx_tree.specs.declared.record.NodeRecord.{NodeRecord}

pub record HaveSameLinks (a b : NodeRecord) : Type 0 where
  pub same_parent : a.parent ≡ b.parent
  pub same_left : a.left ≡ b.left
  pub same_right : a.right ≡ b.right
  pub same_first : a.first ≡ b.first
  pub same_last : a.last ≡ b.last

pub record HaveSameRest (a b : NodeRecord) : Type 0 where
  pub same_kind : a.kind ≡ b.kind
  pub same_children : a.children ≡ b.children
  pub same_descendants : a.descendants ≡ b.descendants
  pub same_hash : a.hash ≡ b.hash
  pub same_path : a.path ≡ b.path

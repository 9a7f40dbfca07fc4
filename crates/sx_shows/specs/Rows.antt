-- Tests that two rows are equal.
use Rattle.std.specs.Prelude.{ℕ, ◌==◌, ◌&&◌, Bool, Option, bytes_eq}
use Rattle.std.specs.Option.{option_eq}
use Rattle.sx_tree.specs.Record.{kind_byte}
use Rattle.sx_model.specs.Paths.{same_step}
use Rattle.sx_model.specs.Records.{NodeRow, PathRow}

-- the number of the same node, or of none
abbrev pub same_link : Option ℕ → Option ℕ → Bool
same_link = option_eq (λ k m. k == m)

abbrev pub same_kin : NodeRow → NodeRow → Bool
same_kin a b = same_link a.parent b.parent && same_link a.left b.left && same_link a.right b.right && same_link a.first b.first && same_link a.last b.last

abbrev pub same_numbers : NodeRow → NodeRow → Bool
same_numbers a b = a.children == b.children && a.descendants == b.descendants && a.hash == b.hash && a.path == b.path

abbrev pub same_node : NodeRow → NodeRow → Bool
same_node a b = kind_byte a.kind == kind_byte b.kind && bytes_eq a.label b.label && same_kin a b && same_numbers a b

abbrev pub same_path_row : PathRow → PathRow → Bool
same_path_row a b = a.parent == b.parent && same_step a.step b.step && a.count == b.count

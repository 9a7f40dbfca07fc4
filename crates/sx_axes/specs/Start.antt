-- Where the walk along an axis of a node begins.
use Rattle.std.specs.Prelude.{◌≡◌, ℕ}
use Rattle.sx_tree.specs.declared.query.Axis.{Axis}
use Rattle.sx_model.specs.Records.{NodeRow}
use Rattle.sx_axes.specs.Course.{first_link}
use Rattle.sx_axes.specs.declared.course.Course.{Course}

pub record IsStart (a : Axis) (k : ℕ) (w : NodeRow) (count : ℕ) (course : Course) : Type 0 where
  pub axis : course.axis ≡ a
  pub from : course.from ≡ k
  pub next : course.next ≡ first_link a w
  pub up : course.up ≡ w.parent
  pub levels : course.levels ≡ 0
  pub left : course.left ≡ count
  pub counted : course.count ≡ count

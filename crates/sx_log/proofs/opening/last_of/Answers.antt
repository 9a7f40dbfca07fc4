use Rattle.std.proofs.Common.{◌≡◌, ◌∙◌, ◌-◌, ap, length, slice_get, Some, List}
use Rattle.sx_layout.specs.FrameGroup.{first_root}
use Rattle.sx_log.proofs.OpenedGroups.{last_row}
use Rattle.sx_log.specs.Kept.{root_behind}
use Rattle.sx_log.specs.declared.log.GroupRow.{GroupRow}
use Rattle.sx_log.proofs.opening.last_of.Goals as goal

pub returns-in-Some : goal.returns-in-Some
returns-in-Some c =
    let rows : List GroupRow = c.deref.result.now in
    let at : Some c.in-Some.row.now ≡ slice_get rows (length rows - 1) = c.in-Some.ensures.value in
    last_row first_root rows c.in-Some.row.now at ∙ ap (root_behind first_root) c.deref.ensures.value

use Rattle.std.proofs.Common.{◌≡◌, None, ap, map, rules, ◌∙◌}
use Rattle.sx_paths.specs.declared.entry.Entry.{Entry}
use Rattle.sx_paths.specs.Table.{row_of}
use Rattle.sx_paths.specs.Entries.{row_before, rows_of, stamps_of}
use Rattle.sx_paths.proofs.EntryLemmas.{IsTable-undone, same_length, whole}
use Rattle.sx_paths.proofs.table.PathTable.undo.Goals as goal

pub invariant_of-self : goal.invariant_of-self
invariant_of-self c =
    let left = c.cut.new.entries.items in
    let new = c.restore.new.entries in
    let value : c.deref_mut.result.now ≡ left = c.deref_mut.ensures.value in
    let rows : rows_of new ≡ map (row_before c.self.inside.stamp) left = c.restore.ensures.rows ∙ ap (map (row_before c.self.inside.stamp)) value in
    let stamps : stamps_of new ≡ stamps_of left = c.restore.ensures.stamps ∙ ap stamps_of value in
    let many = same_length (λ (e : Entry). row_of e.path) (row_before c.self.inside.stamp) new left rows in
    let none : c.take.new.self ≡ None = search rules in
    rw (whole c.cut.new.entries.len new left c.cut.new.entries.ok.0 many, none)
    (IsTable-undone c.self.inside.stamp c.in-Some.len c.self.inside.entries.items left new c.self.inside.index c.cut.new.index c.self.inside.mark c.self.invariant
    c.cut.ensures.entries c.cut.ensures.indexed rows stamps)

use Rattle.std.proofs.Common.{◌≡◌, Some, ap, length, ◌∙◌}
use Rattle.sx_paths.specs.declared.entry.Entry.{Entry}
use Rattle.sx_paths.specs.Table.{row_of}
use Rattle.sx_paths.specs.Entries.{rows_of, table_of}
use Rattle.sx_paths.proofs.EntryLemmas.{IsTable-marked, same_length, table-marked, whole}
use Rattle.sx_paths.proofs.table.PathTable.begin.Goals as goal

pub invariant_of-self : goal.invariant_of-self
invariant_of-self c =
    let old = c.self.inside.entries.items in
    let new = c.next_stamp-self-inside.new.entries in
    let value : c.deref_mut.result.now ≡ old = c.deref_mut.ensures.value in
    let rows : rows_of new ≡ rows_of old = c.next_stamp-self-inside.ensures.rows ∙ ap rows_of value in
    let many = same_length (λ (e : Entry). row_of e.path) (λ (e : Entry). row_of e.path) new old rows in
    let all = whole c.self.inside.entries.len new old c.self.inside.entries.ok.0 many in
    let len : c.len.result ≡ length old = c.len.ensures ∙ c.self.inside.entries.ok.0 in
    rw all
    (IsTable-marked c.next_stamp-self-inside.result old new c.self.inside.mark c.self.inside.stamp c.len.result c.self.inside.index c.self.invariant
    rows c.next_stamp-self-inside.ensures.positive c.next_stamp-self-inside.ensures.fresh len)

pub returns : goal.returns
returns c =
    let old = c.self.inside.entries.items in
    let new = c.next_stamp-self-inside.new.entries in
    let value : c.deref_mut.result.now ≡ old = c.deref_mut.ensures.value in
    let rows : rows_of new ≡ rows_of old = c.next_stamp-self-inside.ensures.rows ∙ ap rows_of value in
    let many = same_length (λ (e : Entry). row_of e.path) (λ (e : Entry). row_of e.path) new old rows in
    let all = whole c.self.inside.entries.len new old c.self.inside.entries.ok.0 many in
    let len : c.len.result ≡ length old = c.len.ensures ∙ c.self.inside.entries.ok.0 in
    rw (← c.self.view_is)
    (ap (table_of c.next_stamp-self-inside.result (Some c.len.result)) all
    ∙ table-marked c.next_stamp-self-inside.result c.len.result old new rows c.next_stamp-self-inside.ensures.positive c.next_stamp-self-inside.ensures.fresh len)

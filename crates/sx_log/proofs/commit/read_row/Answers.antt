use Rattle.std.proofs.Common.{◌∙◌, ◌+◌, ◌*◌, List, ℕ, ap, arith, length, take}
use Rattle.std.proofs.lemmas.List.{length-take}
use Rattle.sx_log.proofs.Rows.{row_read, table_long}
use Rattle.sx_log.proofs.commit.read_row.Goals as goal

pub slice_bounds-read_table-end : goal.slice_bounds-read_table-end
slice_bounds-read_table-end c =
    let long = table_long c.new-fields.result c.read.new.fields c.in-Some.root c.requires.0 c.in-Some.ensures.again c.requires.1 (c.new-fields.ensures ∙ c.requires.2) in
    omega (arith, long, ap length c.rest.ensures, length-take (36 * c.in-Some.root.frames + 32) c.rest.result.now)

pub read_table-requires : goal.read_table-requires
read_table-requires c =
    let long = table_long c.new-fields.result c.read.new.fields c.in-Some.root c.requires.0 c.in-Some.ensures.again c.requires.1 (c.new-fields.ensures ∙ c.requires.2) in
    omega (arith, long, ap length c.rest.ensures, length-take (36 * c.in-Some.root.frames + 32) c.rest.result.now)

pub returns : goal.returns
returns c = λ group is are.
    let size : ℕ = 36 * c.in-Some.root.frames + 32 in
    row_read c.new-fields.result c.read.new.fields c.in-Some.root group c.in-Some.ensures.again is (c.new-fields.ensures ∙ are) c.args.place c.in_ok-table.table (take size c.rest.result.now) c.in_ok-table.ensures.written.0
    (ap (λ (b : List ℕ). take size b) c.rest.ensures) c.in_ok-table.ensures.written.1 c.in_ok-table.ensures.rows c.in_ok-table.ensures.count

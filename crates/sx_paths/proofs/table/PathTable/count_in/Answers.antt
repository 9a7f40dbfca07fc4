use Rattle.std.proofs.Common.{◌+◌, ◌-◌, ◌<◌, sym, subst, rules}
use Rattle.std.specs.Prelude.{IsSomeAnd}
use Rattle.sx_paths.specs.Table.{Table, row_at}
use Rattle.sx_paths.proofs.EntryLemmas.{IsTable-recount, table-recount, there}
use Rattle.sx_paths.proofs.table.PathTable.count_in.Goals as goal

pub overflow_add-count : goal.overflow_add-count
overflow_add-count c =
    let given = there c.self.inside.entries.items c.args.p (λ row. row.count + c.args.n < 4_294_967_296) (subst (λ (t : Table). IsSomeAnd (row_at t.paths c.args.p) (λ row. row.count + c.args.n < 4_294_967_296)) (sym c.self.view_is) c.requires) in
    search (rules, (given.1 c.index_mut-entry.result.now c.index_mut-entry.ensures.value).1)

pub invariant_of-self : goal.invariant_of-self
invariant_of-self c =
    let given = there c.self.inside.entries.items c.args.p (λ row. row.count + c.args.n < 4_294_967_296) (subst (λ (t : Table). IsSomeAnd (row_at t.paths c.args.p) (λ row. row.count + c.args.n < 4_294_967_296)) (sym c.self.view_is) c.requires) in
    let at = given.1 c.index_mut-entry.result.now c.index_mut-entry.ensures.value in
    IsTable-recount c.self.inside.stamp c.self.inside.mark c.self.inside.entries.items c.self.inside.index (c.args.p - 1) c.index_mut-entry.result.now c.set_count.new.self
    (λ count. count + c.args.n) c.self.invariant at.0 c.set_count.ensures.row c.set_count.ensures.stamp

pub returns : goal.returns
returns c =
    let given = there c.self.inside.entries.items c.args.p (λ row. row.count + c.args.n < 4_294_967_296) (subst (λ (t : Table). IsSomeAnd (row_at t.paths c.args.p) (λ row. row.count + c.args.n < 4_294_967_296)) (sym c.self.view_is) c.requires) in
    let at = given.1 c.index_mut-entry.result.now c.index_mut-entry.ensures.value in
    rw (← c.self.view_is)
    (table-recount c.self.inside.stamp c.self.inside.mark c.self.inside.entries.items (c.args.p - 1) c.index_mut-entry.result.now c.set_count.new.self
    (λ count. count + c.args.n) at.0 c.set_count.ensures.row c.set_count.ensures.before)

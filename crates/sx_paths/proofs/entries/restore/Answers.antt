use Rattle.std.proofs.Common.{◌≡◌, ◌+◌, ◌<◌, ℕ, suc, Some, length, arith, rules, sym, ap, get_or, ◌∙◌}
use Rattle.std.specs.Prelude.{slice_get}
use Rattle.std.proofs.lemmas.Option.{slice_get-get_or}
use Rattle.sx_paths.specs.declared.entry.Entry.{Entry}
use Rattle.sx_paths.specs.Table.{row_of}
use Rattle.sx_paths.specs.Entries.{row_before}
use Rattle.sx_paths.proofs.EntryLemmas.{mixed, mixed-set, mixed-all, map-set}
use Rattle.sx_paths.proofs.entries.restore.Goals as goal

pub loop-entry-preserved : goal.loop-entry-preserved
loop-entry-preserved c =
    let es = c.loop-entry.entries in
    let k = c.loop-entry.entry-index in
    let more : k + 1 ≡ suc k = omega arith in
    let old = get_or es k c.entry-item.result in
    let within : k < length es = search rules in
    let at : slice_get es k ≡ Some old = slice_get-get_or es k c.entry-item.result within in
    record {
      rows = rw more (mixed-set (λ (e : Entry). row_of e.path) (row_before c.args.stamp) es k old c.restore.new.self at c.restore.ensures.row) ∙ c.loop-entry.invariant.rows;
      stamps = map-set (λ (e : Entry). e.stamp) es k old c.restore.new.self at c.restore.ensures.stamp ∙ c.loop-entry.invariant.stamps;
    }

pub returns-clause-rows : goal.returns-clause-rows
returns-clause-rows c =
    let es = c.loop-entry.entries in
    let end : c.loop-entry.entry-index ≡ length es = search rules in
    sym (mixed-all (λ (e : Entry). row_of e.path) (row_before c.args.stamp) es) ∙ ap (λ (n : ℕ). mixed (λ (e : Entry). row_of e.path) (row_before c.args.stamp) n es) (sym end) ∙ c.loop-entry.invariant.rows

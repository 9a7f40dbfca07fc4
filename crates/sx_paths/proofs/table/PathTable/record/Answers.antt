use Rattle.std.proofs.Common.{◌≡◌, ◌<◌, suc, Some, ap, sym, length, refl, get_or, ◌∙◌, rules}
use Rattle.std.specs.Prelude.{slice_get}
use Rattle.std.specs.Option.{option_map}
use Rattle.std.proofs.lemmas.Option.{slice_get-map, slice_get_read}
use Rattle.sx_paths.specs.Table.{row_of}
use Rattle.sx_paths.specs.declared.entry.Entry.{Entry}
use Rattle.sx_paths.proofs.table.PathTable.record.Goals as goal

pub returns : goal.returns
returns c =
    let es = c.self.inside.entries.items in
    let number : c.args.p ≡ suc c.in_ok-place.place = search rules in
    let within : c.in_ok-place.place < length es = search rules in
    let is : c.in_ok-entry.entry.now ≡ get_or es c.in_ok-place.place c.in_ok-entry.entry.now = search rules in
    let at : slice_get es c.in_ok-place.place ≡ Some c.in_ok-entry.entry.now = slice_get_read es (length es) c.in_ok-place.place c.in_ok-entry.entry.now refl within is in
    rw (← c.self.view_is, number) (sym (slice_get-map (λ (e : Entry). row_of e.path) es c.in_ok-place.place ∙ ap (option_map (λ (e : Entry). row_of e.path)) at))

use Rattle.std.proofs.Common.{◌≡◌, ◌+◌, ◌<◌, ◌++◌, ◌∷◌, [], ℕ, ap, sym, subst, length, rules, ◌∙◌}
use Rattle.sx_paths.specs.Table.{Table}
use Rattle.sx_paths.specs.Entries.{noted_at}
use Rattle.sx_paths.specs.Words.{number_by}
use Rattle.sx_paths.proofs.EntryLemmas.{IsTable-push, length-rows}
use Rattle.sx_paths.proofs.table.PathTable.add.Goals as goal

pub invariant_of-self-2 : goal.invariant_of-self-2
invariant_of-self-2 c =
    let es = c.self.inside.entries.items in
    let items : c.push_reserved.new.self.items ≡ es ++ c.new.result ∷ [] = search rules in
    let len : c.len.result ≡ length es = search rules in
    let few : length es + 1 < 4_294_967_296 = rw (← length-rows es) (subst (λ (t : Table). length t.paths + 1 < 4_294_967_296) (sym c.self.view_is) c.requires) in
    rw items
    (IsTable-push c.self.inside.stamp c.self.inside.mark es c.self.inside.index c.note.new.index c.new.result c.args.path c.self.invariant c.note.ensures.index
    (λ p s. c.in_ok-note.ensures.ok p s ∙ ap (λ (n : ℕ). noted_at c.args.path (n + 1) (number_by c.self.inside.index) p s) len)
    c.new.ensures.row c.new.ensures.stamp few)

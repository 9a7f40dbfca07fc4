use Rattle.std.proofs.Common.{◌≡◌, ℕ, List, None, Some, cond, length, rules}
use Rattle.std.specs.BTreeMap.Entry.{map_with_value}
use Rattle.std.specs.Cmp.Lexicographic.{texts_ties}
use Rattle.std.specs.Str.{bytes_eq}
use Rattle.sx_tree.specs.Names.{place_in}
use Rattle.sx_tree.proofs.NameLists.{AreIndexed-push, absent_new}
use Rattle.sx_tree.proofs.names.enter.Goals as goal

pub returns-in-Vacant-clause-entered : goal.returns-in-Vacant-clause-entered
returns-in-Vacant-clause-entered c =
    let key : c.in_ok-key.key ≡ c.args.name.now = search rules in
    let after = map_with_value c.in_ok-entry.field-0 (length c.args.names.now) in
    let updates : (q : List ℕ) → place_in after q ≡ cond (bytes_eq c.args.name.now q) (Some (length c.args.names.now)) (place_in c.args.places.now q)
    = λ q. rw (texts_ties c.args.name.now q, ← key) ((c.in_ok-entry.ensures.update.0 (length c.args.names.now)).0 q) in
    let absent : place_in c.args.places.now c.args.name.now ≡ None = rw (← key) (rw c.in-Vacant.is at c.in_ok-entry.ensures.found) in
    let new = absent_new c.args.names.now c.args.places.now c.args.name.now c.requires absent in
    let entered = AreIndexed-push c.args.names.now c.args.places.now after c.args.name.now c.requires new updates in
    search (rules, entered)

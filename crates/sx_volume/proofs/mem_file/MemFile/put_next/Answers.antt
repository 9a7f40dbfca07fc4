use Rattle.std.proofs.Common.{◌≡◌, List, ◌∷◌, [], ◌++◌, ◌∙◌, ap, refl, sym, rules, append-nil, ◌-◌}
use Rattle.sx_volume.specs.Change.{Change, Put}
use Rattle.sx_volume.specs.Kept.{changes_of}
use Rattle.sx_volume.specs.Stored.{Stored, after_these}
use Rattle.sx_volume.proofs.Recorded.{recorded, replayed_push, whole_push}
use Rattle.sx_volume.proofs.mem_file.MemFile.put_next.Goals as goal

pub invariant_of-self : goal.invariant_of-self
invariant_of-self c = record {
  replayed = replayed_push _ _ _ _ _ _ [] _ _ c.self.invariant.whole c.self.invariant.replayed c.put.ensures.put c.push_reserved.ensures.items (sym (append-nil c.self.inside.appended.items));
  whole = whole_push _ _ _ _ _ [] c.self.invariant.whole refl c.push_reserved.ensures.items (sym (append-nil c.self.inside.appended.items));
  bytes = search rules;
  places = search rules;
  calls = search rules;
  appended = search rules;
}

pub returns : goal.returns
returns c =
    let changes : changes_of c.push_reserved.new.self.items c.self.inside.appended.items ≡ changes_of c.self.inside.calls.items c.self.inside.appended.items ++ Put c.args.at c.args.byte ∷ [] =
    recorded _ _ _ _ _ [] c.self.invariant.whole c.push_reserved.ensures.items (sym (append-nil c.self.inside.appended.items)) in
    let file : List Change → Stored = λ these. record { first = c.self.inside.first.items; changes = these; room = c.self.inside.room - 1; tally = c.self.inside.tally } in
    ap file changes ∙ ap (λ (f : Stored). after_these f (Put c.args.at c.args.byte ∷ []) 1) c.self.view_is

use Rattle.std.proofs.Common.{◌≡◌, List, ◌∷◌, [], ◌++◌, ◌∙◌, ap, refl, sym, rules, ◌-◌, ◌+◌, length}
use Rattle.sx_volume.specs.Change.{Appended, Change, after_change}
use Rattle.sx_volume.specs.Content.{pending_in}
use Rattle.sx_volume.specs.Kept.{changes_of}
use Rattle.sx_volume.specs.Stored.{Stored, after_these}
use Rattle.sx_volume.proofs.Recorded.{recorded, replayed_push, whole_piece, whole_push}
use Rattle.sx_volume.proofs.mem_file.MemFile.append_next.Goals as goal

pub invariant_of-self : goal.invariant_of-self
invariant_of-self c =
    let appended = c.append.ensures.appended ∙ ap (λ (change : Change). after_change (pending_in c.self.inside.content) change) (sym (whole_piece c.args.piece.now)) in
    record {
      replayed = replayed_push _ _ _ _ _ _ _ _ _ c.self.invariant.whole c.self.invariant.replayed appended c.push_reserved.ensures.items c.in-Ok.ensures.items;
      whole = whole_push _ _ _ _ _ c.args.piece.now c.self.invariant.whole refl c.push_reserved.ensures.items c.in-Ok.ensures.items;
      bytes = search rules;
      places = search rules;
      calls = search rules;
      appended = search rules;
    }

pub returns-clause-done : goal.returns-clause-done
returns-clause-done c =
    let changes : changes_of c.push_reserved.new.self.items c.extend_from_slice.new.self.items ≡ changes_of c.self.inside.calls.items c.self.inside.appended.items ++ Appended c.args.piece.now ∷ [] =
    recorded _ _ _ _ _ c.args.piece.now c.self.invariant.whole c.push_reserved.ensures.items c.in-Ok.ensures.items ∙ ap (λ (change : Change). changes_of c.self.inside.calls.items c.self.inside.appended.items ++ change ∷ []) (whole_piece c.args.piece.now) in
    let file : List Change → Stored = λ these. record { first = c.self.inside.first.items; changes = these; room = c.self.inside.room - (length c.args.piece.now + 1); tally = c.self.inside.tally } in
    ap file changes ∙ ap (λ (f : Stored). after_these f (Appended c.args.piece.now ∷ []) (length c.args.piece.now + 1)) c.self.view_is

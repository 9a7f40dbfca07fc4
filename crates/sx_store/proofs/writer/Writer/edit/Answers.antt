use Rattle.std.proofs.Common.{◌∙◌, ap, refl, sym, subst, Some, Err}
use Rattle.std.specs.Prelude.{min}
use Rattle.sx_model.specs.Edit.{edit_of, number_limit}
use Rattle.sx_run.specs.Run.{current}
use Rattle.sx_store.specs.Shows.{Shows, records_of}
use Rattle.sx_store.specs.Sound.{SameDraft}
use Rattle.sx_store.specs.declared.ledger.Ledger.{Ledger}
use Rattle.sx_store.proofs.Editing.{current-reached, damage-told, edit-damage, edits-done, edits-nothing, edits-refused, fault-told, same-draft, shows-with, wider}
use Rattle.sx_store.proofs.Grouping.{if_err, same-open, same-untouched}
use Rattle.sx_store.proofs.Keeping.{grows-same, sound-same}
use Rattle.sx_store.proofs.writer.Writer.edit.Goals as goal

pub returns-in_err-draft-clause-edited : goal.returns-in_err-draft-clause-edited
returns-in_err-draft-clause-edited g c now book shows going =
    edits-nothing g.V.Spot.Spot book (edit_of c.args.edit.now) c.from_residual.result c.in_err-draft.field-0.0 c.take_draft.new.self c.from_residual.ensures.1
    (λ damage is. c.in_err-draft.ensures.undamaged now book shows damage (ap Err is))
    (subst (λ ledger. Shows g.V.Spot.Spot ledger book) (sym c.in_err-draft.ensures.refused) shows)

pub returns-in_err-draft-clause-damaged : goal.returns-in_err-draft-clause-damaged
returns-in_err-draft-clause-damaged g c damage is =
    wider g.V.Spot.Spot (g.V.End.ReadEnd.tells c.args.end.now) (edit_of c.args.edit.now) c.args.self.now.ledger.draft c.args.self.now.ledger damage
    (c.in_err-draft.ensures.damaged damage (ap Err (fault-told c.from_residual.result c.in_err-draft.field-0.0 damage c.from_residual.ensures.1 is)))

pub returns-in_err-edited-clause-edited : goal.returns-in_err-edited-clause-edited
returns-in_err-edited-clause-edited g c now book shows going =
    let is = c.in_ok-draft.ensures.shown now book shows in
    let within = (current-reached g.V.Spot.Spot c.args.self.now.ledger book shows).sound.next in
    let answers = c.in_err-edited.ensures.answers (current book) within (record { records = is.records; table = is.table }) in
    let same = c.take_draft.ensures.same in
    let new : Ledger g.row.V-Spot.Denot = record { log = c.take_draft.new.self.log; cells = c.take_draft.new.self.cells; draft = Some c.apply-edited.new.self; stopped = c.take_draft.new.self.stopped } in
    edits-refused g.V.Spot.Spot book (edit_of c.args.edit.now) c.apply-edited.new.self c.from_residual-in_err-edited.result c.in_err-edited.field-0.0 new c.from_residual-in_err-edited.ensures.1 answers
    (shows-with g.V.Spot.Spot c.args.self.now.ledger new book book.edits (record { log = same.log; cells = same.cells; stage = same.stage }) shows shows.accepted
    (same-draft book c.in_ok-draft.draft c.apply-edited.new.self c.in_err-edited.ensures.refused is))

pub returns-in_err-edited-clause-damaged : goal.returns-in_err-edited-clause-damaged
returns-in_err-edited-clause-damaged g c damage is =
    edit-damage g.V.Spot.Spot (g.V.End.ReadEnd.tells c.args.end.now) (edit_of c.args.edit.now) c.args.self.now.ledger c.args.self.now.ledger.draft c.in_ok-draft.draft damage c.in_ok-draft.ensures.made c.in_ok-draft.ensures.next
    (damage-told (edit_of c.args.edit.now) c.in_ok-draft.draft.next (records_of c.in_ok-draft.draft) c.in_ok-draft.draft.paths.paths _ c.from_residual-in_err-edited.result c.in_err-edited.field-0.0 damage c.from_residual-in_err-edited.ensures.1 c.in_err-edited.ensures.fault is)

pub returns-clause-edited : goal.returns-clause-edited
returns-clause-edited g c now book shows going =
    let is = c.in_ok-draft.ensures.shown now book shows in
    let within = (current-reached g.V.Spot.Spot c.args.self.now.ledger book shows).sound.next in
    let done = c.in_ok-edited.ensures.answers (current book) within (record { records = is.records; table = is.table }) in
    let same = c.take_draft.ensures.same in
    let new : Ledger g.row.V-Spot.Denot = record { log = c.take_draft.new.self.log; cells = c.take_draft.new.self.cells; draft = Some c.apply-edited.new.self; stopped = c.take_draft.new.self.stopped } in (
      done.0,
      done.1,
      done.2,
      edits-done g.V.Spot.Spot c.args.self.now.ledger new book (edit_of c.args.edit.now) done.0 c.apply-edited.new.self c.in_ok-edited.field-0
          (record { log = same.log; cells = same.cells; stage = same.stage }) shows c.requires.within refl done.1 done.2 done.3 done.4 done.5,
    )

pub returns-in_err-draft-clause-refused : goal.returns-in_err-draft-clause-refused
returns-in_err-draft-clause-refused g c =
    if_err c.from_residual.result _ (same-untouched g.V.Spot.Spot (g.V.End.ReadEnd.tells c.args.end.now) c.args.self.now.ledger c.take_draft.new.self c.in_err-draft.ensures.refused)

pub returns-in_err-edited-clause-refused : goal.returns-in_err-edited-clause-refused
returns-in_err-edited-clause-refused g c =
    let same = c.in_err-edited.ensures.refused in
    let old = c.args.self.now.ledger in
    let tells = g.V.End.ReadEnd.tells c.args.end.now in
    let new : Ledger g.row.V-Spot.Denot = record { log = c.take_draft.new.self.log; cells = c.take_draft.new.self.cells; draft = Some c.apply-edited.new.self; stopped = c.take_draft.new.self.stopped } in
    let left : SameDraft g.V.Spot.Spot tells old new = record {
      draft = same-open g.V.Spot.Spot tells old old.draft c.in_ok-draft.draft c.apply-edited.new.self c.in_ok-draft.ensures.made same;
      next = same.2 ∙ c.in_ok-draft.ensures.next;
    } in
    if_err c.from_residual-in_err-edited.result _ left

pub returns-in_err-edited-clause-sound : goal.returns-in_err-edited-clause-sound
returns-in_err-edited-clause-sound g c = λ sound.
    let same = c.take_draft.ensures.same in
    sound-same g.V.Spot.Spot c.args.self.now.ledger (record { log = c.take_draft.new.self.log; cells = c.take_draft.new.self.cells; draft = Some c.apply-edited.new.self; stopped = c.take_draft.new.self.stopped }) same.log same.cells g.V.Volume c.args.self.now.volume.now same.stage sound

pub returns-in_err-edited-clause-grows : goal.returns-in_err-edited-clause-grows
returns-in_err-edited-clause-grows g c =
    let same = c.take_draft.ensures.same in
    grows-same g.V.Spot.Spot c.args.self.now.ledger (record { log = c.take_draft.new.self.log; cells = c.take_draft.new.self.cells; draft = Some c.apply-edited.new.self; stopped = c.take_draft.new.self.stopped }) same.log same.cells

pub returns-clause-sound : goal.returns-clause-sound
returns-clause-sound g c = λ sound.
    let same = c.take_draft.ensures.same in
    sound-same g.V.Spot.Spot c.args.self.now.ledger (record { log = c.take_draft.new.self.log; cells = c.take_draft.new.self.cells; draft = Some c.apply-edited.new.self; stopped = c.take_draft.new.self.stopped }) same.log same.cells g.V.Volume c.args.self.now.volume.now same.stage sound

pub returns-clause-grows : goal.returns-clause-grows
returns-clause-grows g c =
    let same = c.take_draft.ensures.same in
    grows-same g.V.Spot.Spot c.args.self.now.ledger (record { log = c.take_draft.new.self.log; cells = c.take_draft.new.self.cells; draft = Some c.apply-edited.new.self; stopped = c.take_draft.new.self.stopped }) same.log same.cells

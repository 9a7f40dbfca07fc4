use Rattle.std.proofs.Common.{refl, subst}
use Rattle.std.specs.Prelude.{option_map}
use Rattle.sx_view.specs.Rows.{row_of}
use Rattle.sx_cursor.specs.Told.{Tells}
use Rattle.sx_view.proofs.Failing.{err-later}
use Rattle.sx_text.specs.Text.{IsBroken}
use Rattle.sx_text.proofs.Showing.{no_document-empty, read_sound}
use Rattle.sx_select.specs.Selected.{Selects}
use Rattle.sx_select.proofs.Documents.{begins, document_damaged, err_sound, from_start, selects_found, selects_nothing, visits_nothing, visits_once}
use Rattle.sx_select.proofs.selection.select.Goals as goal

pub returns-in_err-document-clause-sound : goal.returns-in_err-document-clause-sound
returns-in_err-document-clause-sound g c = read_sound _ _ _ _ _ _ c.from_residual.ensures.1 (g.met.N.Records.untold _) c.in_err-document.ensures.fault

pub returns-in_default-clause-selects : goal.returns-in_default-clause-selects
returns-in_default-clause-selects g c =
    selects_nothing _ _ _ c.new-nothing.ensures
    (subst (λ found. Tells (g.N.Records.told c.args.records.now) 0 (option_map row_of found)) c.in_default.is c.in_ok-document.ensures.found)

pub returns-in_default-clause-once : goal.returns-in_default-clause-once
returns-in_default-clause-once g c =
    visits_nothing _ _ _ (subst (λ found. Tells (g.N.Records.told c.args.records.now) 0 (option_map row_of found)) c.in_default.is c.in_ok-document.ensures.found)

pub returns-then-count-eq0-clause-sound : goal.returns-then-count-eq0-clause-sound
returns-then-count-eq0-clause-sound g c = λ _. no_document-empty _ _ c.if-count-eq0.true

pub returns-in_err-finish-clause-sound : goal.returns-in_err-finish-clause-sound
returns-in_err-finish-clause-sound g c =
    let there = subst (λ found. Tells (g.N.Records.told c.args.records.now) 0 (option_map row_of found)) c.in-Some.is c.in_ok-document.ensures.found in
    err_sound _ _ _ c.from_residual-in_err-finish.ensures.1
    (λ damage. document_damaged c.as_slice-steps.result.now _ (row_of c.in-Some.document) _ _ there
    (begins _ (row_of c.in-Some.document) _ _ c.new-outer.ensures.items refl c.in_ok-top.ensures.marks c.in_ok-level.ensures.marks c.in_ok-level.ensures.last) refl
    (from_start _ _ _ _ _ _ c.in_ok-document.ensures.same c.new-selected.ensures (c.in_err-finish.ensures.finds damage)))

pub returns-in_err-finish-clause-fault : goal.returns-in_err-finish-clause-fault
returns-in_err-finish-clause-fault g c =
    err-later _ (λ x. IsBroken x c.args.count) _ _ _ _ _ _ _ _ c.from_residual-in_err-finish.ensures.1 (g.met.N.Records.keeps_damages _ _ c.in_ok-document.ensures.keeps)
    c.in_ok-document.ensures.same c.in_ok-document.ensures.never_falls c.in_err-finish.ensures.fault

pub returns-clause-selects : goal.returns-clause-selects
returns-clause-selects g c =
    let there = subst (λ found. Tells (g.N.Records.told c.args.records.now) 0 (option_map row_of found)) c.in-Some.is c.in_ok-document.ensures.found in
    subst (λ steps. Selects (g.N.Records.told c.args.records.now) steps c.finish.new.out) c.as_slice-steps.ensures
    (selects_found c.as_slice-steps.result.now _ (row_of c.in-Some.document) _ _ _ there
    (begins _ (row_of c.in-Some.document) _ _ c.new-outer.ensures.items refl c.in_ok-top.ensures.marks c.in_ok-level.ensures.marks c.in_ok-level.ensures.last)
    (from_start _ _ _ _ _ _ c.in_ok-document.ensures.same c.new-selected.ensures c.in_ok-finish.ensures.finds))

pub returns-clause-once : goal.returns-clause-once
returns-clause-once g c =
    let there = subst (λ found. Tells (g.N.Records.told c.args.records.now) 0 (option_map row_of found)) c.in-Some.is c.in_ok-document.ensures.found in
    visits_once c.as_slice-steps.result.now _ (row_of c.in-Some.document) _ _ _ _ _ _ there
    (begins _ (row_of c.in-Some.document) _ _ c.new-outer.ensures.items refl c.in_ok-top.ensures.marks c.in_ok-level.ensures.marks c.in_ok-level.ensures.last)
    (from_start _ _ _ _ _ _ c.in_ok-document.ensures.same c.new-selected.ensures c.in_ok-finish.ensures.finds) c.in_ok-finish.ensures.gets c.in_ok-document.ensures.gets

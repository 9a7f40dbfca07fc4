use Rattle.std.proofs.Common.{refl, subst, sym, option_map, FitsSigned, w64}
use Rattle.std.proofs.lemmas.Int.{to_z-of_z}
use Rattle.sx_view.specs.Rows.{row_of}
use Rattle.sx_cursor.specs.Told.{Tells}
use Rattle.sx_valid.specs.Valid.{AreValid, IsBroken}
use Rattle.sx_view.proofs.Failing.{rest-later}
use Rattle.sx_valid.proofs.Searching.{absent_valid, all_found, all_sound, no_document-empty, read_sound}
use Rattle.sx_valid.proofs.objects.valid_at.Goals as goal

pub returns-in_err-document-clause-sound : goal.returns-in_err-document-clause-sound
returns-in_err-document-clause-sound g c = read_sound _ _ _ _ _ _ c.from_residual.ensures.1 (g.met.N.Records.untold _) c.in_err-document.ensures.fault

pub returns-in_default-clause-valid : goal.returns-in_default-clause-valid
returns-in_default-clause-valid g c =
    subst (AreValid (g.N.Records.told c.args.records.now) c.args.from.now c.args.to.now c.args.time) (sym c.new.ensures)
    (absent_valid _ _ _ _ (subst (λ found. Tells (g.N.Records.told c.args.records.now) 0 (option_map row_of found)) c.in_default.is c.in_ok-document.ensures.found))

pub returns-then-count-eq0-clause-sound : goal.returns-then-count-eq0-clause-sound
returns-then-count-eq0-clause-sound g c = λ _. no_document-empty _ _ c.if-count-eq0.true

pub returns-clause-valid : goal.returns-clause-valid
returns-clause-valid g c =
    let fits : FitsSigned w64 c.args.time = c.ranges.time in
    all_found _ _ _ _ c.args.time _ c.args.count _ c.in_ok-document.ensures.same (simp to_z-of_z) (c.new-2.ensures.items, c.new-3.ensures, refl, refl) c.search.ensures.goes

pub returns-clause-sound : goal.returns-clause-sound
returns-clause-sound g c = all_sound _ _ _ _ _ c.args.count _ c.in_ok-document.ensures.same (c.new-2.ensures.items, c.new-3.ensures, refl, refl) c.search.ensures.goes

pub returns-clause-fault : goal.returns-clause-fault
returns-clause-fault g c =
    rest-later _ (λ x. IsBroken x c.args.count) _ _ _ _ _ _ _ (g.met.N.Records.keeps_damages _ _ c.in_ok-document.ensures.keeps) c.in_ok-document.ensures.same c.in_ok-document.ensures.never_falls c.search.ensures.fault

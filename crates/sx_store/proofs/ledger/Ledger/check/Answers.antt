use Rattle.std.proofs.Common.{◌≡◌, ap, arith, length, subst, List, Some}
use Rattle.std.specs.Prelude.{slice_get}
use Rattle.sx_log.specs.Kept.{listed}
use Rattle.sx_reader.specs.Asked.{asked_in}
use Rattle.sx_reader.specs.declared.cell.Cell.{Cell}
use Rattle.sx_store.proofs.Sounding.{sound-check}
use Rattle.sx_store.proofs.Telling.{cell-told}
use Rattle.sx_store.proofs.Wholes.{numbers}
use Rattle.sx_store.proofs.ledger.Ledger.check.Goals as goal

pub check_frames-requires-clause-few : goal.check_frames-requires-clause-few
check_frames-requires-clause-few g c =
    let all = numbers g.S.Spot c.args.self.now c.requires.whole in
    let long = ap length c.deref.ensures.value in
    omega (arith, all.cells, all.frames, long)

pub returns-clause-undamaged : goal.returns-clause-undamaged
returns-clause-undamaged g c now book shows damage is =
    sound-check g.S.Spot (g.E.ReadEnd.tells c.args.end.now) _ (asked_in 0 (listed c.args.self.now.log.groups)) c.deref.result.now c.check_frames.result damage
    (λ k cell there. cell-told g.S.Spot c.args.self.now book c.requires.whole shows k cell (subst (λ (l : List (Cell _)). slice_get l k ≡ Some cell) c.deref.ensures.value there))
    now c.check_frames.ensures.fault is

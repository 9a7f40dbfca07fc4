use Rattle.std.proofs.Common.{◌∙◌, ap, Err, inr}
use Rattle.sx_layout.specs.Born.{Reading, Reads}
use Rattle.sx_run.specs.Run.{book_of}
use Rattle.sx_shell.proofs.StillChecks.{checks-groups, frame-damage, no-damage, written-groups}
use Rattle.sx_shell.proofs.StillEnds.{at_told, checked-ends, end-is, of_err, of_ok, written-checked, written-line, written-undamaged}
use Rattle.sx_shell.proofs.StillReadings.{checks-log, leaves-err, other-end}
use Rattle.sx_shell.specs.Still.{ChecksGroups, IsChecked, IsCheckedDamage, IsUndamaged, IsUnwritten, checked_line}
use Rattle.sx_shell.specs.declared.status.Status.TheVariants.{Damaged}
use Rattle.std.proofs.Common.{◌≡◌, List, ℕ, length}
use Rattle.sx_store.specs.Opening.{IsGiven}
use Rattle.sx_shell.proofs.still_check.check.Goals as goal

pub returns-in-Ok-clause-checked : goal.returns-in-Ok-clause-checked
returns-in-Ok-clause-checked g c = λ image birth commits told stands tells.
    let shows = (c.in-Ok.ensures.shows image birth commits told stands).0 in
    let ends = c.frames_line.ensures in (
      end-is IsChecked c.frames_line.result c.write_line.result c.write_line.ensures.done c.write_line.ensures.ended
          (λ line s is written. written-checked s written) (λ fault is. of_err IsChecked c.frames_line.result fault is ends.checked),
      end-is IsUndamaged c.frames_line.result c.write_line.result c.write_line.ensures.done c.write_line.ensures.ended
          (λ line s is written. written-undamaged s written) (λ fault is. of_err IsUndamaged c.frames_line.result fault is (ends.undamaged tells (book_of commits) shows)),
    )

pub returns-in-Ok-clause-written : goal.returns-in-Ok-clause-written
returns-in-Ok-clause-written g c = λ image before birth commits told stands tells written.
    let shows = (c.in-Ok.ensures.shows image birth commits told stands).0 in
    written-line g.K.Sink.written c.args.sink.now c.write_line.new.sink (checked_line (length commits) (length commits)) c.frames_line.result c.write_line.result before
    c.write_line.ensures.written c.write_line.ensures.ended c.write_line.ensures.unwritten (c.frames_line.ensures.line (book_of commits) shows) c.frames_line.ensures.unwritten written

pub returns-in-Ok-clause-exactly : goal.returns-in-Ok-clause-exactly
returns-in-Ok-clause-exactly g c = λ image reading told reads tells.
    let ledger = c.in-Ok.ledger in
    let cells = c.in-Ok.ensures.sound.whole.cells in
    let given = at_told (λ (bytes : List ℕ). (read : Reading) → Reads bytes read → IsGiven g.V.Spot.Spot read _) (g.V.Volume.bytes c.args.volume.now) image told c.in-Ok.ensures.exactly reading reads in
    checks-log g.V.Spot.Spot reading ledger c.write_line.result given (λ groups is_of.
    end-is (ChecksGroups groups) c.frames_line.result c.write_line.result c.write_line.ensures.done c.write_line.ensures.ended
    (λ line s is written. written-groups groups s written (λ damage. no-damage g.V.Spot.Spot ledger groups damage is_of cells (of_ok _ c.frames_line.result line is c.frames_line.ensures.kept tells)))
    (λ fault is. checks-groups groups fault (of_err IsChecked c.frames_line.result fault is c.frames_line.ensures.checked) (of_err IsUnwritten c.frames_line.result fault is c.frames_line.ensures.unwritten)
    (λ damage same. frame-damage g.V.Spot.Spot (g.V.End.ReadEnd.tells c.args.end.now) (Unit {0}) ledger groups damage tells is_of cells (c.frames_line.ensures.damaged damage (is ∙ ap Err same)))))

pub returns-in-Ok-clause-damaged : goal.returns-in-Ok-clause-damaged
returns-in-Ok-clause-damaged g c = λ damage is.
    inr (record {
      ledger = c.in-Ok.ledger;
      whole = c.in-Ok.ensures.sound.whole;
      read = c.in-Ok.ensures.reads;
      holds = end-is (λ s. s ≡ Damaged damage → IsCheckedDamage g.V.Spot.Spot (g.V.End.ReadEnd.tells c.args.end.now) damage c.in-Ok.ledger) c.frames_line.result c.write_line.result
          c.write_line.ensures.done c.write_line.ensures.ended (λ line s ok written same. absurd (written-undamaged s written damage same))
          (λ fault err same. c.frames_line.ensures.damaged damage (err ∙ ap Err same)) is;
    })

pub returns-in-Ok-clause-ends : goal.returns-in-Ok-clause-ends
returns-in-Ok-clause-ends g c =
    checked-ends c.write_line.result (end-is IsChecked c.frames_line.result c.write_line.result c.write_line.ensures.done c.write_line.ensures.ended
    (λ line s is written. written-checked s written) (λ fault is. of_err IsChecked c.frames_line.result fault is c.frames_line.ensures.checked))

pub returns-in-Err-clause-checked : goal.returns-in-Err-clause-checked
returns-in-Err-clause-checked g c = λ image birth commits told stands tells.
    let other = c.in-Err.ensures.undamaged image birth commits told stands in (
      other-end IsChecked c.in-Err.fault c.status_of.result c.status_of.ensures other tt tt,
      other-end IsUndamaged c.in-Err.fault c.status_of.result c.status_of.ensures other (λ damage same. absurd cc) (λ damage same. absurd cc),
    )

pub returns-in-Err-clause-kept : goal.returns-in-Err-clause-kept
returns-in-Err-clause-kept g c =
    leaves-err g.V.Volume c.args.volume.now c.open_one.new.volume c.in-Err.fault c.status_of.result c.status_of.ensures c.in-Err.ensures.nothing_done (λ failed. c.in-Err.ensures.cause (ap Err failed))
    c.in-Err.ensures.told c.in-Err.ensures.synced_or_not

use Rattle.std.proofs.Common.{◌≡◌, ◌∙◌, ◌≤◌, ap, subst, Err, inr, List, ℕ, length}
use Rattle.sx_layout.specs.Born.{Reading, Reads}
use Rattle.sx_run.specs.Run.{book_of}
use Rattle.sx_shell.proofs.StillEnds.{at_told, end-is, of_err, of_ok, shown-ends, written-line, written-shown, written-undamaged}
use Rattle.sx_shell.proofs.StillReadings.{count-commits, leaves-err, other-end, shows-log}
use Rattle.sx_shell.specs.Still.{IsShown, IsShownDamage, IsUndamaged, shown_line}
use Rattle.sx_shell.specs.declared.status.Status.TheVariants.{Damaged}
use Rattle.sx_store.specs.Opening.{IsGiven}
use Rattle.sx_store.specs.Shows.{count_of}
use Rattle.sx_shell.proofs.still_show.show.Goals as goal

pub returns-in-Ok-clause-shown : goal.returns-in-Ok-clause-shown
returns-in-Ok-clause-shown g c = λ image birth commits told stands tells.
    let shows = (c.in-Ok.ensures.shows image birth commits told stands).0 in
    let count = count-commits g.V.Spot.Spot c.in-Ok.ledger (book_of commits) shows in
    let ends = c.revision_line.ensures in (
      subst (λ (n : ℕ). IsShown n c.args.revision c.write_line.result) count
          (end-is (IsShown (count_of c.in-Ok.ledger) c.args.revision) c.revision_line.result c.write_line.result c.write_line.ensures.done c.write_line.ensures.ended
          (λ line s is written. written-shown (count_of c.in-Ok.ledger) c.args.revision s written (of_ok (λ v. c.args.revision ≤ count_of c.in-Ok.ledger) c.revision_line.result line is ends.there)) (λ fault is. of_err (IsShown (count_of c.in-Ok.ledger) c.args.revision) c.revision_line.result fault is ends.shown)),
      end-is IsUndamaged c.revision_line.result c.write_line.result c.write_line.ensures.done c.write_line.ensures.ended
          (λ line s is written. written-undamaged s written) (λ fault is. of_err IsUndamaged c.revision_line.result fault is (ends.undamaged tells (book_of commits) shows)),
    )

pub returns-in-Ok-clause-written : goal.returns-in-Ok-clause-written
returns-in-Ok-clause-written g c = λ image before birth commits told stands tells written.
    let shows = (c.in-Ok.ensures.shows image birth commits told stands).0 in
    written-line g.K.Sink.written c.args.sink.now c.write_line.new.sink (shown_line commits c.args.revision) c.revision_line.result c.write_line.result before
    c.write_line.ensures.written c.write_line.ensures.ended c.write_line.ensures.unwritten (c.revision_line.ensures.line tells (book_of commits) shows) c.revision_line.ensures.unwritten written

pub returns-in-Ok-clause-exactly : goal.returns-in-Ok-clause-exactly
returns-in-Ok-clause-exactly g c = λ image reading told reads.
    let given = at_told (λ (bytes : List ℕ). (read : Reading) → Reads bytes read → IsGiven g.V.Spot.Spot read _) (g.V.Volume.bytes c.args.volume.now) image told c.in-Ok.ensures.exactly reading reads in
    shows-log g.V.Spot.Spot reading c.args.revision c.in-Ok.ledger c.write_line.result given
    (end-is (IsShown (count_of c.in-Ok.ledger) c.args.revision) c.revision_line.result c.write_line.result c.write_line.ensures.done c.write_line.ensures.ended
    (λ line s is written. written-shown (count_of c.in-Ok.ledger) c.args.revision s written (of_ok (λ v. c.args.revision ≤ count_of c.in-Ok.ledger) c.revision_line.result line is c.revision_line.ensures.there))
    (λ fault is. of_err (IsShown (count_of c.in-Ok.ledger) c.args.revision) c.revision_line.result fault is c.revision_line.ensures.shown))

pub returns-in-Ok-clause-damaged : goal.returns-in-Ok-clause-damaged
returns-in-Ok-clause-damaged g c = λ damage is.
    inr (record {
      ledger = c.in-Ok.ledger;
      whole = c.in-Ok.ensures.sound.whole;
      read = c.in-Ok.ensures.reads;
      holds = end-is (λ s. s ≡ Damaged damage → IsShownDamage g.V.Spot.Spot (g.V.End.ReadEnd.tells c.args.end.now) c.args.revision damage c.in-Ok.ledger) c.revision_line.result c.write_line.result
          c.write_line.ensures.done c.write_line.ensures.ended (λ line s ok written same. absurd (written-undamaged s written damage same))
          (λ fault err same. c.revision_line.ensures.damaged damage (err ∙ ap Err same)) is;
    })

pub returns-in-Ok-clause-ends : goal.returns-in-Ok-clause-ends
returns-in-Ok-clause-ends g c =
    shown-ends (count_of c.in-Ok.ledger) c.args.revision c.write_line.result
    (end-is (IsShown (count_of c.in-Ok.ledger) c.args.revision) c.revision_line.result c.write_line.result c.write_line.ensures.done c.write_line.ensures.ended
    (λ line s is written. written-shown (count_of c.in-Ok.ledger) c.args.revision s written (of_ok (λ v. c.args.revision ≤ count_of c.in-Ok.ledger) c.revision_line.result line is c.revision_line.ensures.there))
    (λ fault is. of_err (IsShown (count_of c.in-Ok.ledger) c.args.revision) c.revision_line.result fault is c.revision_line.ensures.shown))

pub returns-in-Err-clause-shown : goal.returns-in-Err-clause-shown
returns-in-Err-clause-shown g c = λ image birth commits told stands tells.
    let other = c.in-Err.ensures.undamaged image birth commits told stands in (
      other-end (IsShown (length commits) c.args.revision) c.in-Err.fault c.status_of.result c.status_of.ensures other tt tt,
      other-end IsUndamaged c.in-Err.fault c.status_of.result c.status_of.ensures other (λ damage same. absurd cc) (λ damage same. absurd cc),
    )

pub returns-in-Err-clause-kept : goal.returns-in-Err-clause-kept
returns-in-Err-clause-kept g c =
    leaves-err g.V.Volume c.args.volume.now c.open_one.new.volume c.in-Err.fault c.status_of.result c.status_of.ensures c.in-Err.ensures.nothing_done (λ failed. c.in-Err.ensures.cause (ap Err failed))
    c.in-Err.ensures.told c.in-Err.ensures.synced_or_not

-- A line that is served.
use Rattle.std.proofs.Common.{◌≡◌, ◌∙◌, ℕ, ℤ, inr, List, [], Option, None, Some, IsSome, option_map, Ok, refl, ap, sym, subst, append-nil}
use Rattle.sx_run.specs.Item.{GoesOn, IsSingle}
use Rattle.sx_run.specs.Reply.{reply_bytes}
use Rattle.sx_run.specs.Run.{Course, Failure, Replies}
use Rattle.sx_run.specs.declared.line.Command.{Command}
use Rattle.sx_run.specs.declared.line.Command.TheVariants as commands
use Rattle.sx_run.specs.declared.line.Line.{Line}
use Rattle.sx_run.specs.declared.line.Line.TheVariants as lines
use Rattle.sx_run.specs.declared.reply.Said.{Said}
use Rattle.sx_shell.proofs.Desks.{going_on}
use Rattle.sx_shell.proofs.EndFaults.{ends_same, rises_still}
use Rattle.sx_shell.proofs.Still.{carries_still}
use Rattle.sx_shell.specs.Desk.{IsAnswered, IsEnd, IsEndOf, IsTaken, IsWritten}
use Rattle.sx_shell.specs.Done.{IsQuit, IsRun, IsServed, Leads, Place, place}
use Rattle.sx_shell.specs.Medium.{Medium, terms_of}
use Rattle.sx_shell.specs.Shows.{Shows}
use Rattle.sx_shell.specs.declared.status.Status.{Status}
use Rattle.sx_shell.specs.declared.status.Status.TheVariants.{Done, Usage, ReadFault, WriteFault, VolumeFault, Damaged, NotOurs, Unborn, Born, Missing, OutOfMemory}
use Rattle.sx_store.specs.Shows.{stage_of}
use Rattle.sx_store.specs.declared.ledger.Ledger.{Ledger}

pub end_of : (stage : Option ℕ) (status : Status) → IsEnd stage status → IsEndOf stage (Some status)
end_of stage Done end = end
end_of stage VolumeFault end = end
end_of stage ReadFault end = tt
end_of stage WriteFault end = tt
end_of stage OutOfMemory end = tt
end_of stage Usage end = end
end_of stage (Damaged damage) end = end
end_of stage (NotOurs first) end = end
end_of stage Unborn end = end
end_of stage Born end = end
end_of stage (Missing asked seen) end = end

pub written_ended : (stage : Option ℕ) (bytes : List ℕ) (old new : Option (List ℕ)) (result : Option Status) → IsWritten bytes old new result → IsEndOf stage result
written_ended stage bytes old new None written = tt
written_ended stage bytes old new (Some Done) written = absurd written
written_ended stage bytes old new (Some VolumeFault) written = absurd written
written_ended stage bytes old new (Some ReadFault) written = tt
written_ended stage bytes old new (Some WriteFault) written = tt
written_ended stage bytes old new (Some OutOfMemory) written = tt
written_ended stage bytes old new (Some Usage) written = absurd written
written_ended stage bytes old new (Some (Damaged damage)) written = absurd written
written_ended stage bytes old new (Some (NotOurs first)) written = absurd written
written_ended stage bytes old new (Some Unborn) written = absurd written
written_ended stage bytes old new (Some Born) written = absurd written
written_ended stage bytes old new (Some (Missing asked seen)) written = absurd written

-- the end of a run is no failure of its sink
pub end_not_written : (stage : Option ℕ) (status : Status) → IsEnd stage status → Some status ≡ Some WriteFault → ⊥
end_not_written stage Done end is = cc is
end_not_written stage VolumeFault end is = cc is
end_not_written stage ReadFault end is = end
end_not_written stage WriteFault end is = end
end_not_written stage OutOfMemory end is = end
end_not_written stage Usage end is = end
end_not_written stage (Damaged damage) end is = end
end_not_written stage (NotOurs first) end is = end
end_not_written stage Unborn end is = end
end_not_written stage Born end is = end
end_not_written stage (Missing asked seen) end is = end

pub some_in : (failure : Option Failure) → IsSome (option_map (λ (f : Failure). f.stage) failure) → IsSome failure
some_in None some = some
some_in (Some failure) some = refl

module _ {V S E : Type 0} (g : Medium V S E) where
  -- the bytes of the reply are written, or a front of them, or none
  served_by : (course : Course) (line : Line) (bytes : List ℕ) (old new : Place V S E) (result : Option Status) → IsWritten bytes old.written new.written result → IsRun g course line bytes old new → IsServed g course line old new result
  served_by course line bytes old new None written run = λ before told. (bytes, run, written before told)
  served_by course line bytes old new (Some WriteFault) written run = λ before told.
      let cut = written before told in (cut.0, cut.1, subst (λ (b : List ℕ). IsRun g course line b old new) cut.2 run, cut.3)
  served_by course line bytes old new (Some OutOfMemory) written run = (inr (bytes, run), written)
  served_by course line bytes old new (Some Done) written run = absurd written
  served_by course line bytes old new (Some VolumeFault) written run = absurd written
  served_by course line bytes old new (Some ReadFault) written run = absurd written
  served_by course line bytes old new (Some Usage) written run = absurd written
  served_by course line bytes old new (Some (Damaged damage)) written run = absurd written
  served_by course line bytes old new (Some (NotOurs first)) written run = absurd written
  served_by course line bytes old new (Some Unborn) written run = absurd written
  served_by course line bytes old new (Some Born) written run = absurd written
  served_by course line bytes old new (Some (Missing asked seen)) written run = absurd written

  -- a command that was answered
  pub answered_served : (course : Course) (old new : Place V S E) (line : Line) (client : ℕ) (command : Command) (reply : Said) (before written : Option (List ℕ)) (result : Option Status)
      → line ≡ lines.Command client command → GoesOn command
      → IsAnswered {X = ℕ} g (record {
        course = course;
        old = place old.volume old.ledger old.ends old.revisions None old.moments;
        new = place new.volume new.ledger new.ends new.revisions None new.moments;
      }) client command (Ok reply)
      → IsWritten (reply_bytes None reply) before written result
      → IsServed g course line (place old.volume old.ledger old.ends old.revisions before old.moments) (place new.volume new.ledger new.ends new.revisions written new.moments) result
  answered_served course old new line client command reply before written result is goes answered put =
      served_by course line (reply_bytes None reply) (place old.volume old.ledger old.ends old.revisions before old.moments) (place new.volume new.ledger new.ends new.revisions written new.moments) result put (record {
        next = answered.0;
        single = subst IsSingle (sym is) goes;
        replies = subst (λ (l : Line). Replies (terms_of g.birth) course l (reply_bytes None reply) answered.0) (sym is) (reply, answered.1, refl);
        leads = record { shows = answered.2.leads.shows; carries = answered.2.leads.carries; rises = answered.2.leads.rises };
        shows = answered.2.shows;
      })

  module _ (volume : V) (ledger : Ledger S) (ends : List E) (values : List ℕ) (moments : Option (List ℤ)) (course : Course) (shows : Shows g ledger ends values moments course) where
    stays : (before after : Option (List ℕ)) → Leads g (place volume ledger ends values before moments) (place volume ledger ends values after moments) course course
    stays before after = record { shows = shows.book; carries = carries_still g volume volume course.book course.book refl refl refl; rises = rises_still g.end ends ends course.clients (ends_same g.end ends) }

    run_still : (line : Line) (out : List ℕ) (before after : Option (List ℕ)) → IsSingle line → Replies (terms_of g.birth) course line out course
        → IsRun g course line out (place volume ledger ends values before moments) (place volume ledger ends values after moments)
    run_still line out before after single replies = record { next = course; single = single; replies = replies; leads = stays before after; shows = shows }

    pub skip_served : (line : Line) (written : Option (List ℕ)) → line ≡ lines.Skip
        → IsServed g course line (place volume ledger ends values written moments) (place volume ledger ends values written moments) None
    skip_served line written is = λ before told. (
      [],
      run_still line [] written written (subst IsSingle (sym is) tt) (subst (λ (l : Line). Replies (terms_of g.birth) course l [] course) (sym is) (refl, refl)),
      told ∙ ap (λ (b : List ℕ). Some b) (sym (append-nil before)),
    )

    -- a line that has one reply, whatever the course
    pub fixed_served : (line : Line) (reply : Said) (before after : Option (List ℕ)) (result : Option Status) → IsSingle line → Replies (terms_of g.birth) course line (reply_bytes None reply) course → IsWritten (reply_bytes None reply) before after result
        → IsServed g course line (place volume ledger ends values before moments) (place volume ledger ends values after moments) result
    fixed_served line reply before after result single replies written =
        served_by course line (reply_bytes None reply) (place volume ledger ends values before moments) (place volume ledger ends values after moments) result written
        (run_still line (reply_bytes None reply) before after single replies)

    pub quit_served : (line : Line) (client : ℕ) (written : Option (List ℕ)) (status : Status) → line ≡ lines.Command client commands.Quit → IsTaken line → IsEnd (stage_of ledger) status
        → IsServed g course line (place volume ledger ends values written moments) (place volume ledger ends values written moments) (Some status)
    quit_served line client written status is taken end = by status end
      where
        none : client ≡ 0
        none = subst IsTaken is taken refl

        quits : IsQuit g course line (place volume ledger ends values written moments) (place volume ledger ends values written moments)
        quits = record { quits = is ∙ ap (λ (c : ℕ). lines.Command c commands.Quit) none; leads = stays written written }

        by : (s : Status) → IsEnd (stage_of ledger) s → IsServed g course line (place volume ledger ends values written moments) (place volume ledger ends values written moments) (Some s)
        by Done going = (quits, going_on g.spot ledger course.book shows.book going, refl)
        by VolumeFault stopped = (quits, some_in course.book.stopped (subst IsSome shows.book.stopped stopped), refl)
        by ReadFault end = absurd end
        by WriteFault end = absurd end
        by OutOfMemory end = absurd end
        by Usage end = absurd end
        by (Damaged damage) end = absurd end
        by (NotOurs first) end = absurd end
        by Unborn end = absurd end
        by Born end = absurd end
        by (Missing asked seen) end = absurd end

-- a command other than `quit` goes on
pub goes_on : (command : Command) → (command ≡ commands.Quit → ⊥) → GoesOn command
goes_on (commands.Edit edit) other = tt
goes_on commands.Rollback other = tt
goes_on commands.Commit other = tt
goes_on (commands.Open which) other = tt
goes_on (commands.Ask query) other = tt
goes_on commands.Quit other = absurd (other refl)

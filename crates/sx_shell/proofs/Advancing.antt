-- How a run goes on and ends.
use Rattle.std.proofs.Common.{◌≡◌, ◌∙◌, ℕ, inl, inr, List, [], ◌∷◌, ◌++◌, Option, None, Some, IsSome, refl, ap, sym, subst, append_assoc, append-nil}
use Rattle.sx_run.proofs.Running.{AreItems-all, AreItems-quit, AreSingles-append, EndsInQuit-append, Run-append}
use Rattle.sx_run.specs.Item.{single, quit, AreSingles, AreItems}
use Rattle.sx_run.specs.Line.{Says}
use Rattle.sx_run.specs.Lines.{lines_of, ended_lines_of}
use Rattle.sx_run.specs.Run.{Book, Course, Run}
use Rattle.sx_run.specs.declared.line.Line.{Line}
use Rattle.sx_script.proofs.Following.{given_front}
use Rattle.sx_script.specs.Reading.{HasGiven}
use Rattle.sx_script.specs.Waiting.{Waiting}
use Rattle.sx_shell.proofs.Desks.{going_on}
use Rattle.sx_shell.proofs.EndFaults.{ends_same, rises_still}
use Rattle.sx_shell.proofs.Serving.{some_in}
use Rattle.sx_shell.proofs.Still.{carries_still, when_some}
use Rattle.sx_shell.specs.Crash.{HasClimbed}
use Rattle.sx_shell.specs.Desk.{IsRead, IsEnd}
use Rattle.sx_shell.specs.Done.{Carries, IsQuit, IsRun, IsServed, Leads, Place}
use Rattle.sx_shell.specs.Medium.{Medium, terms_of}
use Rattle.sx_shell.specs.Outcome.{Outcome, RanAll, RanFirst, Next}
use Rattle.sx_shell.specs.Progress.{Advanced, Ended, Progress, Start}
use Rattle.sx_shell.specs.declared.status.Status.{Status}
use Rattle.sx_shell.specs.declared.status.Status.TheVariants.{Done, Usage, ReadFault, WriteFault, VolumeFault, Damaged, NotOurs, Unborn, Born, Missing, OutOfMemory}
use Rattle.sx_store.specs.Shows as store
use Rattle.sx_store.specs.Shows.{stage_of}

-- ---- one step of a run

some_written : (before out more : List ℕ) (written : Option (List ℕ)) → written ≡ Some ((before ++ out) ++ more) → written ≡ Some (before ++ (out ++ more))
some_written before out more written is = is ∙ ap (λ (b : List ℕ). Some b) (append_assoc before out more)

module _ {V S E : Type 0} (g : Medium V S E) (start : Start E) (left : Option (List ℕ)) (waiting : Waiting) (old : Place V S E) (p : Progress g start left waiting old) where
  -- what had climbed goes on
  climbs_on : (new : Place V S E) (after : Book) → Carries g old.volume new.volume p.course.book after → HasClimbed g start.from start.course.book.commits new.volume after
  climbs_on new after carries = when_some (g.volume.bytes old.volume) p.told carries start.from start.course.book.commits p.climbed

  -- the lines so far come first
  abbrev pub first : (more : List (List ℕ)) → lines_of start.input ≡ p.given ++ more → RanFirst (terms_of g.birth) start.course start.input p.out p.course
  first more is = record { lines = p.given; more = more; lines_are = is; items = p.items; items_are = p.items_are; ran = p.ran }

  module _ (now : Option (List ℕ)) (rest : List ℕ) (next_waiting : Waiting) (new : Place V S E) (left_is : now ≡ Some rest) (told : IsSome (g.volume.bytes new.volume)) where
    -- no line was given
    pub more_advanced : HasGiven next_waiting start.input rest p.given → new ≡ old → Progress g start now next_waiting new
    more_advanced given same = subst (λ (place : Place V S E). Progress g start now next_waiting place) (sym same) (record {
      rest = rest;
      given = p.given;
      items = p.items;
      out = p.out;
      course = p.course;
      left_is = left_is;
      at = given;
      items_are = p.items_are;
      ran = p.ran;
      written_is = p.written_is;
      shows = p.shows;
      risen = p.risen;
      told = p.told;
      climbed = p.climbed;
    })

    -- memory ran out before a line said anything
    pub short_ended : Leads g old new p.course p.course → new.written ≡ old.written → (more : List (List ℕ)) → lines_of start.input ≡ p.given ++ more → Ended g start now new OutOfMemory
    short_ended leads written more is = record {
      rest = rest;
      out = p.out;
      end = p.course;
      left_is = left_is;
      written_is = written ∙ p.written_is;
      outcome = record { mid = p.course; first = first more is; last = inl refl };
      shows = leads.shows;
      risen = leads.rises start.ends p.risen;
      told = told;
      climbed = climbs_on new p.course.book leads.carries;
    }

    module _ (line : List ℕ) (given : HasGiven next_waiting start.input rest (p.given ++ line ∷ [])) where
      abbrev others : List (List ℕ)
      others = (given_front next_waiting start.input rest (p.given ++ line ∷ []) given).0

      lines_are : lines_of start.input ≡ p.given ++ line ∷ others
      lines_are = (given_front next_waiting start.input rest (p.given ++ line ∷ []) given).1 ∙ append_assoc p.given (line ∷ []) others

      came_next : (said : Line) (out : List ℕ) → Says line said → (run : IsRun g p.course said out old new) → Next (terms_of g.birth) p.course (line ∷ others) out run.next
      came_next said out says run = record { line = line; more = others; comes = refl; item = single said; item_is = (says, run.single); gives = run.replies }

      quit_all : (said : Line) → Says line said → (quits : IsQuit g p.course said old new) → RanAll (terms_of g.birth) start.course (record { input = start.input; left = rest; written = p.out }) p.course
      quit_all said says quits = record {
        items = p.items ++ quit ∷ [];
        items_are = subst (λ (ls : List (List ℕ)). AreItems ls (p.items ++ quit ∷ [])) (sym lines_are) (AreItems-quit p.given p.items line others p.items_are (subst (λ (s : Line). Says line s) quits.quits says));
        ran = subst (λ (b : List ℕ). Run (terms_of g.birth) start.course (p.items ++ quit ∷ []) b p.course) (append-nil p.out) (Run-append (terms_of g.birth) start.course p.course p.course p.items quit p.out [] p.ran (refl, refl));
        read = inr (EndsInQuit-append p.items);
      }

      quit_ended : (said : Line) (status : Status) → Says line said → (quits : IsQuit g p.course said old new) → new.written ≡ old.written
          → Outcome (terms_of g.birth) start.course (record { input = start.input; left = rest; written = p.out }) status p.course → Ended g start now new status
      quit_ended said status says quits written outcome = record {
        rest = rest;
        out = p.out;
        end = p.course;
        left_is = left_is;
        written_is = written ∙ p.written_is;
        outcome = outcome;
        shows = quits.leads.shows;
        risen = quits.leads.rises start.ends p.risen;
        told = told;
        climbed = climbs_on new p.course.book quits.leads.carries;
      }

      run_ended : (said : Line) (out more : List ℕ) (status : Status) → (run : IsRun g p.course said out old new) → new.written ≡ Some (start.before ++ more)
          → Outcome (terms_of g.birth) start.course (record { input = start.input; left = rest; written = more }) status run.next → Ended g start now new status
      run_ended said out more status run written outcome = record {
        rest = rest;
        out = more;
        end = run.next;
        left_is = left_is;
        written_is = written;
        outcome = outcome;
        shows = run.leads.shows;
        risen = run.leads.rises start.ends p.risen;
        told = told;
        climbed = climbs_on new run.next.book run.leads.carries;
      }

      served_advanced : (said : Line) (result : Option Status) → Says line said → IsServed g p.course said old new result → Advanced g start now next_waiting new result
      served_advanced said None says served =
          let done = served (start.before ++ p.out) p.written_is in
          let run = done.1 in
          record {
            rest = rest;
            given = p.given ++ line ∷ [];
            items = p.items ++ single said ∷ [];
            out = p.out ++ done.0;
            course = run.next;
            left_is = left_is;
            at = given;
            items_are = AreSingles-append p.given p.items line said p.items_are (says, run.single);
            ran = Run-append (terms_of g.birth) start.course p.course run.next p.items (single said) p.out done.0 p.ran run.replies;
            written_is = some_written start.before p.out done.0 new.written done.2;
            shows = run.shows;
            risen = run.leads.rises start.ends p.risen;
            told = told;
            climbed = climbs_on new run.next.book run.leads.carries;
          }
      served_advanced said (Some Done) says served = quit_ended said Done says served.0 served.2 (quit_all said says served.0, served.1)
      served_advanced said (Some VolumeFault) says served = quit_ended said VolumeFault says served.0 served.2 (inr (quit_all said says served.0, served.1))
      served_advanced said (Some WriteFault) says served =
          let cut = served (start.before ++ p.out) p.written_is in
          run_ended said (cut.0 ++ cut.1) (p.out ++ cut.0) WriteFault cut.2 (some_written start.before p.out cut.0 new.written cut.3) (record {
            mid = p.course;
            before = p.out;
            front = cut.0;
            rest = cut.1;
            first = first (line ∷ others) lines_are;
            next = came_next said (cut.0 ++ cut.1) says cut.2;
            written_is = refl;
          })
      served_advanced said (Some OutOfMemory) says (inl still, written) = short_ended still written (line ∷ others) lines_are
      served_advanced said (Some OutOfMemory) says (inr run, written) =
          run_ended said run.0 p.out OutOfMemory run.1 (written ∙ p.written_is) (record { mid = p.course; first = first (line ∷ others) lines_are; last = inr (run.0, came_next said run.0 says run.1) })
      served_advanced said (Some Usage) says served = absurd served
      served_advanced said (Some ReadFault) says served = absurd served
      served_advanced said (Some (Damaged damage)) says served = absurd served
      served_advanced said (Some (NotOurs first)) says served = absurd served
      served_advanced said (Some Unborn) says served = absurd served
      served_advanced said (Some Born) says served = absurd served
      served_advanced said (Some (Missing asked seen)) says served = absurd served

      pub line_advanced : (result : Option Status) → IsRead g p.course line old new result → Advanced g start now next_waiting new result
      line_advanced result (inl served) = served_advanced served.0 result served.1 served.2
      line_advanced result (inr none) = subst (λ (r : Option Status). Advanced g start now next_waiting new r) (sym none.0) (short_ended none.1 none.2 (line ∷ others) lines_are)

    -- nothing more was run
    pub still_ended : (status : Status) → Leads g old new p.course p.course → new.written ≡ old.written
        → Outcome (terms_of g.birth) start.course (record { input = start.input; left = rest; written = p.out }) status p.course → Ended g start now new status
    still_ended status leads written outcome = record {
      rest = rest;
      out = p.out;
      end = p.course;
      left_is = left_is;
      written_is = written ∙ p.written_is;
      outcome = outcome;
      shows = leads.shows;
      risen = leads.rises start.ends p.risen;
      told = told;
      climbed = climbs_on new p.course.book leads.carries;
    }

    all_ran : p.given ≡ lines_of start.input → rest ≡ [] → RanAll (terms_of g.birth) start.course (record { input = start.input; left = rest; written = p.out }) p.course
    all_ran all spent = record {
      items = p.items;
      items_are = subst (λ (ls : List (List ℕ)). AreItems ls p.items) all (AreItems-all p.given p.items p.items_are);
      ran = p.ran;
      read = inl spent;
    }

    -- all lines were given
    pub end_outcome : (status : Status) → p.given ≡ lines_of start.input → rest ≡ [] → IsEnd (stage_of old.ledger) status
        → Outcome (terms_of g.birth) start.course (record { input = start.input; left = rest; written = p.out }) status p.course
    end_outcome Done all spent end = (all_ran all spent, going_on g.spot old.ledger p.course.book p.shows.book end)
    end_outcome VolumeFault all spent end = inr (all_ran all spent, some_in p.course.book.stopped (subst IsSome p.shows.book.stopped end))
    end_outcome ReadFault all spent end = absurd end
    end_outcome WriteFault all spent end = absurd end
    end_outcome OutOfMemory all spent end = absurd end
    end_outcome Usage all spent end = absurd end
    end_outcome (Damaged damage) all spent end = absurd end
    end_outcome (NotOurs first) all spent end = absurd end
    end_outcome Unborn all spent end = absurd end
    end_outcome Born all spent end = absurd end
    end_outcome (Missing asked seen) all spent end = absurd end

    -- the source failed
    pub failed_outcome : (taken : List ℕ) → start.input ≡ taken ++ rest → p.given ≡ ended_lines_of taken → Outcome (terms_of g.birth) start.course (record { input = start.input; left = rest; written = p.out }) ReadFault p.course
    failed_outcome taken parts given = record {
      taken = taken;
      input_is = parts;
      items = p.items;
      items_are = subst (λ (ls : List (List ℕ)). AreSingles ls p.items) given p.items_are;
      ran = p.ran;
    }

-- the desk is as it was
pub leads_still : {V S E : Type 0} (g : Medium V S E) (old new : Place V S E) (course : Course) → new ≡ old → store.Shows g.spot old.ledger course.book → Leads g old new course course
leads_still {V} {S} {E} g old new course same shows = subst (λ (at : Place V S E). Leads g old at course course) (sym same) (record {
  shows = shows;
  carries = carries_still g old.volume old.volume course.book course.book refl refl refl;
  rises = rises_still g.end old.ends old.ends course.clients (ends_same g.end old.ends);
})

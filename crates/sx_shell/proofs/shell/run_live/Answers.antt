use Rattle.std.specs.Prelude.{vec_len}
use Rattle.std.proofs.Common.{◌≡◌, ◌∙◌, ◌⊎◌, ℕ, List, [], Err, is_some, inl, inr, refl, ap, sym, subst, rules}
use Rattle.sx_layout.specs.Born as born
use Rattle.sx_layout.specs.Born.{Reading}
use Rattle.sx_log.specs.declared.fault.LogFault.{LogFault}
use Rattle.sx_log.specs.declared.fault.LogFault.TheVariants as faults
use Rattle.sx_outside.specs.Faults.{Rose}
use Rattle.sx_run.specs.Run.{started}
use Rattle.sx_shell.proofs.EndFaults.{ends_same}
use Rattle.sx_shell.proofs.Living.{all_kept, at_told, begins, ended_run, has_still, kept_run, nothing_more, ready_first, refused_run, run_around}
use Rattle.sx_shell.proofs.Refusing.{complete_unopened, damaged_of, ends_as, unopened_kept, unopened_run, same_at, unread, unread_never}
use Rattle.sx_shell.specs.Live.{EndsAs, HasRun, IsKept}
use Rattle.sx_shell.specs.Medium.{AllTell, medium}
use Rattle.sx_shell.specs.Outcome.{Told}
use Rattle.sx_shell.specs.Progress.{Start}
use Rattle.sx_shell.specs.declared.status.Status.{Status}
use Rattle.sx_shell.specs.declared.status.Status.TheVariants as status
use Rattle.sx_shell.proofs.shell.run_live.Goals as goal

-- ---- the words are no command

pub returns-then-is_none-clause-run : goal.returns-then-is_none-clause-run
returns-then-is_none-clause-run g c = λ image input before birth commits told stands tell left written. (
  input,
  [],
  left,
  nothing_more before (g.K.Sink.written c.args.sink.now) written,
  refused_run (medium birth g.V.Volume g.V.Spot.Spot g.V.End.ReadEnd) c.args.volume.now c.args.volume.now image (g.met.V.Volume.counts_now c.args.volume.now) c.args.ends.now.items commits (g.C.Clock.moments c.args.clock.now) input status.Usage
      (sym c.args.ends.now.ok.0 ∙ c.requires) stands tt (refl, refl, refl) (λ fine. told) (inr (record { no_sync = λ t had. had; up_to = g.met.V.Volume.only_now c.args.volume.now })),
)

pub returns-then-is_none-clause-end_faults : goal.returns-then-is_none-clause-end_faults
returns-then-is_none-clause-end_faults g c = ends_same g.V.End.ReadEnd c.args.ends.now.items

-- ---- the volume was not opened

pub returns-in-Err-clause-run : goal.returns-in-Err-clause-run
returns-in-Err-clause-run g c = λ image input before birth commits told stands tell left written. (
  input,
  [],
  left,
  nothing_more before (g.K.Sink.written c.args.sink.now) written,
  subst (λ (s : Status). HasRun (medium birth g.V.Volume g.V.Spot.Spot g.V.End.ReadEnd) (record { old = c.args.volume.now; new = c.open_one.new.volume; ends = c.args.ends.now.items; ends_after = c.args.ends.now.items })
      (started commits (g.C.Clock.moments c.args.clock.now)) (record { input = input; left = input; written = [] }) s) (sym c.status_of.ensures)
      (unopened_run (medium birth g.V.Volume g.V.Spot.Spot g.V.End.ReadEnd) c.args.volume.now c.open_one.new.volume image (g.met.V.Volume.counts_now c.open_one.new.volume) c.args.ends.now.items commits (g.C.Clock.moments c.args.clock.now) input c.in-Err.fault
      (sym c.args.ends.now.ok.0 ∙ c.requires) stands (c.in-Err.ensures.undamaged image birth commits told stands) (λ fine. c.in-Err.ensures.nothing_done fine ∙ told)
      (at_told _ (g.V.Volume.bytes c.args.volume.now) image told c.in-Err.ensures.synced_or_not)),
)

pub returns-in-Err-clause-complete : goal.returns-in-Err-clause-complete
returns-in-Err-clause-complete g c = λ live image birth commits told stands source sink volume.
    subst (λ (s : Status). (s ≡ status.Done) ⊎ (s ≡ status.OutOfMemory)) (sym c.status_of.ensures)
    (complete_unopened c.in-Err.fault (c.in-Err.ensures.undamaged image birth commits told stands) (λ failed. volume (c.in-Err.ensures.cause (ap (λ (f : LogFault). Err f) failed))))

pub returns-in-Err-clause-kept : goal.returns-in-Err-clause-kept
returns-in-Err-clause-kept g c = λ live image told whole.
    subst (λ (s : Status). IsKept g.V.Volume c.args.volume.now c.open_one.new.volume image s) (sym c.status_of.ensures)
    (unopened_kept g.V.Volume c.args.volume.now c.open_one.new.volume image (g.met.V.Volume.counts_now c.open_one.new.volume) c.in-Err.fault whole
    (at_told _ (g.V.Volume.bytes c.args.volume.now) image told c.in-Err.ensures.exactly (born.Log whole.0 whole.1) whole.2) c.in-Err.ensures.nothing_done
    (at_told _ (g.V.Volume.bytes c.args.volume.now) image told c.in-Err.ensures.synced_or_not))

pub returns-in-Err-clause-not_ours_exactly : goal.returns-in-Err-clause-not_ours_exactly
returns-in-Err-clause-not_ours_exactly g c = λ live image first told other.
    subst (λ (s : Status). EndsAs (status.NotOurs first) s) (sym c.status_of.ensures) (ends_as (faults.NotOurs first) c.in-Err.fault (at_told _ (g.V.Volume.bytes c.args.volume.now) image told c.in-Err.ensures.exactly (born.NotOurs first) other))

pub returns-in-Err-clause-damaged : goal.returns-in-Err-clause-damaged
returns-in-Err-clause-damaged g c = λ damage is. damaged_of (g.V.Volume.bytes c.args.volume.now) damage c.in-Err.fault c.in-Err.ensures.explains (sym c.status_of.ensures ∙ is)

pub returns-in-Err-clause-damaged_exactly : goal.returns-in-Err-clause-damaged_exactly
returns-in-Err-clause-damaged_exactly g c = λ live image damage told damaged.
    subst (λ (s : Status). EndsAs (status.Damaged damage) s) (sym c.status_of.ensures) (ends_as (faults.Damaged damage) c.in-Err.fault (at_told _ (g.V.Volume.bytes c.args.volume.now) image told c.in-Err.ensures.exactly (born.Damaged damage) damaged))

pub returns-in-Err-clause-end_faults : goal.returns-in-Err-clause-end_faults
returns-in-Err-clause-end_faults g c = ends_same g.V.End.ReadEnd c.args.ends.now.items

-- ---- the script was run

pub drive-status-requires-clause-ready : goal.drive-status-requires-clause-ready
drive-status-requires-clause-ready g c =
    ready_first g.V.Volume g.V.Spot.Spot c.open_one.new.volume c.in-Ok.ledger c.deref_mut.result.now c.in-Ok.ensures.sound (c.deref_mut.ensures.len ∙ c.requires)

pub returns-clause-run : goal.returns-clause-run
returns-clause-run g c = λ image input before birth commits told stands tell left written.
    let moments = g.C.Clock.moments c.args.clock.now in
    let mid = c.open_one.new.volume in
    let synced = at_told _ (g.V.Volume.bytes c.args.volume.now) image told c.in-Ok.ensures.synced in
    let shown = c.in-Ok.ensures.shows image birth commits told stands in
    let start : Start _ = record { course = started commits moments; ends = c.deref_mut.result.now; input = input; before = before; from = g.V.Volume.moment mid } in
    let ended =
    c.drive-status.ensures.ran birth start
    (begins (medium birth g.V.Volume g.V.Spot.Spot g.V.End.ReadEnd) mid c.in-Ok.ledger c.deref_mut.result.now commits moments input before (g.S.Source.left c.args.source.now) (g.K.Sink.written c.args.sink.now) left written
    (c.in-Ok.ensures.told (ap is_some told)) c.in-Ok.ensures.sound shown.0 shown.1 c.in-Ok.ensures.writes (subst (λ (ends : List _). AllTell g.V.End.ReadEnd ends) (sym c.deref_mut.ensures.value) tell) (c.deref_mut.ensures.len ∙ c.requires) (g.met.V.Volume.only_now mid)) in
    let said : Told = record { input = input; left = ended.rest; written = ended.out } in
    let has_run : HasRun (medium birth g.V.Volume g.V.Spot.Spot g.V.End.ReadEnd) (record { old = c.args.volume.now; new = c.drive-status.new.desk.writer.volume.now; ends = c.deref_mut.result.now; ends_after = c.drive-status.new.ends }) (started commits moments) said c.drive-status.result =
    ended_run (medium birth g.V.Volume g.V.Spot.Spot g.V.End.ReadEnd) c.args.volume.now mid c.drive-status.new.desk.writer.volume.now image synced c.drive-status.ensures.continues.time (g.met.V.Volume.counts_now c.drive-status.new.desk.writer.volume.now)
    c.deref_mut.result.now c.drive-status.new.ends commits moments (g.C.Clock.moments c.drive-status.new.clock) input before (g.S.Source.left c.drive-status.new.source) (g.K.Sink.written c.drive-status.new.sink)
    c.drive-status.new.desk.writer.ledger c.drive-status.new.desk.revisions c.drive-status.result stands (c.drive-status.ensures.continues.same_birth ∙ shown.1) c.drive-status.ensures.ready.sound
    (λ some. subst (λ (n : ℕ). Rose n (g.V.Volume.faults c.drive-status.new.desk.writer.volume.now)) (c.in-Ok.ensures.no_fault (λ failed. cc failed)) (c.drive-status.ensures.continues.cause c.in-Ok.ensures.writes some)) ended in (
      ended.rest,
      ended.out,
      ended.left_is,
      ended.written_is,
      run_around (medium birth g.V.Volume g.V.Spot.Spot g.V.End.ReadEnd) _ _ (started commits moments) said c.drive-status.result refl (search rules) c.deref_mut.ensures.value
          (all_kept c.drive-status.new.ends c.args.ends.now.items (vec_len c.args.ends.now) (c.requires ∙ sym c.drive-status.ensures.ready.each)) has_run,
    )

pub returns-clause-kept : goal.returns-clause-kept
returns-clause-kept g c = λ live image told whole.
    let mid = c.open_one.new.volume in
    let new = c.drive-status.new.desk.writer.volume.now in
    let kept : IsKept g.V.Volume c.args.volume.now new image c.drive-status.result =
    inl (kept_run (medium whole.0 g.V.Volume g.V.Spot.Spot g.V.End.ReadEnd) c.args.volume.now mid new image
    (at_told _ (g.V.Volume.bytes c.args.volume.now) image told c.in-Ok.ensures.synced) c.drive-status.ensures.continues.time (g.met.V.Volume.counts_now new) c.in-Ok.ledger
    (at_told _ (g.V.Volume.bytes c.args.volume.now) image told c.in-Ok.ensures.reads)
    (has_still g.V.Volume g.V.Spot.Spot mid new c.in-Ok.ledger c.drive-status.new.desk.writer.ledger (c.in-Ok.ensures.told (ap is_some told)) c.in-Ok.ensures.sound c.in-Ok.ensures.writes (g.met.V.Volume.only_now mid)
    c.drive-status.ensures.continues)) in
    subst (λ (v : g.row.V.Denot). IsKept g.V.Volume c.args.volume.now v image c.drive-status.result) (search rules) kept

pub returns-clause-not_ours_exactly : goal.returns-clause-not_ours_exactly
returns-clause-not_ours_exactly g c = λ live image first told other. absurd (at_told _ (g.V.Volume.bytes c.args.volume.now) image told c.in-Ok.ensures.exactly (born.NotOurs first) other)

pub returns-clause-damaged_exactly : goal.returns-clause-damaged_exactly
returns-clause-damaged_exactly g c = λ live image damage told damaged. absurd (at_told _ (g.V.Volume.bytes c.args.volume.now) image told c.in-Ok.ensures.exactly (born.Damaged damage) damaged)

pub returns-then-is_none-clause-unread_images : goal.returns-then-is_none-clause-unread_images
returns-then-is_none-clause-unread_images g c =
    let volume = c.args.volume.now in unread (g.V.Volume.bytes volume) _ (same_at _ (g.V.Volume.bytes volume) (λ image. inr (record { no_sync = λ t had. had; up_to = g.met.V.Volume.only_now volume })))

pub returns-in-Err-clause-unread_images : goal.returns-in-Err-clause-unread_images
returns-in-Err-clause-unread_images g c = unread (g.V.Volume.bytes c.args.volume.now) _ c.in-Err.ensures.synced_or_not

pub returns-clause-unread_images : goal.returns-clause-unread_images
returns-clause-unread_images g c = unread_never g.V.Spot.Spot (g.V.Volume.bytes c.args.volume.now) c.in-Ok.ledger _ c.in-Ok.ensures.exactly

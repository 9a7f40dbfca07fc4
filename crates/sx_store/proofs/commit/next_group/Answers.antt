use Rattle.std.proofs.Common.{◌∙◌, ap, sym, subst, ◌+◌, Some, Err, arith, w64}
use Rattle.std.proofs.lemmas.Int.{to_z-of_z}
use Rattle.sx_layout.specs.FrameGroup.{frames_after}
use Rattle.sx_paths.specs.Table.{Table}
use Rattle.sx_root.specs.declared.root.RevisionRoot.{RevisionRoot}
use Rattle.sx_run.specs.Run.{current}
use Rattle.sx_store.specs.Groups.{HasRoom}
use Rattle.sx_store.specs.Shows.{Shows}
use Rattle.sx_store.specs.declared.ledger.Ledger.{Ledger}
use Rattle.sx_store.proofs.Accepting.{last-of}
use Rattle.sx_store.proofs.Editing.{current-reached, same-draft, shows-with}
use Rattle.sx_store.proofs.Grouping.{at-time, has-room, never, same-open, same-untouched, undrafted, undrafted-damage, undrafted-failure, ungrouped, ungrouped-damage, ungrouped-failure}
use Rattle.sx_store.proofs.HoldLaws.{end-below}
use Rattle.sx_store.proofs.Wholes.{numbers}
use Rattle.sx_whole.specs.Stands.{body_size}
use Rattle.sx_store.proofs.commit.next_group.Goals as goal

-- ---- no draft could be made

pub returns-in_err-draft-clause-refuses : goal.returns-in_err-draft-clause-refuses
returns-in_err-draft-clause-refuses g c now book shows moment =
    undrafted g.S.Spot book _ c.from_residual.result c.in_err-draft.field-0.0 c.take_draft.new.self c.from_residual.ensures.1
    (λ damage is. c.in_err-draft.ensures.undamaged now book shows damage (ap Err is))
    (subst (λ ledger. Shows g.S.Spot ledger book) (sym c.in_err-draft.ensures.refused) shows)

pub returns-in_err-draft-clause-shown : goal.returns-in_err-draft-clause-shown
returns-in_err-draft-clause-shown g c now book shows = subst (λ ledger. Shows g.S.Spot ledger book) (sym c.in_err-draft.ensures.refused) shows

pub returns-in_err-draft-clause-same_draft : goal.returns-in_err-draft-clause-same_draft
returns-in_err-draft-clause-same_draft g c = same-untouched g.S.Spot (g.E.ReadEnd.tells c.args.end.now) c.args.ledger.now c.take_draft.new.self c.in_err-draft.ensures.refused

pub returns-in_err-draft-clause-no_failure : goal.returns-in_err-draft-clause-no_failure
returns-in_err-draft-clause-no_failure g c = undrafted-failure c.from_residual.result c.in_err-draft.field-0.0 c.from_residual.ensures.1

-- ---- room for numbers

pub make_group-made-requires-clause-frames : goal.make_group-made-requires-clause-frames
make_group-made-requires-clause-frames g c =
    let all = numbers g.S.Spot c.args.ledger.now c.requires.whole in
    let same = ap (λ (root : RevisionRoot). frames_after root) c.requires.last in
    omega (arith, all.frames, same)

pub make_group-made-requires-clause-revisions : goal.make_group-made-requires-clause-revisions
make_group-made-requires-clause-revisions g c =
    let all = numbers g.S.Spot c.args.ledger.now c.requires.whole in
    let same = ap (λ (root : RevisionRoot). root.revision) c.requires.last in
    omega (arith, all.revision, all.count, same)

-- ---- a group, or none

pub returns-clause-has : goal.returns-clause-has
returns-clause-has g c now book shows =
    let is = c.in_ok-draft.ensures.shown now book shows in
    let last = last-of g.S.Spot c.args.ledger.now book c.requires.whole shows in
    let one = ap (λ (root : RevisionRoot). frames_after root) c.requires.last ∙ last.frames ∙ sym last.revision ∙ ap (λ (root : RevisionRoot). root.revision) (sym c.requires.last) in
    at-time c.make_group-made.result (c.args.last.now.revision + 1) _ c.args.time (current book) (to_z-of_z w64 c.args.time c.ranges.time)
    (c.make_group-made.ensures.shows (current book) (current-reached g.S.Spot c.args.ledger.now book shows) (record { records = is.records; table = is.table }) one)

pub returns-clause-room : goal.returns-clause-room
returns-clause-room g c now book shows moment =
    let is = c.in_ok-draft.ensures.shown now book shows in
    has-room c.args.ledger.now book moment c.make_group-made.result (last-of g.S.Spot c.args.ledger.now book c.requires.whole shows)
    (subst (λ (root : RevisionRoot). HasRoom root (5 + body_size (current book)) c.make_group-made.result) c.requires.last
    (c.make_group-made.ensures.room (current book) (current-reached g.S.Spot c.args.ledger.now book shows) (record { records = is.records; table = is.table })))

pub returns-clause-refuses : goal.returns-clause-refuses
returns-clause-refuses g c now book shows moment =
    let is = c.in_ok-draft.ensures.shown now book shows in
    let made = c.make_group-made.ensures in
    let same = c.take_draft.ensures.same in
    let new : Ledger g.row.S.Denot = record { log = c.take_draft.new.self.log; cells = c.take_draft.new.self.cells; draft = Some c.make_group-made.new.draft; stopped = c.take_draft.new.self.stopped } in
    ungrouped g.S.Spot _ c.in_ok-draft.draft c.args.ledger.now book moment c.make_group-made.result new (last-of g.S.Spot c.args.ledger.now book c.requires.whole shows) made.fault
    (subst (λ (root : RevisionRoot). HasRoom root (5 + body_size (current book)) c.make_group-made.result) c.requires.last
    (made.room (current book) (current-reached g.S.Spot c.args.ledger.now book shows) (record { records = is.records; table = is.table })))
    (shows-with g.S.Spot c.args.ledger.now new book book.edits (record { log = same.log; cells = same.cells; stage = same.stage }) shows shows.accepted
    (same-draft book c.in_ok-draft.draft c.make_group-made.new.draft (made.same_nodes, ap (λ (t : Table). t.paths) made.same_paths, made.same_next) is))

pub returns-clause-shown : goal.returns-clause-shown
returns-clause-shown g c now book shows =
    let is = c.in_ok-draft.ensures.shown now book shows in
    let made = c.make_group-made.ensures in
    let same = c.take_draft.ensures.same in
    let new : Ledger g.row.S.Denot = record { log = c.take_draft.new.self.log; cells = c.take_draft.new.self.cells; draft = Some c.make_group-made.new.draft; stopped = c.take_draft.new.self.stopped } in
    shows-with g.S.Spot c.args.ledger.now new book book.edits (record { log = same.log; cells = same.cells; stage = same.stage }) shows shows.accepted
    (same-draft book c.in_ok-draft.draft c.make_group-made.new.draft (made.same_nodes, ap (λ (t : Table). t.paths) made.same_paths, made.same_next) is)

pub returns-clause-same_draft : goal.returns-clause-same_draft
returns-clause-same_draft g c =
    let made = c.make_group-made.ensures in
    record {
      draft = same-open g.S.Spot (g.E.ReadEnd.tells c.args.end.now) c.args.ledger.now c.args.ledger.now.draft c.in_ok-draft.draft c.make_group-made.new.draft c.in_ok-draft.ensures.made
          (made.same_nodes, ap (λ (t : Table). t.paths) made.same_paths, made.same_next);
      next = made.same_next ∙ c.in_ok-draft.ensures.next;
    }

pub returns-clause-no_failure : goal.returns-clause-no_failure
returns-clause-no_failure g c = ungrouped-failure _ c.in_ok-draft.draft c.make_group-made.result c.make_group-made.ensures.fault

pub returns-clause-not_stopped : goal.returns-clause-not_stopped
returns-clause-not_stopped g c stage is = never _ c.in_ok-draft.draft c.make_group-made.result _ c.make_group-made.ensures.fault is (λ none. none)

pub returns-clause-read_failed : goal.returns-clause-read_failed
returns-clause-read_failed g c is = absurd (never _ c.in_ok-draft.draft c.make_group-made.result _ c.make_group-made.ensures.fault is (λ none. none))

pub overflow_add-place : goal.overflow_add-place
overflow_add-place g c = let below = end-below g.S.Spot c.args.ledger.now c.requires.whole in omega (arith, below)

pub returns-in_err-draft-clause-damaged : goal.returns-in_err-draft-clause-damaged
returns-in_err-draft-clause-damaged g c damage is =
    undrafted-damage g.S.Spot (g.E.ReadEnd.tells c.args.end.now) c.args.ledger.now.draft c.args.ledger.now c.from_residual.result c.in_err-draft.field-0.0 damage c.from_residual.ensures.1
    (λ fault. c.in_err-draft.ensures.damaged damage (ap Err fault)) is

pub returns-clause-damaged : goal.returns-clause-damaged
returns-clause-damaged g c damage is =
    ungrouped-damage g.S.Spot (g.E.ReadEnd.tells c.args.end.now) c.args.ledger.now.draft c.args.ledger.now c.in_ok-draft.draft c.make_group-made.result damage c.make_group-made.ensures.fault is
    c.in_ok-draft.ensures.made c.in_ok-draft.ensures.next

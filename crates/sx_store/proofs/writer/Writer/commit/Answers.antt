use Rattle.std.proofs.Common.{◌∙◌, ap, sym, subst, ℤ, FitsSigned, to_z, of_z, w64, rules}
use Rattle.std.specs.Int.{int_max}
use Rattle.std.proofs.lemmas.Int.{to_z-of_z}
use Rattle.sx_root.specs.declared.root.RevisionRoot.{RevisionRoot}
use Rattle.sx_run.specs.Run.{next_commit}
use Rattle.sx_store.specs.Groups.{IsGroupAfter}
use Rattle.sx_store.proofs.Accepting.{last-of}
use Rattle.sx_store.proofs.Keeping.{sound-same}
use Rattle.sx_store.proofs.Revising.{IsAdded, all-before, all-there, commits-or-not, fewer-before, goes-on, grown, grown-before, has-all, leaves-before, no-fewer, nothing-written, same-ledger, same-root}
use Rattle.sx_store.proofs.Taking.{last-root}
use Rattle.sx_store.proofs.writer.Writer.commit.Goals as goal

pub next_group-requires-clause-last : goal.next_group-requires-clause-last
next_group-requires-clause-last g c = last-root c.args.self.now.ledger c.root-last.result c.count.result c.root-last.ensures.root c.count.ensures.count

pub returns-in_err-group-clause-sound : goal.returns-in_err-group-clause-sound
returns-in_err-group-clause-sound g c =
    let same = c.next_group.ensures.same in
    sound-same g.V.Spot.Spot c.args.self.now.ledger c.next_group.new.ledger same.log same.cells g.V.Volume c.args.self.now.volume.now same.stage c.requires.sound

pub add-requires-clause-sound : goal.add-requires-clause-sound
add-requires-clause-sound g c =
    let same = c.next_group.ensures.same in
    sound-same g.V.Spot.Spot c.args.self.now.ledger c.next_group.new.ledger same.log same.cells g.V.Volume c.args.self.now.volume.now same.stage c.requires.sound

pub add-requires-clause-next : goal.add-requires-clause-next
add-requires-clause-next g c =
    let last = last-root c.args.self.now.ledger c.root-last.result c.count.result c.root-last.ensures.root c.count.ensures.count in
    subst (λ (root : RevisionRoot). IsGroupAfter root c.in_ok-group.group)
    (last ∙ sym (same-root g.V.Spot.Spot c.args.self.now.ledger c.next_group.new.ledger c.next_group.new.ledger c.next_group.ensures.same)) c.in_ok-group.ensures.group

-- ---- there is no group

pub returns-in_err-group-clause-commits : goal.returns-in_err-group-clause-commits
returns-in_err-group-clause-commits g c now book shows going =
    let volume = c.args.self.now.volume.now in
    let fits : FitsSigned w64 c.now.result = search rules in (
      c.now.result,
      fits,
      c.now.ensures,
      nothing-written g.V.Volume g.V.Spot.Spot volume c.args.self.now.ledger c.requires.sound going (g.met.V.Volume.only_now volume) book (next_commit book c.now.result) c.from_residual.result c.in_err-group.field-0.0
          c.next_group.new.ledger shows c.from_residual.ensures.1 (c.in_err-group.ensures.refuses now book shows c.now.result) c.in_err-group.ensures.no_failure,
    )

pub returns-in_err-group-clause-keeps : goal.returns-in_err-group-clause-keeps
returns-in_err-group-clause-keeps g c going = all-there g.V.Volume g.V.Spot.Spot c.args.self.now.volume.now c.args.self.now.ledger c.requires.sound going (g.met.V.Volume.only_now c.args.self.now.volume.now)

-- ---- the group was added, or not

pub returns-clause-commits : goal.returns-clause-commits
returns-clause-commits g c now book shows going =
    let s = g.V.Spot.Spot in
    let start = c.args.self.now.volume.now in
    let end = c.add.new.volume in
    let old = c.args.self.now.ledger in
    let mid = c.next_group.new.ledger in
    let new = c.add.new.ledger in
    let made = c.in_ok-group.group in
    let moment = c.now.result in
    let same = c.next_group.ensures.same in
    let sound = sound-same s old mid same.log same.cells g.V.Volume start same.stage c.requires.sound in
    let root = last-root old c.root-last.result c.count.result c.root-last.ensures.root c.count.ensures.count ∙ sym (same-root s old mid new same) in
    let next = subst (λ (root : RevisionRoot). IsGroupAfter root made) root c.in_ok-group.ensures.group in
    let showing = c.in_ok-group.ensures.shown now book shows in
    let last = last-of s mid book sound.whole showing in
    let is : IsAdded g.V.Volume s start end mid new made c.add.result = record {
      adds = c.add.ensures.adds;
      leaves = c.add.ensures.leaves;
      done = c.add.ensures.done;
      goes_on = c.add.ensures.goes_on;
      fails = c.add.ensures.fails;
      refuses = c.add.ensures.refuses;
      same_ledger = c.add.ensures.same_ledger;
    } in
    let fits : FitsSigned w64 moment = search rules in
    let before = c.root-last.result.time in
    let before_fits : FitsSigned w64 before = search rules in
    let time_fits : FitsSigned w64 c.max-time.result = search rules in
    let time = to_z-of_z w64 c.max-time.result time_fits ∙ c.max-time.ensures.value ∙ ap (λ (z : ℤ). int_max z (to_z w64 (of_z w64 before))) (to_z-of_z w64 moment fits) ∙ ap (int_max moment) (to_z-of_z w64 before before_fits) in (
      moment,
      fits,
      c.now.ensures,
      leaves-before s old mid new same (g.V.Volume.bytes start) book (next_commit book moment) c.add.result (g.V.Volume.moment start) (g.V.Volume.was_image end) (g.V.Volume.synced end)
          (commits-or-not g.V.Volume s start end mid new made next book moment c.root-last.result _ sound (same.stage ∙ going) showing last fits root time
          (c.in_ok-group.ensures.room now book shows moment) (c.in_ok-group.ensures.has now book shows) c.add.result is),
    )

pub returns-clause-goes_on : goal.returns-clause-goes_on
returns-clause-goes_on g c = goes-on c.add.result c.add.new.ledger c.add.ensures.goes_on

pub returns-clause-fails : goal.returns-clause-fails
returns-clause-fails g c stage is = (c.add.ensures.fails stage is).0

pub returns-clause-same_ledger : goal.returns-clause-same_ledger
returns-clause-same_ledger g c =
    same-ledger g.V.Spot.Spot c.args.self.now.ledger c.next_group.new.ledger c.add.new.ledger c.next_group.ensures.same (g.V.End.ReadEnd.tells c.args.end.now) c.add.result c.next_group.ensures.same_draft c.add.ensures.same_ledger

pub returns-clause-counts : goal.returns-clause-counts
returns-clause-counts g c =
    let mid = c.next_group.new.ledger in
    fewer-before g.V.Spot.Spot c.args.self.now.ledger mid c.add.new.ledger c.next_group.ensures.same
    (no-fewer mid c.add.new.ledger c.add.result c.add.ensures.counts c.add.ensures.refuses c.add.ensures.fails c.add.ensures.same_ledger)

pub returns-clause-grows : goal.returns-clause-grows
returns-clause-grows g c =
    let s = g.V.Spot.Spot in
    let old = c.args.self.now.ledger in
    let mid = c.next_group.new.ledger in
    let new = c.add.new.ledger in
    let made = c.in_ok-group.group in
    let same = c.next_group.ensures.same in
    let root = last-root old c.root-last.result c.count.result c.root-last.ensures.root c.count.ensures.count ∙ sym (same-root s old mid new same) in
    let next = subst (λ (root : RevisionRoot). IsGroupAfter root made) root c.in_ok-group.ensures.group in
    grown-before s old mid new same (g.V.Volume.bytes c.args.self.now.volume.now)
    (grown g.V.Volume s c.args.self.now.volume.now c.add.new.volume mid new made next c.add.result c.add.ensures.adds c.add.ensures.same_birth c.add.ensures.refuses c.add.ensures.fails c.add.ensures.same_ledger)

pub returns-clause-keeps : goal.returns-clause-keeps
returns-clause-keeps g c going =
    let s = g.V.Spot.Spot in
    let old = c.args.self.now.ledger in
    let mid = c.next_group.new.ledger in
    let new = c.add.new.ledger in
    let made = c.in_ok-group.group in
    let same = c.next_group.ensures.same in
    let root = last-root old c.root-last.result c.count.result c.root-last.ensures.root c.count.ensures.count ∙ sym (same-root s old mid new same) in
    let next = subst (λ (root : RevisionRoot). IsGroupAfter root made) root c.in_ok-group.ensures.group in
    all-before s old mid new same (g.V.Volume.bytes c.args.self.now.volume.now) (g.V.Volume.was_image c.add.new.volume (g.V.Volume.moment c.args.self.now.volume.now))
    (has-all g.V.Volume s c.args.self.now.volume.now c.add.new.volume mid new made next c.add.result c.add.ensures.leaves)

pub returns-in_err-group-clause-ticks : goal.returns-in_err-group-clause-ticks
returns-in_err-group-clause-ticks g c going = let fits : FitsSigned w64 c.now.result = search rules in (c.now.result, fits, c.now.ensures)

pub returns-clause-ticks : goal.returns-clause-ticks
returns-clause-ticks g c going = let fits : FitsSigned w64 c.now.result = search rules in (c.now.result, fits, c.now.ensures)

use Rattle.std.proofs.Common.{◌∙◌, inl, inr, subst, arith}
use Rattle.std.specs.Prelude.{Some, None, reverse}
use Rattle.sx_edit.specs.Room.{CountsLevels}
use Rattle.sx_edit.specs.Seen.{IsChain, IsNoSight, IsSight}
use Rattle.sx_edit.proofs.Results.{err_again, pushed-length}
use Rattle.sx_edit.proofs.Going.{err-explains, goes_then, reached-parent}
use Rattle.sx_edit.proofs.Upward.{chain-last}
use Rattle.sx_edit.proofs.climb.survey.Goals as goal

pub climb-requires-clause-reached : goal.climb-requires-clause-reached
climb-requires-clause-reached g c = reached-parent _ _ _ _ (c.in_ok-right.ensures.same ∙ c.in_ok-left.ensures.same) c.requires.reached.parent

pub returns-in_err-left-clause-cannot : goal.returns-in_err-left-clause-cannot
returns-in_err-left-clause-cannot g c = err_again c.from_residual.result _ _ c.from_residual.ensures.1 (λ damaged. inl (c.in_err-left.ensures.cannot damaged))

pub returns-in_err-left-clause-fault : goal.returns-in_err-left-clause-fault
returns-in_err-left-clause-fault g c = err_again c.from_residual.result _ _ c.from_residual.ensures.1 (c.in_err-left.ensures.fault c.args.next)

pub returns-in_err-right-clause-cannot : goal.returns-in_err-right-clause-cannot
returns-in_err-right-clause-cannot g c =
    err_again c.from_residual-in_err-right.result _ _ c.from_residual-in_err-right.ensures.1
    (λ damaged. inr (inl (subst (λ o. IsNoSight o c.args.gap.right) c.in_ok-left.ensures.same (c.in_err-right.ensures.cannot damaged))))

pub returns-in_err-right-clause-fault : goal.returns-in_err-right-clause-fault
returns-in_err-right-clause-fault g c =
    err-explains g.N.Records.told g.N.Records.faults g.N.Records.damages g.N.RecordsMut.has_mark g.N.RecordsMut.marks c.args.next c.args.nodes.now _ _ c.from_residual-in_err-right.result _ c.from_residual-in_err-right.ensures.1
    c.in_ok-left.ensures.goes_on c.in_ok-left.ensures.same (c.in_err-right.ensures.fault c.args.next)

pub returns-in_err-ascent-clause-cannot : goal.returns-in_err-ascent-clause-cannot
returns-in_err-ascent-clause-cannot g c =
    err_again c.from_residual-in_err-ascent.result _ _ c.from_residual-in_err-ascent.ensures.1
    (λ damaged. inr (inr (subst (λ o. CountsLevels (Some c.args.gap.parent) c.args.next o None) (c.in_ok-right.ensures.same ∙ c.in_ok-left.ensures.same) (c.in_err-ascent.ensures.cannot damaged))))

pub returns-in_err-ascent-clause-fault : goal.returns-in_err-ascent-clause-fault
returns-in_err-ascent-clause-fault g c =
    err-explains g.N.Records.told g.N.Records.faults g.N.Records.damages g.N.RecordsMut.has_mark g.N.RecordsMut.marks c.args.next c.args.nodes.now _ _ c.from_residual-in_err-ascent.result _ c.from_residual-in_err-ascent.ensures.1
    (goes_then g.N.Records.told g.N.Records.faults g.N.Records.damages g.N.RecordsMut.has_mark g.N.RecordsMut.marks _ _ _ c.in_ok-left.ensures.goes_on c.in_ok-right.ensures.goes_on) (c.in_ok-right.ensures.same ∙ c.in_ok-left.ensures.same) c.in_err-ascent.ensures.fault

pub returns-clause-rim : goal.returns-clause-rim
returns-clause-rim g c =
    let same = c.in_ok-right.ensures.same ∙ c.in_ok-left.ensures.same in
    record {
      left = c.in_ok-left.ensures.sight;
      right = subst (λ o. IsSight o c.args.gap.right c.in_ok-right.right) c.in_ok-left.ensures.same c.in_ok-right.ensures.sight;
      above = chain-last _ _ _ _ c.in-Some.parent c.in-Some.ensures.items (subst (λ o. IsChain o (Some c.args.gap.parent) (reverse c.in_ok-ascent.ascent.seen.items)) same c.in_ok-ascent.ensures.chain);
    }

pub returns-clause-counted : goal.returns-clause-counted
returns-clause-counted g c = subst (λ o. CountsLevels (Some c.args.gap.parent) c.args.next o (Some c.in_ok-ascent.ascent.levels)) (c.in_ok-right.ensures.same ∙ c.in_ok-left.ensures.same) c.in_ok-ascent.ensures.counted

pub returns-clause-gets : goal.returns-clause-gets
returns-clause-gets g c =
    omega (arith, c.in_ok-left.ensures.gets, c.in_ok-right.ensures.gets, c.in_ok-ascent.ensures.gets, pushed-length _ _ c.in-Some.parent c.in-Some.ensures.items)

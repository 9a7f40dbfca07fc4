use Rattle.std.proofs.lemmas.List.{take_more}
use Rattle.std.proofs.Common.{◌≡◌, ◌≤◌, length, arith, take, subst}
use Rattle.sx_tree.proofs.NumberFronts.{Reaches, Reaches-start, Reaches-push, Reaches-number, IsLongestFront-stuck, IsLongestFront-all}
use Rattle.sx_tree.proofs.number.number_front.Goals as goal

pub loop-len-init : goal.loop-len-init
loop-len-init c = Reaches-start

pub returns-in-None-clause-longest : goal.returns-in-None-clause-longest
returns-in-None-clause-longest c = IsLongestFront-stuck _ _ _ c.loop-len-test.true c.loop-len.invariant c.in-None.ensures

pub returns-in-None-clause-number : goal.returns-in-None-clause-number
returns-in-None-clause-number c =
    let n = Reaches-number _ _ c.loop-len.invariant in
    (λ h. n.0 (c.is_end.ensures.0 h), λ h. c.is_end.ensures.1 (n.1 h))

pub loop-len-preserved : goal.loop-len-preserved
loop-len-preserved c =
    rw (take_more c.args.bytes.now c.loop-len.len 0 c.loop-len-test.true) (Reaches-push _ _ _ _ c.loop-len.invariant c.in-Some.ensures)

pub returns-clause-longest : goal.returns-clause-longest
returns-clause-longest c =
    let le : length c.args.bytes.now ≤ c.loop-len.len = c.loop-len-test.false in
    let at_end : c.loop-len.len ≡ length c.args.bytes.now = omega arith in
    IsLongestFront-all _ _ (subst (λ n. Reaches (take n c.args.bytes.now) c.loop-len.state) at_end c.loop-len.invariant)

use Rattle.std.proofs.Common.{◌∙◌, subst, sym, ap, arith}
use Rattle.std.specs.Prelude.{drop, length, reverse}
use Rattle.std.proofs.lemmas.List.{reverse-reverse}
use Rattle.sx_edit.specs.Seen.{IsChain}
use Rattle.sx_edit.proofs.Upward.{written-back}
use Rattle.sx_edit.proofs.climb.climb.Goals as goal

pub returns-clause-chain : goal.returns-clause-chain
returns-clause-chain g c =
    subst (IsChain (g.N.Records.told c.args.nodes.now) c.args.node)
    (sym (ap reverse (written-back _ _ _ (c.reverse.ensures.len ∙ c.as_mut_slice.ensures.len) ∙ c.reverse.ensures.after) ∙ reverse-reverse c.as_mut_slice.result.now ∙ c.as_mut_slice.ensures.value)) c.in_ok-ascent.ensures.chain

pub returns-clause-gets : goal.returns-clause-gets
returns-clause-gets g c =
    omega (arith, c.in_ok-ascent.ensures.gets, c.reverse.ensures.len, ap length c.as_mut_slice.ensures.value, ap length (written-back c.in_ok-ascent.ascent.seen.len c.reverse.new.self (drop (length c.reverse.new.self) c.in_ok-ascent.ascent.seen.items) (c.reverse.ensures.len ∙ c.as_mut_slice.ensures.len)))

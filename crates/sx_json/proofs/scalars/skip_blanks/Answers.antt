use Rattle.std.proofs.Common.{◌≡◌, true, rules}
use Rattle.sx_json.proofs.FaultScalars.{skips_go}
use Rattle.sx_json.proofs.Skipping.{skips_more}
use Rattle.sx_json.proofs.scalars.skip_blanks.Goals as goal

pub loop-byte-preserved : goal.loop-byte-preserved
loop-byte-preserved c =
    let yes : c.is_blank.result ≡ true = search rules in
    skips_more _ _ _ _ c.loop-byte.invariant c.in-Some.ensures.cases.0 (c.is_blank.ensures.0 yes)

pub returns-then-not-is_blank-clause-goes_on : goal.returns-then-not-is_blank-clause-goes_on
returns-then-not-is_blank-clause-goes_on c = skips_go _ _ c.loop-byte.invariant

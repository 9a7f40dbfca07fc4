-- Calls that are counted, and of which the listed ones fail.
use Rattle.std.specs.Prelude.{ℕ, ◌+◌, List, Contains}
use Rattle.sx_volume.specs.Counts.{plus}

pub record Tally : Type 0 where
  -- how many calls came, which stands still at 2^64 - 1
  pub calls : ℕ
  -- the numbers of the calls that fail, counted from 1
  pub failing : List ℕ
  -- how many failed, which stands still at 2^64 - 1
  pub faults : ℕ

-- the next call fails
abbrev pub FailsNext : Tally → Type 0
FailsNext tally = Contains tally.failing (tally.calls + 1)

-- after a call that did not fail
abbrev pub one_more : Tally → Tally
one_more tally = record tally { calls = plus tally.calls 1 }

-- after a call that failed
abbrev pub one_more_failed : Tally → Tally
one_more_failed tally = record tally { calls = plus tally.calls 1; faults = plus tally.faults 1 }

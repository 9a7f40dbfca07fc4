-- What a source and a sink in memory are for a caller.
use Rattle.std.specs.Prelude.{ℕ, List, ◌+◌, ◌-◌, ◌^◌, min, drop, ◌++◌}

-- a source in memory
pub record Supply : Type 0 where
  -- the bytes left
  pub left : List ℕ
  -- the most bytes that one call gives
  pub most : ℕ
  -- the numbers of the calls that fail, counted from 1
  pub failing : List ℕ
  -- how many calls came, which stands still at 2^64 - 1
  pub calls : ℕ
  pub faults : ℕ

-- a sink in memory
pub record Store : Type 0 where
  -- the bytes that it keeps
  pub written : List ℕ
  -- the most bytes that it keeps
  pub room : ℕ
  -- the numbers of the calls that fail, counted from 1
  pub failing : List ℕ
  -- how many calls came, which stands still at 2^64 - 1
  pub calls : ℕ
  pub faults : ℕ

-- a count after one more, which stands still at 2^64 - 1
abbrev pub one_more : ℕ → ℕ
one_more count = min (count + 1) (2 ^ 64 - 1)

-- the source after a call that gave n bytes
abbrev pub after_gift : Supply → ℕ → Supply
after_gift source n = record source { left = drop n source.left; calls = one_more source.calls }

-- the source after a call that failed
abbrev pub after_failed_gift : Supply → Supply
after_failed_gift source = record source { calls = one_more source.calls; faults = one_more source.faults }

-- the sink after a call that kept these bytes
abbrev pub after_kept : Store → List ℕ → Store
after_kept sink bytes = record sink { written = sink.written ++ bytes; calls = one_more sink.calls }

-- the sink after a call that failed
abbrev pub after_refused : Store → Store
after_refused sink = record sink { calls = one_more sink.calls; faults = one_more sink.faults }

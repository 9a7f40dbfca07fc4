use Rattle.std.proofs.Common.{◌+◌}
use Rattle.sx_log.specs.Kept.{listed}
use Rattle.sx_log_rows.proofs.Following.{first_next, entered_first}
use Rattle.sx_log_rows.proofs.commits.commit_first.Goals as goal

pub commit-requires : goal.commit-requires
commit-requires g c = record { next = (_, first_next _ _ c.requires.none c.in_ok-piece.ensures); gate = c.requires.gate }

pub returns-clause-entered : goal.returns-clause-entered
returns-clause-entered g c =
    entered_first c.commit.result (listed c.args.log.now.groups) (listed c.commit.new.log.groups) _ (c.args.log.now.end + 1) c.requires.none c.in_ok-piece.ensures c.commit.ensures.entered

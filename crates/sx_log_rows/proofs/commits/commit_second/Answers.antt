use Rattle.sx_log_rows.proofs.Following.{second_next}
use Rattle.sx_log_rows.proofs.commits.commit_second.Goals as goal

pub commit-requires : goal.commit-requires
commit-requires g c = record { next = (_, second_next _ _ c.requires.first.0 c.requires.first.1 c.in_ok-piece.ensures); gate = c.requires.gate }

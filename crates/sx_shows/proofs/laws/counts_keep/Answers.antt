use Rattle.sx_shows.proofs.Ruling.{counts_keep}
use Rattle.sx_shows.proofs.laws.counts_keep.Goals as goal

pub returns : goal.returns
returns c = counts_keep

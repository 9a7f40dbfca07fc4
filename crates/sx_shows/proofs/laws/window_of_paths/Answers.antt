use Rattle.sx_shows.proofs.LeafWindows.{window_of_paths}
use Rattle.sx_shows.proofs.laws.window_of_paths.Goals as goal

pub returns : goal.returns
returns c = window_of_paths

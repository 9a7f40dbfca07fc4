use Rattle.sx_shows.proofs.LeafWindows.{window_of_nodes}
use Rattle.sx_shows.proofs.laws.window_of_nodes.Goals as goal

pub returns : goal.returns
returns c = window_of_nodes

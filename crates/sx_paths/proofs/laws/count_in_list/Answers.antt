use Rattle.sx_paths.proofs.Listing.{rows-counted}
use Rattle.sx_paths.proofs.laws.count_in_list.Goals as goal

pub returns : goal.returns
returns c = rows-counted

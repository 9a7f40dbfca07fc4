use Rattle.sx_paths.proofs.Listing.{rows-entered}
use Rattle.sx_paths.proofs.laws.enter_into_list.Goals as goal

pub returns : goal.returns
returns c = rows-entered

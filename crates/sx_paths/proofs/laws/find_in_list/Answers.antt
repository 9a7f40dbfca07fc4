use Rattle.sx_paths.proofs.Listing.{number-found}
use Rattle.sx_paths.proofs.laws.find_in_list.Goals as goal

pub returns : goal.returns
returns c = number-found

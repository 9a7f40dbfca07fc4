use Rattle.sx_paths.proofs.Following.{legal-listed}
use Rattle.sx_paths.proofs.laws.list_parents_first.Goals as goal

pub returns : goal.returns
returns c = legal-listed

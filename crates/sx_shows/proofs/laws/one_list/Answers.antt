use Rattle.sx_shows.proofs.ShownLeads.{one_list}
use Rattle.sx_shows.proofs.laws.one_list.Goals as goal

pub returns : goal.returns
returns c = one_list

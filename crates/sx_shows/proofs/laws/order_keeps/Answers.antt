use Rattle.sx_shows.proofs.Ruling.{order_keeps}
use Rattle.sx_shows.proofs.laws.order_keeps.Goals as goal

pub returns : goal.returns
returns c = order_keeps
